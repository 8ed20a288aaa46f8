use Rattle.std.proofs.Common.{arith, refl, sym, subst, ◌∙◌, codes}
use Rattle.std.proofs.lemmas.Result.{err_from_is_err_and}
use Rattle.uc_clause.specs.declared.terminal.Terminal.TheVariants.{Open, Close, OpenSquare, CloseSquare, Comma, Dot, End}
use Rattle.uc_clause.specs.Rules.{read, goes_on, stops_first}
use Rattle.uc_clause.proofs.Sequences.{exits_err, if_ok, if_err}
use Rattle.uc_clause.proofs.Tables.{grows_not, grows_twice}
use Rattle.uc_clause.proofs.Ends.{some_other}
use Rattle.uc_tstp.specs.Lines as lines
use Rattle.uc_tstp.proofs.Members.{Ahead, ahead_on, ahead_more, ahead_stops, ahead_behind, list_none, list_some, list_stops, list_unopened, next_within, picked_ahead}
use Rattle.uc_certificate.specs.JoinLines as rules
use Rattle.uc_certificate.specs.JoinMeaning.{MeansMove, MeansCase, MeansJoin, none_mean}
use Rattle.uc_certificate.specs.Reads.{AreVariables}
use Rattle.uc_certificate.proofs.JoinLoops.{Kept, kept_none, kept_stops, kept_behind, kept_more, kept_all}
use Rattle.uc_certificate.proofs.JoinEnds.{move_ends, class_ends, case_ends, variable_ends}
use Rattle.uc_certificate.proofs.JoinInterned.{interned_join}
use Rattle.uc_certificate.proofs.joins.join.Goals as goal

pub returns-in_err-at-clause-stops : goal.returns-in_err-at-clause-stops
returns-in_err-at-clause-stops c = exits_err (lines.word c.args.bytes.now c.args.tokens.now (codes "join") c.args.from) (rules.join c.args.bytes.now c.args.tokens.now c.args.from) _ _ c.from_residual.ensures.1 (λ why k h. (stops_first h)) c.in_err-at.ensures.stops

pub returns-in_err-at-2-clause-stops : goal.returns-in_err-at-2-clause-stops
returns-in_err-at-2-clause-stops c = exits_err (lines.token c.args.bytes.now c.args.tokens.now Open c.in_ok-at.at) (rules.join c.args.bytes.now c.args.tokens.now c.args.from) _ _ c.from_residual-in_err-at-2.ensures.1 (λ why k h. (goes_on {v = tt} c.in_ok-at.ensures.ok (stops_first h))) c.in_err-at-2.ensures.stops

pub returns-in_err-what-clause-stops : goal.returns-in_err-what-clause-stops
returns-in_err-what-clause-stops c = exits_err (rules.what c.args.bytes.now c.args.tokens.now c.in_ok-at-2.at) (rules.join c.args.bytes.now c.args.tokens.now c.args.from) _ _ c.from_residual-in_err-what.ensures.1 (λ why k h. (goes_on {v = tt} c.in_ok-at.ensures.ok (goes_on {v = tt} c.in_ok-at-2.ensures.ok (stops_first h)))) c.in_err-what.ensures.stops

pub returns-in_err-at-3-clause-stops : goal.returns-in_err-at-3-clause-stops
returns-in_err-at-3-clause-stops c = exits_err (lines.token c.args.bytes.now c.args.tokens.now Comma c.in_ok-what.at) (rules.join c.args.bytes.now c.args.tokens.now c.args.from) _ _ c.from_residual-in_err-at-3.ensures.1 (λ why k h. (goes_on {v = tt} c.in_ok-at.ensures.ok (goes_on {v = tt} c.in_ok-at-2.ensures.ok (goes_on c.in_ok-what.ensures.reads (stops_first h))))) c.in_err-at-3.ensures.stops

pub returns-in_err-left-clause-stops : goal.returns-in_err-left-clause-stops
returns-in_err-left-clause-stops c = exits_err (rules.moves c.args.bytes.now c.args.tokens.now c.in_ok-at-3.at) (rules.join c.args.bytes.now c.args.tokens.now c.args.from) _ _ c.from_residual-in_err-left.ensures.1 (λ why k h. (goes_on {v = tt} c.in_ok-at.ensures.ok (goes_on {v = tt} c.in_ok-at-2.ensures.ok (goes_on c.in_ok-what.ensures.reads (goes_on {v = tt} c.in_ok-at-3.ensures.ok (stops_first h)))))) c.in_err-left.ensures.stops

pub returns-in_err-at-4-clause-stops : goal.returns-in_err-at-4-clause-stops
returns-in_err-at-4-clause-stops c = exits_err (lines.token c.args.bytes.now c.args.tokens.now Comma c.in_ok-left.at) (rules.join c.args.bytes.now c.args.tokens.now c.args.from) _ _ c.from_residual-in_err-at-4.ensures.1 (λ why k h. (goes_on {v = tt} c.in_ok-at.ensures.ok (goes_on {v = tt} c.in_ok-at-2.ensures.ok (goes_on c.in_ok-what.ensures.reads (goes_on {v = tt} c.in_ok-at-3.ensures.ok (goes_on c.in_ok-left.ensures.reads.reads (stops_first h))))))) c.in_err-at-4.ensures.stops

pub returns-in_err-right-clause-stops : goal.returns-in_err-right-clause-stops
returns-in_err-right-clause-stops c = exits_err (rules.moves c.args.bytes.now c.args.tokens.now c.in_ok-at-4.at) (rules.join c.args.bytes.now c.args.tokens.now c.args.from) _ _ c.from_residual-in_err-right.ensures.1 (λ why k h. (goes_on {v = tt} c.in_ok-at.ensures.ok (goes_on {v = tt} c.in_ok-at-2.ensures.ok (goes_on c.in_ok-what.ensures.reads (goes_on {v = tt} c.in_ok-at-3.ensures.ok (goes_on c.in_ok-left.ensures.reads.reads (goes_on {v = tt} c.in_ok-at-4.ensures.ok (stops_first h)))))))) c.in_err-right.ensures.stops

pub returns-in_err-at-5-clause-stops : goal.returns-in_err-at-5-clause-stops
returns-in_err-at-5-clause-stops c = exits_err (lines.token c.args.bytes.now c.args.tokens.now Comma c.in_ok-right.at) (rules.join c.args.bytes.now c.args.tokens.now c.args.from) _ _ c.from_residual-in_err-at-5.ensures.1 (λ why k h. (goes_on {v = tt} c.in_ok-at.ensures.ok (goes_on {v = tt} c.in_ok-at-2.ensures.ok (goes_on c.in_ok-what.ensures.reads (goes_on {v = tt} c.in_ok-at-3.ensures.ok (goes_on c.in_ok-left.ensures.reads.reads (goes_on {v = tt} c.in_ok-at-4.ensures.ok (goes_on c.in_ok-right.ensures.reads.reads (stops_first h))))))))) c.in_err-at-5.ensures.stops

pub returns-in_err-end-clause-stops : goal.returns-in_err-end-clause-stops
returns-in_err-end-clause-stops c = exits_err (rules.ending c.args.bytes.now c.args.tokens.now c.in_ok-at-5.at) (rules.join c.args.bytes.now c.args.tokens.now c.args.from) _ _ c.from_residual-in_err-end.ensures.1 (λ why k h. (goes_on {v = tt} c.in_ok-at.ensures.ok (goes_on {v = tt} c.in_ok-at-2.ensures.ok (goes_on c.in_ok-what.ensures.reads (goes_on {v = tt} c.in_ok-at-3.ensures.ok (goes_on c.in_ok-left.ensures.reads.reads (goes_on {v = tt} c.in_ok-at-4.ensures.ok (goes_on c.in_ok-right.ensures.reads.reads (goes_on {v = tt} c.in_ok-at-5.ensures.ok (stops_first h)))))))))) c.in_err-end.ensures.stops

pub returns-in_err-at-6-clause-stops : goal.returns-in_err-at-6-clause-stops
returns-in_err-at-6-clause-stops c = exits_err (lines.token c.args.bytes.now c.args.tokens.now Close c.in_ok-end.at) (rules.join c.args.bytes.now c.args.tokens.now c.args.from) _ _ c.from_residual-in_err-at-6.ensures.1 (λ why k h. (goes_on {v = tt} c.in_ok-at.ensures.ok (goes_on {v = tt} c.in_ok-at-2.ensures.ok (goes_on c.in_ok-what.ensures.reads (goes_on {v = tt} c.in_ok-at-3.ensures.ok (goes_on c.in_ok-left.ensures.reads.reads (goes_on {v = tt} c.in_ok-at-4.ensures.ok (goes_on c.in_ok-right.ensures.reads.reads (goes_on {v = tt} c.in_ok-at-5.ensures.ok (goes_on c.in_ok-end.ensures.reads.reads (stops_first h))))))))))) c.in_err-at-6.ensures.stops

pub returns-in_err-behind-clause-stops : goal.returns-in_err-behind-clause-stops
returns-in_err-behind-clause-stops c = exits_err (lines.token c.args.bytes.now c.args.tokens.now Dot c.in_ok-at-6.at) (rules.join c.args.bytes.now c.args.tokens.now c.args.from) _ _ c.from_residual-in_err-behind.ensures.1 (λ why k h. (goes_on {v = tt} c.in_ok-at.ensures.ok (goes_on {v = tt} c.in_ok-at-2.ensures.ok (goes_on c.in_ok-what.ensures.reads (goes_on {v = tt} c.in_ok-at-3.ensures.ok (goes_on c.in_ok-left.ensures.reads.reads (goes_on {v = tt} c.in_ok-at-4.ensures.ok (goes_on c.in_ok-right.ensures.reads.reads (goes_on {v = tt} c.in_ok-at-5.ensures.ok (goes_on c.in_ok-end.ensures.reads.reads (goes_on {v = tt} c.in_ok-at-6.ensures.ok (stops_first h)))))))))))) c.in_err-behind.ensures.stops

pub moves-requires-2-clause-seen : goal.moves-requires-2-clause-seen
moves-requires-2-clause-seen c = subst (AreVariables c.args.bytes.now c.args.tokens.now) (sym c.in_ok-left.ensures.same) c.requires.seen

pub ending-requires-clause-seen : goal.ending-requires-clause-seen
ending-requires-clause-seen c = subst (AreVariables c.args.bytes.now c.args.tokens.now) (sym (c.in_ok-right.ensures.same ∙ c.in_ok-left.ensures.same)) c.requires.seen

pub returns-clause-reads : goal.returns-clause-reads
returns-clause-reads c = record {
  parse = record { what = c.in_ok-what.what; left = c.in_ok-left.ensures.reads.parse; right = c.in_ok-right.ensures.reads.parse; ending = c.in_ok-end.ensures.reads.parse };
  reads = (goes_on {v = tt} c.in_ok-at.ensures.ok (goes_on {v = tt} c.in_ok-at-2.ensures.ok (goes_on c.in_ok-what.ensures.reads (goes_on {v = tt} c.in_ok-at-3.ensures.ok (goes_on c.in_ok-left.ensures.reads.reads (goes_on {v = tt} c.in_ok-at-4.ensures.ok (goes_on c.in_ok-right.ensures.reads.reads (goes_on {v = tt} c.in_ok-at-5.ensures.ok (goes_on c.in_ok-end.ensures.reads.reads (goes_on {v = tt} c.in_ok-at-6.ensures.ok (goes_on {v = tt} c.in_ok-behind.ensures.ok refl)))))))))));
  means = λ later g. record {
    what = refl;
    left = c.in_ok-left.ensures.reads.means later (grows_twice c.moves.new.symbols c.moves-2.new.symbols later c.in_ok-right.ensures.grows (grows_twice c.moves-2.new.symbols c.ending.new.symbols later c.in_ok-end.ensures.grows g));
    right = c.in_ok-right.ensures.reads.means later (grows_twice c.moves-2.new.symbols c.ending.new.symbols later c.in_ok-end.ensures.grows g);
    end = c.in_ok-end.ensures.reads.means later g;
  };
  interns = interned_join c.args.bytes.now c.args.tokens.now c.args.symbols.now c.moves.new.symbols c.moves-2.new.symbols c.ending.new.symbols c.in_ok-left.ensures.reads.parse c.in_ok-right.ensures.reads.parse c.in_ok-end.ensures.reads.parse c.in_ok-what.what c.in_ok-left.ensures.reads.interns c.in_ok-right.ensures.reads.interns c.in_ok-end.ensures.reads.interns;
}

pub returns-clause-same : goal.returns-clause-same
returns-clause-same c = c.in_ok-end.ensures.same ∙ c.in_ok-right.ensures.same ∙ c.in_ok-left.ensures.same
