use Rattle.std.proofs.Common.{arith, refl, sym, subst, ◌∙◌, codes}
use Rattle.std.proofs.lemmas.Result.{err_from_is_err_and}
use Rattle.uc_clause.specs.declared.terminal.Terminal.TheVariants.{Open, Close, OpenSquare, CloseSquare, Comma, Dot, End}
use Rattle.uc_clause.specs.Rules.{read, goes_on, stops_first}
use Rattle.uc_clause.proofs.Sequences.{exits_err, if_ok, if_err}
use Rattle.uc_clause.proofs.Tables.{grows_not, grows_twice}
use Rattle.uc_clause.proofs.Ends.{some_other}
use Rattle.uc_tstp.specs.Lines as lines
use Rattle.uc_tstp.proofs.Members.{Ahead, ahead_on, ahead_more, ahead_stops, ahead_behind, list_none, list_some, list_stops, list_unopened, next_within, picked_ahead}
use Rattle.uc_certificate.specs.JoinLines as rules
use Rattle.uc_certificate.specs.JoinMeaning.{MeansMove, MeansCase, MeansJoin, none_mean}
use Rattle.uc_certificate.specs.Reads.{AreVariables}
use Rattle.uc_certificate.proofs.JoinLoops.{Kept, kept_none, kept_stops, kept_behind, kept_more, kept_all}
use Rattle.uc_certificate.proofs.JoinEnds.{move_ends, class_ends, case_ends, variable_ends}
use Rattle.uc_certificate.proofs.replacements.move_at.Goals as goal

pub returns-in_err-head-clause-stops : goal.returns-in_err-head-clause-stops
returns-in_err-head-clause-stops c = exits_err (rules.move_head c.args.bytes.now c.args.tokens.now c.args.from) (rules.move c.args.bytes.now c.args.tokens.now c.args.from) _ _ c.from_residual.ensures.1 (λ why k h. (stops_first h)) c.in_err-head.ensures.stops

pub returns-in_err-to-clause-stops : goal.returns-in_err-to-clause-stops
returns-in_err-to-clause-stops c = exits_err (rules.term c.args.bytes.now c.args.tokens.now c.in_ok-head.at) (rules.move c.args.bytes.now c.args.tokens.now c.args.from) _ _ c.from_residual-in_err-to.ensures.1 (λ why k h. (goes_on c.in_ok-head.ensures.reads (stops_first h))) c.in_err-to.ensures.stops

pub returns-in_err-end-clause-stops : goal.returns-in_err-end-clause-stops
returns-in_err-end-clause-stops c = exits_err (lines.token c.args.bytes.now c.args.tokens.now Close c.in_ok-to.at) (rules.move c.args.bytes.now c.args.tokens.now c.args.from) _ _ c.from_residual-in_err-end.ensures.1 (λ why k h. (goes_on c.in_ok-head.ensures.reads (goes_on c.in_ok-to.ensures.reads.reads (stops_first h)))) c.in_err-end.ensures.stops

pub returns-clause-reads : goal.returns-clause-reads
returns-clause-reads c = record {
  parse = record { fact = c.in_ok-head.head.fact; left_to_right = c.in_ok-head.head.left_to_right; path = c.in_ok-head.head.path; to = c.in_ok-to.ensures.reads.parse };
  reads = (goes_on c.in_ok-head.ensures.reads (goes_on c.in_ok-to.ensures.reads.reads (goes_on {v = tt} c.in_ok-end.ensures.ok refl)));
  means = λ later g. record { fact = refl; way = refl; path = refl; to = c.in_ok-to.ensures.reads.means later g };
  interns = c.in_ok-to.ensures.reads.interns;
}
