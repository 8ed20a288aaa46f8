use Rattle.std.proofs.Common.{arith, refl, sym, subst, ◌∙◌, codes}
use Rattle.std.proofs.lemmas.Result.{err_from_is_err_and}
use Rattle.uc_clause.specs.declared.terminal.Terminal.TheVariants.{Open, Close, OpenSquare, CloseSquare, Comma, Dot, End}
use Rattle.uc_clause.specs.Rules.{read, goes_on, stops_first}
use Rattle.uc_clause.proofs.Sequences.{exits_err, if_ok, if_err}
use Rattle.uc_clause.proofs.Tables.{grows_not, grows_twice}
use Rattle.uc_clause.proofs.Ends.{some_other}
use Rattle.uc_tstp.specs.Lines as lines
use Rattle.uc_tstp.proofs.Members.{Ahead, ahead_on, ahead_more, ahead_stops, ahead_behind, list_none, list_some, list_stops, list_unopened, next_within, picked_ahead}
use Rattle.uc_certificate.specs.JoinLines as rules
use Rattle.uc_certificate.specs.JoinMeaning.{MeansMove, MeansCase, MeansJoin, none_mean}
use Rattle.uc_certificate.specs.Reads.{AreVariables}
use Rattle.uc_certificate.proofs.JoinLoops.{Kept, kept_none, kept_stops, kept_behind, kept_more, kept_all}
use Rattle.uc_certificate.proofs.JoinEnds.{move_ends, class_ends, case_ends, variable_ends}
use Rattle.uc_certificate.proofs.joins.overlap.Goals as goal

pub returns-in_err-at-clause-stops : goal.returns-in_err-at-clause-stops
returns-in_err-at-clause-stops c = exits_err (lines.word c.args.bytes.now c.args.tokens.now (codes "overlap") c.args.from) (rules.of_overlap c.args.bytes.now c.args.tokens.now c.args.from) _ _ c.from_residual.ensures.1 (λ why k h. (stops_first h)) c.in_err-at.ensures.stops

pub returns-in_err-at-2-clause-stops : goal.returns-in_err-at-2-clause-stops
returns-in_err-at-2-clause-stops c = exits_err (lines.token c.args.bytes.now c.args.tokens.now Open c.in_ok-at.at) (rules.of_overlap c.args.bytes.now c.args.tokens.now c.args.from) _ _ c.from_residual-in_err-at-2.ensures.1 (λ why k h. (goes_on {v = tt} c.in_ok-at.ensures.ok (stops_first h))) c.in_err-at-2.ensures.stops

pub returns-in_err-outer-clause-stops : goal.returns-in_err-outer-clause-stops
returns-in_err-outer-clause-stops c = exits_err (rules.integer c.args.bytes.now c.args.tokens.now c.in_ok-at-2.at) (rules.of_overlap c.args.bytes.now c.args.tokens.now c.args.from) _ _ c.from_residual-in_err-outer.ensures.1 (λ why k h. (goes_on {v = tt} c.in_ok-at.ensures.ok (goes_on {v = tt} c.in_ok-at-2.ensures.ok (stops_first h)))) c.in_err-outer.ensures.stops

pub returns-in_err-at-3-clause-stops : goal.returns-in_err-at-3-clause-stops
returns-in_err-at-3-clause-stops c = exits_err (lines.token c.args.bytes.now c.args.tokens.now Comma c.in_ok-outer.at) (rules.of_overlap c.args.bytes.now c.args.tokens.now c.args.from) _ _ c.from_residual-in_err-at-3.ensures.1 (λ why k h. (goes_on {v = tt} c.in_ok-at.ensures.ok (goes_on {v = tt} c.in_ok-at-2.ensures.ok (goes_on c.in_ok-outer.ensures.ok (stops_first h))))) c.in_err-at-3.ensures.stops

pub returns-in_err-outer_side-clause-stops : goal.returns-in_err-outer_side-clause-stops
returns-in_err-outer_side-clause-stops c = exits_err (rules.side c.args.bytes.now c.args.tokens.now c.in_ok-at-3.at) (rules.of_overlap c.args.bytes.now c.args.tokens.now c.args.from) _ _ c.from_residual-in_err-outer_side.ensures.1 (λ why k h. (goes_on {v = tt} c.in_ok-at.ensures.ok (goes_on {v = tt} c.in_ok-at-2.ensures.ok (goes_on c.in_ok-outer.ensures.ok (goes_on {v = tt} c.in_ok-at-3.ensures.ok (stops_first h)))))) c.in_err-outer_side.ensures.stops

pub returns-in_err-at-4-clause-stops : goal.returns-in_err-at-4-clause-stops
returns-in_err-at-4-clause-stops c = exits_err (lines.token c.args.bytes.now c.args.tokens.now Comma c.in_ok-outer_side.at) (rules.of_overlap c.args.bytes.now c.args.tokens.now c.args.from) _ _ c.from_residual-in_err-at-4.ensures.1 (λ why k h. (goes_on {v = tt} c.in_ok-at.ensures.ok (goes_on {v = tt} c.in_ok-at-2.ensures.ok (goes_on c.in_ok-outer.ensures.ok (goes_on {v = tt} c.in_ok-at-3.ensures.ok (goes_on c.in_ok-outer_side.ensures.ok (stops_first h))))))) c.in_err-at-4.ensures.stops

pub returns-in_err-inner-clause-stops : goal.returns-in_err-inner-clause-stops
returns-in_err-inner-clause-stops c = exits_err (rules.integer c.args.bytes.now c.args.tokens.now c.in_ok-at-4.at) (rules.of_overlap c.args.bytes.now c.args.tokens.now c.args.from) _ _ c.from_residual-in_err-inner.ensures.1 (λ why k h. (goes_on {v = tt} c.in_ok-at.ensures.ok (goes_on {v = tt} c.in_ok-at-2.ensures.ok (goes_on c.in_ok-outer.ensures.ok (goes_on {v = tt} c.in_ok-at-3.ensures.ok (goes_on c.in_ok-outer_side.ensures.ok (goes_on {v = tt} c.in_ok-at-4.ensures.ok (stops_first h)))))))) c.in_err-inner.ensures.stops

pub returns-in_err-at-5-clause-stops : goal.returns-in_err-at-5-clause-stops
returns-in_err-at-5-clause-stops c = exits_err (lines.token c.args.bytes.now c.args.tokens.now Comma c.in_ok-inner.at) (rules.of_overlap c.args.bytes.now c.args.tokens.now c.args.from) _ _ c.from_residual-in_err-at-5.ensures.1 (λ why k h. (goes_on {v = tt} c.in_ok-at.ensures.ok (goes_on {v = tt} c.in_ok-at-2.ensures.ok (goes_on c.in_ok-outer.ensures.ok (goes_on {v = tt} c.in_ok-at-3.ensures.ok (goes_on c.in_ok-outer_side.ensures.ok (goes_on {v = tt} c.in_ok-at-4.ensures.ok (goes_on c.in_ok-inner.ensures.ok (stops_first h))))))))) c.in_err-at-5.ensures.stops

pub returns-in_err-inner_side-clause-stops : goal.returns-in_err-inner_side-clause-stops
returns-in_err-inner_side-clause-stops c = exits_err (rules.side c.args.bytes.now c.args.tokens.now c.in_ok-at-5.at) (rules.of_overlap c.args.bytes.now c.args.tokens.now c.args.from) _ _ c.from_residual-in_err-inner_side.ensures.1 (λ why k h. (goes_on {v = tt} c.in_ok-at.ensures.ok (goes_on {v = tt} c.in_ok-at-2.ensures.ok (goes_on c.in_ok-outer.ensures.ok (goes_on {v = tt} c.in_ok-at-3.ensures.ok (goes_on c.in_ok-outer_side.ensures.ok (goes_on {v = tt} c.in_ok-at-4.ensures.ok (goes_on c.in_ok-inner.ensures.ok (goes_on {v = tt} c.in_ok-at-5.ensures.ok (stops_first h)))))))))) c.in_err-inner_side.ensures.stops

pub returns-in_err-at-6-clause-stops : goal.returns-in_err-at-6-clause-stops
returns-in_err-at-6-clause-stops c = exits_err (lines.token c.args.bytes.now c.args.tokens.now Comma c.in_ok-inner_side.at) (rules.of_overlap c.args.bytes.now c.args.tokens.now c.args.from) _ _ c.from_residual-in_err-at-6.ensures.1 (λ why k h. (goes_on {v = tt} c.in_ok-at.ensures.ok (goes_on {v = tt} c.in_ok-at-2.ensures.ok (goes_on c.in_ok-outer.ensures.ok (goes_on {v = tt} c.in_ok-at-3.ensures.ok (goes_on c.in_ok-outer_side.ensures.ok (goes_on {v = tt} c.in_ok-at-4.ensures.ok (goes_on c.in_ok-inner.ensures.ok (goes_on {v = tt} c.in_ok-at-5.ensures.ok (goes_on c.in_ok-inner_side.ensures.ok (stops_first h))))))))))) c.in_err-at-6.ensures.stops

pub returns-in_err-path-clause-stops : goal.returns-in_err-path-clause-stops
returns-in_err-path-clause-stops c = exits_err (lines.path c.args.bytes.now c.args.tokens.now c.in_ok-at-6.at) (rules.of_overlap c.args.bytes.now c.args.tokens.now c.args.from) _ _ c.from_residual-in_err-path.ensures.1 (λ why k h. (goes_on {v = tt} c.in_ok-at.ensures.ok (goes_on {v = tt} c.in_ok-at-2.ensures.ok (goes_on c.in_ok-outer.ensures.ok (goes_on {v = tt} c.in_ok-at-3.ensures.ok (goes_on c.in_ok-outer_side.ensures.ok (goes_on {v = tt} c.in_ok-at-4.ensures.ok (goes_on c.in_ok-inner.ensures.ok (goes_on {v = tt} c.in_ok-at-5.ensures.ok (goes_on c.in_ok-inner_side.ensures.ok (goes_on {v = tt} c.in_ok-at-6.ensures.ok (stops_first h)))))))))))) c.in_err-path.ensures.stops

pub returns-in_err-end-clause-stops : goal.returns-in_err-end-clause-stops
returns-in_err-end-clause-stops c = exits_err (lines.token c.args.bytes.now c.args.tokens.now Close c.in_ok-path.at) (rules.of_overlap c.args.bytes.now c.args.tokens.now c.args.from) _ _ c.from_residual-in_err-end.ensures.1 (λ why k h. (goes_on {v = tt} c.in_ok-at.ensures.ok (goes_on {v = tt} c.in_ok-at-2.ensures.ok (goes_on c.in_ok-outer.ensures.ok (goes_on {v = tt} c.in_ok-at-3.ensures.ok (goes_on c.in_ok-outer_side.ensures.ok (goes_on {v = tt} c.in_ok-at-4.ensures.ok (goes_on c.in_ok-inner.ensures.ok (goes_on {v = tt} c.in_ok-at-5.ensures.ok (goes_on c.in_ok-inner_side.ensures.ok (goes_on {v = tt} c.in_ok-at-6.ensures.ok (goes_on c.in_ok-path.ensures.reads (stops_first h))))))))))))) c.in_err-end.ensures.stops

pub returns-clause-reads : goal.returns-clause-reads
returns-clause-reads c = (goes_on {v = tt} c.in_ok-at.ensures.ok (goes_on {v = tt} c.in_ok-at-2.ensures.ok (goes_on c.in_ok-outer.ensures.ok (goes_on {v = tt} c.in_ok-at-3.ensures.ok (goes_on c.in_ok-outer_side.ensures.ok (goes_on {v = tt} c.in_ok-at-4.ensures.ok (goes_on c.in_ok-inner.ensures.ok (goes_on {v = tt} c.in_ok-at-5.ensures.ok (goes_on c.in_ok-inner_side.ensures.ok (goes_on {v = tt} c.in_ok-at-6.ensures.ok (goes_on c.in_ok-path.ensures.reads (goes_on {v = tt} c.in_ok-end.ensures.ok refl))))))))))))
