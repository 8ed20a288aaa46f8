use Rattle.std.proofs.Common.{refl}
use Rattle.std.specs.Prelude.{codes}
use Rattle.uc_clause.specs.declared.terminal.Terminal.TheVariants.{Open, Comma}
use Rattle.uc_clause.specs.Rules.{goes_on, stops_first}
use Rattle.uc_clause.proofs.Sequences.{exits_err}
use Rattle.uc_tstp.specs.Lines.{token, word, lower, way, path, step_head}
use Rattle.uc_tstp.proofs.steps.step_head.Goals as goal

pub returns-in_err-at-clause-stops : goal.returns-in_err-at-clause-stops
returns-in_err-at-clause-stops c = exits_err (word c.args.bytes.now c.args.tokens.now (codes "step") c.args.from) (step_head c.args.bytes.now c.args.tokens.now c.args.from) _ _ c.from_residual.ensures.1 (λ why k h. stops_first h) c.in_err-at.ensures.stops

pub returns-in_err-at-2-clause-stops : goal.returns-in_err-at-2-clause-stops
returns-in_err-at-2-clause-stops c = exits_err (token c.args.bytes.now c.args.tokens.now Open c.in_ok-at.at) (step_head c.args.bytes.now c.args.tokens.now c.args.from) _ _ c.from_residual-in_err-at-2.ensures.1 (λ why k h. goes_on {v = tt} c.in_ok-at.ensures.ok (stops_first h)) c.in_err-at-2.ensures.stops

pub returns-in_err-by-clause-stops : goal.returns-in_err-by-clause-stops
returns-in_err-by-clause-stops c = exits_err (lower c.args.bytes.now c.args.tokens.now c.in_ok-at-2.at) (step_head c.args.bytes.now c.args.tokens.now c.args.from) _ _ c.from_residual-in_err-by.ensures.1 (λ why k h. goes_on {v = tt} c.in_ok-at.ensures.ok (goes_on {v = tt} c.in_ok-at-2.ensures.ok (stops_first h))) c.in_err-by.ensures.stops

pub returns-in_err-at-3-clause-stops : goal.returns-in_err-at-3-clause-stops
returns-in_err-at-3-clause-stops c = exits_err (token c.args.bytes.now c.args.tokens.now Comma c.in_ok-by.at) (step_head c.args.bytes.now c.args.tokens.now c.args.from) _ _ c.from_residual-in_err-at-3.ensures.1 (λ why k h. goes_on {v = tt} c.in_ok-at.ensures.ok (goes_on {v = tt} c.in_ok-at-2.ensures.ok (goes_on {v = c.in_ok-by.by} c.in_ok-by.ensures.ok (stops_first h)))) c.in_err-at-3.ensures.stops

pub returns-in_err-left_to_right-clause-stops : goal.returns-in_err-left_to_right-clause-stops
returns-in_err-left_to_right-clause-stops c = exits_err (way c.args.bytes.now c.args.tokens.now c.in_ok-at-3.at) (step_head c.args.bytes.now c.args.tokens.now c.args.from) _ _ c.from_residual-in_err-left_to_right.ensures.1 (λ why k h. goes_on {v = tt} c.in_ok-at.ensures.ok (goes_on {v = tt} c.in_ok-at-2.ensures.ok (goes_on {v = c.in_ok-by.by} c.in_ok-by.ensures.ok (goes_on {v = tt} c.in_ok-at-3.ensures.ok (stops_first h))))) c.in_err-left_to_right.ensures.stops

pub returns-in_err-at-4-clause-stops : goal.returns-in_err-at-4-clause-stops
returns-in_err-at-4-clause-stops c = exits_err (token c.args.bytes.now c.args.tokens.now Comma c.in_ok-left_to_right.at) (step_head c.args.bytes.now c.args.tokens.now c.args.from) _ _ c.from_residual-in_err-at-4.ensures.1 (λ why k h. goes_on {v = tt} c.in_ok-at.ensures.ok (goes_on {v = tt} c.in_ok-at-2.ensures.ok (goes_on {v = c.in_ok-by.by} c.in_ok-by.ensures.ok (goes_on {v = tt} c.in_ok-at-3.ensures.ok (goes_on {v = c.in_ok-left_to_right.left_to_right} c.in_ok-left_to_right.ensures.ok (stops_first h)))))) c.in_err-at-4.ensures.stops

pub returns-in_err-path-clause-stops : goal.returns-in_err-path-clause-stops
returns-in_err-path-clause-stops c = exits_err (path c.args.bytes.now c.args.tokens.now c.in_ok-at-4.at) (step_head c.args.bytes.now c.args.tokens.now c.args.from) _ _ c.from_residual-in_err-path.ensures.1 (λ why k h. goes_on {v = tt} c.in_ok-at.ensures.ok (goes_on {v = tt} c.in_ok-at-2.ensures.ok (goes_on {v = c.in_ok-by.by} c.in_ok-by.ensures.ok (goes_on {v = tt} c.in_ok-at-3.ensures.ok (goes_on {v = c.in_ok-left_to_right.left_to_right} c.in_ok-left_to_right.ensures.ok (goes_on {v = tt} c.in_ok-at-4.ensures.ok (stops_first h))))))) c.in_err-path.ensures.stops

pub returns-in_err-end-clause-stops : goal.returns-in_err-end-clause-stops
returns-in_err-end-clause-stops c = exits_err (token c.args.bytes.now c.args.tokens.now Comma c.in_ok-path.at) (step_head c.args.bytes.now c.args.tokens.now c.args.from) _ _ c.from_residual-in_err-end.ensures.1 (λ why k h. goes_on {v = tt} c.in_ok-at.ensures.ok (goes_on {v = tt} c.in_ok-at-2.ensures.ok (goes_on {v = c.in_ok-by.by} c.in_ok-by.ensures.ok (goes_on {v = tt} c.in_ok-at-3.ensures.ok (goes_on {v = c.in_ok-left_to_right.left_to_right} c.in_ok-left_to_right.ensures.ok (goes_on {v = tt} c.in_ok-at-4.ensures.ok (goes_on c.in_ok-path.ensures.reads (stops_first h)))))))) c.in_err-end.ensures.stops

pub returns-clause-reads : goal.returns-clause-reads
returns-clause-reads c = goes_on {v = tt} c.in_ok-at.ensures.ok (goes_on {v = tt} c.in_ok-at-2.ensures.ok (goes_on {v = c.in_ok-by.by} c.in_ok-by.ensures.ok (goes_on {v = tt} c.in_ok-at-3.ensures.ok (goes_on {v = c.in_ok-left_to_right.left_to_right} c.in_ok-left_to_right.ensures.ok (goes_on {v = tt} c.in_ok-at-4.ensures.ok (goes_on c.in_ok-path.ensures.reads (goes_on {v = tt} c.in_ok-end.ensures.ok (refl))))))))
