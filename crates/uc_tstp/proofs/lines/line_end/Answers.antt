use Rattle.std.proofs.Common.{refl}
use Rattle.uc_clause.specs.declared.terminal.Terminal.TheVariants.{Close, Dot}
use Rattle.uc_clause.specs.Rules.{goes_on, stops_first}
use Rattle.uc_clause.proofs.Sequences.{exits_err, passes, if_ok, if_err}
use Rattle.uc_tstp.specs.Lines.{token}
use Rattle.uc_tstp.specs.Parts.{line_end}
use Rattle.uc_tstp.proofs.lines.line_end.Goals as goal

pub returns-in_err-at-clause-stops : goal.returns-in_err-at-clause-stops
returns-in_err-at-clause-stops c = exits_err (token c.args.bytes.now c.args.tokens.now Close c.args.from) (line_end c.args.bytes.now c.args.tokens.now c.args.from) _ _ c.from_residual.ensures.1 (λ why k s. stops_first s) c.in_err-at.ensures.stops

pub returns-clause-ok : goal.returns-clause-ok
returns-clause-ok c = if_ok c.expect-2.result (λ end dot. goes_on {v = tt} c.in_ok-at.ensures.ok (goes_on {v = tt} dot refl)) c.expect-2.ensures.ok

pub returns-clause-stops : goal.returns-clause-stops
returns-clause-stops c = if_err c.expect-2.result (λ e stops. passes (token c.args.bytes.now c.args.tokens.now Dot c.in_ok-at.at) (line_end c.args.bytes.now c.args.tokens.now c.args.from) e (λ why k s. goes_on {v = tt} c.in_ok-at.ensures.ok (stops_first s)) stops) c.expect-2.ensures.stops
