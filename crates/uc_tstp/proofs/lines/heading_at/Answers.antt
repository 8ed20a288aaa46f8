use Rattle.std.specs.Prelude.{codes}
use Rattle.uc_clause.specs.declared.terminal.Terminal.TheVariants.{Open, Comma}
use Rattle.uc_clause.specs.Rules.{goes_on, stops_first}
use Rattle.uc_clause.proofs.Sequences.{exits_err}
use Rattle.uc_tstp.specs.Lines.{token, word, lower, line_name, line}
use Rattle.uc_tstp.proofs.LineParts.{is_new_name}
use Rattle.uc_tstp.proofs.lines.heading_at.Goals as goal

pub returns-in_err-at-clause-stops : goal.returns-in_err-at-clause-stops
returns-in_err-at-clause-stops c = exits_err (word c.args.bytes.now c.args.tokens.now (codes "cnf") c.args.from) (line c.args.bytes.now c.args.tokens.now c.args.names.now c.args.from) _ _ c.from_residual.ensures.1 (λ why k h. (stops_first h)) c.in_err-at.ensures.stops

pub returns-in_err-at-2-clause-stops : goal.returns-in_err-at-2-clause-stops
returns-in_err-at-2-clause-stops c = exits_err (token c.args.bytes.now c.args.tokens.now Open c.in_ok-at.at) (line c.args.bytes.now c.args.tokens.now c.args.names.now c.args.from) _ _ c.from_residual-in_err-at-2.ensures.1 (λ why k h. (goes_on {v = tt} c.in_ok-at.ensures.ok (stops_first h))) c.in_err-at-2.ensures.stops

pub returns-in_err-name-clause-stops : goal.returns-in_err-name-clause-stops
returns-in_err-name-clause-stops c = exits_err (line_name c.args.bytes.now c.args.tokens.now c.args.names.now c.in_ok-at-2.at) (line c.args.bytes.now c.args.tokens.now c.args.names.now c.args.from) _ _ c.from_residual-in_err-name.ensures.1 (λ why k h. (goes_on {v = tt} c.in_ok-at.ensures.ok (goes_on {v = tt} c.in_ok-at-2.ensures.ok (stops_first h)))) c.in_err-name.ensures.stops

pub returns-in_err-at-3-clause-stops : goal.returns-in_err-at-3-clause-stops
returns-in_err-at-3-clause-stops c = exits_err (token c.args.bytes.now c.args.tokens.now Comma c.in_ok-name.at) (line c.args.bytes.now c.args.tokens.now c.args.names.now c.args.from) _ _ c.from_residual-in_err-at-3.ensures.1 (λ why k h. (goes_on {v = tt} c.in_ok-at.ensures.ok (goes_on {v = tt} c.in_ok-at-2.ensures.ok (goes_on c.in_ok-name.ensures.reads (stops_first h))))) c.in_err-at-3.ensures.stops

pub returns-in_err-at-4-clause-stops : goal.returns-in_err-at-4-clause-stops
returns-in_err-at-4-clause-stops c = exits_err (lower c.args.bytes.now c.args.tokens.now c.in_ok-at-3.at) (line c.args.bytes.now c.args.tokens.now c.args.names.now c.args.from) _ _ c.from_residual-in_err-at-4.ensures.1 (λ why k h. (goes_on {v = tt} c.in_ok-at.ensures.ok (goes_on {v = tt} c.in_ok-at-2.ensures.ok (goes_on c.in_ok-name.ensures.reads (goes_on {v = tt} c.in_ok-at-3.ensures.ok (stops_first h)))))) c.in_err-at-4.ensures.stops

pub returns-in_err-end-clause-stops : goal.returns-in_err-end-clause-stops
returns-in_err-end-clause-stops c = exits_err (token c.args.bytes.now c.args.tokens.now Comma c.in_ok-at-4.at) (line c.args.bytes.now c.args.tokens.now c.args.names.now c.args.from) _ _ c.from_residual-in_err-end.ensures.1 (λ why k h. (goes_on {v = tt} c.in_ok-at.ensures.ok (goes_on {v = tt} c.in_ok-at-2.ensures.ok (goes_on c.in_ok-name.ensures.reads (goes_on {v = tt} c.in_ok-at-3.ensures.ok (goes_on c.in_ok-at-4.ensures.ok (stops_first h))))))) c.in_err-end.ensures.stops

pub returns-clause-leads : goal.returns-clause-leads
returns-clause-leads c = λ outcome rest. (goes_on {v = tt} c.in_ok-at.ensures.ok (goes_on {v = tt} c.in_ok-at-2.ensures.ok (goes_on c.in_ok-name.ensures.reads (goes_on {v = tt} c.in_ok-at-3.ensures.ok (goes_on c.in_ok-at-4.ensures.ok (goes_on {v = tt} c.in_ok-end.ensures.ok rest))))))

pub returns-clause-new : goal.returns-clause-new
returns-clause-new c = is_new_name c.in_ok-name.ensures.reads
