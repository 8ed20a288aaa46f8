use Rattle.std.proofs.Common.{refl}
use Rattle.uc_clause.specs.declared.terminal.Terminal.TheVariants.{OpenSquare, CloseSquare, Comma}
use Rattle.uc_clause.specs.Rules.{goes_on, stops_first}
use Rattle.uc_clause.proofs.Sequences.{exits_err}
use Rattle.uc_tstp.specs.Lines as lines
use Rattle.uc_certificate.specs.JoinLines as rules
use Rattle.uc_certificate.proofs.triples.triple.Goals as goal

pub returns-in_err-at-clause-stops : goal.returns-in_err-at-clause-stops
returns-in_err-at-clause-stops c = exits_err (lines.token c.args.bytes.now c.args.tokens.now OpenSquare c.args.from) (rules.triple c.args.bytes.now c.args.tokens.now c.args.from) _ _ c.from_residual.ensures.1 (λ why k h. (stops_first h)) c.in_err-at.ensures.stops

pub returns-in_err-assoc-clause-stops : goal.returns-in_err-assoc-clause-stops
returns-in_err-assoc-clause-stops c = exits_err (rules.integer c.args.bytes.now c.args.tokens.now c.in_ok-at.at) (rules.triple c.args.bytes.now c.args.tokens.now c.args.from) _ _ c.from_residual-in_err-assoc.ensures.1 (λ why k h. (goes_on {v = tt} c.in_ok-at.ensures.ok (stops_first h))) c.in_err-assoc.ensures.stops

pub returns-in_err-at-2-clause-stops : goal.returns-in_err-at-2-clause-stops
returns-in_err-at-2-clause-stops c = exits_err (lines.token c.args.bytes.now c.args.tokens.now Comma c.in_ok-assoc.at) (rules.triple c.args.bytes.now c.args.tokens.now c.args.from) _ _ c.from_residual-in_err-at-2.ensures.1 (λ why k h. (goes_on {v = tt} c.in_ok-at.ensures.ok (goes_on c.in_ok-assoc.ensures.ok (stops_first h)))) c.in_err-at-2.ensures.stops

pub returns-in_err-comm-clause-stops : goal.returns-in_err-comm-clause-stops
returns-in_err-comm-clause-stops c = exits_err (rules.integer c.args.bytes.now c.args.tokens.now c.in_ok-at-2.at) (rules.triple c.args.bytes.now c.args.tokens.now c.args.from) _ _ c.from_residual-in_err-comm.ensures.1 (λ why k h. (goes_on {v = tt} c.in_ok-at.ensures.ok (goes_on c.in_ok-assoc.ensures.ok (goes_on {v = tt} c.in_ok-at-2.ensures.ok (stops_first h))))) c.in_err-comm.ensures.stops

pub returns-in_err-at-3-clause-stops : goal.returns-in_err-at-3-clause-stops
returns-in_err-at-3-clause-stops c = exits_err (lines.token c.args.bytes.now c.args.tokens.now Comma c.in_ok-comm.at) (rules.triple c.args.bytes.now c.args.tokens.now c.args.from) _ _ c.from_residual-in_err-at-3.ensures.1 (λ why k h. (goes_on {v = tt} c.in_ok-at.ensures.ok (goes_on c.in_ok-assoc.ensures.ok (goes_on {v = tt} c.in_ok-at-2.ensures.ok (goes_on c.in_ok-comm.ensures.ok (stops_first h)))))) c.in_err-at-3.ensures.stops

pub returns-in_err-extended-clause-stops : goal.returns-in_err-extended-clause-stops
returns-in_err-extended-clause-stops c = exits_err (rules.integer c.args.bytes.now c.args.tokens.now c.in_ok-at-3.at) (rules.triple c.args.bytes.now c.args.tokens.now c.args.from) _ _ c.from_residual-in_err-extended.ensures.1 (λ why k h. (goes_on {v = tt} c.in_ok-at.ensures.ok (goes_on c.in_ok-assoc.ensures.ok (goes_on {v = tt} c.in_ok-at-2.ensures.ok (goes_on c.in_ok-comm.ensures.ok (goes_on {v = tt} c.in_ok-at-3.ensures.ok (stops_first h))))))) c.in_err-extended.ensures.stops

pub returns-in_err-end-clause-stops : goal.returns-in_err-end-clause-stops
returns-in_err-end-clause-stops c = exits_err (lines.token c.args.bytes.now c.args.tokens.now CloseSquare c.in_ok-extended.at) (rules.triple c.args.bytes.now c.args.tokens.now c.args.from) _ _ c.from_residual-in_err-end.ensures.1 (λ why k h. (goes_on {v = tt} c.in_ok-at.ensures.ok (goes_on c.in_ok-assoc.ensures.ok (goes_on {v = tt} c.in_ok-at-2.ensures.ok (goes_on c.in_ok-comm.ensures.ok (goes_on {v = tt} c.in_ok-at-3.ensures.ok (goes_on c.in_ok-extended.ensures.ok (stops_first h)))))))) c.in_err-end.ensures.stops

pub returns-clause-reads : goal.returns-clause-reads
returns-clause-reads c = (goes_on {v = tt} c.in_ok-at.ensures.ok (goes_on c.in_ok-assoc.ensures.ok (goes_on {v = tt} c.in_ok-at-2.ensures.ok (goes_on c.in_ok-comm.ensures.ok (goes_on {v = tt} c.in_ok-at-3.ensures.ok (goes_on c.in_ok-extended.ensures.ok (goes_on {v = tt} c.in_ok-end.ensures.ok refl)))))))
