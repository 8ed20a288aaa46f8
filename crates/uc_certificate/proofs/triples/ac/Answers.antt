use Rattle.std.proofs.Common.{refl, codes}
use Rattle.uc_clause.specs.declared.terminal.Terminal.TheVariants.{Open, Close, OpenSquare}
use Rattle.uc_clause.specs.Rules.{goes_on, stops_first}
use Rattle.uc_clause.proofs.Sequences.{exits_err}
use Rattle.uc_tstp.specs.Lines as lines
use Rattle.uc_certificate.specs.JoinLines as rules
use Rattle.uc_certificate.proofs.triples.ac.Goals as goal

pub returns-in_err-at-clause-stops : goal.returns-in_err-at-clause-stops
returns-in_err-at-clause-stops c = exits_err (lines.word c.args.bytes.now c.args.tokens.now (codes "ac") c.args.from) (rules.ac c.args.bytes.now c.args.tokens.now c.args.from) _ _ c.from_residual.ensures.1 (λ why k h. (stops_first h)) c.in_err-at.ensures.stops

pub returns-in_err-at-2-clause-stops : goal.returns-in_err-at-2-clause-stops
returns-in_err-at-2-clause-stops c = exits_err (lines.token c.args.bytes.now c.args.tokens.now Open c.in_ok-at.at) (rules.ac c.args.bytes.now c.args.tokens.now c.args.from) _ _ c.from_residual-in_err-at-2.ensures.1 (λ why k h. (goes_on {v = tt} c.in_ok-at.ensures.ok (stops_first h))) c.in_err-at-2.ensures.stops

pub returns-in_err-at-3-clause-stops : goal.returns-in_err-at-3-clause-stops
returns-in_err-at-3-clause-stops c = exits_err (lines.token c.args.bytes.now c.args.tokens.now OpenSquare c.in_ok-at-2.at) (rules.ac c.args.bytes.now c.args.tokens.now c.args.from) _ _ c.from_residual-in_err-at-3.ensures.1 (λ why k h. (goes_on {v = tt} c.in_ok-at.ensures.ok (goes_on {v = tt} c.in_ok-at-2.ensures.ok (stops_first h)))) c.in_err-at-3.ensures.stops

pub returns-in_err-triples-clause-stops : goal.returns-in_err-triples-clause-stops
returns-in_err-triples-clause-stops c = exits_err (lines.members c.args.bytes.now c.args.tokens.now (rules.triple c.args.bytes.now c.args.tokens.now) c.in_ok-at-3.at) (rules.ac c.args.bytes.now c.args.tokens.now c.args.from) _ _ c.from_residual-in_err-triples.ensures.1 (λ why k h. (goes_on {v = tt} c.in_ok-at.ensures.ok (goes_on {v = tt} c.in_ok-at-2.ensures.ok (goes_on {v = tt} c.in_ok-at-3.ensures.ok (stops_first h))))) c.in_err-triples.ensures.stops

pub returns-in_err-end-clause-stops : goal.returns-in_err-end-clause-stops
returns-in_err-end-clause-stops c = exits_err (lines.token c.args.bytes.now c.args.tokens.now Close c.in_ok-triples.at) (rules.ac c.args.bytes.now c.args.tokens.now c.args.from) _ _ c.from_residual-in_err-end.ensures.1 (λ why k h. (goes_on {v = tt} c.in_ok-at.ensures.ok (goes_on {v = tt} c.in_ok-at-2.ensures.ok (goes_on {v = tt} c.in_ok-at-3.ensures.ok (goes_on c.in_ok-triples.ensures.reads (stops_first h)))))) c.in_err-end.ensures.stops

pub returns-clause-reads : goal.returns-clause-reads
returns-clause-reads c = (goes_on {v = tt} c.in_ok-at.ensures.ok (goes_on {v = tt} c.in_ok-at-2.ensures.ok (goes_on {v = tt} c.in_ok-at-3.ensures.ok (goes_on c.in_ok-triples.ensures.reads (goes_on {v = tt} c.in_ok-end.ensures.ok refl)))))
