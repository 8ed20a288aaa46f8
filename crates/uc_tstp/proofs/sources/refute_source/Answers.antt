use Rattle.std.proofs.Common.{refl}
use Rattle.uc_clause.specs.declared.terminal.Terminal.TheVariants.{CloseSquare}
use Rattle.uc_clause.specs.Rules.{goes_on, stops_first}
use Rattle.uc_clause.proofs.Sequences.{exits_err}
use Rattle.uc_tstp.specs.Lines as lines
use Rattle.uc_tstp.specs.Parse.{by_refute}
use Rattle.uc_tstp.proofs.sources.refute_source.Goals as goal

pub returns-in_err-at-clause-stops : goal.returns-in_err-at-clause-stops
returns-in_err-at-clause-stops c = exits_err (lines.token c.args.bytes.now c.args.tokens.now CloseSquare c.args.from) (lines.refute_source c.args.bytes.now c.args.tokens.now c.args.from) _ _ c.from_residual.ensures.1 (λ why k h. stops_first h) c.in_err-at.ensures.stops

pub returns-in_err-parents-clause-stops : goal.returns-in_err-parents-clause-stops
returns-in_err-parents-clause-stops c = exits_err (lines.rest_of_inference c.args.bytes.now c.args.tokens.now c.in_ok-at.at) (lines.refute_source c.args.bytes.now c.args.tokens.now c.args.from) _ _ c.from_residual-in_err-parents.ensures.1 (λ why k h. goes_on {v = tt} c.in_ok-at.ensures.ok (stops_first h)) c.in_err-parents.ensures.stops

pub returns-clause-reads : goal.returns-clause-reads
returns-clause-reads c = λ seen table. record { source = by_refute c.in_ok-parents.parents; reads = goes_on {v = tt} c.in_ok-at.ensures.ok (goes_on c.in_ok-parents.ensures.reads (refl)); seen_is = refl; says = refl; table_is = refl }
