use Rattle.uc_clause.specs.declared.terminal.Terminal.TheVariants.{CloseSquare}
use Rattle.uc_clause.specs.Rules.{goes_on, stops_first}
use Rattle.uc_clause.proofs.Sequences.{exits_err}
use Rattle.uc_tstp.specs.Lines as lines
use Rattle.uc_tstp.proofs.SourceReading.{goal_reads, reflexive_reads}
use Rattle.uc_tstp.proofs.sources.encode_source.Goals as goal

pub returns-in_err-goal-clause-stops : goal.returns-in_err-goal-clause-stops
returns-in_err-goal-clause-stops c = exits_err (lines.of_goal c.args.bytes.now c.args.tokens.now c.args.from) (lines.encode_source c.args.bytes.now c.args.tokens.now c.args.from) _ _ c.from_residual.ensures.1 (λ why k h. stops_first h) c.in_err-goal.ensures.stops

pub returns-in_err-at-clause-stops : goal.returns-in_err-at-clause-stops
returns-in_err-at-clause-stops c = exits_err (lines.token c.args.bytes.now c.args.tokens.now CloseSquare c.in_ok-goal.at) (lines.encode_source c.args.bytes.now c.args.tokens.now c.args.from) _ _ c.from_residual-in_err-at.ensures.1 (λ why k h. goes_on c.in_ok-goal.ensures.ok (stops_first h)) c.in_err-at.ensures.stops

pub returns-in_err-parents-clause-stops : goal.returns-in_err-parents-clause-stops
returns-in_err-parents-clause-stops c = exits_err (lines.rest_of_inference c.args.bytes.now c.args.tokens.now c.in_ok-at.at) (lines.encode_source c.args.bytes.now c.args.tokens.now c.args.from) _ _ c.from_residual-in_err-parents.ensures.1 (λ why k h. goes_on c.in_ok-goal.ensures.ok (goes_on {v = tt} c.in_ok-at.ensures.ok (stops_first h))) c.in_err-parents.ensures.stops

pub returns-then-goal-clause-reads : goal.returns-then-goal-clause-reads
returns-then-goal-clause-reads c =
    goal_reads c.args.bytes.now c.args.tokens.now c.args.from c.in_ok-goal.at c.in_ok-at.at c.in_ok-parents.end c.in_ok-parents.parents c.in_ok-at.ensures.ok c.in_ok-parents.ensures.reads c.in_ok-goal.goal c.if-goal.true c.in_ok-goal.ensures.ok

pub returns-else-goal-clause-reads : goal.returns-else-goal-clause-reads
returns-else-goal-clause-reads c =
    reflexive_reads c.args.bytes.now c.args.tokens.now c.args.from c.in_ok-goal.at c.in_ok-at.at c.in_ok-parents.end c.in_ok-parents.parents c.in_ok-at.ensures.ok c.in_ok-parents.ensures.reads c.in_ok-goal.goal c.if-goal.false c.in_ok-goal.ensures.ok
