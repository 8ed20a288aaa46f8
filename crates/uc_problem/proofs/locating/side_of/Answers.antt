use Rattle.std.proofs.Common.{arith}
use Rattle.uc_problem.proofs.Sides.{length_terms, even_side, odd_side}
use Rattle.uc_problem.proofs.locating.side_of.Goals as goal

pub bounds-clauses-term : goal.bounds-clauses-term
bounds-clauses-term c = omega (arith, c.requires, length_terms c.args.clauses.now)

pub returns-then-term-eq0 : goal.returns-then-term-eq0
returns-then-term-eq0 c = even_side c.args.clauses.now c.args.term 0 c.index-clauses-term.result (omega (arith, c.requires, length_terms c.args.clauses.now)) c.if-term-eq0.true

pub returns-else-term-eq0 : goal.returns-else-term-eq0
returns-else-term-eq0 c = odd_side c.args.clauses.now c.args.term 0 c.index-clauses-term.result (omega (arith, c.requires, length_terms c.args.clauses.now)) c.if-term-eq0.false
