use Rattle.std.proofs.Common.{sym, ◌∙◌, refl}
use Rattle.uc_problem.proofs.OpenGoals.{goal_within, large_here, small_here}
use Rattle.uc_problem.proofs.marking.first_too_large.Goals as goal

pub bounds-clauses-number : goal.bounds-clauses-number
bounds-clauses-number c = goal_within c.args.clauses.now c.args.goals.now c.loop-number.number-index 0 c.requires c.loop-number-test.true

pub returns-then-is_too_large : goal.returns-then-is_too_large
returns-then-is_too_large c =
    sym (c.loop-number.invariant ∙ large_here c.args.clauses.now c.args.goals.now c.loop-number.number-index _ 0 c.index-clauses-number.result c.index-clauses-number.result c.loop-number-test.true refl
    (goal_within c.args.clauses.now c.args.goals.now c.loop-number.number-index 0 c.requires c.loop-number-test.true) c.index-clauses-number.is (sym c.is_too_large.ensures ∙ c.if-is_too_large.true))

pub loop-number-preserved : goal.loop-number-preserved
loop-number-preserved c =
    c.loop-number.invariant ∙ small_here c.args.clauses.now c.args.goals.now c.loop-number.number-index _ 0 c.index-clauses-number.result c.index-clauses-number.result c.loop-number-test.true refl
    (goal_within c.args.clauses.now c.args.goals.now c.loop-number.number-index 0 c.requires c.loop-number-test.true) c.index-clauses-number.is (sym c.is_too_large.ensures ∙ c.if-is_too_large.false)
