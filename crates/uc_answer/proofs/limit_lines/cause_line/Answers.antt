use Rattle.uc_answer.proofs.LargeLines.{budget_told, pairs_told, overlap_told, goal_told}
use Rattle.uc_answer.proofs.limit_lines.cause_line.Goals as goal

pub large_line-requires-clause-large : goal.large_line-requires-clause-large
large_line-requires-clause-large g c = c.requires.large c.in-LargeOverlap.overlap c.in-LargeOverlap.is

pub returns-in-BudgetOut : goal.returns-in-BudgetOut
returns-in-BudgetOut g c = budget_told c.args.command.now c.args.book.now.state c.args.verdict c.budget_line.result c.in-BudgetOut.counted c.in-BudgetOut.is c.budget_line.ensures

pub returns-in-PairsOut : goal.returns-in-PairsOut
returns-in-PairsOut g c = pairs_told c.args.command.now c.args.book.now.state c.args.verdict c.pairs_line.result c.in-PairsOut.waiting c.in-PairsOut.new c.in-PairsOut.is c.pairs_line.ensures

pub returns-in-LargeOverlap : goal.returns-in-LargeOverlap
returns-in-LargeOverlap g c = overlap_told c.args.command.now c.args.book.now.state c.args.verdict c.large_line.result c.in-LargeOverlap.overlap c.in-LargeOverlap.is c.large_line.ensures

pub returns-in-LargeGoal : goal.returns-in-LargeGoal
returns-in-LargeGoal g c = goal_told c.args.command.now c.args.book.now.state c.args.verdict c.goal_line.result c.in-LargeGoal.goal c.in-LargeGoal.is c.goal_line.ensures
