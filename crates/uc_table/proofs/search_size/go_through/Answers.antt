use Rattle.uc_table.proofs.SearchGoing.{going_start, ends_spent}
use Rattle.uc_table.proofs.search_size.go_through.Goals as goal

pub loop-next-init : goal.loop-next-init
loop-next-init c = going_start c.args.rules.now c.args.budget c.args.state.now c.requires.open c.requires.start c.requires.some

pub returns-then-visited-budget : goal.returns-then-visited-budget
returns-then-visited-budget c = ends_spent c.args.rules.now c.args.budget c.loop-next.state c.loop-next.next c.loop-next.visited c.loop-next.invariant c.if-next-rules.true c.if-visited-budget.true
