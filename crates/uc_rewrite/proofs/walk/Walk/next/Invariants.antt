use Rattle.std.proofs.Common.{◌≡◌, ◌+◌, ◌-◌, ◌*◌, length}
use Rattle.uc_term.specs.Flat.{tree_of}
use Rattle.uc_rewrite.specs.Walking.{Walks}
use Rattle.uc_rewrite.proofs.walk.Walk.next.Given as goal

abbrev pub invariant-loop-top : goal.invariant-loop-top
invariant-loop-top g l = Walks (g.C.Comparison.greater l.rules.comparison.now) (g.C.Comparison.constant l.rules.comparison.now) (g.I.Index.live l.rules.index.now) (tree_of l.list) l.self.opened.items l.self.place × (l.self.kept.items ≡ l.fn.self.kept.items)

abbrev pub decreases-loop-top : goal.decreases-loop-top
decreases-loop-top g l = 2 * (length l.list - l.self.place) + length l.self.opened.items
