use Rattle.std.proofs.Common.{◌+◌, ◌-◌, ◌*◌, length}
use Rattle.uc_table.proofs.SearchGoing.{IsGoing}
use Rattle.uc_table.proofs.search_size.go_through.Given as goal

abbrev pub invariant-loop-next : goal.invariant-loop-next
invariant-loop-next l = IsGoing l.rules l.budget l.state l.next l.visited

abbrev pub decreases-loop-next : goal.decreases-loop-next
decreases-loop-next l = 2 * (l.budget - l.visited) + length l.state.prefix.items
