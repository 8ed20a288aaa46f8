use Rattle.std.proofs.Common.{◌-◌, vec_len}
use Rattle.uc_term.specs.Tree.{Tree}
use Rattle.uc_unify.specs.Solutions.{Solves}
use Rattle.uc_unify.proofs.Writing.{Writing}
use Rattle.uc_unify.proofs.solution.write_term.Given as goal

abbrev pub invariant-loop-place : goal.invariant-loop-place
invariant-loop-place l = (t : Tree) → Solves l.nodes l.classes l.start t → Writing l.nodes l.classes t l.list.items l.pending.items

abbrev pub decreases-loop-place : goal.decreases-loop-place
decreases-loop-place l = 4096 - vec_len l.list
