use Rattle.std.proofs.Common.{◌≡◌, ◌*◌, ◌≤◌, take, sum_by}
use Rattle.uc_term.specs.Subst.{image, image_nodes}
use Rattle.uc_term.proofs.subst.instance_size.Given as goal

abbrev pub invariant-loop-n : goal.invariant-loop-n
invariant-loop-n l = record {
  sum : l.size ≡ sum_by (image_nodes (image l.subst)) (take l.n-index l.pattern);
  small : l.size ≤ 4096 * l.n-index;
}
