use Rattle.std.proofs.Common.{◌≡◌, ◌≤◌, ◌*◌, take, length}
use Rattle.std.specs.List.{flat_map}
use Rattle.uc_term.proofs.Instances.{node_image}
use Rattle.uc_rewrite.specs.Completed.{completed}
use Rattle.uc_rewrite.proofs.completed.fill_completed.Given as goal

abbrev pub invariant-loop-node : goal.invariant-loop-node
invariant-loop-node l = record {
  made : l.list.items ≡ flat_map (node_image (completed l.least l.subst)) (take l.node-index l.pattern);
  few : length l.list.items ≤ 4096 * l.node-index;
}
