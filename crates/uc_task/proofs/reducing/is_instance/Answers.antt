use Rattle.uc_task.specs.Reducing.{Gives}
use Rattle.uc_task.proofs.Reduced.{both_given, gives_by}
use Rattle.uc_task.proofs.reducing.is_instance.Goals as goal

pub returns : goal.returns
returns c =
    gives_by (Gives c.args.left.now c.args.right.now c.args.other.now) c.in_ok-both.both c.is_some.result c.is_some.ensures
    (both_given c.args.left.now c.args.right.now c.args.other.now c.as_nodes.result.now c.as_nodes-2.result.now c.as_nodes-3.result.now c.as_nodes-4.result.now c.in_ok-both.both c.as_nodes.ensures.tree c.as_nodes-2.ensures.tree c.as_nodes-3.ensures.tree c.as_nodes-4.ensures.tree c.in_ok-both.ensures)
