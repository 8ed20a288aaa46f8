use Rattle.std.proofs.Common.{◌∙◌}
use Rattle.uc_problem.proofs.TakenKeys.{has_functor, functor_here, variable_here}
use Rattle.uc_problem.proofs.closing.take_names.Goals as goal
use Rattle.uc_problem.proofs.closing.take_names.Goals.{in-App+in_ok-from_slice+in_ok-insert, in_default}

pub name-requires : goal.name-requires
name-requires c = has_functor c.args.symbols.now c.args.term.now c.as_nodes-node-items.result.now c.loop-node.node-index c.in-App.f c.in-App.field-1 c.requires c.as_nodes-node-items.ensures.value c.loop-node-test.true c.in-App.is

pub loop-node-preserved : goal.loop-node-preserved
loop-node-preserved c = elim c.match-node.branch [
  | in-App+in_ok-from_slice+in_ok-insert w ↦
      λ name. c.loop-node.invariant name ∙ functor_here c.args.symbols.now c.as_nodes-node-items.result.now c.loop-node.node-index c.loop-node-test.true c.loop-node.names.keys name c.match-node.names.keys w.in-App.f w.in-App.field-1 w.in_ok-from_slice.field-0 w.in-App.is (w.in_ok-from_slice.ensures.items ∙ w.name.ensures) (rw (w.names-is) w.in_ok-insert.ensures.keys)
  | in_default w ↦ λ name. c.loop-node.invariant name ∙ rw (w.names-is) (variable_here c.args.symbols.now c.as_nodes-node-items.result.now c.loop-node.node-index c.loop-node-test.true c.loop-node.names.keys name w.in_default.field-0 w.in_default.is)
]
