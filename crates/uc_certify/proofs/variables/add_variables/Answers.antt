use Rattle.uc_ground.proofs.Rising.{more_var, more_app, all_vars}
use Rattle.uc_certify.proofs.variables.add_variables.Goals as goal
use Rattle.uc_certify.proofs.variables.add_variables.Goals.{in-Var+in_ok-push-in-Var, in-App}

pub loop-node-preserved : goal.loop-node-preserved
loop-node-preserved c =
    elim c.match-node.branch [
      | in-Var+in_ok-push-in-Var w ↦ rw w.vars-is (more_var c.args.vars.now.items c.loop-node.vars.items _ c.as_nodes-nodes.result.now c.loop-node.node-index w.in-Var.x _ c.loop-node.invariant.0 c.loop-node.invariant.1 c.loop-node-test.true w.in-Var.is w.in_ok-push-in-Var.ensures.items)
      | in-App w ↦ rw w.vars-is (more_app c.args.vars.now.items c.loop-node.vars.items c.as_nodes-nodes.result.now c.loop-node.node-index w.in-App.field-0 w.in-App.field-1 _ c.loop-node.invariant.0 c.loop-node.invariant.1 c.loop-node-test.true w.in-App.is)
    ]

pub returns-clause-all : goal.returns-clause-all
returns-clause-all c = all_vars c.args.vars.now.items c.loop-node.vars.items c.as_nodes-nodes.result.now c.args.term.now c.loop-node.node-index c.as_nodes-nodes.ensures.value c.loop-node-test.false c.loop-node.invariant.0
