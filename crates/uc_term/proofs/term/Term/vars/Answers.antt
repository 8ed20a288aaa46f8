use Rattle.std.proofs.Common.{◌∙◌}
use Rattle.uc_term.proofs.NodeVars.{seen_var, seen_app, firsts_list}
use Rattle.uc_term.proofs.term.Term.vars.Goals as goal
use Rattle.uc_term.proofs.term.Term.vars.Goals.{in-Var+in_ok-insert-in-Var, in-App}

pub loop-n-preserved : goal.loop-n-preserved
loop-n-preserved c =
    elim c.match-n.branch [
      | in-Var+in_ok-insert-in-Var w ↦ rw w.seen-is (seen_var c.as_nodes-nodes.result.now c.loop-n.n-index w.in-Var.x _ c.loop-n.seen.keys _ c.loop-n-test.true w.in-Var.is c.loop-n.invariant w.in_ok-insert-in-Var.ensures.keys)
      | in-App w ↦ rw w.seen-is (seen_app c.as_nodes-nodes.result.now c.loop-n.n-index w.in-App.field-0 w.in-App.field-1 _ c.loop-n.seen.keys c.loop-n-test.true w.in-App.is c.loop-n.invariant)
    ]

pub returns : goal.returns
returns c = c.from_vec.ensures ∙ c.in_ok-from_slice.ensures.items ∙ c.as_slice.ensures.keys ∙ firsts_list c.as_nodes-nodes.result.now c.args.self.now c.loop-n.n-index c.loop-n.seen.keys c.as_nodes-nodes.ensures.value c.loop-n-test.false c.loop-n.invariant
