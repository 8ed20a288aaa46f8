use Rattle.uc_unify.proofs.Solving.{solving_app, solving_var, solving_ends}
use Rattle.uc_unify.proofs.unification.solution.Goals as goal
use Rattle.uc_unify.proofs.unification.solution.Goals.{in-Var+in_ok-add_variable-in-Var, in-App}

pub loop-place-preserved : goal.loop-place-preserved
loop-place-preserved c =
    elim c.match-nodes-place.branch [
      | in-Var+in_ok-add_variable-in-Var w ↦ rw w.subst-is (solving_var c.args.nodes.now c.args.classes.now c.requires.classes c.loop-place.place _ c.loop-place-test.true c.loop-place.subst c.loop-place.invariant w.in-Var.x w.add_variable.new.subst w.in-Var.is w.in_ok-add_variable-in-Var.ensures)
      | in-App w ↦ rw w.subst-is (solving_app c.args.nodes.now c.args.classes.now c.requires.classes c.loop-place.place _ c.loop-place-test.true c.loop-place.subst c.loop-place.invariant w.in-App.field-0 w.in-App.field-1 w.in-App.is)
    ]

pub returns : goal.returns
returns c = solving_ends c.args.nodes.now c.args.classes.now c.loop-place.place c.loop-place.subst c.loop-place-test.false c.loop-place.invariant
