use Rattle.std.proofs.Common.{refl}
use Rattle.uc_term.specs.declared.node.Node.TheVariants.{Var}
use Rattle.uc_kbo.proofs.Covering.{covered_more, covered_var, covered_app, all_covered}
use Rattle.uc_kbo.proofs.covers.has_all_variables.Goals as goal
use Rattle.uc_kbo.proofs.covers.has_all_variables.Goals.{in-Var+else-occurrences, in_default}

pub loop-n-preserved : goal.loop-n-preserved
loop-n-preserved c =
    let s = c.args.s.now in
    let t = c.args.t.now in
    covered_more s t t c.loop-n.n-index (Var 0) c.loop-n-test.true c.loop-n.invariant (elim c.match-n.branch [
      | in-Var+else-occurrences w ↦ covered_var s t _ w.in-Var.x w.in-Var.is (rw (← w.occurrences.ensures, ← w.occurrences-in-Var.ensures) w.if-occurrences.false)
      | in_default w ↦ covered_app s t _ _ _ w.in_default.is
    ])

pub returns : goal.returns
returns c = (λ _. all_covered c.args.s.now c.args.t.now c.loop-n.n-index c.loop-n-test.false c.loop-n.invariant, λ _. refl)
