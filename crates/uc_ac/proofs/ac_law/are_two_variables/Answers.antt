use Rattle.std.proofs.Common.{◌≢◌, ◌↔◌, ℕ, ◌==◌, false, not, IsTrue, refl, sym, subst, subst₂}
use Rattle.std.proofs.lemmas.Bool.{eq-eqb, ne_eqb}
use Rattle.uc_term.specs.declared.node.Node.{Node}
use Rattle.uc_ac.specs.AcLaw.{AreTwoVariables}
use Rattle.uc_ac.proofs.ac_law.are_two_variables.Goals as goal

never : {A : Type 0} → IsTrue false → A
never h = absurd cc

differ : (x y : ℕ) → IsTrue (not (x == y)) ↔ (x ≢ y)
differ x y = (λ h e. never (subst (λ b. IsTrue (not b)) (eq-eqb x y e) h), λ n. subst (λ b. IsTrue (not b)) (sym (ne_eqb x y n)) refl)

pub returns-in-Var-Var : goal.returns-in-Var-Var
returns-in-Var-Var c = subst₂ (λ (a b : Node). IsTrue (not (c.in-Var-Var.x == c.in-Var-Var.y)) ↔ AreTwoVariables a b) (sym c.in-Var-Var.is-0) (sym c.in-Var-Var.is-1) (differ c.in-Var-Var.x c.in-Var-Var.y)
