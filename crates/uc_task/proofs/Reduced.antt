-- Whether an equation reduces another one, by its cases.
use Rattle.std.proofs.Common.{◌≡◌, ℕ, ◌↔◌, Bool, IsTrue, is_some, List, [], ◌∷◌, Option, Some, None, MatchOption, sym, ap, ◌∙◌, subst}
use Rattle.uc_term.specs.declared.node.Node.{Node}
use Rattle.uc_term.specs.declared.equation.Equation.{Equation}
use Rattle.uc_term.specs.declared.equation.Side.{Side}
use Rattle.uc_term.specs.declared.equation.Side.TheVariants.{Left, Right}
use Rattle.uc_term.specs.Tree.{Tree, apply}
use Rattle.uc_term.specs.Flat.{tree_of}
use Rattle.uc_term.specs.Subst.{image}
use Rattle.uc_unify.specs.Matching.{IsMatchOfBoth, HasNoMatchOfBoth}
use Rattle.uc_order.specs.Laws.{Meaning}
use Rattle.uc_fact.specs.Live.{numbered, equations_of}
use Rattle.uc_fact.specs.Ordered.{OStep, IsIrreducible}
use Rattle.uc_rewrite.specs.Ends.{CanStep}
use Rattle.uc_rewrite.proofs.Unique.{step_falls}
use Rattle.uc_unify.proofs.Decided.{never, always}
use Rattle.uc_machine.specs.Results.{Reduces, in_left, in_right, has_instance, StepsIn, IsInstanceFrom}
use Rattle.uc_task.specs.Reducing.{Gives, HasInstance}

-- whether an equation makes a step in a term
module _ (m : Meaning) (e : Equation) (es : List Equation) (t : Tree) (one : es ≡ e ∷ []) where
  pub no_step_in : IsIrreducible m.greater m.least (equations_of (numbered es)) t → StepsIn m e t → ⊥
  no_step_in n s = subst (λ l. IsIrreducible m.greater m.least (equations_of (numbered l)) t) one n s.v s.step

  pub step_in : CanStep m.greater m.least (numbered es) t → StepsIn m e t
  step_in s = record { v = s.v; step = subst (λ l. OStep m.greater m.least (equations_of (numbered l)) t s.v) one (step_falls m.greater m.least (numbered es) t s.at s.rule s.v s.first) }

-- the pairs of a match of both sides
pub both_given : (l r : Tree) (e : Equation) (a b c d : List Node) (found : Option (List (ℕ × Tree))) → tree_of a ≡ l → tree_of b ≡ e.left → tree_of c ≡ r → tree_of d ≡ e.right → MatchOption found (HasNoMatchOfBoth (tree_of a) (tree_of b) (tree_of c) (tree_of d)) (IsMatchOfBoth (tree_of a) (tree_of b) (tree_of c) (tree_of d)) → MatchOption found (Gives l r e → ⊥) (λ _. Gives l r e)
both_given l r e a b c d None ea eb ec ed h =
    λ g. h g.σ (ap (apply g.σ) ea ∙ sym g.left_is ∙ sym eb) (ap (apply g.σ) ec ∙ sym g.right_is ∙ sym ed)
both_given l r e a b c d (Some pairs) ea eb ec ed h =
    record { σ = image pairs; left_is = sym eb ∙ sym h.left_gives ∙ ap (apply (image pairs)) ea; right_is = sym ed ∙ sym h.right_gives ∙ ap (apply (image pairs)) ec }

pub gives_by : {A : Type 0} (P : Type 0) (found : Option A) (answer : Bool) → answer ≡ is_some found → MatchOption found (P → ⊥) (λ _. P) → IsTrue answer ↔ P
gives_by P None answer e h = subst (λ b. IsTrue b ↔ P) (sym e) (never h)
gives_by P (Some x) answer e h = subst (λ b. IsTrue b ↔ P) (sym e) (always h)

-- either way round
pub given_forth : (e f : Equation) → Gives e.left e.right f → HasInstance e f
given_forth e f g = record { side = Left; is = record { σ = g.σ; first_is = g.left_is; second_is = g.right_is } }

pub given_back : (e f : Equation) → Gives e.right e.left f → HasInstance e f
given_back e f g = record { side = Right; is = record { σ = g.σ; first_is = g.left_is; second_is = g.right_is } }

pub instance_back : (e f : Equation) → (Gives e.left e.right f → ⊥) → HasInstance e f → Gives e.right e.left f
instance_back e f n h = go h.side h.is
  where
    go : (side : Side) → IsInstanceFrom e side f.left f.right → Gives e.right e.left f
    go Left i = absurd (n (record { σ = i.σ; left_is = i.first_is; right_is = i.second_is }))
    go Right i = record { σ = i.σ; left_is = i.first_is; right_is = i.second_is }

-- the three ways of reducing
pub reduces_by_instance : (m : Meaning) (e f : Equation) (answer : Bool) → (StepsIn m e f.left → ⊥) → (StepsIn m e f.right → ⊥) → (IsTrue answer ↔ HasInstance e f) → IsTrue answer ↔ Reduces m e f
reduces_by_instance m e f answer nl nr h = (λ t. (let i = h.0 t in has_instance i.side i.is), λ r. h.1 (last r))
  where
    last : Reduces m e f → HasInstance e f
    last (in_left s) = absurd (nl s)
    last (in_right s) = absurd (nr s)
    last (has_instance side i) = record { side = side; is = i }
