-- The lines that are named for facts, one after another.
use Rattle.std.proofs.Common.{◌≡◌, ℕ, ◌+◌, ◌<◌, ◌⊎◌, inl, inr, List, slice_get, Some, None, sym, ap, ◌∙◌, subst, arith}
use Rattle.uc_term.specs.declared.equation.Equation.{Equation}
use Rattle.uc_check.specs.declared.proof.Line.{Line}
use Rattle.uc_check.specs.Lines.{IsDerived}
use Rattle.uc_certify.specs.Certifying.{IsDerivedFact, AreDerivedBefore}

number_same : (x y : ℕ) → Some x ≡ Some y → x ≡ y
number_same x y e = cc

line_same : (x y : Line) → Some x ≡ Some y → x ≡ y
line_same x y e = cc

fact_same : (x y : Equation) → Some x ≡ Some y → x ≡ y
fact_same x y e = cc

no_some : {A : Type 0} (x : A) → Some x ≡ None → ⊥
no_some x e = absurd cc

module _ (numbers : List ℕ) (lines : List Line) where
  module _ (k : ℕ) (fact : Equation) where
    pub no_number : slice_get numbers k ≡ None → IsDerivedFact numbers lines k fact → ⊥
    no_number n d = no_some d.number (sym d.number_is ∙ n)

    module _ (number : ℕ) (at : slice_get numbers k ≡ Some number) where
      line_at : (d : IsDerivedFact numbers lines k fact) → slice_get lines number ≡ Some d.line
      line_at d = subst (λ (n : ℕ). slice_get lines n ≡ Some d.line) (number_same d.number number (sym d.number_is ∙ at)) d.line_is

      pub no_line : slice_get lines number ≡ None → IsDerivedFact numbers lines k fact → ⊥
      no_line n d = no_some d.line (sym (line_at d) ∙ n)

      module _ (line : Line) (there : slice_get lines number ≡ Some line) where
        pub derived_of : IsDerived line → line.left ≡ fact.left → line.right ≡ fact.right → IsDerivedFact numbers lines k fact
        derived_of d l r = record { number = number; number_is = at; line = line; line_is = there; derived = d; left_is = l; right_is = r }

        pub of_derived : IsDerivedFact numbers lines k fact → IsDerived line × (line.left ≡ fact.left) × (line.right ≡ fact.right)
        of_derived d =
            let same : d.line ≡ line = line_same d.line line (sym (line_at d) ∙ there) in
            subst (λ (x : Line). IsDerived x × (x.left ≡ fact.left) × (x.right ≡ fact.right)) same (d.derived, d.left_is, d.right_is)

  module _ (facts : List Equation) where
    pub derived_next : (k : ℕ) (fact : Equation) → slice_get facts k ≡ Some fact → IsDerivedFact numbers lines k fact → AreDerivedBefore numbers lines facts k → AreDerivedBefore numbers lines facts (k + 1)
    derived_next k fact at d before j e h there = go order
      where
        order : (j < k) ⊎ (k ≡ j)
        order = grind arith

        go : (j < k) ⊎ (k ≡ j) → IsDerivedFact numbers lines j e
        go (inl l) = before j e l there
        go (inr q) =
            let same : fact ≡ e = fact_same fact e (sym at ∙ ap (slice_get facts) q ∙ there) in
            subst (λ (n : ℕ). IsDerivedFact numbers lines n e) q (subst (IsDerivedFact numbers lines k) same d)

    pub derived_none : AreDerivedBefore numbers lines facts 0
    derived_none k e h at = absurd (omega arith)
