-- The tests of a line have one outcome, the first line that fails is one, and so is the answer.
use Rattle.std.proofs.Common.{◌≡◌, ℕ, ◌<◌, ◌⊎◌, inl, inr, List, length, Option, Some, None, Result, [], ◌∷◌, Ok, Err, refl, sym, ap, ◌∙◌, subst, arith}
use Rattle.std.proofs.lemmas.Option.{slice_get_within}
use Rattle.uc_term.specs.declared.fresh.Fresh.{Fresh}
use Rattle.uc_term.specs.Tree.{Tree}
use Rattle.uc_clause.specs.declared.clause.Sourced.{Sourced}
use Rattle.uc_check.specs.declared.proof.Line.{Line}
use Rattle.uc_check.specs.declared.proof.LineStep.{LineStep}
use Rattle.uc_check.specs.declared.proof.LineSource.{LineSource}
use Rattle.uc_check.specs.declared.proof.LineSource.TheVariants.{File, Chain, Reflexive, EncodeGoal, Refute}
use Rattle.uc_check.specs.declared.checker.Cause.{Cause}
use Rattle.uc_check.specs.declared.checker.Checked.{Checked}
use Rattle.uc_check.specs.Tests.{Test, passes, fails}
use Rattle.uc_check.specs.Replacements.{Leads}
use Rattle.uc_check.specs.Lines.{Passed, EndsRight, StepsTested, Tested}
use Rattle.uc_check.specs.Checks.{IsRightLine, AreRightBefore, FailsFirst, FirstFailure, IsChecked, accepted, rejected, no_line, no_refutation}

test_once : {O : Type 0} (P : Type 0) (failed : O) (behind : O → Type 0) → ((a b : O) → behind a → behind b → a ≡ b) → (a b : O) → Test P failed behind a → Test P failed behind b → a ≡ b
test_once P failed behind once a b (passes p x) (passes q y) = once a b x y
test_once P failed behind once a _ (passes p x) (fails n) = absurd (n p)
test_once P failed behind once _ b (fails n) (passes p x) = absurd (n p)
test_once P failed behind once _ _ (fails n) (fails m) = refl

-- what steps come to
pub leads_once : (lines : List Line) (k : ℕ) (t : Tree) (steps : List LineStep) (a b : Result Tree Cause) → Leads lines k t steps a → Leads lines k t steps b → a ≡ b
leads_once lines k t [] a b x y = x ∙ sym y
leads_once lines k t (step ∷ steps) a b x y = test_once _ _ _ (test_once _ _ _ (leads_once lines k step.to steps)) a b x y

pub neither : {A B : Type 0} → (A → ⊥) → (B → ⊥) → A ⊎ B → ⊥
neither f g (inl a) = f a
neither f g (inr b) = g b

passed_once : (a b : Option Cause) → Passed a → Passed b → a ≡ b
passed_once a b x y = x ∙ sym y

module _ (clauses : List Sourced) (fresh : Option Fresh) (lines : List Line) (k : ℕ) (line : Line) where
  ends_once : (steps : List LineStep) (parents : List ℕ) (end : Result Tree Cause) (a b : Option Cause) → EndsRight clauses fresh lines k line steps parents end a → EndsRight clauses fresh lines k line steps parents end b → a ≡ b
  ends_once steps parents (Ok end) a b x y = test_once _ _ _ (test_once _ _ _ passed_once) a b x y
  ends_once steps parents (Err cause) a b x y = x ∙ sym y

  steps_once : (start : Tree) (steps : List LineStep) (parents : List ℕ) (a b : Option Cause) → StepsTested clauses fresh lines k line start steps parents a → StepsTested clauses fresh lines k line start steps parents b → a ≡ b
  steps_once start steps parents a b x y = ends_once steps parents x.end a b x.ends (subst (λ e. EndsRight clauses fresh lines k line steps parents e b) (leads_once lines k start steps y.end x.end y.leads x.leads) y.ends)

  pub tested_once : (source : LineSource) (a b : Option Cause) → Tested clauses fresh lines k line source a → Tested clauses fresh lines k line source b → a ≡ b
  tested_once (File name) a b x y = test_once _ _ _ passed_once a b x y
  tested_once (Chain start steps parents) a b x y = test_once _ _ _ (steps_once start steps parents) a b x y
  tested_once (Reflexive parents) a b x y = test_once _ _ _ (test_once _ _ _ passed_once) a b x y
  tested_once (EncodeGoal parents) a b x y = test_once _ _ _ (test_once _ _ _ passed_once) a b x y
  tested_once (Refute parents) a b x y = test_once _ _ _ (test_once _ _ _ passed_once) a b x y

module _ (clauses : List Sourced) (fresh : Option Fresh) (lines : List Line) where
  -- a line that is right doesn't fail
  right_and_wrong : (k : ℕ) (cause : Cause) → IsRightLine clauses fresh lines k → FailsFirst clauses fresh lines k cause → ⊥
  right_and_wrong k cause r f = let q = tested_once clauses fresh lines k f.line f.line.source None (Some cause) (r f.line f.line_is) f.test in let e : None ≡ Some cause = q in absurd cc

  none_fails : (k : ℕ) (cause : Cause) → AreRightBefore clauses fresh lines (length lines) → FailsFirst clauses fresh lines k cause → ⊥
  none_fails k cause all f = right_and_wrong k cause (all k (slice_get_within lines k f.line f.line_is)) f

  fails_once : (j k : ℕ) (a b : Cause) → FailsFirst clauses fresh lines j a → FailsFirst clauses fresh lines k b → (j ≡ k) × (a ≡ b)
  fails_once j k a b f g = go order
    where
      order : (j ≡ k) ⊎ ((j < k) ⊎ (k < j))
      order = grind arith

      go : (j ≡ k) ⊎ ((j < k) ⊎ (k < j)) → (j ≡ k) × (a ≡ b)
      go (inr (inl l)) = absurd (right_and_wrong j a (g.before j l) f)
      go (inr (inr l)) = absurd (right_and_wrong k b (f.before k l) g)
      go (inl e) =
          let f' : FailsFirst clauses fresh lines k a = subst (λ (n : ℕ). FailsFirst clauses fresh lines n a) e f in
          let same : f'.line ≡ g.line = let p = f'.line_is in let q = g.line_is in cc in
          let test : Tested clauses fresh lines k g.line g.line.source (Some a) = subst (λ (l : Line). Tested clauses fresh lines k l l.source (Some a)) same f'.test in
          let q : Some a ≡ Some b = tested_once clauses fresh lines k g.line g.line.source (Some a) (Some b) test g.test in
          (e, cc)

  pub first_once : (a b : Option (ℕ × Cause)) → FirstFailure clauses fresh lines a → FirstFailure clauses fresh lines b → a ≡ b
  first_once None None f g = refl
  first_once None (Some y) f g = absurd (none_fails y.0 y.1 f g)
  first_once (Some x) None f g = absurd (none_fails x.0 x.1 g f)
  first_once (Some x) (Some y) f g = let q = fails_once x.0 y.0 x.1 y.1 f g in pair x y q.0 q.1
    where
      pair : (x y : ℕ × Cause) → x.0 ≡ y.0 → x.1 ≡ y.1 → Some x ≡ Some y
      pair (i, a) (j, b) p q = let p' : i ≡ j = p in let q' : a ≡ b = q in cc

  pub checked_once : {a b : Checked} → IsChecked clauses fresh lines a → IsChecked clauses fresh lines b → a ≡ b
  checked_once (accepted r e) (accepted r' e') = refl
  checked_once (accepted r e) (rejected {k = k} {cause = c} f) = absurd (none_fails k c r f)
  checked_once (accepted r e) (no_line n) = absurd (let l = e.last_is in omega (arith, ap length n))
  checked_once (accepted r e) (no_refutation r' l n) = absurd (n e)
  checked_once (rejected {k = k} {cause = c} f) (accepted r e) = absurd (none_fails k c r f)
  checked_once (rejected {k = j} {cause = a} f) (rejected {k = k} {cause = b} g) = let q = fails_once j k a b f g in let p = q.0 in let r = q.1 in cc
  checked_once (rejected {k = k} {cause = c} f) (no_line n) = absurd (let l = slice_get_within lines k f.line f.line_is in omega (arith, ap length n))
  checked_once (rejected {k = k} {cause = c} f) (no_refutation r l n) = absurd (none_fails k c r f)
  checked_once (no_line n) (accepted r e) = absurd (let l = e.last_is in omega (arith, ap length n))
  checked_once (no_line n) (rejected {k = k} {cause = c} f) = absurd (let l = slice_get_within lines k f.line f.line_is in omega (arith, ap length n))
  checked_once (no_line n) (no_line n') = refl
  checked_once (no_line n) (no_refutation {last = i} r l n') = absurd (omega (arith, ap length n))
  checked_once (no_refutation r l n) (accepted r' e) = absurd (n e)
  checked_once (no_refutation r l n) (rejected {k = k} {cause = c} f) = absurd (none_fails k c r f)
  checked_once (no_refutation {last = i} r l n') (no_line n) = absurd (omega (arith, ap length n))
  checked_once (no_refutation {last = i} r l n) (no_refutation {last = j} r' l' n') = let e : i ≡ j = omega arith in cc
