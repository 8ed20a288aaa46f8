-- A convergent system decides what follows from the axioms.
use Rattle.std.proofs.Common.{◌≡◌, ℕ, zero, suc, ◌+◌, Bool, not, List, [], ◌∷◌, filter, slice_get, Some, refl, sym, subst, inl, inr}
use Rattle.std.proofs.lemmas.Bool.{cases_Bool}
use Rattle.uc_term.specs.Conversion.{Conv}
use Rattle.uc_term.specs.declared.equation.Equation.{Equation}
use Rattle.uc_order.specs.Laws.{Meaning, Laws, HasSym}
use Rattle.uc_fact.specs.declared.fact.System.{System}
use Rattle.uc_fact.specs.Ground.{AreOfSignature}
use Rattle.uc_fact.specs.Live.{Live, equations_of, numbered_from}
use Rattle.uc_rewrite.specs.Replay.{FactsReplay}
use Rattle.uc_shelf.specs.declared.entry.Entry.{Entry}
use Rattle.uc_shelf.specs.Entries.{born, is_dead, equations, live}
use Rattle.uc_decide.specs.Converging.{FollowFrom, Converge}
use Rattle.uc_decide.specs.Deciding.{Decides}
use Rattle.uc_decide.proofs.Classes.{decides}
use Rattle.uc_decide.proofs.Derived.{facts_follow}
use Rattle.uc_machine.specs.declared.task.Outcome.TheVariants.{Convergent}
use Rattle.uc_machine.specs.State.{State}
use Rattle.uc_machine.specs.Finals.{IsFinal}
use Rattle.uc_final.proofs.Converged.{facts_are, converged}

module _ (P : Equation → Type 0) where
  -- what holds of all equations holds of those that are left
  abbrev All : List Equation → Type 0
  All es = (n : ℕ) (e : Equation) → slice_get es n ≡ Some e → P e

  with_first : (y : Equation) (ys : List Equation) → P y → All ys → All (y ∷ ys)
  with_first y ys here later zero e at = (let same : y ≡ e = cc in subst P same here)
  with_first y ys here later (suc k) e at = later k e at

  all_numbered : (n : ℕ) (es : List Equation) (p : Live → Bool) → All es → All (equations_of (filter p (numbered_from n es)))
  all_numbered n [] p h = λ k e at. absurd (cc)
  all_numbered n (x ∷ es) p h =
      let rest : All (equations_of (filter p (numbered_from (n + 1) es))) = all_numbered (n + 1) es p (λ k e at. h (suc k) e at) in
      elim (cases_Bool (p (record { number = n; equation = x }))) as (λ _. All (equations_of (filter p (numbered_from n (x ∷ es))))) [
        | inl b ↦ rw b (with_first x (equations_of (filter p (numbered_from (n + 1) es))) (h 0 x refl) rest)
        | inr b ↦ rw b rest
      ]

live_follow : (axioms : List Equation) (es : List Entry) → FactsReplay axioms (born es) → FollowFrom axioms (equations_of (live es))
live_follow axioms es r = all_numbered (λ (e : Equation). Conv axioms e.left e.right) 0 (equations es) (λ f. not (is_dead es f.number)) (facts_follow axioms (born es) r)

pub convergent_decides : (m : Meaning) (laws : Laws m) (axioms : List Equation) (s : State) (system : System) → IsFinal m axioms s (Convergent system) → FactsReplay axioms (born s.entries) → AreOfSignature (HasSym m) m.arity system.facts → AreOfSignature (HasSym m) m.arity axioms → Decides m system.facts axioms
convergent_decides m laws axioms s system f replays over axioms_over =
    let is = facts_are m axioms s (Convergent system) system refl f in
    let live_over = subst (AreOfSignature (HasSym m) m.arity) is over in
    let c = converged m laws axioms s (Convergent system) system refl f live_over in
    let all : Converge m (live s.entries) axioms = record { rising = c.rising; overlaps = c.overlaps_join; axioms_join = c.axioms_join; facts_follow = live_follow axioms s.entries replays } in
    subst (λ es. Decides m es axioms) (sym is) (decides m laws (live s.entries) axioms all live_over axioms_over)
