-- How steps run.
use Rattle.std.proofs.Common.{◌≡◌, ℕ, ◌+◌, ◌≤◌, ◌<◌, List, [], ◌∷◌, length, take, drop, get_or, refl, ap, sym, ◌∙◌, arith, subst}
use Rattle.std.proofs.lemmas.Grind.{common_steps}
use Rattle.uc_table.specs.Algebras.{place_of}
use Rattle.uc_table.specs.Tables.{AreValues}
use Rattle.uc_table.proofs.Lists.{got, dropped}
use Rattle.std.specs.Prelude.{◌-◌, nat_lt, slice_get, Some, None}
use Rattle.std.proofs.Common.{false, inl, inr}
use Rattle.std.proofs.Math.ListN.{set, length-set, drop_of_length-le}
use Rattle.std.proofs.lemmas.List.{drop-set}
use Rattle.std.proofs.lemmas.Bool.{cases_Bool, ltb-true}
use Rattle.uc_table.specs.declared.search_steps.Step.TheVariants.{Apply}
use Rattle.uc_table.specs.SearchSteps.{Ran, stops, waits, take_step, run, IsTaken}
use Rattle.uc_table.specs.declared.search_steps.Step.{Step}
use Rattle.uc_table.specs.declared.search_steps.Taken.TheVariants as taken
use Rattle.std.proofs.lemmas.Option.{slice_get-get_or, slice_get_past}
use Rattle.std.proofs.lemmas.List.{length-drop}

pub not_lt : (m n : ℕ) → n ≤ m → nat_lt m n ≡ false
not_lt m n h = elim (cases_Bool (nat_lt m n)) [
  | inl b ↦ (let l : m < n = ltb-true m n b in absurd (omega arith))
  | inr b ↦ b
]

-- the arguments are on the stack, and the cell has a value
pub applies : (size a : ℕ) (prefix stack : List ℕ) (first n place v : ℕ) → n ≤ length stack → place ≡ place_of size (take n stack) → slice_get prefix (first + place) ≡ Some v → take_step size a prefix (Apply first n) stack ≡ stops (v ∷ drop n stack)
applies size a prefix stack first n place v l e g = rw (not_lt (length stack) n l, ← e, g) refl

-- the cell has no value yet
pub waits_at : (size a : ℕ) (prefix stack : List ℕ) (first n place : ℕ) → n ≤ length stack → place ≡ place_of size (take n stack) → slice_get prefix (first + place) ≡ None → take_step size a prefix (Apply first n) stack ≡ waits (first + place)
waits_at size a prefix stack first n place l e g = rw (not_lt (length stack) n l, ← e, g) refl

module _ (size a : ℕ) (prefix stack : List ℕ) (top first n place : ℕ) (room : 1 ≤ top) (within : top + n ≤ length stack) (e : place ≡ place_of size (take n (drop top stack))) where
  enough : n ≤ length (drop top stack)
  enough = let d : length (drop top stack) ≡ length stack - top = length-drop top stack in omega arith

  drop_both : drop n (drop top stack) ≡ drop (top + n) stack
  drop_both = grind (arith, common_steps)

  -- a value stands in place of the arguments
  pub takes_value : (v : ℕ) → first + place < length prefix → v ≡ get_or prefix (first + place) 0 → AreValues size prefix → AreValues size (drop top stack) → IsTaken size top (set stack (top + n - 1) v) (take_step size a prefix (Apply first n) (drop top stack)) (taken.Top (top + n - 1))
  takes_value v l g p s =
      let m : top + n - 1 + 1 ≡ top + n = omega arith in
      let d : drop (top + n - 1) (set stack (top + n - 1) v) ≡ v ∷ drop (top + n - 1 + 1) stack = drop-set stack (top + n - 1) v (omega arith) in
      let f : drop (top + n - 1) (set stack (top + n - 1) v) ≡ v ∷ drop n (drop top stack) = d ∙ ap (λ k. v ∷ drop k stack) m ∙ ap (λ r. v ∷ r) (sym drop_both) in
      let b : get_or prefix (first + place) 0 < size = got size (first + place) 0 prefix p l in
      let w : v < size = subst (λ z. z < size) (sym g) b in
      record {
        is = applies size a prefix (drop top stack) first n place v enough e (slice_get-get_or prefix (first + place) 0 l ∙ ap Some (sym g)) ∙ ap stops (sym f);
        room = omega arith;
        within = (let z : length (set stack (top + n - 1) v) ≡ length stack = length-set stack (top + n - 1) v in omega arith);
        live = subst (AreValues size) (sym f) (w, dropped size n (drop top stack) s);
      }

  -- the cell has no value yet
  pub takes_none : length prefix ≤ first + place → take_step size a prefix (Apply first n) (drop top stack) ≡ waits (first + place)
  takes_none l = waits_at size a prefix (drop top stack) first n place enough e (slice_get_past prefix (first + place) l)

-- a stack of another length than 2 has no values of two sides
pub never : (ran : Ran) (stack : List ℕ) → ran ≡ stops stack → (length stack ≡ 2 → ⊥) → ((left right : ℕ) → ran ≡ stops (left ∷ right ∷ []) → ⊥) × ((cell : ℕ) → ran ≡ waits cell → ⊥)
never ran stack e n = (λ left right f. (let g : stack ≡ left ∷ right ∷ [] = cc in n (ap length g)), λ cell f. cc)

pub never_at : (size a : ℕ) (prefix list : List ℕ) (steps : List Step) (top i : ℕ) (ran : Ran) → ran ≡ run size a prefix (drop i steps) (drop top list) → length steps ≤ i → top ≤ length list → (length list - top ≡ 2 → ⊥) → ((left right : ℕ) → ran ≡ stops (left ∷ right ∷ []) → ⊥) × ((cell : ℕ) → ran ≡ waits cell → ⊥)
never_at size a prefix list steps top i ran e l w n =
    let d : drop i steps ≡ [] = drop_of_length-le steps l in
    let f : ran ≡ stops (drop top list) = e ∙ ap (λ ss. run size a prefix ss (drop top list)) d in
    never ran (drop top list) f (λ g. n (sym (length-drop top list) ∙ g))
