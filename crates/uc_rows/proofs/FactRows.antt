-- The rows of the facts when one changes or is added.
use Rattle.std.proofs.Common.{◌≡◌, ℕ, zero, suc, ◌+◌, ◌<◌, ◌≤◌, ◌^◌, List, [], ◌∷◌, ◌++◌, length, get_or, set, Bool, true, false, ◌==◌, Some, None, refl, ap, sym, ◌∙◌, arith, inl, inr, slice_get}
use Rattle.std.specs.Prelude.{◌||◌}
use Rattle.std.proofs.lemmas.Bool.{cases_eq, cases_order}
use Rattle.std.proofs.lemmas.List.{length-set, length_push, get_or-set_same, get_or-set_other, get_or_append_left}
use Rattle.uc_term.specs.Tree.{nodes}
use Rattle.uc_fact.specs.declared.fact.Fact.{Fact}
use Rattle.uc_shelf.specs.declared.entry.Entry.{Entry}
use Rattle.uc_shelf.specs.declared.entry.Entry.TheVariants.{Born, Dies}
use Rattle.uc_shelf.specs.Entries.{born, is_dead}
use Rattle.uc_rows.specs.declared.facts.FactRow.{FactRow}
use Rattle.uc_machine.specs.State.{is_unmet}
use Rattle.uc_machine.specs.Effects.{sides_weight}
use Rattle.uc_machine.specs.declared.state.Meeting.{Meeting}
use Rattle.uc_machine.specs.Lists.{At, first, map_option}
use Rattle.uc_rows.specs.FactRows.{dead_in, weight_in, meetings_of, AreRows, NoneUnmetBelow}
use Rattle.uc_rows.proofs.Items.{first-at, first-none}

dead-set : (rows : List FactRow) (k n : ℕ) (y : FactRow) → ((d : FactRow) → y.is_dead ≡ (get_or rows k d).is_dead) → dead_in (slice_get (set rows k y) n) ≡ dead_in (slice_get rows n)
dead-set [] k n y e = refl
dead-set (r ∷ rs) zero zero y e = e r
dead-set (r ∷ rs) zero (suc n) y e = refl
dead-set (r ∷ rs) (suc k) zero y e = refl
dead-set (r ∷ rs) (suc k) (suc n) y e = dead-set rs k n y e

weight-set : (rows : List FactRow) (k n : ℕ) (y : FactRow) → ((d : FactRow) → y.weight ≡ (get_or rows k d).weight) → weight_in (slice_get (set rows k y) n) ≡ weight_in (slice_get rows n)
weight-set [] k n y e = refl
weight-set (r ∷ rs) zero zero y e = e r
weight-set (r ∷ rs) zero (suc n) y e = refl
weight-set (r ∷ rs) (suc k) zero y e = refl
weight-set (r ∷ rs) (suc k) (suc n) y e = weight-set rs k n y e

-- a row changed, but for what the entries say of its fact
pub rows-set : (es : List Entry) (rows : List FactRow) (k : ℕ) (y : FactRow) → ((d : FactRow) → y.is_dead ≡ (get_or rows k d).is_dead) → ((d : FactRow) → y.weight ≡ (get_or rows k d).weight) → AreRows es rows → AreRows es (set rows k y)
rows-set es rows k y a b h = record {
  as_many = length-set rows k y ∙ h.as_many;
  dead = λ n. (h.dead n ∙ sym (dead-set rows k n y a));
  weights = λ n. (h.weights n ∙ sym (weight-set rows k n y b));
}

pub met-set : (rows : List FactRow) (k from to : ℕ) (y : FactRow) → k < length rows → to ≤ from → (is_unmet y.meeting ≡ true → to ≤ k) → NoneUnmetBelow from rows → NoneUnmetBelow to (set rows k y)
met-set rows k from to y l low here h j d a b = elim (cases_eq j k) [
  | inl e ↦ ap (λ i. is_unmet (get_or (set rows k y) i d).meeting) e ∙ ap (λ (r : FactRow). is_unmet r.meeting) (get_or-set_same rows k y d l) ∙ not_here (is_unmet y.meeting) refl e
  | inr ne ↦ (let c : j < length rows = omega (arith, length-set rows k y) in ap (λ (r : FactRow). is_unmet r.meeting) (get_or-set_other rows k j y d ne) ∙ h j d (omega arith) c)
]
  where
    not_here : (u : Bool) → is_unmet y.meeting ≡ u → j ≡ k → is_unmet y.meeting ≡ false
    not_here true e q = (let low2 : to ≤ k = here e in absurd (omega arith))
    not_here false e q = e

born-born : (es : List Entry) (f : Fact) → born (es ++ Born f ∷ []) ≡ born es ++ f ∷ []
born-born [] f = refl
born-born (Born g ∷ es) f = ap (λ fs. g ∷ fs) (born-born es f)
born-born (Dies i k ∷ es) f = born-born es f

dead-born : (es : List Entry) (f : Fact) (n : ℕ) → is_dead (es ++ Born f ∷ []) n ≡ is_dead es n
dead-born [] f n = refl
dead-born (Born g ∷ es) f n = dead-born es f n
dead-born (Dies i k ∷ es) f n = ap (λ b. (i == n) || b) (dead-born es f n)

dead-push : (rows : List FactRow) (row : FactRow) (n : ℕ) → row.is_dead ≡ false → dead_in (slice_get (rows ++ row ∷ []) n) ≡ dead_in (slice_get rows n)
dead-push [] row zero e = e
dead-push [] row (suc n) e = refl
dead-push (r ∷ rs) row zero e = refl
dead-push (r ∷ rs) row (suc n) e = dead-push rs row n e

weight-push : (fs : List Fact) (rows : List FactRow) (f : Fact) (row : FactRow) → length rows ≡ length fs → nodes f.left + nodes f.right ≡ row.weight → ((n : ℕ) → sides_weight (slice_get fs n) ≡ weight_in (slice_get rows n)) → (n : ℕ) → sides_weight (slice_get (fs ++ f ∷ []) n) ≡ weight_in (slice_get (rows ++ row ∷ []) n)
weight-push [] [] f row l e h zero = e
weight-push [] [] f row l e h (suc n) = refl
weight-push [] (r ∷ rs) f row l e h n = absurd (omega arith)
weight-push (g ∷ fs) [] f row l e h n = absurd (omega arith)
weight-push (g ∷ fs) (r ∷ rs) f row l e h zero = h zero
weight-push (g ∷ fs) (r ∷ rs) f row l e h (suc n) = weight-push fs rs f row (omega arith) e (λ k. h (suc k)) n

-- a fact that is born
pub rows-born : (es : List Entry) (rows : List FactRow) (f : Fact) (row : FactRow) → row.is_dead ≡ false → nodes f.left + nodes f.right ≡ row.weight → AreRows es rows → AreRows (es ++ Born f ∷ []) (rows ++ row ∷ [])
rows-born es rows f row a b h = record {
  as_many = length_push rows row ∙ ap (λ n. n + 1) h.as_many ∙ sym (ap length (born-born es f) ∙ length_push (born es) f);
  dead = λ n. (dead-born es f n ∙ h.dead n ∙ sym (dead-push rows row n a));
  weights = λ n. (ap (λ fs. sides_weight (slice_get fs n)) (born-born es f) ∙ weight-push (born es) rows f row h.as_many b h.weights n);
}

pub met-push : (rows : List FactRow) (from : ℕ) (row : FactRow) → from ≤ length rows → NoneUnmetBelow from rows → NoneUnmetBelow from (rows ++ row ∷ [])
met-push rows from row l h j d a b = (let c : j < length rows = omega arith in ap (λ (r : FactRow). is_unmet r.meeting) (get_or_append_left rows (row ∷ []) d j c) ∙ h j d a c)

born-few : (es : List Entry) → length (born es) ≤ length es
born-few [] = omega arith
born-few (Born f ∷ es) = let i : length (born es) ≤ length es = born-few es in omega arith
born-few (Dies f k ∷ es) = let i : length (born es) ≤ length es = born-few es in omega arith

-- a front of few entries has few facts
pub few-born : (es : List Entry) (rows : List FactRow) → AreRows es rows → length es ≤ 2 ^ 31 → length rows ≤ 2 ^ 31
few-born es rows h l = let b : length (born es) ≤ length es = born-few es in let a : length rows ≡ length (born es) = h.as_many in omega arith

-- the search for the least fact goes on where nothing was found before
pub none_further : (rows : List FactRow) (from to : ℕ) → NoneUnmetBelow from rows → ((k : ℕ) (d : FactRow) → from ≤ k → k < to → k < length rows → is_unmet (get_or rows k d).meeting ≡ false) → NoneUnmetBelow to rows
none_further rows from to h n k d a l = elim (cases_order k from) [ inl e ↦ n k d (omega arith) a l | inr o ↦ elim o [ inl b ↦ h k d b l | inr b ↦ n k d (omega arith) a l ] ]

pub fact_found : (rows : List FactRow) (to : ℕ) → to < length rows → ((d : FactRow) → is_unmet (get_or rows to d).meeting ≡ true) → NoneUnmetBelow to rows → map_option (λ (f : At Meeting). f.number) (first is_unmet (meetings_of rows)) ≡ Some to
fact_found rows to l y n = first-at (λ (r : FactRow). r.meeting) is_unmet rows to l y (λ k d b. n k d b (omega arith))

pub no_fact : (rows : List FactRow) (to : ℕ) → length rows ≤ to → NoneUnmetBelow to rows → map_option (λ (f : At Meeting). f.number) (first is_unmet (meetings_of rows)) ≡ None
no_fact rows to l n = first-none (λ (r : FactRow). r.meeting) is_unmet rows (λ k d b. n k d (omega arith) b)
