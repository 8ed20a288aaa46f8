-- The rows of the goals when one changes, and when all wake.
use Rattle.std.proofs.Common.{◌≡◌, ℕ, zero, suc, ◌+◌, ◌<◌, ◌≤◌, List, [], ◌∷◌, length, get_or, set, map, Bool, true, false, Some, None, refl, ap, sym, ◌∙◌, arith, inl, inr}
use Rattle.std.proofs.lemmas.Bool.{cases_eq, cases_order, false≢true}
use Rattle.std.proofs.lemmas.List.{length-set, get_or-set_same, get_or-set_other}
use Rattle.uc_machine.specs.declared.state.Stage.{Stage}
use Rattle.uc_machine.specs.declared.state.Stage.TheVariants.{Due, Busy, Continued, Settled, Stuck}
use Rattle.uc_rows.specs.declared.goals.GoalRow.{GoalRow}
use Rattle.uc_machine.specs.State.{Target, is_continued}
use Rattle.uc_machine.specs.Effects.{wakes, wakes_stage}
use Rattle.uc_machine.specs.Lists.{At, first, map_option}
use Rattle.uc_rows.proofs.Items.{first-at, first-none}
use Rattle.uc_rows.specs.GoalRows.{target_of, targets_of, NoneBelow}

pub none-set : (p : Stage → Bool) (rows : List GoalRow) (k from to : ℕ) (y : GoalRow) → k < length rows → to ≤ from → (p y.stage ≡ true → to ≤ k) → NoneBelow p from rows → NoneBelow p to (set rows k y)
none-set p rows k from to y l low here h j d a b = elim (cases_eq j k) [
  | inl e ↦ ap (λ i. p (get_or (set rows k y) i d).stage) e ∙ ap (λ (r : GoalRow). p r.stage) (get_or-set_same rows k y d l) ∙ not_here (p y.stage) refl e
  | inr ne ↦ (let c : j < length rows = omega (arith, length-set rows k y) in ap (λ (r : GoalRow). p r.stage) (get_or-set_other rows k j y d ne) ∙ h j d (omega arith) c)
]
  where
    not_here : (u : Bool) → p y.stage ≡ u → j ≡ k → p y.stage ≡ false
    not_here true e q = (let low2 : to ≤ k = here e in absurd (omega arith))
    not_here false e q = e

wakes-twice : (s : Stage) → wakes_stage (wakes_stage s) ≡ wakes_stage s
wakes-twice Due = refl
wakes-twice Busy = refl
wakes-twice Continued = refl
wakes-twice Settled = refl
wakes-twice Stuck = refl

pub still_continued : (s : Stage) → is_continued (wakes_stage s) ≡ is_continued s
still_continued Due = refl
still_continued Busy = refl
still_continued Continued = refl
still_continued Settled = refl
still_continued Stuck = refl

-- where each goal is awake
pub awake : (rows : List GoalRow) → ((k : ℕ) (d : GoalRow) → k < length rows → wakes_stage (get_or rows k d).stage ≡ (get_or rows k d).stage) → map wakes (targets_of rows) ≡ targets_of rows
awake [] h = refl
awake (r ∷ rs) h = (let e : wakes_stage r.stage ≡ r.stage = h 0 r (omega arith) in ap (λ s. (let t : Target = record { left = r.left; right = r.right; stage = s } in t) ∷ map wakes (targets_of rs)) e ∙ ap (λ ts. target_of r ∷ ts) (awake rs (λ k d l. h (suc k) d (omega arith))))

-- one goal woken before all are
pub woken-set : (rows : List GoalRow) (k : ℕ) (s : Stage) (row : GoalRow) → k < length rows → ((d : GoalRow) → row ≡ get_or rows k d) → s ≡ wakes_stage row.stage → map wakes (targets_of (set rows k (record row { stage = s }))) ≡ map wakes (targets_of rows)
woken-set [] k s row l e q = absurd (omega arith)
woken-set (r ∷ rs) zero s row l e q = ap (λ x. (let t : Target = record { left = row.left; right = row.right; stage = x } in t) ∷ map wakes (targets_of rs)) (ap wakes_stage q ∙ wakes-twice row.stage) ∙ ap (λ (y : GoalRow). wakes (target_of y) ∷ map wakes (targets_of rs)) (e r)
woken-set (r ∷ rs) (suc k) s row l e q = ap (λ ts. wakes (target_of r) ∷ ts) (woken-set rs k s row (omega arith) e q)

-- the search for the least goal goes on where nothing was found before
pub none_further : (p : Stage → Bool) (rows : List GoalRow) (from to : ℕ) → NoneBelow p from rows → ((k : ℕ) (d : GoalRow) → from ≤ k → k < to → k < length rows → p (get_or rows k d).stage ≡ false) → NoneBelow p to rows
none_further p rows from to h n k d a l = elim (cases_order k from) [ inl e ↦ n k d (omega arith) a l | inr o ↦ elim o [ inl b ↦ h k d b l | inr b ↦ n k d (omega arith) a l ] ]

pub goal_found : (p : Stage → Bool) (rows : List GoalRow) (to : ℕ) → to < length rows → ((d : GoalRow) → p (get_or rows to d).stage ≡ true) → NoneBelow p to rows → map_option (λ (f : At Target). f.number) (first (λ (g : Target). p g.stage) (targets_of rows)) ≡ Some to
goal_found p rows to l y n = first-at target_of (λ (g : Target). p g.stage) rows to l y (λ k d b. n k d b (omega arith))

pub no_goal : (p : Stage → Bool) (rows : List GoalRow) (to : ℕ) → length rows ≤ to → NoneBelow p to rows → map_option (λ (f : At Target). f.number) (first (λ (g : Target). p g.stage) (targets_of rows)) ≡ None
no_goal p rows to l n = first-none target_of (λ (g : Target). p g.stage) rows (λ k d b. n k d (omega arith) b)

pub awake-set : (rows : List GoalRow) (k : ℕ) (y : GoalRow) → k < length rows → wakes_stage y.stage ≡ y.stage → ((j : ℕ) (d : GoalRow) → j < k → j < length rows → wakes_stage (get_or rows j d).stage ≡ (get_or rows j d).stage)
    → (j : ℕ) (d : GoalRow) → j < k + 1 → j < length (set rows k y) → wakes_stage (get_or (set rows k y) j d).stage ≡ (get_or (set rows k y) j d).stage
awake-set rows k y l e h j d a b = elim (cases_eq j k) [
  | inl q ↦ (let same : get_or (set rows k y) j d ≡ y = ap (λ i. get_or (set rows k y) i d) q ∙ get_or-set_same rows k y d l in rw same e)
  | inr ne ↦ (let c : j < length rows = omega (arith, length-set rows k y) in let same : get_or (set rows k y) j d ≡ get_or rows j d = get_or-set_other rows k j y d ne in rw same (h j d (below-but j k a ne) c))
]
  where
    below-but : (j k : ℕ) → j < k + 1 → (j ≡ k → ⊥) → j < k
    below-but j k a ne = elim (cases_order j k) [ inl q ↦ absurd (ne q) | inr o ↦ elim o [ inl b ↦ b | inr b ↦ absurd (omega arith) ] ]

pub woken-stage : (s t : Stage) → s ≡ wakes_stage t → wakes_stage s ≡ s
woken-stage s t e = ap wakes_stage e ∙ wakes-twice t ∙ sym e

pub continued-woken : (rows : List GoalRow) (k from : ℕ) (row : GoalRow) (s : Stage) → k < length rows → ((d : GoalRow) → row ≡ get_or rows k d) → NoneBelow is_continued from rows → s ≡ wakes_stage row.stage → is_continued s ≡ true → from ≤ k
continued-woken rows k from row s l e h q t = elim (cases_order from k) [
  | inl a ↦ omega arith
  | inr o ↦ elim o [
    | inl a ↦ omega arith
    | inr a ↦
        let old : is_continued row.stage ≡ false = ap (λ (r : GoalRow). is_continued r.stage) (e row) ∙ h k row a l in
        let now : is_continued row.stage ≡ true = sym (still_continued row.stage) ∙ ap is_continued (sym q) ∙ t in
        absurd (false≢true (sym old ∙ now))
  ]
]
