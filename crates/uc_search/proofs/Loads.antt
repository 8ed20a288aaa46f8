-- How many goals are Due and how many facts are Unmet, and how changes change that.
use Rattle.std.proofs.Common.{◌≡◌, ℕ, zero, suc, ◌+◌, ◌≤◌, List, [], ◌∷◌, ◌++◌, length, map, true, Some, refl, ap, ◌∙◌, arith, slice_get}
use Rattle.std.proofs.lemmas.Bool.{false≢true}
use Rattle.std.proofs.lemmas.List.{length-map}
use Rattle.uc_fact.specs.declared.chain.Chain.{Chain}
use Rattle.uc_machine.specs.declared.state.Meeting.{Meeting}
use Rattle.uc_machine.specs.declared.state.Meeting.TheVariants.{Unmet, Visiting, Met}
use Rattle.uc_machine.specs.declared.state.Stage.{Stage}
use Rattle.uc_machine.specs.declared.state.Stage.TheVariants.{Due, Busy, Continued, Settled, Stuck}
use Rattle.uc_machine.specs.Lists.{change}
use Rattle.uc_machine.specs.State.{Target, is_due, is_unmet}
use Rattle.uc_machine.specs.Effects.{wakes, goes_on, meets_unmet}

abbrev pub due_of : Stage → ℕ
due_of Due = 1
due_of Busy = 0
due_of Continued = 0
due_of Settled = 0
due_of Stuck = 0

abbrev pub dues : List Target → ℕ
dues [] = 0
dues (g ∷ gs) = due_of g.stage + dues gs

abbrev pub unmet_of : Meeting → ℕ
unmet_of Unmet = 1
unmet_of Visiting = 0
unmet_of Met = 0

abbrev pub unmets : List Meeting → ℕ
unmets [] = 0
unmets (x ∷ xs) = unmet_of x + unmets xs

-- GOALS

due_is : (c : Stage) → is_due c ≡ true → due_of c ≡ 1
due_is Due e = refl
due_is Busy e = absurd (false≢true e)
due_is Continued e = absurd (false≢true e)
due_is Settled e = absurd (false≢true e)
due_is Stuck e = absurd (false≢true e)

due-few : (c : Stage) → due_of c ≤ 1
due-few Due = omega arith
due-few Busy = omega arith
due-few Continued = omega arith
due-few Settled = omega arith
due-few Stuck = omega arith

pub dues-few : (gs : List Target) → dues gs ≤ length gs
dues-few [] = omega arith
dues-few (g ∷ gs) =
    let a : dues gs ≤ length gs = dues-few gs in
    let b : due_of g.stage ≤ 1 = due-few g.stage in
    omega arith

pub dues-wakes : (gs : List Target) → dues (map wakes gs) ≤ length gs
dues-wakes gs =
    let a : dues (map wakes gs) ≤ length (map wakes gs) = dues-few (map wakes gs) in
    let b : length (map wakes gs) ≡ length gs = length-map gs wakes in
    omega arith

pub dues-stage : (c : Stage) (gs : List Target) (n : ℕ) → due_of c ≡ 0 → dues (change (λ (x : Target). record x { stage = c }) gs n) ≤ dues gs
dues-stage c [] n e = omega arith
dues-stage c (g ∷ gs) zero e = let q : due_of c ≡ 0 = e in omega arith
dues-stage c (g ∷ gs) (suc n) e = let h : dues (change (λ (x : Target). record x { stage = c }) gs n) ≤ dues gs = dues-stage c gs n e in omega arith

pub dues-taken : (gs : List Target) (n : ℕ) (g : Target) → slice_get gs n ≡ Some g → is_due g.stage ≡ true → dues (change (λ (x : Target). record x { stage = Busy }) gs n) + 1 ≡ dues gs
dues-taken [] n g at d = absurd (cc)
dues-taken (x ∷ gs) zero g at d =
    let same : x ≡ g = cc in
    let one : due_of x.stage ≡ 1 = ap (λ (y : Target). due_of y.stage) same ∙ due_is g.stage d in
    omega arith
dues-taken (x ∷ gs) (suc n) g at d = let h : dues (change (λ (y : Target). record y { stage = Busy }) gs n) + 1 ≡ dues gs = dues-taken gs n g at d in omega arith

pub dues-ends : (l r : Chain) (gs : List Target) (n : ℕ) → dues (change (goes_on l r) gs n) ≡ dues gs
dues-ends l r [] n = refl
dues-ends l r (g ∷ gs) zero = refl
dues-ends l r (g ∷ gs) (suc n) = ap (λ k. due_of g.stage + k) (dues-ends l r gs n)

-- FACTS

unmet_is : (c : Meeting) → is_unmet c ≡ true → unmet_of c ≡ 1
unmet_is Unmet e = refl
unmet_is Visiting e = absurd (false≢true e)
unmet_is Met e = absurd (false≢true e)

pub unmets-change : (f : Meeting → Meeting) (xs : List Meeting) (n : ℕ) → ((x : Meeting) → unmet_of (f x) ≤ unmet_of x) → unmets (change f xs n) ≤ unmets xs
unmets-change f [] n h = omega arith
unmets-change f (x ∷ xs) zero h = let l : unmet_of (f x) ≤ unmet_of x = h x in omega arith
unmets-change f (x ∷ xs) (suc n) h = let l : unmets (change f xs n) ≤ unmets xs = unmets-change f xs n h in omega arith

pub met_less : (x : Meeting) → unmet_of Met ≤ unmet_of x
met_less x = omega arith

pub died_less : (x : Meeting) → unmet_of (meets_unmet x) ≤ unmet_of x
died_less Unmet = omega arith
died_less Visiting = omega arith
died_less Met = omega arith

pub unmets-taken : (xs : List Meeting) (n : ℕ) (x : Meeting) → slice_get xs n ≡ Some x → is_unmet x ≡ true → unmets (change (λ (y : Meeting). Visiting) xs n) + 1 ≡ unmets xs
unmets-taken [] n x at d = absurd (cc)
unmets-taken (y ∷ xs) zero x at d =
    let same : y ≡ x = cc in
    let one : unmet_of y ≡ 1 = ap unmet_of same ∙ unmet_is x d in
    omega arith
unmets-taken (y ∷ xs) (suc n) x at d = let h : unmets (change (λ (z : Meeting). Visiting) xs n) + 1 ≡ unmets xs = unmets-taken xs n x at d in omega arith

pub unmets-push : (xs : List Meeting) → unmets (xs ++ Unmet ∷ []) ≡ unmets xs + 1
unmets-push [] = refl
unmets-push (x ∷ xs) = let h : unmets (xs ++ Unmet ∷ []) ≡ unmets xs + 1 = unmets-push xs in omega arith
