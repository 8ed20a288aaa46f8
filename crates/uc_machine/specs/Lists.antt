-- Lists by number: a change at one place, the first place that passes, a list gone through.
use Rattle.std.specs.Prelude.{ℕ, zero, suc, List, [], ◌∷◌, Bool, cond, Option, Some, None}

-- the list with the item of a number changed, if it has one
abbrev pub change : {A : Type 0} → (A → A) → List A → ℕ → List A
change f [] n = []
change f (x ∷ xs) zero = f x ∷ xs
change f (x ∷ xs) (suc n) = x ∷ change f xs n

-- an item with its number
pub record At (A : Type 0) : Type 0 where
  pub number : ℕ
  pub here : A

abbrev pub later : {A : Type 0} → Option (At A) → Option (At A)
later None = None
later (Some f) = Some (record { number = suc f.number; here = f.here })

-- the least number whose item passes, with that item
abbrev pub first : {A : Type 0} → (A → Bool) → List A → Option (At A)
first p [] = None
first p (x ∷ xs) = cond (p x) (Some (record { number = 0; here = x })) (later (first p xs))

abbrev pub map_option : {A B : Type 0} → (A → B) → Option A → Option B
map_option f None = None
map_option f (Some x) = Some (f x)

-- a list gone through from left to right
abbrev pub each : {A S : Type 0} → (A → S → S) → List A → S → S
each f [] s = s
each f (x ∷ xs) s = each f xs (f x s)

-- so it is for each item
abbrev pub Each : {A : Type 0} → (A → Type 0) → List A → Type 0
Each P [] = Unit {0}
Each P (x ∷ xs) = P x × Each P xs
