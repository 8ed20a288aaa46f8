-- Members of lists.
use Rattle.std.specs.Prelude.{ℕ, ◌==◌, List, [], ◌∷◌, count_by}
use Rattle.uc_term.specs.declared.node.Sym.{Sym}

-- x is one of them
pub data In {A : Type 0} : List A → A → Type 0 where
  in_front : {x : A} {xs : List A} → In (x ∷ xs) x
  in_rest : {x y : A} {xs : List A} → In xs x → In (y ∷ xs) x

-- each of them is so
abbrev pub Each : {A : Type 0} → (A → Type 0) → List A → Type 0
Each P [] = Unit {0}
Each P (x ∷ xs) = P x × Each P xs

-- exactly one of them is so
pub data OnlyOne {A : Type 0} (P : A → Type 0) : List A → Type 0 where
  only_front : {x : A} {xs : List A} → P x → Each (λ y. P y → ⊥) xs → OnlyOne P (x ∷ xs)
  only_rest : {x : A} {xs : List A} → (P x → ⊥) → OnlyOne P xs → OnlyOne P (x ∷ xs)

-- x stands in the list at two places
pub data IsTwice {A : Type 0} : List A → A → Type 0 where
  twice_front : {x : A} {xs : List A} → In xs x → IsTwice (x ∷ xs) x
  twice_rest : {x y : A} {xs : List A} → IsTwice xs x → IsTwice (y ∷ xs) x

-- x is the first of them that is so
pub data IsFirst {A : Type 0} (P : A → Type 0) : List A → A → Type 0 where
  first_front : {x : A} {xs : List A} → P x → IsFirst P (x ∷ xs) x
  first_rest : {x y : A} {xs : List A} → (P y → ⊥) → IsFirst P xs x → IsFirst P (y ∷ xs) x

-- no two of them are equal
abbrev pub AreDistinct : {A : Type 0} → List A → Type 0
AreDistinct [] = Unit {0}
AreDistinct (x ∷ xs) = (In xs x → ⊥) × AreDistinct xs

-- how often the symbol stands in the list
abbrev pub times : Sym → List Sym → ℕ
times f fs = count_by (λ g. g.0 == f.0) fs
