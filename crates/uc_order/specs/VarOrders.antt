-- Total preorders of variables: a list of classes, the least class first. The variables of a class are equal in it.
use Rattle.std.specs.Prelude.{ℕ, ◌+◌, ◌≡◌, ◌<◌, List, [], ◌∷◌, ◌++◌, map, flat_map, ◌⊎◌, if◌then◌else◌}
use Rattle.uc_term.specs.Tree.{Tree, var, apply}
use Rattle.uc_term.specs.Variables.{is_among, Occurs}
use Rattle.uc_order.specs.Members.{In, Each}

abbrev pub Classes : Type 0
Classes = List (List ℕ)

-- the orders that a further variable makes of an order: alone before a class, at the end of a class, or alone after all
abbrev pub placed : ℕ → Classes → List Classes
placed v [] = ((v ∷ []) ∷ []) ∷ []
placed v (c ∷ cs) = ((v ∷ []) ∷ c ∷ cs) ∷ ((c ++ v ∷ []) ∷ cs) ∷ map (λ ds. c ∷ ds) (placed v cs)

-- the orders that the variables, one after another, make of those orders
abbrev pub grown : List Classes → List ℕ → List Classes
grown os [] = os
grown os (v ∷ vs) = grown (flat_map (placed v) os) vs

-- the orders of the variables: of none it is the one without classes
abbrev pub orders_of : List ℕ → List Classes
orders_of vs = grown ([] ∷ []) vs

-- x is in one of the classes
pub data Among : Classes → ℕ → Type 0 where
  among_front : {x : ℕ} {c : List ℕ} {cs : Classes} → In c x → Among (c ∷ cs) x
  among_rest : {x : ℕ} {c : List ℕ} {cs : Classes} → Among cs x → Among (c ∷ cs) x

-- every variable of the term is in one of the classes
abbrev pub HasOnly : Classes → Tree → Type 0
HasOnly cs t = (x : ℕ) → Occurs x t → Among cs x

-- the number of its class, from 0 for the least
abbrev pub class_of : Classes → ℕ → ℕ
class_of [] x = 0
class_of (c ∷ cs) x = if is_among x c then 0 else class_of cs x + 1

-- x is greater than y
abbrev pub IsHigher : Classes → ℕ → ℕ → Type 0
IsHigher cs x y = class_of cs y < class_of cs x

abbrev pub first_or : ℕ → List ℕ → ℕ
first_or x [] = x
first_or x (y ∷ ys) = y

-- the first variable of its class; itself, where it is in none
abbrev pub representative : Classes → ℕ → ℕ
representative [] x = x
representative (c ∷ cs) x = if is_among x c then first_or x c else representative cs x

-- the term with each variable replaced by the first one of its class
abbrev pub represented : Classes → Tree → Tree
represented cs t = apply (λ x. var (representative cs x)) t

abbrev pub EachVar : (ℕ → Type 0) → Classes → Type 0
EachVar P cs = Each (Each P) cs

-- the variables of a class are alike, and stand below those of the later classes
abbrev pub Agrees : (ℕ → ℕ → Type 0) → (ℕ → ℕ → Type 0) → Classes → Type 0
Agrees Alike Below [] = Unit {0}
Agrees Alike Below (c ∷ cs) = Each (λ x. Each (Alike x) c × EachVar (Below x) cs) c × Agrees Alike Below cs

-- the terms of a class are equal, and those of a later class are greater
abbrev pub Respects : (Tree → Tree → Type 0) → (ℕ → Tree) → Classes → Type 0
Respects Greater σ = Agrees (λ x y. σ x ≡ σ y) (λ x y. Greater (σ y) (σ x))

-- the classes are those of the relation: x is not above y where R x y
abbrev pub Stands : (ℕ → ℕ → Type 0) → Classes → Type 0
Stands R = Agrees (λ x y. R x y × R y x) (λ x y. R x y × (R y x → ⊥))

-- what a total preorder of the variables is
pub record IsTotalPreorder (R : ℕ → ℕ → Type 0) (vs : List ℕ) : Type 0 where
  pub reflexive : (x : ℕ) → R x x
  pub transitive : (x y z : ℕ) → R x y → R y z → R x z
  pub total : (x y : ℕ) → In vs x → In vs y → R x y ⊎ R y x
