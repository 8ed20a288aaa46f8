-- The orders of some variables: there is one, and each has these variables alone, and no empty class.
use Rattle.std.proofs.Common.{ℕ, List, [], ◌∷◌, ◌++◌, map, flat_map}
use Rattle.std.specs.Prelude.{◌≢◌}
use Rattle.std.specs.List.{AllByRecursion}
use Rattle.uc_order.specs.Members.{In, in_front, in_rest, Each}
use Rattle.uc_order.specs.VarOrders.{Classes, Among, among_front, among_rest, placed, grown, orders_of}
use Rattle.uc_certify.proofs.Lists.{each_append}
use Rattle.uc_certify.proofs.FewVariables.{all_at}

module _ (Known : ℕ → Type 0) where
  -- the class has a variable, and known ones alone
  pub record IsFilled (class : List ℕ) : Type 0 where
    pub some : class ≢ []
    pub known : AllByRecursion Known class

  abbrev pub AreFilled : Classes → Type 0
  AreFilled classes = AllByRecursion IsFilled classes

  pub among_known : (classes : Classes) (x : ℕ) → AreFilled classes → Among classes x → Known x
  among_known [] x f a = elim a [ ]
  among_known (c ∷ cs) x f (among_front i) = all_at Known c x f.0.known i
  among_known (c ∷ cs) x f (among_rest a) = among_known cs x f.1 a

  alone : (v : ℕ) → Known v → IsFilled (v ∷ [])
  alone v k = record { some = λ e. cc; known = (k, tt) }

  known_last : (class : List ℕ) (v : ℕ) → Known v → AllByRecursion Known class → AllByRecursion Known (class ++ v ∷ [])
  known_last [] v k a = (k, tt)
  known_last (x ∷ xs) v k a = (a.0, known_last xs v k a.1)

  some_last : (class : List ℕ) (v : ℕ) → (class ++ v ∷ []) ≢ []
  some_last [] v e = cc
  some_last (x ∷ xs) v e = cc

  joined : (class : List ℕ) (v : ℕ) → Known v → IsFilled class → IsFilled (class ++ v ∷ [])
  joined class v k f = record { some = some_last class v; known = known_last class v k f.known }

  behind : (class : List ℕ) (orders : List Classes) → IsFilled class → Each AreFilled orders → Each AreFilled (map (λ ds. class ∷ ds) orders)
  behind class [] f all = tt
  behind class (o ∷ os) f all = ((f, all.0), behind class os f all.1)

  placed_filled : (v : ℕ) (classes : Classes) → Known v → AreFilled classes → Each AreFilled (placed v classes)
  placed_filled v [] k f = ((alone v k, tt), tt)
  placed_filled v (c ∷ cs) k f = ((alone v k, f), ((joined c v k f.0, f.1), behind c (placed v cs) f.0 (placed_filled v cs k f.1)))

  all_placed : (v : ℕ) (orders : List Classes) → Known v → Each AreFilled orders → Each AreFilled (flat_map (placed v) orders)
  all_placed v [] k all = tt
  all_placed v (o ∷ os) k all = each_append AreFilled (placed v o) (flat_map (placed v) os) (placed_filled v o k all.0) (all_placed v os k all.1)

  grown_filled : (vars : List ℕ) (orders : List Classes) → ((x : ℕ) → In vars x → Known x) → Each AreFilled orders → Each AreFilled (grown orders vars)
  grown_filled [] orders k all = all
  grown_filled (v ∷ vs) orders k all = grown_filled vs (flat_map (placed v) orders) (λ x i. k x (in_rest i)) (all_placed v orders (k v in_front) all)

  pub orders_filled : (vars : List ℕ) → ((x : ℕ) → In vars x → Known x) → Each AreFilled (orders_of vars)
  orders_filled vars k = grown_filled vars ([] ∷ []) k (tt, tt)

-- there is one
abbrev pub HasOne : {A : Type 0} → List A → Type 0
HasOne [] = ⊥
HasOne (x ∷ xs) = Unit {0}

one_placed : (v : ℕ) (classes : Classes) (others : List Classes) → HasOne (placed v classes ++ others)
one_placed v [] others = tt
one_placed v (c ∷ cs) others = tt

one_more : (v : ℕ) (orders : List Classes) → HasOne orders → HasOne (flat_map (placed v) orders)
one_more v [] h = absurd h
one_more v (o ∷ os) h = one_placed v o (flat_map (placed v) os)

one_grown : (vars : List ℕ) (orders : List Classes) → HasOne orders → HasOne (grown orders vars)
one_grown [] orders h = h
one_grown (v ∷ vs) orders h = one_grown vs (flat_map (placed v) orders) (one_more v orders h)

pub one_order : (vars : List ℕ) → HasOne (orders_of vars)
one_order vars = one_grown vars ([] ∷ []) tt
