-- The admissible Knuth-Bendix order, by its cases (Baader and Nipkow, Term Rewriting and All That, section 5.4.4).
use Rattle.std.specs.Prelude.{ℕ, ◌+◌, ◌<◌, ◌≤◌, ◌≡◌, ◌==◌, ◌⊎◌, Bool, nat_lt, not, count_by}
use Rattle.uc_term.specs.declared.node.Sym.{Sym}
use Rattle.uc_term.specs.Tree.{Tree, var, app, Trees, none, more, count}
use Rattle.uc_term.specs.Variables.{variables}
use Rattle.uc_order.specs.VarOrders.{Classes, class_of, IsHigher, represented}

-- what every variable weighs; and of each symbol with so many arguments its weight and its place in the precedence
pub record Weighing : Type 0 where
  pub w0 : ℕ
  pub weight_of : Sym → ℕ → ℕ
  pub rank : Sym → ℕ → ℕ

-- for each test, no more variables of t pass it than of s
abbrev pub Covers : (ℕ → ℕ → Bool) → Tree → Tree → Type 0
Covers test s t = (k : ℕ) → count_by (test k) (variables t) ≤ count_by (test k) (variables s)

-- the variable is k
abbrev pub is_it : ℕ → ℕ → Bool
is_it k x = x == k

-- no variable is above another
abbrev pub None : ℕ → ℕ → Type 0
None x y = ⊥

-- the variable is of the class of number k or a greater one
abbrev pub is_from : Classes → ℕ → ℕ → Bool
is_from cs k x = not (nat_lt (class_of cs x) k)

module _ (w : Weighing) where
  abbrev mutual
    pub weight : Tree → ℕ
    weight (var x) = w.w0
    weight (app f ts) = w.weight_of f (count ts) + weight_all ts

    pub weight_all : Trees → ℕ
    weight_all none = 0
    weight_all (more t ts) = weight t + weight_all ts

  -- t is x under one or more copies of unary symbols of weight 0
  pub data Tower : Tree → ℕ → Type 0 where
    tower_last : {f : Sym} {x : ℕ} → w.weight_of f 1 ≡ 0 → Tower (app f (more (var x) none)) x
    tower_copy : {f : Sym} {t : Tree} {x : ℕ} → w.weight_of f 1 ≡ 0 → Tower t x → Tower (app f (more t none)) x

  -- the order by its tests of variables, and by what is above what of two variables
  module _ (test : ℕ → ℕ → Bool) (above : ℕ → ℕ → Type 0) where
    mutual
      -- s > t
      pub data Kbo : Tree → Tree → Type 0 where
        by_variables : {x y : ℕ} → above x y → Kbo (var x) (var y)
        by_tower : {s : Tree} {x y : ℕ} → Tower s y → (y ≡ x) ⊎ above y x → Kbo s (var x)
        by_weight : {s t : Tree} → Covers test s t → weight t < weight s → Kbo s t
        by_head : {f g : Sym} {ss ts : Trees} → Covers test (app f ss) (app g ts) → weight (app f ss) ≡ weight (app g ts) → w.rank g (count ts) < w.rank f (count ss) → Kbo (app f ss) (app g ts)
        by_args : {f : Sym} {ss ts : Trees} → Covers test (app f ss) (app f ts) → weight (app f ss) ≡ weight (app f ts) → count ss ≡ count ts → FirstGreater ss ts → Kbo (app f ss) (app f ts)

      -- at the first place where they differ, the left one is greater
      pub data FirstGreater : Trees → Trees → Type 0 where
        first_here : {s t : Tree} {ss ts : Trees} → Kbo s t → FirstGreater (more s ss) (more t ts)
        first_same : {t : Tree} {ss ts : Trees} → FirstGreater ss ts → FirstGreater (more t ss) (more t ts)

  -- no variable occurs more often in t than in s, and no variable is above another
  abbrev pub KboGreater : Tree → Tree → Type 0
  KboGreater = Kbo is_it None

  -- under an order of variables: a variable is first replaced by the first one of its class; for each class, t has no
  -- more variables of that class and the greater ones than s; and two variables compare by their classes
  abbrev pub KboUnder : Classes → Tree → Tree → Type 0
  KboUnder cs s t = Kbo (is_from cs) (IsHigher cs) (represented cs s) (represented cs t)
