-- What the test of two terms for ground joinability answers (Martin and Nipkow, Ordered Rewriting and Confluence): it tries
-- all orders of the terms' variables.
use Rattle.std.specs.Prelude.{ℕ, ◌≡◌, ◌<◌, ◌≤◌, ◌⊎◌, ◌↔◌, List, [], ◌∷◌, length, Some}
use Rattle.std.specs.List.Sorted.{IsStrictlyIncreasing}
use Rattle.uc_term.specs.declared.equation.Equation.{Equation}
use Rattle.uc_term.specs.declared.equation.Side.{Side}
use Rattle.uc_term.specs.Equations.{side_of, other_side_of}
use Rattle.uc_term.specs.Tree.{Tree, apply}
use Rattle.uc_term.specs.Variables.{Occurs}
use Rattle.uc_order.specs.Members.{In}
use Rattle.uc_order.specs.VarOrders.{Classes, orders_of, represented}
use Rattle.uc_order.specs.Laws.{Meaning}
use Rattle.uc_fact.specs.Live.{Live, fact_at}
use Rattle.uc_fact.specs.declared.joinable.Joinable.{Joinable}
use Rattle.uc_fact.specs.declared.joinable.Joinable.TheVariants.{Joined, Apart, TooManyVariables}
use Rattle.uc_fact.specs.declared.joinable.Reason.TheVariants.{Same, Instance, Orders}
use Rattle.uc_rewrite.specs.declared.normal.Normal.{Normal}
use Rattle.uc_rewrite.specs.Normalising.{IsNormalOf}

-- the list has the variables of the two terms, each once, in rising order
pub record AreVariables (s t : Tree) (vars : List ℕ) : Type 0 where
  pub rising : IsStrictlyIncreasing vars
  pub each : (x : ℕ) → In vars x ↔ (Occurs x s ⊎ Occurs x t)

module _ (live : List Live) (s t : Tree) where
  -- one substitution makes that side of that fact s and its other side t
  pub record IsInstanceFrom (number : ℕ) (side : Side) : Type 0 where
    pub equation : Equation
    pub equation_is : fact_at live number ≡ Some equation
    pub σ : ℕ → Tree
    pub left_is : s ≡ apply σ (side_of side equation)
    pub right_is : t ≡ apply σ (other_side_of side equation)

  -- the two are, either way round, the two sides of one instance of that fact
  pub record IsInstance (number : ℕ) : Type 0 where
    pub side : Side
    pub from : IsInstanceFrom number side

  -- and that of no fact of a lesser number
  pub record IsLeastInstance (number : ℕ) : Type 0 where
    pub is_one : IsInstance number
    pub least : (other : ℕ) → IsInstance other → number ≤ other

  -- they are those of no fact
  abbrev pub IsNoInstance : Type 0
  IsNoInstance = (number : ℕ) → IsInstance number → ⊥

module _ (m : Meaning) (live : List Live) where
  -- under the order of variables a term comes to this end: its representative is normalised with at most 4,096 steps
  pub record ComesTo (cases : Classes) (t end : Tree) : Type 0 where
    pub normal : Normal
    pub normal_is : IsNormalOf (m.under cases) m.least live 4096 (represented cases t) normal
    pub end_is : normal.term ≡ end

  module _ (s t : Tree) where
    -- the ends of the two terms agree under each of these orders of variables, or they differ, first under this one
    pub data IsTriedUnder : List Classes → Joinable → Type 0 where
      agree_under_all : IsTriedUnder [] (Joined Orders)
      agree_under : {cases : Classes} {orders : List Classes} {end : Tree} {answer : Joinable} → ComesTo cases s end → ComesTo cases t end → IsTriedUnder orders answer → IsTriedUnder (cases ∷ orders) answer
      differ_under : {cases : Classes} {orders : List Classes} {left right : Tree} → ComesTo cases s left → ComesTo cases t right → (left ≡ right → ⊥) → IsTriedUnder (cases ∷ orders) (Apart cases left right)

    -- the answer for the two terms, the first of these that holds: they are equal; they are the two sides of one instance of
    -- a fact; they have more than 5 variables; or what the orders of their variables come to
    pub data IsAnswer : Joinable → Type 0 where
      are_equal : s ≡ t → IsAnswer (Joined Same)
      are_sides : {number : ℕ} → (s ≡ t → ⊥) → IsLeastInstance live s t number → IsAnswer (Joined (Instance number))
      have_many : {vars : List ℕ} → (s ≡ t → ⊥) → IsNoInstance live s t → AreVariables s t vars → 5 < length vars → IsAnswer (TooManyVariables (length vars))
      are_tried : {vars : List ℕ} {answer : Joinable} → (s ≡ t → ⊥) → IsNoInstance live s t → AreVariables s t vars → length vars ≤ 5 → IsTriedUnder (orders_of vars) answer → IsAnswer answer

-- it says that the terms are joinable
abbrev pub IsJoined : Joinable → Type 0
IsJoined (Joined reason) = Unit {0}
IsJoined (Apart cases left right) = ⊥
IsJoined (TooManyVariables n) = ⊥
