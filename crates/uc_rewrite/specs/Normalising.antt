-- The first possible step of a term, and normalising by it.
use Rattle.std.specs.Prelude.{ℕ, suc, ◌≡◌, ◌+◌, ◌≤◌, ◌<◌, List, [], ◌∷◌, Bool, true, false}
use Rattle.uc_term.specs.declared.node.Sym.{Sym}
use Rattle.uc_term.specs.declared.equation.Side.{Side}
use Rattle.uc_term.specs.declared.equation.Side.TheVariants.{Left, Right}
use Rattle.uc_term.specs.Tree.{Tree, app, Trees, more, apply, nodes}
use Rattle.uc_fact.specs.declared.chain.Step.{Step}
use Rattle.uc_fact.specs.declared.chain.By.TheVariants.{Fact}
use Rattle.uc_fact.specs.declared.fact.Stop.{Stop}
use Rattle.uc_fact.specs.declared.fact.Stop.TheVariants.{Full, Steps, Size}
use Rattle.uc_fact.specs.Live.{Live, Rule, rules_of, equations_of}
use Rattle.uc_fact.specs.Ordered.{IsCompleted, IsIrreducible, IsIrreducibleBelow}
use Rattle.uc_rewrite.specs.declared.normal.Normal.{Normal}

abbrev pub is_left : Side → Bool
is_left Left = true
is_left Right = false

-- the step of a chain that a rule makes at a place, by the fact of its number
abbrev pub step_by : Rule → ℕ → Tree → Step
step_by rule place v = record { by = Fact rule.number; left_to_right = is_left rule.side; position = record { 0 = place }; to = v }

-- what is greater, and the order's least constant
module _ (Greater : Tree → Tree → Type 0) (least : Sym) where
  -- u is an instance of the side from which the rule is read, v is the instance of the other side, where variables that only
  -- that side has are the least constant, and u is greater
  pub record Makes (rule : Rule) (u v : Tree) : Type 0 where
    pub σ : ℕ → Tree
    pub u_is : u ≡ apply σ rule.from
    pub v_is : v ≡ apply σ rule.to
    pub completed : IsCompleted least rule.from rule.to σ
    pub greater : Greater u v

  -- the rule is the first of these that makes a term of u, which is v
  pub data FirstRule (u v : Tree) : List Rule → Rule → Type 0 where
    this_rule : {rule : Rule} {rules : List Rule} → Makes rule u v → FirstRule u v (rule ∷ rules) rule
    later_rule : {other rule : Rule} {rules : List Rule} → ((w : Tree) → Makes other u w → ⊥) → FirstRule u v rules rule → FirstRule u v (other ∷ rules) rule

  module _ (live : List Live) where
    mutual
      -- The first possible step of a term leads to v: at the first position in postorder (arguments from left to right, then
      -- the term itself), there by the least fact, and there from left to right before from right to left. It is made at this
      -- place in prefix order and by this rule.
      pub data FirstStep : Tree → ℕ → Rule → Tree → Type 0 where
        in_arguments : {f : Sym} {us vs : Trees} {place : ℕ} {rule : Rule} → FirstStepAmong us place rule vs → FirstStep (app f us) (suc place) rule (app f vs)
        at_the_term : {u v : Tree} {rule : Rule} → IsIrreducibleBelow Greater least (equations_of live) u → FirstRule u v (rules_of live) rule → FirstStep u 0 rule v

      pub data FirstStepAmong : Trees → ℕ → Rule → Trees → Type 0 where
        in_this : {u v : Tree} {ts : Trees} {place : ℕ} {rule : Rule} → FirstStep u place rule v → FirstStepAmong (more u ts) place rule (more v ts)
        in_another : {t : Tree} {us vs : Trees} {place : ℕ} {rule : Rule} → IsIrreducible Greater least (equations_of live) t → FirstStepAmong us place rule vs → FirstStepAmong (more t us) (nodes t + place) rule (more t vs)

    -- With at most so many steps, each the first possible one, t comes by these steps to this term, and this is why there are
    -- no more: no step is possible; so many are made and a further one is possible; or fewer are made, and the next one leads
    -- to a term of more than 4,096 nodes.
    pub data Normalises : ℕ → Tree → List Step → Tree → Stop → Type 0 where
      is_full : {limit : ℕ} {t : Tree} → IsIrreducible Greater least (equations_of live) t → Normalises limit t [] t Full
      is_spent : {t v : Tree} {place : ℕ} {rule : Rule} → FirstStep t place rule v → Normalises 0 t [] t Steps
      is_large : {limit : ℕ} {t v : Tree} {place : ℕ} {rule : Rule} → FirstStep t place rule v → 4096 < nodes v → Normalises (suc limit) t [] t Size
      goes_on : {limit : ℕ} {t v end : Tree} {place : ℕ} {rule : Rule} {steps : List Step} {stop : Stop} → FirstStep t place rule v → nodes v ≤ 4096 → Normalises limit v steps end stop → Normalises (suc limit) t (step_by rule place v ∷ steps) end stop

    -- what a term's normalising comes to
    pub record IsNormalOf (limit : ℕ) (t : Tree) (normal : Normal) : Type 0 where
      pub start : normal.chain.start ≡ t
      pub normalises : Normalises limit t normal.chain.steps normal.term normal.stop
