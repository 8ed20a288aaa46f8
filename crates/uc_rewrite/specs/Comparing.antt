-- What a comparison tells of the two sides of a fact.
use Rattle.std.specs.Prelude.{ℕ}
use Rattle.uc_term.specs.Tree.{Tree, apply}
use Rattle.uc_term.specs.Variables.{Occurs}
use Rattle.uc_order.specs.VarOrders.{Classes}
use Rattle.uc_order.specs.Laws.{Meaning}
use Rattle.uc_rewrite.specs.declared.comparison.Falling.{Falling}
use Rattle.uc_rewrite.specs.declared.comparison.Falling.TheVariants.{Always, Never, Unclear}

-- each variable of the term is so
abbrev pub VariablesAre : (ℕ → Type 0) → Tree → Type 0
VariablesAre P t = (x : ℕ) → Occurs x t → P x

-- of any instance of two sides, that of the one is greater always or never, or this isn't told
abbrev pub Tells : (Tree → Tree → Type 0) → Tree → Tree → Falling → Type 0
Tells Greater from to Always = (σ : ℕ → Tree) → Greater (apply σ from) (apply σ to)
Tells Greater from to Never = (σ : ℕ → Tree) → Greater (apply σ from) (apply σ to) → ⊥
Tells Greater from to Unclear = Unit {0}

-- the same by an order, and by it under each order of variables
abbrev pub TellsAll : Meaning → Tree → Tree → Falling → Type 0
TellsAll m from to answer = Tells m.greater from to answer × ((cases : Classes) → Tells (m.under cases) from to answer)
