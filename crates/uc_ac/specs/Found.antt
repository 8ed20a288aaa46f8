-- Which facts are found for a term, and the facts of a list of symbols.
use Rattle.std.specs.Prelude.{ℕ, ◌≡◌, ◌==◌, List, [], ◌∷◌, ◌++◌, if◌then◌else◌}
use Rattle.uc_term.specs.declared.node.Sym.{Sym}
use Rattle.uc_term.specs.declared.node.Node.{Node}
use Rattle.uc_term.specs.declared.node.Node.TheVariants.{Var, App}
use Rattle.uc_term.specs.declared.equation.Equation.{Equation}
use Rattle.uc_term.specs.declared.equation.Side.{Side}
use Rattle.uc_term.specs.Equations.{side_of}
use Rattle.uc_term.specs.Tree.{Tree, apply}
use Rattle.uc_fact.specs.Live.{Live}
use Rattle.uc_fact.specs.declared.ac_facts.AcFacts.{AcFacts}
use Rattle.uc_ac.specs.declared.ac_law.AcLaw.{AcLaw}
use Rattle.uc_ac.specs.AcLaw.{IsLaw}
use Rattle.uc_ac.specs.Joining.{AreLeastFacts, IsAcSymbol}

-- the term is an instance of one of the sides
abbrev pub HasInstance : Tree → Equation → Type 0
HasInstance t e = (side : Side) × (σ : ℕ → Tree) × (apply σ (side_of side e) ≡ t)

-- whatever the variables of the law for f are named, the term is an instance of one of its sides
abbrev pub IsInstanceOf : AcLaw → Sym → Tree → Type 0
IsInstanceOf law f t = (e : Equation) → IsLaw law f e → HasInstance t e

-- the list has the least facts of those symbols, of these numbers, that are associative and commutative, in their order
pub data Gathers (live : List Live) : List ℕ → List AcFacts → Type 0 where
  gathers_none : Gathers live [] []
  gathers_one : {facts : AcFacts} {numbers : List ℕ} {list : List AcFacts} → AreLeastFacts live facts → Gathers live numbers list → Gathers live (facts.symbol.0 ∷ numbers) (facts ∷ list)
  gathers_no : {n : ℕ} {numbers : List ℕ} {list : List AcFacts} → (IsAcSymbol live (record { 0 = n }) → ⊥) → Gathers live numbers list → Gathers live (n ∷ numbers) list

-- the numbers of the symbols that stand with two arguments among the nodes
abbrev pub binary_heads : List Node → List ℕ
binary_heads [] = []
binary_heads (Var x ∷ ns) = binary_heads ns
binary_heads (App f n ∷ ns) = if n == 2 then f.0 ∷ binary_heads ns else binary_heads ns

-- the least facts of the symbol come behind a list, if it is associative and commutative
pub data AddsFacts (live : List Live) (f : Sym) (list : List AcFacts) : List AcFacts → Type 0 where
  adds_facts : {facts : AcFacts} → facts.symbol ≡ f → AreLeastFacts live facts → AddsFacts live f list (list ++ facts ∷ [])
  adds_none : (IsAcSymbol live f → ⊥) → AddsFacts live f list list
