-- How an order directs equations.
use Rattle.std.specs.Prelude.{ℕ, ◌≡◌, ◌↔◌, ◌+◌, true, List, [], ◌∷◌, ◌++◌, codes, decimal}
use Rattle.uc_term.specs.declared.equation.Equation.{Equation}
use Rattle.uc_term.specs.Tree.{Tree}
use Rattle.uc_term.specs.Table.{Table}
use Rattle.uc_clause.specs.Printing.{equation_text}
use Rattle.uc_order.specs.declared.order.Cmp.{Cmp}
use Rattle.uc_order.specs.declared.order.Cmp.TheVariants.{Greater, Less, Equal, Unknown}
use Rattle.uc_order.specs.Laws.{Meaning}

-- a comparison is Greater, Less and Equal exactly where it is so, and else Unknown
pub record Compares (m : Meaning) (s t : Tree) (cmp : Cmp) : Type 0 where
  pub greater : (cmp ≡ Greater) ↔ m.greater s t
  pub less : (cmp ≡ Less) ↔ m.greater t s
  pub equal : (cmp ≡ Equal) ↔ (s ≡ t)

-- the word for the way in which an equation is directed: the greater side is rewritten to the other
abbrev pub way_word : Cmp → List ℕ
way_word Greater = codes "lr"
way_word Less = codes "rl"
way_word Equal = codes "same"
way_word Unknown = codes "none"

-- the line of the equation of this number, whose sides compare so
abbrev pub directed_line : Table → ℕ → Cmp → Equation → List ℕ
directed_line table number cmp e = decimal number ++ codes " " ++ way_word cmp ++ codes " " ++ equation_text table true e.left e.right ++ codes "\n"

-- the lines of equations, of which the first has this number: how the order directs each
pub data AreDirected (table : Table) (m : Meaning) : ℕ → List Equation → List ℕ → Type 0 where
  none_left : {number : ℕ} → AreDirected table m number [] []
  one_line : {number : ℕ} (cmp : Cmp) {e : Equation} {es : List Equation} {lines : List ℕ} → Compares m e.left e.right cmp → AreDirected table m (number + 1) es lines → AreDirected table m number (e ∷ es) (directed_line table number cmp e ++ lines)
