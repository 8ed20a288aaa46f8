-- Which marks stand behind a node in the text of a term. The numbers tell, for each functor whose bracket is open, how
-- many of its arguments are still to come, the innermost functor first.
use Rattle.std.specs.Prelude.{ℕ, zero, suc, List, [], ◌∷◌}
use Rattle.uc_term.specs.Table.{Table, name_of, Has}
use Rattle.uc_term.specs.declared.node.Node.{Node}
use Rattle.uc_term.specs.declared.node.Node.TheVariants.{Var, App}
use Rattle.uc_clause.specs.Names.{spelling}
use Rattle.uc_clause.specs.Printing.{variable_text}

-- the marks, and the numbers behind them
pub record Marks : Type 0 where
  pub text : List ℕ
  pub pending : List ℕ

-- behind a term: a comma where another argument is to come, else a closing bracket and what stands behind that
abbrev pub closing : List ℕ → Marks
closing [] = record { text = []; pending = [] }
closing (zero ∷ ks) = record { text = 41 ∷ (closing ks).text; pending = (closing ks).pending }
closing (suc k ∷ ks) = record { text = 44 ∷ []; pending = k ∷ ks }

-- behind a node with so many arguments
abbrev pub marks_behind : ℕ → List ℕ → Marks
marks_behind zero ks = closing ks
marks_behind (suc k) ks = record { text = 40 ∷ []; pending = k ∷ ks }

-- the text of a node without its arguments
abbrev pub node_text : Table → Node → List ℕ
node_text table (Var n) = variable_text n
node_text table (App f k) = spelling (name_of table f)

abbrev pub arguments_of : Node → ℕ
arguments_of (Var n) = 0
arguments_of (App f k) = k

-- the node's symbol, where it has one, is the table's
abbrev pub HasSymbol : Table → Node → Type 0
HasSymbol table (Var n) = Unit {0}
HasSymbol table (App f k) = Has table f
