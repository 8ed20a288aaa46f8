-- What is read again as it was printed.
use Rattle.std.specs.Prelude.{ℕ, ◌≤◌, ◌<◌, ◌^◌, List, [], ◌∷◌, ◌++◌}
use Rattle.uc_term.specs.Tree.{Tree}
use Rattle.uc_term.specs.Over.{IsTerm}
use Rattle.uc_term.specs.Table.{Table, Has, name_of, arity_of}
use Rattle.uc_term.specs.declared.node.Sym.{Sym}
use Rattle.uc_term.specs.declared.node.Node.{Node}
use Rattle.uc_term.specs.declared.node.Node.TheVariants.{Var, App}
use Rattle.uc_term.specs.Variables.{variables, firsts, renumbered_by}
use Rattle.uc_clause.specs.declared.token.Place.{Place}
use Rattle.uc_clause.specs.declared.clause.Clause.{Clause}
use Rattle.uc_clause.specs.declared.clause.Item.TheVariants as item
use Rattle.uc_clause.specs.Names.{IsSpellable, IsSpellableName}
use Rattle.uc_clause.specs.Reading.{ReadsFile}

-- a symbol of the table whose name a token can spell, with at most 255 arguments
abbrev pub IsPrintableSymbol : Table → Sym → Type 0
IsPrintableSymbol table f = Has table f × IsSpellable (name_of table f) × (arity_of table f ≤ 255)

-- each symbol of the term is so, with its arity there
abbrev pub IsPrintable : Table → Tree → Type 0
IsPrintable table = IsTerm (IsPrintableSymbol table) (arity_of table)

-- a variable's number has 32 bits
abbrev pub IsNumbered : ℕ → Type 0
IsNumbered x = x < 2 ^ 32

abbrev pub AreNumbered : List ℕ → Type 0
AreNumbered [] = Unit {0}
AreNumbered (x ∷ xs) = IsNumbered x × AreNumbered xs

abbrev pub IsNumberedNode : Node → Type 0
IsNumberedNode (Var x) = IsNumbered x
IsNumberedNode (App f k) = Unit {0}

abbrev pub IsPrintableClause : Table → Clause → Type 0
IsPrintableClause table c = IsSpellableName c.name × IsPrintable table c.left × IsPrintable table c.right

-- the variables of both sides, each once, by first occurrence
abbrev pub clause_variables : Clause → List ℕ
clause_variables c = firsts (variables c.left ++ variables c.right)

-- the clause with its variables numbered by first occurrence, with these places, where a text begins
abbrev pub read_again : Clause → List Place → Clause
read_again c places = record c { left = renumbered_by (clause_variables c) c.left; right = renumbered_by (clause_variables c) c.right; places = places; place = record { line = 1; column = 1 } }

-- the text is read as this clause, with its variables numbered by first occurrence and the places of the text
abbrev pub ReadsAgain : List ℕ → Table → Clause → Type 0
ReadsAgain text table c = (places : List Place) × ReadsFile text table (item.Clause (read_again c places) ∷ [])
