-- What the readers of items answer.
use Rattle.std.specs.Prelude.{◌≡◌, ℕ, Bool, List, []}
use Rattle.uc_term.specs.Tree.{Tree}
use Rattle.uc_term.specs.Table.{Table}
use Rattle.uc_clause.specs.declared.token.Token.{Token}
use Rattle.uc_clause.specs.declared.token.Place.{Place}
use Rattle.uc_clause.specs.declared.clause.Clause.{Clause}
use Rattle.uc_clause.specs.declared.clause.Item.{Item}
use Rattle.uc_clause.specs.declared.fault.ClauseFault.{ClauseFault}
use Rattle.uc_clause.specs.declared.grammar.item.Heading.{Heading}
use Rattle.uc_clause.specs.declared.grammar.literal.Equation.{Equation}
use Rattle.uc_clause.specs.declared.grammar.stop.Why.{Why}
use Rattle.uc_clause.specs.Rules.{Rule, read, stop}
use Rattle.uc_clause.specs.Parse.{Literal, Formula, Entry}
use Rattle.uc_clause.specs.Items as items
use Rattle.uc_clause.specs.Meaning.{Variables, MeansSides, MeansClause, MeansItem, MeanItems, places_of}
use Rattle.uc_clause.specs.Refusals.{fault_of}
use Rattle.uc_clause.specs.Sides.{AreSides}

-- from a token on the item of a clause is read, which is this
pub record ReadsFormula (bytes : List ℕ) (tokens : List Token) (from : ℕ) (table : Table) (heading : Heading) (equation : Equation) (end : ℕ) : Type 0 where
  pub literal : Literal
  pub reads : items.cnf bytes tokens from (read (record { heading = heading; literal = literal }) end)
  pub positive : equation.positive ≡ literal.positive
  pub seen : Variables
  pub are_sides : AreSides bytes tokens literal.sides [] seen table equation.pair

-- from a token on a clause is read, up to another token
pub record ReadsClauseAt (bytes : List ℕ) (tokens : List Token) (from : ℕ) (table : Table) (clause : Clause) (end : ℕ) : Type 0 where
  pub parse : Formula
  pub reads : items.cnf bytes tokens from (read parse end)
  pub means : MeansClause bytes tokens table parse clause

-- from a token on an item is read, up to another token
pub record ReadsItemAt (bytes : List ℕ) (tokens : List Token) (from : ℕ) (table : Table) (item : Item) (end : ℕ) : Type 0 where
  pub entry : Entry
  pub reads : items.Item bytes tokens from (read entry end)
  pub means : MeansItem bytes tokens table entry item

-- from a token on a literal is read, up to another token: whether it is an equation, its two sides, and where their nodes
-- stand
pub record ReadsLiteralAt (bytes : List ℕ) (tokens : List Token) (from : ℕ) (table : Table) (positive : Bool) (left right : Tree) (places : List Place) (end : ℕ) : Type 0 where
  pub literal : Literal
  pub reads : items.literal bytes tokens from (read literal end)
  pub is_positive : positive ≡ literal.positive
  pub means : MeansSides bytes tokens table literal.sides left right
  pub are_places : places ≡ places_of bytes tokens literal.sides

-- the tokens are these items up to the end of the text
pub record AreItems (bytes : List ℕ) (tokens : List Token) (table : Table) (found : List Item) : Type 0 where
  pub entries : List Entry
  pub end : ℕ
  pub reads : items.Items bytes tokens 0 (read entries end)
  pub means : MeanItems bytes tokens table entries found

-- from a token on the rule stops, with this fault
pub data StopsWith {P : Type 0} (rule : Rule P) (bytes : List ℕ) (tokens : List Token) (from : ℕ) : ClauseFault → Type 0 where
  stops_with : {why : Why} {k : ℕ} → rule from (stop why k) → StopsWith rule bytes tokens from (fault_of bytes tokens why k)
