-- What the readers of two sides answer.
use Rattle.std.specs.Prelude.{◌≡◌, ℕ, List, ◌++◌, map}
use Rattle.uc_term.specs.Tree.{Tree}
use Rattle.uc_term.specs.Table.{Table}
use Rattle.uc_clause.specs.declared.token.Token.{Token}
use Rattle.uc_clause.specs.declared.grammar.term.Part.{Part}
use Rattle.uc_clause.specs.declared.grammar.literal.Pair.{Pair}
use Rattle.uc_clause.specs.declared.grammar.literal.Equation.{Equation}
use Rattle.uc_clause.specs.Terminals.{place_at}
use Rattle.uc_clause.specs.Rules.{Rule, read}
use Rattle.uc_clause.specs.Parse.{Parse, leaves, Sides, Literal}
use Rattle.uc_clause.specs.Terms.{Term}
use Rattle.uc_clause.specs.Items.{term_alone, equals_alone}
use Rattle.uc_clause.specs.Reading.{SaysTerm, SaysSides}
use Rattle.uc_clause.specs.Meaning.{Variables, with_names, variables_in, Means, places_of}

-- the right side is read behind the left one
pub record AddsSide (bytes : List ℕ) (tokens : List Token) (left : Part) (at : ℕ) (seen more_seen : Variables) (table : Table) (pair : Pair) : Type 0 where
  pub right : Parse
  pub reads : Term bytes tokens 0 at (read right pair.end)
  pub is_left : pair.left ≡ left.term
  pub places : pair.places.items ≡ left.places.items ++ map (place_at bytes tokens) (leaves right)
  pub seen_is : more_seen ≡ with_names seen (variables_in bytes tokens right)
  pub means : Means bytes tokens table more_seen right pair.right

-- the sides are these two terms, with their places
pub record AreSides (bytes : List ℕ) (tokens : List Token) (sides : Sides) (seen more_seen : Variables) (table : Table) (pair : Pair) : Type 0 where
  pub places : pair.places.items ≡ places_of bytes tokens sides
  pub seen_is : more_seen ≡ with_names (with_names seen (variables_in bytes tokens sides.left)) (variables_in bytes tokens sides.right)
  pub means_left : Means bytes tokens table more_seen sides.left pair.left
  pub means_right : Means bytes tokens table more_seen sides.right pair.right

-- from a token on the rule reads sides, which are these
pub record ReadsPair (rule : Rule Sides) (bytes : List ℕ) (tokens : List Token) (from : ℕ) (seen more_seen : Variables) (table : Table) (pair : Pair) : Type 0 where
  pub sides : Sides
  pub reads : rule from (read sides pair.end)
  pub are_sides : AreSides bytes tokens sides seen more_seen table pair

-- from a token on the rule reads a literal, which is this
pub record ReadsLiteral (rule : Rule Literal) (bytes : List ℕ) (tokens : List Token) (from : ℕ) (seen more_seen : Variables) (table : Table) (equation : Equation) : Type 0 where
  pub literal : Literal
  pub reads : rule from (read literal equation.pair.end)
  pub positive : equation.positive ≡ literal.positive
  pub are_sides : AreSides bytes tokens literal.sides seen more_seen table equation.pair

-- all the tokens are a term, which is this
pub record IsTermAlone (bytes : List ℕ) (tokens : List Token) (table : Table) (t : Tree) : Type 0 where
  pub parse : Parse
  pub end : ℕ
  pub reads : term_alone bytes tokens 0 (read parse end)
  pub means : SaysTerm table bytes tokens parse t

-- all the tokens are the equation of two terms, which are these
pub record IsEquationAlone (bytes : List ℕ) (tokens : List Token) (table : Table) (pair : Tree × Tree) : Type 0 where
  pub sides : Sides
  pub end : ℕ
  pub reads : equals_alone bytes tokens 0 (read sides end)
  pub means : SaysSides table bytes tokens sides pair
