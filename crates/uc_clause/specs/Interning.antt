-- The table of symbols that reading leaves: a functor gets its symbol when its arguments are closed, so those of the arguments
-- come first, and the parts of a text in the order in which they are read. So it is one function of the text and of the table
-- before.
use Rattle.std.specs.Prelude.{◌≡◌, ℕ, ◌==◌, ◌&&◌, Bool, List, [], ◌∷◌, ◌++◌, bytes_eq, if◌then◌else◌}
use Rattle.std.specs.List.{list_any}
use Rattle.uc_term.specs.Table.{Table, Entry}
use Rattle.uc_clause.specs.declared.token.Token.{Token}
use Rattle.uc_clause.specs.Tokens.{AreTokens}
use Rattle.uc_clause.specs.Terminals.{word_at}
use Rattle.uc_clause.specs.Rules.{Outcome, Rule, read}
use Rattle.uc_clause.specs.Parse.{Parse, variable, applied, Parses, no_more, also, count_all, Sides, Literal, Formula, Entry as Parsed, formula, inclusion}
use Rattle.uc_clause.specs.Items.{Items, term_alone, equals_alone}

-- whether this is the entry of this name with this arity
abbrev pub is_entry_of : List ℕ → ℕ → Entry → Bool
is_entry_of name arity e = bytes_eq e.name name && (e.arity == arity)

-- the table with a symbol of this name and this arity: as it is where it has one, and else with one more at its end
abbrev pub with_symbol : Table → List ℕ → ℕ → Table
with_symbol table name arity = if list_any (is_entry_of name arity) table then table else table ++ record { name = name; arity = arity } ∷ []

module _ (bytes : List ℕ) (tokens : List Token) where
  abbrev mutual
    -- with the functors of a term, each behind those of its arguments
    pub with_term : Table → Parse → Table
    with_term table (variable k) = table
    with_term table (applied k ps) = with_symbol (with_terms table ps) (word_at bytes tokens k) (count_all ps)

    pub with_terms : Table → Parses → Table
    with_terms table no_more = table
    with_terms table (also p ps) = with_terms (with_term table p) ps

  -- with those of two sides, the left one first
  abbrev pub with_sides : Table → Sides → Table
  with_sides table sides = with_term (with_term table sides.left) sides.right

  -- with those of a literal
  abbrev pub with_literal : Table → Literal → Table
  with_literal table literal = with_sides table literal.sides

  -- with those of a clause
  abbrev pub with_clause : Table → Formula → Table
  with_clause table f = with_literal table f.literal

  -- with those of items in order; an include has none
  abbrev pub with_item : Table → Parsed → Table
  with_item table (formula f) = with_clause table f
  with_item table (inclusion i) = table

  abbrev pub with_items : Table → List Parsed → Table
  with_items table [] = table
  with_items table (entry ∷ entries) = with_items (with_item table entry) entries

-- from a token on the rule reads up to this token, and what it reads makes the new table of the old
pub record InternsAt {P : Type 0} (rule : Outcome P → Type 0) (with_all : Table → P → Table) (old new : Table) (end : ℕ) : Type 0 where
  pub parse : P
  pub reads : rule (read parse end)
  pub new_is : new ≡ with_all old parse

-- the text is tokens, which the rule reads from the first to the last of them, and what it reads makes the new table of the old
pub record Interns {P : Type 0} (rule : List ℕ → List Token → Rule P) (with_all : List ℕ → List Token → Table → P → Table) (bytes : List ℕ) (old new : Table) : Type 0 where
  pub tokens : List Token
  pub are_tokens : AreTokens bytes tokens
  pub parse : P
  pub end : ℕ
  pub reads : rule bytes tokens 0 (read parse end)
  pub new_is : new ≡ with_all bytes tokens old parse

-- so for the items of a file
abbrev pub InternsFile : List ℕ → Table → Table → Type 0
InternsFile bytes old new = Interns Items with_items bytes old new

-- for a term
abbrev pub InternsTerm : List ℕ → Table → Table → Type 0
InternsTerm bytes old new = Interns term_alone with_term bytes old new

-- and for the equation of two terms
abbrev pub InternsEquation : List ℕ → Table → Table → Type 0
InternsEquation bytes old new = Interns equals_alone with_sides bytes old new
