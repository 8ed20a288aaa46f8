-- Which table of symbols reading makes of the table before, as for clauses.
use Rattle.std.specs.Prelude.{◌≡◌, ℕ, List, [], ◌∷◌}
use Rattle.uc_term.specs.Table.{Table}
use Rattle.uc_clause.specs.declared.token.Token.{Token}
use Rattle.uc_clause.specs.Tokens.{AreTokens}
use Rattle.uc_clause.specs.Interning as clause
use Rattle.uc_fof.specs.Rules.{Rule, Outcome, read}
use Rattle.uc_fof.specs.Parse.{Stated, Entry, item, stated}
use Rattle.uc_fof.specs.Formulas.{Items}

module _ (bytes : List ℕ) (tokens : List Token) where
  -- with the functors of a formula
  abbrev pub with_stated : Table → Stated → Table
  with_stated table s = clause.with_literal bytes tokens table s.literal

  abbrev pub with_item : Table → Entry → Table
  with_item table (item entry) = clause.with_item bytes tokens table entry
  with_item table (stated s) = with_stated table s

  abbrev pub with_items : Table → List Entry → Table
  with_items table [] = table
  with_items table (entry ∷ entries) = with_items (with_item table entry) entries

-- the text is tokens, which are items from the first to the last of them, and these make the new table of the old
pub record InternsFile (bytes : List ℕ) (old new : Table) : Type 0 where
  pub tokens : List Token
  pub are_tokens : AreTokens bytes tokens
  pub entries : List Entry
  pub end : ℕ
  pub reads : Items bytes tokens 0 (read entries end)
  pub new_is : new ≡ with_items bytes tokens old entries
