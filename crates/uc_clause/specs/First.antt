-- What a text begins with.
use Rattle.std.specs.Prelude.{ℕ, List}
use Rattle.uc_clause.specs.declared.lexer.First.{First}
use Rattle.uc_clause.specs.declared.lexer.First.TheVariants.{Gap, Whole, Neither}
use Rattle.uc_clause.specs.Tokens.{Stands, Skips, Stuck}

-- what begins the text, and how long it is
abbrev pub IsFirst : List ℕ → First → Type 0
IsFirst text (Gap n) = Skips text n
IsFirst text (Whole kind n) = Stands text kind n
IsFirst text Neither = Stuck text
