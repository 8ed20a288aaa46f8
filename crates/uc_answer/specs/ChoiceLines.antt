-- The line of an order that is refused.
use Rattle.std.specs.Prelude.{ℕ, List, [], ◌++◌, codes, decimal}
use Rattle.uc_clause.specs.Names.{spelling}
use Rattle.uc_ordering.specs.declared.fault.ChoiceFault.{ChoiceFault}
use Rattle.uc_ordering.specs.declared.fault.ChoiceFault.TheVariants.{UnknownSymbol, NotTotal, BadWeight, NoMemory}
use Rattle.uc_answer.specs.Lines.{spaced}

-- a line about the order: what is so of a name, and more
abbrev pub about_order : List ℕ → List ℕ → List ℕ → List ℕ
about_order kind name more = codes "% order " ++ kind ++ spaced (spelling name) ++ more ++ codes "\n"

-- the line of an order that is refused; none for want of memory, which has a line of its own
abbrev pub choice_line : ChoiceFault → List ℕ
choice_line (UnknownSymbol name) = about_order (codes "UnknownSymbol") name []
choice_line (NotTotal name) = about_order (codes "NotTotal") name []
choice_line (BadWeight name weight) = about_order (codes "BadWeight") name (spaced (decimal weight))
choice_line NoMemory = []
