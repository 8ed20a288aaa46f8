-- What the grammar makes of tokens: trees whose leaves are the numbers of tokens.
use Rattle.std.specs.Prelude.{ℕ, ◌+◌, Bool, List, [], ◌∷◌, ◌++◌}
use Rattle.uc_clause.specs.declared.grammar.item.Heading.{Heading}
use Rattle.uc_clause.specs.declared.grammar.item.Inclusion.{Inclusion}

mutual
  -- a term: a variable, or a functor with its arguments, by the numbers of their tokens
  pub data Parse : Type 0 where
    variable : ℕ → Parse
    applied : ℕ → Parses → Parse

  pub data Parses : Type 0 where
    no_more : Parses
    also : Parse → Parses → Parses

-- the tokens that are the term's nodes, in prefix order
abbrev mutual
  pub leaves : Parse → List ℕ
  leaves (variable k) = k ∷ []
  leaves (applied k ps) = k ∷ leaves_all ps

  pub leaves_all : Parses → List ℕ
  leaves_all no_more = []
  leaves_all (also p ps) = leaves p ++ leaves_all ps

-- those of them that are variables
abbrev mutual
  pub variables : Parse → List ℕ
  variables (variable k) = k ∷ []
  variables (applied k ps) = variables_all ps

  pub variables_all : Parses → List ℕ
  variables_all no_more = []
  variables_all (also p ps) = variables p ++ variables_all ps

-- how many nodes
abbrev mutual
  pub size : Parse → ℕ
  size (variable k) = 1
  size (applied k ps) = size_all ps + 1

  pub size_all : Parses → ℕ
  size_all no_more = 0
  size_all (also p ps) = size p + size_all ps

-- how many terms
abbrev pub count_all : Parses → ℕ
count_all no_more = 0
count_all (also p ps) = count_all ps + 1

pub record Sides : Type 0 where
  pub left : Parse
  pub right : Parse

-- an equation, or its denial
pub record Literal : Type 0 where
  pub positive : Bool
  pub sides : Sides

-- a clause: where its item begins, its name and its role, and what it says
pub record Formula : Type 0 where
  pub heading : Heading
  pub literal : Literal

pub data Entry : Type 0 where
  formula : Formula → Entry
  inclusion : Inclusion → Entry
