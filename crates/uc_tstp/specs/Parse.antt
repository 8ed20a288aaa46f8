-- What the grammar makes of the tokens of a proof: lines whose leaves are the numbers of tokens.
use Rattle.std.specs.Prelude.{ℕ, Bool, List, [], ◌++◌, map}
use Rattle.std.specs.List.{flat_map}
use Rattle.uc_clause.specs.Parse.{Parse, Literal}

-- the body of a line: an equation or its denial, or `$false`
pub data Body : Type 0 where
  says : Literal → Body
  falsum : Body

-- a step: the token that names its line, its way, the numbers of its path, and the term behind it
pub record Step : Type 0 where
  pub by : ℕ
  pub left_to_right : Bool
  pub path : List ℕ
  pub to : Parse

-- what stands before the term of a step
pub record StepHead : Type 0 where
  pub by : ℕ
  pub left_to_right : Bool
  pub path : List ℕ

-- where a line comes from, with the tokens that name its parents
pub data Source : Type 0 where
  from_file : ℕ → Source
  by_chain : Parse → List Step → List ℕ → Source
  by_reflexive : List ℕ → Source
  by_goal : List ℕ → Source
  by_refute : List ℕ → Source

-- a line, with the token of its name
pub record Line : Type 0 where
  pub name : ℕ
  pub body : Body
  pub source : Source

-- the tokens that name lines, in text order
abbrev pub mentions : Source → List ℕ
mentions (from_file name) = []
mentions (by_chain start steps parents) = map (λ (s : Step). s.by) steps ++ parents
mentions (by_reflexive parents) = parents
mentions (by_goal parents) = parents
mentions (by_refute parents) = parents

abbrev pub all_mentions : List Line → List ℕ
all_mentions lines = flat_map (λ (l : Line). mentions l.source) lines
