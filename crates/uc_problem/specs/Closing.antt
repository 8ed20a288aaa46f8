-- What the parts of closing a conjecture answer.
use Rattle.std.specs.Prelude.{ℕ, ◌≡◌, ◌≤◌, ◌<◌, ◌||◌, Bool, true, false, List, Vec, Option, Some, None, slice_get}
use Rattle.std.specs.declared.alloc.Global.{Global}
use Rattle.uc_term.specs.declared.node.Node.{Node}
use Rattle.uc_term.specs.declared.node.Node.TheVariants.{Var, App}
use Rattle.uc_term.specs.declared.node.Sym.{Sym}
use Rattle.uc_term.specs.Tree.{Tree}
use Rattle.uc_term.specs.Table.{Table}
use Rattle.uc_problem.specs.NameSets.{has_text}
use Rattle.uc_problem.specs.Conjecture.{constant_name, is_taken}

-- the keys are the names of the symbols of the terms
abbrev pub AreTaken : Table → List Tree → List (Vec ℕ Global) → Type 0
AreTaken table ts keys = (name : List ℕ) → has_text keys name ≡ is_taken table ts name

-- the keys got the names that a term has
abbrev pub TakesName : (List ℕ → Tree → Bool) → Tree → List (Vec ℕ Global) → List (Vec ℕ Global) → Type 0
TakesName has t old new = (name : List ℕ) → has_text new name ≡ (has_text old name || has name t)

-- the first number from here on whose name isn't among the keys, with that name
pub record IsNextFree (keys : List (Vec ℕ Global)) (from number : ℕ) (name : List ℕ) : Type 0 where
  pub later : from ≤ number
  pub taken : (k : ℕ) → from ≤ k → k < number → has_text keys (constant_name k) ≡ true
  pub free : has_text keys (constant_name number) ≡ false
  pub is_name : name ≡ constant_name number

-- a constant for a variable that has one
abbrev pub constant_or : ℕ → Option Sym → Node
constant_or x (Some c) = App c 0
constant_or x None = Var x

abbrev pub closed_node : List Sym → Node → Node
closed_node constants (Var x) = constant_or x (slice_get constants x)
closed_node constants (App f n) = App f n
