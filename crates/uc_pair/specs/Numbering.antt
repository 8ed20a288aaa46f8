-- Variables renumbered by their places in a list of names.
use Rattle.std.specs.Prelude.{ℕ, ◌≡◌, ◌+◌, ◌≤◌, ◌++◌, ◌∷◌, [], List, length}
use Rattle.uc_term.specs.declared.node.Node.{Node}
use Rattle.uc_term.specs.declared.node.Node.TheVariants.{Var, App}
use Rattle.uc_term.specs.Tree.{Tree, var, apply}
use Rattle.uc_term.specs.Variables.{place_of, firsts_after}

-- the term with each variable replaced by its place among the names, behind an offset
abbrev pub placed_by : List ℕ → ℕ → Tree → Tree
placed_by names offset t = apply (λ x. var (place_of names x + offset)) t

-- the name has this place among the new names, which are the old ones with the name behind them where it is new
pub record IsNameAt (x : ℕ) (old new : List ℕ) (place : ℕ) : Type 0 where
  pub names_are : new ≡ old ++ firsts_after old (x ∷ [])
  pub low : place ≤ length old
  pub place_is : (rest : List ℕ) → place ≡ place_of (new ++ rest) x

-- the node is the old one with its variable renumbered so
abbrev pub IsNumberedNode : ℕ → Node → List ℕ → List ℕ → Node → Type 0
IsNumberedNode offset (Var x) old new node = (place : ℕ) × IsNameAt x old new place × (node ≡ Var (place + offset))
IsNumberedNode offset (App f n) old new node = (new ≡ old) × (node ≡ App f n)
