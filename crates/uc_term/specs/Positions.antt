-- The place in a term's flat list that a written position names.
use Rattle.std.specs.Prelude.{ℕ, zero, suc, ◌≡◌, ◌+◌, ◌-◌, ◌<◌, ◌≤◌, ◌⊎◌, ◌++◌, ◌∷◌, [], List, length, take, drop, Some}
use Rattle.uc_term.specs.declared.node.Node.TheVariants.{Var, App}
use Rattle.uc_term.specs.declared.node.Node.{Node}
use Rattle.uc_term.specs.Tree.{Tree, var, app, list_of, of_list, nodes, nodes_all, subterm, put}
use Rattle.uc_term.specs.Path.{at_position, put_position, written_argument}
use Rattle.uc_term.specs.Flat.{tree_of}

-- The place is inside the term, the subterm there is the one at the written position, and to replace it there is to replace
-- it at the position.
pub record IsPlaceOf (t : Tree) (path : List ℕ) (place : ℕ) : Type 0 where
  pub inside : place < nodes t
  pub there : at_position t path ≡ Some (subterm t place)
  pub puts : (w : Tree) → put t place w ≡ put_position t path w

-- how many nodes of a term stand before its argument of a number
abbrev pub argument_offset : Tree → ℕ → ℕ
argument_offset (var x) number = 0
argument_offset (app f ts) zero = 0
argument_offset (app f ts) (suc i) = 1 + nodes_all (of_list (take i (list_of ts)))

-- at this place of the list the argument of that number begins, of the term that begins at a place before
pub record IsArgumentPlace (list : List Node) (at number place : ℕ) : Type 0 where
  pub inside : place < length list
  pub there : written_argument (tree_of (drop at list)) number ≡ Some (tree_of (drop place list))
  pub offset : place ≡ at + argument_offset (tree_of (drop at list)) number

-- A step backwards over a list from a place, where so many whole terms stand between: a variable, or a symbol whose arguments
-- are among them, is one more; a symbol with more arguments is the parent of the place, which is the argument behind them.
abbrev pub IsStepUp : Node → ℕ → List ℕ → List ℕ → ℕ → Type 0
IsStepUp (Var x) between old new now = (new ≡ old) × (now ≡ between + 1)
IsStepUp (App f n) between old new now = ((between < n) × (new ≡ old ++ (between + 1) ∷ []) × (now ≡ 0)) ⊎ ((n ≤ between) × (new ≡ old) × (now ≡ between - n + 1))
