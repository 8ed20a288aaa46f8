-- Substitutions as lists of pairs of a variable and its term. The first pair of a variable counts.
use Rattle.std.specs.Prelude.{ℕ, ◌==◌, ◌≡◌, List, [], ◌∷◌, map, Option, Some, None, unwrap_or, if◌then◌else◌, slice_get}
use Rattle.std.specs.Coded.{Coded, coded_list, coded_ℕ, coded×}
use Rattle.uc_term.specs.declared.node.Node.{Node}
use Rattle.uc_term.specs.declared.node.Node.TheVariants.{Var, App}
use Rattle.uc_term.specs.Tree.{Tree, var, nodes}
use Rattle.uc_term.specs.Code.{tree_code}
use Rattle.uc_term.specs.Flat.{flat}

abbrev pub pairs_code : Coded (List (ℕ × Tree))
pairs_code = coded_list (coded× coded_ℕ tree_code)

abbrev pub found : List (ℕ × Tree) → ℕ → Option Tree
found [] x = None
found (p ∷ ps) x = if p.0 == x then Some p.1 else found ps x

-- the term of each variable; a variable without a pair stands for itself
abbrev pub image : List (ℕ × Tree) → ℕ → Tree
image ps x = unwrap_or (found ps x) (var x)

-- the variables that have a pair, in the order of the pairs
abbrev pub domain : List (ℕ × Tree) → List ℕ
domain ps = map (λ p. p.0) ps

-- the substitution gives each variable that has a pair the term of its pair
abbrev pub Agrees : (ℕ → Tree) → List (ℕ × Tree) → Type 0
Agrees σ ps = (x : ℕ) (t : Tree) → found ps x ≡ Some t → σ x ≡ t

-- how many nodes a node of a term's flat list becomes in the term's instance
abbrev pub image_nodes : (ℕ → Tree) → Node → ℕ
image_nodes σ (Var x) = nodes (σ x)
image_nodes σ (App f n) = 1

-- the node is a variable that has a pair
abbrev pub HasPair : List (ℕ × Tree) → Node → Type 0
HasPair ps (Var x) = (t : Tree) × (found ps x ≡ Some t)
HasPair ps (App f n) = ⊥

-- a variable among these nodes has a pair
abbrev pub Moves : List (ℕ × Tree) → List Node → Type 0
Moves ps ns = (i : ℕ) × (n : Node) × (slice_get ns i ≡ Some n) × HasPair ps n

-- no variable that has a pair occurs in a pair's term
abbrev pub IsIdempotent : List (ℕ × Tree) → Type 0
IsIdempotent ps = (i : ℕ) (p : ℕ × Tree) → slice_get ps i ≡ Some p → Moves ps (flat p.1) → ⊥
