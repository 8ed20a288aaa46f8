-- Subterms by paths: from the root, the number of the argument at each node, counted from 0.
use Rattle.std.specs.Prelude.{ℕ, zero, suc, List, [], ◌∷◌, Option, Some, None, option_and_then}
use Rattle.uc_term.specs.Tree.{Tree, var, app, Trees, none, more}

-- the argument of a number
abbrev pub nth : Trees → ℕ → Option Tree
nth none i = None
nth (more t ts) zero = Some t
nth (more t ts) (suc i) = nth ts i

abbrev pub argument : Tree → ℕ → Option Tree
argument (var x) i = None
argument (app f ts) i = nth ts i

-- the list with one of its terms changed
abbrev pub change : (Tree → Tree) → Trees → ℕ → Trees
change g none i = none
change g (more t ts) zero = more (g t) ts
change g (more t ts) (suc i) = more t (change g ts i)

abbrev pub change_argument : (Tree → Tree) → Tree → ℕ → Tree
change_argument g (var x) i = var x
change_argument g (app f ts) i = app f (change g ts i)

-- the subterm at a path
abbrev pub at : Tree → List ℕ → Option Tree
at t [] = Some t
at t (i ∷ p) = option_and_then (λ u. at u p) (argument t i)

-- the term with its subterm at a path replaced
abbrev pub put_at : Tree → List ℕ → Tree → Tree
put_at t [] u = u
put_at t (i ∷ p) u = change_argument (λ a. put_at a p u) t i

-- Written positions: paths whose numbers count the arguments from 1.
abbrev pub written_argument : Tree → ℕ → Option Tree
written_argument t zero = None
written_argument t (suc i) = argument t i

-- the subterm at a written position
abbrev pub at_position : Tree → List ℕ → Option Tree
at_position t [] = Some t
at_position t (i ∷ p) = option_and_then (λ u. at_position u p) (written_argument t i)

-- the term with its subterm at a written position replaced
abbrev pub put_position : Tree → List ℕ → Tree → Tree
put_position t [] u = u
put_position t (zero ∷ p) u = t
put_position t (suc i ∷ p) u = change_argument (λ a. put_position a p u) t i
