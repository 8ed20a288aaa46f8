-- The variables of a term.
use Rattle.std.specs.Prelude.{ℕ, ◌+◌, Bool, true, false, ◌||◌, ◌==◌, List, [], ◌∷◌, ◌++◌, if◌then◌else◌}
use Rattle.uc_term.specs.declared.node.Sym.{Sym}
use Rattle.uc_term.specs.Tree.{Tree, var, app, Trees, none, more, apply}

mutual
  -- the variable x occurs in the term
  pub data Occurs (x : ℕ) : Tree → Type 0 where
    is_itself : Occurs x (var x)
    in_args : {f : Sym} {ts : Trees} → OccursIn x ts → Occurs x (app f ts)

  pub data OccursIn (x : ℕ) : Trees → Type 0 where
    in_first : {t : Tree} {ts : Trees} → Occurs x t → OccursIn x (more t ts)
    in_later : {t : Tree} {ts : Trees} → OccursIn x ts → OccursIn x (more t ts)

-- the term is no variable
abbrev pub IsApp : Tree → Type 0
IsApp (var x) = ⊥
IsApp (app f ts) = Unit {0}

-- the variables of a term, from left to right, each as often as it occurs
abbrev mutual
  pub variables : Tree → List ℕ
  variables (var x) = x ∷ []
  variables (app f ts) = variables_all ts

  pub variables_all : Trees → List ℕ
  variables_all none = []
  variables_all (more t ts) = variables t ++ variables_all ts

-- x is one of them
abbrev pub is_among : ℕ → List ℕ → Bool
is_among x [] = false
is_among x (y ∷ ys) = (x == y) || is_among x ys

-- the numbers that aren't seen yet, each once, by first occurrence
abbrev pub firsts_after : List ℕ → List ℕ → List ℕ
firsts_after seen [] = []
firsts_after seen (x ∷ xs) = if is_among x seen then firsts_after seen xs else x ∷ firsts_after (x ∷ seen) xs

-- each number once, by first occurrence
abbrev pub firsts : List ℕ → List ℕ
firsts xs = firsts_after [] xs

-- how many of them stand before x
abbrev pub place_of : List ℕ → ℕ → ℕ
place_of [] x = 0
place_of (y ∷ ys) x = if x == y then 0 else place_of ys x + 1

-- the term with its variables numbered by their places in the list
abbrev pub renumbered_by : List ℕ → Tree → Tree
renumbered_by xs t = apply (λ x. var (place_of xs x)) t

-- the term with its variables numbered from 0 by first occurrence
abbrev pub renumbered : Tree → Tree
renumbered t = renumbered_by (firsts (variables t)) t

-- some variable occurs in the term; a term is ground where none does
abbrev mutual
  pub has_variable : Tree → Bool
  has_variable (var x) = true
  has_variable (app f ts) = any_has_variable ts

  pub any_has_variable : Trees → Bool
  any_has_variable none = false
  any_has_variable (more t ts) = has_variable t || any_has_variable ts
