-- The lexicographic path order, by its cases, over a relation of variables.
use Rattle.std.specs.Prelude.{ℕ, ◌<◌}
use Rattle.uc_term.specs.declared.node.Sym.{Sym}
use Rattle.uc_term.specs.Tree.{Tree, var, app, Trees, none, more}

mutual
  -- s is greater than t: the variable s is above the variable t; or some argument of s is t or greater; or the head of s
  -- is greater and s exceeds every argument of t; or the heads are equal, s exceeds every argument of t, and at the first
  -- arguments that differ that of s is greater
  pub data PathOrder (rank : Sym → ℕ) (above : ℕ → ℕ → Type 0) : Tree → Tree → Type 0 where
    by_variables : {x y : ℕ} → above x y → PathOrder rank above (var x) (var y)
    by_argument : {f : Sym} {ss : Trees} {t : Tree} → SomeReaches rank above ss t → PathOrder rank above (app f ss) t
    by_head : {f g : Sym} {ss ts : Trees} → rank g < rank f → Exceeds rank above (app f ss) ts → PathOrder rank above (app f ss) (app g ts)
    by_arguments : {f : Sym} {ss ts : Trees} → Exceeds rank above (app f ss) ts → FirstGreater rank above ss ts → PathOrder rank above (app f ss) (app f ts)

  -- some of them is t or greater
  pub data SomeReaches (rank : Sym → ℕ) (above : ℕ → ℕ → Type 0) : Trees → Tree → Type 0 where
    is_it : {t : Tree} {ss : Trees} → SomeReaches rank above (more t ss) t
    is_greater : {s t : Tree} {ss : Trees} → PathOrder rank above s t → SomeReaches rank above (more s ss) t
    a_later : {s t : Tree} {ss : Trees} → SomeReaches rank above ss t → SomeReaches rank above (more s ss) t

  -- s is greater than each of them
  pub data Exceeds (rank : Sym → ℕ) (above : ℕ → ℕ → Type 0) : Tree → Trees → Type 0 where
    no_more : {s : Tree} → Exceeds rank above s none
    one_more : {s t : Tree} {ts : Trees} → PathOrder rank above s t → Exceeds rank above s ts → Exceeds rank above s (more t ts)

  -- at the first place where the lists differ, the left one has the greater term
  pub data FirstGreater (rank : Sym → ℕ) (above : ℕ → ℕ → Type 0) : Trees → Trees → Type 0 where
    differ : {s t : Tree} {ss ts : Trees} → PathOrder rank above s t → FirstGreater rank above (more s ss) (more t ts)
    agree : {t : Tree} {ss ts : Trees} → FirstGreater rank above ss ts → FirstGreater rank above (more t ss) (more t ts)

-- no variable is above another
abbrev pub Nothing : ℕ → ℕ → Type 0
Nothing x y = ⊥

-- the lexicographic path order of a precedence: only equal variables can be compared
abbrev pub Lpo : (Sym → ℕ) → Tree → Tree → Type 0
Lpo rank = PathOrder rank Nothing
