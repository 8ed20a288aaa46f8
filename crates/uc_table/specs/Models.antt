-- When a table is a model of axioms and goals.
use Rattle.std.specs.Prelude.{ℕ, ◌≡◌, ◌<◌, List, slice_get, Some}
use Rattle.uc_term.specs.declared.equation.Equation.{Equation}
use Rattle.uc_clause.specs.declared.clause.Sourced.{Sourced}
use Rattle.uc_check.specs.Clauses.{axioms_of, goals_of}
use Rattle.uc_table.specs.declared.table.Table.{Table}
use Rattle.uc_table.specs.Algebras.{value}

-- the assignment gives each variable a value below the size
abbrev pub Assigns : ℕ → (ℕ → ℕ) → Type 0
Assigns size α = (x : ℕ) → α x < size

module _ (table : Table) where
  -- the sides of an equation have one value under an assignment
  abbrev pub Agree : Equation → (ℕ → ℕ) → Type 0
  Agree e α = value table α e.left ≡ value table α e.right

  -- they have two values
  abbrev pub Differ : Equation → (ℕ → ℕ) → Type 0
  Differ e α = Agree e α → ⊥

  -- the sides have one value under every assignment
  abbrev pub Satisfies : Equation → Type 0
  Satisfies e = (α : ℕ → ℕ) → Assigns table.size α → Agree e α

  -- the sides have two values under every assignment
  abbrev pub KeepsApart : Equation → Type 0
  KeepsApart e = (α : ℕ → ℕ) → Assigns table.size α → Differ e α

  abbrev pub SatisfiesAll : List Equation → Type 0
  SatisfiesAll es = (k : ℕ) (e : Equation) → slice_get es k ≡ Some e → Satisfies e

  abbrev pub KeepsAllApart : List Equation → Type 0
  KeepsAllApart es = (k : ℕ) (e : Equation) → slice_get es k ≡ Some e → KeepsApart e

  -- the table is a model of these clauses: it satisfies every axiom, and keeps the sides of every goal apart
  pub record IsModel (clauses : List Sourced) : Type 0 where
    pub axioms : SatisfiesAll (axioms_of clauses)
    pub goals : KeepsAllApart (goals_of clauses)
