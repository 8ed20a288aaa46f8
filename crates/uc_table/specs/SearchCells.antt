-- The cells of a table in one row, and what a prefix of their values fixes and refutes.
use Rattle.std.specs.Prelude.{ℕ, ◌≡◌, ◌+◌, ◌==◌, Bool, true, false, List, [], ◌∷◌, length, slice_get, Option, Some, None, if◌then◌else◌}
use Rattle.uc_term.specs.declared.node.Sym.{Sym}
use Rattle.uc_term.specs.Tree.{Tree, var, app, Trees, none, more}
use Rattle.uc_term.specs.Table.{Table as SymbolTable, arity_of}
use Rattle.uc_term.specs.Signatures.{same_symbol}
use Rattle.uc_clause.specs.declared.clause.Sourced.{Sourced}
use Rattle.uc_table.specs.Algebras.{place_of}
use Rattle.uc_table.specs.Tables.{cell_count}
use Rattle.uc_table.specs.Models.{Assigns}

-- the value that is made of a value, if there is one
abbrev pub behind_some : {A B : Type 0} → Option A → (A → Option B) → Option B
behind_some None next = None
behind_some (Some x) next = next x

module _ (symbols : SymbolTable) (size : ℕ) where
  -- The place of a symbol's first cell: the cells of the symbols stand one after another, in the order of the signature. A symbol
  -- that isn't of the signature has no cell.
  abbrev pub first_cell : List Sym → Sym → Option ℕ
  first_cell [] f = None
  first_cell (g ∷ gs) f = if same_symbol g f then Some 0 else behind_some (first_cell gs f) (λ k. Some (cell_count symbols size g + k))

  -- the value of a symbol for a list of arguments, of which there are as many as its arity, where the prefix has this cell
  abbrev pub cell_in : List Sym → List ℕ → Sym → List ℕ → Option ℕ
  cell_in signature prefix f args = if length args == arity_of symbols f then behind_some (first_cell signature f) (λ k. slice_get prefix (k + place_of size args)) else None

-- the value of a term under an assignment, where the cells of all its subterms have values
module _ (cell : Sym → List ℕ → Option ℕ) (α : ℕ → ℕ) where
  abbrev mutual
    pub fixed_by : Tree → Option ℕ
    fixed_by (var x) = Some (α x)
    fixed_by (app f ts) = behind_some (all_fixed_by ts) (cell f)

    pub all_fixed_by : Trees → Option (List ℕ)
    all_fixed_by none = Some []
    all_fixed_by (more t ts) = behind_some (fixed_by t) (λ v. behind_some (all_fixed_by ts) (λ vs. Some (v ∷ vs)))

-- two values are against an equation, or against its denial
abbrev pub AreAgainst : Bool → ℕ → ℕ → Type 0
AreAgainst true left right = left ≡ right → ⊥
AreAgainst false left right = left ≡ right

-- the prefix fixes both values of an instance of an axiom and they differ, or of a goal and they agree
pub record IsRefuted (symbols : SymbolTable) (signature : List Sym) (clauses : List Sourced) (size : ℕ) (prefix : List ℕ) : Type 0 where
  pub number : ℕ
  pub clause : Sourced
  pub clause_is : slice_get clauses number ≡ Some clause
  pub α : ℕ → ℕ
  pub assigns : Assigns size α
  pub left : ℕ
  pub right : ℕ
  pub left_is : fixed_by (cell_in symbols size signature prefix) α clause.clause.left ≡ Some left
  pub right_is : fixed_by (cell_in symbols size signature prefix) α clause.clause.right ≡ Some right
  pub against : AreAgainst clause.clause.positive left right
