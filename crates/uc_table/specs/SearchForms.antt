-- The clauses as steps, by the places of the cells.
use Rattle.std.specs.Prelude.{ℕ, ◌≡◌, ◌+◌, ◌≤◌, ◌==◌, ◌^◌, List, [], ◌∷◌, ◌++◌, length, take, get_or, slice_get, Option, Some, None, if◌then◌else◌}
use Rattle.uc_term.specs.declared.node.Sym.{Sym}
use Rattle.uc_term.specs.declared.node.Node.{Node}
use Rattle.uc_term.specs.declared.node.Node.TheVariants.{Var, App}
use Rattle.uc_term.specs.Table.{Table as SymbolTable, arity_of}
use Rattle.uc_term.specs.Flat.{flat}
use Rattle.uc_term.specs.Gathering.{HasAll}
use Rattle.uc_clause.specs.declared.clause.Clause.{Clause}
use Rattle.uc_clause.specs.declared.clause.Sourced.{Sourced}
use Rattle.uc_check.specs.Clauses.{equation_of}
use Rattle.uc_table.specs.declared.search_layout.Layout.{Layout}
use Rattle.uc_table.specs.declared.search_steps.Step.{Step}
use Rattle.uc_table.specs.declared.search_steps.Step.TheVariants.{Variable, Apply, Foreign}
use Rattle.uc_table.specs.declared.search_instances.Form.{Form}
use Rattle.uc_table.specs.Tables.{MOST_CELLS, cells_for}
use Rattle.uc_table.specs.Checks.{variable_count}
use Rattle.uc_table.specs.Evaluating.{AreNumbers}
use Rattle.uc_table.specs.SearchCells.{first_cell}
use Rattle.uc_table.specs.SearchReads.{AreReadsOf}

module _ (symbols : SymbolTable) (size : ℕ) (signature : List Sym) where
  -- for each number how many cells the symbols before it have
  pub record AreFirsts (firsts : List ℕ) : Type 0 where
    pub as_many : length firsts ≡ length signature + 1
    pub each : (i : ℕ) → i ≤ length signature → get_or firsts i 0 ≡ cells_for symbols size (take i signature)

  pub record IsLaidOut (layout : Layout) : Type 0 where
    pub some : 1 ≤ size
    pub size_is : layout.size ≡ size
    pub has : HasAll symbols signature
    pub numbers : AreNumbers signature layout.numbers.items
    pub long : length layout.numbers.items ≡ length symbols
    pub firsts : AreFirsts layout.firsts.items
    pub few : cells_for symbols size signature ≤ MOST_CELLS

  -- the step of a symbol with so many arguments, whose first cell may have this place
  abbrev pub applied : Option ℕ → ℕ → Step
  applied (Some k) n = Apply k n
  applied None n = Foreign

  -- a variable's unit is the power of the size by its number, so that the assignments are the numbers whose digits give the values
  abbrev pub step_of : Node → Step
  step_of (Var x) = Variable (size ^ x)
  step_of (App f n) = if n == arity_of symbols f then applied (first_cell symbols size signature f) n else Foreign

  -- the steps of nodes, the last node first
  abbrev pub steps_of : List Node → List Step
  steps_of [] = []
  steps_of (n ∷ ns) = steps_of ns ++ step_of n ∷ []

  pub record IsFormOf (c : Clause) (form : Form) : Type 0 where
    pub steps : form.steps.items ≡ steps_of (flat c.left) ++ steps_of (flat c.right)
    pub reads : AreReadsOf size form.steps.items form.reads
    pub positive : form.positive ≡ c.positive
    pub assignments : form.assignments ≡ size ^ variable_count (equation_of c)

  pub record AreFormsOf (clauses : List Sourced) (forms : List Form) : Type 0 where
    pub as_many : length forms ≡ length clauses
    pub each : (k : ℕ) (s : Sourced) (f : Form) → slice_get clauses k ≡ Some s → slice_get forms k ≡ Some f → IsFormOf s.clause f
