-- Instances of clauses that are decided by a prefix, or wait at a cell.
use Rattle.std.specs.Prelude.{ℕ, ◌≡◌, ◌+◌, ◌<◌, ◌≤◌, List, [], ◌∷◌, ◌++◌, length, slice_get, Some}
use Rattle.uc_table.specs.declared.search_waiting.Entry.{Entry}
use Rattle.uc_table.specs.declared.search_instances.Form.{Form}
use Rattle.uc_table.specs.declared.search_instances.Decided.{Decided}
use Rattle.uc_table.specs.declared.search_instances.Decided.TheVariants as decided
use Rattle.uc_table.specs.Tables.{MOST_CELLS}
use Rattle.uc_table.specs.SearchCells.{AreAgainst}
use Rattle.uc_table.specs.SearchReads.{AreReadsOf}
use Rattle.uc_table.specs.SearchSteps.{Ran, stops, waits, run, AreSteps}

-- what the steps of a clause's sides come to
abbrev pub ran : ℕ → List ℕ → Form → ℕ → Ran
ran size prefix form assignment = run size assignment prefix form.steps.items []

-- both sides have values, against the clause
pub record IsAgainst (size : ℕ) (prefix : List ℕ) (form : Form) (assignment : ℕ) : Type 0 where
  pub left : ℕ
  pub right : ℕ
  pub ran_is : ran size prefix form assignment ≡ stops (right ∷ left ∷ [])
  pub against : AreAgainst form.positive left right

-- not both sides have values, or these are not against the clause; and none waits
pub record IsFor (size : ℕ) (prefix : List ℕ) (form : Form) (assignment : ℕ) : Type 0 where
  pub not_against : IsAgainst size prefix form assignment → ⊥
  pub not_waiting : (cell : ℕ) → ran size prefix form assignment ≡ waits cell → ⊥

pub record Waits (size : ℕ) (prefix : List ℕ) (form : Form) (assignment cell : ℕ) : Type 0 where
  pub ran_is : ran size prefix form assignment ≡ waits cell
  pub within : cell < MOST_CELLS

abbrev pub IsDecided : ℕ → List ℕ → Form → ℕ → Decided → Type 0
IsDecided size prefix form assignment decided.Against = IsAgainst size prefix form assignment
IsDecided size prefix form assignment decided.For = IsFor size prefix form assignment
IsDecided size prefix form assignment (decided.Waits cell) = Waits size prefix form assignment cell

-- the steps can be run on a stack of so much room
pub record IsForm (size room : ℕ) (form : Form) : Type 0 where
  pub steps : AreSteps size form.steps.items
  pub reads : AreReadsOf size form.steps.items form.reads
  pub short : length form.steps.items + 2 ≤ room

abbrev pub AreForms : ℕ → ℕ → List Form → Type 0
AreForms size room forms = (k : ℕ) (f : Form) → slice_get forms k ≡ Some f → IsForm size room f

-- the entry is of an instance of a clause
pub record IsOf (forms : List Form) (e : Entry) : Type 0 where
  pub form : Form
  pub form_is : slice_get forms e.form ≡ Some form
  pub small : e.assignment < form.assignments

abbrev pub AreOf : List Form → List Entry → Type 0
AreOf forms entries = (i : ℕ) (e : Entry) → slice_get entries i ≡ Some e → IsOf forms e

-- the instance waits at the cell
pub record Has (entries : List Entry) (number assignment cell : ℕ) : Type 0 where
  pub place : ℕ
  pub entry : Entry
  pub entry_is : slice_get entries place ≡ Some entry
  pub number_is : entry.form ≡ number
  pub assignment_is : entry.assignment ≡ assignment
  pub cell_is : entry.cell ≡ cell

pub record Extends (old new : List Entry) : Type 0 where
  pub more : List Entry
  pub new_is : new ≡ old ++ more

-- the instance isn't against its clause, and waits at the cell at which its evaluation stops
pub record IsSettledBy (size : ℕ) (prefix : List ℕ) (form : Form) (number assignment : ℕ) (entries : List Entry) : Type 0 where
  pub not_against : IsAgainst size prefix form assignment → ⊥
  pub waiting : (cell : ℕ) → ran size prefix form assignment ≡ waits cell → Has entries number assignment cell

module _ (size : ℕ) (prefix : List ℕ) (forms : List Form) where
  -- the same of the instance of the clause of this number
  abbrev pub IsSettled : ℕ → ℕ → List Entry → Type 0
  IsSettled number assignment entries = (f : Form) → slice_get forms number ≡ Some f → IsSettledBy size prefix f number assignment entries

  pub record IsAgainstNow (number assignment : ℕ) : Type 0 where
    pub form : Form
    pub form_is : slice_get forms number ≡ Some form
    pub against : IsAgainst size prefix form assignment

  -- some instance is against its clause
  pub record IsRefutedBy : Type 0 where
    pub number : ℕ
    pub assignment : ℕ
    pub form : Form
    pub form_is : slice_get forms number ≡ Some form
    pub small : assignment < form.assignments
    pub against : IsAgainst size prefix form assignment

  -- the instances of the clauses from one number to another
  abbrev pub AreFormsSettled : ℕ → ℕ → List Entry → Type 0
  AreFormsSettled from to entries = (k a : ℕ) (f : Form) → from ≤ k → k < to → slice_get forms k ≡ Some f → a < f.assignments → IsSettledBy size prefix f k a entries

  -- all instances
  abbrev pub AreSettled : List Entry → Type 0
  AreSettled entries = (k a : ℕ) (f : Form) → slice_get forms k ≡ Some f → a < f.assignments → IsSettledBy size prefix f k a entries

  -- those that waited at a cell, from a place on
  abbrev pub AreSettledBelow : ℕ → ℕ → List Entry → List Entry → Type 0
  AreSettledBelow cell from old new = (i : ℕ) (e : Entry) → from ≤ i → slice_get old i ≡ Some e → e.cell ≡ cell → IsSettled e.form e.assignment new
