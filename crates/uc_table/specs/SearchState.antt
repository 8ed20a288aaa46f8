-- The state of a search at one size, and what the search of that size ends with.
use Rattle.std.specs.Prelude.{ℕ, zero, suc, ◌≡◌, ◌+◌, ◌-◌, ◌<◌, ◌≤◌, List, [], ◌∷◌, ◌++◌, length, take, get_or, slice_get, Some}
use Rattle.uc_order.specs.Members.{In}
use Rattle.uc_table.specs.SearchSteps.{AreSteps}
use Rattle.uc_table.specs.SearchReads.{AreReadsOf}
use Rattle.uc_table.specs.declared.search_waiting.Entry.{Entry}
use Rattle.uc_table.specs.declared.search_instances.Form.{Form}
use Rattle.uc_table.specs.declared.search_size.Rules.{Rules}
use Rattle.uc_table.specs.declared.search_size.State.{State}
use Rattle.uc_table.specs.declared.search_size.End.{End}
use Rattle.uc_table.specs.declared.search_size.End.TheVariants as ends
use Rattle.uc_table.specs.Tables.{AreValues, MOST_CELLS}
use Rattle.uc_table.specs.SearchPrefixes.{IsOpen, IsVisited, AreFirst, AreAll, IsSeen}
use Rattle.uc_table.specs.SearchWaiting.{IsWell}
use Rattle.uc_table.specs.SearchInstances.{AreForms, AreOf, AreSettled, IsRefutedBy}

-- the clauses can be evaluated on a stack of so much room
pub record IsReady (room : ℕ) (rules : Rules) : Type 0 where
  pub some : 0 < rules.size
  pub few : rules.cells ≤ MOST_CELLS
  pub forms : AreForms rules.size room rules.forms.items

-- For each number of cells up to this one all instances are settled by the entries that there were before the next cell got its
-- value.
abbrev pub AreLevels : Rules → List ℕ → List ℕ → ℕ → List Entry → Type 0
AreLevels rules prefix marks zero entries = AreSettled rules.size [] rules.forms.items entries
AreLevels rules prefix marks (suc k) entries = AreSettled rules.size (take (suc k) prefix) rules.forms.items entries × (get_or marks k 0 ≤ length entries) × AreLevels rules prefix marks k (take (get_or marks k 0) entries)

-- what holds of a state whose last cell may be refuted or not
pub record IsSound (rules : Rules) (s : State) : Type 0 where
  pub well : IsWell s.waiting
  pub of : AreOf rules.forms.items s.waiting.entries.items
  pub values : AreValues rules.size s.prefix.items
  pub as_many : length s.marks.items ≡ length s.prefix.items
  pub short : length s.prefix.items ≤ rules.cells

-- no instance is against its clause
pub record IsOpenState (rules : Rules) (s : State) : Type 0 where
  pub sound : IsSound rules s
  pub levels : AreLevels rules s.prefix.items s.marks.items (length s.prefix.items) s.waiting.entries.items

-- the last cell has a value, and none was against its clause before
pub record IsSet (rules : Rules) (s : State) : Type 0 where
  pub sound : IsSound rules s
  pub some : 0 < length s.prefix.items
  pub within : get_or s.marks.items (length s.prefix.items - 1) 0 ≤ length s.waiting.entries.items
  pub levels : AreLevels rules s.prefix.items s.marks.items (length s.prefix.items - 1) (take (get_or s.marks.items (length s.prefix.items - 1) 0) s.waiting.entries.items)

-- this prefix is refuted
abbrev pub IsRefutedIn : Rules → List ℕ → Type 0
IsRefutedIn rules prefix = IsRefutedBy rules.size prefix rules.forms.items

-- these are the visited prefixes before this value behind the prefix
abbrev pub AreSeen : Rules → List ℕ → ℕ → List (List ℕ) → Type 0
AreSeen rules = IsSeen rules.size rules.cells (IsRefutedIn rules)

-- the prefix with this value is visited: the next value is due, behind a prefix that isn't refuted and isn't whole
pub record GoesOn (rules : Rules) (old : List ℕ) (value : ℕ) (new : List ℕ) (next : ℕ) : Type 0 where
  pub seen : (ps : List (List ℕ)) → AreSeen rules old value ps → AreSeen rules new next (ps ++ (old ++ value ∷ []) ∷ [])
  pub room : length new < rules.cells
  pub short : length new ≤ length old + 1

-- the prefix with this value is visited: it is a whole table that isn't refuted
pub record IsWhole (rules : Rules) (old : List ℕ) (value : ℕ) (new : List ℕ) : Type 0 where
  pub all : (ps : List (List ℕ)) → AreSeen rules old value ps → AreAll rules.size rules.cells (IsRefutedIn rules) (ps ++ new ∷ [])
  pub open_is : IsOpen rules.size rules.cells (IsRefutedIn rules) new

-- all values of a cell are done with: the next value of the cell before it is due
pub record StepsBack (rules : Rules) (old new : List ℕ) (next : ℕ) : Type 0 where
  pub seen : (ps : List (List ℕ)) (value : ℕ) → rules.size ≤ value → AreSeen rules old value ps → AreSeen rules new next ps
  pub room : length new < rules.cells
  pub shorter : length new + 1 ≡ length old

module _ (rules : Rules) (budget : ℕ) where
  -- the last of so many visited prefixes is a whole table that isn't refuted
  pub record EndsFound (table : List ℕ) (count : ℕ) : Type 0 where
    pub ps : List (List ℕ)
    pub all : AreAll rules.size rules.cells (IsRefutedIn rules) (ps ++ table ∷ [])
    pub open_is : IsOpen rules.size rules.cells (IsRefutedIn rules) table
    pub count_is : count ≡ length (ps ++ table ∷ [])
    pub within : count ≤ budget

  -- so many prefixes are visited, and each whole table is refuted
  pub record EndsNone (count : ℕ) : Type 0 where
    pub ps : List (List ℕ)
    pub all : AreAll rules.size rules.cells (IsRefutedIn rules) ps
    pub none : (t : List ℕ) → IsOpen rules.size rules.cells (IsRefutedIn rules) t → ⊥
    pub count_is : count ≡ length ps
    pub within : count ≤ budget

  -- as many prefixes as the budget are visited, and a further one is due
  pub record EndsSpent : Type 0 where
    pub ps : List (List ℕ)
    pub first : AreFirst rules.size rules.cells (IsRefutedIn rules) ps
    pub count_is : length ps ≡ budget
    pub p : List ℕ
    pub due : IsVisited rules.size rules.cells (IsRefutedIn rules) p
    pub further : In ps p → ⊥

  abbrev pub Ends : List ℕ → End → Type 0
  Ends table (ends.Found count) = EndsFound table count
  Ends table (ends.None count) = EndsNone count
  Ends table ends.Spent = EndsSpent

-- the steps of each clause can be run, and its rows are theirs
abbrev pub AreStepsOf : Rules → Type 0
AreStepsOf rules = (k : ℕ) (f : Form) → slice_get rules.forms.items k ≡ Some f → AreSteps rules.size f.steps.items × AreReadsOf rules.size f.steps.items f.reads
