-- Why a library holds no problem. Files are fetched, read, counted and selected from, and the terms of their clauses have no part
-- in where that stops. Where it doesn't stop, there is a second conjecture, or the files make one table of symbols, in which their
-- clauses have no signature. So the refusal is one function of the files and of the table before.
use Rattle.std.specs.Prelude.{ℕ, ◌≡◌, List, ◌∷◌, map, Option, Some, None, Result, Ok, Err}
use Rattle.uc_term.specs.Tree.{var}
use Rattle.uc_term.specs.Table.{Table, IsDistinct}
use Rattle.uc_edge.specs.Files.{Files}
use Rattle.uc_clause.specs.declared.token.Place.{Place}
use Rattle.uc_clause.specs.declared.clause.Clause.{Clause}
use Rattle.uc_clause.specs.declared.clause.Sourced.{Sourced}
use Rattle.uc_clause.specs.declared.clause.Item.TheVariants as item
use Rattle.uc_clause.specs.declared.fault.ClauseFault.{ClauseFault}
use Rattle.uc_fof.specs.declared.item.FofItem.{FofItem}
use Rattle.uc_fof.specs.declared.item.FofItem.TheVariants.{Item, Formula}
use Rattle.uc_fof.specs.Reading.{ReadsFile, RefusesFile}
use Rattle.uc_problem.specs.declared.counts.Counts.{Counts}
use Rattle.uc_problem.specs.declared.flat.FlatClause.{FlatClause}
use Rattle.uc_problem.specs.declared.fault.LoadFault.{LoadFault}
use Rattle.uc_problem.specs.declared.fault.LoadFault.TheVariants as fault
use Rattle.uc_problem.specs.Candidates.{folder_of}
use Rattle.uc_problem.specs.Loading.{LoadsProblem}
use Rattle.uc_problem.specs.Holds.{Flattens, HasNoSignature}
use Rattle.uc_problem.specs.Conjecture.{conjectures, second_conjecture}
use Rattle.uc_problem.specs.Filling.{FillsClosed}

-- the clause, with a variable in place of each side
abbrev pub shape_of : Clause → Clause
shape_of c = record { name = c.name; role = c.role; positive = c.positive; left = var 0; right = var 0; places = c.places; place = c.place }

abbrev pub shape : FofItem → FofItem
shape (Item (item.Clause c)) = Item (item.Clause (shape_of c))
shape (Item (item.Include i)) = Item (item.Include i)
shape (Formula c conjecture place) = Formula (shape_of c) conjecture place

-- what a file's text comes to, but for the terms of its clauses
abbrev pub ReadsShapes : List ℕ → Result (List FofItem) ClauseFault → Type 0
ReadsShapes bytes (Ok shapes) = (table : Table) × (items : List FofItem) × ReadsFile bytes table items × (shapes ≡ map shape items)
ReadsShapes bytes (Err why) = RefusesFile bytes why

-- loading stops for this reason; the fetch of this file fails, where one does
abbrev pub Stops : Files → Option (List ℕ) → Option (List ℕ) → List ℕ → LoadFault → Type 0
Stops files failing root name why = LoadsProblem ReadsShapes files failing (folder_of name) root name (Err why)

-- The problem of this name is refused: loading stops; or the files are loaded whole, and give a second conjecture; or they and the
-- constants of a conjecture make a table of the old one, in which the clauses have no signature.
pub data IsRefused (files : Files) (root : Option (List ℕ)) (name : List ℕ) (old : Table) : LoadFault → Type 0 where
  stops : {why : LoadFault} → Stops files None root name why → IsRefused files root name old why
  has_second : {flat : Table} {flats : List FlatClause} {counts : Counts} {first second : List ℕ × Place} {rest : List (List ℕ × Place)} → Flattens flat files root name (Ok (flats, counts)) → conjectures flats ≡ first ∷ second ∷ rest → IsRefused files root name old (second_conjecture second)
  has_no_signature : {new : Table} {clauses : List Sourced} {conjecture : Option ℕ} {why : LoadFault} → FillsClosed files root name old new clauses conjecture → IsDistinct new → HasNoSignature new clauses why → IsRefused files root name old why

-- Why `load` answers no problem: the fetch fails of the file to which loading comes, or the problem is refused, or memory is wanted.
pub data IsStopped (files : Files) (root : Option (List ℕ)) (name : List ℕ) (old : Table) : LoadFault → Type 0 where
  fetch_fails : {file : List ℕ} → Stops files (Some file) root name (fault.ReadFault file) → IsStopped files root name old (fault.ReadFault file)
  is_refused : {why : LoadFault} → IsRefused files root name old why → IsStopped files root name old why
  wants_memory : IsStopped files root name old fault.NoMemory
