-- What loading a part of a problem answers: in every table that the table of symbols grows into.
use Rattle.std.specs.Prelude.{ℕ, ◌≡◌, ◌<◌, ◌≤◌, ◌+◌, List, [], ◌∷◌, Option, Some, None, Result, Ok, Err}
use Rattle.uc_term.specs.Table.{Table}
use Rattle.uc_edge.specs.Files.{Files}
use Rattle.uc_edge.specs.Faults.{Rose}
use Rattle.uc_clause.specs.declared.clause.Clause as read
use Rattle.uc_clause.specs.declared.clause.Include.{Include}
use Rattle.uc_clause.specs.declared.fault.ClauseFault.{ClauseFault}
use Rattle.uc_clause.specs.declared.fault.ClauseFault.TheVariants as unread
use Rattle.uc_clause.specs.declared.fault.What.TheVariants.{Clauses}
use Rattle.uc_clause.specs.declared.token.Place.{Place}
use Rattle.uc_fof.specs.declared.item.FofItem.{FofItem}
use Rattle.uc_problem.specs.declared.counts.Counts.{Counts}
use Rattle.uc_problem.specs.declared.flat.FlatClause.{FlatClause}
use Rattle.uc_problem.specs.declared.fault.LoadFault.{LoadFault}
use Rattle.uc_problem.specs.declared.fault.LoadFault.TheVariants.{ReadFault, NoMemory, Clause, Limit}
use Rattle.uc_problem.specs.Loading.{Loaded, LoadsItems, all_before, selected}
use Rattle.uc_problem.specs.Holds.{ReadsAs, ForFiles}

-- The part comes to these clauses with these counts, or to this refusal. A fault of the library comes only where its count
-- rose, at the file whose fetch failed, and want of memory is free, and has one name.
abbrev pub IsPart : Option Files → ℕ → ℕ → Table → Counts → (Files → Table → Option (List ℕ) → Loaded → Type 0) → Result (List FlatClause) LoadFault → Type 0
IsPart holds before now table counts comes_to (Ok clauses) = ForFiles holds table (λ files T. (failing : Option (List ℕ)) → comes_to files T failing (Ok (clauses, counts)))
IsPart holds before now table counts comes_to (Err (ReadFault file)) = Rose before now × ForFiles holds table (λ files T. comes_to files T (Some file) (Err (ReadFault file)))
IsPart holds before now table counts comes_to (Err NoMemory) = Unit {0}
IsPart holds before now table counts comes_to (Err (Clause file unread.NoMemory)) = ⊥
IsPart holds before now table counts comes_to (Err why) = ForFiles holds table (λ files T. comes_to files T None (Err why))

-- An item comes to these clauses: whatever the items behind it come to, all of them come to that with these before it. Or it
-- comes to this refusal, whatever items stand behind it.
abbrev pub ItemComesTo : List ℕ → Option (List ℕ) → ℕ → List ℕ → Counts → FofItem → Files → Table → Option (List ℕ) → Loaded → Type 0
ItemComesTo folder root depth name old item files T failing (Ok r) = (rest : List FofItem) (loaded : Loaded) → LoadsItems (ReadsAs T) files failing folder root depth name r.1 rest loaded → LoadsItems (ReadsAs T) files failing folder root depth name old (item ∷ rest) (all_before r.0 loaded)
ItemComesTo folder root depth name old item files T failing (Err why) = (rest : List FofItem) → LoadsItems (ReadsAs T) files failing folder root depth name old (item ∷ rest) (Err why)

-- the refusal of a file that isn't read
abbrev pub IsNotRead : List ℕ → ClauseFault → LoadFault → Type 0
IsNotRead name why (Clause file fault) = (file ≡ name) × (fault ≡ why) × (why ≡ unread.NoMemory → ⊥)
IsNotRead name why NoMemory = Unit {0}
IsNotRead name why _ = ⊥

-- one clause more, or too many
abbrev pub IsTaken : List ℕ → read.Clause → Option Place → Counts → Counts → Result (List FlatClause) LoadFault → Type 0
IsTaken name c conjecture old new (Ok clauses) = (old.clauses < 10000) × (clauses ≡ record { file = name; clause = c; conjecture = conjecture } ∷ []) × (new ≡ record { clauses = old.clauses + 1; files = old.files })
IsTaken name c conjecture old new (Err NoMemory) = Unit {0}
IsTaken name c conjecture old new (Err why) = (10000 ≤ old.clauses) × (why ≡ Limit name c.place Clauses)

-- the clauses that an include selects
abbrev pub IsSelection : List ℕ → Include → List FlatClause → Result (List FlatClause) LoadFault → Type 0
IsSelection name i given (Err NoMemory) = Unit {0}
IsSelection name i given answer = answer ≡ selected name i.names given
