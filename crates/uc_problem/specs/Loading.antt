-- What loading a problem comes to, file by file and item by item, by the files that the library holds.
use Rattle.std.specs.Prelude.{ℕ, ◌≡◌, ◌<◌, ◌≤◌, ◌+◌, ◌&&◌, Bool, true, false, List, [], ◌∷◌, ◌++◌, filter, Option, Some, None, Result, Ok, Err, if◌then◌else◌}
use Rattle.std.specs.List.{list_any}
use Rattle.std.specs.Str.{bytes_eq, is_utf8}
use Rattle.uc_edge.specs.Files.{Files, content}
use Rattle.uc_clause.specs.declared.token.Place.{Place}
use Rattle.uc_clause.specs.declared.clause.Name.{Name}
use Rattle.uc_clause.specs.declared.clause.Clause.{Clause}
use Rattle.uc_clause.specs.declared.clause.Include.{Include}
use Rattle.uc_clause.specs.declared.clause.Item.TheVariants as item
use Rattle.uc_fof.specs.declared.item.FofItem.{FofItem}
use Rattle.uc_fof.specs.declared.item.FofItem.TheVariants.{Item, Formula}
use Rattle.uc_clause.specs.declared.fault.ClauseFault.{ClauseFault}
use Rattle.uc_clause.specs.declared.fault.What.TheVariants.{Clauses, Files as FileCount}
use Rattle.uc_problem.specs.declared.fault.LoadFault.{LoadFault}
use Rattle.uc_problem.specs.declared.fault.LoadFault.TheVariants as fault
use Rattle.uc_problem.specs.declared.counts.Counts.{Counts}
use Rattle.uc_problem.specs.declared.flat.FlatClause.{FlatClause}
use Rattle.uc_problem.specs.Candidates.{candidates}

-- The content of a name, where the library holds it. A library is asked by texts, so a name that isn't UTF-8 names nothing.
abbrev pub held : Files → List ℕ → Option (List ℕ)
held files name = if is_utf8 name then content files name else None

-- the first of these names that the library holds, with its content
abbrev pub held_or : List ℕ → Option (List ℕ) → Option (List ℕ × List ℕ) → Option (List ℕ × List ℕ)
held_or name (Some bytes) later = Some (name, bytes)
held_or name None later = later

abbrev pub first_held : Files → List (List ℕ) → Option (List ℕ × List ℕ)
first_held files [] = None
first_held files (name ∷ names) = held_or name (held files name) (first_held files names)

-- this name is tried among these: it is one of them, and the library holds none of those before it
pub data IsTried (files : Files) (name : List ℕ) : List (List ℕ) → Type 0 where
  is_next : {names : List (List ℕ)} → IsTried files name (name ∷ names)
  comes_later : {other : List ℕ} {names : List (List ℕ)} → held files other ≡ None → IsTried files name names → IsTried files name (other ∷ names)

abbrev pub same_bool : Bool → Bool → Bool
same_bool true b = b
same_bool false true = false
same_bool false false = true

abbrev pub same_name : Name → Name → Bool
same_name a b = bytes_eq a.text b.text && same_bool a.integer b.integer

-- whether a clause of this name is among them
abbrev pub gives_name : List FlatClause → Name → Bool
gives_name clauses name = list_any (λ s. same_name s.clause.name name) clauses

-- whether this name is listed
abbrev pub lists_name : List (Name × Place) → Name → Bool
lists_name names name = list_any (λ listed. same_name listed.0 name) names

-- the first listed name that no clause has
abbrev pub first_missing : List FlatClause → List (Name × Place) → Option (Name × Place)
first_missing clauses [] = None
first_missing clauses (n ∷ ns) = if gives_name clauses n.0 then first_missing clauses ns else Some n

-- The clauses of an included file that are kept: all, or those of the listed names, in the file's order; or the refusal of the
-- first listed name that the file doesn't give.
abbrev pub listed_or : List ℕ → List (Name × Place) → List FlatClause → Option (Name × Place) → Result (List FlatClause) LoadFault
listed_or file names clauses None = Ok (filter (λ s. lists_name names s.clause.name) clauses)
listed_or file names clauses (Some missing) = Err (fault.NoSuchName file missing.1 missing.0)

abbrev pub selected : List ℕ → Option (List (Name × Place)) → List FlatClause → Result (List FlatClause) LoadFault
selected file None clauses = Ok clauses
selected file (Some names) clauses = listed_or file names clauses (first_missing clauses names)

-- where a conjecture says so
abbrev pub place_if : Bool → Place → Option Place
place_if true place = Some place
place_if false place = None

-- what a part of a problem comes to: its clauses and the counts behind it, or a refusal
abbrev pub Loaded : Type 0
Loaded = Result (List FlatClause × Counts) LoadFault

-- a clause before the others
abbrev pub before : FlatClause → Loaded → Loaded
before s (Ok r) = Ok (s ∷ r.0, r.1)
before s (Err e) = Err e

-- clauses before the others
abbrev pub all_before : List FlatClause → Loaded → Loaded
all_before clauses (Ok r) = Ok (clauses ++ r.0, r.1)
all_before clauses (Err e) = Err e

-- `Reads` is what the text of a file comes to: its items, or why it isn't read. `failing` is the file whose fetch fails, where one
-- does.
module _ (Reads : List ℕ → Result (List FofItem) ClauseFault → Type 0) (files : Files) (failing : Option (List ℕ)) (folder : List ℕ) (root : Option (List ℕ)) where
  mutual
    -- the file of this name with this content, nested so deep, behind so many clauses and files
    pub data LoadsFile : ℕ → List ℕ → List ℕ → Counts → Loaded → Type 0 where
      reads : {depth : ℕ} {name bytes : List ℕ} {counts : Counts} {items : List FofItem} {loaded : Loaded} → Reads bytes (Ok items) → LoadsItems depth name counts items loaded → LoadsFile depth name bytes counts loaded
      refused : {depth : ℕ} {name bytes : List ℕ} {counts : Counts} {why : ClauseFault} → Reads bytes (Err why) → LoadsFile depth name bytes counts (Err (fault.Clause name why))

    -- these items of the file of this name, nested so deep, behind so many clauses and files
    pub data LoadsItems : ℕ → List ℕ → Counts → List FofItem → Loaded → Type 0 where
      no_item : {depth : ℕ} {name : List ℕ} {counts : Counts} → LoadsItems depth name counts [] (Ok ([], counts))
      clause : {depth : ℕ} {name : List ℕ} {counts : Counts} {c : Clause} {items : List FofItem} {loaded : Loaded} → counts.clauses < 10000 → LoadsItems depth name (record { clauses = counts.clauses + 1; files = counts.files }) items loaded → LoadsItems depth name counts (Item (item.Clause c) ∷ items) (before (record { file = name; clause = c; conjecture = None }) loaded)
      formula : {depth : ℕ} {name : List ℕ} {counts : Counts} {c : Clause} {conjecture : Bool} {place : Place} {items : List FofItem} {loaded : Loaded} → counts.clauses < 10000 → LoadsItems depth name (record { clauses = counts.clauses + 1; files = counts.files }) items loaded → LoadsItems depth name counts (Formula c conjecture place ∷ items) (before (record { file = name; clause = c; conjecture = place_if conjecture place }) loaded)
      too_many_clauses : {depth : ℕ} {name : List ℕ} {counts : Counts} {c : Clause} {items : List FofItem} → 10000 ≤ counts.clauses → LoadsItems depth name counts (Item (item.Clause c) ∷ items) (Err (fault.Limit name c.place Clauses))
      too_many_formulas : {depth : ℕ} {name : List ℕ} {counts : Counts} {c : Clause} {conjecture : Bool} {place : Place} {items : List FofItem} → 10000 ≤ counts.clauses → LoadsItems depth name counts (Formula c conjecture place ∷ items) (Err (fault.Limit name c.place Clauses))
      too_deep : {depth : ℕ} {name : List ℕ} {counts : Counts} {i : Include} {items : List FofItem} → 16 ≤ depth → LoadsItems depth name counts (Item (item.Include i) ∷ items) (Err (fault.TooDeep name i.place))
      too_many_files : {depth : ℕ} {name : List ℕ} {counts : Counts} {i : Include} {items : List FofItem} → depth < 16 → 256 ≤ counts.files → LoadsItems depth name counts (Item (item.Include i) ∷ items) (Err (fault.Limit name i.place FileCount))
      fetch_fails : {depth : ℕ} {name candidate : List ℕ} {counts : Counts} {i : Include} {items : List FofItem} → depth < 16 → counts.files < 256 → IsTried files candidate (candidates folder root i.file) → failing ≡ Some candidate → LoadsItems depth name counts (Item (item.Include i) ∷ items) (Err (fault.ReadFault candidate))
      absent : {depth : ℕ} {name : List ℕ} {counts : Counts} {i : Include} {items : List FofItem} → depth < 16 → counts.files < 256 → first_held files (candidates folder root i.file) ≡ None → LoadsItems depth name counts (Item (item.Include i) ∷ items) (Err (fault.Absent i.file (Some (name, i.place))))
      stops_inside : {depth : ℕ} {name : List ℕ} {counts : Counts} {i : Include} {items : List FofItem} {found bytes : List ℕ} {why : LoadFault} → depth < 16 → counts.files < 256 → first_held files (candidates folder root i.file) ≡ Some (found, bytes) → LoadsFile (depth + 1) found bytes (record { clauses = counts.clauses; files = counts.files + 1 }) (Err why) → LoadsItems depth name counts (Item (item.Include i) ∷ items) (Err why)
      misses_name : {depth : ℕ} {name : List ℕ} {counts later : Counts} {i : Include} {items : List FofItem} {found bytes : List ℕ} {given : List FlatClause} {why : LoadFault} → depth < 16 → counts.files < 256 → first_held files (candidates folder root i.file) ≡ Some (found, bytes) → LoadsFile (depth + 1) found bytes (record { clauses = counts.clauses; files = counts.files + 1 }) (Ok (given, later)) → selected name i.names given ≡ Err why → LoadsItems depth name counts (Item (item.Include i) ∷ items) (Err why)
      includes : {depth : ℕ} {name : List ℕ} {counts later : Counts} {i : Include} {items : List FofItem} {found bytes : List ℕ} {given kept : List FlatClause} {loaded : Loaded} → depth < 16 → counts.files < 256 → first_held files (candidates folder root i.file) ≡ Some (found, bytes) → LoadsFile (depth + 1) found bytes (record { clauses = counts.clauses; files = counts.files + 1 }) (Ok (given, later)) → selected name i.names given ≡ Ok kept → LoadsItems depth name later items loaded → LoadsItems depth name counts (Item (item.Include i) ∷ items) (all_before kept loaded)

  -- the problem file of this name: its flat list of clauses, or the refusal
  pub data LoadsProblem (name : List ℕ) : Loaded → Type 0 where
    no_fetch : failing ≡ Some name → LoadsProblem name (Err (fault.ReadFault name))
    no_problem : held files name ≡ None → LoadsProblem name (Err (fault.Absent name None))
    loads : {bytes : List ℕ} {loaded : Loaded} → held files name ≡ Some bytes → LoadsFile 0 name bytes (record { clauses = 0; files = 0 }) loaded → LoadsProblem name loaded
