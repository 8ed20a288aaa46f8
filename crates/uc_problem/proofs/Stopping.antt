-- Why `load` answers no problem, by what its parts answer.
use Rattle.std.proofs.Common.{ℕ, ◌≡◌, List, Option, Some, None, Result, Ok, Err, IfErr, refl, sym, subst}
use Rattle.uc_term.specs.Table.{Table, IsDistinct}
use Rattle.uc_edge.specs.Files.{Files}
use Rattle.uc_clause.specs.declared.clause.Sourced.{Sourced}
use Rattle.uc_clause.specs.declared.fault.ClauseFault.TheVariants as text
use Rattle.uc_problem.specs.declared.counts.Counts.{Counts}
use Rattle.uc_problem.specs.declared.problem.Problem.{Problem}
use Rattle.uc_problem.specs.declared.fault.LoadFault.{LoadFault}
use Rattle.uc_problem.specs.declared.fault.LoadFault.TheVariants as fault
use Rattle.uc_problem.specs.Candidates.{folder_of}
use Rattle.uc_problem.specs.Fetching.{cut, IsAnswer, IsFetchFault}
use Rattle.uc_problem.specs.declared.flat.FlatClause.{FlatClause}
use Rattle.uc_problem.specs.Holds.{ReadsAs}
use Rattle.uc_problem.specs.Loading.{LoadsFile, no_fetch, no_problem, loads}
use Rattle.uc_problem.specs.Parts.{IsPart}
use Rattle.uc_problem.specs.Assembly.{IsFlat, IsUnsigned, has_none, IsUnclosed, has_second as found_second, lacks_memory}
use Rattle.uc_problem.specs.Assembly as assembly
use Rattle.uc_problem.specs.Filling.{WhereTold, FillsClosed}
use Rattle.uc_problem.specs.Refusing.{stops, has_second, has_no_signature, IsStopped, fetch_fails, is_refused, wants_memory}
use Rattle.uc_problem.proofs.Later.{Grows-refl}
use Rattle.uc_problem.proofs.Problems.{FileIs}
use Rattle.uc_problem.proofs.Shapes.{file_shapes}

module _ (root : Option (List ℕ)) (name : List ℕ) (old : Table) where
  abbrev pub StopsWhereTold : Option Files → LoadFault → Type 0
  StopsWhereTold holds why = WhereTold holds (λ files. IsStopped files root name old why)

  pub memory_stops : (holds : Option Files) → StopsWhereTold holds fault.NoMemory
  memory_stops None = tt
  memory_stops (Some files) = wants_memory

  -- the problem file isn't there
  absent_stops : (holds : Option Files) (before now : ℕ) → IsAnswer holds before now name (Ok None) → StopsWhereTold holds (fault.Absent name None)
  absent_stops None before now a = tt
  absent_stops (Some files) before now a = is_refused (stops (no_problem a))

  pub no_file_stops : (holds : Option Files) (before now : ℕ) (file : List ℕ) (answer : Option (List ℕ)) → file ≡ name → answer ≡ None → IsAnswer holds before now file (Ok answer) → StopsWhereTold holds (fault.Absent file None)
  no_file_stops holds before now file answer e q a =
      subst (λ (n : List ℕ). StopsWhereTold holds (fault.Absent n None)) (sym e)
      (absent_stops holds before now (subst (λ (r : Option (List ℕ)). IsAnswer holds before now name (Ok r)) q (subst (λ (n : List ℕ). IsAnswer holds before now n (Ok answer)) e a)))

  -- its fetch fails
  fetch_stops : (holds : Option Files) (before now : ℕ) (why : LoadFault) → IsFetchFault before now name why → StopsWhereTold holds why
  fetch_stops None before now why f = tt
  fetch_stops (Some files) before now (fault.ReadFault file) f = subst (λ (n : List ℕ). IsStopped files root name old (fault.ReadFault n)) (sym f.1) (fetch_fails (no_fetch refl))
  fetch_stops (Some files) before now fault.NoMemory f = wants_memory
  fetch_stops (Some files) before now (fault.Absent file from) f = absurd f
  fetch_stops (Some files) before now (fault.TooDeep file place) f = absurd f
  fetch_stops (Some files) before now (fault.NoSuchName file place n) f = absurd f
  fetch_stops (Some files) before now (fault.ArityClash file place n one two) f = absurd f
  fetch_stops (Some files) before now (fault.Limit file place what) f = absurd f
  fetch_stops (Some files) before now (fault.Clause file why) f = absurd f

  pub no_fetch_stops : (holds : Option Files) (before now : ℕ) (file : List ℕ) (why : LoadFault) → file ≡ name → IsFetchFault before now file why → StopsWhereTold holds why
  no_fetch_stops holds before now file why e f = fetch_stops holds before now why (subst (λ (n : List ℕ). IsFetchFault before now n why) e f)

  -- loading it stops
  module _ (t : Table) (bytes : List ℕ) (counts : Counts) (files : Files) (first before now : ℕ) (a : IsAnswer (Some files) first before name (Ok (Some bytes))) where
    part_stops : (why : LoadFault) → FileIs root name bytes files t None (Err why) → IsStopped files root name old why
    part_stops why h = is_refused (stops (loads a.1 (file_shapes t files None (folder_of name) root (h a.0 a.2))))

    file_stops : (why : LoadFault) → IsPart (Some files) before now t counts (FileIs root name bytes) (Err why) → IsStopped files root name old why
    file_stops (fault.ReadFault file) p = fetch_fails (loads a.1 (file_shapes t files (Some file) (folder_of name) root (p.1 t (Grows-refl t) a.0 a.2)))
    file_stops fault.NoMemory p = wants_memory
    file_stops (fault.Absent file from) p = part_stops (fault.Absent file from) (p t (Grows-refl t))
    file_stops (fault.TooDeep file place) p = part_stops (fault.TooDeep file place) (p t (Grows-refl t))
    file_stops (fault.NoSuchName file place n) p = part_stops (fault.NoSuchName file place n) (p t (Grows-refl t))
    file_stops (fault.ArityClash file place n one two) p = part_stops (fault.ArityClash file place n one two) (p t (Grows-refl t))
    file_stops (fault.Limit file place what) p = part_stops (fault.Limit file place what) (p t (Grows-refl t))
    file_stops (fault.Clause file (text.Syntax place)) p = part_stops (fault.Clause file (text.Syntax place)) (p t (Grows-refl t))
    file_stops (fault.Clause file (text.NotUnit place)) p = part_stops (fault.Clause file (text.NotUnit place)) (p t (Grows-refl t))
    file_stops (fault.Clause file (text.NotEquality place)) p = part_stops (fault.Clause file (text.NotEquality place)) (p t (Grows-refl t))
    file_stops (fault.Clause file (text.BadRole place w)) p = part_stops (fault.Clause file (text.BadRole place w)) (p t (Grows-refl t))
    file_stops (fault.Clause file (text.Unsupported place w)) p = part_stops (fault.Clause file (text.Unsupported place w)) (p t (Grows-refl t))
    file_stops (fault.Clause file (text.Limit place w)) p = part_stops (fault.Clause file (text.Limit place w)) (p t (Grows-refl t))
    file_stops (fault.Clause file text.NoMemory) p = absurd p

  pub loading_stops : (holds : Option Files) (first before now : ℕ) (t : Table) (bytes : List ℕ) (counts : Counts) (r : Result (List FlatClause) LoadFault) → IsAnswer holds first before name (Ok (Some bytes)) → IsPart holds before now t counts (FileIs root name bytes) r → IfErr r (StopsWhereTold holds)
  loading_stops holds first before now t bytes counts (Ok clauses) a p = tt
  loading_stops None first before now t bytes counts (Err why) a p = tt
  loading_stops (Some files) first before now t bytes counts (Err why) a p = file_stops t bytes counts files first before now a why p

  pub fetched_stops : (holds : Option Files) (first before now : ℕ) (t : Table) (file folder bytes shown : List ℕ) (answer : Option (List ℕ)) (counts : Counts) (r : Result (List FlatClause) LoadFault) → file ≡ name → folder ≡ folder_of name → shown ≡ bytes → answer ≡ Some bytes → IsAnswer holds first before file (Ok answer) → IsPart holds before now t counts (λ files T failing loaded. (whole : List ℕ) → shown ≡ cut whole → LoadsFile (ReadsAs T) files failing folder root 0 file whole (record { clauses = 0; files = 0 }) loaded) r → IfErr r (StopsWhereTold holds)
  fetched_stops holds first before now t file folder bytes shown answer counts r e f s q a p =
      loading_stops holds first before now t bytes counts r
      (subst (λ (x : Option (List ℕ)). IsAnswer holds first before name (Ok x)) q (subst (λ (n : List ℕ). IsAnswer holds first before n (Ok answer)) e a))
      (rw (e, f, s) at p)

  -- there is a second conjecture
  module _ (t : Table) (flats : List FlatClause) where
    two : (files : Files) (before now : ℕ) (why : LoadFault) → IsFlat t (Some files) before now root name (Ok flats) → IsUnclosed flats why → IsStopped files root name old why
    two files before now _ f (found_second e) = is_refused (has_second (f t (Grows-refl t)).1 e)
    two files before now _ f lacks_memory = wants_memory

    pub unclosed_stops : (holds : Option Files) (before now : ℕ) (why : LoadFault) → IsFlat t holds before now root name (Ok flats) → IsUnclosed flats why → StopsWhereTold holds why
    unclosed_stops None before now why f u = tt
    unclosed_stops (Some files) before now why f u = two files before now why f u

  -- the clauses that are loaded have no signature
  module _ (t : Table) (distinct : IsDistinct t) (clauses : List Sourced) (conjecture : Option ℕ) where
    unsigned : (files : Files) (why : LoadFault) → FillsClosed files root name old t clauses conjecture → IsUnsigned t clauses why → IsStopped files root name old why
    unsigned files _ fills (has_none h) = is_refused (has_no_signature fills distinct h)
    unsigned files _ fills assembly.wants_memory = wants_memory

    pub unsigned_by : (holds : Option Files) (r : Result Problem LoadFault) → WhereTold holds (λ files. FillsClosed files root name old t clauses conjecture) → IfErr r (IsUnsigned t clauses) → IfErr r (StopsWhereTold holds)
    unsigned_by holds (Ok problem) fills h = tt
    unsigned_by None (Err why) fills h = tt
    unsigned_by (Some files) (Err why) fills h = unsigned files why fills h
