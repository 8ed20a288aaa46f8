-- Loading an include.
use Rattle.std.proofs.Common.{◌≡◌, ℕ, ◌+◌, ◌<◌, ◌≤◌, Bool, List, [], ◌∷◌, Option, Some, None, Result, Ok, Err, refl, sym, subst}
use Rattle.uc_term.specs.Table.{Table, Grows}
use Rattle.uc_edge.specs.Files.{Files}
use Rattle.uc_clause.specs.declared.token.Place.{Place}
use Rattle.uc_clause.specs.declared.clause.Name.{Name}
use Rattle.uc_clause.specs.declared.clause.Clause as read
use Rattle.uc_clause.specs.declared.clause.Include.{Include}
use Rattle.uc_clause.specs.declared.clause.Item.TheVariants as item
use Rattle.uc_fof.specs.declared.item.FofItem.{FofItem}
use Rattle.uc_fof.specs.declared.item.FofItem.TheVariants.{Item, Formula}
use Rattle.uc_clause.specs.declared.fault.What.TheVariants.{Clauses, Files as FileCount}
use Rattle.uc_problem.specs.declared.counts.Counts.{Counts}
use Rattle.uc_problem.specs.declared.flat.FlatClause.{FlatClause}
use Rattle.uc_problem.specs.declared.fetch.Found.{Found}
use Rattle.uc_problem.specs.declared.fault.LoadFault.{LoadFault}
use Rattle.uc_problem.specs.declared.fault.LoadFault.TheVariants.{Absent, ReadFault, TooDeep, NoSuchName, ArityClash, Limit, Clause, NoMemory}
use Rattle.uc_problem.specs.Candidates.{candidates}
use Rattle.uc_problem.specs.Fetching.{cut, IsFirst, IsTriedFault}
use Rattle.uc_problem.specs.Loading.{Loaded, LoadsFile, LoadsItems, clause, formula, too_many_clauses, too_many_formulas, place_if, too_deep, too_many_files, fetch_fails, absent, stops_inside, misses_name, includes, all_before, before, first_held, selected, listed_or, first_missing}
use Rattle.uc_problem.specs.Holds.{ReadsAs, ForFiles}
use Rattle.uc_problem.specs.Parts.{IsPart, ItemComesTo, IsTaken, IsSelection}
use Rattle.uc_problem.proofs.Items.{all_files, later_rise, for_both, refused_part}

module _ (holds : Option Files) (folder : List ℕ) (root : Option (List ℕ)) (depth : ℕ) (name : List ℕ) (old : Counts) where
  -- an item gives a clause, or there are too many of them
  abbrev pub GivesClause : FofItem → read.Clause → Option Place → Type 0
  GivesClause i c conjecture = ((files : Files) (failing : Option (List ℕ)) (T : Table) (rest : List FofItem) (loaded : Loaded) → old.clauses < 10000 → LoadsItems (ReadsAs T) files failing folder root depth name (record { clauses = old.clauses + 1; files = old.files }) rest loaded → LoadsItems (ReadsAs T) files failing folder root depth name old (i ∷ rest) (before (record { file = name; clause = c; conjecture = conjecture }) loaded)) × ((files : Files) (T : Table) (rest : List FofItem) → 10000 ≤ old.clauses → LoadsItems (ReadsAs T) files None folder root depth name old (i ∷ rest) (Err (Limit name c.place Clauses)))

  taken_before : (s : FlatClause) (loaded : Loaded) → before s loaded ≡ all_before (s ∷ []) loaded
  taken_before s (Ok r) = refl
  taken_before s (Err e) = refl

  -- an item that is a clause, and says there that it is a conjecture's denial
  pub taken : (i : FofItem) (c : read.Clause) (conjecture : Option Place) (t : Table) (first now : ℕ) (new : Counts) (r : Result (List FlatClause) LoadFault) → GivesClause i c conjecture → IsTaken name c conjecture old new r → IsPart holds first now t new (ItemComesTo folder root depth name old i) r
  taken i c conjecture t first now new (Ok clauses) gives h =
      all_files holds t (λ files T. (failing : Option (List ℕ)) → ItemComesTo folder root depth name old i files T failing (Ok (clauses, new)))
      (λ files T failing rest loaded l. subst (λ (cs : List FlatClause). LoadsItems (ReadsAs T) files failing folder root depth name old (i ∷ rest) (all_before cs loaded)) (sym h.1)
      (subst (λ (x : Loaded). LoadsItems (ReadsAs T) files failing folder root depth name old (i ∷ rest) x) (taken_before (record { file = name; clause = c; conjecture = conjecture }) loaded)
      (gives.0 files failing T rest loaded h.0 (subst (λ (n : Counts). LoadsItems (ReadsAs T) files failing folder root depth name n rest loaded) h.2 l))))
  taken i c conjecture t first now new (Err NoMemory) gives h = tt
  taken i c conjecture t first now new (Err (Limit file place what)) gives h =
      all_files holds t (λ files T. ItemComesTo folder root depth name old i files T None (Err (Limit file place what)))
      (λ files T rest. subst (λ (e : LoadFault). LoadsItems (ReadsAs T) files None folder root depth name old (i ∷ rest) (Err e)) (sym h.1) (gives.1 files T rest h.0))
  taken i c conjecture t first now new v gives h = absurd cc

  pub clause_gives : (c : read.Clause) → GivesClause (Item (item.Clause c)) c None
  clause_gives c = (λ files failing T rest loaded h l. clause h l, λ files T rest h. too_many_clauses h)

  pub formula_gives : (c : read.Clause) (conjecture : Bool) (place : Place) → GivesClause (Formula c conjecture place) c (place_if conjecture place)
  formula_gives c conjecture place = (λ files failing T rest loaded h l. formula h l, λ files T rest h. too_many_formulas h)

  module _ (i : Include) where
    abbrev pub Comes : Files → Table → Option (List ℕ) → Loaded → Type 0
    Comes = ItemComesTo folder root depth name old (Item (item.Include i))

    pub deep : (t : Table) (first now : ℕ) (new : Counts) → 16 ≤ depth → IsPart holds first now t new Comes (Err (TooDeep name i.place))
    deep t first now new h = all_files holds t (λ files T. Comes files T None (Err (TooDeep name i.place))) (λ files T rest. too_deep h)

    pub many : (t : Table) (first now : ℕ) (new : Counts) → depth < 16 → 256 ≤ old.files → IsPart holds first now t new Comes (Err (Limit name i.place FileCount))
    many t first now new h k = all_files holds t (λ files T. Comes files T None (Err (Limit name i.place FileCount))) (λ files T rest. too_many_files h k)

    abbrev names : List (List ℕ)
    names = candidates folder root i.file

    none_held : (holds : Option Files) (t : Table) (first now : ℕ) → depth < 16 → old.files < 256 → IsFirst holds first now names (Ok None) → ForFiles holds t (λ files T. Comes files T None (Err (Absent i.file (Some (name, i.place)))))
    none_held None t first now h k f = tt
    none_held (Some files) t first now h k f = λ T g rest. absent h k f

    pub missing : (t : Table) (first before now : ℕ) (new : Counts) → depth < 16 → old.files < 256 → IsFirst holds before now names (Ok None) → IsPart holds first now t new Comes (Err (Absent i.file (Some (name, i.place))))
    missing t first before now new h k f = none_held holds t before now h k f

    -- the library failed at a name that was tried
    fails_here : (holds : Option Files) (t : Table) (first before now : ℕ) (new : Counts) (file : List ℕ) → depth < 16 → old.files < 256 → first ≤ before → IsTriedFault holds before now names (ReadFault file) → IsPart holds first now t new Comes (Err (ReadFault file))
    fails_here None t first before now new file h k le f = (later_rise first before now le f.0, tt)
    fails_here (Some files) t first before now new file h k le f = (later_rise first before now le f.0, λ T g rest. fetch_fails h k f.1 refl)

    tried_fault : (t : Table) (first before now : ℕ) (new : Counts) (e : LoadFault) → depth < 16 → old.files < 256 → first ≤ before → IsTriedFault holds before now names e → IsPart holds first now t new Comes (Err e)
    tried_fault t first before now new (ReadFault file) h k le f = fails_here holds t first before now new file h k le f
    tried_fault t first before now new NoMemory h k le f = tt
    tried_fault t first before now new (Absent file from) h k le f = absurd f
    tried_fault t first before now new (TooDeep file place) h k le f = absurd f
    tried_fault t first before now new (NoSuchName file place n) h k le f = absurd f
    tried_fault t first before now new (ArityClash file place n a b) h k le f = absurd f
    tried_fault t first before now new (Limit file place what) h k le f = absurd f
    tried_fault t first before now new (Clause file fault) h k le f = absurd f

    pub failed : (t : Table) (first before now : ℕ) (new : Counts) (ns : List (List ℕ)) (e : LoadFault) → ns ≡ names → depth < 16 → old.files < 256 → first ≤ before → IsTriedFault holds before now ns e → IsPart holds first now t new Comes (Err e)
    failed t first before now new ns e q h k le f = tried_fault t first before now new e h k le (subst (λ (l : List (List ℕ)). IsTriedFault holds before now l e) q f)

    -- the file that was found
    pub record Held (found : Found) (files : Files) : Type 0 where
      pub whole : List ℕ
      pub held : first_held files names ≡ Some (found.name, whole)
      pub bytes : found.bytes ≡ cut whole

    pub held_of : (holds : Option Files) (t : Table) (before now : ℕ) (found : Found) → IsFirst holds before now names (Ok (Some found)) → ForFiles holds t (λ files T. Held found files)
    held_of None t before now found f = tt
    held_of (Some files) t before now found f = λ T g. record { whole = f.0; held = f.1; bytes = f.2 }

    abbrev one_more : Counts
    one_more = record { clauses = old.clauses; files = old.files + 1 }

    -- what the found file comes to
    abbrev pub Inside : Found → Files → Table → Option (List ℕ) → Loaded → Type 0
    Inside found files T failing loaded = (whole : List ℕ) → found.bytes ≡ cut whole → LoadsFile (ReadsAs T) files failing folder root (depth + 1) found.name whole one_more loaded

    pub inside_stops : (t u : Table) (first before now : ℕ) (new : Counts) (found : Found) (e : LoadFault) → depth < 16 → old.files < 256 → first ≤ before → Grows t u → ForFiles holds t (λ files T. Held found files) → IsPart holds before now u new (Inside found) (Err e) → IsPart holds first now u new Comes (Err e)
    inside_stops t u first before now new found e h k le g f p =
        refused_part holds first before now t u new (λ files T. Held found files) (Inside found) Comes e le g f
        (λ files T m held failing inside rest. stops_inside h k held.held (inside held.whole held.bytes)) p

    pub kept : (t u : Table) (first before now : ℕ) (new : Counts) (found : Found) (given chosen : List FlatClause) → depth < 16 → old.files < 256 → Grows t u → ForFiles holds t (λ files T. Held found files) → IsPart holds before now u new (Inside found) (Ok given) → Ok chosen ≡ selected name i.names given → IsPart holds first now u new Comes (Ok chosen)
    kept t u first before now new found given chosen h k g f p e =
        for_both holds t u (λ files T. Held found files) (λ files T. (failing : Option (List ℕ)) → Inside found files T failing (Ok (given, new))) (λ files T. (failing : Option (List ℕ)) → Comes files T failing (Ok (chosen, new))) g
        (λ files T m held inside failing rest loaded l. includes h k held.held (inside failing held.whole held.bytes) (sym e) l) f p

    misses : (t u : Table) (new : Counts) (found : Found) (given : List FlatClause) (why : LoadFault) → depth < 16 → old.files < 256 → Grows t u → ForFiles holds t (λ files T. Held found files) → ForFiles holds u (λ files T. (failing : Option (List ℕ)) → Inside found files T failing (Ok (given, new))) → Err why ≡ selected name i.names given → ForFiles holds u (λ files T. Comes files T None (Err why))
    misses t u new found given why h k g f p e =
        for_both holds t u (λ files T. Held found files) (λ files T. (failing : Option (List ℕ)) → Inside found files T failing (Ok (given, new))) (λ files T. Comes files T None (Err why)) g
        (λ files T m held inside rest. misses_name h k held.held (inside None held.whole held.bytes) (sym e)) f p

    -- the one refusal of a selection
    abbrev IsName : LoadFault → Type 0
    IsName (NoSuchName file place n) = Unit {0}
    IsName _ = ⊥

    listed_name : (names : List (Name × Place)) (given : List FlatClause) (m : Option (Name × Place)) (e : LoadFault) → Err e ≡ listed_or name names given m → IsName e
    listed_name names given None e q = absurd cc
    listed_name names given (Some m) e q = let s : e ≡ NoSuchName name m.1 m.0 = cc in subst IsName (sym s) tt

    only_name : (names : Option (List (Name × Place))) (given : List FlatClause) (e : LoadFault) → Err e ≡ selected name names given → IsName e
    only_name None given e q = absurd cc
    only_name (Some names) given e q = listed_name names given (first_missing given names) e q

    pub chosen : (t u : Table) (first before now : ℕ) (new : Counts) (found : Found) (given : List FlatClause) (r : Result (List FlatClause) LoadFault) → depth < 16 → old.files < 256 → Grows t u → ForFiles holds t (λ files T. Held found files) → IsPart holds before now u new (Inside found) (Ok given) → IsSelection name i given r → IsPart holds first now u new Comes r
    chosen t u first before now new found given (Ok cs) h k g f p s = kept t u first before now new found given cs h k g f p s
    chosen t u first before now new found given (Err NoMemory) h k g f p s = tt
    chosen t u first before now new found given (Err (NoSuchName file place n)) h k g f p s = misses t u new found given (NoSuchName file place n) h k g f p s
    chosen t u first before now new found given (Err (Absent file from)) h k g f p s = absurd (only_name i.names given (Absent file from) s)
    chosen t u first before now new found given (Err (ReadFault file)) h k g f p s = absurd (only_name i.names given (ReadFault file) s)
    chosen t u first before now new found given (Err (TooDeep file place)) h k g f p s = absurd (only_name i.names given (TooDeep file place) s)
    chosen t u first before now new found given (Err (ArityClash file place n a b)) h k g f p s = absurd (only_name i.names given (ArityClash file place n a b) s)
    chosen t u first before now new found given (Err (Limit file place what)) h k g f p s = absurd (only_name i.names given (Limit file place what) s)
    chosen t u first before now new found given (Err (Clause file fault)) h k g f p s = absurd (only_name i.names given (Clause file fault) s)

    -- the same, of what was answered for names that are these
    pub missing_of : (t : Table) (first before now : ℕ) (new : Counts) (ns : List (List ℕ)) (answer : Option Found) → ns ≡ names → answer ≡ None → depth < 16 → old.files < 256 → IsFirst holds before now ns (Ok answer) → (file includer : List ℕ) → file ≡ i.file → includer ≡ name → IsPart holds first now t new Comes (Err (Absent file (Some (includer, i.place))))
    missing_of t first before now new ns answer e a h k f file includer p q =
        rw (p, q) (missing t first before now new h k (subst (λ (r : Option Found). IsFirst holds before now names (Ok r)) a (subst (λ (l : List (List ℕ)). IsFirst holds before now l (Ok answer)) e f)))

    pub held_of_names : (t : Table) (before now : ℕ) (ns : List (List ℕ)) (answer : Option Found) (found : Found) → ns ≡ names → answer ≡ Some found → IsFirst holds before now ns (Ok answer) → ForFiles holds t (λ files T. Held found files)
    held_of_names t before now ns answer found e a f =
        held_of holds t before now found (subst (λ (r : Option Found). IsFirst holds before now names (Ok r)) a (subst (λ (l : List (List ℕ)). IsFirst holds before now l (Ok answer)) e f))
