-- Loading the items of a file one after the other.
use Rattle.std.proofs.Common.{◌≡◌, ℕ, ◌≤◌, List, [], ◌∷◌, ◌++◌, length, Option, Some, None, Result, Ok, Err, append_assoc, append-nil, refl, sym, ap, ◌∙◌, subst, arith, inl, inr}
use Rattle.std.proofs.lemmas.List.{take_all, length-take}
use Rattle.uc_term.specs.Table.{Table, Grows}
use Rattle.uc_edge.specs.Files.{Files}
use Rattle.uc_edge.specs.Faults.{Rose}
use Rattle.uc_fof.specs.declared.item.FofItem.{FofItem}
use Rattle.uc_clause.specs.declared.fault.ClauseFault.{ClauseFault}
use Rattle.uc_clause.specs.declared.fault.ClauseFault.TheVariants as text
use Rattle.uc_clause.specs.Reading.{IsFault}
use Rattle.uc_fof.specs.Reading.{ReadsFile, RefusesFile, is_too_long, isnt_items}
use Rattle.uc_problem.specs.declared.counts.Counts.{Counts}
use Rattle.uc_problem.specs.declared.flat.FlatClause.{FlatClause}
use Rattle.uc_problem.specs.declared.fault.LoadFault.{LoadFault}
use Rattle.uc_problem.specs.declared.fault.LoadFault.TheVariants.{Absent, ReadFault, TooDeep, NoSuchName, ArityClash, Limit, Clause, NoMemory}
use Rattle.uc_problem.specs.Fetching.{cut}
use Rattle.uc_problem.specs.Loading.{Loaded, LoadsFile, reads, refused, LoadsItems, no_item, all_before}
use Rattle.uc_problem.specs.Holds.{ReadsAs, ForFiles}
use Rattle.uc_problem.specs.Parts.{IsPart, ItemComesTo, IsNotRead}
use Rattle.uc_problem.proofs.Later.{Grows-refl, Grows-trans, file_later}

-- for the files and every later table one thing gives another
pub for_files : (holds : Option Files) (t u : Table) (P Q : Files → Table → Type 0) → Grows t u → ((files : Files) (T : Table) → Grows u T → P files T → Q files T) → ForFiles holds t P → ForFiles holds u Q
for_files None t u P Q g f p = tt
for_files (Some files) t u P Q g f p = λ T h. f files T h (p T (Grows-trans t u T g h))

pub later_rise : (first before now : ℕ) → first ≤ before → Rose before now → Rose first now
later_rise first before now h r = omega arith

pub for_both : (holds : Option Files) (t u : Table) (P Q R : Files → Table → Type 0) → Grows t u → ((files : Files) (T : Table) → Grows u T → P files T → Q files T → R files T) → ForFiles holds t P → ForFiles holds u Q → ForFiles holds u R
for_both None t u P Q R g f p q = tt
for_both (Some files) t u P Q R g f p q = λ T h. f files T h (p T (Grows-trans t u T g h)) (q T h)

-- a refusal of a part is one of a larger part, by what is known of the files
pub refused_part : (holds : Option Files) (first before now : ℕ) (t u : Table) (c : Counts) (K : Files → Table → Type 0) (P Q : Files → Table → Option (List ℕ) → Loaded → Type 0) (e : LoadFault) → first ≤ before → Grows t u → ForFiles holds t K → ((files : Files) (T : Table) → Grows u T → K files T → (failing : Option (List ℕ)) → P files T failing (Err e) → Q files T failing (Err e)) → IsPart holds before now u c P (Err e) → IsPart holds first now u c Q (Err e)
refused_part holds first before now t u c K P Q (ReadFault file) h g k f p = (later_rise first before now h p.0, for_both holds t u K (λ files T. P files T (Some file) (Err (ReadFault file))) (λ files T. Q files T (Some file) (Err (ReadFault file))) g (λ files T m x. f files T m x (Some file)) k p.1)
refused_part holds first before now t u c K P Q NoMemory h g k f p = tt
refused_part holds first before now t u c K P Q (Absent file from) h g k f p = for_both holds t u K (λ files T. P files T None (Err (Absent file from))) (λ files T. Q files T None (Err (Absent file from))) g (λ files T m x. f files T m x None) k p
refused_part holds first before now t u c K P Q (TooDeep file place) h g k f p = for_both holds t u K (λ files T. P files T None (Err (TooDeep file place))) (λ files T. Q files T None (Err (TooDeep file place))) g (λ files T m x. f files T m x None) k p
refused_part holds first before now t u c K P Q (NoSuchName file place name) h g k f p = for_both holds t u K (λ files T. P files T None (Err (NoSuchName file place name))) (λ files T. Q files T None (Err (NoSuchName file place name))) g (λ files T m x. f files T m x None) k p
refused_part holds first before now t u c K P Q (ArityClash file place name a b) h g k f p = for_both holds t u K (λ files T. P files T None (Err (ArityClash file place name a b))) (λ files T. Q files T None (Err (ArityClash file place name a b))) g (λ files T m x. f files T m x None) k p
refused_part holds first before now t u c K P Q (Limit file place what) h g k f p = for_both holds t u K (λ files T. P files T None (Err (Limit file place what))) (λ files T. Q files T None (Err (Limit file place what))) g (λ files T m x. f files T m x None) k p
refused_part holds first before now t u c K P Q (Clause file (text.Syntax place)) h g k f p = for_both holds t u K (λ files T. P files T None (Err (Clause file (text.Syntax place)))) (λ files T. Q files T None (Err (Clause file (text.Syntax place)))) g (λ files T m x. f files T m x None) k p
refused_part holds first before now t u c K P Q (Clause file (text.NotUnit place)) h g k f p = for_both holds t u K (λ files T. P files T None (Err (Clause file (text.NotUnit place)))) (λ files T. Q files T None (Err (Clause file (text.NotUnit place)))) g (λ files T m x. f files T m x None) k p
refused_part holds first before now t u c K P Q (Clause file (text.NotEquality place)) h g k f p = for_both holds t u K (λ files T. P files T None (Err (Clause file (text.NotEquality place)))) (λ files T. Q files T None (Err (Clause file (text.NotEquality place)))) g (λ files T m x. f files T m x None) k p
refused_part holds first before now t u c K P Q (Clause file (text.BadRole place w)) h g k f p = for_both holds t u K (λ files T. P files T None (Err (Clause file (text.BadRole place w)))) (λ files T. Q files T None (Err (Clause file (text.BadRole place w)))) g (λ files T m x. f files T m x None) k p
refused_part holds first before now t u c K P Q (Clause file (text.Unsupported place w)) h g k f p = for_both holds t u K (λ files T. P files T None (Err (Clause file (text.Unsupported place w)))) (λ files T. Q files T None (Err (Clause file (text.Unsupported place w)))) g (λ files T m x. f files T m x None) k p
refused_part holds first before now t u c K P Q (Clause file (text.Limit place w)) h g k f p = for_both holds t u K (λ files T. P files T None (Err (Clause file (text.Limit place w)))) (λ files T. Q files T None (Err (Clause file (text.Limit place w)))) g (λ files T m x. f files T m x None) k p
refused_part holds first before now t u c K P Q (Clause file text.NoMemory) h g k f p = p

-- this holds of all files and tables
pub all_files : (holds : Option Files) (t : Table) (P : Files → Table → Type 0) → ((files : Files) (T : Table) → P files T) → ForFiles holds t P
all_files None t P f = tt
all_files (Some files) t P f = λ T g. f files T

-- the same part, by equal files and equal bytes
pub same_part : (F : List ℕ → Files → Table → Option (List ℕ) → Loaded → Type 0) (h k : Option Files) (b d : List ℕ) (before now : ℕ) (t : Table) (c : Counts) (r : Result (List FlatClause) LoadFault) → h ≡ k → b ≡ d → IsPart h before now t c (F b) r → IsPart k before now t c (F d) r
same_part F h k b d before now t c r e f p = subst (λ (l : List ℕ). IsPart k before now t c (F l) r) f (subst (λ (x : Option Files). IsPart x before now t c (F b) r) e p)

pub none_left : {A : Type 0} (xs : List A) → length xs ≡ 0 → xs ≡ []
none_left [] e = refl
none_left (x ∷ xs) e = absurd (omega arith)

all_before-nil : (loaded : Loaded) → all_before [] loaded ≡ loaded
all_before-nil (Ok r) = refl
all_before-nil (Err e) = refl

all_before-append : (xs ys : List FlatClause) (loaded : Loaded) → all_before xs (all_before ys loaded) ≡ all_before (xs ++ ys) loaded
all_before-append xs ys (Ok r) = ap (λ l. Ok (l, r.1)) (sym (append_assoc xs ys r.0))
all_before-append xs ys (Err e) = refl

-- bytes that aren't too many are the whole file's
pub whole_is : (bytes whole : List ℕ) → bytes ≡ cut whole → length bytes ≤ 16777216 → bytes ≡ whole
whole_is bytes whole e h = e ∙ take_all 16777217 whole (omega (arith, ap length e, length-take 16777217 whole))

module _ (holds : Option Files) (folder : List ℕ) (root : Option (List ℕ)) (depth : ℕ) (name : List ℕ) (first_counts : Counts) (all : List FofItem) where
  -- whatever the items that are left come to, all of them come to that behind these clauses
  abbrev pub LeftFor : Counts → List FlatClause → List FofItem → Files → Table → Type 0
  LeftFor counts clauses rest files T = (failing : Option (List ℕ)) (loaded : Loaded) → LoadsItems (ReadsAs T) files failing folder root depth name counts rest loaded → LoadsItems (ReadsAs T) files failing folder root depth name first_counts all (all_before clauses loaded)

  abbrev pub Left : Table → Counts → List FlatClause → List FofItem → Type 0
  Left t counts clauses rest = ForFiles holds t (LeftFor counts clauses rest)

  left_all : (holds : Option Files) (t : Table) → ForFiles holds t (LeftFor first_counts [] all)
  left_all None t = tt
  left_all (Some files) t = λ T g failing loaded l. subst (λ (r : Loaded). LoadsItems (ReadsAs T) files failing folder root depth name first_counts all r) (sym (all_before-nil loaded)) l

  pub begin : (t : Table) → Left t first_counts [] all
  begin t = left_all holds t

  pub go_on : (t u : Table) (before now : ℕ) (counts later : Counts) (clauses more : List FlatClause) (i : FofItem) (rest : List FofItem) → Grows t u → Left t counts clauses (i ∷ rest) → IsPart holds before now u later (ItemComesTo folder root depth name counts i) (Ok more) → Left u later (clauses ++ more) rest
  go_on t u before now counts later clauses more i rest g l p =
      for_both holds t u (LeftFor counts clauses (i ∷ rest)) (λ files T. (failing : Option (List ℕ)) → ItemComesTo folder root depth name counts i files T failing (Ok (more, later))) (LeftFor later (clauses ++ more) rest) g
      (λ files T h left comes failing loaded loads. subst (λ (r : Loaded). LoadsItems (ReadsAs T) files failing folder root depth name first_counts all r) (all_before-append clauses more loaded) (left failing (all_before more loaded) (comes failing rest loaded loads)))
      l p

  -- the file that the items are of, where the bytes that were read are its own up to the first that is too many
  module _ (bytes : List ℕ) (counts_now : Counts) where
    abbrev pub FileComesTo : Files → Table → Option (List ℕ) → Loaded → Type 0
    FileComesTo files T failing loaded = (whole : List ℕ) → bytes ≡ cut whole → LoadsFile (ReadsAs T) files failing folder root depth name whole first_counts loaded

    file_reads : (t T : Table) (files : Files) (failing : Option (List ℕ)) (loaded : Loaded) → Grows t T → ReadsFile bytes t all → LoadsItems (ReadsAs T) files failing folder root depth name first_counts all loaded → FileComesTo files T failing loaded
    file_reads t T files failing loaded g r l whole e = reads (subst (λ (b : List ℕ). ReadsFile b T all) (whole_is bytes whole e r.small) (file_later bytes t T all g r)) l

    pub end : (r t : Table) (before now : ℕ) (counts : Counts) (clauses : List FlatClause) → Grows r t → ReadsFile bytes r all → Left t counts clauses [] → IsPart holds before now t counts FileComesTo (Ok clauses)
    end r t before now counts clauses g read l =
        for_files holds t t (LeftFor counts clauses []) (λ files T. (failing : Option (List ℕ)) → FileComesTo files T failing (Ok (clauses, counts))) (Grows-refl t)
        (λ files T h left failing. file_reads r T files failing (Ok (clauses, counts)) (Grows-trans r t T g h) read (subst (λ (x : Loaded). LoadsItems (ReadsAs T) files failing folder root depth name first_counts all x) (ap (λ l. Ok (l, counts)) (append-nil clauses)) (left failing (Ok ([], counts)) no_item)))
        l

    pub stop : (r t u : Table) (first before now : ℕ) (counts later : Counts) (clauses : List FlatClause) (i : FofItem) (rest : List FofItem) (e : LoadFault) → first ≤ before → Grows r t → Grows t u → ReadsFile bytes r all → Left t counts clauses (i ∷ rest) → IsPart holds before now u later (ItemComesTo folder root depth name counts i) (Err e) → IsPart holds first now u later FileComesTo (Err e)
    stop r t u first before now counts later clauses i rest e h g k read l p =
        refused_part holds first before now t u later (LeftFor counts clauses (i ∷ rest)) (ItemComesTo folder root depth name counts i) FileComesTo e h k l
        (λ files T m left failing comes. file_reads r T files failing (Err e) (Grows-trans r t T g (Grows-trans t u T k m)) read (left failing (Err e) (comes rest)))
        p

    whole_refused : (whole : List ℕ) (fault : ClauseFault) → bytes ≡ cut whole → RefusesFile bytes fault → RefusesFile whole fault
    whole_refused whole _ e (is_too_long h) = is_too_long (omega (arith, ap length e, length-take 16777217 whole))
    whole_refused whole fault e (isnt_items h r) = subst (λ (b : List ℕ). RefusesFile b fault) (whole_is bytes whole e h) (isnt_items h r)

    -- a file that isn't read
    unread_at : (t : Table) (why : ClauseFault) (file : List ℕ) (fault : ClauseFault) → RefusesFile bytes why → file ≡ name → fault ≡ why → ForFiles holds t (λ files T. FileComesTo files T None (Err (Clause file fault)))
    unread_at t why file fault f e q =
        all_files holds t (λ files T. FileComesTo files T None (Err (Clause file fault)))
        (λ files T whole w. rw (e, q) (refused (whole_refused whole why w f)))

    pub unread : (t : Table) (first now : ℕ) (counts : Counts) (why : ClauseFault) (r : LoadFault) → IsFault (RefusesFile bytes) why → IsNotRead name why r → IsPart holds first now t counts FileComesTo (Err r)
    unread t first now counts why NoMemory f h = tt
    unread t first now counts why (Clause file fault) (inr m) h = absurd (h.2 m)
    unread t first now counts why (Clause file (text.Syntax place)) (inl f) h = unread_at t why file (text.Syntax place) f h.0 h.1
    unread t first now counts why (Clause file (text.NotUnit place)) (inl f) h = unread_at t why file (text.NotUnit place) f h.0 h.1
    unread t first now counts why (Clause file (text.NotEquality place)) (inl f) h = unread_at t why file (text.NotEquality place) f h.0 h.1
    unread t first now counts why (Clause file (text.BadRole place w)) (inl f) h = unread_at t why file (text.BadRole place w) f h.0 h.1
    unread t first now counts why (Clause file (text.Unsupported place w)) (inl f) h = unread_at t why file (text.Unsupported place w) f h.0 h.1
    unread t first now counts why (Clause file (text.Limit place w)) (inl f) h = unread_at t why file (text.Limit place w) f h.0 h.1
    unread t first now counts why (Clause file text.NoMemory) (inl f) h = absurd (h.2 (sym h.1))
    unread t first now counts why (Absent file from) f h = absurd h
    unread t first now counts why (ReadFault file) f h = absurd h
    unread t first now counts why (TooDeep file place) f h = absurd h
    unread t first now counts why (NoSuchName file place n) f h = absurd h
    unread t first now counts why (ArityClash file place n a b) f h = absurd h
    unread t first now counts why (Limit file place what) f h = absurd h
