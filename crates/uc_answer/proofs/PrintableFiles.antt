-- The clauses that a library's files hold can be printed, and the names of their files be spelled.
use Rattle.std.proofs.Common.{ℕ, zero, suc, ◌≡◌, ◌==◌, Bool, true, false, List, [], ◌∷◌, ◌++◌, filter, cond, slice_get, Option, Some, None, Ok, Err, if◌then◌else◌, refl, ap, subst, arith, length-append}
use Rattle.std.specs.List.{list_any}
use Rattle.std.proofs.lemmas.Bool.{and_parts, and_from}
use Rattle.uc_term.specs.Table.{Table}
use Rattle.uc_edge.specs.Files.{Files}
use Rattle.uc_fact.proofs.Agreeing.{each_append}
use Rattle.uc_clause.specs.declared.token.Place.{Place}
use Rattle.uc_clause.specs.declared.clause.Name.{Name}
use Rattle.uc_clause.specs.declared.clause.Sourced.{Sourced}
use Rattle.uc_clause.specs.Bytes.{between}
use Rattle.uc_clause.specs.Names.{IsSpellable}
use Rattle.uc_fof.specs.declared.item.FofItem.{FofItem}
use Rattle.uc_problem.specs.declared.counts.Counts.{Counts}
use Rattle.uc_problem.specs.declared.flat.FlatClause.{FlatClause}
use Rattle.uc_problem.specs.declared.problem.Problem.{Problem}
use Rattle.uc_problem.specs.Candidates.{folder_of, begins_with_slash, in_root, candidates}
use Rattle.uc_problem.specs.Loading.{held, held_or, first_held, lists_name, first_missing, listed_or, selected, place_if, Loaded, before, all_before, LoadsFile, reads, refused, LoadsItems, no_item, clause, formula, too_many_clauses, too_many_formulas, too_deep, too_many_files, fetch_fails, absent, stops_inside, misses_name, includes, no_fetch, no_problem, loads}
use Rattle.uc_problem.specs.Conjecture.{flat_terms}
use Rattle.uc_problem.specs.Holds.{ReadsAs, Flattens, Holds}
use Rattle.uc_answer.specs.PrintableProblems.{are_seen, IsRootSeen, IsPrintableSourced, ArePrintableSourced}
use Rattle.uc_answer.proofs.PrintableFormulas.{PrintableItems, file_printable}
use Rattle.uc_answer.proofs.ClosedClauses.{IsPrintableFlat, ArePrintableFlats, closed_all_printable}

-- NAMES

pub seen_both : (xs ys : List ℕ) → are_seen xs ≡ true → are_seen ys ≡ true → are_seen (xs ++ ys) ≡ true
seen_both [] ys h k = k
seen_both (x ∷ xs) ys h k = let p = and_parts (between 32 126 x) (are_seen xs) h in and_from (between 32 126 x) (are_seen (xs ++ ys)) p.0 (seen_both xs ys p.1 k)

folder_seen : (name : List ℕ) → are_seen name ≡ true → are_seen (folder_of name) ≡ true
folder_seen [] h = refl
folder_seen (b ∷ bs) h = go (list_any (λ c. c == 47) (b ∷ bs)) (folder_seen bs)
  where
    go : (t : Bool) → (are_seen bs ≡ true → are_seen (folder_of bs) ≡ true) → are_seen (if t then b ∷ folder_of bs else []) ≡ true
    go true later = let p = and_parts (between 32 126 b) (are_seen bs) h in and_from (between 32 126 b) (are_seen (folder_of bs)) p.0 (later p.1)
    go false later = refl

abbrev AreSpellable : List (List ℕ) → Type 0
AreSpellable [] = Unit {0}
AreSpellable (name ∷ names) = IsSpellable name × AreSpellable names

behind_spellable : (front name : List ℕ) → are_seen front ≡ true → IsSpellable name → IsSpellable (front ++ name)
behind_spellable front name h s = (omega (arith, s.0, length-append front name), seen_both front name h s.1)

in_root_spellable : (root : Option (List ℕ)) (name : List ℕ) → IsRootSeen root → IsSpellable name → AreSpellable (in_root root name)
in_root_spellable None name h s = tt
in_root_spellable (Some root) name h s = (behind_spellable root (47 ∷ name) h (omega arith, s.1), tt)

candidates_spellable : (folder : List ℕ) (root : Option (List ℕ)) (name : List ℕ) → are_seen folder ≡ true → IsRootSeen root → IsSpellable name → AreSpellable (candidates folder root name)
candidates_spellable folder root name f r s = go (begins_with_slash name)
  where
    go : (t : Bool) → AreSpellable (if t then name ∷ [] else (folder ++ name) ∷ in_root root name)
    go true = (s, tt)
    go false = (behind_spellable folder name f s, in_root_spellable root name r s)

found_spellable : (files : Files) (names : List (List ℕ)) (found bytes : List ℕ) → AreSpellable names → first_held files names ≡ Some (found, bytes) → IsSpellable found
found_spellable files [] found bytes h e = absurd cc
found_spellable files (name ∷ names) found bytes h e = go (held files name) e (found_spellable files names found bytes h.1)
  where
    go : (o : Option (List ℕ)) → held_or name o (first_held files names) ≡ Some (found, bytes) → (first_held files names ≡ Some (found, bytes) → IsSpellable found) → IsSpellable found
    go (Some text) q later = let pairs : Path (List ℕ × List ℕ) (name, text) (found, bytes) = cc in subst IsSpellable (ap (λ (p : List ℕ × List ℕ). p.0) pairs) h.0
    go None q later = later q

-- CLAUSES

module _ (t : Table) where
  both_printable : (xs ys : List FlatClause) → ArePrintableFlats t xs → ArePrintableFlats t ys → ArePrintableFlats t (xs ++ ys)
  both_printable xs ys h k = each_append (IsPrintableFlat t) xs ys h k

  module _ (keep : FlatClause → Bool) where
    kept_one : (b : Bool) (x : FlatClause) (xs : List FlatClause) → IsPrintableFlat t x → ArePrintableFlats t xs → ArePrintableFlats t (cond b (x ∷ xs) xs)
    kept_one true x xs h k = (h, k)
    kept_one false x xs h k = k

    filter_printable : (xs : List FlatClause) → ArePrintableFlats t xs → ArePrintableFlats t (filter keep xs)
    filter_printable [] h = tt
    filter_printable (x ∷ xs) h = kept_one (keep x) x (filter keep xs) h.0 (filter_printable xs h.1)

  abbrev LoadedPrintable : Loaded → Type 0
  LoadedPrintable (Ok r) = ArePrintableFlats t r.0
  LoadedPrintable (Err e) = Unit {0}

  one_before : (x : FlatClause) (l : Loaded) → IsPrintableFlat t x → LoadedPrintable l → LoadedPrintable (before x l)
  one_before x (Ok r) h k = (h, k)
  one_before x (Err e) h k = tt

  all_printable : (cs : List FlatClause) (l : Loaded) → ArePrintableFlats t cs → LoadedPrintable l → LoadedPrintable (all_before cs l)
  all_printable cs (Ok r) h k = both_printable cs r.0 h k
  all_printable cs (Err e) h k = tt

  listed_printable : (file : List ℕ) (names : List (Name × Place)) (given kept : List FlatClause) (m : Option (Name × Place)) → ArePrintableFlats t given → listed_or file names given m ≡ Ok kept → ArePrintableFlats t kept
  listed_printable file names given kept None h e = let same : filter (λ (s : FlatClause). lists_name names s.clause.name) given ≡ kept = cc in subst (ArePrintableFlats t) same (filter_printable (λ s. lists_name names s.clause.name) given h)
  listed_printable file names given kept (Some m) h e = absurd cc

  kept_printable : (file : List ℕ) (names : Option (List (Name × Place))) (given kept : List FlatClause) → ArePrintableFlats t given → selected file names given ≡ Ok kept → ArePrintableFlats t kept
  kept_printable file None given kept h e = let same : given ≡ kept = cc in subst (ArePrintableFlats t) same h
  kept_printable file (Some names) given kept h e = listed_printable file names given kept (first_missing given names) h e

  module _ (files : Files) (folder : List ℕ) (root : Option (List ℕ)) (folder_is : are_seen folder ≡ true) (root_is : IsRootSeen root) where
    mutual
      file_loaded : {depth : ℕ} {name bytes : List ℕ} {counts : Counts} {l : Loaded} → IsSpellable name → LoadsFile (ReadsAs t) files None folder root depth name bytes counts l → LoadedPrintable l
      file_loaded named (reads {bytes = bytes} {items = is} r h) = items_loaded named h (file_printable bytes t is r)
      file_loaded named (refused r) = tt

      items_loaded : {depth : ℕ} {name : List ℕ} {counts : Counts} {items : List FofItem} {l : Loaded} → IsSpellable name → LoadsItems (ReadsAs t) files None folder root depth name counts items l → PrintableItems t items → LoadedPrintable l
      items_loaded named no_item s = tt
      items_loaded {name = name} named (clause {c = c} {loaded = l} less h) s = one_before (record { file = name; clause = c; conjecture = None }) l (named, s.0.0, s.0.1) (items_loaded named h s.1)
      items_loaded {name = name} named (formula {c = c} {conjecture = conjecture} {place = place} {loaded = l} less h) s = one_before (record { file = name; clause = c; conjecture = place_if conjecture place }) l (named, s.0.0, s.0.1) (items_loaded named h s.1)
      items_loaded named (too_many_clauses m) s = tt
      items_loaded named (too_many_formulas m) s = tt
      items_loaded named (too_deep m) s = tt
      items_loaded named (too_many_files d m) s = tt
      items_loaded named (fetch_fails d f tried e) s = tt
      items_loaded named (absent d f e) s = tt
      items_loaded named (stops_inside d f e h) s = tt
      items_loaded named (misses_name d f e h k) s = tt
      items_loaded {name = name} named (includes {i = i} {found = found} {bytes = bytes} {given = given} {kept = kept} {loaded = l} d f e h k rest) s = all_printable kept l (kept_printable name i.names given kept (file_loaded (found_spellable files (candidates folder root i.file) found bytes (candidates_spellable folder root i.file folder_is root_is s.0) e) h) k) (items_loaded named rest s.1)

  flat_printable : (files : Files) (root : Option (List ℕ)) (name : List ℕ) {l : Loaded} → IsSpellable name → IsRootSeen root → Flattens t files root name l → LoadedPrintable l
  flat_printable files root name named r (no_fetch e) = tt
  flat_printable files root name named r (no_problem e) = tt
  flat_printable files root name named r (loads e h) = file_loaded files (folder_of name) root (folder_seen name named.1) r named h

  pub held_printable : (files : Files) (root : Option (List ℕ)) (name : List ℕ) (problem : Problem) → IsSpellable name → IsRootSeen root → Holds t files root name problem → ArePrintableSourced t problem.clauses
  held_printable files root name problem named r h =
      let closed = h.gives.closed in
      rw closed.clauses_are (closed_all_printable t (flat_terms h.gives.flats) 1 closed.constants closed.are.named h.gives.flats (flat_printable files root name named r h.gives.flat))

  pub printable_at : (ss : List Sourced) (c : ℕ) (s : Sourced) → ArePrintableSourced t ss → slice_get ss c ≡ Some s → IsPrintableSourced t s
  printable_at [] c s h e = absurd cc
  printable_at (x ∷ xs) zero s h e = let same : x ≡ s = cc in subst (IsPrintableSourced t) same h.0
  printable_at (x ∷ xs) (suc c) s h e = printable_at xs c s h.1 e
