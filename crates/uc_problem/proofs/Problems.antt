-- A problem of clauses that were loaded is the problem that the library holds.
use Rattle.std.proofs.Common.{◌≡◌, ℕ, ◌≤◌, List, [], true, false, Option, Some, None, Result, Ok, Err, IfOk, IfErr, refl, sym, ap, ◌∙◌, subst}
use Rattle.uc_term.specs.declared.node.Sym.{Sym}
use Rattle.uc_term.specs.declared.node.Pos.{Pos}
use Rattle.uc_term.specs.declared.fault.TermFault.{TermFault}
use Rattle.uc_term.specs.declared.fault.TermFault.TheVariants as of_terms
use Rattle.uc_term.specs.Tree.{Tree}
use Rattle.uc_term.specs.Table.{Table, Grows, name_of}
use Rattle.uc_term.specs.Gathering.{AreOf}
use Rattle.uc_term.specs.Signatures.{Gathers, occurrences_of, IsSignatureOf, IsSignatureFault}
use Rattle.uc_term.proofs.Grown.{name-grows}
use Rattle.uc_edge.specs.Files.{Files}
use Rattle.uc_edge.specs.Faults.{Rose}
use Rattle.uc_clause.specs.declared.fault.ClauseFault.TheVariants as text
use Rattle.uc_clause.specs.declared.token.Place.{Place}
use Rattle.uc_clause.specs.declared.clause.Sourced.{Sourced}
use Rattle.uc_clause.specs.declared.fault.What.TheVariants.{Symbols}
use Rattle.uc_problem.specs.declared.counts.Counts.{Counts}
use Rattle.uc_problem.specs.declared.problem.Problem.{Problem}
use Rattle.uc_problem.specs.declared.fault.LoadFault.{LoadFault}
use Rattle.uc_problem.specs.declared.fault.LoadFault.TheVariants as fault
use Rattle.uc_problem.specs.Candidates.{folder_of}
use Rattle.uc_problem.specs.Fetching.{cut, IsAnswer, IsFetchFault}
use Rattle.uc_problem.specs.declared.flat.FlatClause.{FlatClause}
use Rattle.uc_problem.specs.Conjecture.{flat_terms}
use Rattle.uc_problem.specs.Holds.{ReadsAs, Gives, Agrees, StandsAt, HasNoSignature, clashes, is_too_many, Refuses, is_not_flat, has_second, is_unsigned, IsProblem, IsLoadFault, terms_of, numbers_of, located}
use Rattle.uc_problem.specs.Loading.{Loaded, LoadsFile, no_fetch, no_problem, loads}
use Rattle.uc_problem.specs.Parts.{IsPart}
use Rattle.uc_problem.specs.Sound.{AreSound}
use Rattle.uc_problem.specs.Assembly.{IsFlat, AreSoundFew, AreSoundFewFlats, Closes, IsUnsigned, has_none, wants_memory, IsUnclosed, has_second as found_second, lacks_memory}
use Rattle.uc_problem.proofs.Later.{Grows-trans}
use Rattle.uc_problem.proofs.Items.{later_rise}
use Rattle.uc_problem.proofs.Sound.{terms_sound, flat_terms_sound}
use Rattle.uc_problem.proofs.Sides.{has_symbol}
use Rattle.uc_problem.proofs.Growth.{agrees_later, terms_later, all_gathers_later}
use Rattle.uc_problem.proofs.Closed.{closed_later}

-- a problem of clauses that are given is held
module _ (root : Option (List ℕ)) (name : List ℕ) (t u v : Table) (first : Grows t u) (second : Grows u v) (flats : List FlatClause) (sound : AreSoundFewFlats t flats) (clauses : List Sourced) (few : AreSoundFew u clauses) (conjecture : Option ℕ) (closes : Closes t u flats clauses conjecture) where
  -- in each table that the closed one grows into they are given
  gives_in : (files : Files) (before now : ℕ) (T : Table) → Grows u T → IsFlat t (Some files) before now root name (Ok flats) → Gives T files root name clauses conjecture
  gives_in files before now T g f =
      let flat = f T (Grows-trans t u T first g) in
      record { flats = flats; counts = flat.0; flat = flat.1; closed = closed_later u T g flats (terms_later t u first (flat_terms flats) (flat_terms_sound t flats sound.sound)) closes.closed }

  is_problem : (holds : Option Files) (before now : ℕ) (problem : Problem) → IsFlat t holds before now root name (Ok flats) → problem.clauses ≡ clauses → problem.conjecture ≡ conjecture → Agrees v problem → IsProblem v holds root name problem
  is_problem None before now problem f e n a = tt
  is_problem (Some files) before now problem f e n a = λ T g.
      let gives = gives_in files before now T (Grows-trans u v T second g) f in
      record {
        gives = subst (λ (m : Option ℕ). Gives T files root name problem.clauses m) (sym n) (subst (λ (ss : List Sourced). Gives T files root name ss conjecture) (sym e) gives);
        agrees = agrees_later v T g problem a;
      }

  pub answered_by : (holds : Option Files) (before now : ℕ) (r : Result Problem LoadFault) → IsFlat t holds before now root name (Ok flats) → IfOk r (λ problem. problem.clauses ≡ clauses) → IfOk r (λ problem. problem.conjecture ≡ conjecture) → IfOk r (Agrees v) → IfOk r (IsProblem v holds root name)
  answered_by holds before now (Ok p) f e n a = is_problem holds before now p f e n a
  answered_by holds before now (Err e) f h n a = tt

  -- their signature fails in each such table
  no_signature_in : (T : Table) → Grows u T → (why : LoadFault) → HasNoSignature u clauses why → HasNoSignature T clauses why
  no_signature_in T k _ (clashes {term = term} {first = a} {second = b} {pos = pos} {f = h} {file = file} {place = place} g s l) =
      subst (λ (n : List ℕ). HasNoSignature T clauses (fault.ArityClash file place n a b)) (name-grows u T k h (has_symbol u clauses term pos h few.sound s))
      (clashes (all_gathers_later u T k (terms_of clauses) (Err (of_terms.ArityClash term pos a b)) (terms_sound u clauses few.sound) g) s l)
  no_signature_in T k _ (is_too_many {term = term} {pos = pos} g l) =
      is_too_many (all_gathers_later u T k (terms_of clauses) (Err (of_terms.TooMany term pos)) (terms_sound u clauses few.sound) g) l

  refused_in : (files : Files) (before now : ℕ) (why : LoadFault) → IsFlat t (Some files) before now root name (Ok flats) → HasNoSignature u clauses why → (T : Table) → Grows v T → Refuses T files root name why
  refused_in files before now why f h T g =
      let grows = Grows-trans u v T second g in
      is_unsigned (gives_in files before now T grows f) (no_signature_in T grows why h)

  is_refused : (holds : Option Files) (before now first_fault last : ℕ) (why : LoadFault) → IsFlat t holds before now root name (Ok flats) → IsUnsigned u clauses why → IsLoadFault v holds first_fault last root name why
  is_refused holds before now first_fault last _ f wants_memory = tt
  is_refused None before now first_fault last _ f (has_none (clashes g s l)) = tt
  is_refused None before now first_fault last _ f (has_none (is_too_many g l)) = tt
  is_refused (Some files) before now first_fault last _ f (has_none (clashes {first = a} {second = b} {f = h} {file = file} {place = place} g s l)) = refused_in files before now (fault.ArityClash file place (name_of u h) a b) f (clashes g s l)
  is_refused (Some files) before now first_fault last _ f (has_none (is_too_many {file = file} {place = place} g l)) = refused_in files before now (fault.Limit file place Symbols) f (is_too_many g l)

  pub refused_by : (holds : Option Files) (before now first_fault last : ℕ) (r : Result Problem LoadFault) → IsFlat t holds before now root name (Ok flats) → IfErr r (IsUnsigned u clauses) → IfErr r (IsLoadFault v holds first_fault last root name)
  refused_by holds before now first_fault last (Ok p) f h = tt
  refused_by holds before now first_fault last (Err e) f h = is_refused holds before now first_fault last e f h

-- a second conjecture
module _ (root : Option (List ℕ)) (name : List ℕ) (t u : Table) (grows : Grows t u) (flats : List FlatClause) where
  pub unclosed : (holds : Option Files) (before now first_fault last : ℕ) (why : LoadFault) → IsFlat t holds before now root name (Ok flats) → IsUnclosed flats why → IsLoadFault u holds first_fault last root name why
  unclosed holds before now first_fault last _ f lacks_memory = tt
  unclosed None before now first_fault last _ f (found_second e) = tt
  unclosed (Some files) before now first_fault last _ f (found_second e) = λ T g. let flat = f T (Grows-trans t u T grows g) in has_second flat.1 e

module _ (root : Option (List ℕ)) (name : List ℕ) where
  -- a problem file that isn't there
  absent_file : (holds : Option Files) (t : Table) (before now : ℕ) → IsAnswer holds before now name (Ok None) → IsLoadFault t holds before now root name (fault.Absent name None)
  absent_file None t before now a = tt
  absent_file (Some files) t before now a = λ T g. is_not_flat (no_problem a)

  pub no_file : (holds : Option Files) (t : Table) (before now : ℕ) (file : List ℕ) (answer : Option (List ℕ)) → file ≡ name → answer ≡ None → IsAnswer holds before now file (Ok answer) → IsLoadFault t holds before now root name (fault.Absent file None)
  no_file holds t before now file answer e q a =
      subst (λ (n : List ℕ). IsLoadFault t holds before now root name (fault.Absent n None)) (sym e)
      (absent_file holds t before now (subst (λ (r : Option (List ℕ)). IsAnswer holds before now name (Ok r)) q (subst (λ (n : List ℕ). IsAnswer holds before now n (Ok answer)) e a)))

  -- a problem file whose fetch fails
  fails_here : (holds : Option Files) (t : Table) (before now : ℕ) → Rose before now → IsLoadFault t holds before now root name (fault.ReadFault name)
  fails_here None t before now r = (r, tt)
  fails_here (Some files) t before now r = (r, λ T g. no_fetch refl)

  fetch_fault : (holds : Option Files) (t : Table) (before now : ℕ) (e : LoadFault) → IsFetchFault before now name e → IsLoadFault t holds before now root name e
  fetch_fault holds t before now (fault.ReadFault file) f = subst (λ (n : List ℕ). IsLoadFault t holds before now root name (fault.ReadFault n)) (sym f.1) (fails_here holds t before now f.0)
  fetch_fault holds t before now fault.NoMemory f = tt
  fetch_fault holds t before now (fault.Absent file from) f = absurd f
  fetch_fault holds t before now (fault.TooDeep file place) f = absurd f
  fetch_fault holds t before now (fault.NoSuchName file place n) f = absurd f
  fetch_fault holds t before now (fault.ArityClash file place n one two) f = absurd f
  fetch_fault holds t before now (fault.Limit file place what) f = absurd f
  fetch_fault holds t before now (fault.Clause file why) f = absurd f

  pub no_fetch_of : (holds : Option Files) (t : Table) (before now : ℕ) (file : List ℕ) (e : LoadFault) → file ≡ name → IsFetchFault before now file e → IsLoadFault t holds before now root name e
  no_fetch_of holds t before now file e q f = fetch_fault holds t before now e (subst (λ (n : List ℕ). IsFetchFault before now n e) q f)

  -- what a problem file with these bytes comes to
  abbrev pub FileIs : List ℕ → Files → Table → Option (List ℕ) → Loaded → Type 0
  FileIs bytes files T failing loaded = (whole : List ℕ) → bytes ≡ cut whole → LoadsFile (ReadsAs T) files failing (folder_of name) root 0 name whole (record { clauses = 0; files = 0 }) loaded

  pub of_file : (holds : Option Files) (first before now : ℕ) (t : Table) (bytes : List ℕ) (counts : Counts) (r : Result (List FlatClause) LoadFault) → first ≤ before → IsAnswer holds first before name (Ok (Some bytes)) → IsPart holds before now t counts (FileIs bytes) r → IsFlat t holds first now root name r
  of_file None first before now t bytes counts (Ok clauses) h a p = tt
  of_file (Some files) first before now t bytes counts (Ok clauses) h a p = λ T g. (counts, loads a.1 (p T g None a.0 a.2))
  of_file None first before now t bytes counts (Err (fault.ReadFault file)) h a p = (later_rise first before now h p.0, tt)
  of_file (Some files) first before now t bytes counts (Err (fault.ReadFault file)) h a p = (later_rise first before now h p.0, λ T g. loads a.1 (p.1 T g a.0 a.2))
  of_file holds first before now t bytes counts (Err fault.NoMemory) h a p = tt
  of_file None first before now t bytes counts (Err (fault.Absent file from)) h a p = tt
  of_file (Some files) first before now t bytes counts (Err (fault.Absent file from)) h a p = λ T g. is_not_flat (loads a.1 (p T g a.0 a.2))
  of_file None first before now t bytes counts (Err (fault.TooDeep file place)) h a p = tt
  of_file (Some files) first before now t bytes counts (Err (fault.TooDeep file place)) h a p = λ T g. is_not_flat (loads a.1 (p T g a.0 a.2))
  of_file None first before now t bytes counts (Err (fault.NoSuchName file place n)) h a p = tt
  of_file (Some files) first before now t bytes counts (Err (fault.NoSuchName file place n)) h a p = λ T g. is_not_flat (loads a.1 (p T g a.0 a.2))
  of_file None first before now t bytes counts (Err (fault.ArityClash file place n one two)) h a p = tt
  of_file (Some files) first before now t bytes counts (Err (fault.ArityClash file place n one two)) h a p = λ T g. is_not_flat (loads a.1 (p T g a.0 a.2))
  of_file None first before now t bytes counts (Err (fault.Limit file place what)) h a p = tt
  of_file (Some files) first before now t bytes counts (Err (fault.Limit file place what)) h a p = λ T g. is_not_flat (loads a.1 (p T g a.0 a.2))
  of_file None first before now t bytes counts (Err (fault.Clause file (text.Syntax place))) h a p = tt
  of_file (Some files) first before now t bytes counts (Err (fault.Clause file (text.Syntax place))) h a p = λ T g. is_not_flat (loads a.1 (p T g a.0 a.2))
  of_file None first before now t bytes counts (Err (fault.Clause file (text.NotUnit place))) h a p = tt
  of_file (Some files) first before now t bytes counts (Err (fault.Clause file (text.NotUnit place))) h a p = λ T g. is_not_flat (loads a.1 (p T g a.0 a.2))
  of_file None first before now t bytes counts (Err (fault.Clause file (text.NotEquality place))) h a p = tt
  of_file (Some files) first before now t bytes counts (Err (fault.Clause file (text.NotEquality place))) h a p = λ T g. is_not_flat (loads a.1 (p T g a.0 a.2))
  of_file None first before now t bytes counts (Err (fault.Clause file (text.BadRole place w))) h a p = tt
  of_file (Some files) first before now t bytes counts (Err (fault.Clause file (text.BadRole place w))) h a p = λ T g. is_not_flat (loads a.1 (p T g a.0 a.2))
  of_file None first before now t bytes counts (Err (fault.Clause file (text.Unsupported place w))) h a p = tt
  of_file (Some files) first before now t bytes counts (Err (fault.Clause file (text.Unsupported place w))) h a p = λ T g. is_not_flat (loads a.1 (p T g a.0 a.2))
  of_file None first before now t bytes counts (Err (fault.Clause file (text.Limit place w))) h a p = tt
  of_file (Some files) first before now t bytes counts (Err (fault.Clause file (text.Limit place w))) h a p = λ T g. is_not_flat (loads a.1 (p T g a.0 a.2))
  of_file holds first before now t bytes counts (Err (fault.Clause file text.NoMemory)) h a p = absurd p

  pub of_fetched : (holds : Option Files) (first before now : ℕ) (t : Table) (file folder bytes shown : List ℕ) (answer : Option (List ℕ)) (counts : Counts) (r : Result (List FlatClause) LoadFault) → first ≤ before → file ≡ name → folder ≡ folder_of name → shown ≡ bytes → answer ≡ Some bytes → IsAnswer holds first before file (Ok answer) → IsPart holds before now t counts (λ files T failing loaded. (whole : List ℕ) → shown ≡ cut whole → LoadsFile (ReadsAs T) files failing folder root 0 file whole (record { clauses = 0; files = 0 }) loaded) r → IsFlat t holds first now root name r
  of_fetched holds first before now t file folder bytes shown answer counts r h e f s q a p =
      of_file holds first before now t bytes counts r h
      (subst (λ (x : Option (List ℕ)). IsAnswer holds first before name (Ok x)) q (subst (λ (n : List ℕ). IsAnswer holds first before n (Ok answer)) e a))
      (rw (e, f, s) at p)

-- faults of a signature stay in every later table
pub fault_later : (t u : Table) (ts : List Tree) (e : TermFault) → Grows t u → AreOf t ts → IsSignatureFault t ts e → IsSignatureFault u ts e
fault_later t u ts of_terms.NoMemory g of h = tt
fault_later t u ts of_terms.TooLarge g of h = all_gathers_later t u g ts (Err of_terms.TooLarge) of h
fault_later t u ts of_terms.NoSuchPosition g of h = all_gathers_later t u g ts (Err of_terms.NoSuchPosition) of h
fault_later t u ts (of_terms.ArityClash a b c d) g of h = all_gathers_later t u g ts (Err (of_terms.ArityClash a b c d)) of h
fault_later t u ts (of_terms.TooMany a b) g of h = all_gathers_later t u g ts (Err (of_terms.TooMany a b)) of h

-- the clauses have no signature, as the code finds it
pub has_clash : (table : Table) (clauses : List Sourced) (term first second : ℕ) (pos : Pos) (f : Sym) (file name shown : List ℕ) (place : Place) → Gathers table [] (occurrences_of (terms_of clauses)) (Err (of_terms.ArityClash term pos first second)) → StandsAt clauses term pos f → located clauses term pos.0 ≡ Some (file, place) → name ≡ shown → shown ≡ name_of table f → HasNoSignature table clauses (fault.ArityClash file place name first second)
has_clash table clauses term first second pos f file name shown place g s l e q = rw (e, q) (clashes g s l)

-- a problem's parts agree
pub agree : (table : Table) (clauses : List Sourced) (problem : Problem) → AreSound table clauses → problem.clauses ≡ clauses → problem.axioms ≡ numbers_of true 0 clauses → problem.goals ≡ numbers_of false 0 clauses → IsSignatureOf table (terms_of clauses) problem.signature → Agrees table problem
agree table clauses problem sound c a g s = record {
  axioms = a ∙ ap (numbers_of true 0) (sym c);
  goals = g ∙ ap (numbers_of false 0) (sym c);
  over = subst (λ (ss : List Sourced). AreOf table (terms_of ss)) (sym c) (terms_sound table clauses sound);
  signature = subst (λ (ss : List Sourced). IsSignatureOf table (terms_of ss) problem.signature) (sym c) s;
}
