-- What the parts of a problem make of the table of symbols.
use Rattle.std.proofs.Common.{◌≡◌, ℕ, zero, suc, ◌==◌, Bool, true, false, List, [], ◌∷◌, Option, Some, None, Result, Ok, Err, IfOk, if◌then◌else◌, refl, sym, subst}
use Rattle.std.proofs.lemmas.Option.{slice_get_within}
use Rattle.uc_term.specs.declared.node.Sym.{Sym}
use Rattle.uc_term.specs.declared.signature.Signature.{Signature}
use Rattle.uc_term.specs.Tree.{Tree}
use Rattle.uc_term.specs.Table.{Table, Has, AddsAtMost, arity_of}
use Rattle.uc_term.specs.Gathering.{HasAll, AreOf}
use Rattle.uc_term.specs.Signatures.{IsFreshFor, first_constant, Completes, has_constant, gets_constant, IsSignatureOf}
use Rattle.uc_term.proofs.Grown.{gathers-grows, have_from}
use Rattle.uc_edge.specs.Files.{Files}
use Rattle.uc_clause.specs.declared.clause.Include.{Include}
use Rattle.uc_clause.specs.declared.clause.Item.TheVariants as item
use Rattle.uc_clause.specs.declared.clause.Sourced.{Sourced}
use Rattle.uc_fof.specs.declared.item.FofItem.{FofItem}
use Rattle.uc_fof.specs.declared.item.FofItem.TheVariants.{Item, Formula}
use Rattle.uc_fof.specs.Reading.{ReadsFile}
use Rattle.uc_fof.specs.Interning.{InternsFile}
use Rattle.uc_problem.specs.declared.flat.FlatClause.{FlatClause}
use Rattle.uc_problem.specs.declared.fault.LoadFault.{LoadFault}
use Rattle.uc_problem.specs.declared.fetch.Found.{Found}
use Rattle.uc_problem.specs.declared.problem.Problem.{Problem}
use Rattle.uc_problem.specs.Candidates.{candidates, folder_of}
use Rattle.uc_problem.specs.Fetching.{cut, IsFirst, IsAnswer}
use Rattle.uc_problem.specs.Holds.{Agrees}
use Rattle.uc_problem.specs.Assembly.{IsFlat, AreSoundFewFlats, Closes}
use Rattle.uc_problem.specs.Filling.{WhereTold, FillsFile, fills_file, FillsItems, no_item_fills, clause_fills, formula_fills, include_fills, FillsInclude, FillsItem, FillsProblem, FillsClosed, AddsOne, IsFilled}
use Rattle.uc_problem.proofs.Later.{Grows-refl}
use Rattle.uc_problem.proofs.Items.{whole_is}
use Rattle.uc_problem.proofs.Sound.{flat_terms_sound}

-- the items of a file, one after the other
module _ (folder : List ℕ) (root : Option (List ℕ)) where
  -- whatever table the items that are left make of the present one, all of them make it of the one that was read
  abbrev pub LeavesFor : List FofItem → Table → List FofItem → Table → Files → Type 0
  LeavesFor all read rest present files = (new : Table) → FillsItems files folder root rest present new → FillsItems files folder root all read new

  abbrev pub Leaves : Option Files → List FofItem → Table → List FofItem → Table → Type 0
  Leaves holds all read rest present = WhereTold holds (LeavesFor all read rest present)

  pub leaves_all : (holds : Option Files) (all : List FofItem) (read : Table) → Leaves holds all read all read
  leaves_all None all read = tt
  leaves_all (Some files) all read = λ new f. f

  item_first : (files : Files) (i : FofItem) (rest : List FofItem) (old middle new : Table) → FillsItem files folder root i old middle → FillsItems files folder root rest middle new → FillsItems files folder root (i ∷ rest) old new
  item_first files (Item (item.Clause c)) rest old middle new e f = clause_fills (subst (λ (t : Table). FillsItems files folder root rest t new) e f)
  item_first files (Item (item.Include i)) rest old middle new e f = include_fills e.is_held e.fills f
  item_first files (Formula c conjecture place) rest old middle new e f = formula_fills (subst (λ (t : Table). FillsItems files folder root rest t new) e f)

  -- an item that is a clause leaves the table as it is
  abbrev pub LeavesTable : FofItem → Type 0
  LeavesTable i = (files : Files) (t : Table) → FillsItem files folder root i t t

  pub taken_filled : (holds : Option Files) (i : FofItem) (t : Table) (r : Result (List FlatClause) LoadFault) → LeavesTable i → IfOk r (λ _. WhereTold holds (λ files. FillsItem files folder root i t t))
  taken_filled None i t (Ok clauses) leaves = tt
  taken_filled (Some files) i t (Ok clauses) leaves = leaves files t
  taken_filled holds i t (Err why) leaves = tt

  pub leaves_one : (holds : Option Files) (all : List FofItem) (read : Table) (i : FofItem) (rest : List FofItem) (t u : Table) → Leaves holds all read (i ∷ rest) t → WhereTold holds (λ files. FillsItem files folder root i t u) → Leaves holds all read rest u
  leaves_one None all read i rest t u l f = tt
  leaves_one (Some files) all read i rest t u l f = λ new k. l new (item_first files i rest t u new f k)

  -- a file whose bytes are its own up to the first that is too many
  abbrev pub Filled : Option Files → List ℕ → Table → Table → Type 0
  Filled holds bytes old new = WhereTold holds (λ files. (whole : List ℕ) → bytes ≡ cut whole → FillsFile files folder root whole old new)

  pub leaves_none : (holds : Option Files) (bytes : List ℕ) (all : List FofItem) (old read new : Table) → InternsFile bytes old read → ReadsFile bytes read all → Leaves holds all read [] new → Filled holds bytes old new
  leaves_none None bytes all old read new i r l = tt
  leaves_none (Some files) bytes all old read new i r l = λ whole e.
      let same = whole_is bytes whole e r.small in
      fills_file (subst (λ (b : List ℕ). InternsFile b old read) same i) (subst (λ (b : List ℕ). ReadsFile b read all) same r) (l new no_item_fills)

  -- an include's file
  module _ (include : Include) (before now : ℕ) (old new : Table) where
    include_filled : (holds : Option Files) (found : Found) → IsFirst holds before now (candidates folder root include.file) (Ok (Some found)) → Filled holds found.bytes old new → WhereTold holds (λ files. FillsInclude files folder root include old new)
    include_filled None found f p = tt
    include_filled (Some files) found f p = record { found = found.name; content = f.0; is_held = f.1; fills = p f.0 f.2 }

    pub found_filled : (holds : Option Files) (names : List (List ℕ)) (answer : Option Found) (found : Found) (r : Result (List FlatClause) LoadFault) → names ≡ candidates folder root include.file → answer ≡ Some found → IsFirst holds before now names (Ok answer) → Filled holds found.bytes old new → IfOk r (λ _. WhereTold holds (λ files. FillsInclude files folder root include old new))
    found_filled holds names answer found (Ok clauses) e a f p =
        include_filled holds found (subst (λ (r : Option Found). IsFirst holds before now (candidates folder root include.file) (Ok r)) a (subst (λ (l : List (List ℕ)). IsFirst holds before now l (Ok answer)) e f)) p
    found_filled holds names answer found (Err why) e a f p = tt

-- the problem file
module _ (root : Option (List ℕ)) (name : List ℕ) (before now : ℕ) (old new : Table) where
  problem_filled : (holds : Option Files) (bytes : List ℕ) → IsAnswer holds before now name (Ok (Some bytes)) → Filled (folder_of name) root holds bytes old new → WhereTold holds (λ files. FillsProblem files root name old new)
  problem_filled None bytes a p = tt
  problem_filled (Some files) bytes a p = record { bytes = a.0; is_held = a.1; fills = p a.0 a.2 }

  pub fetched_filled : (holds : Option Files) (file bytes : List ℕ) (answer : Option (List ℕ)) (r : Result (List FlatClause) LoadFault) → file ≡ name → answer ≡ Some bytes → IsAnswer holds before now file (Ok answer) → IfOk r (λ _. Filled (folder_of name) root holds bytes old new) → IfOk r (λ _. WhereTold holds (λ files. FillsProblem files root name old new))
  fetched_filled holds file bytes answer (Ok clauses) e q a p =
      problem_filled holds bytes (subst (λ (x : Option (List ℕ)). IsAnswer holds before now name (Ok x)) q (subst (λ (n : List ℕ). IsAnswer holds before now n (Ok answer)) e a)) p
  fetched_filled holds file bytes answer (Err why) e q a p = tt

-- the problem
module _ (root : Option (List ℕ)) (name : List ℕ) (old flat : Table) (flats : List FlatClause) (sound : AreSoundFewFlats flat flats) where
  is_closed : (files : Files) (before now : ℕ) (closed : Table) (clauses : List Sourced) (conjecture : Option ℕ) → IsFlat flat (Some files) before now root name (Ok flats) → FillsProblem files root name old flat → Closes flat closed flats clauses conjecture → FillsClosed files root name old closed clauses conjecture
  is_closed files before now closed clauses conjecture f p c =
      let here = f flat (Grows-refl flat) in
      record { flat = flat; fills = p; flats = flats; counts = here.0; reads = here.1; over = flat_terms_sound flat flats sound.sound; closed = c.closed; adds = c.adds }

  abbrev pub ClosedWhereTold : Option Files → Table → List Sourced → Option ℕ → Type 0
  ClosedWhereTold holds closed clauses conjecture = WhereTold holds (λ files. FillsClosed files root name old closed clauses conjecture)

  pub told_closed : (holds : Option Files) (before now : ℕ) (closed : Table) (clauses : List Sourced) (conjecture : Option ℕ) → IsFlat flat holds before now root name (Ok flats) → WhereTold holds (λ files. FillsProblem files root name old flat) → Closes flat closed flats clauses conjecture → ClosedWhereTold holds closed clauses conjecture
  told_closed None before now closed clauses conjecture f p c = tt
  told_closed (Some files) before now closed clauses conjecture f p c = is_closed files before now closed clauses conjecture f p c

module _ (root : Option (List ℕ)) (name : List ℕ) (old closed new : Table) (clauses : List Sourced) (conjecture : Option ℕ) where
  is_filled : (files : Files) (problem : Problem) → FillsClosed files root name old closed clauses conjecture → problem.clauses ≡ clauses → problem.conjecture ≡ conjecture → Agrees new problem → AddsOne closed new problem.signature.least → IsFilled files root name old new problem
  is_filled files problem f e n a l = record {
    closed = closed;
    fills = subst (λ (m : Option ℕ). FillsClosed files root name old closed problem.clauses m) (sym n) (subst (λ (ss : List Sourced). FillsClosed files root name old closed ss conjecture) (sym e) f);
    least = l;
    agrees = a;
  }

  told_filled : (holds : Option Files) (problem : Problem) → WhereTold holds (λ files. FillsClosed files root name old closed clauses conjecture) → problem.clauses ≡ clauses → problem.conjecture ≡ conjecture → Agrees new problem → AddsOne closed new problem.signature.least → WhereTold holds (λ files. IsFilled files root name old new problem)
  told_filled None problem f e n a l = tt
  told_filled (Some files) problem f e n a l = is_filled files problem f e n a l

  pub filled_by : (holds : Option Files) (r : Result Problem LoadFault) → WhereTold holds (λ files. FillsClosed files root name old closed clauses conjecture) → IfOk r (λ problem. problem.clauses ≡ clauses) → IfOk r (λ problem. problem.conjecture ≡ conjecture) → IfOk r (Agrees new) → IfOk r (λ problem. AddsOne closed new problem.signature.least) → IfOk r (λ problem. WhereTold holds (λ files. IsFilled files root name old new problem))
  filled_by holds (Ok problem) f e n a l = told_filled holds problem f e n a l
  filled_by holds (Err why) f e n a l = tt

-- a fresh symbol is one of the table
pub adds_fresh : (old new : Table) (word : List ℕ) (arity : ℕ) (fs : List Sym) (f : Sym) → IsFreshFor new word arity fs f → AddsAtMost old new f → AddsOne old new f
adds_fresh old new word arity fs f fresh adds = record { has = slice_get_within new f.0 _ fresh.symbol; adds = adds }

-- and so is the least constant of a signature
module _ (table : Table) where
  constant_has : (fs : List Sym) (c : Sym) → HasAll table fs → first_constant table fs ≡ Some c → Has table c
  constant_has [] c h e = absurd cc
  constant_has (f ∷ fs) c h e = go (arity_of table f == 0) e (constant_has fs c (λ i g q. h (suc i) g q))
    where
      go : (b : Bool) → (if b then Some f else first_constant table fs) ≡ Some c → (first_constant table fs ≡ Some c → Has table c) → Has table c
      go true e later = let same : f ≡ c = cc in subst (Has table) same (h zero f refl)
      go false e later = later e

  least_has : (fs : List Sym) (signature : Signature) → HasAll table fs → Completes table fs signature → Has table signature.least
  least_has fs _ h (has_constant {c = c} e) = constant_has fs c h e
  least_has fs _ h (gets_constant {c = c} e fresh) = slice_get_within table c.0 _ fresh.symbol

  pub adds_least : (old : Table) (ts : List Tree) (signature : Signature) → AreOf table ts → IsSignatureOf table ts signature → AddsAtMost old table signature.least → AddsOne old table signature.least
  adds_least old ts signature of s adds =
      let g = gathers-grows table table (Grows-refl table) s.gathers refl (λ i f e. absurd cc) (have_from table table (Grows-refl table) ts 0 of) in
      record { has = least_has s.symbols signature g.1 s.completes; adds = adds }
