-- The problem that a library holds, and why it holds none.
use Rattle.std.specs.Prelude.{ℕ, zero, suc, ◌≡◌, ◌+◌, Bool, true, false, List, [], ◌∷◌, slice_get, option_map, Option, Some, None, Result, Ok, Err, if◌then◌else◌}
use Rattle.uc_term.specs.Tree.{Tree, nodes}
use Rattle.uc_term.specs.Flat.{flat}
use Rattle.uc_term.specs.declared.node.Node.TheVariants.{App}
use Rattle.uc_term.specs.Table.{Table, Grows, name_of}
use Rattle.uc_term.specs.Gathering.{AreOf}
use Rattle.uc_term.specs.Signatures.{IsSignatureOf, Gathers, occurrences_of}
use Rattle.uc_term.specs.declared.node.Sym.{Sym}
use Rattle.uc_term.specs.declared.node.Pos.{Pos}
use Rattle.uc_term.specs.declared.fault.TermFault.TheVariants as of_terms
use Rattle.uc_edge.specs.Files.{Files}
use Rattle.uc_edge.specs.Faults.{Rose}
use Rattle.uc_clause.specs.declared.token.Place.{Place}
use Rattle.uc_clause.specs.declared.clause.Sourced.{Sourced}
use Rattle.uc_clause.specs.declared.fault.ClauseFault.{ClauseFault}
use Rattle.uc_clause.specs.declared.fault.ClauseFault.TheVariants as unread
use Rattle.uc_clause.specs.declared.fault.What.TheVariants.{Symbols}
use Rattle.uc_fof.specs.declared.item.FofItem.{FofItem}
use Rattle.uc_fof.specs.Reading.{ReadsOrRefusesFile}
use Rattle.uc_problem.specs.declared.fault.LoadFault.{LoadFault}
use Rattle.uc_problem.specs.declared.fault.LoadFault.TheVariants as fault
use Rattle.uc_problem.specs.declared.problem.Problem.{Problem}
use Rattle.uc_problem.specs.Candidates.{folder_of}
use Rattle.uc_problem.specs.declared.counts.Counts.{Counts}
use Rattle.uc_problem.specs.declared.flat.FlatClause.{FlatClause}
use Rattle.uc_problem.specs.Loading.{Loaded, LoadsProblem}
use Rattle.uc_problem.specs.Conjecture.{conjectures, second_conjecture, AreClosed}

-- what a file's text comes to with symbols in this table
abbrev pub ReadsAs : Table → List ℕ → Result (List FofItem) ClauseFault → Type 0
ReadsAs table bytes answer = ReadsOrRefusesFile bytes table answer

-- the flat list of a problem's clauses, or the refusal, where no fetch fails
abbrev pub Flattens : Table → Files → Option (List ℕ) → List ℕ → Loaded → Type 0
Flattens table files root name loaded = LoadsProblem (ReadsAs table) files None (folder_of name) root name loaded

-- loading comes to the file of this name, whose fetch fails: the problem file, or the file of an include as it is tried
abbrev pub FailsAt : Table → Files → Option (List ℕ) → List ℕ → List ℕ → Type 0
FailsAt table files root name file = LoadsProblem (ReadsAs table) files (Some file) (folder_of name) root name (Err (fault.ReadFault file))

-- the terms of clauses, in order, the left side first
abbrev pub terms_of : List Sourced → List Tree
terms_of [] = []
terms_of (s ∷ ss) = s.clause.left ∷ s.clause.right ∷ terms_of ss

-- the numbers of the clauses of this polarity, where the first has this number
abbrev pub numbers_of : Bool → ℕ → List Sourced → List ℕ
numbers_of positive n [] = []
numbers_of true n (s ∷ ss) = if s.clause.positive then n ∷ numbers_of true (n + 1) ss else numbers_of true (n + 1) ss
numbers_of false n (s ∷ ss) = if s.clause.positive then numbers_of false (n + 1) ss else n ∷ numbers_of false (n + 1) ss

-- a problem's own parts agree: which of its clauses are its axioms and which its goals, and its signature
pub record Agrees (table : Table) (problem : Problem) : Type 0 where
  pub axioms : problem.axioms ≡ numbers_of true 0 problem.clauses
  pub goals : problem.goals ≡ numbers_of false 0 problem.clauses
  pub over : AreOf table (terms_of problem.clauses)
  pub signature : IsSignatureOf table (terms_of problem.clauses) problem.signature

-- the library gives these clauses under this name, of which the one of this number was a conjecture, where there was one
pub record Gives (table : Table) (files : Files) (root : Option (List ℕ)) (name : List ℕ) (clauses : List Sourced) (conjecture : Option ℕ) : Type 0 where
  pub flats : List FlatClause
  pub counts : Counts
  pub flat : Flattens table files root name (Ok (flats, counts))
  pub closed : AreClosed table flats clauses conjecture

-- the library holds this problem under this name: its clauses in flat order, with constants in the place of its conjecture's
-- variables, and what follows from them
pub record Holds (table : Table) (files : Files) (root : Option (List ℕ)) (name : List ℕ) (problem : Problem) : Type 0 where
  pub gives : Gives table files root name problem.clauses problem.conjecture
  pub agrees : Agrees table problem

-- the file and the place of a node of one of the terms, by the term's number and the node's
abbrev pub located : List Sourced → ℕ → ℕ → Option (List ℕ × Place)
located [] n node = None
located (s ∷ ss) zero node = option_map (λ place. (s.file, place)) (slice_get s.clause.places node)
located (s ∷ ss) (suc zero) node = option_map (λ place. (s.file, place)) (slice_get s.clause.places (nodes s.clause.left + node))
located (s ∷ ss) (suc (suc n)) node = located ss n node

-- a symbol stands at this place of the term of this number
pub record StandsAt (clauses : List Sourced) (term : ℕ) (pos : Pos) (f : Sym) : Type 0 where
  pub tree : Tree
  pub count : ℕ
  pub tree_at : slice_get (terms_of clauses) term ≡ Some tree
  pub node_at : slice_get (flat tree) pos.0 ≡ Some (App f count)

-- the clauses have no signature: by the first fault of one, at the file and the place where it stands
pub data HasNoSignature (table : Table) (clauses : List Sourced) : LoadFault → Type 0 where
  clashes : {term first second : ℕ} {pos : Pos} {f : Sym} {file : List ℕ} {place : Place} → Gathers table [] (occurrences_of (terms_of clauses)) (Err (of_terms.ArityClash term pos first second)) → StandsAt clauses term pos f → located clauses term pos.0 ≡ Some (file, place) → HasNoSignature table clauses (fault.ArityClash file place (name_of table f) first second)
  is_too_many : {term : ℕ} {pos : Pos} {file : List ℕ} {place : Place} → Gathers table [] (occurrences_of (terms_of clauses)) (Err (of_terms.TooMany term pos)) → located clauses term pos.0 ≡ Some (file, place) → HasNoSignature table clauses (fault.Limit file place Symbols)

-- The library holds no problem under this name, for this reason: the first in the order of loading, then a second conjecture, and at
-- last the signature's.
pub data Refuses (table : Table) (files : Files) (root : Option (List ℕ)) (name : List ℕ) : LoadFault → Type 0 where
  is_not_flat : {why : LoadFault} → Flattens table files root name (Err why) → Refuses table files root name why
  has_second : {flats : List FlatClause} {counts : Counts} {first second : List ℕ × Place} {rest : List (List ℕ × Place)} → Flattens table files root name (Ok (flats, counts)) → conjectures flats ≡ first ∷ second ∷ rest → Refuses table files root name (second_conjecture second)
  is_unsigned : {clauses : List Sourced} {conjecture : Option ℕ} {why : LoadFault} → Gives table files root name clauses conjecture → HasNoSignature table clauses why → Refuses table files root name why

-- this holds of the files, where they are told, in this table and in each that it grows into
abbrev pub ForFiles : Option Files → Table → (Files → Table → Type 0) → Type 0
ForFiles None table P = Unit {0}
ForFiles (Some files) table P = (T : Table) → Grows table T → P files T

-- What a library may answer that tells its files or doesn't: the problem that it holds.
abbrev pub IsProblem : Table → Option Files → Option (List ℕ) → List ℕ → Problem → Type 0
IsProblem table holds root name problem = ForFiles holds table (λ files T. Holds T files root name problem)

-- And why there is none: a fault of the library only where its count rose, at the file to which loading comes; want of memory is
-- free, and has one name.
abbrev pub IsLoadFault : Table → Option Files → ℕ → ℕ → Option (List ℕ) → List ℕ → LoadFault → Type 0
IsLoadFault table holds before now root name (fault.ReadFault file) = Rose before now × ForFiles holds table (λ files T. FailsAt T files root name file)
IsLoadFault table holds before now root name fault.NoMemory = Unit {0}
IsLoadFault table holds before now root name (fault.Clause file unread.NoMemory) = ⊥
IsLoadFault table holds before now root name why = ForFiles holds table (λ files T. Refuses T files root name why)
