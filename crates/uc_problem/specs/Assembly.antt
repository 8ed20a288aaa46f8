-- A problem of its flat list of clauses, and why there is none.
use Rattle.std.specs.Prelude.{ℕ, ◌≡◌, ◌≤◌, ◌==◌, ◌%◌, List, ◌∷◌, length, Option, Some, Result, Ok, Err, if◌then◌else◌}
use Rattle.uc_term.specs.Tree.{nodes}
use Rattle.uc_term.specs.declared.node.Sym.{Sym}
use Rattle.uc_term.specs.declared.node.Pos.{Pos}
use Rattle.uc_term.specs.Table.{Table}
use Rattle.uc_edge.specs.Files.{Files}
use Rattle.uc_clause.specs.declared.token.Place.{Place}
use Rattle.uc_clause.specs.declared.clause.Sourced.{Sourced}
use Rattle.uc_problem.specs.declared.counts.Counts.{Counts}
use Rattle.uc_problem.specs.declared.fault.LoadFault.{LoadFault}
use Rattle.uc_problem.specs.declared.fault.LoadFault.TheVariants as fault
use Rattle.uc_problem.specs.declared.flat.FlatClause.{FlatClause}
use Rattle.uc_problem.specs.Conjecture.{conjectures, second_conjecture, AreClosed}
use Rattle.uc_problem.specs.Holds.{Flattens, ForFiles, IsLoadFault, StandsAt, HasNoSignature, located}
use Rattle.uc_problem.specs.Filling.{AddsAll}
use Rattle.uc_problem.specs.Sound.{AreSound, AreSoundFlats}

-- the problem's flat list of clauses, or the refusal of a file
abbrev pub IsFlat : Table → Option Files → ℕ → ℕ → Option (List ℕ) → List ℕ → Result (List FlatClause) LoadFault → Type 0
IsFlat table holds before now root name (Ok flats) = ForFiles holds table (λ files T. (counts : Counts) × Flattens T files root name (Ok (flats, counts)))
IsFlat table holds before now root name (Err why) = IsLoadFault table holds before now root name why

-- the clauses are sound, and no more than may be loaded
pub record AreSoundFew (table : Table) (clauses : List Sourced) : Type 0 where
  pub sound : AreSound table clauses
  pub few : length clauses ≤ 10000

-- so are clauses in flat order
pub record AreSoundFewFlats (table : Table) (flats : List FlatClause) : Type 0 where
  pub sound : AreSoundFlats table flats
  pub few : length flats ≤ 10000

-- some symbol stands there
pub record HasSymbolAt (clauses : List Sourced) (term : ℕ) (pos : Pos) : Type 0 where
  pub symbol : Sym
  pub stands : StandsAt clauses term pos symbol

-- a node stands there, in this file at this place
pub record HasPlaceAt (clauses : List Sourced) (term node : ℕ) : Type 0 where
  pub spot : List ℕ × Place
  pub is : located clauses term node ≡ Some spot

-- the number of the first place of the term's side among the places of its clause
abbrev pub first_place : Sourced → ℕ → ℕ
first_place s term = if term % 2 == 0 then 0 else nodes s.clause.left

-- why the clauses get no signature; want of memory is free
pub data IsUnsigned (table : Table) (clauses : List Sourced) : LoadFault → Type 0 where
  has_none : {why : LoadFault} → HasNoSignature table clauses why → IsUnsigned table clauses why
  wants_memory : IsUnsigned table clauses fault.NoMemory

-- the constants of a conjecture make the new table of the old, and these are the clauses with them
pub record Closes (old new : Table) (flats : List FlatClause) (clauses : List Sourced) (conjecture : Option ℕ) : Type 0 where
  pub closed : AreClosed new flats clauses conjecture
  pub adds : AddsAll old new closed.constants

-- why they don't: a second conjecture, or want of memory, which is free
pub data IsUnclosed (flats : List FlatClause) : LoadFault → Type 0 where
  has_second : {first second : List ℕ × Place} {rest : List (List ℕ × Place)} → conjectures flats ≡ first ∷ second ∷ rest → IsUnclosed flats (second_conjecture second)
  lacks_memory : IsUnclosed flats fault.NoMemory
