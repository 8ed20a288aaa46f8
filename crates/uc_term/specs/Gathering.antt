-- How the occurrences of symbols are gathered one after another.
use Rattle.std.specs.Prelude.{ℕ, ◌≡◌, ◌++◌, List, map, slice_get, Some, Err, Result}
use Rattle.uc_term.specs.declared.node.Sym.{Sym}
use Rattle.uc_term.specs.declared.fault.TermFault.{TermFault}
use Rattle.uc_term.specs.declared.fault.TermFault.TheVariants.{NoMemory, ArityClash}
use Rattle.uc_term.specs.Table.{Table, Entry, name_of, arity_of, Has, IsOf}
use Rattle.uc_term.specs.declared.node.Node.{Node}
use Rattle.uc_term.specs.declared.node.Node.TheVariants.{App}
use Rattle.uc_term.specs.declared.node.Pos.{Pos}
use Rattle.uc_term.specs.Tree.{Tree}
use Rattle.uc_term.specs.Signatures.{Occurrence, Gathers}

-- a name, in a table of names that has each of them with no arguments
abbrev pub name_entry : List ℕ → Entry
name_entry name = record { name = name; arity = 0 }

-- the names of some symbols, in the order of the symbols
abbrev pub names_of : Table → List Sym → Table
names_of table fs = map (λ f. name_entry (name_of table f)) fs

module _ (table : Table) where
  -- with these occurrences behind it, the old list becomes the new one
  abbrev pub GoesOn : List Sym → List Sym → List Occurrence → Type 0
  GoesOn old new os = (rest : List Occurrence) (r : Result (List Sym) TermFault) → Gathers table new rest r → Gathers table old (os ++ rest) r

  -- the fault is at one of these occurrences; want of memory is free
  abbrev pub StopsAt : List Sym → List Occurrence → TermFault → Type 0
  StopsAt seen os NoMemory = Unit {0}
  StopsAt seen os fault = (rest : List Occurrence) → Gathers table seen (os ++ rest) (Err fault)

-- every one of these symbols is the table's
abbrev pub HasAll : Table → List Sym → Type 0
HasAll table fs = (i : ℕ) (f : Sym) → slice_get fs i ≡ Some f → Has table f

-- every symbol of these nodes is the table's
abbrev pub HasNodes : Table → List Node → Type 0
HasNodes table ns = (i : ℕ) (f : Sym) (n : ℕ) → slice_get ns i ≡ Some (App f n) → Has table f

-- every term is over the table
abbrev pub AreOf : Table → List Tree → Type 0
AreOf table ts = (i : ℕ) (t : Tree) → slice_get ts i ≡ Some t → IsOf table t

-- these are the names of the symbols, in whatever order
pub record AreNamesOf (table : Table) (fs : List Sym) (names : List (List ℕ)) : Type 0 where
  pub all : (i : ℕ) (f : Sym) → slice_get fs i ≡ Some f → (j : ℕ) × (slice_get names j ≡ Some (name_of table f))
  pub only : (j : ℕ) (name : List ℕ) → slice_get names j ≡ Some name → (i : ℕ) × (f : Sym) × (slice_get fs i ≡ Some f) × (name_of table f ≡ name)

-- the symbols are the table's, and these are their names
pub record IsNamed (table names : Table) (fs : List Sym) : Type 0 where
  pub has_all : HasAll table fs
  pub names_are : names ≡ names_of table fs

abbrev pub occurrence : ℕ → ℕ → Sym → Occurrence
occurrence term place f = record { term = term; place = place; symbol = f }

-- another symbol clashes with the first of its name
pub record IsClash (table : Table) (first second : Sym) (term : ℕ) (pos : Pos) (fault : TermFault) : Type 0 where
  pub differ : first ≡ second → ⊥
  pub fault_is : fault ≡ ArityClash term pos (arity_of table first) (arity_of table second)
