-- How the value of a term is found from its flat list, read from the right.
use Rattle.std.specs.Prelude.{ℕ, ◌≡◌, ◌+◌, ◌<◌, ◌≤◌, ◌^◌, List, [], ◌∷◌, length, get_or, take, drop, slice_get, Some, if◌then◌else◌}
use Rattle.uc_term.specs.declared.node.Sym.{Sym}
use Rattle.uc_term.specs.declared.node.Node.{Node}
use Rattle.uc_term.specs.declared.node.Node.TheVariants.{Var, App}
use Rattle.uc_term.specs.Tree.{Tree, var, app, Trees, none, more, count}
use Rattle.uc_term.specs.Signatures.{same_symbol}
use Rattle.uc_table.specs.declared.table.Table.{Table}
use Rattle.uc_table.specs.Algebras.{cells_of}
use Rattle.uc_table.specs.Tables.{IsRow}

abbrev pub IsSized : Table → Type 0
IsSized table = (1 ≤ table.size) × (table.size ≤ 8)

-- how many of the symbols stand before the first that is f
abbrev pub number_of : List Sym → Sym → ℕ
number_of [] f = 0
number_of (g ∷ gs) f = if same_symbol g f then 0 else number_of gs f + 1

-- each symbol among these has at its place the number of the first that it is
abbrev pub AreNumbers : List Sym → List ℕ → Type 0
AreNumbers fs numbers = (i : ℕ) (f : Sym) → slice_get fs i ≡ Some f → get_or numbers f.0 0 ≡ number_of fs f

module _ (table : Table) (numbers : List ℕ) where
  -- the symbol has a number, at which its cells stand, one for each list of so many arguments
  pub record IsNumbered (f : Sym) (arity : ℕ) : Type 0 where
    pub known : f.0 < length numbers
    pub within : get_or numbers f.0 0 < length table.cells
    pub is : get_or table.cells (get_or numbers f.0 0) [] ≡ cells_of table f
    pub row : IsRow table.size (table.size ^ arity) (cells_of table f)

  module _ (variables : ℕ) where
    -- each variable is among so many, and each symbol is numbered
    abbrev mutual
      pub IsReady : Tree → Type 0
      IsReady (var x) = x < variables
      IsReady (app f ts) = IsNumbered f (count ts) × AreReady ts

      pub AreReady : Trees → Type 0
      AreReady none = Unit {0}
      AreReady (more t ts) = IsReady t × AreReady ts

    -- the same of a node, whose arguments' values are the first of these
    abbrev pub IsReadyFor : Node → List ℕ → Type 0
    IsReadyFor (Var x) vs = x < variables
    IsReadyFor (App f n) vs = IsNumbered f n × (n ≤ length vs)

-- the value of a node in place of the values of its arguments
abbrev pub stepped : (Sym → List ℕ → ℕ) → (ℕ → ℕ) → Node → List ℕ → List ℕ
stepped op α (Var x) vs = α x ∷ vs
stepped op α (App f n) vs = op f (take n vs) ∷ drop n vs

-- the values of the terms that nodes spell, one after another
abbrev pub values_on : (Sym → List ℕ → ℕ) → (ℕ → ℕ) → List Node → List ℕ
values_on op α [] = []
values_on op α (n ∷ ns) = stepped op α n (values_on op α ns)

-- each node is ready for the values behind it
abbrev pub AreReadyNodes : Table → List ℕ → ℕ → (Sym → List ℕ → ℕ) → (ℕ → ℕ) → List Node → Type 0
AreReadyNodes table numbers variables op α [] = Unit {0}
AreReadyNodes table numbers variables op α (n ∷ ns) = IsReadyFor table numbers variables n (values_on op α ns) × AreReadyNodes table numbers variables op α ns
