-- The conjecture of a problem. Of clauses in flat order at most one may be the denial of a conjecture. Fresh constants take the place
-- of its variables: they are named sk_1, sk_2 and so on by the variable's number, and a name that some symbol of the clauses has, of
-- whatever arity, is passed over.
use Rattle.std.specs.Prelude.{ℕ, ◌≡◌, ◌≤◌, ◌<◌, ◌+◌, Bool, true, false, List, [], ◌∷◌, ◌++◌, map, length, codes, decimal, bytes_eq, max, Option, Some, None}
use Rattle.std.specs.List.{list_any}
use Rattle.uc_term.specs.Tree.{Tree, apply}
use Rattle.uc_term.specs.Flat.{flat}
use Rattle.uc_term.specs.declared.node.Node.{Node}
use Rattle.uc_term.specs.declared.node.Node.TheVariants.{Var, App}
use Rattle.uc_term.specs.declared.node.Sym.{Sym}
use Rattle.uc_term.specs.Table.{Table, IsSymbol, name_of}
use Rattle.uc_clause.specs.declared.token.Place.{Place}
use Rattle.uc_clause.specs.declared.clause.Clause.{Clause}
use Rattle.uc_clause.specs.declared.clause.Sourced.{Sourced}
use Rattle.uc_clause.specs.declared.fault.ClauseFault.TheVariants.{Unsupported}
use Rattle.uc_fof.specs.Constants.{constant_for}
use Rattle.uc_problem.specs.declared.flat.FlatClause.{FlatClause}
use Rattle.uc_problem.specs.declared.fault.LoadFault.{LoadFault}
use Rattle.uc_problem.specs.declared.fault.LoadFault.TheVariants as fault

-- where clauses say `conjecture`, in order: the file and the place
abbrev pub spot_of : List ℕ → Option Place → List (List ℕ × Place)
spot_of file None = []
spot_of file (Some place) = (file, place) ∷ []

abbrev pub conjectures : List FlatClause → List (List ℕ × Place)
conjectures [] = []
conjectures (s ∷ ss) = spot_of s.file s.conjecture ++ conjectures ss

-- the refusal of a second conjecture, which stands here
abbrev pub second_conjecture : List ℕ × Place → LoadFault
second_conjecture spot = fault.Clause spot.0 (Unsupported spot.1 (codes "conjecture"))

-- the number of the first conjecture, where the first clause has this number
abbrev pub number_or : ℕ → Option Place → Option ℕ → Option ℕ
number_or n (Some place) later = Some n
number_or n None later = later

abbrev pub conjecture_from : ℕ → List FlatClause → Option ℕ
conjecture_from n [] = None
conjecture_from n (s ∷ ss) = number_or n s.conjecture (conjecture_from (n + 1) ss)

-- one more than the greatest number of a variable among the nodes, or 0
abbrev pub variables_below : List Node → ℕ
variables_below [] = 0
variables_below (Var x ∷ ns) = max (x + 1) (variables_below ns)
variables_below (App f n ∷ ns) = variables_below ns

-- how many variables a clause has, which are numbered from 0
abbrev pub variable_count : Clause → ℕ
variable_count c = max (variables_below (flat c.left)) (variables_below (flat c.right))

-- how many variables the first conjecture has, or none where there is none
abbrev pub count_or : Clause → Option Place → ℕ → ℕ
count_or c (Some place) later = variable_count c
count_or c None later = later

abbrev pub constants_needed : List FlatClause → ℕ
constants_needed [] = 0
constants_needed (s ∷ ss) = count_or s.clause s.conjecture (constants_needed ss)

-- the terms of clauses, in order, the left side first
abbrev pub flat_terms : List FlatClause → List Tree
flat_terms [] = []
flat_terms (s ∷ ss) = s.clause.left ∷ s.clause.right ∷ flat_terms ss

-- sk_1, sk_2 and so on
abbrev pub constant_name : ℕ → List ℕ
constant_name n = codes "sk_" ++ decimal n

-- a functor of this name
abbrev pub is_named : Table → List ℕ → Node → Bool
is_named table name (Var x) = false
is_named table name (App f n) = bytes_eq (name_of table f) name

-- whether a functor of this name stands in a term
abbrev pub has_named : Table → List ℕ → Tree → Bool
has_named table name t = list_any (is_named table name) (flat t)

-- whether a symbol of the terms has this name, of whatever arity
abbrev pub is_taken : Table → List Tree → List ℕ → Bool
is_taken table ts name = list_any (has_named table name) ts

-- constants of the first names from sk_`from` on that no symbol of the terms has
pub data AreNamed (table : Table) (ts : List Tree) : ℕ → List Sym → Type 0 where
  no_constant : {from : ℕ} → AreNamed table ts from []
  a_constant : {from n : ℕ} {c : Sym} {cs : List Sym} → from ≤ n → ((k : ℕ) → from ≤ k → k < n → is_taken table ts (constant_name k) ≡ true) → is_taken table ts (constant_name n) ≡ false → IsSymbol table c (constant_name n) 0 → AreNamed table ts (n + 1) cs → AreNamed table ts from (c ∷ cs)

-- the conjecture's constants, one for each of its variables
pub record AreConstants (table : Table) (flats : List FlatClause) (constants : List Sym) : Type 0 where
  pub many : length constants ≡ constants_needed flats
  pub named : AreNamed table (flat_terms flats) 1 constants

-- the clause with these constants in the place of its variables
abbrev pub closed : List Sym → Clause → Clause
closed constants c = record { name = c.name; role = c.role; positive = c.positive; left = apply (constant_for constants) c.left; right = apply (constant_for constants) c.right; places = c.places; place = c.place }

abbrev pub closed_if : List Sym → Option Place → Clause → Clause
closed_if constants None c = c
closed_if constants (Some place) c = closed constants c

abbrev pub closed_one : List Sym → FlatClause → Sourced
closed_one constants s = record { file = s.file; clause = closed_if constants s.conjecture s.clause }

-- the clauses with these constants in the place of a conjecture's variables
abbrev pub closed_all : List Sym → List FlatClause → List Sourced
closed_all constants ss = map (closed_one constants) ss

-- These are a problem's clauses in flat order: at most one was a conjecture, which is the one of this number, and has fresh constants
-- in the place of its variables.
pub record AreClosed (table : Table) (flats : List FlatClause) (clauses : List Sourced) (conjecture : Option ℕ) : Type 0 where
  pub one : length (conjectures flats) ≤ 1
  pub constants : List Sym
  pub are : AreConstants table flats constants
  pub clauses_are : clauses ≡ closed_all constants flats
  pub conjecture_is : conjecture ≡ conjecture_from 0 flats
