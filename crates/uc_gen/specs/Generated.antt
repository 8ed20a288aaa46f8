-- The generated problem of so many constants: as many axioms, each of which says where the function takes a constant.
use Rattle.std.specs.Prelude.{ℕ, zero, suc, ◌≡◌, ◌+◌, ◌*◌, ◌%◌, true, false, List, [], ◌∷◌, ◌++◌, length, slice_get, unwrap_or, codes, decimal, Some, None}
use Rattle.uc_term.specs.declared.node.Sym.{Sym}
use Rattle.uc_term.specs.declared.signature.Signature.{Signature}
use Rattle.uc_term.specs.Tree.{app, none, more}
use Rattle.uc_term.specs.Table.{Table, IsSymbol}
use Rattle.uc_clause.specs.declared.token.Place.{Place}
use Rattle.uc_clause.specs.declared.clause.Role.TheVariants.{Axiom}
use Rattle.uc_clause.specs.declared.clause.Sourced.{Sourced}
use Rattle.uc_clause.specs.Interning.{with_symbol}
use Rattle.uc_problem.specs.declared.problem.Problem.{Problem}
use Rattle.uc_gen.specs.Sequence.{number_at}

-- NAMES

abbrev pub function_name : List ℕ
function_name = codes "f"

abbrev pub constant_name : ℕ → List ℕ
constant_name i = codes "c" ++ decimal i

abbrev pub clause_name : ℕ → List ℕ
clause_name k = codes "g" ++ decimal k

abbrev pub file_name : List ℕ
file_name = codes "gen"

-- THE TABLE OF SYMBOLS

-- a table with the first so many constants
abbrev pub with_constants : Table → ℕ → Table
with_constants table zero = table
with_constants table (suc k) = with_symbol (with_constants table k) (constant_name k) 0

-- with the function and then the constants
abbrev pub with_symbols : Table → ℕ → Table
with_symbols table n = with_constants (with_symbol table function_name 1) n

-- these are the first so many constants, in order
pub record AreConstants (table : Table) (n : ℕ) (constants : List Sym) : Type 0 where
  pub count : length constants ≡ n
  pub each : (i : ℕ) (c : Sym) → slice_get constants i ≡ Some c → IsSymbol table c (constant_name i) 0

-- THE CLAUSES

-- the constant of this number
abbrev pub constant_at : List Sym → ℕ → Sym
constant_at constants i = unwrap_or (slice_get constants i) (record { 0 = 0 })

-- the clause of a number stands at the beginning of the line of that number, from 0 on, and so do its terms
abbrev pub place_of : ℕ → Place
place_of k = record { line = k + 1; column = 1 }

-- the axiom of this number: the function takes c to d
abbrev pub axiom_of : Sym → ℕ → Sym → Sym → Sourced
axiom_of f k c d = record {
  file = file_name;
  clause = record {
    name = record { text = clause_name k; integer = false };
    role = Axiom;
    positive = true;
    left = app f (more (app c none) none);
    right = app d none;
    places = place_of k ∷ place_of k ∷ place_of k ∷ [];
    place = place_of k;
  };
}

-- The constants and the start of the sequence.
module _ (constants : List Sym) (start : ℕ) where
  -- the constant that a number of the sequence stands for: its remainder by the number of constants
  abbrev pub drawn_at : ℕ → Sym
  drawn_at k = constant_at constants (number_at start k % length constants)

  -- the first so many axioms on the function: each takes the next two numbers of the sequence
  abbrev pub first_axioms : Sym → ℕ → List Sourced
  first_axioms f zero = []
  first_axioms f (suc k) = first_axioms f k ++ axiom_of f k (drawn_at (2 * k)) (drawn_at (2 * k + 1)) ∷ []

-- 0 and the numbers after it, so many
abbrev pub first_numbers : ℕ → List ℕ
first_numbers zero = []
first_numbers (suc k) = first_numbers k ++ k ∷ []

-- THE PROBLEM

-- the function and then the constants in order; the first of them is the least
abbrev pub signature_of : Sym → List Sym → Signature
signature_of f constants = record { symbols = f ∷ constants; least = constant_at constants 0; least_is_fresh = false }

-- All its clauses are axioms, as many as there are constants. Constants that occur in no axiom belong to its signature too.
abbrev pub problem_of : Sym → List Sym → ℕ → Problem
problem_of f constants start = record {
  clauses = first_axioms constants start f (length constants);
  axioms = first_numbers (length constants);
  goals = [];
  signature = signature_of f constants;
  conjecture = None;
}

-- this is the generated problem of so many constants and of the sequence with this start, by symbols of the table
pub record IsGenerated (table : Table) (n start : ℕ) (problem : Problem) : Type 0 where
  pub f : Sym
  pub is_f : IsSymbol table f function_name 1
  pub constants : List Sym
  pub are_constants : AreConstants table n constants
  pub problem_is : problem ≡ problem_of f constants start
