-- When a problem is encoded, and by which symbols.
use Rattle.std.specs.Prelude.{ℕ, ◌≡◌, ◌+◌, ◌&&◌, ◌||◌, Bool, true, false, List, [], ◌∷◌, slice_get, codes, nat_lt, position, Option, Some, None, Result, Ok, Err, if◌then◌else◌}
use Rattle.std.specs.List.{list_any}
use Rattle.uc_term.specs.Tree.{nodes}
use Rattle.uc_term.specs.Table.{Table, Grows}
use Rattle.uc_term.specs.Signatures.{IsFreshFor}
use Rattle.uc_term.specs.Variables.{has_variable}
use Rattle.uc_term.specs.declared.fresh.Fresh.{Fresh}
use Rattle.uc_clause.specs.declared.clause.Sourced.{Sourced}
use Rattle.uc_problem.specs.declared.problem.Problem.{Problem}
use Rattle.uc_problem.specs.declared.fault.EncodeFault.{EncodeFault}
use Rattle.uc_problem.specs.declared.fault.EncodeFault.TheVariants.{GoalTooLarge, NoMemory}

-- a goal with a variable
abbrev pub is_open_goal : Sourced → Bool
is_open_goal s = if s.clause.positive then false else has_variable s.clause.left || has_variable s.clause.right

-- a goal with a variable whose two sides, put under one symbol, have more than 4,096 nodes
abbrev pub is_too_large : Sourced → Bool
is_too_large s = is_open_goal s && nat_lt 4095 (nodes s.clause.left + nodes s.clause.right)

-- whether there is a clause, and it is too large
abbrev pub large_or : Option Sourced → Bool
large_or None = false
large_or (Some s) = is_too_large s

-- the first of these numbers whose clause is too large
abbrev pub first_large : List Sourced → List ℕ → Option ℕ
first_large clauses [] = None
first_large clauses (n ∷ ns) = if large_or (slice_get clauses n) then Some n else first_large clauses ns

-- the encoding's symbols: eq of arity 2, and the constants true and false, or names made of these that no symbol of the problem
-- has
pub record AreMarks (table : Table) (problem : Problem) (marks : Fresh) : Type 0 where
  pub eq : IsFreshFor table (codes "eq") 2 problem.signature.symbols marks.eq
  pub yes : IsFreshFor table (codes "true") 0 problem.signature.symbols marks.yes
  pub no : IsFreshFor table (codes "false") 0 problem.signature.symbols marks.no

-- A problem is encoded where one of its goals has a variable, and then by these symbols; or it can't be since the goal clause
-- of this number is the first that is too large. Want of memory is free.
abbrev pub Marks : Table → Problem → Result (Option Fresh) EncodeFault → Type 0
Marks table problem (Ok None) = list_any is_open_goal problem.clauses ≡ false
Marks table problem (Ok (Some marks)) = (list_any is_open_goal problem.clauses ≡ true) × (list_any is_too_large problem.clauses ≡ false) × AreMarks table problem marks
Marks table problem (Err (GoalTooLarge number)) = position is_too_large problem.clauses ≡ Some number
Marks table problem (Err NoMemory) = Unit {0}

-- in this table and in each that it grows into
abbrev pub IsMarked : Table → Problem → Result (Option Fresh) EncodeFault → Type 0
IsMarked table problem answer = (T : Table) → Grows table T → Marks T problem answer
