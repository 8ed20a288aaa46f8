-- When a proof of a problem, or its system, can be printed so that it is read back.
use Rattle.std.specs.Prelude.{ℕ, ◌≡◌, ◌≤◌, Bool, true, List, [], ◌∷◌, Option, Some, None}
use Rattle.std.specs.List.{list_all}
use Rattle.uc_term.specs.Table.{Table}
use Rattle.uc_term.specs.Tree.{nodes}
use Rattle.uc_term.specs.Variables.{variables}
use Rattle.uc_clause.specs.declared.clause.Clause.{Clause}
use Rattle.uc_clause.specs.declared.clause.Sourced.{Sourced}
use Rattle.uc_clause.specs.Bytes.{between}
use Rattle.uc_clause.specs.Names.{IsSpellable}
use Rattle.uc_clause.specs.Printable.{IsPrintableClause}
use Rattle.uc_tstp.specs.Printable.{IsProofName}
use Rattle.uc_certificate.specs.Printable.{AreFew}
use Rattle.uc_problem.specs.declared.problem.Problem.{Problem}

-- all bytes are visible ones or spaces
abbrev pub are_seen : List ℕ → Bool
are_seen = list_all (between 32 126)

-- a root, where one is given, has such bytes
abbrev pub IsRootSeen : Option (List ℕ) → Type 0
IsRootSeen None = Unit {0}
IsRootSeen (Some root) = are_seen root ≡ true

-- no side has more than 4,096 nodes, and join lines can name its variables
pub record IsSmallClause (c : Clause) : Type 0 where
  pub left : nodes c.left ≤ 4096
  pub right : nodes c.right ≤ 4096
  pub few_left : AreFew (variables c.left)
  pub few_right : AreFew (variables c.right)

module _ (table : Table) where
  -- a clause that can be printed, of terms that aren't too large, from a file whose name can be spelled
  abbrev pub IsPrintableSourced : Sourced → Type 0
  IsPrintableSourced s = IsSpellable s.file × IsPrintableClause table s.clause × IsSmallClause s.clause

  abbrev pub ArePrintableSourced : List Sourced → Type 0
  ArePrintableSourced [] = Unit {0}
  ArePrintableSourced (s ∷ ss) = IsPrintableSourced s × ArePrintableSourced ss

  -- the clauses of the problem are so, and its name can stand behind `for`
  pub record CanBePrinted (title : List ℕ) (problem : Problem) : Type 0 where
    pub name : IsProofName title
    pub clauses : ArePrintableSourced problem.clauses
