-- The problem that files hold, with its symbols in the table that loading it leaves.
use Rattle.std.specs.Prelude.{ℕ, List, [], Option}
use Rattle.uc_term.specs.Table.{Table}
use Rattle.uc_edge.specs.Files.{Files}
use Rattle.uc_problem.specs.declared.problem.Problem.{Problem}
use Rattle.uc_problem.specs.Holds.{Holds}
use Rattle.uc_problem.specs.Filling.{IsFilled}

-- The files hold this problem under this name, and loading it leaves this table of symbols. Among tables without an entry twice
-- there is one, and one such problem.
pub record IsLoaded (files : Files) (root : Option (List ℕ)) (name : List ℕ) (table : Table) (problem : Problem) : Type 0 where
  pub filled : IsFilled files root name [] table problem
  pub holds : Holds table files root name problem
