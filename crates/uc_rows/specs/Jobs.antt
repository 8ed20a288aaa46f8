-- The jobs about a goal that a search found.
use Rattle.std.specs.Prelude.{◌≡◌, ℕ, Option, Some}
use Rattle.uc_term.specs.Tree.{Tree}
use Rattle.uc_machine.specs.declared.task.Job.{Job}
use Rattle.uc_machine.specs.Lists.{At}
use Rattle.uc_machine.specs.State.{Target}
use Rattle.uc_machine.specs.Draws.{with_ends}

-- a job about the goal that was found, twice
pub record AreJobs (kind : ℕ → Tree → Tree → Job) (found : Option (At Target)) (jobs : Job × Job) : Type 0 where
  pub goal : At Target
  pub is : found ≡ Some goal
  pub one : jobs.0 ≡ with_ends kind goal
  pub other : jobs.1 ≡ with_ends kind goal
