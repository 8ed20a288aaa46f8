-- How a search ends, whatever the number of its workers.
use Rattle.std.specs.Prelude.{◌≡◌, ◌⊎◌, ℕ, [], Some, sum}
use Rattle.uc_order.specs.Laws.{Meaning}
use Rattle.uc_machine.specs.declared.event.Verdict.{Verdict}
use Rattle.uc_machine.specs.declared.event.Verdict.TheVariants.{Saturated}
use Rattle.uc_machine.specs.State.{Opening, State}
use Rattle.uc_machine.specs.Runs.{Run}
use Rattle.uc_runs.specs.Causes.{VerdictCame}
use Rattle.uc_runs.specs.Saturated.{IsSaturated}
use Rattle.uc_search.specs.Searching.{IsSearched}
use Rattle.uc_worker.specs.Commits.{commits_of, shares_of}
use Rattle.uc_worker.specs.Hands.{hands_of}

-- By this order, in a book with this opening: a run leads to the state, a verdict stands there, and no task is out. The verdict
-- came in a state of the run that has its cause, where it is one that a limit brings. Where it is Saturated, the final pass
-- answered Convergent with the facts that live.
pub record HasEnded (m : Meaning) (o : Opening) (s : State) : Type 0 where
  pub run : Run m o s.history s
  pub verdict : Verdict
  pub stands : s.verdict ≡ Some verdict
  pub none_out : s.out ≡ []
  pub came : VerdictCame m o s verdict
  pub saturated : verdict ≡ Saturated → IsSaturated m o s

-- By this order, over a book with this opening, a search by so many workers ended with this verdict in this state, in whatever order
-- they came to the book. The shares of all hands are the commits of its history. One worker makes the one search that worker 0
-- makes alone. Where there is one worker, or where no task was out when the verdict came, nothing comes after the verdict.
pub record IsSearchedBy (m : Meaning) (o : Opening) (workers : ℕ) (v : Verdict) (s : State) : Type 0 where
  pub ended : HasEnded m o s
  pub verdict : ended.verdict ≡ v
  pub shares : sum (shares_of (hands_of workers) s.history) ≡ commits_of s.history
  pub alone : workers ≡ 1 → IsSearched m o 0 v s
  pub last : (workers ≡ 1) ⊎ (ended.came.then_.out ≡ []) → ended.came.then_ ≡ s
