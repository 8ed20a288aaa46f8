-- Why the work of one worker ends.
use Rattle.std.specs.Prelude.{ℕ}
use Rattle.uc_order.specs.Laws.{Meaning}
use Rattle.uc_machine.specs.declared.event.Verdict.{Verdict}
use Rattle.uc_machine.specs.State.{Opening, State}
use Rattle.uc_machine.specs.Draws.{Reply, Drained as IsDrained, Closed as IsClosed, Draws}
use Rattle.uc_machine.specs.Runs.{Run}
use Rattle.uc_search.specs.declared.working.Ended.{Ended}
use Rattle.uc_search.specs.declared.working.Ended.TheVariants.{Drained, Closed, NoMemory}

-- By this order, in a book with this opening, the worker of this number.
module _ (m : Meaning) (o : Opening) (w : ℕ) where
  -- In some state that a run leads to, a draw of the worker is answered so.
  pub record WasAnswered (reply : Reply) : Type 0 where
    pub before : State
    pub run : Run m o before.history before
    pub after : State
    pub draws : Draws o w before reply after

  -- Its work ends where a draw was answered Drained or Closed; or for want of memory.
  pub data EndsWork : Ended → Type 0 where
    was_drained : WasAnswered IsDrained → EndsWork Drained
    was_closed : {v : Verdict} → WasAnswered (IsClosed v) → EndsWork Closed
    lacks_memory : EndsWork NoMemory
