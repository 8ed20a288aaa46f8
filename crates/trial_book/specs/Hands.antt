-- The workers of a trial.
use Rattle.std.specs.Prelude.{◌≡◌, IfSome}
use Rattle.uc_order.specs.Laws.{Meaning}
use Rattle.uc_book.specs.Openings.{Opened}
use Rattle.uc_search.specs.Working.{IsToCompute}
use Rattle.trial_book.specs.declared.hand.Hand.{Hand}

-- the worker is one of a book with this opening, and the task in its hand was drawn from it
pub record IsHandOf (m : Meaning) (o : Opened) (h : Hand) : Type 0 where
  pub pass : h.pass.opening ≡ o
  pub task : IfSome h.task (IsToCompute m o)
