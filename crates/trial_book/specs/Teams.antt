-- The workers of a run.
use Rattle.std.specs.Prelude.{◌≡◌}
use Rattle.uc_order.specs.Laws.{Meaning}
use Rattle.uc_book.specs.Openings.{Opened, BookView}
use Rattle.trial_book.specs.declared.runs.Team.{Team}
use Rattle.trial_book.specs.Hands.{IsHandOf}

-- each of the three is one of the book's
pub record IsTeamOf (m : Meaning) (o : Opened) (t : Team) : Type 0 where
  pub one : IsHandOf m o t.one
  pub other : IsHandOf m o t.other
  pub last : IsHandOf m o t.last

-- the book has the same opening and the same order
pub record IsSameOpening {O : Type 0} (old new : BookView O) : Type 0 where
  pub opening : new.opening ≡ old.opening
  pub order : new.order ≡ old.order
