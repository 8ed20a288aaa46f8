-- What a book starts with, and what a worker alone leaves.
use Rattle.std.proofs.Common.{◌≡◌, ℕ, [], Option, Some, None, refl}
use Rattle.uc_order.specs.Laws.{Meaning}
use Rattle.uc_machine.specs.State.{Opening, State}
use Rattle.uc_machine.specs.declared.event.Verdict.{Verdict}
use Rattle.uc_machine.specs.Draws.{Drained as IsDrawnDrained, Closed as IsDrawnClosed}
use Rattle.uc_machine.specs.Runs.{Starts, axioms_wait, too_many_axioms, IsDrained}
use Rattle.uc_search.specs.declared.working.Ended.TheVariants.{Drained, Closed}
use Rattle.uc_search.specs.Working.{EndsAlone, drains, finds_closed}
use Rattle.uc_search.proofs.Turns.{leaves}
use Rattle.uc_worker.specs.Commits.{commits_of}

pub starts_none_out : (o : Opening) (s : State) → Starts o s → s.out ≡ []
starts_none_out o _ (axioms_wait l) = refl
starts_none_out o _ (too_many_axioms l) = refl

pub starts_no_commits : (o : Opening) (s : State) → Starts o s → commits_of s.history ≡ 0
starts_no_commits o _ (axioms_wait l) = refl
starts_no_commits o _ (too_many_axioms l) = refl

pub drained_alone : (m : Meaning) (o : Opening) (w : ℕ) (s u : State) → EndsAlone m o w s Drained u → IsDrained u
drained_alone m o w s u (drains a) = leaves o w a.last IsDrawnDrained u a.draws

-- a verdict stands where it found the book closed, so it isn't told that none does
pub closed_alone : {A : Type 0} (m : Meaning) (o : Opening) (w : ℕ) (s u : State) (told : Option Verdict) → EndsAlone m o w s Closed u → told ≡ u.verdict → told ≡ None → A
closed_alone m o w s u told (finds_closed {v = v} a) e none = no_verdict v told u.verdict (leaves o w a.last (IsDrawnClosed v) u a.draws).verdict e none
  where
    no_verdict : {A : Type 0} (v : Verdict) (x y : Option Verdict) → y ≡ Some v → x ≡ y → x ≡ None → A
    no_verdict v x y a b c = absurd (cc)
