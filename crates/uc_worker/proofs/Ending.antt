-- A verdict that stands after a run.
use Rattle.std.proofs.Common.{◌≡◌, ◌≢◌, [], Option, Some, None, refl, ap, ◌∙◌}
use Rattle.uc_order.specs.Laws.{Meaning}
use Rattle.uc_machine.specs.declared.event.Verdict.{Verdict}
use Rattle.uc_machine.specs.State.{Opening, State}
use Rattle.uc_machine.specs.Runs.{Run, Reaches}
use Rattle.uc_runs.proofs.Verdicting.{verdict_came}
use Rattle.uc_runs.proofs.Saturating.{saturated}
use Rattle.uc_worker.specs.Ends.{HasEnded}

-- where this verdict stands
pub ended_with : (m : Meaning) (o : Opening) (s : State) (v : Verdict) → s.verdict ≡ Some v → s.out ≡ [] → Reaches m o s → HasEnded m o s
ended_with m o s v e n r = record {
  run = record { reaches = r; history_is = refl };
  verdict = v;
  stands = e;
  none_out = n;
  came = verdict_came m o s r v e;
  saturated = λ q. saturated m o s r (e ∙ ap Some q);
}

ended_by : (m : Meaning) (o : Opening) (s : State) (v : Option Verdict) → s.verdict ≡ v → v ≢ None → s.out ≡ [] → Reaches m o s → HasEnded m o s
ended_by m o s None e d n r = absurd (d refl)
ended_by m o s (Some v) e d n r = ended_with m o s v e n r

pub ended : (m : Meaning) (o : Opening) (s : State) → s.verdict ≢ None → s.out ≡ [] → Run m o s.history s → HasEnded m o s
ended m o s d n r = ended_by m o s s.verdict refl d n r.reaches
