-- What happens between two states of a run.
use Rattle.std.specs.Prelude.{◌≡◌, ℕ, ◌<◌, ◌≤◌, ◌++◌, List, Some, length, take}
use Rattle.uc_order.specs.Laws.{Meaning}
use Rattle.uc_machine.specs.declared.event.Event.{Event}
use Rattle.uc_machine.specs.declared.event.Verdict.{Verdict}
use Rattle.uc_machine.specs.declared.task.Finding.{Finding}
use Rattle.uc_machine.specs.declared.task.Missing.{Missing}
use Rattle.uc_machine.specs.declared.task.Outcome.{Outcome}
use Rattle.uc_machine.specs.Commits.{Commits}
use Rattle.uc_machine.specs.Draws.{Reply, Draws}
use Rattle.uc_machine.specs.Effects.{reclaims, recalls}
use Rattle.uc_machine.specs.Finals.{IsFinal}
use Rattle.uc_machine.specs.Results.{IsResult}
use Rattle.uc_machine.specs.Runs.{Starts, AuditReply, Audits, Closes, IsDrained, MayAudit, Reaches}
use Rattle.uc_machine.specs.State.{Opening, State, Out, out_at}

-- more events stand behind the old ones
pub record Continues (old new : List Event) : Type 0 where
  pub more : List Event
  pub is : new ≡ old ++ more

-- By this order, in a book with this opening.
module _ (m : Meaning) (o : Opening) where
  -- one call leads from this state to that one
  pub data Calls (s : State) : State → Type 0 where
    draws_next : {u : State} {r : Reply} (w : ℕ) → w < 65 → Draws o w s r u → Calls s u
    commits_result : {u : State} {f : Finding} (t : Out) → out_at t.ticket s.out ≡ Some t → IsResult m o.axioms (take t.front s.entries) t.job f → Commits o t f s u → Calls s u
    reclaims_task : (t : Out) → out_at t.ticket s.out ≡ Some t → Calls s (reclaims t s)
    recalls_tasks : Calls s (recalls s)
    audits_missing : {u : State} {answer : AuditReply} (missing : Missing) → MayAudit m o s missing → Audits o missing.fact s answer u → Calls s u
    closes_drained : {u : State} {outcome : Outcome} {v : Verdict} → IsDrained s → IsFinal m o.axioms s outcome → Closes s outcome v u → Calls s u

  -- calls lead from this state to that one, if any are made
  pub data Later (s : State) : State → Type 0 where
    no_call : Later s s
    one_more_call : {t u : State} → Later s t → Calls t u → Later s u

  -- The event of this number, from 0, was recorded by one call, from a state that a run reaches, or by the start. The calls since
  -- then lead to this state.
  pub data IsRecorded (s : State) (k : ℕ) : Type 0 where
    at_start : {start : State} → Starts o start → k < length start.history → Later start s → IsRecorded s k
    by_call : {before after : State} → Reaches m o before → Calls before after → length before.history ≤ k → k < length after.history → Later after s → IsRecorded s k
