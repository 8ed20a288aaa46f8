-- Why a run ends at a limit.
use Rattle.std.specs.Prelude.{ℕ, ⊤, ◌≡◌, ◌<◌, ◌≤◌, ◌+◌, [], length, take, Some, None}
use Rattle.uc_order.specs.Laws.{Meaning}
use Rattle.uc_fact.specs.declared.fact.Overlap.{Overlap}
use Rattle.uc_machine.specs.declared.event.Verdict.{Verdict}
use Rattle.uc_machine.specs.declared.event.Verdict.TheVariants.{BudgetOut, PairsOut, LargeOverlap, LargeGoal}
use Rattle.uc_machine.specs.declared.task.Finding.{Finding}
use Rattle.uc_machine.specs.declared.task.Job.TheVariants.{Meet}
use Rattle.uc_machine.specs.declared.task.Missing.{Missing}
use Rattle.uc_machine.specs.declared.task.Outcome.TheVariants.{Large, GoalUnsettled}
use Rattle.uc_machine.specs.Commits.{Commits}
use Rattle.uc_machine.specs.Draws.{Waits}
use Rattle.uc_machine.specs.Effects.{closes}
use Rattle.uc_machine.specs.Events.{units, ended_by}
use Rattle.uc_machine.specs.Finals.{IsFinal}
use Rattle.uc_machine.specs.Results.{IsResult}
use Rattle.uc_machine.specs.Runs.{Starts, IsDrained, MayAudit, Reaches}
use Rattle.uc_machine.specs.State.{Opening, State, Out, out_at, waiting}
use Rattle.uc_runs.specs.Later.{Later}

-- By this order, in a run with this opening whose verdict came in this state.
module _ (m : Meaning) (o : Opening) (s : State) where
  -- a pair or a goal that is Continued waits, or the first equation that is left to audit, for which no unit was left
  pub data WaitsStill : Type 0 where
    waits_in_book : Waits s → WaitsStill
    waits_for_audit : {before : State} (missing : Missing) → MayAudit m o before missing → before.verdict ≡ None → s ≡ closes 0 (BudgetOut before.counted) before → WaitsStill

  -- so many pairs would newly wait: those of the start, which are the axioms, or those of one commit of a meeting
  pub data WouldNewlyWait (v : Verdict) (more : ℕ) : Type 0 where
    at_start : more ≡ length o.axioms → Starts o s → WouldNewlyWait v more
    at_meeting : {before : State} {fact : ℕ} {finding : Finding} (task : Out) → task.job ≡ Meet fact → Reaches m o before → before.verdict ≡ None → out_at task.ticket before.out ≡ Some task
        → IsResult m o.axioms (take task.front before.entries) task.job finding → Commits o task finding before s → s.verdict ≡ Some v → WouldNewlyWait v more

  -- The cause of a verdict that a limit brings. Exactly as many units were counted as the budget has, each pair is in at most one
  -- of them, no task is out and something waits; or the pairs that wait and those that newly would are more than the limit; or
  -- all is joined that isn't too large, and this is the first overlap of live facts whose pair is too large; or none is too large,
  -- and this is the first goal from whose ends a step would be.
  pub data Causes : Verdict → Type 0 where
    budget_is_spent : {counted : ℕ} → counted ≡ o.budget → counted ≡ units s.history → ((p : ℕ) → ended_by p s.history ≤ 1) → s.out ≡ [] → WaitsStill → Causes (BudgetOut counted)
    pairs_are_too_many : {more : ℕ} → o.limit < waiting s + more → WouldNewlyWait (PairsOut (waiting s) more) more → Causes (PairsOut (waiting s) more)
    overlap_is_large : {x : Overlap} {drained : State} → Reaches m o drained → IsDrained drained → IsFinal m o.axioms drained (Large x) → s ≡ closes 0 (LargeOverlap x) drained → Causes (LargeOverlap x)
    goal_is_stuck : {g : ℕ} {drained : State} → Reaches m o drained → IsDrained drained → IsFinal m o.axioms drained (GoalUnsettled g) → s ≡ closes 0 (LargeGoal g) drained → Causes (LargeGoal g)

  -- so it is where the verdict is one that a limit brings
  abbrev pub CausesIfLimit : Verdict → Type 0
  CausesIfLimit (BudgetOut counted) = Causes (BudgetOut counted)
  CausesIfLimit (PairsOut waiting more) = Causes (PairsOut waiting more)
  CausesIfLimit (LargeOverlap x) = Causes (LargeOverlap x)
  CausesIfLimit (LargeGoal g) = Causes (LargeGoal g)
  CausesIfLimit other = ⊤

-- The verdict came in a state that the run reaches, with its cause there; the calls since then lead to this state.
pub record VerdictCame (m : Meaning) (o : Opening) (s : State) (v : Verdict) : Type 0 where
  pub then_ : State
  pub reaches : Reaches m o then_
  pub verdict : then_.verdict ≡ Some v
  pub cause : CausesIfLimit m o then_ v
  pub later : Later m o then_ s
