-- A draw: the first of its rules that holds gives the answer.
use Rattle.std.specs.Prelude.{◌≡◌, ◌≢◌, ℕ, ◌+◌, ◌<◌, ◌≤◌, [], true, false, Some, None, slice_get, length}
use Rattle.uc_term.specs.Tree.{Tree}
use Rattle.uc_queue.specs.declared.entry.Entry.{Entry as Place}
use Rattle.uc_machine.specs.declared.state.Meeting.{Meeting}
use Rattle.uc_machine.specs.declared.event.Verdict.{Verdict}
use Rattle.uc_machine.specs.declared.event.Verdict.TheVariants.{BudgetOut}
use Rattle.uc_machine.specs.declared.task.Job.{Job}
use Rattle.uc_machine.specs.declared.task.Job.TheVariants.{Goal, More, Meet, Join}
use Rattle.uc_machine.specs.Lists.{At}
use Rattle.uc_fact.specs.Chains.{end_of}
use Rattle.uc_machine.specs.State.{Opening, State, Target, Out, Pair, first_due, first_unmet, first_continued, peek, head_is_orphan, is_orphan}
use Rattle.uc_machine.specs.Effects.{hands_out, task_for, drops, closes}

-- what a draw answers
pub data Reply : Type 0 where
  Drew : Out → Reply
  Idle : ℕ → Reply
  Drained : Reply
  Closed : Verdict → Reply

-- a goal with its two present ends
abbrev pub with_ends : (ℕ → Tree → Tree → Job) → At Target → Job
with_ends kind g = kind g.number (end_of g.here.left) (end_of g.here.right)

-- no verdict stands and no goal is Due
pub record NoneDue (s : State) : Type 0 where
  pub open_ : s.verdict ≡ None
  pub none_due : first_due s ≡ None

-- and no fact is Unmet
pub record NoneUnmet (s : State) : Type 0 where
  pub none_due : NoneDue s
  pub none_unmet : first_unmet s ≡ None

-- and the queue's head is no orphan: rules 1 to 4 are gone through
pub record IsLate (s : State) : Type 0 where
  pub none_unmet : NoneUnmet s
  pub no_orphan : head_is_orphan s ≡ false

-- a goal is Continued or the queue isn't empty
pub data Waits (s : State) : Type 0 where
  goal_waits : (g : At Target) → first_continued s ≡ Some g → Waits s
  pair_waits : (p : Place) → peek s ≡ Some p → Waits s

pub record NothingWaits (s : State) : Type 0 where
  pub no_goal : first_continued s ≡ None
  pub no_pair : peek s ≡ None

-- a unit may be drawn
abbrev pub HasBudget : Opening → State → Type 0
HasBudget o s = s.counted + s.reserved < o.budget

abbrev pub IsSpent : Opening → State → Type 0
IsSpent o s = o.budget ≤ s.counted + s.reserved

-- What a draw by this worker answers, and the state that it leaves.
pub data Draws (o : Opening) (w : ℕ) : State → Reply → State → Type 0 where
  -- 1. A verdict stands: Closed.
  verdict_stands : {s : State} (v : Verdict) → s.verdict ≡ Some v → Draws o w s (Closed v) s
  -- 2. A goal is Due: the least, as a Goal.
  goal_is_due : {s : State} (g : At Target) → s.verdict ≡ None → first_due s ≡ Some g → Draws o w s (Drew (task_for w (with_ends Goal g) s)) (hands_out w (with_ends Goal g) s)
  -- 3. A fact is Unmet: the least, as a Meet.
  fact_is_unmet : {s : State} (i : At Meeting) → NoneDue s → first_unmet s ≡ Some i → Draws o w s (Drew (task_for w (Meet i.number) s)) (hands_out w (Meet i.number) s)
  -- 4. An orphan at the queue's head is drawn from it and becomes Orphan; then the draw goes on.
  orphan_is_dropped : {s u : State} {r : Reply} (p : Place) → NoneUnmet s → peek s ≡ Some p → is_orphan s p.number ≡ true → Draws o w (drops w p.number s) r u → Draws o w s r u
  -- 5. A goal is Continued or the queue isn't empty. Where the budget isn't spent, it is the least Continued goal as a More,
  goal_is_continued : {s : State} (g : At Target) → IsLate s → first_continued s ≡ Some g → HasBudget o s → Draws o w s (Drew (task_for w (with_ends More g) s)) (hands_out w (with_ends More g) s)
  -- or, where no goal is Continued, the queue's draw as a Join.
  pair_is_drawn : {s : State} (p : Place) (x : Pair) → IsLate s → first_continued s ≡ None → peek s ≡ Some p → slice_get s.pairs p.number ≡ Some x → HasBudget o s → Draws o w s (Drew (task_for w (Join p.number x.origin) s)) (hands_out w (Join p.number x.origin) s)
  -- Where the budget is spent and tasks are out, the answer is Idle with their number.
  budget_is_out : {s : State} → IsLate s → Waits s → IsSpent o s → s.out ≢ [] → Draws o w s (Idle (length s.out)) s
  -- Where it is spent and no task is out, the verdict is BudgetOut, and the answer is Closed.
  budget_is_spent : {s : State} → IsLate s → Waits s → IsSpent o s → s.out ≡ [] → Draws o w s (Closed (BudgetOut s.counted)) (closes w (BudgetOut s.counted) s)
  -- 6. Nothing waits: Idle with the number of tasks out, or Drained where none is.
  all_is_out : {s : State} → IsLate s → NothingWaits s → s.out ≢ [] → Draws o w s (Idle (length s.out)) s
  all_is_done : {s : State} → IsLate s → NothingWaits s → s.out ≡ [] → Draws o w s Drained s
