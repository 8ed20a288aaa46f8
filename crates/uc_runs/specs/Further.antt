-- Goals that are Continued: at the last commit of such a goal a further step was possible.
use Rattle.std.specs.Prelude.{◌≡◌, ℕ, ◌≤◌, ◌⊎◌, List, length, slice_get, Some, take}
use Rattle.uc_term.specs.Tree.{Tree}
use Rattle.uc_order.specs.Laws.{Meaning}
use Rattle.uc_fact.specs.Chains.{end_of}
use Rattle.uc_shelf.specs.declared.entry.Entry.{Entry}
use Rattle.uc_machine.specs.declared.event.Event.{Event}
use Rattle.uc_machine.specs.declared.state.Stage.TheVariants.{Continued}
use Rattle.uc_machine.specs.declared.task.Finding.{Finding}
use Rattle.uc_machine.specs.declared.task.Job.{Job}
use Rattle.uc_machine.specs.declared.task.Job.TheVariants.{Goal, More, Meet, Join}
use Rattle.uc_machine.specs.Commits.{Commits}
use Rattle.uc_machine.specs.Lists.{Each}
use Rattle.uc_machine.specs.Promises.{CanGoOnIn, WasDrawn}
use Rattle.uc_machine.specs.Results.{IsResult}
use Rattle.uc_machine.specs.Runs.{Reaches}
use Rattle.uc_machine.specs.State.{Opening, State, Target, Out, out_at}

-- the job is about this goal
abbrev pub IsAboutGoal : ℕ → Job → Type 0
IsAboutGoal g (Goal n l r) = n ≡ g
IsAboutGoal g (More n l r) = n ≡ g
IsAboutGoal g (Meet i) = ⊥
IsAboutGoal g (Join p o) = ⊥

-- By this order, in runs with this opening.
module _ (m : Meaning) (o : Opening) where
  -- the task was out in a run, and the commit of its result gave the goal these two ends
  pub record GaveEnds (task : Out) (g : ℕ) (l r : Tree) : Type 0 where
    pub before : State
    pub after : State
    pub finding : Finding
    pub reaches : Reaches m o before
    pub was_out : out_at task.ticket before.out ≡ Some task
    pub is_result : IsResult m o.axioms (take task.front before.entries) task.job finding
    pub commits : Commits o task finding before after
    pub target : Target
    pub at : slice_get after.goals g ≡ Some target
    pub left : end_of target.left ≡ l
    pub right : end_of target.right ≡ r

  -- The goal got these two ends by the commit of a task about it, which was drawn over its front, as the history says; from one
  -- of them an ordered step is possible by the facts that live in that front, which is a prefix of these entries.
  pub record GoesFurther (h : List Event) (es : List Entry) (g : ℕ) (l r : Tree) : Type 0 where
    pub task : Out
    pub about : IsAboutGoal g task.job
    pub drawn : WasDrawn h task
    pub gave : GaveEnds task g l r
    pub within : task.front ≤ length es
    pub further : CanGoOnIn m (take task.front es) l ⊎ CanGoOnIn m (take task.front es) r

  -- so it is of the ends of a More
  abbrev pub MoreGoesFurther : List Event → List Entry → Job → Type 0
  MoreGoesFurther h es (Goal g l r) = Unit {0}
  MoreGoesFurther h es (More g l r) = GoesFurther h es g l r
  MoreGoesFurther h es (Meet i) = Unit {0}
  MoreGoesFurther h es (Join p q) = Unit {0}

  -- so it is of the present ends of each goal that is Continued, and of the ends of each More that is out
  pub record ContinuedGoFurther (s : State) : Type 0 where
    pub continued : (g : ℕ) (x : Target) → slice_get s.goals g ≡ Some x → x.stage ≡ Continued → GoesFurther s.history s.entries g (end_of x.left) (end_of x.right)
    pub out : Each (λ (t : Out). MoreGoesFurther s.history s.entries t.job) s.out
