-- How one worker computes tasks, and how it works alone.
use Rattle.std.specs.Prelude.{◌≡◌, ℕ, ◌+◌, ◌-◌, ◌^◌, ◌<◌, length, min, take}
use Rattle.uc_order.specs.Laws.{Meaning}
use Rattle.uc_shelf.specs.Fronts.{IsOf}
use Rattle.uc_machine.specs.declared.event.Verdict.{Verdict}
use Rattle.uc_machine.specs.declared.task.Finding.{Finding}
use Rattle.uc_machine.specs.State.{Opening, State, Out}
use Rattle.uc_machine.specs.Events.{commits_by}
use Rattle.uc_machine.specs.Origins.{CanCompute}
use Rattle.uc_book.specs.Openings.{Opened, PassView, opening_of}
use Rattle.uc_book.specs.declared.token.Task.{Task}
use Rattle.uc_book.specs.declared.token.Done.{Done}
use Rattle.uc_machine.specs.Effects.{reclaims}
use Rattle.uc_machine.specs.Draws.{Reply, Drew, Drained as IsDrained, Closed as IsClosed, Draws}
use Rattle.uc_machine.specs.Commits.{Commits}
use Rattle.uc_machine.specs.Results.{IsResult}
use Rattle.uc_search.specs.declared.working.Turn.{Turn}
use Rattle.uc_search.specs.declared.working.Turn.TheVariants.{Worked, Ends}
use Rattle.uc_search.specs.declared.working.Ended.{Ended}
use Rattle.uc_search.specs.declared.working.Ended.TheVariants.{Drained, Closed, NoMemory}

-- the result has its task's ticket, job, front and opening
pub record IsDoneFor (t : Task) (d : Done) : Type 0 where
  pub ticket : d.ticket ≡ t.ticket
  pub job : d.job ≡ t.job
  pub front : d.front ≡ t.front
  pub opening : d.opening ≡ t.opening

-- the task has this opening, its front is of that shelf, and what its job names is there
pub record IsToCompute (m : Meaning) (o : Opened) (t : Task) : Type 0 where
  pub opening : t.opening ≡ o
  pub of : IsOf o.shelf t.front
  pub can : CanCompute m (opening_of o) t.front.entries t.job

-- the task, as it is out to this worker
abbrev pub task_out : ℕ → Task → Out
task_out w t = record { ticket = t.ticket; worker = w; job = t.job; front = length t.front.entries }

-- the pass counts the commits that the history has of its worker
abbrev pub CountsCommits : PassView → State → Type 0
CountsCommits pass s = pass.commits ≡ commits_by pass.worker s.history

-- it is the same pass: its count alone may have changed
pub record IsSamePass (old new : PassView) : Type 0 where
  pub worker : new.worker ≡ old.worker
  pub opening : new.opening ≡ old.opening

-- The pass counts the commits of its worker by which the history grew, up to the greatest u64. The history has fewer than 2^64 of
-- them, so a pass that had counted them all still has.
pub record Counts (old new : PassView) (before after : State) : Type 0 where
  pub more : ℕ
  pub made : commits_by old.worker after.history ≡ commits_by old.worker before.history + more
  pub counted : new.commits ≡ min (old.commits + more) (2 ^ 64 - 1)
  pub few : commits_by old.worker after.history < 2 ^ 64

-- By this order, in a book with this opening.
module _ (m : Meaning) (o : Opening) where
  -- The result of a task that is out, over the entries that its front names, is committed.
  pub record CommitsResult (task : Out) (old new : State) : Type 0 where
    pub finding : Finding
    pub is_result : IsResult m o.axioms (take task.front old.entries) task.job finding
    pub commits : Commits o task finding old new

  -- It is committed, or for want of memory the task is put back and the worker ends.
  pub data EndsTask (task : Out) (old : State) : Turn → State → Type 0 where
    is_committed : {new : State} → CommitsResult task old new → EndsTask task old Worked new
    is_put_back : EndsTask task old (Ends NoMemory) (reclaims task old)

-- By this order, in a book with this opening, the worker of this number.
module _ (m : Meaning) (o : Opening) (w : ℕ) where
  -- The worker draws a task, and commits its result.
  pub record TakesTurn (old new : State) : Type 0 where
    pub task : Out
    pub drawn : State
    pub draws : Draws o w old (Drew task) drawn
    pub commits : CommitsResult m o task drawn new

  -- It does so turn after turn.
  pub data Works : State → State → Type 0 where
    no_turn : {s : State} → Works s s
    one_more_turn : {s u v : State} → Works s u → TakesTurn u v → Works s v

  -- It works until a draw answers so.
  pub record WorksUntil (old : State) (reply : Reply) (new : State) : Type 0 where
    pub last : State
    pub works : Works old last
    pub draws : Draws o w last reply new

  -- It ends where the book is drained or has a verdict. Where memory is wanted it ends anywhere, and a task that is out then is
  -- put back.
  pub data EndsAlone (old : State) : Ended → State → Type 0 where
    drains : {new : State} → WorksUntil old IsDrained new → EndsAlone old Drained new
    finds_closed : {v : Verdict} {new : State} → WorksUntil old (IsClosed v) new → EndsAlone old Closed new
    lacks_memory : {new : State} → Works old new → EndsAlone old NoMemory new
    puts_back : {task : Out} {last drawn : State} → Works old last → Draws o w last (Drew task) drawn → EndsAlone old NoMemory (reclaims task drawn)

  -- What one turn comes to.
  pub data TurnsTo (old : State) : Turn → State → Type 0 where
    takes_turn : {new : State} → TakesTurn old new → TurnsTo old Worked new
    is_drained : {new : State} → Draws o w old IsDrained new → TurnsTo old (Ends Drained) new
    is_closed : {v : Verdict} {new : State} → Draws o w old (IsClosed v) new → TurnsTo old (Ends Closed) new
    lacks_draw : TurnsTo old (Ends NoMemory) old
    lacks_result : {task : Out} {drawn : State} → Draws o w old (Drew task) drawn → TurnsTo old (Ends NoMemory) (reclaims task drawn)
