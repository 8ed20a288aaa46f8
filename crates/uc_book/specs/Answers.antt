-- What the calls of a book answer.
use Rattle.std.specs.Prelude.{◌≡◌, ◌≢◌, ⊤, ℕ, Option, Some, None, length}
use Rattle.uc_order.specs.Laws.{Meaning}
use Rattle.uc_shelf.specs.Fronts.{IsOf}
use Rattle.uc_machine.specs.declared.event.Verdict.{Verdict}
use Rattle.uc_machine.specs.declared.event.Verdict.TheVariants.{Saturated, LargeOverlap, LargeGoal}
use Rattle.uc_machine.specs.declared.task.Outcome.{Outcome}
use Rattle.uc_machine.specs.declared.task.Outcome.TheVariants.{Convergent, Missing as Lacks, Large, GoalUnsettled}
use Rattle.uc_book.specs.declared.token.Task.{Task}
use Rattle.uc_book.specs.declared.token.Done.{Done}
use Rattle.uc_book.specs.declared.answer.Drawn.{Drawn}
use Rattle.uc_book.specs.declared.answer.Drawn.TheVariants.{Task as DrawnTask, Idle as DrawnIdle, Drained as DrawnDrained, Closed as DrawnClosed}
use Rattle.uc_book.specs.declared.answer.Audited.{Audited}
use Rattle.uc_book.specs.declared.answer.Audited.TheVariants.{Kept as AuditKept, Closed as AuditClosed}
use Rattle.uc_book.specs.declared.answer.CommitFault.{CommitFault}
use Rattle.uc_book.specs.declared.answer.CommitFault.TheVariants.{NotOut, NoMemory}
use Rattle.uc_book.specs.declared.answer.Receipt.{Receipt}
use Rattle.uc_book.specs.Openings.{BookView, opening_of}
use Rattle.uc_machine.specs.State.{Opening, State, Out, out_at}
use Rattle.uc_machine.specs.Effects.{reclaims}
use Rattle.uc_machine.specs.Draws.{Reply, Drew, Idle, Drained, Closed}
use Rattle.uc_machine.specs.Commits.{IsOutTo, Commits, next_event}
use Rattle.uc_machine.specs.Results.{IsResult}
use Rattle.uc_machine.specs.Origins.{CanCompute}
use Rattle.uc_machine.specs.Runs.{AuditReply, KeptAs, ClosedBy}

-- the book is the same one: its state alone may have changed, with the front of its entries
pub record IsSameBook {O : Type 0} (old new : BookView O) : Type 0 where
  pub opening : new.opening ≡ old.opening
  pub order : new.order ≡ old.order
  pub enrolled : new.enrolled ≡ old.enrolled

-- DRAWS

-- what a draw by this worker answers, as the machine says it
abbrev pub reply_of : ℕ → Drawn → Reply
reply_of w (DrawnTask t) = Drew (record { ticket = t.ticket; worker = w; job = t.job; front = length t.front.entries })
reply_of w (DrawnIdle n) = Idle n
reply_of w DrawnDrained = Drained
reply_of w (DrawnClosed v) = Closed v

abbrev pub IfTask : Drawn → (Task → Type 0) → Type 0
IfTask (DrawnTask t) P = P t
IfTask (DrawnIdle n) P = ⊤
IfTask DrawnDrained P = ⊤
IfTask (DrawnClosed v) P = ⊤

-- the task has the book's opening and a copy of its front, and what its job names is there
pub record IsTaskOf {O : Type 0} (m : Meaning) (b : BookView O) (t : Task) : Type 0 where
  pub opening : t.opening ≡ b.opening
  pub front : t.front ≡ b.front
  pub of : IsOf b.opening.shelf t.front
  pub can : CanCompute m (opening_of b.opening) t.front.entries t.job

-- COMMITS

-- the result is right for its own job, over the entries that its own front names
abbrev pub IsRight : Meaning → Done → Type 0
IsRight m d = IsResult m d.opening.problem.axioms d.front.entries d.job d.found

-- its task is out to this worker, and its commit leads on to this state, with its event's number
pub record IsCommitted (o : Opening) (old : State) (w : ℕ) (d : Done) (receipt : Receipt) (new : State) : Type 0 where
  pub task : Out
  pub out : IsOutTo old w d.ticket d.job d.front.entries task
  pub commits : Commits o task d.found old new
  pub event : receipt.event ≡ next_event old

-- no task with this ticket, this job and this list of entries is out to this worker
abbrev pub IsNotOut : State → ℕ → Done → Type 0
IsNotOut s w d = (t : Out) → IsOutTo s w d.ticket d.job d.front.entries t → ⊥

-- why a result isn't taken: exactly where its task isn't out it is that; else want of memory
abbrev pub IsRefused : State → ℕ → Done → CommitFault → Type 0
IsRefused s w d (NotOut ticket) = (ticket ≡ d.ticket) × IsNotOut s w d
IsRefused s w d NoMemory = IsNotOut s w d → ⊥

-- RECLAIMS

-- the task of the ticket is out to this worker, and is put back
pub record IsReclaimed (old : State) (w ticket : ℕ) (new : State) : Type 0 where
  pub task : Out
  pub at : out_at ticket old.out ≡ Some task
  pub worker : task.worker ≡ w
  pub is : new ≡ reclaims task old

-- the ticket isn't out to this worker; a reclaim takes no memory
abbrev pub IsNotOutTo : State → ℕ → ℕ → CommitFault → Type 0
IsNotOutTo s w ticket (NotOut n) = (n ≡ ticket) × ((t : Out) → out_at ticket s.out ≡ Some t → t.worker ≢ w)
IsNotOutTo s w ticket NoMemory = ⊥

-- AUDITS AND CLOSES

abbrev pub audit_reply_of : Audited → AuditReply
audit_reply_of (AuditKept n) = KeptAs n
audit_reply_of (AuditClosed v) = ClosedBy v

-- the outcome isn't Missing
abbrev pub IsAnEnd : Outcome → Type 0
IsAnEnd (Convergent facts) = ⊤
IsAnEnd (Lacks all) = ⊥
IsAnEnd (Large o) = ⊤
IsAnEnd (GoalUnsettled g) = ⊤

-- the verdict by which a book is closed
abbrev pub verdict_by : Outcome → Option Verdict
verdict_by (Convergent facts) = Some Saturated
verdict_by (Lacks all) = None
verdict_by (Large o) = Some (LargeOverlap o)
verdict_by (GoalUnsettled g) = Some (LargeGoal g)
