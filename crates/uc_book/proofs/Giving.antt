-- Tasks that are given: what the parts need for it, and that it is a draw.
use Rattle.std.proofs.Common.{◌≡◌, ℕ, ◌+◌, ◌<◌, ◌≤◌, ◌^◌, List, length, Option, Some, None, refl, ap, sym, ◌∙◌, arith, subst}
use Rattle.std.specs.Prelude.{Vec, vec_len, vec_capacity}
use Rattle.std.specs.declared.alloc.Global.{Global}
use Rattle.boxcar.specs.Table.{Shelves}
use Rattle.uc_term.specs.Tree.{Tree}
use Rattle.uc_shelf.specs.Sights.{Sight}
use Rattle.uc_shelf.specs.declared.entry.Entry.{Entry}
use Rattle.uc_machine.specs.declared.task.Job.{Job}
use Rattle.uc_machine.specs.declared.task.Job.TheVariants.{Goal, More, Meet}
use Rattle.uc_machine.specs.declared.state.Meeting.{Meeting}
use Rattle.uc_machine.specs.Lists.{At, first, map_option}
use Rattle.uc_machine.specs.State.{Opening, State, Target, first_due, first_unmet, first_continued, is_continued, queue}
use Rattle.uc_machine.specs.Effects.{hands_out, next_ticket}
use Rattle.uc_machine.specs.Draws.{Drew, Draws, NoneDue, NoneUnmet, HasBudget}
use Rattle.uc_book.specs.declared.answer.Drawn.TheVariants.{Task as DrawnTask}
use Rattle.uc_book.specs.declared.parts.Parts.{Parts}
use Rattle.uc_rows.specs.declared.tasks.TaskRow.{TaskRow}
use Rattle.uc_book.specs.declared.token.Task.{Task}
use Rattle.uc_book.specs.Openings.{Opened}
use Rattle.uc_machine.specs.declared.state.Numbers.{Numbers}
use Rattle.uc_rows.specs.Bounds.{AreSmall}
use Rattle.uc_book.specs.Answers.{reply_of}
use Rattle.uc_book.specs.Parts.{state_of, closings, Fit, IsAtHead, IsSteady}
use Rattle.uc_book.specs.Drawing.{HasRoomToGive, CanGive}
use Rattle.uc_book.specs.Dropping.{SameOthers}
use Rattle.uc_rows.specs.Jobs.{AreJobs}
use Rattle.uc_book.proofs.Fitting.{joins}
use Rattle.uc_book.proofs.Steady.{closings_few, others_fit}
use Rattle.uc_book.proofs.Rules.{Gives, due_drawn, unmet_drawn}

-- a task with this ticket, job and front is the answer of a draw
pub given : (o : Opening) (w : ℕ) (s p : State) (t : Task) (n : ℕ) (j : Job) (front : Sight) (of : Opened) (u : State) → t ≡ record { ticket = n; job = j; front = front; opening = of } → front.entries ≡ p.entries → p ≡ s → Gives o w p n j u → Draws o w s (reply_of w (DrawnTask t)) u
given o w s p t n j front of u e a b g =
    subst (λ (x : State). Draws o w x (reply_of w (DrawnTask t)) u) b
    (subst (λ (y : Task). Draws o w p (reply_of w (DrawnTask y)) u) (sym e)
    (subst (λ (es : List Entry). Draws o w p (Drew (record { ticket = n; worker = w; job = j; front = length es })) u) (sym a) g))

-- a job about a goal isn't at the queue
pub goal_at_head : (p : Parts) (found : Option (At Target)) (jobs : Job × Job) → AreJobs Goal found jobs → IsAtHead p jobs.0
goal_at_head p found jobs a = subst (IsAtHead p) (sym a.one) tt

pub more_at_head : (p : Parts) (found : Option (At Target)) (jobs : Job × Job) → AreJobs More found jobs → IsAtHead p jobs.0
more_at_head p found jobs a = subst (IsAtHead p) (sym a.one) tt

pub same_jobs : (kind : ℕ → Tree → Tree → Job) (found : Option (At Target)) (jobs : Job × Job) → AreJobs kind found jobs → jobs.1 ≡ jobs.0
same_jobs kind found jobs a = a.other ∙ sym a.one

-- a unit may be drawn after orphans were dropped, and the goal to go on with is the same
pub budget_after : (o : Opening) (p q : Parts) → SameOthers p q → HasBudget o (state_of p) → HasBudget o (state_of q)
budget_after o p q s l =
    let c : q.counted ≡ p.counted = s.counted in
    let r : q.reserved ≡ p.reserved = s.reserved in
    let k : p.counted + p.reserved < o.budget = l in
    omega arith

pub more_after : (p q : Parts) (jobs : Job × Job) → SameOthers p q → AreJobs More (first_continued (state_of p)) jobs → AreJobs More (first_continued (state_of q)) jobs
more_after p q jobs s a = subst (λ (gs : List Target). AreJobs More (first (λ (g : Target). is_continued g.stage) gs) jobs) (sym s.goals) a

-- a task may be given after orphans were dropped
pub dropped_give : (shelf : Shelves) (o : Opening) (p q : Parts) → CanGive shelf o p → HasRoomToGive q → SameOthers p q → p.pairs.spare ≤ q.pairs.spare → next_ticket (state_of q) ≡ next_ticket (state_of p) → CanGive shelf o q
dropped_give shelf o p q can h s spare ticket =
    let l : length q.tasks.items ≡ length p.tasks.items = ap (λ (ts : Vec TaskRow Global). length ts.items) s.tasks in
    let j : joins q.tasks.items ≡ joins p.tasks.items = ap (λ (ts : Vec TaskRow Global). joins ts.items) s.tasks in
    let v : closings q.verdict ≤ 1 = closings_few q.verdict in
    let w : p.counted + p.reserved ≤ o.budget = can.sound.within in
    let c : q.counted ≡ p.counted = s.counted in
    let r : q.reserved ≡ p.reserved = s.reserved in
    let n : q.next ≡ p.next = s.next in
    let m : p.next < 2 ^ 63 = can.sound.next in
    let i : joins p.tasks.items ≤ p.pairs.spare = can.room.waiting in
    let few : length q.tasks.items + 2 < 2 ^ 32 = h.few in
    let room : vec_len q.tasks < vec_capacity q.tasks = h.tasks in
    let events : vec_len q.history + (length q.tasks.items + 3) ≤ vec_capacity q.history = h.events in
    record {
      sound = record { small = subst (λ (ns : Vec Numbers Global). AreSmall ns.items) (sym s.numbers) can.sound.small; within = omega arith; budget = can.sound.budget; next = omega arith };
      fit = others_fit shelf p q s ticket can.fit;
      room = record { events = omega arith; waiting = omega arith };
      few = omega arith;
      room_tasks = omega arith;
      room_events = omega arith;
    }

none_found : {A : Type 0} (o : Option (At A)) → None ≡ map_option (λ (f : At A). f.number) o → o ≡ None
none_found None e = refl
none_found (Some f) e = absurd (cc)

-- no goal is Due and no fact is Unmet, as the searches find it
pub found_none : (s : State) → s.verdict ≡ None → first_due s ≡ None → None ≡ map_option (λ (f : At Meeting). f.number) (first_unmet s) → NoneUnmet s
found_none s open_ due unmet = record { none_due = record { open_ = open_; none_due = due }; none_unmet = none_found (first_unmet s) unmet }

module _ (shelf : Shelves) (o : Opening) (w : ℕ) (p q r : Parts) (t : Task) (of : Opened) (s : IsSteady p q) (f : Fit shelf p) where
  given_by : (j : Job) → t ≡ record { ticket = q.next; job = j; front = q.facts.front; opening = of } → Gives o w (state_of p) q.next j (state_of r) → Draws o w (state_of p) (reply_of w (DrawnTask t)) (state_of r)
  given_by j e g = given o w (state_of p) (state_of p) t q.next j q.facts.front of (state_of r) e (ap (λ (x : Sight). x.entries) s.front) refl g

  pub due_given : (jobs : Job × Job) → p.verdict ≡ None → AreJobs Goal (first_due (state_of q)) jobs → t ≡ record { ticket = q.next; job = jobs.0; front = q.facts.front; opening = of } → state_of r ≡ hands_out w jobs.0 (state_of q) → Draws o w (state_of p) (reply_of w (DrawnTask t)) (state_of r)
  due_given jobs open_ a e h = given_by jobs.0 e (due_drawn o w (state_of p) q.next jobs (state_of r) open_ (subst (λ (x : State). AreJobs Goal (first_due x) jobs) s.state a) (s.next ∙ f.next) (h ∙ ap (λ (x : State). hands_out w jobs.0 x) s.state))

  pub unmet_given : (i : ℕ) → NoneDue (state_of q) → Some i ≡ map_option (λ (x : At Meeting). x.number) (first_unmet (state_of q)) → t ≡ record { ticket = q.next; job = Meet i; front = q.facts.front; opening = of } → state_of r ≡ hands_out w (Meet i) (state_of q) → Draws o w (state_of p) (reply_of w (DrawnTask t)) (state_of r)
  unmet_given i due a e h = given_by (Meet i) e (unmet_drawn o w (state_of p) q.next i (state_of r) (subst NoneDue s.state due) (subst (λ (x : State). Some i ≡ map_option (λ (y : At Meeting). y.number) (first_unmet x)) s.state a) (s.next ∙ f.next) (h ∙ ap (λ (x : State). hands_out w (Meet i) x) s.state))
