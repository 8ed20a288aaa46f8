-- What is said of a book is said of it also where its state alone has changed.
use Rattle.std.proofs.Common.{◌≡◌, ℕ, List, Option, Result, Ok, Err, IfOk, sym, ap, ◌∙◌, subst}
use Rattle.uc_order.specs.Laws.{Meaning}
use Rattle.uc_machine.specs.declared.event.Verdict.{Verdict}
use Rattle.uc_machine.specs.declared.task.Job.{Job}
use Rattle.uc_machine.specs.declared.task.Job.TheVariants.{Goal, More, Meet, Join}
use Rattle.uc_machine.specs.State.{Opening, State, Out}
use Rattle.uc_machine.specs.Origins.{CanCompute}
use Rattle.uc_machine.specs.Draws.{Draws, Drew}
use Rattle.uc_machine.specs.declared.task.Missing.{Missing}
use Rattle.uc_machine.specs.Runs.{Audits, MayAudit}
use Rattle.uc_shelf.specs.declared.entry.Entry.{Entry}
use Rattle.uc_task.specs.Jobs.{CanBeDone}
use Rattle.uc_book.specs.declared.answer.Audited.{Audited}
use Rattle.uc_book.specs.Answers.{IsSameBook, audit_reply_of}
use Rattle.uc_book.specs.Openings.{Opened, BookView, PassView, opening_of}
use Rattle.uc_search.specs.declared.working.Turn.{Turn}
use Rattle.uc_search.specs.Working.{IsSamePass, EndsTask, is_committed, is_put_back, TurnsTo, takes_turn, lacks_result}
use Rattle.uc_search.specs.Searching.{EndsRound}
use Rattle.uc_search.specs.Bounds.{CountedRound}

pub same_book_on : {O : Type 0} (a b c : BookView O) → IsSameBook a b → IsSameBook b c → IsSameBook a c
same_book_on a b c x y = record { opening = y.opening ∙ x.opening; order = y.order ∙ x.order; enrolled = y.enrolled ∙ x.enrolled }

pub same_pass_on : (a b c : PassView) → IsSamePass a b → IsSamePass b c → IsSamePass a c
same_pass_on a b c x y = record { worker = y.worker ∙ x.worker; opening = y.opening ∙ x.opening }

pub book_state : {O : Type 0} (a b : BookView O) → b ≡ a → b.state ≡ a.state
book_state a b e = ap (λ (x : BookView _). x.state) e

-- what its job names is there
pub can_be_done : (m : Meaning) (o : Opening) (es : List Entry) (j : Job) → CanCompute m o es j → CanBeDone m o.axioms es j
can_be_done m o es (Goal g l r) c = tt
can_be_done m o es (More g l r) c = tt
can_be_done m o es (Meet i) c = c
can_be_done m o es (Join p a) c = c

-- an audit, as its book makes it
pub audits_as : (p q : Opened) (x : Missing) (s : State) (a b : Audited) (u : State) → p ≡ q → a ≡ b → Audits (opening_of p) x.fact s (audit_reply_of a) u → Audits (opening_of q) x.fact s (audit_reply_of b) u
audits_as p q x s a b u e is h = subst (λ (o : Opened). Audits (opening_of o) x.fact s (audit_reply_of b) u) e (subst (λ (y : Audited). Audits (opening_of p) x.fact s (audit_reply_of y) u) is h)

-- what holds anyway
pub if_ok : {X Y : Type 0} (r : Result X Y) (P : Type 0) → P → IfOk r (λ x. P)
if_ok (Ok x) P h = h
if_ok (Err y) P h = tt

module _ {O : Type 0} (meaning : O → Meaning) (a b : BookView O) (same : IsSameBook a b) where
  pub moved_turn : (v w : ℕ) (s : State) (t : Turn) (u : State) → v ≡ w → TurnsTo (meaning b.order) (opening_of b.opening) v s t u → TurnsTo (meaning a.order) (opening_of a.opening) w s t u
  moved_turn v w s t u e x =
      subst (λ n. TurnsTo (meaning a.order) (opening_of a.opening) n s t u) e
      (subst (λ (o : Opened). TurnsTo (meaning a.order) (opening_of o) v s t u) same.opening
      (subst (λ (p : O). TurnsTo (meaning p) (opening_of b.opening) v s t u) same.order x))

  pub moved_round : (v w : ℕ) (s : State) (r : Option Verdict) (u : State) (old new : ℕ) → v ≡ w → CountedRound (meaning b.order) (opening_of b.opening) v s r u old new → CountedRound (meaning a.order) (opening_of a.opening) w s r u old new
  moved_round v w s r u old new e x =
      subst (λ n. CountedRound (meaning a.order) (opening_of a.opening) n s r u old new) e
      (subst (λ (o : Opened). CountedRound (meaning a.order) (opening_of o) v s r u old new) same.opening
      (subst (λ (p : O). CountedRound (meaning p) (opening_of b.opening) v s r u old new) same.order x))

  pub moved_end : (s : State) (r : Option Verdict) (u : State) → EndsRound (meaning b.order) (opening_of b.opening) s r u → EndsRound (meaning a.order) (opening_of a.opening) s r u
  moved_end s r u x =
      subst (λ (o : Opened). EndsRound (meaning a.order) (opening_of o) s r u) same.opening
      (subst (λ (p : O). EndsRound (meaning p) (opening_of b.opening) s r u) same.order x)

  pub moved_may : (s : State) (x : Missing) → MayAudit (meaning a.order) (opening_of a.opening) s x → MayAudit (meaning b.order) (opening_of b.opening) s x
  moved_may s x h =
      subst (λ (p : O). MayAudit (meaning p) (opening_of b.opening) s x) (sym same.order)
      (subst (λ (o : Opened). MayAudit (meaning a.order) (opening_of o) s x) (sym same.opening) h)

  -- a task that is drawn and then ends, as its book draws it
  pub drawn_task : (w : ℕ) (s : State) (t : Out) (u : State) (turn : Turn) (v : State) → Draws (opening_of a.opening) w s (Drew t) u → EndsTask (meaning b.order) (opening_of b.opening) t u turn v → TurnsTo (meaning a.order) (opening_of a.opening) w s turn v
  drawn_task w s t u turn v d x = turned turn v (subst (λ (o : Opened). EndsTask (meaning a.order) (opening_of o) t u turn v) same.opening (subst (λ (p : O). EndsTask (meaning p) (opening_of b.opening) t u turn v) same.order x))
    where
      turned : (turn : Turn) (v : State) → EndsTask (meaning a.order) (opening_of a.opening) t u turn v → TurnsTo (meaning a.order) (opening_of a.opening) w s turn v
      turned _ v (is_committed c) = takes_turn (record { task = t; drawn = u; draws = d; commits = c })
      turned _ _ is_put_back = lacks_result {task = t} {drawn = u} d
