-- What a draw comes to where no task is out.
use Rattle.std.proofs.Common.{◌≡◌, ℕ, [], ◌∷◌, ◌++◌, sym, ap, ◌∙◌, subst}
use Rattle.uc_order.specs.Laws.{Meaning}
use Rattle.uc_machine.specs.declared.event.Verdict.{Verdict}
use Rattle.uc_machine.specs.State.{Opening, State}
use Rattle.uc_machine.specs.Draws.{Drew, Idle, Drained, Closed, Draws}
use Rattle.uc_book.specs.declared.token.Task.{Task}
use Rattle.uc_book.specs.declared.answer.Drawn.{Drawn}
use Rattle.uc_book.specs.declared.answer.Drawn.TheVariants.{Task as DrawnTask, Idle as DrawnIdle, Drained as DrawnDrained, Closed as DrawnClosed}
use Rattle.uc_book.specs.Openings.{BookView, PassView, opening_of}
use Rattle.uc_book.specs.Answers.{IsSameBook, reply_of}
use Rattle.uc_search.specs.declared.working.Turn.{Turn}
use Rattle.uc_search.specs.declared.working.Turn.TheVariants.{Ends}
use Rattle.uc_search.specs.declared.working.Ended.TheVariants.{Drained as EndsDrained, Closed as EndsClosed, NoMemory}
use Rattle.uc_search.specs.Working.{task_out, EndsTask, TurnsTo, is_drained, is_closed, lacks_draw}
use Rattle.uc_search.proofs.Turns.{leaves}
use Rattle.uc_search.proofs.Moved.{drawn_task}

drawn_as : (o : Opening) (w : ℕ) (s u : State) (a b : Drawn) → a ≡ b → Draws o w s (reply_of w a) u → Draws o w s (reply_of w b) u
drawn_as o w s u a b is d = subst (λ (x : Drawn). Draws o w s (reply_of w x) u) is d

module _ (o : Opening) (w : ℕ) (s u : State) (answer : Drawn) (e : s.out ≡ []) (d : Draws o w s (reply_of w answer) u) where
  draws_as : (b : Drawn) → answer ≡ b → Draws o w s (reply_of w b) u
  draws_as b is = drawn_as o w s u answer b is d

  -- the task that was drawn is out alone
  pub drawn_out : (t : Task) (q : PassView) → answer ≡ DrawnTask t → q.worker ≡ w → u.out ≡ task_out q.worker t ∷ []
  drawn_out t q is same =
      (leaves o w s (Drew (task_out w t)) u (draws_as (DrawnTask t) is)).out ∙ ap (λ ts. ts ++ task_out w t ∷ []) e ∙ ap (λ v. task_out v t ∷ []) (sym same)

  pub never_idle : {A : Type 0} (n : ℕ) → answer ≡ DrawnIdle n → A
  never_idle n is = absurd (leaves o w s (Idle n) u (draws_as (DrawnIdle n) is) e)

  pub drained_out : answer ≡ DrawnDrained → u.out ≡ []
  drained_out is = (leaves o w s Drained u (draws_as DrawnDrained is)).none_out

  pub closed_out : (v : Verdict) → answer ≡ DrawnClosed v → u.out ≡ []
  closed_out v is = (leaves o w s (Closed v) u (draws_as (DrawnClosed v) is)).out ∙ e

  pub turns_drained : (m : Meaning) → answer ≡ DrawnDrained → TurnsTo m o w s (Ends EndsDrained) u
  turns_drained m is = is_drained (draws_as DrawnDrained is)

  pub turns_closed : (m : Meaning) (v : Verdict) → answer ≡ DrawnClosed v → TurnsTo m o w s (Ends EndsClosed) u
  turns_closed m v is = is_closed (draws_as (DrawnClosed v) is)

-- the draw lacks memory
pub turns_nowhere : (m : Meaning) (o : Opening) (w : ℕ) (s u : State) → u ≡ s → TurnsTo m o w s (Ends NoMemory) u
turns_nowhere m o w s u e = subst (TurnsTo m o w s (Ends NoMemory)) (sym e) lacks_draw

-- the task that was drawn ends
pub turns_by_task : {O : Type 0} (meaning : O → Meaning) (a b : BookView O) → IsSameBook a b → (w : ℕ) (answer : Drawn) (t : Task) (q : PassView) → answer ≡ DrawnTask t → q.worker ≡ w → Draws (opening_of a.opening) w a.state (reply_of w answer) b.state → (turn : Turn) (v : State)
    → EndsTask (meaning b.order) (opening_of b.opening) (task_out q.worker t) b.state turn v → TurnsTo (meaning a.order) (opening_of a.opening) w a.state turn v
turns_by_task meaning a b same w answer t q is e d turn v x =
    drawn_task meaning a b same w a.state (task_out w t) b.state turn v (drawn_as (opening_of a.opening) w a.state b.state answer (DrawnTask t) is d)
    (subst (λ n. EndsTask (meaning b.order) (opening_of b.opening) (task_out n t) b.state turn v) e x)
