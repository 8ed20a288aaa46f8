-- What a draw answers is known after the lock is given back.
use Rattle.std.proofs.Common.{◌≡◌, ℕ, Option, Some, Result, IfOk, IfSome, subst}
use Rattle.std.proofs.lemmas.Result.{IfOk-weaker}
use Rattle.std.specs.declared.alloc.AllocError.{AllocError}
use Rattle.uc_order.specs.Laws.{Meaning}
use Rattle.uc_machine.specs.declared.event.Verdict.{Verdict}
use Rattle.uc_machine.specs.State.{Opening}
use Rattle.uc_machine.specs.Draws.{Draws}
use Rattle.uc_machine.specs.Runs.{Run}
use Rattle.uc_book.specs.Openings.{Opened, BookView, opening_of}
use Rattle.uc_book.specs.Answers.{reply_of}
use Rattle.uc_book.specs.declared.answer.Drawn.{Drawn}
use Rattle.uc_book.specs.declared.answer.Drawn.TheVariants.{Drained as DrawnDrained, Closed as DrawnClosed}
use Rattle.uc_search.specs.declared.working.Ended.TheVariants.{Drained, Closed}
use Rattle.uc_worker.specs.Works.{WasAnswered, EndsWork, was_drained, was_closed}

module _ {O : Type 0} (meaning : O → Meaning) where
  -- the draw over a book of these names
  pub answered : (order : Option O) (opening : Opened) (b n : BookView O) (w : ℕ) (r : Result Drawn AllocError) → b.opening ≡ opening → Some b.order ≡ order → Run (meaning b.order) (opening_of b.opening) b.state.history b.state → IfOk r (λ d. Draws (opening_of b.opening) w b.state (reply_of w d) n.state) → IfOk r (λ d. IfSome order (λ o. WasAnswered (meaning o) (opening_of opening) w (reply_of w d)))
  answered order opening b n w r e f run h = subst (λ x. IfOk r (λ d. IfSome x (λ o. WasAnswered (meaning o) (opening_of opening) w (reply_of w d)))) f (subst (λ x. IfOk r (λ d. WasAnswered (meaning b.order) (opening_of x) w (reply_of w d))) e (IfOk-weaker r (λ d. Draws (opening_of b.opening) w b.state (reply_of w d) n.state) (λ d. WasAnswered (meaning b.order) (opening_of b.opening) w (reply_of w d)) (λ d k. record { before = b.state; run = run; after = n.state; draws = k }) h))

module _ (m : Meaning) (o : Opening) (w : ℕ) where
  pub ends_drained : (d : Drawn) → d ≡ DrawnDrained → WasAnswered m o w (reply_of w d) → EndsWork m o w Drained
  ends_drained d e a = was_drained (subst (λ x. WasAnswered m o w (reply_of w x)) e a)

  pub ends_closed : (d : Drawn) (v : Verdict) → d ≡ DrawnClosed v → WasAnswered m o w (reply_of w d) → EndsWork m o w Closed
  ends_closed d v e a = was_closed {v = v} (subst (λ x. WasAnswered m o w (reply_of w x)) e a)
