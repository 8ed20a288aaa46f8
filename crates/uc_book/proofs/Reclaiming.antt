-- Tasks that are put back, or aren't out to a worker.
use Rattle.std.proofs.Common.{◌≡◌, ℕ, Some, None, refl, ap, sym, ◌∙◌}
use Rattle.std.specs.Prelude.{◌≢◌}
use Rattle.uc_machine.specs.State.{State, Out, out_at}
use Rattle.uc_machine.specs.Effects.{reclaims}
use Rattle.uc_book.specs.declared.answer.CommitFault.TheVariants.{NotOut}
use Rattle.uc_book.specs.Answers.{IsReclaimed, IsNotOutTo}

-- no task of the ticket is out
pub not_out : (s : State) (w n : ℕ) → out_at n s.out ≡ None → IsNotOutTo s w n (NotOut n)
not_out s w n e = (refl, λ t f. (let g : None ≡ Some t = sym e ∙ f in absurd (cc)))

-- it is out to another worker
pub not_his : (s : State) (w n : ℕ) (t : Out) → t.ticket ≡ n → out_at t.ticket s.out ≡ Some t → t.worker ≢ w → IsNotOutTo s w n (NotOut n)
not_his s w n t e f h = (refl, λ u g. (let same : Some t ≡ Some u = sym f ∙ ap (λ k. out_at k s.out) e ∙ g in let is : t ≡ u = cc in λ q. h (ap (λ (x : Out). x.worker) is ∙ q)))

pub reclaimed : (s u : State) (w n : ℕ) (t : Out) → t.ticket ≡ n → out_at t.ticket s.out ≡ Some t → t.worker ≡ w → u ≡ reclaims t s → IsReclaimed s w n u
reclaimed s u w n t e f h is = record { task = t; at = ap (λ k. out_at k s.out) (sym e) ∙ f; worker = h; is = is }
