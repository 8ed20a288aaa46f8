-- The end of a round.
use Rattle.std.proofs.Common.{◌≡◌, ℕ, ◌<◌, ◌^◌, List, Option, Result, Ok, Err, IfOk, Some, sym, ◌∙◌, subst}
use Rattle.std.specs.Prelude.{OnOk, OnErr}
use Rattle.uc_order.specs.Laws.{Meaning}
use Rattle.uc_term.specs.declared.equation.Equation.{Equation}
use Rattle.uc_machine.specs.declared.event.Verdict.{Verdict}
use Rattle.uc_machine.specs.declared.task.Missing.{Missing}
use Rattle.uc_machine.specs.declared.task.Outcome.{Outcome}
use Rattle.uc_machine.specs.declared.task.Outcome.TheVariants.{Missing as Lacks}
use Rattle.uc_machine.specs.State.{Opening, State}
use Rattle.uc_machine.specs.Events.{commits_by}
use Rattle.uc_machine.specs.Draws.{Drained as IsDrainedReply, Closed as IsClosedReply}
use Rattle.uc_machine.specs.Finals.{IsFinal}
use Rattle.uc_machine.specs.Runs.{Closes, IsDrained}
use Rattle.uc_search.specs.declared.working.Ended.{Ended}
use Rattle.uc_search.specs.declared.working.Ended.TheVariants.{Drained, Closed}
use Rattle.uc_search.specs.Working.{WorksUntil, EndsAlone, drains, finds_closed}
use Rattle.uc_search.specs.Searching.{AuditsSome, EndsRound, is_closed_by, CutsRound, while_auditing, gets_verdict, gets_drained}
use Rattle.uc_search.specs.Bounds.{CountedRound, counted_on}
use Rattle.uc_search.proofs.Passes.{none_counted}
use Rattle.uc_search.proofs.Turns.{leaves}
use Rattle.uc_search.proofs.Counting.{close_commits}
use Rattle.uc_search.proofs.Rests.{close_out, close_verdict}

-- the answer of the final pass, by equal orders and axioms
pub final_moved : {O : Type 0} (meaning : O → Meaning) (p q : O) (es fs : List Equation) (s : State) (x y : Outcome) → p ≡ q → es ≡ fs → x ≡ y → IsFinal (meaning q) fs s x → IsFinal (meaning p) es s y
final_moved meaning p q es fs s x y e f is h =
    subst (IsFinal (meaning p) es s) is
    (subst (λ (a : List Equation). IsFinal (meaning p) a s x) (sym f)
    (subst (λ a. IsFinal (meaning a) fs s x) (sym e) h))

-- a book that is closed
pub record HasClosed (m : Meaning) (o : Opening) (s : State) (v : Verdict) (u : State) : Type 0 where
  pub ends : EndsRound m o s (Some v) u
  pub verdict : u.verdict ≡ Some v
  pub out : u.out ≡ s.out
  pub commits : (w : ℕ) → commits_by w u.history ≡ commits_by w s.history

pub has_closed : (m : Meaning) (o : Opening) (s : State) (outcome : Outcome) (v : Verdict) (u : State) → IsFinal m o.axioms s outcome → Closes s outcome v u → HasClosed m o s v u
has_closed m o s outcome v u f c = record {
  ends = is_closed_by f c;
  verdict = close_verdict s u outcome v c;
  out = close_out s u outcome v c;
  commits = close_commits s outcome v u c;
}

module _ (m : Meaning) (o : Opening) (w : ℕ) where
  drained_of : (s u : State) → EndsAlone m o w s Drained u → WorksUntil m o w s IsDrainedReply u
  drained_of s u (drains a) = a

  -- the worker found nothing to do
  pub drained_alone : (s : State) (why : Ended) (u : State) → why ≡ Drained → EndsAlone m o w s why u → WorksUntil m o w s IsDrainedReply u
  drained_alone s why u e a = drained_of s u (subst (λ x. EndsAlone m o w s x u) e a)

  pub is_drained_alone : (s : State) (why : Ended) (u : State) → why ≡ Drained → EndsAlone m o w s why u → IsDrained u
  is_drained_alone s why u e a = (let d = drained_alone s why u e a in leaves o w d.last IsDrainedReply u d.draws)

  closed_of : (s u : State) → EndsAlone m o w s Closed u → (v : Verdict) × WorksUntil m o w s (IsClosedReply v) u
  closed_of s u (finds_closed {v = v} a) = (v, a)

  -- the worker found a verdict, and no final pass is made
  pub closed_round : (s : State) (why : Ended) (u : State) (r : Option Verdict) (passes : ℕ) → why ≡ Closed → EndsAlone m o w s why u → r ≡ u.verdict → passes < 2 ^ 64 → CountedRound m o w s r u passes passes
  closed_round s why u r passes e a is few =
      let x = closed_of s u (subst (λ y. EndsAlone m o w s y u) e a) in
      let v : u.verdict ≡ Some x.0 = (leaves o w x.1.last (IsClosedReply x.0) u x.1.draws).verdict in
      subst (λ y. CountedRound m o w s y u passes passes) (sym (is ∙ v)) (record { round = gets_verdict x.1; passes = none_counted passes few })

  -- it found nothing to do, and one final pass is made
  pub drained_round : (s : State) (why : Ended) (d : State) (r : Option Verdict) (u : State) (old new : ℕ) → why ≡ Drained → EndsAlone m o w s why d → new ≡ counted_on old 1 → EndsRound m o d r u → CountedRound m o w s r u old new
  drained_round s why d r u old new e a n b = record { round = gets_drained (drained_alone s why d e a) b; passes = n }

-- what an answer is, and what holds where there is one
pub both_of : {T E : Type 0} (P : T → Type 0) (Q : Type 0) (r : Result T E) → IfOk r P → OnOk r Q → IfOk r (λ x. P x × Q)
both_of P Q (Ok x) p q = (p, q)
both_of P Q (Err e) p q = p

-- what was audited before memory was refused
pub cut_short : {T E : Type 0} (m : Meaning) (o : Opening) (xs : List Missing) (s u : State) (r : Result T E) → IsFinal m o.axioms s (Lacks xs) → OnErr r (AuditsSome o xs s u) → OnErr r (CutsRound m o s u)
cut_short m o xs s u (Ok x) f a = tt
cut_short m o xs s u (Err e) f a = while_auditing f a

-- what holds anyway, holds of a refusal
pub on_err : {T E X : Type 0} (r : Result T E) → X → OnErr r X
on_err (Ok x) h = tt
on_err (Err e) h = h
