-- Nothing comes where a verdict stands and no task is out.
use Rattle.std.proofs.Common.{◌≡◌, ℕ, List, [], ◌∷◌, Some, None, refl, ap, ◌∙◌}
use Rattle.uc_order.specs.Laws.{Meaning}
use Rattle.uc_fact.specs.declared.fact.Fact.{Fact}
use Rattle.uc_machine.specs.declared.event.Verdict.{Verdict}
use Rattle.uc_machine.specs.Draws.{Reply, Draws, verdict_stands, goal_is_due, fact_is_unmet, orphan_is_dropped, goal_is_continued, pair_is_drawn, budget_is_out, budget_is_spent, all_is_out, all_is_done}
use Rattle.uc_machine.specs.Effects.{reclaims}
use Rattle.uc_machine.specs.Lists.{each}
use Rattle.uc_machine.specs.Runs.{AuditReply, Audits, is_closed, is_spent, is_kept}
use Rattle.uc_machine.specs.State.{Opening, State, Out, out_at}
use Rattle.uc_runs.specs.Later.{Calls, draws_next, commits_result, reclaims_task, recalls_tasks, audits_missing, closes_drained, Later, no_call, one_more_call}

module _ (v : Verdict) where
  isnt_open : {A : Type 0} (s : State) → s.verdict ≡ Some v → s.verdict ≡ None → A
  isnt_open s e f = absurd cc

  draws_nothing : (o : Opening) (w : ℕ) (s : State) (r : Reply) (u : State) → s.verdict ≡ Some v → Draws o w s r u → u ≡ s
  draws_nothing o w s _ _ e (verdict_stands x f) = refl
  draws_nothing o w s _ _ e (goal_is_due g f a) = isnt_open s e f
  draws_nothing o w s _ _ e (fact_is_unmet i n f) = isnt_open s e n.open_
  draws_nothing o w s r u e (orphan_is_dropped p n f a d) = isnt_open s e n.none_due.open_
  draws_nothing o w s _ _ e (goal_is_continued g l f room) = isnt_open s e l.none_unmet.none_due.open_
  draws_nothing o w s _ _ e (pair_is_drawn p x l f a at room) = isnt_open s e l.none_unmet.none_due.open_
  draws_nothing o w s _ _ e (budget_is_out l a b c) = refl
  draws_nothing o w s _ _ e (budget_is_spent l a b c) = isnt_open s e l.none_unmet.none_due.open_
  draws_nothing o w s _ _ e (all_is_out l a b) = refl
  draws_nothing o w s _ _ e (all_is_done l a b) = refl

  audits_nothing : (o : Opening) (f : Fact) (s u : State) (r : AuditReply) → s.verdict ≡ Some v → Audits o f s r u → u ≡ s
  audits_nothing o f s _ _ e (is_closed x h) = refl
  audits_nothing o f s _ _ e (is_spent h c) = isnt_open s e h
  audits_nothing o f s _ _ e (is_kept h c) = isnt_open s e h

  none_at : {A : Type 0} (n : ℕ) (out : List Out) (t : Out) → out ≡ [] → out_at n out ≡ Some t → A
  none_at n [] t e at = absurd cc
  none_at n (u ∷ out) t e at = absurd cc

  recalls_nothing : (ts : List Out) (s : State) → ts ≡ [] → each reclaims ts s ≡ s
  recalls_nothing [] s e = refl
  recalls_nothing (t ∷ ts) s e = absurd cc

  module _ (m : Meaning) (o : Opening) where
    calls_nothing : (s u : State) → s.verdict ≡ Some v → s.out ≡ [] → Calls m o s u → u ≡ s
    calls_nothing s u e n (draws_next {r = r} w l d) = draws_nothing o w s r u e d
    calls_nothing s u e n (commits_result t at right c) = none_at t.ticket s.out t n at
    calls_nothing s _ e n (reclaims_task t at) = none_at t.ticket s.out t n at
    calls_nothing s _ e n recalls_tasks = recalls_nothing s.out s n
    calls_nothing s u e n (audits_missing {answer = r} x may a) = audits_nothing o x.fact s u r e a
    calls_nothing s u e n (closes_drained d f c) = isnt_open s e d.none_unmet.none_due.open_

    pub nothing_comes : (s u : State) → s.verdict ≡ Some v → s.out ≡ [] → Later m o s u → u ≡ s
    nothing_comes s _ e n no_call = refl
    nothing_comes s u e n (one_more_call {t = t} a c) =
        let h : t ≡ s = nothing_comes s t e n a in
        calls_nothing t u (ap (λ (z : State). z.verdict) h ∙ e) (ap (λ (z : State). z.out) h ∙ n) c ∙ h
