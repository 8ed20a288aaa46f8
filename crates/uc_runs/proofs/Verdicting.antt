-- The verdict of a run came in one of its states, with its cause there.
use Rattle.std.proofs.Common.{◌≡◌, ℕ, ◌+◌, ◌<◌, ◌≤◌, List, [], ◌∷◌, length, count_by, Some, None, refl, sym, ap, ◌∙◌, arith, subst, take}
use Rattle.uc_order.specs.Laws.{Meaning}
use Rattle.uc_fact.specs.declared.chain.Chain.{Chain}
use Rattle.uc_fact.specs.declared.fact.Fact.{Fact}
use Rattle.uc_fact.specs.declared.fact.Stop.{Stop}
use Rattle.uc_machine.specs.declared.event.Verdict.{Verdict}
use Rattle.uc_machine.specs.declared.event.Verdict.TheVariants.{Proved, BudgetOut, PairsOut}
use Rattle.uc_machine.specs.declared.event.GoalEnd.{GoalEnd}
use Rattle.uc_machine.specs.declared.event.Happening.{Happening}
use Rattle.uc_machine.specs.declared.event.Happening.TheVariants.{CommitGoal, CommitMore}
use Rattle.uc_machine.specs.declared.task.Finding.{Finding}
use Rattle.uc_machine.specs.declared.task.Job.TheVariants.{Meet}
use Rattle.uc_machine.specs.declared.task.Missing.{Missing}
use Rattle.uc_machine.specs.declared.task.Outcome.{Outcome}
use Rattle.uc_machine.specs.Lists.{each}
use Rattle.uc_machine.specs.State.{Opening, State, Out, out_at, waiting, is_unit}
use Rattle.uc_machine.specs.Effects.{closes, drops, kills, visits, reclaims, recalls}
use Rattle.uc_machine.specs.Draws.{Reply, Draws, verdict_stands, goal_is_due, fact_is_unmet, orphan_is_dropped, goal_is_continued, pair_is_drawn, budget_is_out, budget_is_spent, all_is_out, all_is_done, Waits, goal_waits, pair_waits}
use Rattle.uc_machine.specs.Commits.{GoalEnds, ends_meet, ends_differ, Meets, within_limit, past_limit, newly_waiting, stays, Commits, is_late, goal_ends, more_ends, pair_joins, fact_is_kept, fact_is_stale, fact_is_dead, fact_meets}
use Rattle.uc_machine.specs.Finals.{IsFinal}
use Rattle.uc_machine.specs.Promises.{CountsUnits}
use Rattle.uc_machine.specs.Results.{IsResult}
use Rattle.uc_machine.specs.Runs.{Reaches, starts, draws_on, commits_on, reclaims_on, recalls_on, audits_on, closes_on, Starts, axioms_wait, too_many_axioms, opened, AuditReply, Audits, is_closed, is_spent, is_kept, Closes, converges, has_large, has_stuck, IsDrained, MayAudit}
use Rattle.uc_machine.proofs.Audited.{was_missing}
use Rattle.uc_machine.proofs.Calls.{audits_out}
use Rattle.uc_machine.proofs.Promises.{counts_units, ends_pairs_once}
use Rattle.uc_machine.proofs.Runs.{kept_reaches}
use Rattle.uc_runs.specs.Causes.{waits_in_book, waits_for_audit, at_start, at_meeting, budget_is_spent as is_spent_all, pairs_are_too_many, overlap_is_large, goal_is_stuck, CausesIfLimit, VerdictCame}
use Rattle.uc_runs.specs.Later.{Calls, draws_next, commits_result, reclaims_task, recalls_tasks, audits_missing, Later, no_call, one_more_call}
use Rattle.uc_runs.proofs.Verdicts.{kills_verdict, each_verdict, restored_verdict, recalled_verdict}

two_verdicts : {A : Type 0} (s : State) (v : Verdict) → s.verdict ≡ None → s.verdict ≡ Some v → A
two_verdicts s v e f = absurd (cc)

-- all is counted where no task is out
all_counted : (o : Opening) (s : State) → CountsUnits o s → s.out ≡ [] → o.budget ≤ s.counted + s.reserved → s.counted ≡ o.budget
all_counted o s k e l =
    let r : s.reserved ≡ 0 = k.reserved ∙ ap (λ ts. count_by (λ (t : Out). is_unit t.job) ts) e in
    let w : s.counted + s.reserved ≤ o.budget = k.within in
    omega arith

-- what waits, waits still where the book is closed
waits_closed : (s : State) (w : ℕ) (v : Verdict) → Waits s → Waits (closes w v s)
waits_closed s w v (goal_waits g e) = goal_waits g e
waits_closed s w v (pair_waits p e) = pair_waits p e

module _ (m : Meaning) (o : Opening) where
  -- the verdict that stands, if one does, has its cause in this state
  abbrev Caused : State → Type 0
  Caused u = (v : Verdict) → u.verdict ≡ Some v → CausesIfLimit m o u v

  open_caused : (u : State) → u.verdict ≡ None → Caused u
  open_caused u e v f = two_verdicts u v e f

  caused_by : (u : State) (v : Verdict) → u.verdict ≡ Some v → CausesIfLimit m o u v → Caused u
  caused_by u v e h w f = let q : v ≡ w = cc in subst (CausesIfLimit m o u) q h

  -- the verdict stood before, or no verdict stood and what stands now has its cause
  data Brings (s u : State) : Type 0 where
    stood : ((v : Verdict) → u.verdict ≡ Some v → s.verdict ≡ Some v) → Brings s u
    comes : Caused u → Brings s u

  start_caused : (s : State) → Starts o s → Caused s
  start_caused _ (axioms_wait l) = open_caused _ refl
  start_caused _ (too_many_axioms l) =
      let s : State = closes 0 (PairsOut 0 (length o.axioms)) (opened o []) in
      caused_by s (PairsOut 0 (length o.axioms)) refl (pairs_are_too_many {more = length o.axioms} (let x : o.limit < length o.axioms = l in omega arith) (at_start refl (too_many_axioms l)))

  -- draws

  spent_caused : (w : ℕ) (s : State) → Reaches m o (closes w (BudgetOut s.counted) s) → s.out ≡ [] → Waits s → o.budget ≤ s.counted + s.reserved → Caused (closes w (BudgetOut s.counted) s)
  spent_caused w s r none a l =
      let u : State = closes w (BudgetOut s.counted) s in
      let kept = kept_reaches m o u r in
      let k = counts_units o u kept in
      caused_by u (BudgetOut s.counted) refl (is_spent_all (all_counted o u k none l) k.counted (ends_pairs_once o u kept) none (waits_in_book (waits_closed s w (BudgetOut s.counted) a)))

  draw_brings : (w : ℕ) (s : State) (r : Reply) (u : State) → Reaches m o u → Draws o w s r u → Brings s u
  draw_brings w s _ _ k (verdict_stands v e) = stood (λ x h. h)
  draw_brings w s _ _ k (goal_is_due g e f) = stood (λ x h. h)
  draw_brings w s _ _ k (fact_is_unmet i n f) = stood (λ x h. h)
  draw_brings w s r u k (orphan_is_dropped p n e f d) = elim (draw_brings w (drops w p.number s) r u k d) [ stood h ↦ stood h | comes c ↦ comes c ]
  draw_brings w s _ _ k (goal_is_continued g l f room) = stood (λ x h. h)
  draw_brings w s _ _ k (pair_is_drawn p x l f e at room) = stood (λ y h. h)
  draw_brings w s _ _ k (budget_is_out l a b c) = stood (λ x h. h)
  draw_brings w s _ _ k (budget_is_spent l a b c) = comes (spent_caused w s k c a b)
  draw_brings w s _ _ k (all_is_out l a b) = stood (λ x h. h)
  draw_brings w s _ _ k (all_is_done l a b) = stood (λ x h. h)

  -- commits

  -- a run leads to the state, where the task is out with this result and no verdict stands
  record IsOutIn (t : Out) (f : Finding) (s : State) : Type 0 where
    reaches : Reaches m o s
    at : out_at t.ticket s.out ≡ Some t
    is_result : IsResult m o.axioms (take t.front s.entries) t.job f
    open_ : s.verdict ≡ None

  goal_caused : (kind : ℕ → ℕ → GoalEnd → Happening) (t : Out) (g : ℕ) (l r : Chain) (stop : Stop) (s u : State) → s.verdict ≡ None → GoalEnds kind t g l r stop s u → Caused u
  goal_caused kind t g l r stop s _ e (ends_meet q) = caused_by _ (Proved g) refl tt
  goal_caused kind t g l r stop s _ e (ends_differ c q a) = open_caused _ e

  meets_caused : (t : Out) (f : Finding) (i pairs : ℕ) (does : State → State) (s u : State) → IsOutIn t f s → t.job ≡ Meet i → ((x : State) → (does x).verdict ≡ x.verdict) → Commits o t f s u → Meets o t i pairs does s u → Caused u
  meets_caused t f i pairs does s _ e j d c (within_limit died a b) = open_caused _ (d _ ∙ e.open_)
  meets_caused t f i pairs does s _ e j d c (past_limit more a b) =
      caused_by _ (PairsOut (waiting s) more) refl (pairs_are_too_many {more = more} b (at_meeting {before = s} {fact = i} {finding = f} t j e.reaches e.open_ e.at e.is_result c refl))

  commit_brings : (t : Out) (f : Finding) (s u : State) → Reaches m o s → out_at t.ticket s.out ≡ Some t → IsResult m o.axioms (take t.front s.entries) t.job f → Commits o t f s u → Brings s u
  commit_brings t f s _ r at right (is_late v q) = stood (λ x h. h)
  commit_brings t _ s u r at right (goal_ends {l = l} {r = d} {stop = stop} g a b q is x) = comes (goal_caused CommitGoal t g l d stop s u q x)
  commit_brings t _ s u r at right (more_ends {l = l} {r = d} {stop = stop} g a b q is x) = comes (goal_caused CommitMore t g l d stop s u q x)
  commit_brings t _ s _ r at right (pair_joins p a q is) = stood (λ x h. h)
  commit_brings t _ s _ r at right (fact_is_kept p a q is) = stood (λ x h. h)
  commit_brings t f s u r at right (fact_is_stale {k = k} i q is x) =
      comes (meets_caused t f i 0 (λ y. kills k i y) s u (record { reaches = r; at = at; is_result = right; open_ = q }) is (kills_verdict k i) (fact_is_stale {k = k} i q is x) x)
  commit_brings t f s u r at right (fact_is_dead {ks = ks} {fs = fs} i q is d x) =
      comes (meets_caused t f i 0 stays s u (record { reaches = r; at = at; is_result = right; open_ = q }) is (λ y. refl) (fact_is_dead {ks = ks} {fs = fs} i q is d x) x)
  commit_brings t f s u r at right (fact_meets {ks = ks} {fs = fs} i q is d x) =
      comes (meets_caused t f i (newly_waiting fs (each (λ k. kills i k) ks s)) (λ y. visits i ks fs y) s u (record { reaches = r; at = at; is_result = right; open_ = q }) is (λ y. each_verdict i ks y) (fact_meets {ks = ks} {fs = fs} i q is d x) x)

  -- audits and closes

  audit_brings : (s u : State) (x : Missing) (r : AuditReply) → MayAudit m o s x → Reaches m o u → Audits o x.fact s r u → Brings s u
  audit_brings s _ x _ may k (is_closed v e) = stood (λ y h. h)
  audit_brings s _ x _ may k (is_spent e c) =
      let u : State = closes 0 (BudgetOut s.counted) s in
      let a = was_missing m o s x may in
      let none : s.out ≡ [] = audits_out o a.all a.drained (x ∷ a.left) s a.audited ∙ a.is_drained.none_out in
      let kept = kept_reaches m o u k in
      comes (caused_by u (BudgetOut s.counted) refl (is_spent_all c (counts_units o u kept).counted (ends_pairs_once o u kept) none (waits_for_audit {before = s} x may e refl)))
  audit_brings s _ x _ may k (is_kept e c) = stood (λ y h. h)

  close_caused : (s : State) (outcome : Outcome) (v : Verdict) (u : State) → Reaches m o s → IsDrained s → IsFinal m o.axioms s outcome → Closes s outcome v u → Caused u
  close_caused s _ _ _ r d f (converges {facts = facts}) = caused_by _ _ refl tt
  close_caused s _ _ _ r d f (has_large {o = x}) = caused_by _ _ refl (overlap_is_large r d f refl)
  close_caused s _ _ _ r d f (has_stuck {g = g}) = caused_by _ _ refl (goal_is_stuck r d f refl)

  -- a call leads on from a state to which a verdict came
  came_on : (s u : State) (v : Verdict) → Reaches m o u → Calls m o s u → Brings s u → ((w : Verdict) → s.verdict ≡ Some w → VerdictCame m o s w) → u.verdict ≡ Some v → VerdictCame m o u v
  came_on s u v k c (stood b) old h =
      let a = old v (b v h) in
      record { then_ = a.then_; reaches = a.reaches; verdict = a.verdict; cause = a.cause; later = one_more_call a.later c }
  came_on s u v k c (comes b) old h = record { then_ = u; reaches = k; verdict = h; cause = b v h; later = no_call }

  pub verdict_came : (s : State) → Reaches m o s → (v : Verdict) → s.verdict ≡ Some v → VerdictCame m o s v
  verdict_came s (starts a) v h = record { then_ = s; reaches = starts a; verdict = h; cause = start_caused s a v h; later = no_call }
  verdict_came u (draws_on {s = s} {r = r} w l a d) v h =
      came_on s u v (draws_on w l a d) (draws_next w l d) (draw_brings w s r u (draws_on w l a d) d) (λ x e. verdict_came s a x e) h
  verdict_came u (commits_on {s = s} {f = f} t at right a c) v h =
      came_on s u v (commits_on t at right a c) (commits_result t at right c) (commit_brings t f s u a at right c) (λ x e. verdict_came s a x e) h
  verdict_came _ (reclaims_on {s = s} t at a) v h =
      came_on s (reclaims t s) v (reclaims_on t at a) (reclaims_task t at) (stood (λ x e. sym (restored_verdict t.ticket t.worker t.front t.job s) ∙ e)) (λ x e. verdict_came s a x e) h
  verdict_came _ (recalls_on {s = s} a) v h =
      came_on s (recalls s) v (recalls_on a) recalls_tasks (stood (λ x e. sym (recalled_verdict s.out s) ∙ e)) (λ x e. verdict_came s a x e) h
  verdict_came u (audits_on {s = s} {answer = r} x may a b) v h =
      came_on s u v (audits_on x may a b) (audits_missing x may b) (audit_brings s u x r may (audits_on x may a b) b) (λ y e. verdict_came s a y e) h
  verdict_came u (closes_on {s = s} {outcome = outcome} {v = x} d f a c) v h =
      record { then_ = u; reaches = closes_on d f a c; verdict = h; cause = close_caused s outcome x u a d f c v h; later = no_call }
