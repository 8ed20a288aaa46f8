-- Each event of a run was recorded by one call, from a state that a run reaches.
use Rattle.std.proofs.Common.{◌≡◌, ℕ, ◌<◌, ◌≤◌, List, [], ◌∷◌, ◌++◌, length, refl, ap, sym, ◌∙◌, inl, inr, append_assoc}
use Rattle.std.proofs.lemmas.Bool.{cases_Bool, cases_lt}
use Rattle.std.proofs.lemmas.List.{append-nil}
use Rattle.uc_order.specs.Laws.{Meaning}
use Rattle.uc_fact.specs.declared.chain.Chain.{Chain}
use Rattle.uc_fact.specs.declared.fact.Fact.{Fact}
use Rattle.uc_fact.specs.declared.fact.Stop.{Stop}
use Rattle.uc_shelf.specs.Entries.{is_dead}
use Rattle.uc_machine.specs.declared.event.Event.{Event}
use Rattle.uc_machine.specs.declared.event.Verdict.{Verdict}
use Rattle.uc_machine.specs.declared.event.GoalEnd.{GoalEnd}
use Rattle.uc_machine.specs.declared.event.Happening.{Happening}
use Rattle.uc_machine.specs.declared.event.Happening.TheVariants.{CommitGoal, CommitMore}
use Rattle.uc_machine.specs.declared.task.Finding.{Finding}
use Rattle.uc_machine.specs.declared.task.Job.{Job}
use Rattle.uc_machine.specs.declared.task.Job.TheVariants.{Goal, More, Meet, Join}
use Rattle.uc_machine.specs.declared.task.Outcome.{Outcome}
use Rattle.uc_machine.specs.Commits.{GoalEnds, ends_meet, ends_differ, Meets, within_limit, past_limit, newly_waiting, stays, Commits, is_late, goal_ends, more_ends, pair_joins, fact_is_kept, fact_is_stale, fact_is_dead, fact_meets}
use Rattle.uc_machine.specs.Draws.{Reply, Draws, verdict_stands, goal_is_due, fact_is_unmet, orphan_is_dropped, goal_is_continued, pair_is_drawn, budget_is_out, budget_is_spent, all_is_out, all_is_done}
use Rattle.uc_machine.specs.Effects.{kills, visits, drops, reclaims}
use Rattle.uc_machine.specs.Lists.{each}
use Rattle.uc_machine.specs.Runs.{AuditReply, Audits, is_closed, is_spent, is_kept, Closes, converges, has_large, has_stuck, Reaches, starts, draws_on, commits_on, reclaims_on, recalls_on, audits_on, closes_on}
use Rattle.uc_machine.specs.State.{Opening, State, Out}
use Rattle.uc_runs.specs.Later.{Continues, Calls, draws_next, commits_result, reclaims_task, recalls_tasks, audits_missing, closes_drained, Later, no_call, one_more_call, IsRecorded, at_start, by_call}

pub none : (h : List Event) → Continues h h
none h = record { more = []; is = sym (append-nil h) }

one : (h : List Event) (e : Event) → Continues h (h ++ e ∷ [])
one h e = record { more = e ∷ []; is = refl }

pub further : (h i j : List Event) → Continues h i → Continues i j → Continues h j
further h i j a b = record { more = a.more ++ b.more; is = b.is ∙ ap (λ z. z ++ b.more) a.is ∙ append_assoc h a.more b.more }

after_same : (h i j : List Event) → i ≡ j → Continues h j → Continues h i
after_same h i j e a = record { more = a.more; is = e ∙ a.is }

draws_record : (o : Opening) (w : ℕ) (s : State) (r : Reply) (u : State) → Draws o w s r u → Continues s.history u.history
draws_record o w s _ _ (verdict_stands v e) = none s.history
draws_record o w s _ _ (goal_is_due g e f) = one s.history _
draws_record o w s _ _ (fact_is_unmet i n f) = one s.history _
draws_record o w s r u (orphan_is_dropped p n e f d) = further s.history _ u.history (one s.history _) (draws_record o w (drops w p.number s) r u d)
draws_record o w s _ _ (goal_is_continued g l f room) = one s.history _
draws_record o w s _ _ (pair_is_drawn p x l f e at room) = one s.history _
draws_record o w s _ _ (budget_is_out l a b c) = none s.history
draws_record o w s _ _ (budget_is_spent l a b c) = one s.history _
draws_record o w s _ _ (all_is_out l a b) = none s.history
draws_record o w s _ _ (all_is_done l a b) = none s.history

kills_same : (i k : ℕ) (s : State) → (kills i k s).history ≡ s.history
kills_same i k s = elim (cases_Bool (is_dead s.entries k)) as (λ _. (kills i k s).history ≡ s.history) [
  | inl e ↦ rw e refl
  | inr e ↦ rw e refl
]

each_same : (i : ℕ) (ks : List ℕ) (s : State) → (each (kills i) ks s).history ≡ s.history
each_same i [] s = refl
each_same i (k ∷ ks) s = each_same i ks (kills i k s) ∙ kills_same i k s

goal_record : (kind : ℕ → ℕ → GoalEnd → Happening) (t : Out) (g : ℕ) (l r : Chain) (stop : Stop) (s u : State) → GoalEnds kind t g l r stop s u → Continues s.history u.history
goal_record kind t g l r stop s _ (ends_meet e) = further s.history _ _ (one s.history _) (one _ _)
goal_record kind t g l r stop s _ (ends_differ c e a) = one s.history _

meets_record : (o : Opening) (t : Out) (i pairs : ℕ) (does : State → State) (s u : State) → ((x : State) → (does x).history ≡ x.history) → Meets o t i pairs does s u → Continues s.history u.history
meets_record o t i pairs does s _ same (within_limit died a b) = after_same s.history _ _ (same _) (one s.history _)
meets_record o t i pairs does s _ same (past_limit more a b) = further s.history _ _ (one s.history _) (one _ _)

commits_record : (o : Opening) (t : Out) (f : Finding) (s u : State) → Commits o t f s u → Continues s.history u.history
commits_record o t f s _ (is_late v e) = one s.history _
commits_record o t _ s u (goal_ends {l = l} {r = r} {stop = stop} g a b e is x) = goal_record CommitGoal t g l r stop s u x
commits_record o t _ s u (more_ends {l = l} {r = r} {stop = stop} g a b e is x) = goal_record CommitMore t g l r stop s u x
commits_record o t _ s _ (pair_joins p a e is) = one s.history _
commits_record o t _ s _ (fact_is_kept {f = f} p a e is) = one s.history _
commits_record o t _ s u (fact_is_stale {k = k} i e is m) = meets_record o t i 0 (λ x. kills k i x) s u (λ x. kills_same k i x) m
commits_record o t _ s u (fact_is_dead i e is d m) = meets_record o t i 0 stays s u (λ x. refl) m
commits_record o t _ s u (fact_meets {ks = ks} {fs = fs} i e is d m) = meets_record o t i (newly_waiting fs (each (λ c. kills i c) ks s)) (λ x. visits i ks fs x) s u (λ x. each_same i ks x) m

reclaim_one : (n w f : ℕ) (j : Job) (s : State) → (let t : Out = record { ticket = n; worker = w; job = j; front = f } in Continues s.history ((reclaims t s).history))
reclaim_one n w f (Goal g l r) s = one s.history _
reclaim_one n w f (More g l r) s = one s.history _
reclaim_one n w f (Meet i) s = one s.history _
reclaim_one n w f (Join p a) s = one s.history _

reclaims_record : (t : Out) (s : State) → Continues s.history ((reclaims t s).history)
reclaims_record t s = reclaim_one t.ticket t.worker t.front t.job s

each_recall : (ts : List Out) (s : State) → Continues s.history ((each reclaims ts s).history)
each_recall [] s = none s.history
each_recall (t ∷ ts) s = further s.history _ _ (reclaims_record t s) (each_recall ts (reclaims t s))

audits_record : (o : Opening) (f : Fact) (s u : State) (r : AuditReply) → Audits o f s r u → Continues s.history u.history
audits_record o f s _ _ (is_closed v e) = none s.history
audits_record o f s _ _ (is_spent e c) = one s.history _
audits_record o f s _ _ (is_kept e c) = one s.history _

closes_record : (s u : State) (outcome : Outcome) (v : Verdict) → Closes s outcome v u → Continues s.history u.history
closes_record s _ _ _ converges = one s.history _
closes_record s _ _ _ has_large = one s.history _
closes_record s _ _ _ has_stuck = one s.history _

module _ (m : Meaning) (o : Opening) where
  pub call_records : (s u : State) → Calls m o s u → Continues s.history u.history
  call_records s u (draws_next {r = r} w l d) = draws_record o w s r u d
  call_records s u (commits_result {f = f} t at right c) = commits_record o t f s u c
  call_records s _ (reclaims_task t at) = reclaims_record t s
  call_records s _ recalls_tasks = each_recall s.out s
  call_records s u (audits_missing {answer = r} x may a) = audits_record o x.fact s u r a
  call_records s u (closes_drained {outcome = outcome} {v = v} d f c) = closes_record s u outcome v c

  pub history_continues : (s u : State) → Later m o s u → Continues s.history u.history
  history_continues s _ no_call = none s.history
  history_continues s u (one_more_call {t = t} a c) = further s.history t.history u.history (history_continues s t a) (call_records t u c)

  call_reaches : (s u : State) → Reaches m o s → Calls m o s u → Reaches m o u
  call_reaches s u r (draws_next w l d) = draws_on w l r d
  call_reaches s u r (commits_result t at right c) = commits_on t at right r c
  call_reaches s _ r (reclaims_task t at) = reclaims_on t at r
  call_reaches s _ r recalls_tasks = recalls_on r
  call_reaches s u r (audits_missing x may a) = audits_on x may r a
  call_reaches s u r (closes_drained d f c) = closes_on d f r c

  pub later_reaches : (s u : State) → Reaches m o s → Later m o s u → Reaches m o u
  later_reaches s _ r no_call = r
  later_reaches s u r (one_more_call {t = t} a c) = call_reaches t u (later_reaches s t r a) c

  recorded_on : (s u : State) (k : ℕ) → Calls m o s u → IsRecorded m o s k → IsRecorded m o u k
  recorded_on s u k c (at_start a l b) = at_start a l (one_more_call b c)
  recorded_on s u k c (by_call r d n l b) = by_call r d n l (one_more_call b c)

  -- the event is an older one, or one of this call
  recorded_by : (s u : State) (k : ℕ) → Reaches m o s → Calls m o s u → (k < length s.history → IsRecorded m o s k) → k < length u.history → IsRecorded m o u k
  recorded_by s u k r c old l = elim (cases_lt k (length s.history)) [
    | inl a ↦ recorded_on s u k c (old a)
    | inr b ↦ by_call {before = s} {after = u} r c (let n : length s.history ≤ k = b in n) l no_call
  ]

  pub is_recorded : (s : State) (k : ℕ) → Reaches m o s → k < length s.history → IsRecorded m o s k
  is_recorded s k (starts a) l = at_start a l no_call
  is_recorded u k (draws_on {s = s} w few r d) l = recorded_by s u k r (draws_next w few d) (λ x. is_recorded s k r x) l
  is_recorded u k (commits_on {s = s} t at right r c) l = recorded_by s u k r (commits_result t at right c) (λ x. is_recorded s k r x) l
  is_recorded u k (reclaims_on {s = s} t at r) l = recorded_by s u k r (reclaims_task t at) (λ x. is_recorded s k r x) l
  is_recorded u k (recalls_on {s = s} r) l = recorded_by s u k r recalls_tasks (λ x. is_recorded s k r x) l
  is_recorded u k (audits_on {s = s} x may r a) l = recorded_by s u k r (audits_missing x may a) (λ y. is_recorded s k r y) l
  is_recorded u k (closes_on {s = s} d f r c) l = recorded_by s u k r (closes_drained d f c) (λ x. is_recorded s k r x) l
