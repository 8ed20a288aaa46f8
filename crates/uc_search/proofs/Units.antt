-- The units that are counted never get fewer.
use Rattle.std.proofs.Common.{◌≡◌, ℕ, ◌≤◌, List, [], ◌∷◌, cond, Option, refl, ◌∙◌, arith, inl, inr}
use Rattle.std.proofs.lemmas.Bool.{cases_Bool}
use Rattle.uc_order.specs.Laws.{Meaning}
use Rattle.uc_fact.specs.declared.chain.Chain.{Chain}
use Rattle.uc_fact.specs.declared.fact.Fact.{Fact}
use Rattle.uc_fact.specs.declared.fact.Stop.{Stop}
use Rattle.uc_shelf.specs.Entries.{is_dead}
use Rattle.uc_machine.specs.declared.event.GoalEnd.{GoalEnd}
use Rattle.uc_machine.specs.declared.event.Happening.{Happening}
use Rattle.uc_machine.specs.declared.event.Happening.TheVariants.{CommitGoal, CommitMore, CommitMeet}
use Rattle.uc_machine.specs.declared.event.Verdict.{Verdict}
use Rattle.uc_machine.specs.declared.task.Finding.{Finding}
use Rattle.uc_machine.specs.declared.task.Job.{Job}
use Rattle.uc_machine.specs.declared.task.Job.TheVariants.{Goal, More, Meet, Join}
use Rattle.uc_machine.specs.declared.task.Missing.{Missing}
use Rattle.uc_machine.specs.declared.task.Outcome.{Outcome}
use Rattle.uc_machine.specs.Lists.{each}
use Rattle.uc_machine.specs.State.{Opening, State, Out}
use Rattle.uc_machine.specs.Effects.{accepts, is_met, dies, kills, visits, drops, reclaims}
use Rattle.uc_machine.specs.Draws.{Reply, Drew, Drained as IsDrained, Closed as IsClosed, Draws, verdict_stands, goal_is_due, fact_is_unmet, orphan_is_dropped, goal_is_continued, pair_is_drawn, budget_is_out, budget_is_spent, all_is_out, all_is_done}
use Rattle.uc_machine.specs.Commits.{GoalEnds, ends_meet, ends_differ, Meets, within_limit, past_limit, newly_waiting, stays, Commits, is_late, goal_ends, more_ends, pair_joins, fact_is_kept, fact_is_stale, fact_is_dead, fact_meets}
use Rattle.uc_machine.specs.Runs.{AuditReply, Audits, is_closed, is_spent, is_kept, AreAudited, none_yet, one_more, Closes, converges, has_large, has_stuck}
use Rattle.uc_search.specs.declared.working.Ended.{Ended}
use Rattle.uc_search.specs.Working.{Works, no_turn, one_more_turn, WorksUntil, EndsAlone, drains, finds_closed, lacks_memory, puts_back}
use Rattle.uc_search.specs.Searching.{EndsRound, is_closed_by, audits_missing, CutsRound, before_answer, while_auditing}

-- CALLS

pub drawn_counted : (o : Opening) (w : ℕ) (s : State) (r : Reply) (u : State) → Draws o w s r u → u.counted ≡ s.counted
drawn_counted o w s _ _ (verdict_stands v e) = refl
drawn_counted o w s _ _ (goal_is_due g e f) = refl
drawn_counted o w s _ _ (fact_is_unmet i n f) = refl
drawn_counted o w s r u (orphan_is_dropped p n e f d) = drawn_counted o w (drops w p.number s) r u d
drawn_counted o w s _ _ (goal_is_continued g l f room) = refl
drawn_counted o w s _ _ (pair_is_drawn p x l f e at room) = refl
drawn_counted o w s _ _ (budget_is_out l a b c) = refl
drawn_counted o w s _ _ (budget_is_spent l a b c) = refl
drawn_counted o w s _ _ (all_is_out l a b) = refl
drawn_counted o w s _ _ (all_is_done l a b) = refl

kills_counted : (i k : ℕ) (s : State) → (kills i k s).counted ≡ s.counted
kills_counted i k s = elim (cases_Bool (is_dead s.entries k)) as (λ _. (cond (is_dead s.entries k) s (dies i k s)).counted ≡ s.counted) [ inl e ↦ rw e refl | inr e ↦ rw e refl ]

each_counted : (i : ℕ) (ks : List ℕ) (s : State) → (each (kills i) ks s).counted ≡ s.counted
each_counted i [] s = refl
each_counted i (k ∷ ks) s = each_counted i ks (kills i k s) ∙ kills_counted i k s

meets_counted : (o : Opening) (t : Out) (i pairs : ℕ) (does : State → State) (s u : State) → ((x : State) → (does x).counted ≡ x.counted) → Meets o t i pairs does s u → s.counted ≤ u.counted
meets_counted o t i pairs does s _ d (within_limit died a b) = omega (arith, d (is_met i (accepts t (CommitMeet i pairs died) s)))
meets_counted o t i pairs does s _ d (past_limit more a b) = omega arith

goal_counted : (kind : ℕ → ℕ → GoalEnd → Happening) (t : Out) (g : ℕ) (l r : Chain) (stop : Stop) (s u : State) → GoalEnds kind t g l r stop s u → s.counted ≤ u.counted
goal_counted kind t g l r stop s _ (ends_meet e) = omega arith
goal_counted kind t g l r stop s _ (ends_differ c e a) = omega arith

pub commits_counted : (o : Opening) (t : Out) (f : Finding) (s u : State) → Commits o t f s u → s.counted ≤ u.counted
commits_counted o t f s _ (is_late v e) = omega arith
commits_counted o t _ s u (goal_ends {l = l} {r = r} {stop = stop} g a b e is x) = goal_counted CommitGoal t g l r stop s u x
commits_counted o t _ s u (more_ends {l = l} {r = r} {stop = stop} g a b e is x) = goal_counted CommitMore t g l r stop s u x
commits_counted o t _ s _ (pair_joins p a e is) = omega arith
commits_counted o t _ s _ (fact_is_kept p a e is) = omega arith
commits_counted o t _ s u (fact_is_stale {k = k} i e is m) = meets_counted o t i 0 (λ x. kills k i x) s u (kills_counted k i) m
commits_counted o t _ s u (fact_is_dead i e is d m) = meets_counted o t i 0 stays s u (λ x. refl) m
commits_counted o t _ s u (fact_meets {ks = ks} {fs = fs} i e is d m) = meets_counted o t i (newly_waiting fs (each (λ c. kills i c) ks s)) (λ x. visits i ks fs x) s u (λ x. each_counted i ks x) m

reclaim_of : (n w fr : ℕ) (j : Job) (s : State) → (let t : Out = record { ticket = n; worker = w; job = j; front = fr } in (reclaims t s).counted ≡ s.counted)
reclaim_of n w fr (Goal g l r) s = refl
reclaim_of n w fr (More g l r) s = refl
reclaim_of n w fr (Meet i) s = refl
reclaim_of n w fr (Join p a) s = refl

pub reclaim_counted : (t : Out) (s : State) → (reclaims t s).counted ≡ s.counted
reclaim_counted t s = reclaim_of t.ticket t.worker t.front t.job s

pub audit_counted : (o : Opening) (f : Fact) (s : State) (r : AuditReply) (u : State) → Audits o f s r u → s.counted ≤ u.counted
audit_counted o f s _ _ (is_closed v e) = omega arith
audit_counted o f s _ _ (is_spent e c) = omega arith
audit_counted o f s _ _ (is_kept e c) = omega arith

pub close_counted : (s : State) (outcome : Outcome) (v : Verdict) (u : State) → Closes s outcome v u → s.counted ≤ u.counted
close_counted s _ _ _ converges = omega arith
close_counted s _ _ _ has_large = omega arith
close_counted s _ _ _ has_stuck = omega arith

-- THE END OF A ROUND

audited_counted : (o : Opening) (all : List Missing) (drained : State) (left : List Missing) (s : State) → AreAudited o all drained left s → drained.counted ≤ s.counted
audited_counted o all drained _ _ none_yet = omega arith
audited_counted o all drained left u (one_more {missing = x} {s = s} {answer = r} a b) =
    let before : drained.counted ≤ s.counted = audited_counted o all drained (x ∷ left) s a in
    let now : s.counted ≤ u.counted = audit_counted o x.fact s r u b in
    omega arith

module _ (m : Meaning) (o : Opening) where
  pub round_end_counted : (s : State) (v : Option Verdict) (u : State) → EndsRound m o s v u → s.counted ≤ u.counted
  round_end_counted s _ u (is_closed_by {outcome = x} {v = v} f c) = close_counted s x v u c
  round_end_counted s v u (audits_missing {missing = xs} f a) = audited_counted o xs s a.left u a.audited

  pub cut_counted : (s u : State) → CutsRound m o s u → s.counted ≤ u.counted
  cut_counted s _ before_answer = omega arith
  cut_counted s u (while_auditing {missing = xs} f a) = audited_counted o xs s a.left u a.audited

  -- ONE WORKER ALONE

  module _ (w : ℕ) where
    pub works_counted : (s u : State) → Works m o w s u → s.counted ≤ u.counted
    works_counted s _ no_turn = omega arith
    works_counted s v (one_more_turn {u = u} b t) = omega (arith, works_counted s u b, drawn_counted o w u (Drew t.task) t.drawn t.draws, commits_counted o t.task t.commits.finding t.drawn v t.commits.commits)

    until_counted : (s : State) (r : Reply) (u : State) → WorksUntil m o w s r u → s.counted ≤ u.counted
    until_counted s r u a = omega (arith, works_counted s a.last a.works, drawn_counted o w a.last r u a.draws)

    pub alone_counted : (s : State) (why : Ended) (u : State) → EndsAlone m o w s why u → s.counted ≤ u.counted
    alone_counted s _ u (drains a) = until_counted s IsDrained u a
    alone_counted s _ u (finds_closed {v = v} a) = until_counted s (IsClosed v) u a
    alone_counted s _ u (lacks_memory a) = works_counted s u a
    alone_counted s _ _ (puts_back {task = t} {last = l} {drawn = x} a d) = omega (arith, reclaim_counted t x, drawn_counted o w l (Drew t) x d, works_counted s l a)
