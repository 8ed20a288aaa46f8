-- A search that ends at a limit has its cause.
use Rattle.std.proofs.Common.{◌≡◌, ℕ, ◌+◌, ◌<◌, ◌≤◌, List, [], length, count_by, Some, None, refl, ap, ◌∙◌, arith, subst}
use Rattle.uc_order.specs.Laws.{Meaning}
use Rattle.uc_fact.specs.declared.chain.Chain.{Chain}
use Rattle.uc_fact.specs.declared.fact.Stop.{Stop}
use Rattle.uc_machine.specs.declared.event.Verdict.{Verdict}
use Rattle.uc_machine.specs.declared.event.Verdict.TheVariants.{Proved, BudgetOut, PairsOut}
use Rattle.uc_machine.specs.declared.event.GoalEnd.{GoalEnd}
use Rattle.uc_machine.specs.declared.event.Happening.{Happening}
use Rattle.uc_machine.specs.declared.event.Happening.TheVariants.{CommitGoal, CommitMore}
use Rattle.uc_machine.specs.declared.task.Finding.{Finding}
use Rattle.uc_machine.specs.declared.task.Job.TheVariants.{Meet}
use Rattle.uc_machine.specs.declared.task.Missing.{Missing}
use Rattle.uc_machine.specs.declared.task.Outcome.{Outcome}
use Rattle.uc_machine.specs.Lists.{each}
use Rattle.uc_machine.specs.State.{Opening, State, Out, out_at, waiting, is_unit}
use Rattle.uc_machine.specs.Effects.{closes, drops, kills, visits}
use Rattle.uc_machine.specs.Draws.{Reply, Drained, Closed, Draws, verdict_stands, goal_is_due, fact_is_unmet, orphan_is_dropped, goal_is_continued, pair_is_drawn, budget_is_out, budget_is_spent, all_is_out, all_is_done, Waits, goal_waits, pair_waits}
use Rattle.uc_machine.specs.Commits.{GoalEnds, ends_meet, ends_differ, Meets, within_limit, past_limit, newly_waiting, stays, Commits, is_late, goal_ends, more_ends, pair_joins, fact_is_kept, fact_is_stale, fact_is_dead, fact_meets}
use Rattle.uc_machine.specs.Finals.{IsFinal}
use Rattle.uc_machine.specs.Promises.{CountsUnits}
use Rattle.uc_machine.specs.Runs.{Reaches, draws_on, Starts, axioms_wait, too_many_axioms, opened, KeptAs, ClosedBy, Audits, is_closed, is_spent, Closes, converges, has_large, has_stuck, IsDrained, MayAudit}
use Rattle.uc_machine.proofs.Runs.{kept_reaches}
use Rattle.uc_machine.proofs.Promises.{counts_units, ends_pairs_once}
use Rattle.uc_search.specs.Working.{CommitsResult, TakesTurn, Works, no_turn, one_more_turn}
use Rattle.uc_search.proofs.InOrder.{AuditsAll, one_is_kept, book_is_closed, audits_all}
use Rattle.uc_search.specs.Searching.{EndsRound, is_closed_by, audits_missing, Rounds, gets_verdict, gets_drained, Searches, last_round, next_round, IsSearched}
use Rattle.uc_runs.specs.Causes.{waits_in_book, waits_for_audit, at_start, at_meeting, budget_is_spent as is_spent_all, pairs_are_too_many, overlap_is_large, goal_is_stuck, CausesIfLimit}
use Rattle.uc_search.proofs.Turns.{leaves, Stays, at_one, kills_stay, visits_stay}
use Rattle.uc_search.proofs.Rests.{Rests, WereMissing, may_audit, missing_on, missing_first, audit_leaves, start_rests, works_rest, draws_one, drained_rests, closed_rests, round_rests, round_verdict}

two_verdicts : {A : Type 0} (s : State) (v : Verdict) → s.verdict ≡ None → s.verdict ≡ Some v → A
two_verdicts s v e f = absurd (cc)

-- all is counted where no task is out
all_counted : (o : Opening) (s : State) → CountsUnits o s → s.out ≡ [] → o.budget ≤ s.counted + s.reserved → s.counted ≡ o.budget
all_counted o s k e l =
    let r : s.reserved ≡ 0 = k.reserved ∙ ap (λ ts. count_by (λ (t : Out). is_unit t.job) ts) e in
    let w : s.counted + s.reserved ≤ o.budget = k.within in
    omega arith

-- what waits, waits still where the book is closed
waits_closed : (s : State) (w : ℕ) (v : Verdict) → Waits s → Waits (closes w v s)
waits_closed s w v (goal_waits g e) = goal_waits g e
waits_closed s w v (pair_waits p e) = pair_waits p e

module _ (m : Meaning) (o : Opening) where
  -- the verdict that stands, if one does, has its cause
  abbrev Told : State → Type 0
  Told s = (v : Verdict) → s.verdict ≡ Some v → CausesIfLimit m o s v

  untold : (s : State) → s.verdict ≡ None → Told s
  untold s e v f = two_verdicts s v e f

  told_by : (s : State) (v : Verdict) → s.verdict ≡ Some v → CausesIfLimit m o s v → Told s
  told_by s v e h u f = let q : v ≡ u = cc in subst (CausesIfLimit m o s) q h

  -- the start
  start_told : (s : State) → Starts o s → Told s
  start_told _ (axioms_wait l) = untold _ refl
  start_told _ (too_many_axioms l) =
      let s : State = closes 0 (PairsOut 0 (length o.axioms)) (opened o []) in
      told_by s (PairsOut 0 (length o.axioms)) refl (pairs_are_too_many {more = length o.axioms} (let x : o.limit < length o.axioms = l in omega arith) (at_start refl (too_many_axioms l)))

  -- a run leads to the state, where the task is out and no verdict stands
  record IsOutIn (t : Out) (s : State) : Type 0 where
    reaches : Reaches m o s
    at : out_at t.ticket s.out ≡ Some t
    open_ : s.verdict ≡ None

  -- a commit, where no verdict stood
  goal_told : (kind : ℕ → ℕ → GoalEnd → Happening) (t : Out) (g : ℕ) (l r : Chain) (stop : Stop) (s u : State) → s.verdict ≡ None → GoalEnds kind t g l r stop s u → Told u
  goal_told kind t g l r stop s _ e (ends_meet q) = told_by _ (Proved g) refl tt
  goal_told kind t g l r stop s _ e (ends_differ c q a) = untold _ e

  meets_told : (t : Out) (i pairs : ℕ) (does : State → State) (s u : State) → IsOutIn t s → t.job ≡ Meet i → ((x : State) → Stays x (does x)) → CommitsResult m o t s u → Meets o t i pairs does s u → Told u
  meets_told t i pairs does s _ e j d c (within_limit died a b) = untold _ ((d _).verdict ∙ e.open_)
  meets_told t i pairs does s _ e j d c (past_limit more a b) =
      told_by _ (PairsOut (waiting s) more) refl (pairs_are_too_many {more = more} b (at_meeting {before = s} {fact = i} {finding = c.finding} t j e.reaches e.open_ e.at c.is_result c.commits refl))

  commit_told : (t : Out) (f : Finding) (s u : State) → IsOutIn t s → CommitsResult m o t s u → Commits o t f s u → Told u
  commit_told t f s _ e c (is_late v q) = two_verdicts s v e.open_ q
  commit_told t _ s u e c (goal_ends {l = l} {r = r} {stop = stop} g a b q is x) = goal_told CommitGoal t g l r stop s u e.open_ x
  commit_told t _ s u e c (more_ends {l = l} {r = r} {stop = stop} g a b q is x) = goal_told CommitMore t g l r stop s u e.open_ x
  commit_told t _ s _ e c (pair_joins p a q is) = untold _ e.open_
  commit_told t _ s _ e c (fact_is_kept p a q is) = untold _ e.open_
  commit_told t _ s u e c (fact_is_stale {k = k} i q is x) = meets_told t i 0 (λ y. kills k i y) s u e is (kills_stay k i) c x
  commit_told t _ s u e c (fact_is_dead i q is d x) = meets_told t i 0 stays s u e is (λ y. record { out = refl; verdict = refl; history = refl }) c x
  commit_told t _ s u e c (fact_meets {ks = ks} {fs = fs} i q is d x) = meets_told t i (newly_waiting fs (each (λ k. kills i k) ks s)) (λ y. visits i ks fs y) s u e is (visits_stay i ks fs) c x

  -- a draw that finds the book closed, or closes it
  spent_cause : (w : ℕ) (s : State) → Rests m o (closes w (BudgetOut s.counted) s) → Waits s → o.budget ≤ s.counted + s.reserved → CausesIfLimit m o (closes w (BudgetOut s.counted) s) (BudgetOut s.counted)
  spent_cause w s r a l =
      let u : State = closes w (BudgetOut s.counted) s in
      let kept = kept_reaches m o u r.reaches in
      let k = counts_units o u kept in
      is_spent_all (all_counted o u k r.none_out l) k.counted (ends_pairs_once o u kept) r.none_out (waits_in_book (waits_closed s w (BudgetOut s.counted) a))

  abbrev IfClosed : Reply → State → Type 0
  IfClosed (Closed v) u = CausesIfLimit m o u v
  IfClosed r u = Unit {0}

  closed_told : (w : ℕ) (s : State) (r : Reply) (u : State) → Told s → Rests m o u → Draws o w s r u → IfClosed r u
  closed_told w s _ _ t k (verdict_stands v e) = t v e
  closed_told w s _ _ t k (goal_is_due g e f) = tt
  closed_told w s _ _ t k (fact_is_unmet i n f) = tt
  closed_told w s r u t k (orphan_is_dropped p n e f d) = closed_told w (drops w p.number s) r u (untold (drops w p.number s) n.none_due.open_) k d
  closed_told w s _ _ t k (goal_is_continued g l f room) = tt
  closed_told w s _ _ t k (pair_is_drawn p x l f e at room) = tt
  closed_told w s _ _ t k (budget_is_out l a b c) = tt
  closed_told w s _ _ t k (budget_is_spent l a b c) = spent_cause w s k a b
  closed_told w s _ _ t k (all_is_out l a b) = tt
  closed_told w s _ _ t k (all_is_done l a b) = tt

  -- the audits of a drained book
  audit_cause : (x : Missing) (s u : State) (v : Verdict) → s.verdict ≡ None → MayAudit m o s x → Rests m o u → Audits o x.fact s (ClosedBy v) u → CausesIfLimit m o u v
  audit_cause x s _ v e a r (is_closed _ f) = two_verdicts s v e f
  audit_cause x s _ _ e a r (is_spent f c) =
      let u : State = closes 0 (BudgetOut s.counted) s in
      let kept = kept_reaches m o u r.reaches in
      is_spent_all c (counts_units o u kept).counted (ends_pairs_once o u kept) r.none_out (waits_for_audit {before = s} x a e refl)

  audits_told : (drained : State) (all xs : List Missing) (s : State) (v : Verdict) (u : State) → s.verdict ≡ None → WereMissing m o drained all xs s → Rests m o u → AuditsAll o xs s (Some v) u → CausesIfLimit m o u v
  audits_told drained all _ s v t e a r (one_is_kept {x = x} {xs = xs} {u = u} {n = n} b rest) = audits_told drained all xs u v t (audit_leaves o x s u (KeptAs n) b) (missing_on m o drained all xs x s u (KeptAs n) a b) r rest
  audits_told drained all _ s v _ e a r (book_is_closed {x = x} {xs = xs} {u = u} b) = audit_cause x s u v e (may_audit m o drained all xs x s a) r b

  close_told : (drained : State) (outcome : Outcome) (v : Verdict) (u : State) → Reaches m o drained → IsDrained drained → IsFinal m o.axioms drained outcome → Closes drained outcome v u → CausesIfLimit m o u v
  close_told d _ _ _ r i f converges = tt
  close_told d _ _ _ r i f has_large = overlap_is_large r i f refl
  close_told d _ _ _ r i f has_stuck = goal_is_stuck r i f refl

  end_told : (drained : State) (v : Verdict) (u : State) → Rests m o drained → IsDrained drained → Rests m o u → EndsRound m o drained (Some v) u → CausesIfLimit m o u v
  end_told d v u k i r (is_closed_by {outcome = outcome} f c) = close_told d outcome v u k.reaches i f c
  end_told d v u k i r (audits_missing {missing = xs} f a) =
      audits_told d xs xs d v u i.none_unmet.none_due.open_ (missing_first m o d xs k.reaches i f) r (audits_all o xs d (Some v) u a)

  module _ (w : ℕ) (few : w < 65) where
    turn_told : (s u : State) → Rests m o s → TakesTurn m o w s u → Told u
    turn_told s u r t =
        let d = draws_one m o w s u r.none_out t in
        commit_told t.task t.commits.finding t.drawn u (record { reaches = draws_on w few r.reaches t.draws; at = at_one t.task t.drawn.out d.out; open_ = d.open_ }) t.commits t.commits.commits

    works_told : (s u : State) → Rests m o s → Told s → Works m o w s u → Told u
    works_told s _ r t no_turn = t
    works_told s v r t (one_more_turn {u = u} a b) = turn_told u v (works_rest m o w few s u r a) b

    round_told : (s : State) (v : Verdict) (u : State) → Rests m o s → Told s → Rounds m o w s (Some v) u → CausesIfLimit m o u v
    round_told s v u r t (gets_verdict a) = closed_told w a.last (Closed v) u (works_told s a.last r t a.works) (closed_rests m o w few s u v r a) a.draws
    round_told s v u r t (gets_drained {drained = d} a b) = end_told d v u (drained_rests m o w few s d r a) (leaves o w a.last Drained d a.draws) (round_rests m o w few s (Some v) u r (gets_drained a b)) b

    search_told : (s : State) (v : Verdict) (u : State) → Rests m o s → Told s → Searches m o w s v u → CausesIfLimit m o u v
    search_told s v u r t (last_round a) = round_told s v u r t a
    search_told s v y r t (next_round {u = u} a rest) = search_told u v y (round_rests m o w few s None u r a) (untold u (round_verdict m o w s None u a)) rest

    pub searched_told : (v : Verdict) (s : State) → IsSearched m o w v s → CausesIfLimit m o s v
    searched_told v s a = search_told a.start v s (start_rests m o a.start a.starts) (start_told a.start a.starts) a.searches
