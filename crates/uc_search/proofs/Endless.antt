-- Each turn makes a commit, and each round after which the search goes on counts a unit: so neither goes on without end.
use Rattle.std.proofs.Common.{◌≡◌, ◌≢◌, ℕ, ◌+◌, ◌≤◌, List, [], None, refl, sym, ap, ◌∙◌, arith, subst}
use Rattle.uc_order.specs.Laws.{Meaning}
use Rattle.uc_term.specs.declared.equation.Equation.{Equation}
use Rattle.uc_machine.specs.declared.task.Missing.{Missing}
use Rattle.uc_machine.specs.declared.task.Outcome.TheVariants.{Missing as Lacks}
use Rattle.uc_machine.specs.State.{Opening, State, Out}
use Rattle.uc_machine.specs.Effects.{drops}
use Rattle.uc_machine.specs.Events.{commits_by}
use Rattle.uc_machine.specs.Finals.{IsFinal, some_missing}
use Rattle.uc_machine.specs.Draws.{Reply, Drew, Draws, verdict_stands, goal_is_due, fact_is_unmet, orphan_is_dropped, goal_is_continued, pair_is_drawn, budget_is_out, budget_is_spent, all_is_out, all_is_done}
use Rattle.uc_machine.specs.Runs.{KeptAs, Audits, is_kept}
use Rattle.uc_search.specs.declared.working.Turn.TheVariants.{Worked}
use Rattle.uc_search.specs.Working.{TakesTurn, TurnsTo, takes_turn}
use Rattle.uc_search.proofs.InOrder.{AuditsAll, all_are_kept, one_is_kept, audits_all}
use Rattle.uc_search.specs.Searching.{EndsRound, audits_missing, Rounds, gets_drained}
use Rattle.uc_search.proofs.Counting.{draw_commits, commit_commits}
use Rattle.uc_search.proofs.Units.{drawn_counted, works_counted}

-- TURNS

same_task : {t u : Out} → Drew u ≡ Drew t → t.worker ≡ u.worker
same_task {t} {u} e = (let k : u ≡ t = cc in sym (ap (λ (x : Out). x.worker) k))

drew_by : (o : Opening) (w : ℕ) (s : State) (r : Reply) (u : State) (t : Out) → Draws o w s r u → r ≡ Drew t → t.worker ≡ w
drew_by o w s _ _ t (verdict_stands v e) q = absurd (cc)
drew_by o w s _ _ t (goal_is_due g e f) q = same_task q
drew_by o w s _ _ t (fact_is_unmet i n f) q = same_task q
drew_by o w s r u t (orphan_is_dropped p n e f d) q = drew_by o w (drops w p.number s) r u t d q
drew_by o w s _ _ t (goal_is_continued g l f room) q = same_task q
drew_by o w s _ _ t (pair_is_drawn p x l f e at room) q = same_task q
drew_by o w s _ _ t (budget_is_out l a b c) q = absurd (cc)
drew_by o w s _ _ t (budget_is_spent l a b c) q = absurd (cc)
drew_by o w s _ _ t (all_is_out l a b) q = absurd (cc)
drew_by o w s _ _ t (all_is_done l a b) q = absurd (cc)

module _ (m : Meaning) (o : Opening) (w : ℕ) where
  turn_commits : (s u : State) → TakesTurn m o w s u → commits_by w u.history ≡ commits_by w s.history + 1
  turn_commits s u t =
      let by : t.task.worker ≡ w = drew_by o w s (Drew t.task) t.drawn t.task t.draws refl in
      subst (λ v. commits_by v u.history ≡ commits_by v t.drawn.history + 1) by (commit_commits o t.task t.commits.finding t.drawn u t.commits.commits) ∙ ap (λ n. n + 1) (draw_commits o w s (Drew t.task) t.drawn t.draws w)

  pub worked_commits : (s u : State) → TurnsTo m o w s Worked u → commits_by w u.history ≡ commits_by w s.history + 1
  worked_commits s u (takes_turn t) = turn_commits s u t

-- ROUNDS

kept_counted : (o : Opening) (x : Missing) (s u : State) (n : ℕ) → Audits o x.fact s (KeptAs n) u → u.counted ≡ s.counted + 1
kept_counted o x s _ _ (is_kept e c) = refl

all_kept : (o : Opening) (xs : List Missing) (s u : State) → AuditsAll o xs s None u → s.counted ≤ u.counted
all_kept o _ s _ all_are_kept = omega arith
all_kept o _ s t (one_is_kept {x = x} {xs = xs} {u = u} {n = n} a rest) = omega (arith, kept_counted o x s u n a, all_kept o xs u t rest)

more_kept : (o : Opening) (xs : List Missing) (s u : State) → xs ≢ [] → AuditsAll o xs s None u → s.counted + 1 ≤ u.counted
more_kept o _ s _ ne all_are_kept = absurd (ne refl)
more_kept o _ s t ne (one_is_kept {x = x} {xs = xs} {u = u} {n = n} a rest) = omega (arith, kept_counted o x s u n a, all_kept o xs u t rest)

no_missing : (m : Meaning) (axioms : List Equation) (s : State) (xs : List Missing) → IsFinal m axioms s (Lacks xs) → xs ≢ []
no_missing m axioms s xs (some_missing a t ne) = ne

module _ (m : Meaning) (o : Opening) where
  pub ended_counted : (s u : State) → EndsRound m o s None u → s.counted + 1 ≤ u.counted
  ended_counted s u (audits_missing {missing = xs} f a) = more_kept o xs s u (no_missing m o.axioms s xs f) (audits_all o xs s None u a)

  module _ (w : ℕ) where
    -- a round without a verdict
    pub round_counted : (s u : State) → Rounds m o w s None u → s.counted + 1 ≤ u.counted
    round_counted s u (gets_drained {drained = d} b e) = omega (arith, works_counted m o w s b.last b.works, drawn_counted o w b.last _ d b.draws, ended_counted d u e)
