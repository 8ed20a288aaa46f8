-- How many commits a history has of a worker, call by call.
use Rattle.std.proofs.Common.{◌≡◌, ℕ, ◌+◌, List, [], ◌∷◌, ◌++◌, cond, true, false, ◌==◌, ◌&&◌, refl, ap, ◌∙◌, arith}
use Rattle.std.proofs.lemmas.Bool.{eq-eqb}
use Rattle.std.proofs.lemmas.List.Sums.{sum_by_push}
use Rattle.uc_fact.specs.declared.chain.Chain.{Chain}
use Rattle.uc_fact.specs.declared.fact.Stop.{Stop}
use Rattle.uc_machine.specs.declared.event.Verdict.{Verdict}
use Rattle.uc_machine.specs.declared.event.Verdict.TheVariants.{Proved, PairsOut}
use Rattle.uc_machine.specs.declared.event.Event.{Event}
use Rattle.uc_machine.specs.declared.event.GoalEnd.{GoalEnd}
use Rattle.uc_machine.specs.declared.event.GoalEnd.TheVariants.{Met as EndsMet}
use Rattle.uc_machine.specs.declared.event.Happening.{Happening}
use Rattle.uc_machine.specs.declared.event.Happening.TheVariants.{Dropped, CommitGoal, CommitMore, CommitMeet, CommitJoined, CommitKept, CommitLate}
use Rattle.uc_machine.specs.declared.task.Finding.{Finding}
use Rattle.uc_machine.specs.declared.task.Missing.{Missing}
use Rattle.uc_machine.specs.declared.task.Outcome.{Outcome}
use Rattle.uc_machine.specs.declared.task.Job.{Job}
use Rattle.uc_machine.specs.declared.task.Job.TheVariants.{Goal, More, Meet, Join}
use Rattle.uc_machine.specs.Lists.{each}
use Rattle.uc_machine.specs.State.{Opening, State, Out, waiting}
use Rattle.uc_machine.specs.Effects.{accepts, closes, drops, is_met, kills, reclaims, takes_ends, visits}
use Rattle.uc_machine.specs.Events.{commits_by, is_commit_what}
use Rattle.uc_machine.specs.Draws.{Reply, Draws, verdict_stands, goal_is_due, fact_is_unmet, orphan_is_dropped, goal_is_continued, pair_is_drawn, budget_is_out, budget_is_spent, all_is_out, all_is_done}
use Rattle.uc_machine.specs.Commits.{steps_of, end_word, GoalEnds, ends_meet, ends_differ, Meets, within_limit, past_limit, newly_waiting, stays, Commits, is_late, goal_ends, more_ends, pair_joins, fact_is_kept, fact_is_stale, fact_is_dead, fact_meets}
use Rattle.uc_machine.specs.Runs.{AuditReply, Audits, is_closed, is_spent, is_kept, Closes, converges, has_large, has_stuck}
use Rattle.uc_search.proofs.Turns.{Stays, kills_stay, visits_stay}

abbrev by : ℕ → Happening → Event
by w h = record { worker = w; what = h }

-- an event that is no commit
none_more : (v : ℕ) (h : List Event) (e : Event) → is_commit_what e.what ≡ false → commits_by v (h ++ e ∷ []) ≡ commits_by v h
none_more v h e q = sum_by_push (λ (x : Event). cond (is_commit_what x.what && (x.worker == v)) 1 0) h e ∙ rw q (omega arith)

-- a commit
one_more : (h : List Event) (e : Event) → is_commit_what e.what ≡ true → commits_by e.worker (h ++ e ∷ []) ≡ commits_by e.worker h + 1
one_more h e q = sum_by_push (λ (x : Event). cond (is_commit_what x.what && (x.worker == e.worker)) 1 0) h e ∙ rw (q, eq-eqb e.worker e.worker refl) refl

pub draw_commits : (o : Opening) (w : ℕ) (s : State) (r : Reply) (u : State) → Draws o w s r u → (v : ℕ) → commits_by v u.history ≡ commits_by v s.history
draw_commits o w s _ _ (verdict_stands x e) v = refl
draw_commits o w s _ _ (goal_is_due g e f) v = none_more v s.history _ refl
draw_commits o w s _ _ (fact_is_unmet i n f) v = none_more v s.history _ refl
draw_commits o w s r u (orphan_is_dropped p n e f d) v = draw_commits o w (drops w p.number s) r u d v ∙ none_more v s.history (by w (Dropped p.number)) refl
draw_commits o w s _ _ (goal_is_continued g l f room) v = none_more v s.history _ refl
draw_commits o w s _ _ (pair_is_drawn p x l f e at room) v = none_more v s.history _ refl
draw_commits o w s _ _ (budget_is_out l a b c) v = refl
draw_commits o w s _ _ (budget_is_spent l a b c) v = none_more v s.history _ refl
draw_commits o w s _ _ (all_is_out l a b) v = refl
draw_commits o w s _ _ (all_is_done l a b) v = refl

pub close_commits : (s : State) (outcome : Outcome) (x : Verdict) (u : State) → Closes s outcome x u → (v : ℕ) → commits_by v u.history ≡ commits_by v s.history
close_commits s _ _ _ converges v = none_more v s.history _ refl
close_commits s _ _ _ has_large v = none_more v s.history _ refl
close_commits s _ _ _ has_stuck v = none_more v s.history _ refl

pub audit_commits : (o : Opening) (x : Missing) (s : State) (r : AuditReply) (u : State) → Audits o x.fact s r u → (v : ℕ) → commits_by v u.history ≡ commits_by v s.history
audit_commits o x s _ _ (is_closed y e) v = refl
audit_commits o x s _ _ (is_spent e c) v = none_more v s.history _ refl
audit_commits o x s _ _ (is_kept e c) v = none_more v s.history _ refl

reclaim_of : (n w fr : ℕ) (j : Job) (s : State) (v : ℕ) → (let t : Out = record { ticket = n; worker = w; job = j; front = fr } in commits_by v ((reclaims t s).history) ≡ commits_by v s.history)
reclaim_of n w fr (Goal g l r) s v = none_more v s.history _ refl
reclaim_of n w fr (More g l r) s v = none_more v s.history _ refl
reclaim_of n w fr (Meet i) s v = none_more v s.history _ refl
reclaim_of n w fr (Join p a) s v = none_more v s.history _ refl

pub reclaim_commits : (t : Out) (s : State) (v : ℕ) → commits_by v ((reclaims t s).history) ≡ commits_by v s.history
reclaim_commits t s v = reclaim_of t.ticket t.worker t.front t.job s v

-- a close behind a commit
closed_more : (w : ℕ) (x : Verdict) (s : State) (n : ℕ) → commits_by w s.history ≡ n → commits_by w ((closes w x s).history) ≡ n
closed_more w x s n e = none_more w s.history _ refl ∙ e

meets_more : (o : Opening) (t : Out) (i pairs : ℕ) (does : State → State) (s u : State) → ((x : State) → Stays x (does x)) → Meets o t i pairs does s u → commits_by t.worker u.history ≡ commits_by t.worker s.history + 1
meets_more o t i pairs does s _ d (within_limit died a b) = ap (commits_by t.worker) (d _).history ∙ one_more s.history (by t.worker (CommitMeet i pairs died)) refl
meets_more o t i pairs does s _ d (past_limit more a b) = closed_more t.worker (PairsOut (waiting s) more) (is_met i (accepts t (CommitMeet i 0 0) s)) (commits_by t.worker s.history + 1) (one_more s.history (by t.worker (CommitMeet i 0 0)) refl)

goal_more : (kind : ℕ → ℕ → GoalEnd → Happening) (t : Out) (g : ℕ) (l r : Chain) (stop : Stop) (s u : State) → ((n m : ℕ) (e : GoalEnd) → is_commit_what (kind n m e) ≡ true) → GoalEnds kind t g l r stop s u → commits_by t.worker u.history ≡ commits_by t.worker s.history + 1
goal_more kind t g l r stop s _ is (ends_meet e) =
    let h : Happening = kind g (steps_of l r) EndsMet in
    closed_more t.worker (Proved g) (takes_ends g l r (accepts t h s)) (commits_by t.worker s.history + 1) (one_more s.history (by t.worker h) (is g (steps_of l r) EndsMet))
goal_more kind t g l r stop s _ is (ends_differ c e a) = one_more s.history (by t.worker (kind g (steps_of l r) (end_word stop))) (is g (steps_of l r) (end_word stop))

pub commit_commits : (o : Opening) (t : Out) (f : Finding) (s u : State) → Commits o t f s u → commits_by t.worker u.history ≡ commits_by t.worker s.history + 1
commit_commits o t f s _ (is_late v e) = one_more s.history (by t.worker (CommitLate t.ticket)) refl
commit_commits o t _ s u (goal_ends {l = l} {r = r} {stop = stop} g a b e is x) = goal_more CommitGoal t g l r stop s u (λ i j k. refl) x
commit_commits o t _ s u (more_ends {l = l} {r = r} {stop = stop} g a b e is x) = goal_more CommitMore t g l r stop s u (λ i j k. refl) x
commit_commits o t _ s _ (pair_joins p a e is) = one_more s.history (by t.worker (CommitJoined p)) refl
commit_commits o t _ s _ (fact_is_kept p a e is) = one_more s.history (by t.worker (CommitKept p _)) refl
commit_commits o t _ s u (fact_is_stale {k = k} i e is m) = meets_more o t i 0 (λ x. kills k i x) s u (kills_stay k i) m
commit_commits o t _ s u (fact_is_dead i e is d m) = meets_more o t i 0 stays s u (λ x. record { out = refl; verdict = refl; history = refl }) m
commit_commits o t _ s u (fact_meets {ks = ks} {fs = fs} i e is d m) = meets_more o t i (newly_waiting fs (each (λ c. kills i c) ks s)) (λ x. visits i ks fs x) s u (visits_stay i ks fs) m
