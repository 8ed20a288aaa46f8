-- What one worker does leaves the number of commits of each other one.
use Rattle.std.proofs.Common.{◌≡◌, ◌≢◌, ℕ, ◌+◌, ◌-◌, ◌^◌, ◌<◌, ◌≤◌, min, List, [], ◌∷◌, ◌++◌, cond, false, ◌==◌, ◌&&◌, refl, sym, ap, ◌∙◌, arith, inl, inr}
use Rattle.std.specs.Prelude.{⊤}
use Rattle.std.proofs.lemmas.Bool.{cases_Bool}
use Rattle.std.proofs.lemmas.Bool.Decides.{nat_tests}
use Rattle.std.proofs.lemmas.List.Sums.{sum_by_push}
use Rattle.uc_order.specs.Laws.{Meaning}
use Rattle.uc_fact.specs.declared.chain.Chain.{Chain}
use Rattle.uc_fact.specs.declared.fact.Stop.{Stop}
use Rattle.uc_machine.specs.declared.event.Verdict.{Verdict}
use Rattle.uc_machine.specs.declared.event.Verdict.TheVariants.{Proved, PairsOut}
use Rattle.uc_machine.specs.declared.event.Event.{Event}
use Rattle.uc_machine.specs.declared.event.GoalEnd.{GoalEnd}
use Rattle.uc_machine.specs.declared.event.GoalEnd.TheVariants.{Met as EndsMet}
use Rattle.uc_machine.specs.declared.event.Happening.{Happening}
use Rattle.uc_machine.specs.declared.event.Happening.TheVariants.{CommitGoal, CommitMore, CommitMeet, CommitJoined, CommitKept, CommitLate}
use Rattle.uc_machine.specs.declared.task.Finding.{Finding}
use Rattle.uc_machine.specs.Lists.{each}
use Rattle.uc_machine.specs.State.{Opening, State, Out, waiting}
use Rattle.uc_machine.specs.Effects.{accepts, closes, drops, is_met, kills, reclaims, recalls, takes_ends, visits}
use Rattle.uc_machine.specs.Events.{commits_by, is_commit_what}
use Rattle.uc_machine.specs.Draws.{Reply, Drew, Idle, Drained as IsDrained, Closed as IsClosed, Draws, verdict_stands, goal_is_due, fact_is_unmet, orphan_is_dropped, goal_is_continued, pair_is_drawn, budget_is_out, budget_is_spent, all_is_out, all_is_done}
use Rattle.uc_machine.specs.Commits.{steps_of, end_word, GoalEnds, ends_meet, ends_differ, Meets, within_limit, past_limit, newly_waiting, stays, Commits, is_late, goal_ends, more_ends, pair_joins, fact_is_kept, fact_is_stale, fact_is_dead, fact_meets}
use Rattle.uc_book.specs.Openings.{PassView}
use Rattle.uc_search.specs.declared.working.Ended.{Ended}
use Rattle.uc_search.specs.Working.{Counts, TakesTurn, Works, no_turn, one_more_turn, WorksUntil, EndsAlone, drains, finds_closed, lacks_memory, puts_back}
use Rattle.uc_search.proofs.Turns.{Stays, kills_stay, visits_stay}
use Rattle.uc_search.proofs.Counting.{draw_commits, commit_commits, reclaim_commits}
use Rattle.uc_worker.specs.Commits.{commits_of}
use Rattle.uc_worker.proofs.Totals.{OneHasMore, commits_more}

abbrev by : ℕ → Happening → Event
by w h = record { worker = w; what = h }

-- COMMITS

-- an event of another worker
other_more : (v : ℕ) (h : List Event) (e : Event) → (e.worker == v) ≡ false → commits_by v (h ++ e ∷ []) ≡ commits_by v h
other_more v h e q = sum_by_push (λ (x : Event). cond (is_commit_what x.what && (x.worker == v)) 1 0) h e ∙ elim (cases_Bool (is_commit_what e.what)) [
  | inl b ↦ rw (b, q) (omega arith)
  | inr b ↦ rw b (omega arith)
]

module _ (v : ℕ) where
  -- a close behind it
  other_closes : (w : ℕ) (x : Verdict) (s : State) (n : ℕ) → (w == v) ≡ false → commits_by v s.history ≡ n → commits_by v ((closes w x s).history) ≡ n
  other_closes w x s n q e = other_more v s.history _ q ∙ e

  other_meets : (o : Opening) (t : Out) (i pairs : ℕ) (does : State → State) (s u : State) → (t.worker == v) ≡ false → ((x : State) → Stays x (does x)) → Meets o t i pairs does s u → commits_by v u.history ≡ commits_by v s.history
  other_meets o t i pairs does s _ q d (within_limit died a b) = ap (commits_by v) (d _).history ∙ other_more v s.history (by t.worker (CommitMeet i pairs died)) q
  other_meets o t i pairs does s _ q d (past_limit more a b) = other_closes t.worker (PairsOut (waiting s) more) (is_met i (accepts t (CommitMeet i 0 0) s)) (commits_by v s.history) q (other_more v s.history (by t.worker (CommitMeet i 0 0)) q)

  other_ends : (kind : ℕ → ℕ → GoalEnd → Happening) (t : Out) (g : ℕ) (l r : Chain) (stop : Stop) (s u : State) → (t.worker == v) ≡ false → GoalEnds kind t g l r stop s u → commits_by v u.history ≡ commits_by v s.history
  other_ends kind t g l r stop s _ q (ends_meet e) =
      let h : Happening = kind g (steps_of l r) EndsMet in
      other_closes t.worker (Proved g) (takes_ends g l r (accepts t h s)) (commits_by v s.history) q (other_more v s.history (by t.worker h) q)
  other_ends kind t g l r stop s _ q (ends_differ c e a) = other_more v s.history (by t.worker (kind g (steps_of l r) (end_word stop))) q

  other_commits : (o : Opening) (t : Out) (f : Finding) (s u : State) → (t.worker == v) ≡ false → Commits o t f s u → commits_by v u.history ≡ commits_by v s.history
  other_commits o t f s _ q (is_late x e) = other_more v s.history (by t.worker (CommitLate t.ticket)) q
  other_commits o t _ s u q (goal_ends {l = l} {r = r} {stop = stop} g a b e is x) = other_ends CommitGoal t g l r stop s u q x
  other_commits o t _ s u q (more_ends {l = l} {r = r} {stop = stop} g a b e is x) = other_ends CommitMore t g l r stop s u q x
  other_commits o t _ s _ q (pair_joins p a e is) = other_more v s.history (by t.worker (CommitJoined p)) q
  other_commits o t _ s _ q (fact_is_kept p a e is) = other_more v s.history (by t.worker (CommitKept p _)) q
  other_commits o t _ s u q (fact_is_stale {k = k} i e is m) = other_meets o t i 0 (λ x. kills k i x) s u q (kills_stay k i) m
  other_commits o t _ s u q (fact_is_dead i e is d m) = other_meets o t i 0 stays s u q (λ x. record { out = refl; verdict = refl; history = refl }) m
  other_commits o t _ s u q (fact_meets {ks = ks} {fs = fs} i e is d m) = other_meets o t i (newly_waiting fs (each (λ c. kills i c) ks s)) (λ x. visits i ks fs x) s u q (visits_stay i ks fs) m

-- a commit is one more of its worker
pub one_commits : (o : Opening) (t : Out) (f : Finding) (s u : State) → Commits o t f s u → OneHasMore t.worker 1 s.history u.history
one_commits o t f s u c = record {
  own = commit_commits o t f s u c;
  others = λ v d. other_commits v o t f s u (let e : t.worker ≢ v = (λ e. d (sym e)) in grind (arith, nat_tests)) c;
}

-- RECALLS

each_back : (w : ℕ) (ts : List Out) (s : State) → commits_by w ((each reclaims ts s).history) ≡ commits_by w s.history
each_back w [] s = refl
each_back w (t ∷ ts) s = each_back w ts (reclaims t s) ∙ reclaim_commits t s w

pub recall_commits : (s : State) (w : ℕ) → commits_by w ((recalls s).history) ≡ commits_by w s.history
recall_commits s w = each_back w s.out s

-- ONE WORKER ALONE

-- the task that is drawn is the worker's
abbrev IsWorkers : ℕ → Reply → Type 0
IsWorkers w (Drew t) = t.worker ≡ w
IsWorkers w (Idle n) = ⊤
IsWorkers w IsDrained = ⊤
IsWorkers w (IsClosed x) = ⊤

is_workers : (o : Opening) (w : ℕ) (s : State) (r : Reply) (u : State) → Draws o w s r u → IsWorkers w r
is_workers o w s _ _ (verdict_stands x e) = tt
is_workers o w s _ _ (goal_is_due g e f) = refl
is_workers o w s _ _ (fact_is_unmet i n f) = refl
is_workers o w s r u (orphan_is_dropped p n e f d) = is_workers o w (drops w p.number s) r u d
is_workers o w s _ _ (goal_is_continued g l f room) = refl
is_workers o w s _ _ (pair_is_drawn p x l f e at room) = refl
is_workers o w s _ _ (budget_is_out l a b c) = tt
is_workers o w s _ _ (budget_is_spent l a b c) = tt
is_workers o w s _ _ (all_is_out l a b) = tt
is_workers o w s _ _ (all_is_done l a b) = tt

module _ (m : Meaning) (o : Opening) (w v : ℕ) (apart : v ≢ w) where
  turn_others : (s u : State) → TakesTurn m o w s u → commits_by v u.history ≡ commits_by v s.history
  turn_others s u t =
      let mine : t.task.worker ≡ w = is_workers o w s (Drew t.task) t.drawn t.draws in
      let a : commits_by v u.history ≡ commits_by v t.drawn.history = (one_commits o t.task t.commits.finding t.drawn u t.commits.commits).others v (λ e. apart (e ∙ mine)) in
      a ∙ draw_commits o w s (Drew t.task) t.drawn t.draws v

  works_others : (s u : State) → Works m o w s u → commits_by v u.history ≡ commits_by v s.history
  works_others s _ no_turn = refl
  works_others s x (one_more_turn {u = u} a t) = turn_others u x t ∙ works_others s u a

  pub until_others : (s : State) (r : Reply) (u : State) → WorksUntil m o w s r u → commits_by v u.history ≡ commits_by v s.history
  until_others s r u a = draw_commits o w a.last r u a.draws v ∙ works_others s a.last a.works

  alone_others : (s : State) (why : Ended) (u : State) → EndsAlone m o w s why u → commits_by v u.history ≡ commits_by v s.history
  alone_others s _ u (drains a) = until_others s IsDrained u a
  alone_others s _ u (finds_closed {v = x} a) = until_others s (IsClosed x) u a
  alone_others s _ u (lacks_memory a) = works_others s u a
  alone_others s _ _ (puts_back {task = t} {last = l} {drawn = x} a d) = reclaim_commits t x v ∙ (draw_commits o w l (Drew t) x d v ∙ works_others s l a)

-- the pass and the history rose by as many, the worker's own
pub record Rises (p q : PassView) (s u : State) : Type 0 where
  pub more : ℕ
  pub hand : q.commits ≡ p.commits + more
  pub one : OneHasMore p.worker more s.history u.history
  pub all : commits_of u.history ≡ commits_of s.history + more

pub rises : (m : Meaning) (o : Opening) (p q : PassView) (s : State) (why : Ended) (u : State) → EndsAlone m o p.worker s why u → Counts p q s u → p.commits ≤ commits_of s.history → commits_of u.history < 2 ^ 64 → Rises p q s u
rises m o p q s why u ends c low few =
    let n : ℕ = c.more in
    let one : OneHasMore p.worker n s.history u.history = record { own = c.made; others = λ v d. alone_others m o p.worker v d s why u ends } in
    let all : commits_of u.history ≡ commits_of s.history + n = commits_more p.worker n s.history u.history one in
    let counted : q.commits ≡ min (p.commits + n) (2 ^ 64 - 1) = c.counted in
    record { more = n; hand = omega arith; one = one; all = all }
