-- What a draw and a commit leave of the tasks that are out and of the verdict.
use Rattle.std.proofs.Common.{◌≡◌, ◌≢◌, ℕ, List, [], ◌∷◌, ◌++◌, length, true, cond, ◌==◌, Some, None, refl, ◌∙◌, inl, inr}
use Rattle.std.proofs.lemmas.Bool.{cases_Bool, eq-eqb}
use Rattle.uc_fact.specs.declared.chain.Chain.{Chain}
use Rattle.uc_fact.specs.declared.fact.Stop.{Stop}
use Rattle.uc_pair.specs.declared.formed.Formed.{Formed}
use Rattle.uc_shelf.specs.Entries.{is_dead}
use Rattle.uc_machine.specs.declared.event.Verdict.{Verdict}
use Rattle.uc_machine.specs.declared.event.GoalEnd.{GoalEnd}
use Rattle.uc_machine.specs.declared.event.Happening.{Happening}
use Rattle.uc_machine.specs.declared.event.Happening.TheVariants.{CommitGoal, CommitMore}
use Rattle.uc_machine.specs.declared.task.Finding.{Finding}
use Rattle.uc_machine.specs.declared.task.Job.{Job}
use Rattle.uc_machine.specs.declared.task.Job.TheVariants.{Goal, More, Meet, Join}
use Rattle.uc_machine.specs.Lists.{each}
use Rattle.uc_machine.specs.State.{Opening, State, Out, out_at, without}
use Rattle.uc_machine.specs.Effects.{dies, kills, visits, drops, reclaims}
use Rattle.uc_machine.specs.Draws.{Reply, Drew, Idle, Drained, Closed, Draws, verdict_stands, goal_is_due, fact_is_unmet, orphan_is_dropped, goal_is_continued, pair_is_drawn, budget_is_out, budget_is_spent, all_is_out, all_is_done}
use Rattle.uc_machine.specs.Commits.{GoalEnds, ends_meet, ends_differ, Meets, within_limit, past_limit, newly_waiting, stays, Commits, is_late, goal_ends, more_ends, pair_joins, fact_is_kept, fact_is_stale, fact_is_dead, fact_meets}
use Rattle.uc_machine.specs.Runs.{IsDrained}

-- DRAWS

-- a task that was drawn is out beside the others, over all entries, where no verdict stands
pub record LeavesTask (ts : List Out) (t : Out) (u : State) : Type 0 where
  pub out : u.out ≡ ts ++ t ∷ []
  pub front : t.front ≡ length u.entries
  pub open_ : u.verdict ≡ None

-- the verdict stands, and what is out stays out
pub record LeavesVerdict (ts : List Out) (v : Verdict) (u : State) : Type 0 where
  pub out : u.out ≡ ts
  pub verdict : u.verdict ≡ Some v

-- what a draw leaves where these tasks are out
abbrev pub Leaves : List Out → Reply → State → Type 0
Leaves ts (Drew t) u = LeavesTask ts t u
Leaves ts (Idle n) u = ts ≢ []
Leaves ts Drained u = IsDrained u
Leaves ts (Closed v) u = LeavesVerdict ts v u

pub leaves : (o : Opening) (w : ℕ) (s : State) (r : Reply) (u : State) → Draws o w s r u → Leaves s.out r u
leaves o w s _ _ (verdict_stands v e) = record { out = refl; verdict = e }
leaves o w s _ _ (goal_is_due g e f) = record { out = refl; front = refl; open_ = e }
leaves o w s _ _ (fact_is_unmet i n f) = record { out = refl; front = refl; open_ = n.open_ }
leaves o w s r u (orphan_is_dropped p n e f d) = leaves o w (drops w p.number s) r u d
leaves o w s _ _ (goal_is_continued g l f room) = record { out = refl; front = refl; open_ = l.none_unmet.none_due.open_ }
leaves o w s _ _ (pair_is_drawn p x l f e at room) = record { out = refl; front = refl; open_ = l.none_unmet.none_due.open_ }
leaves o w s _ _ (budget_is_out l a b c) = c
leaves o w s _ _ (budget_is_spent l a b c) = record { out = refl; verdict = refl }
leaves o w s _ _ (all_is_out l a b) = b
leaves o w s _ _ (all_is_done l a b) = record { none_unmet = l.none_unmet; nothing_waits = a; none_out = b }

-- ONE TASK

pub at_one : (t : Out) (ts : List Out) → ts ≡ t ∷ [] → out_at t.ticket ts ≡ Some t
at_one t ts e = let same : (t.ticket == t.ticket) ≡ true = eq-eqb t.ticket t.ticket refl in rw (e, same) refl

pub without_one : (t : Out) (ts : List Out) → ts ≡ t ∷ [] → without t.ticket ts ≡ []
without_one t ts e = let same : (t.ticket == t.ticket) ≡ true = eq-eqb t.ticket t.ticket refl in rw (e, same) refl

-- the only task that is out has this ticket
pub only_one : (t u : Out) (ts : List Out) (n : ℕ) → ts ≡ t ∷ [] → out_at n ts ≡ Some u → u ≡ t
only_one t u ts n e at = elim (cases_Bool (t.ticket == n)) [
  | inl b ↦ (let f : Some t ≡ Some u = rw (e, b) at at in cc)
  | inr b ↦ absurd (let f : out_at n [] ≡ Some u = rw (e, b) at at in cc)
]

-- COMMITS

-- what dies and what is formed leaves these
pub record Stays (s u : State) : Type 0 where
  pub out : u.out ≡ s.out
  pub verdict : u.verdict ≡ s.verdict
  pub history : u.history ≡ s.history

pub kills_stay : (i k : ℕ) (s : State) → Stays s (kills i k s)
kills_stay i k s = elim (cases_Bool (is_dead s.entries k)) as (λ _. Stays s (cond (is_dead s.entries k) s (dies i k s))) [
  | inl e ↦ rw e (record { out = refl; verdict = refl; history = refl })
  | inr e ↦ rw e (record { out = refl; verdict = refl; history = refl })
]

pub each_stay : (i : ℕ) (ks : List ℕ) (s : State) → Stays s (each (kills i) ks s)
each_stay i [] s = record { out = refl; verdict = refl; history = refl }
each_stay i (k ∷ ks) s =
    let a = kills_stay i k s in
    let b = each_stay i ks (kills i k s) in
    record { out = b.out ∙ a.out; verdict = b.verdict ∙ a.verdict; history = b.history ∙ a.history }

pub visits_stay : (i : ℕ) (ks : List ℕ) (fs : List Formed) (s : State) → Stays s (visits i ks fs s)
visits_stay i ks fs s = let a = each_stay i ks s in record { out = a.out; verdict = a.verdict; history = a.history }

meets_out : (o : Opening) (t : Out) (i pairs : ℕ) (does : State → State) (s u : State) → ((x : State) → Stays x (does x)) → Meets o t i pairs does s u → u.out ≡ without t.ticket s.out
meets_out o t i pairs does s _ d (within_limit died a b) = (d _).out
meets_out o t i pairs does s _ d (past_limit more a b) = refl

goal_out : (kind : ℕ → ℕ → GoalEnd → Happening) (t : Out) (g : ℕ) (l r : Chain) (stop : Stop) (s u : State) → GoalEnds kind t g l r stop s u → u.out ≡ without t.ticket s.out
goal_out kind t g l r stop s _ (ends_meet e) = refl
goal_out kind t g l r stop s _ (ends_differ c e a) = refl

pub commit_out : (o : Opening) (t : Out) (f : Finding) (s u : State) → Commits o t f s u → u.out ≡ without t.ticket s.out
commit_out o t f s _ (is_late v e) = refl
commit_out o t _ s u (goal_ends {l = l} {r = r} {stop = stop} g a b e is x) = goal_out CommitGoal t g l r stop s u x
commit_out o t _ s u (more_ends {l = l} {r = r} {stop = stop} g a b e is x) = goal_out CommitMore t g l r stop s u x
commit_out o t _ s _ (pair_joins p a e is) = refl
commit_out o t _ s _ (fact_is_kept p a e is) = refl
commit_out o t _ s u (fact_is_stale {k = k} i e is m) = meets_out o t i 0 (λ x. kills k i x) s u (kills_stay k i) m
commit_out o t _ s u (fact_is_dead i e is d m) = meets_out o t i 0 stays s u (λ x. record { out = refl; verdict = refl; history = refl }) m
commit_out o t _ s u (fact_meets {ks = ks} {fs = fs} i e is d m) = meets_out o t i (newly_waiting fs (each (λ c. kills i c) ks s)) (λ x. visits i ks fs x) s u (visits_stay i ks fs) m

-- the only task that is out ends
pub one_commits : (o : Opening) (t : Out) (f : Finding) (s u : State) → s.out ≡ t ∷ [] → Commits o t f s u → u.out ≡ []
one_commits o t f s u e c = commit_out o t f s u c ∙ without_one t s.out e

-- a task that is put back ends
reclaim_ends : (n w fr : ℕ) (j : Job) (s : State) → (let t : Out = record { ticket = n; worker = w; job = j; front = fr } in (reclaims t s).out ≡ without n s.out)
reclaim_ends n w fr (Goal g l r) s = refl
reclaim_ends n w fr (More g l r) s = refl
reclaim_ends n w fr (Meet i) s = refl
reclaim_ends n w fr (Join p a) s = refl

pub one_reclaims : (t : Out) (s : State) → s.out ≡ t ∷ [] → (reclaims t s).out ≡ []
one_reclaims t s e = reclaim_ends t.ticket t.worker t.front t.job s ∙ without_one t s.out e
