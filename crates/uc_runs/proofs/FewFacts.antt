-- In every state of a run no more facts are born than units are counted.
use Rattle.std.proofs.Common.{◌≡◌, ℕ, ◌+◌, ◌≤◌, List, [], ◌∷◌, ◌++◌, length, ap, ◌∙◌, arith, inl, inr}
use Rattle.std.proofs.lemmas.Bool.{cases_Bool}
use Rattle.std.proofs.lemmas.List.{length-append}
use Rattle.uc_order.specs.Laws.{Meaning}
use Rattle.uc_fact.specs.declared.chain.Chain.{Chain}
use Rattle.uc_fact.specs.declared.fact.Fact.{Fact}
use Rattle.uc_fact.specs.declared.fact.Stop.{Stop}
use Rattle.uc_shelf.specs.declared.entry.Entry.{Entry}
use Rattle.uc_shelf.specs.declared.entry.Entry.TheVariants.{Born}
use Rattle.uc_shelf.specs.Entries.{born, is_dead}
use Rattle.uc_machine.specs.declared.event.Verdict.{Verdict}
use Rattle.uc_machine.specs.declared.event.GoalEnd.{GoalEnd}
use Rattle.uc_machine.specs.declared.event.Happening.{Happening}
use Rattle.uc_machine.specs.declared.event.Happening.TheVariants.{CommitGoal, CommitMore}
use Rattle.uc_machine.specs.declared.task.Finding.{Finding}
use Rattle.uc_machine.specs.declared.task.Job.{Job}
use Rattle.uc_machine.specs.declared.task.Job.TheVariants.{Goal, More, Meet, Join}
use Rattle.uc_machine.specs.declared.task.Outcome.{Outcome}
use Rattle.uc_machine.specs.Commits.{GoalEnds, ends_meet, ends_differ, Meets, within_limit, past_limit, newly_waiting, stays, Commits, is_late, goal_ends, more_ends, pair_joins, fact_is_kept, fact_is_stale, fact_is_dead, fact_meets}
use Rattle.uc_machine.specs.Draws.{Reply, Draws, verdict_stands, goal_is_due, fact_is_unmet, orphan_is_dropped, goal_is_continued, pair_is_drawn, budget_is_out, budget_is_spent, all_is_out, all_is_done}
use Rattle.uc_machine.specs.Effects.{unit_of, kills, visits, drops, reclaims}
use Rattle.uc_machine.specs.Lists.{each}
use Rattle.uc_machine.specs.Runs.{Starts, axioms_wait, too_many_axioms, AuditReply, Audits, is_closed, is_spent, is_kept, Closes, converges, has_large, has_stuck, Reaches, starts, draws_on, commits_on, reclaims_on, recalls_on, audits_on, closes_on}
use Rattle.uc_machine.specs.State.{Opening, State, Out}
use Rattle.uc_machine.proofs.Blocks.{born-append, born-dies}
use Rattle.uc_machine.proofs.Runs.{kept_reaches}

abbrev IsFew : State → Type 0
IsFew s = length (born s.entries) ≤ s.counted

one_more : (es : List Entry) (f : Fact) → length (born (es ++ Born f ∷ [])) ≡ length (born es) + 1
one_more es f = ap length (born-append es (Born f ∷ [])) ∙ length-append (born es) (f ∷ [])

more_counted : (n c k : ℕ) → n ≤ c → n ≤ c + k
more_counted n c k h = omega arith

few_kills : (i k : ℕ) (s : State) → IsFew s → IsFew (kills i k s)
few_kills i k s a = elim (cases_Bool (is_dead s.entries k)) as (λ _. IsFew (kills i k s)) [
  | inl e ↦ rw e a
  | inr e ↦ rw e (let q = born-dies s.entries k i in rw q a)
]

few_each : (i : ℕ) (ks : List ℕ) (s : State) → IsFew s → IsFew (each (kills i) ks s)
few_each i [] s a = a
few_each i (k ∷ ks) s a = few_each i ks (kills i k s) (few_kills i k s a)

few_draws : (o : Opening) (w : ℕ) (s : State) (r : Reply) (u : State) → Draws o w s r u → IsFew s → IsFew u
few_draws o w s _ _ (verdict_stands v e) a = a
few_draws o w s _ _ (goal_is_due g e f) a = a
few_draws o w s _ _ (fact_is_unmet i n f) a = a
few_draws o w s r u (orphan_is_dropped p n e f d) a = few_draws o w (drops w p.number s) r u d a
few_draws o w s _ _ (goal_is_continued g l f room) a = a
few_draws o w s _ _ (pair_is_drawn p x l f e at room) a = a
few_draws o w s _ _ (budget_is_out l b c d) a = a
few_draws o w s _ _ (budget_is_spent l b c d) a = a
few_draws o w s _ _ (all_is_out l b c) a = a
few_draws o w s _ _ (all_is_done l b c) a = a

few_goal : (kind : ℕ → ℕ → GoalEnd → Happening) (t : Out) (g : ℕ) (l r : Chain) (stop : Stop) (s u : State) → GoalEnds kind t g l r stop s u → IsFew s → IsFew u
few_goal kind t g l r stop s _ (ends_meet e) a = more_counted (length (born s.entries)) s.counted (unit_of t.job) a
few_goal kind t g l r stop s _ (ends_differ c e b) a = more_counted (length (born s.entries)) s.counted (unit_of t.job) a

few_meets : (o : Opening) (t : Out) (i pairs : ℕ) (does : State → State) (s u : State) → ((x : State) → IsFew x → IsFew (does x)) → Meets o t i pairs does s u → IsFew s → IsFew u
few_meets o t i pairs does s _ g (within_limit died b c) a = g _ (more_counted (length (born s.entries)) s.counted (unit_of t.job) a)
few_meets o t i pairs does s _ g (past_limit more b c) a = more_counted (length (born s.entries)) s.counted (unit_of t.job) a

few_commits : (o : Opening) (t : Out) (f : Finding) (s u : State) → Commits o t f s u → IsFew s → IsFew u
few_commits o t f s _ (is_late v e) a = more_counted (length (born s.entries)) s.counted (unit_of t.job) a
few_commits o t _ s u (goal_ends {l = l} {r = r} {stop = stop} g x y e is b) a = few_goal CommitGoal t g l r stop s u b a
few_commits o t _ s u (more_ends {l = l} {r = r} {stop = stop} g x y e is b) a = few_goal CommitMore t g l r stop s u b a
few_commits o t _ s _ (pair_joins p b e is) a = more_counted (length (born s.entries)) s.counted (unit_of t.job) a
few_commits o t _ s _ (fact_is_kept {f = f} p b e is) a =
    let before : length (born s.entries) ≤ s.counted = a in
    let unit : unit_of t.job ≡ 1 = ap unit_of is in
    let new : length (born (s.entries ++ Born f ∷ [])) ≡ length (born s.entries) + 1 = one_more s.entries f in
    omega arith
few_commits o t _ s u (fact_is_stale {k = k} i e is b) a = few_meets o t i 0 (λ y. kills k i y) s u (λ y z. few_kills k i y z) b a
few_commits o t _ s u (fact_is_dead i e is d b) a = few_meets o t i 0 stays s u (λ y z. z) b a
few_commits o t _ s u (fact_meets {ks = ks} {fs = fs} i e is d b) a = few_meets o t i (newly_waiting fs (each (λ c. kills i c) ks s)) (λ y. visits i ks fs y) s u (λ y z. few_each i ks y z) b a

few_restored : (n w fr : ℕ) (j : Job) (s : State) → (let t : Out = record { ticket = n; worker = w; job = j; front = fr } in IsFew s → IsFew (reclaims t s))
few_restored n w fr (Goal g l r) s a = a
few_restored n w fr (More g l r) s a = a
few_restored n w fr (Meet i) s a = a
few_restored n w fr (Join p b) s a = a

few_recalled : (ts : List Out) (s : State) → IsFew s → IsFew (each reclaims ts s)
few_recalled [] s a = a
few_recalled (t ∷ ts) s a = few_recalled ts (reclaims t s) (few_restored t.ticket t.worker t.front t.job s a)

few_audits : (o : Opening) (f : Fact) (s u : State) (r : AuditReply) → Audits o f s r u → IsFew s → IsFew u
few_audits o f s _ _ (is_closed v e) a = a
few_audits o f s _ _ (is_spent e c) a = a
few_audits o f s _ _ (is_kept e c) a =
    let before : length (born s.entries) ≤ s.counted = a in
    let new : length (born (s.entries ++ Born f ∷ [])) ≡ length (born s.entries) + 1 = one_more s.entries f in
    omega arith

few_closes : (s u : State) (outcome : Outcome) (v : Verdict) → Closes s outcome v u → IsFew s → IsFew u
few_closes s _ _ _ converges a = a
few_closes s _ _ _ has_large a = a
few_closes s _ _ _ has_stuck a = a

few_starts : (o : Opening) (s : State) → Starts o s → IsFew s
few_starts o _ (axioms_wait l) = omega arith
few_starts o _ (too_many_axioms l) = omega arith

module _ (m : Meaning) (o : Opening) where
  few_facts : (s : State) → Reaches m o s → IsFew s
  few_facts s (starts a) = few_starts o s a
  few_facts u (draws_on {s = s} {r = r} w l a d) = few_draws o w s r u d (few_facts s a)
  few_facts u (commits_on {s = s} {f = f} t at right a c) = few_commits o t f s u c (few_facts s a)
  few_facts _ (reclaims_on {s = s} t at a) = few_restored t.ticket t.worker t.front t.job s (few_facts s a)
  few_facts _ (recalls_on {s = s} a) = few_recalled s.out s (few_facts s a)
  few_facts u (audits_on {s = s} {answer = r} x may a b) = few_audits o x.fact s u r b (few_facts s a)
  few_facts u (closes_on {s = s} {outcome = outcome} {v = v} d f a c) = few_closes s u outcome v c (few_facts s a)

  pub facts_within : (s : State) → Reaches m o s → length (born s.entries) ≤ o.budget
  facts_within s r =
      let few : length (born s.entries) ≤ s.counted = few_facts s r in
      let within : s.counted + s.reserved ≤ o.budget = (kept_reaches m o s r).accounts.within in
      omega arith
