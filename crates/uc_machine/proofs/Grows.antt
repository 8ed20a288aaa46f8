-- Entries only grow.
use Rattle.std.proofs.Common.{◌≡◌, ℕ, List, [], ◌∷◌, ◌++◌, refl, ap, sym, ◌∙◌, inl, inr, append_assoc}
use Rattle.std.proofs.lemmas.Bool.{cases_Bool}
use Rattle.std.proofs.lemmas.List.{append-nil}
use Rattle.uc_fact.specs.declared.chain.Chain.{Chain}
use Rattle.uc_fact.specs.declared.fact.Fact.{Fact}
use Rattle.uc_fact.specs.declared.fact.Stop.{Stop}
use Rattle.uc_shelf.specs.declared.entry.Entry.{Entry}
use Rattle.uc_shelf.specs.declared.entry.Entry.TheVariants.{Born, Dies}
use Rattle.uc_shelf.specs.Entries.{is_dead}
use Rattle.uc_machine.specs.declared.event.Verdict.{Verdict}
use Rattle.uc_machine.specs.declared.event.GoalEnd.{GoalEnd}
use Rattle.uc_machine.specs.declared.event.Happening.{Happening}
use Rattle.uc_machine.specs.declared.event.Happening.TheVariants.{CommitGoal, CommitMore}
use Rattle.uc_machine.specs.declared.task.Job.{Job}
use Rattle.uc_machine.specs.declared.task.Job.TheVariants.{Goal, More, Meet, Join}
use Rattle.uc_machine.specs.Lists.{each}
use Rattle.uc_machine.specs.State.{Opening, State, Out}
use Rattle.uc_machine.specs.Effects.{kills, reclaims, recalls, drops, visits}
use Rattle.uc_machine.specs.declared.task.Finding.{Finding}
use Rattle.uc_machine.specs.declared.task.Outcome.{Outcome}
use Rattle.uc_machine.specs.Draws.{Reply, Draws, verdict_stands, goal_is_due, fact_is_unmet, orphan_is_dropped, goal_is_continued, pair_is_drawn, budget_is_out, budget_is_spent, all_is_out, all_is_done}
use Rattle.uc_machine.specs.Commits.{GoalEnds, ends_meet, ends_differ, Meets, within_limit, past_limit, newly_waiting, stays, Commits, is_late, goal_ends, more_ends, pair_joins, fact_is_kept, fact_is_stale, fact_is_dead, fact_meets}
use Rattle.uc_machine.specs.Runs.{AuditReply, Audits, is_closed, is_spent, is_kept, Closes, converges, has_large, has_stuck}
use Rattle.uc_machine.specs.Promises.{Grew}

pub same : (es : List Entry) → Grew es es
same es = record { more = []; is = sym (append-nil es) }

pub further : (es fs gs : List Entry) → Grew es fs → Grew fs gs → Grew es gs
further es fs gs a b = record { more = a.more ++ b.more; is = b.is ∙ ap (λ z. z ++ b.more) a.is ∙ append_assoc es a.more b.more }

pub draws_grew : (o : Opening) (w : ℕ) (s : State) (r : Reply) (u : State) → Draws o w s r u → Grew s.entries u.entries
draws_grew o w s _ _ (verdict_stands v e) = same s.entries
draws_grew o w s _ _ (goal_is_due g e f) = same s.entries
draws_grew o w s _ _ (fact_is_unmet i n f) = same s.entries
draws_grew o w s r u (orphan_is_dropped p n e f d) = draws_grew o w (drops w p.number s) r u d
draws_grew o w s _ _ (goal_is_continued g l f room) = same s.entries
draws_grew o w s _ _ (pair_is_drawn p x l f e at room) = same s.entries
draws_grew o w s _ _ (budget_is_out l a b c) = same s.entries
draws_grew o w s _ _ (budget_is_spent l a b c) = same s.entries
draws_grew o w s _ _ (all_is_out l a b) = same s.entries
draws_grew o w s _ _ (all_is_done l a b) = same s.entries

pub kills_grew : (i k : ℕ) (s : State) → Grew s.entries ((kills i k s).entries)
kills_grew i k s = elim (cases_Bool (is_dead s.entries k)) as (λ _. Grew s.entries ((kills i k s).entries)) [
  | inl e ↦ rw e (same s.entries)
  | inr e ↦ rw e (record { more = Dies k i ∷ []; is = refl })
]

pub each_grew : (i : ℕ) (ks : List ℕ) (s : State) → Grew s.entries ((each (kills i) ks s).entries)
each_grew i [] s = same s.entries
each_grew i (k ∷ ks) s = further _ _ _ (kills_grew i k s) (each_grew i ks (kills i k s))

meets_grew : (o : Opening) (t : Out) (i pairs : ℕ) (does : State → State) (s u : State) → ((x : State) → Grew x.entries ((does x).entries)) → Meets o t i pairs does s u → Grew s.entries u.entries
meets_grew o t i pairs does s _ g (within_limit died a b) = g _
meets_grew o t i pairs does s _ g (past_limit more a b) = same s.entries

goal_grew : (kind : ℕ → ℕ → GoalEnd → Happening) (t : Out) (g : ℕ) (l r : Chain) (stop : Stop) (s u : State) → GoalEnds kind t g l r stop s u → Grew s.entries u.entries
goal_grew kind t g l r stop s _ (ends_meet e) = same s.entries
goal_grew kind t g l r stop s _ (ends_differ c e a) = same s.entries

pub commits_grew : (o : Opening) (t : Out) (f : Finding) (s u : State) → Commits o t f s u → Grew s.entries u.entries
commits_grew o t f s _ (is_late v e) = same s.entries
commits_grew o t _ s u (goal_ends {l = l} {r = r} {stop = stop} g a b e is x) = goal_grew CommitGoal t g l r stop s u x
commits_grew o t _ s u (more_ends {l = l} {r = r} {stop = stop} g a b e is x) = goal_grew CommitMore t g l r stop s u x
commits_grew o t _ s _ (pair_joins p a e is) = same s.entries
commits_grew o t _ s _ (fact_is_kept {f = f} p a e is) = record { more = Born f ∷ []; is = refl }
commits_grew o t _ s u (fact_is_stale {k = k} i e is m) = meets_grew o t i 0 (λ x. kills k i x) s u (λ x. kills_grew k i x) m
commits_grew o t _ s u (fact_is_dead i e is d m) = meets_grew o t i 0 stays s u (λ x. same x.entries) m
commits_grew o t _ s u (fact_meets {ks = ks} {fs = fs} i e is d m) = meets_grew o t i (newly_waiting fs (each (λ c. kills i c) ks s)) (λ x. visits i ks fs x) s u (λ x. each_grew i ks x) m

pub reclaim_same : (n w f : ℕ) (j : Job) (s : State) → (let t : Out = record { ticket = n; worker = w; job = j; front = f } in (reclaims t s).entries ≡ s.entries)
reclaim_same n w f (Goal g l r) s = refl
reclaim_same n w f (More g l r) s = refl
reclaim_same n w f (Meet i) s = refl
reclaim_same n w f (Join p a) s = refl

unchanged : (es fs : List Entry) → fs ≡ es → Grew es fs
unchanged es fs e = record { more = []; is = e ∙ sym (append-nil es) }

pub reclaims_grew : (t : Out) (s : State) → Grew s.entries ((reclaims t s).entries)
reclaims_grew t s = unchanged _ _ (reclaim_same t.ticket t.worker t.front t.job s)

pub recall_same : (ts : List Out) (s : State) → (each reclaims ts s).entries ≡ s.entries
recall_same [] s = refl
recall_same (t ∷ ts) s = recall_same ts (reclaims t s) ∙ reclaim_same t.ticket t.worker t.front t.job s

pub recalls_grew : (s : State) → Grew s.entries ((recalls s).entries)
recalls_grew s = unchanged _ _ (recall_same s.out s)

pub audits_grew : (o : Opening) (f : Fact) (s u : State) (r : AuditReply) → Audits o f s r u → Grew s.entries u.entries
audits_grew o f s _ _ (is_closed v e) = same s.entries
audits_grew o f s _ _ (is_spent e c) = same s.entries
audits_grew o f s _ _ (is_kept e c) = record { more = Born f ∷ []; is = refl }

pub closes_grew : (s u : State) (outcome : Outcome) (v : Verdict) → Closes s outcome v u → Grew s.entries u.entries
closes_grew s _ _ _ converges = same s.entries
closes_grew s _ _ _ has_large = same s.entries
closes_grew s _ _ _ has_stuck = same s.entries
