-- In every state of a run each kept fact's front is earlier, and its Full sides are irreducible there.
use Rattle.std.proofs.Common.{◌≡◌, ℕ, ◌≤◌, List, [], ◌∷◌, length, refl, sym, inl, inr, subst, take}
use Rattle.std.proofs.lemmas.Bool.{cases_Bool}
use Rattle.uc_fact.specs.declared.chain.Chain.{Chain}
use Rattle.uc_fact.specs.declared.fact.Stop.{Stop}
use Rattle.uc_shelf.specs.declared.entry.Entry.{Entry}
use Rattle.uc_shelf.specs.Entries.{is_dead}
use Rattle.uc_machine.specs.declared.event.Verdict.{Verdict}
use Rattle.uc_machine.specs.declared.event.GoalEnd.{GoalEnd}
use Rattle.uc_machine.specs.declared.event.Happening.{Happening}
use Rattle.uc_machine.specs.declared.event.Happening.TheVariants.{CommitGoal, CommitMore}
use Rattle.uc_machine.specs.Lists.{each}
use Rattle.uc_machine.specs.State.{Opening, State, Out}
use Rattle.uc_machine.specs.Effects.{kills, reclaims, recalls, drops, visits}
use Rattle.uc_order.specs.Laws.{Meaning, Laws}
use Rattle.uc_machine.specs.declared.task.Finding.{Finding}
use Rattle.uc_machine.specs.declared.task.Missing.{Missing}
use Rattle.uc_machine.specs.declared.task.Outcome.{Outcome}
use Rattle.uc_machine.specs.Draws.{Reply, Draws, verdict_stands, goal_is_due, fact_is_unmet, orphan_is_dropped, goal_is_continued, pair_is_drawn, budget_is_out, budget_is_spent, all_is_out, all_is_done}
use Rattle.uc_machine.specs.Commits.{GoalEnds, ends_meet, ends_differ, Meets, within_limit, past_limit, newly_waiting, stays, Commits, is_late, goal_ends, more_ends, pair_joins, fact_is_kept, fact_is_stale, fact_is_dead, fact_meets}
use Rattle.uc_machine.specs.Results.{IsResult}
use Rattle.uc_machine.specs.Runs.{Starts, axioms_wait, too_many_axioms, AuditReply, Audits, is_closed, is_spent, is_kept, Closes, converges, has_large, has_stuck, AreAudited, none_yet, one_more, MayAudit, Reaches, starts, draws_on, commits_on, reclaims_on, recalls_on, audits_on, closes_on}
use Rattle.uc_machine.specs.Promises.{Grew, FrontsAreEarlier}
use Rattle.uc_machine.proofs.Audited.{was_missing}
use Rattle.uc_machine.proofs.Kept.{IsKnown}
use Rattle.uc_machine.proofs.Lists.{Each-at}
use Rattle.uc_machine.proofs.Grows.{same, further, audits_grew, reclaim_same, recall_same}
use Rattle.uc_runs.proofs.Fronts.{EarlierIn, earlier_born, earlier_dies, kept_by_join, kept_by_audit}
use Rattle.uc_machine.proofs.Runs.{kept_reaches}

pub draws_same : (o : Opening) (w : ℕ) (s : State) (r : Reply) (u : State) → Draws o w s r u → u.entries ≡ s.entries
draws_same o w s _ _ (verdict_stands v e) = refl
draws_same o w s _ _ (goal_is_due g e f) = refl
draws_same o w s _ _ (fact_is_unmet i n f) = refl
draws_same o w s r u (orphan_is_dropped p n e f d) = draws_same o w (drops w p.number s) r u d
draws_same o w s _ _ (goal_is_continued g l f room) = refl
draws_same o w s _ _ (pair_is_drawn p x l f e at room) = refl
draws_same o w s _ _ (budget_is_out l a b c) = refl
draws_same o w s _ _ (budget_is_spent l a b c) = refl
draws_same o w s _ _ (all_is_out l a b) = refl
draws_same o w s _ _ (all_is_done l a b) = refl

pub closes_same : (s u : State) (outcome : Outcome) (v : Verdict) → Closes s outcome v u → u.entries ≡ s.entries
closes_same s _ _ _ converges = refl
closes_same s _ _ _ has_large = refl
closes_same s _ _ _ has_stuck = refl

pub goal_same : (kind : ℕ → ℕ → GoalEnd → Happening) (t : Out) (g : ℕ) (l r : Chain) (stop : Stop) (s u : State) → GoalEnds kind t g l r stop s u → u.entries ≡ s.entries
goal_same kind t g l r stop s _ (ends_meet e) = refl
goal_same kind t g l r stop s _ (ends_differ c e a) = refl

pub audited_grew : (o : Opening) (all : List Missing) (d : State) (left : List Missing) (s : State) → AreAudited o all d left s → Grew d.entries s.entries
audited_grew o all d _ _ none_yet = same d.entries
audited_grew o all d left u (one_more {missing = x} {s = s} {answer = r} a b) = further _ _ _ (audited_grew o all d (x ∷ left) s a) (audits_grew o x.fact s u r b)

module _ (m : Meaning) (laws : Laws m) where
  moved : (es fs : List Entry) → fs ≡ es → EarlierIn m laws es → EarlierIn m laws fs
  moved es fs e h = subst (EarlierIn m laws) (sym e) h

  kills_earlier : (i k : ℕ) (u : State) → EarlierIn m laws u.entries → EarlierIn m laws ((kills i k u).entries)
  kills_earlier i k u h = elim (cases_Bool (is_dead u.entries k)) as (λ _. EarlierIn m laws ((kills i k u).entries)) [
    | inl e ↦ rw e h
    | inr e ↦ rw e (earlier_dies m laws u.entries k i h)
  ]

  each_earlier : (i : ℕ) (ks : List ℕ) (u : State) → EarlierIn m laws u.entries → EarlierIn m laws ((each (kills i) ks u).entries)
  each_earlier i [] u h = h
  each_earlier i (k ∷ ks) u h = each_earlier i ks (kills i k u) (kills_earlier i k u h)

  meets_earlier : (o : Opening) (t : Out) (i pairs : ℕ) (does : State → State) (s u : State) → ((x : State) → EarlierIn m laws x.entries → EarlierIn m laws ((does x).entries)) → Meets o t i pairs does s u → EarlierIn m laws s.entries → EarlierIn m laws u.entries
  meets_earlier o t i pairs does s _ g (within_limit died a b) h = g _ h
  meets_earlier o t i pairs does s _ g (past_limit more a b) h = h

  commits_earlier : (o : Opening) (t : Out) (f : Finding) (s u : State) → t.front ≤ length s.entries → IsResult m o.axioms (take t.front s.entries) t.job f → Commits o t f s u → EarlierIn m laws s.entries → EarlierIn m laws u.entries
  commits_earlier o t f s _ low right (is_late v e) h = h
  commits_earlier o t _ s u low right (goal_ends {l = l} {r = r} {stop = stop} g a b e is x) h = moved s.entries u.entries (goal_same CommitGoal t g l r stop s u x) h
  commits_earlier o t _ s u low right (more_ends {l = l} {r = r} {stop = stop} g a b e is x) h = moved s.entries u.entries (goal_same CommitMore t g l r stop s u x) h
  commits_earlier o t _ s _ low right (pair_joins p a e is) h = h
  commits_earlier o t _ s _ low right (fact_is_kept {f = f} p a e is) h = earlier_born m laws s.entries f (kept_by_join m laws o.axioms s.entries t.front low t.job f right) h
  commits_earlier o t _ s u low right (fact_is_stale {k = k} i e is x) h = meets_earlier o t i 0 (λ y. kills k i y) s u (λ y z. kills_earlier k i y z) x h
  commits_earlier o t _ s u low right (fact_is_dead i e is d x) h = meets_earlier o t i 0 stays s u (λ y z. z) x h
  commits_earlier o t _ s u low right (fact_meets {ks = ks} {fs = fs} i e is d x) h = meets_earlier o t i (newly_waiting fs (each (λ c. kills i c) ks s)) (λ y. visits i ks fs y) s u (λ y z. each_earlier i ks y z) x h

  audits_earlier : (o : Opening) (s u : State) (x : Missing) (r : AuditReply) → MayAudit m o s x → Audits o x.fact s r u → EarlierIn m laws s.entries → EarlierIn m laws u.entries
  audits_earlier o s _ x _ a (is_closed v e) h = h
  audits_earlier o s _ x _ a (is_spent e c) h = h
  audits_earlier o s _ x _ may (is_kept e c) h = let a = was_missing m o s x may in earlier_born m laws s.entries x.fact (kept_by_audit m laws o.axioms a.drained s.entries a.all x (audited_grew o a.all a.drained (x ∷ a.left) s a.audited) a.is_final a.among) h

  starts_earlier : (o : Opening) (s : State) → Starts o s → EarlierIn m laws s.entries
  starts_earlier o _ (axioms_wait l) n f e = absurd (cc)
  starts_earlier o _ (too_many_axioms l) n f e = absurd (cc)

  pub fronts_are_earlier : (o : Opening) (s : State) → Reaches m o s → FrontsAreEarlier m s
  fronts_are_earlier o s (starts a) = starts_earlier o s a
  fronts_are_earlier o u (draws_on {s = s} {r = r} w l a d) = moved s.entries u.entries (draws_same o w s r u d) (fronts_are_earlier o s a)
  fronts_are_earlier o u (commits_on {s = s} {f = f} t at right a c) = commits_earlier o t f s u (Each-at (IsKnown (length s.entries) s.history) t.ticket s.out t at (kept_reaches m o s a).accounts.known).front right c (fronts_are_earlier o s a)
  fronts_are_earlier o _ (reclaims_on {s = s} t at a) = moved s.entries ((reclaims t s).entries) (reclaim_same t.ticket t.worker t.front t.job s) (fronts_are_earlier o s a)
  fronts_are_earlier o _ (recalls_on {s = s} a) = moved s.entries ((recalls s).entries) (recall_same s.out s) (fronts_are_earlier o s a)
  fronts_are_earlier o u (audits_on {s = s} {answer = r} x may a b) = audits_earlier o s u x r may b (fronts_are_earlier o s a)
  fronts_are_earlier o u (closes_on {s = s} {outcome = outcome} {v = v} d f a c) = moved s.entries u.entries (closes_same s u outcome v c) (fronts_are_earlier o s a)
