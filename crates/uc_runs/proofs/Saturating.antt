-- A run whose verdict is Saturated was closed over a drained state, since when nothing came; there the ends of each goal differ,
-- and no step leads on from them.
use Rattle.std.proofs.Common.{◌≡◌, ℕ, zero, suc, List, [], ◌∷◌, Bool, false, Option, Some, None, refl, ap, sym, ◌∙◌, inl, inr, subst, slice_get}
use Rattle.std.proofs.lemmas.Bool.{cases_Bool}
use Rattle.uc_order.specs.Laws.{Meaning}
use Rattle.uc_fact.specs.declared.chain.Chain.{Chain}
use Rattle.uc_fact.specs.declared.fact.Stop.{Stop}
use Rattle.uc_fact.specs.declared.fact.System.{System}
use Rattle.uc_fact.specs.Live.{equations_of}
use Rattle.uc_shelf.specs.Entries.{live}
use Rattle.uc_machine.specs.declared.state.Stage.{Stage}
use Rattle.uc_machine.specs.declared.state.Stage.TheVariants.{Due, Busy, Continued, Settled, Stuck}
use Rattle.uc_machine.specs.declared.event.Verdict.{Verdict}
use Rattle.uc_machine.specs.declared.event.Verdict.TheVariants.{Saturated}
use Rattle.uc_machine.specs.declared.event.GoalEnd.{GoalEnd}
use Rattle.uc_machine.specs.declared.event.Happening.{Happening}
use Rattle.uc_machine.specs.declared.task.Finding.{Finding}
use Rattle.uc_machine.specs.declared.task.Outcome.{Outcome}
use Rattle.uc_machine.specs.declared.task.Outcome.TheVariants.{Convergent}
use Rattle.uc_machine.specs.Commits.{GoalEnds, ends_meet, ends_differ, Meets, within_limit, past_limit, newly_waiting, stays, Commits, is_late, goal_ends, more_ends, pair_joins, fact_is_kept, fact_is_stale, fact_is_dead, fact_meets}
use Rattle.uc_machine.specs.Effects.{closes, kills, visits, reclaims, recalls}
use Rattle.uc_machine.specs.Finals.{IsFinal, some_missing, some_large, some_stuck, all_converges, is_stuck, first_stuck}
use Rattle.uc_machine.specs.Lists.{At, first, later, each, Each}
use Rattle.uc_machine.specs.Promises.{StaysAtRest}
use Rattle.uc_machine.specs.Runs.{Starts, axioms_wait, too_many_axioms, Closes, converges, has_large, has_stuck, IsDrained, Reaches, starts, draws_on, commits_on, reclaims_on, recalls_on, audits_on, closes_on}
use Rattle.uc_machine.specs.State.{Opening, State, Target, Out, is_due, is_continued, out_at}
use Rattle.uc_runs.specs.Saturated.{EndsDiffer, IsSaturated}
use Rattle.uc_runs.proofs.AtRest.{goals_at_rest}
use Rattle.uc_runs.proofs.OpenGoals.{IsOut, held_reaches}
use Rattle.uc_runs.proofs.Verdicts.{draws_nothing, audits_nothing, kills_verdict, each_verdict, restored_verdict, recalled_verdict}
use Rattle.uc_runs.proofs.EachFact.{each_get}

abbrev Ends : State → Type 0
Ends s = s.verdict ≡ Some Saturated

goal_verdict : (kind : ℕ → ℕ → GoalEnd → Happening) (t : Out) (g : ℕ) (l r : Chain) (stop : Stop) (s u : State) → GoalEnds kind t g l r stop s u → Ends u → Ends s
goal_verdict kind t g l r stop s _ (ends_meet e) h = absurd (cc)
goal_verdict kind t g l r stop s _ (ends_differ c e a) h = h

meets_verdict : (o : Opening) (t : Out) (i pairs : ℕ) (does : State → State) (s u : State) → ((x : State) → (does x).verdict ≡ x.verdict) → Meets o t i pairs does s u → Ends u → Ends s
meets_verdict o t i pairs does s _ g (within_limit died b c) h = sym (g _) ∙ h
meets_verdict o t i pairs does s _ g (past_limit more b c) h = absurd (cc)

commits_verdict : (o : Opening) (t : Out) (f : Finding) (s u : State) → Commits o t f s u → Ends u → Ends s
commits_verdict o t f s _ (is_late v e) h = h
commits_verdict o t _ s u (goal_ends {l = l} {r = r} {stop = stop} g a b e is x) h = goal_verdict _ t g l r stop s u x h
commits_verdict o t _ s u (more_ends {l = l} {r = r} {stop = stop} g a b e is x) h = goal_verdict _ t g l r stop s u x h
commits_verdict o t _ s _ (pair_joins p a e is) h = h
commits_verdict o t _ s _ (fact_is_kept {f = f} p a e is) h = h
commits_verdict o t _ s u (fact_is_stale {k = k} i e is x) h = meets_verdict o t i 0 (λ y. kills k i y) s u (λ y. kills_verdict k i y) x h
commits_verdict o t _ s u (fact_is_dead i e is d x) h = meets_verdict o t i 0 stays s u (λ y. refl) x h
commits_verdict o t _ s u (fact_meets {ks = ks} {fs = fs} i e is d x) h = meets_verdict o t i (newly_waiting fs (each (λ c. kills i c) ks s)) (λ y. visits i ks fs y) s u (λ y. each_verdict i ks y) x h

recalls_nothing : (ts : List Out) (s : State) → ts ≡ [] → each reclaims ts s ≡ s
recalls_nothing [] s e = refl
recalls_nothing (t ∷ ts) s e = absurd (cc)

none_at : {A : Type 0} (n : ℕ) (out : List Out) (t : Out) → out ≡ [] → out_at n out ≡ Some t → A
none_at n [] t e at = absurd (cc)
none_at n (u ∷ out) t e at = absurd (cc)

-- the stages of goals

not_later : {A : Type 0} (r : Option (At A)) → later r ≡ None → r ≡ None
not_later None e = refl
not_later (Some f) e = absurd (cc)

none_first : {A : Type 0} (p : A → Bool) (xs : List A) → first p xs ≡ None → Each (λ (x : A). p x ≡ false) xs
none_first p [] e = tt
none_first {A = A} p (x ∷ xs) e = elim (cases_Bool (p x)) [
  | inl b ↦ (let q : Some (let g : At A = record { number = 0; here = x } in g) ≡ None = rw b at e in absurd (cc))
  | inr b ↦ (b, none_first p xs (not_later (first p xs) (rw b at e)))
]

is_settled : (c : Stage) → is_due c ≡ false → is_continued c ≡ false → is_stuck c ≡ false → (c ≡ Busy → ⊥) → c ≡ Settled
is_settled Due a b d k = absurd (cc)
is_settled Busy a b d k = absurd (k refl)
is_settled Continued a b d k = absurd (cc)
is_settled Settled a b d k = refl
is_settled Stuck a b d k = absurd (cc)

each_by_number : {A : Type 0} (P : A → Type 0) (xs : List A) → ((n : ℕ) (x : A) → slice_get xs n ≡ Some x → P x) → Each P xs
each_by_number P [] h = tt
each_by_number P (x ∷ xs) h = (h zero x refl, each_by_number P xs (λ n y at. h (suc n) y at))

none_out : (n : ℕ) (out : List Out) → out ≡ [] → IsOut n out → ⊥
none_out n [] e h = h
none_out n (t ∷ out) e h = cc

module _ (m : Meaning) (o : Opening) where
  record IsClosed (s : State) : Type 0 where
    drained : State
    reaches : Reaches m o drained
    is_drained : IsDrained drained
    system : System
    is_final : IsFinal m o.axioms drained (Convergent system)
    closed : s ≡ closes 0 Saturated drained

  closes_so : (s u : State) (outcome : Outcome) (v : Verdict) → Closes s outcome v u → IsDrained s → IsFinal m o.axioms s outcome → Reaches m o s → Ends u → IsClosed u
  closes_so s _ _ _ (converges {facts = facts}) d f a h = record { drained = s; reaches = a; is_drained = d; system = facts; is_final = f; closed = refl }
  closes_so s _ _ _ has_large d f a h = absurd (cc)
  closes_so s _ _ _ has_stuck d f a h = absurd (cc)

  starts_open : (s : State) → Starts o s → Ends s → ⊥
  starts_open _ (axioms_wait l) h = cc
  starts_open _ (too_many_axioms l) h = cc

  -- no task is out
  closed_out : (s : State) → IsClosed s → s.out ≡ []
  closed_out s c = ap (λ (z : State). z.out) c.closed ∙ c.is_drained.none_out

  same_closed : (s u : State) → u ≡ s → IsClosed s → IsClosed u
  same_closed s u e c = subst IsClosed (sym e) c

  was_closed : (s : State) → Reaches m o s → Ends s → IsClosed s
  was_closed s (starts a) h = absurd (starts_open s a h)
  was_closed u (draws_on {s = s} {r = r} w l a d) h = let e = draws_nothing Saturated (λ n q. cc) o w s r u d h in same_closed s u e (was_closed s a (sym (ap (λ (z : State). z.verdict) e) ∙ h))
  was_closed u (commits_on {s = s} {f = f} t at right a c) h = none_at t.ticket s.out t (closed_out s (was_closed s a (commits_verdict o t f s u c h))) at
  was_closed _ (reclaims_on {s = s} t at a) h = none_at t.ticket s.out t (closed_out s (was_closed s a (sym (restored_verdict t.ticket t.worker t.front t.job s) ∙ h))) at
  was_closed _ (recalls_on {s = s} a) h = let c = was_closed s a (sym (recalled_verdict s.out s) ∙ h) in same_closed s (recalls s) (recalls_nothing s.out s (closed_out s c)) c
  was_closed u (audits_on {s = s} {answer = r} x may a b) h = let e = audits_nothing Saturated (λ n q. cc) o x.fact s u r b h in same_closed s u e (was_closed s a (sym (ap (λ (z : State). z.verdict) e) ∙ h))
  was_closed u (closes_on {s = s} {outcome = outcome} {v = v} d f a c) h = closes_so s u outcome v c d f a h

  -- a convergent answer has the facts that live, and no goal is Stuck
  record Converges (s : State) : Type 0 where
    live_facts : IsFinal m o.axioms s (Convergent (record { facts = equations_of (live s.entries) }))
    none_stuck : first_stuck s.goals ≡ None

  final_converges : (s : State) (outcome : Outcome) (system : System) → IsFinal m o.axioms s outcome → outcome ≡ Convergent system → Converges s
  final_converges s _ system (some_missing a b c) e = absurd (cc)
  final_converges s _ system (some_large a b c) e = absurd (cc)
  final_converges s _ system (some_stuck g a b c d) e = absurd (cc)
  final_converges s _ system (all_converges a b c d) e = record { live_facts = all_converges a b c d; none_stuck = d }

  drained_goals : (s : State) → Reaches m o s → IsDrained s → first_stuck s.goals ≡ None → Each (EndsDiffer m s.entries) s.goals
  drained_goals s r d stuck = each_by_number (EndsDiffer m s.entries) s.goals goal
    where
      goal : (n : ℕ) (x : Target) → slice_get s.goals n ≡ Some x → EndsDiffer m s.entries x
      goal n x at =
          let open_ = d.none_unmet.none_due.open_ in
          let held = held_reaches m o s r open_ in
          let not_due = each_get (λ (y : Target). is_due y.stage ≡ false) s.goals (none_first (λ (y : Target). is_due y.stage) s.goals d.none_unmet.none_due.none_due) n x at in
          let not_continued = each_get (λ (y : Target). is_continued y.stage ≡ false) s.goals (none_first (λ (y : Target). is_continued y.stage) s.goals d.nothing_waits.no_goal) n x at in
          let not_stuck = each_get (λ (y : Target). is_stuck y.stage ≡ false) s.goals (none_first (λ (y : Target). is_stuck y.stage) s.goals stuck) n x at in
          let settled : x.stage ≡ Settled = is_settled x.stage not_due not_continued not_stuck (λ b. none_out n s.out d.none_out (held.busy n x at b)) in
          let rest = (each_get (StaysAtRest m s.entries) s.goals (goals_at_rest m o s r) n x at).settled settled in
          record { settled = settled; left_stays = rest.0; right_stays = rest.1; differ = held.differ n x at settled }

  pub saturated : (s : State) → Reaches m o s → s.verdict ≡ Some Saturated → IsSaturated m o s
  saturated s r h =
      let c = was_closed s r h in
      let f = final_converges c.drained (Convergent c.system) c.system c.is_final refl in
      record {
        drained = c.drained;
        reaches = c.reaches;
        is_drained = c.is_drained;
        is_final = f.live_facts;
        closed = c.closed;
        goals = subst (λ (z : State). Each (EndsDiffer m z.entries) z.goals) (sym c.closed) (drained_goals c.drained c.reaches c.is_drained f.none_stuck);
      }
