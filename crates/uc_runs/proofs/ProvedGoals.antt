-- In a run whose verdict is that a goal is proved, the goal's ends have met.
use Rattle.std.proofs.Common.{◌≡◌, ℕ, List, [], ◌∷◌, ◌==◌, Option, Some, None, refl, ap, sym, ◌∙◌, inl, inr, subst, take, slice_get}
use Rattle.std.proofs.lemmas.Bool.{cases_Bool, eqb-true, eqb-false}
use Rattle.uc_term.specs.Tree.{Tree}
use Rattle.uc_order.specs.Laws.{Meaning}
use Rattle.uc_fact.specs.declared.chain.Chain.{Chain}
use Rattle.uc_fact.specs.declared.fact.Stop.{Stop}
use Rattle.uc_fact.specs.Chains.{end_of}
use Rattle.uc_rewrite.specs.Replay.{LeadsFrom}
use Rattle.uc_shelf.specs.Entries.{born}
use Rattle.uc_machine.specs.declared.state.Stage.{Stage}
use Rattle.uc_machine.specs.declared.state.Stage.TheVariants.{Due, Busy, Continued}
use Rattle.uc_machine.specs.declared.event.Verdict.{Verdict}
use Rattle.uc_machine.specs.declared.event.Verdict.TheVariants.{Proved}
use Rattle.uc_machine.specs.declared.event.GoalEnd.{GoalEnd}
use Rattle.uc_machine.specs.declared.event.Happening.{Happening}
use Rattle.uc_machine.specs.declared.event.Happening.TheVariants.{CommitGoal, CommitMore}
use Rattle.uc_machine.specs.declared.task.Finding.{Finding}
use Rattle.uc_machine.specs.declared.task.Finding.TheVariants.{Ends}
use Rattle.uc_machine.specs.declared.task.Job.{Job}
use Rattle.uc_machine.specs.declared.task.Job.TheVariants.{Goal, More, Meet, Join}
use Rattle.uc_machine.specs.declared.task.Outcome.{Outcome}
use Rattle.uc_machine.specs.Commits.{GoalEnds, ends_meet, ends_differ, Meets, within_limit, past_limit, newly_waiting, stays, Commits, is_late, goal_ends, more_ends, pair_joins, fact_is_kept, fact_is_stale, fact_is_dead, fact_meets}
use Rattle.uc_machine.specs.Effects.{goes_on, kills, visits, reclaims}
use Rattle.uc_machine.specs.Lists.{change, each, map_option}
use Rattle.uc_machine.specs.Results.{IsResult}
use Rattle.uc_machine.specs.Runs.{Starts, axioms_wait, too_many_axioms, Closes, converges, has_large, has_stuck, Reaches, starts, draws_on, commits_on, reclaims_on, recalls_on, audits_on, closes_on}
use Rattle.uc_machine.specs.State.{Opening, State, Target, Out}
use Rattle.uc_machine.proofs.Kept.{IsBusy}
use Rattle.uc_machine.proofs.Lists.{Each-at, get-change_same, get-change_other}
use Rattle.uc_machine.proofs.Runs.{kept_reaches}
use Rattle.uc_machine.proofs.Steps.{at_task}
use Rattle.uc_runs.specs.Proved.{IsProved}
use Rattle.uc_runs.proofs.AtRest.{HasEnds, JobEnds, GoalResult, result_goal, result_more, rests_reaches}
use Rattle.uc_runs.proofs.EachFact.{get_there}
use Rattle.uc_runs.proofs.OpenGoals.{new_ends}
use Rattle.uc_runs.proofs.Replaying.{chains_replay}
use Rattle.uc_runs.proofs.Verdicts.{draws_nothing, audits_nothing, still_open, kills_verdict, each_verdict, restored_verdict}

-- the goal of this number is there, and its ends have met
record HasMet (g : ℕ) (gs : List Target) : Type 0 where
  target : Target
  target_is : slice_get gs g ≡ Some target
  meet : end_of target.left ≡ end_of target.right

met_staged : (c : Stage) (gs : List Target) (k g : ℕ) → HasMet g gs → HasMet g (change (λ (x : Target). record x { stage = c }) gs k)
met_staged c gs k g a = elim (cases_Bool (k == g)) [
  | inl e ↦ (let same : k ≡ g = eqb-true k g e in
      let at : slice_get (change (λ (x : Target). record x { stage = c }) gs g) g ≡ Some (record a.target { stage = c }) = get-change_same (λ (x : Target). record x { stage = c }) gs g a.target a.target_is in
      record { target = record a.target { stage = c }; target_is = subst (λ n. slice_get (change (λ (x : Target). record x { stage = c }) gs n) g ≡ Some (record a.target { stage = c })) (sym same) at; meet = a.meet })
  | inr e ↦ record { target = a.target; target_is = get-change_other (λ (x : Target). record x { stage = c }) gs k g (eqb-false k g e) ∙ a.target_is; meet = a.meet }
]

met_restored : (g n w fr : ℕ) (j : Job) (s : State) → (let t : Out = record { ticket = n; worker = w; job = j; front = fr } in HasMet g s.goals → HasMet g ((reclaims t s).goals))
met_restored g n w fr (Goal k l r) s a = met_staged Due s.goals k g a
met_restored g n w fr (More k l r) s a = met_staged Continued s.goals k g a
met_restored g n w fr (Meet i) s a = a
met_restored g n w fr (Join p b) s a = a

met_recalled : (g : ℕ) (ts : List Out) (s : State) → HasMet g s.goals → HasMet g ((each reclaims ts s).goals)
met_recalled g [] s a = a
met_recalled g (t ∷ ts) s a = met_recalled g ts (reclaims t s) (met_restored g t.ticket t.worker t.front t.job s a)

recalled_back : (ts : List Out) (s : State) (v : Option Verdict) → (each reclaims ts s).verdict ≡ v → s.verdict ≡ v
recalled_back [] s v h = h
recalled_back (t ∷ ts) s v h = sym (restored_verdict t.ticket t.worker t.front t.job s) ∙ recalled_back ts (reclaims t s) v h

some_target : (x : Option Target) (c : Stage) → map_option (λ (y : Target). y.stage) x ≡ Some c → (y : Target) × (x ≡ Some y)
some_target None c e = absurd (cc)
some_target (Some y) c e = (y, refl)

module _ (m : Meaning) (o : Opening) (g : ℕ) where
  abbrev Stands : State → Type 0
  Stands s = s.verdict ≡ Some (Proved g)

  open_ : {A : Type 0} (s : State) → s.verdict ≡ None → Stands s → A
  open_ s e h = still_open (Proved g) (λ n q. cc) s e h

  goal_met : (s : State) (kind : ℕ → ℕ → GoalEnd → Happening) (t : Out) (k : ℕ) (l r : Tree) (c d : Chain) (stop : Stop) (u : State)
      → s.verdict ≡ None → HasEnds s.goals k l r → GoalResult m (take t.front s.entries) l r c d stop → (x : Target) → slice_get s.goals k ≡ Some x → GoalEnds kind t k c d stop s u → Stands u → HasMet g u.goals
  goal_met s kind t k l r c d stop _ none has q x at (ends_meet e) h =
      let same : k ≡ g = cc in
      let ends = new_ends m s.goals (take t.front s.entries) k l r c d stop has q x at in
      let met : HasMet k (change (goes_on c d) s.goals k) = record { target = goes_on c d x; target_is = get-change_same (goes_on c d) s.goals k x at; meet = ends.0 ∙ e ∙ sym ends.1 } in
      subst (λ n. HasMet n (change (goes_on c d) s.goals k)) same met
  goal_met s kind t k l r c d stop _ none has q x at (ends_differ y e b) h = open_ s none h

  meets_open : {A : Type 0} (t : Out) (i pairs : ℕ) (does : State → State) (s u : State) → ((x : State) → (does x).verdict ≡ x.verdict) → Meets o t i pairs does s u → s.verdict ≡ None → Stands u → A
  meets_open t i pairs does s _ f (within_limit died b c) none h = open_ s none (sym (f _) ∙ h)
  meets_open t i pairs does s _ f (past_limit more b c) none h = absurd (cc)

  met_commits : (s : State) (t : Out) (f : Finding) (u : State) → IsBusy s.pairs s.goals s.meetings t.worker t.job → JobEnds s.goals t.job → IsResult m o.axioms (take t.front s.entries) t.job f → (Stands s → HasMet g s.goals) → Commits o t f s u → Stands u → HasMet g u.goals
  met_commits s t f _ busy job right a (is_late v e) h = a h
  met_commits s t _ u busy job right a (goal_ends {l = c} {r = d} {stop = stop} k x y e is ends_) h =
      let there = some_target (slice_get s.goals k) Busy (subst (λ (j : Job). IsBusy s.pairs s.goals s.meetings t.worker j) is busy) in
      goal_met s CommitGoal t k x y c d stop u e (subst (λ (j : Job). JobEnds s.goals j) is job) (result_goal m o.axioms (take t.front s.entries) t.job (Ends c d stop) right k x y c d stop is refl) there.0 there.1 ends_ h
  met_commits s t _ u busy job right a (more_ends {l = c} {r = d} {stop = stop} k x y e is ends_) h =
      let there = some_target (slice_get s.goals k) Busy (subst (λ (j : Job). IsBusy s.pairs s.goals s.meetings t.worker j) is busy) in
      goal_met s CommitMore t k x y c d stop u e (subst (λ (j : Job). JobEnds s.goals j) is job) (result_more m o.axioms (take t.front s.entries) t.job (Ends c d stop) right k x y c d stop is refl) there.0 there.1 ends_ h
  met_commits s t _ _ busy job right a (pair_joins p b e is) h = open_ s e h
  met_commits s t _ _ busy job right a (fact_is_kept {f = f} p b e is) h = open_ s e h
  met_commits s t _ u busy job right a (fact_is_stale {k = k} i e is b) h = meets_open t i 0 (λ y. kills k i y) s u (λ y. kills_verdict k i y) b e h
  met_commits s t _ u busy job right a (fact_is_dead i e is d b) h = meets_open t i 0 stays s u (λ y. refl) b e h
  met_commits s t _ u busy job right a (fact_meets {ks = ks} {fs = fs} i e is d b) h = meets_open t i (newly_waiting fs (each (λ c. kills i c) ks s)) (λ y. visits i ks fs y) s u (λ y. each_verdict i ks y) b e h

  met_closes : (s u : State) (outcome : Outcome) (v : Verdict) → Closes s outcome v u → Stands u → HasMet g u.goals
  met_closes s _ _ _ converges h = absurd (cc)
  met_closes s _ _ _ has_large h = absurd (cc)
  met_closes s _ _ _ has_stuck h = absurd (cc)

  met_starts : (s : State) → Starts o s → Stands s → HasMet g s.goals
  met_starts _ (axioms_wait l) h = absurd (cc)
  met_starts _ (too_many_axioms l) h = absurd (cc)

  same_met : (s u : State) → u ≡ s → HasMet g s.goals → HasMet g u.goals
  same_met s u e a = subst (λ (z : State). HasMet g z.goals) (sym e) a

  has_met : (s : State) → Reaches m o s → Stands s → HasMet g s.goals
  has_met s (starts a) h = met_starts s a h
  has_met u (draws_on {s = s} {r = r} w l a d) h = let e = draws_nothing (Proved g) (λ n q. cc) o w s r u d h in same_met s u e (has_met s a (sym (ap (λ (z : State). z.verdict) e) ∙ h))
  has_met u (commits_on {s = s} {f = f} t at right a c) h = met_commits s t f u (at_task o s t (kept_reaches m o s a) at) (Each-at (λ (v : Out). JobEnds s.goals v.job) t.ticket s.out t at (rests_reaches m o s a).ends) right (λ k. has_met s a k) c h
  has_met _ (reclaims_on {s = s} t at a) h = met_restored g t.ticket t.worker t.front t.job s (has_met s a (sym (restored_verdict t.ticket t.worker t.front t.job s) ∙ h))
  has_met _ (recalls_on {s = s} a) h = met_recalled g s.out s (has_met s a (recalled_back s.out s (Some (Proved g)) h))
  has_met u (audits_on {s = s} {answer = r} x may a b) h = let e = audits_nothing (Proved g) (λ n q. cc) o x.fact s u r b h in same_met s u e (has_met s a (sym (ap (λ (z : State). z.verdict) e) ∙ h))
  has_met u (closes_on {s = s} {outcome = outcome} {v = v} d f a c) h = met_closes s u outcome v c h

  pub proved : (s : State) → Reaches m o s → s.verdict ≡ Some (Proved g) → IsProved o s g
  proved s r h =
      let a = has_met s r h in
      let replays = chains_replay m o s r in
      let there = get_there o.goals s.goals g a.target (sym replays.as_many) a.target_is in
      let leads = replays.goals g a.target a.target_is there.0 there.1 in
      record {
        equation = there.0;
        equation_is = there.1;
        target = a.target;
        target_is = a.target_is;
        meeting = end_of a.target.left;
        left_leads = leads.left;
        right_leads = subst (λ (z : Tree). LeadsFrom o.axioms (born s.entries) a.target.right (there.0).right z) (sym a.meet) leads.right;
      }
