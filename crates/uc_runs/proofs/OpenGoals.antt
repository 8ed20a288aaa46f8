-- While no verdict stands, the task of a goal that is Busy is out, and the ends of a goal that is Settled differ.
use Rattle.std.proofs.Common.{◌≡◌, ℕ, zero, suc, List, [], ◌∷◌, ◌++◌, true, ◌==◌, Some, None, refl, ap, sym, ◌∙◌, inl, inr, subst, map, take, slice_get}
use Rattle.std.specs.Prelude.{◌⊎◌, cond}
use Rattle.std.proofs.lemmas.Bool.{cases_Bool, eq-eqb}
use Rattle.uc_term.specs.Tree.{Tree}
use Rattle.uc_term.specs.declared.equation.Equation.{Equation}
use Rattle.uc_order.specs.Laws.{Meaning}
use Rattle.uc_fact.specs.declared.chain.Chain.{Chain}
use Rattle.uc_fact.specs.declared.fact.Fact.{Fact}
use Rattle.uc_fact.specs.declared.fact.Stop.{Stop}
use Rattle.uc_fact.specs.Chains.{last_term, end_of, followed_by}
use Rattle.uc_shelf.specs.declared.entry.Entry.{Entry}
use Rattle.uc_shelf.specs.Entries.{is_dead}
use Rattle.uc_machine.specs.declared.state.Stage.{Stage}
use Rattle.uc_machine.specs.declared.state.Stage.TheVariants.{Due, Busy, Continued, Settled, Stuck}
use Rattle.uc_machine.specs.declared.event.Verdict.{Verdict}
use Rattle.uc_machine.specs.declared.event.GoalEnd.{GoalEnd}
use Rattle.uc_machine.specs.declared.event.Happening.{Happening}
use Rattle.uc_machine.specs.declared.event.Happening.TheVariants.{CommitGoal, CommitMore}
use Rattle.uc_machine.specs.declared.task.Finding.{Finding}
use Rattle.uc_machine.specs.declared.task.Finding.TheVariants.{Ends}
use Rattle.uc_machine.specs.declared.task.Job.{Job}
use Rattle.uc_machine.specs.declared.task.Job.TheVariants.{Goal, More, Meet, Join}
use Rattle.uc_machine.specs.declared.task.Outcome.{Outcome}
use Rattle.uc_machine.specs.Commits.{GoalEnds, ends_meet, ends_differ, StageAfter, after_steps, full_but_grown, size_but_grown, after_full, after_size, Meets, within_limit, past_limit, newly_waiting, stays, Commits, is_late, goal_ends, more_ends, pair_joins, fact_is_kept, fact_is_stale, fact_is_dead, fact_meets}
use Rattle.uc_machine.specs.Draws.{Reply, with_ends, Draws, verdict_stands, goal_is_due, fact_is_unmet, orphan_is_dropped, goal_is_continued, pair_is_drawn, budget_is_out, budget_is_spent, all_is_out, all_is_done}
use Rattle.uc_machine.specs.Effects.{wakes, wakes_stage, goes_on, kills, visits, drops, reclaims, task_for}
use Rattle.uc_machine.specs.Lists.{change, each}
use Rattle.uc_machine.specs.Results.{IsResult}
use Rattle.uc_machine.specs.Runs.{goal_of, Starts, axioms_wait, too_many_axioms, AuditReply, Audits, is_closed, is_spent, is_kept, Closes, converges, has_large, has_stuck, Reaches, starts, draws_on, commits_on, reclaims_on, recalls_on, audits_on, closes_on}
use Rattle.uc_machine.specs.State.{Opening, State, Target, Out, out_at, without}
use Rattle.uc_machine.proofs.Calls.{out_restored}
use Rattle.uc_machine.proofs.Lists.{Each-at, get-changed, get-change_same}
use Rattle.uc_runs.proofs.AtRest.{HasEnds, JobEnds, GoalResult, get_woken, end_followed, result_goal, result_more, rests_reaches}

-- a goal's task

abbrev IsTaskOf : ℕ → Job → Type 0
IsTaskOf n (Goal g l r) = g ≡ n
IsTaskOf n (More g l r) = g ≡ n
IsTaskOf n (Meet i) = ⊥
IsTaskOf n (Join p a) = ⊥

abbrev pub IsOut : ℕ → List Out → Type 0
IsOut n [] = ⊥
IsOut n (t ∷ ts) = IsTaskOf n t.job ⊎ IsOut n ts

still_out : (n : ℕ) (ts us : List Out) → IsOut n ts → IsOut n (ts ++ us)
still_out n [] us h = absurd h
still_out n (t ∷ ts) us (inl a) = inl a
still_out n (t ∷ ts) us (inr b) = inr (still_out n ts us b)

now_out : (n : ℕ) (ts : List Out) (t : Out) → IsTaskOf n t.job → IsOut n (ts ++ t ∷ [])
now_out n [] t h = inl h
now_out n (u ∷ ts) t h = inr (now_out n ts t h)

same_out : (n : ℕ) (t u : Out) → Some t ≡ Some u → IsTaskOf n t.job → IsTaskOf n u.job
same_out n t u e h = let q : t ≡ u = cc in subst (λ (v : Out). IsTaskOf n v.job) q h

-- a task ends: it is that of the goal, or that of the goal is still out
out_without : (n k : ℕ) (ts : List Out) (t : Out) → out_at k ts ≡ Some t → IsOut n ts → IsTaskOf n t.job ⊎ IsOut n (without k ts)
out_without n k [] t there h = absurd h
out_without n k (u ∷ ts) t there h = elim (cases_Bool (u.ticket == k)) as (λ _. IsTaskOf n t.job ⊎ IsOut n (cond (u.ticket == k) ts (u ∷ without k ts))) [
  | inl e ↦ rw e (let q : Some u ≡ Some t = rw e at there in here q h)
  | inr e ↦ rw e (let q : out_at k ts ≡ Some t = rw e at there in later (out_without n k ts t q) h)
]
  where
    here : Some u ≡ Some t → IsTaskOf n u.job ⊎ IsOut n ts → IsTaskOf n t.job ⊎ IsOut n ts
    here q (inl a) = inl (same_out n u t q a)
    here q (inr b) = inr b

    later : (IsOut n ts → IsTaskOf n t.job ⊎ IsOut n (without k ts)) → IsTaskOf n u.job ⊎ IsOut n ts → IsTaskOf n t.job ⊎ (IsTaskOf n u.job ⊎ IsOut n (without k ts))
    later q (inl a) = inr (inl a)
    later q (inr b) = elim (q b) [
      | inl c ↦ inl c
      | inr c ↦ inr (inr c)
    ]

-- the task of a goal that is Busy is out, and the ends of a goal that is Settled differ
pub record Holds (gs : List Target) (out : List Out) : Type 0 where
  pub busy : (n : ℕ) (x : Target) → slice_get gs n ≡ Some x → x.stage ≡ Busy → IsOut n out
  pub differ : (n : ℕ) (x : Target) → slice_get gs n ≡ Some x → x.stage ≡ Settled → end_of x.left ≡ end_of x.right → ⊥

was_busy : (c : Stage) → wakes_stage c ≡ Busy → c ≡ Busy
was_busy Due e = absurd (cc)
was_busy Busy e = e
was_busy Continued e = absurd (cc)
was_busy Settled e = absurd (cc)
was_busy Stuck e = absurd (cc)

none_settled : (c : Stage) → wakes_stage c ≡ Settled → ⊥
none_settled Due e = cc
none_settled Busy e = cc
none_settled Continued e = cc
none_settled Settled e = cc
none_settled Stuck e = cc

holds_woken : (gs : List Target) (out : List Out) → Holds gs out → Holds (map wakes gs) out
holds_woken gs out h = record {
  busy = λ n x at b. (let w = get_woken gs n x at in h.busy n w.0 w.1 (was_busy w.0.stage (sym (ap (λ (z : Target). z.stage) w.2) ∙ b)));
  differ = λ n x at b. (let w = get_woken gs n x at in absurd (none_settled w.0.stage (sym (ap (λ (z : Target). z.stage) w.2) ∙ b)));
}

holds_out : (gs : List Target) (out outs : List Out) → ((n : ℕ) → IsOut n out → IsOut n outs) → Holds gs out → Holds gs outs
holds_out gs out outs k h = record { busy = λ n x at b. k n (h.busy n x at b); differ = h.differ }

-- one goal changes, with the tasks out
holds_changed : (f : Target → Target) (gs : List Target) (g : ℕ) (out outs : List Out)
    → ((x : Target) → slice_get gs g ≡ Some x → (f x).stage ≡ Busy → IsOut g outs)
    → ((x : Target) → slice_get gs g ≡ Some x → (f x).stage ≡ Settled → end_of (f x).left ≡ end_of (f x).right → ⊥)
    → ((n : ℕ) → IsOut n out → (g ≡ n) ⊎ IsOut n outs)
    → Holds gs out → Holds (change f gs g) outs
holds_changed f gs g out outs a b c h = record { busy = busy; differ = differ }
  where
    busy_here : (n : ℕ) (y : Target) → slice_get (change f gs g) n ≡ Some y → slice_get gs n ≡ Some y → y.stage ≡ Busy → g ≡ n → IsOut n outs
    busy_here n y at was s e =
        let was_g : slice_get gs g ≡ Some y = subst (λ k. slice_get gs k ≡ Some y) (sym e) was in
        let at_g : slice_get (change f gs g) g ≡ Some y = subst (λ k. slice_get (change f gs g) k ≡ Some y) (sym e) at in
        let now : slice_get (change f gs g) g ≡ Some (f y) = get-change_same f gs g y was_g in
        let same : y ≡ f y = cc in
        subst (λ k. IsOut k outs) e (a y was_g (sym (ap (λ (z : Target). z.stage) same) ∙ s))

    busy : (n : ℕ) (y : Target) → slice_get (change f gs g) n ≡ Some y → y.stage ≡ Busy → IsOut n outs
    busy n y at s = elim (get-changed f gs g n y at) [
      | inl was ↦ elim (c n (h.busy n y was s)) [
        | inl e ↦ busy_here n y at was s e
        | inr o ↦ o
      ]
      | inr k ↦ subst (λ i. IsOut i outs) k.0 (a k.1.0 (subst (λ i. slice_get gs i ≡ Some k.1.0) (sym k.0) k.1.1) (sym (ap (λ (z : Target). z.stage) k.1.2) ∙ s))
    ]

    differ : (n : ℕ) (y : Target) → slice_get (change f gs g) n ≡ Some y → y.stage ≡ Settled → end_of y.left ≡ end_of y.right → ⊥
    differ n y at s e = elim (get-changed f gs g n y at) [
      | inl was ↦ h.differ n y was s e
      | inr k ↦ b k.1.0 (subst (λ i. slice_get gs i ≡ Some k.1.0) (sym k.0) k.1.1) (sym (ap (λ (z : Target). z.stage) k.1.2) ∙ s) (sym (ap (λ (z : Target). end_of z.left) k.1.2) ∙ e ∙ ap (λ (z : Target). end_of z.right) k.1.2)
    ]

holds_staged : (c : Stage) (gs : List Target) (g : ℕ) (out outs : List Out) → (c ≡ Busy → IsOut g outs) → (c ≡ Settled → ⊥) → ((n : ℕ) → IsOut n out → (g ≡ n) ⊎ IsOut n outs) → Holds gs out → Holds (change (λ (x : Target). record x { stage = c }) gs g) outs
holds_staged c gs g out outs a b k h = holds_changed (λ (x : Target). record x { stage = c }) gs g out outs (λ x at s. a s) (λ x at s e. b s) k h

change_twice : (f h : Target → Target) (gs : List Target) (g : ℕ) → change f (change h gs g) g ≡ change (λ (x : Target). f (h x)) gs g
change_twice f h [] g = refl
change_twice f h (x ∷ gs) zero = refl
change_twice f h (x ∷ gs) (suc g) = ap (λ (ys : List Target). x ∷ ys) (change_twice f h gs g)

not_busy : (t : Out) (s : State) (stop : Stop) (c : Stage) → StageAfter t s stop c → c ≡ Busy → ⊥
not_busy t s _ _ after_steps e = cc
not_busy t s _ _ (full_but_grown a) e = cc
not_busy t s _ _ (size_but_grown a) e = cc
not_busy t s _ _ (after_full a) e = cc
not_busy t s _ _ (after_size a) e = cc

-- so it is while no verdict stands
abbrev pub IsHeld : State → Type 0
IsHeld s = s.verdict ≡ None → Holds s.goals s.out

held_kills : (i k : ℕ) (s : State) → IsHeld s → IsHeld (kills i k s)
held_kills i k s a = elim (cases_Bool (is_dead s.entries k)) as (λ _. IsHeld (kills i k s)) [
  | inl e ↦ rw e a
  | inr e ↦ rw e (λ v. holds_woken s.goals s.out (a v))
]

held_each : (i : ℕ) (ks : List ℕ) (s : State) → IsHeld s → IsHeld (each (kills i) ks s)
held_each i [] s a = a
held_each i (k ∷ ks) s a = held_each i ks (kills i k s) (held_kills i k s a)

held_draws : (o : Opening) (w : ℕ) (s : State) (r : Reply) (u : State) → Draws o w s r u → IsHeld s → IsHeld u
held_draws o w s _ _ (verdict_stands v e) a = a
held_draws o w s _ _ (goal_is_due g e f) a = λ v. (let t = task_for w (with_ends Goal g) s in
    holds_staged Busy s.goals g.number s.out (s.out ++ t ∷ []) (λ q. now_out g.number s.out t refl) (λ q. cc) (λ n k. inr (still_out n s.out (t ∷ []) k)) (a v))
held_draws o w s _ _ (fact_is_unmet i n f) a = λ v. (let t = task_for w (Meet i.number) s in holds_out s.goals s.out (s.out ++ t ∷ []) (λ k q. still_out k s.out (t ∷ []) q) (a v))
held_draws o w s r u (orphan_is_dropped p n e f d) a = held_draws o w (drops w p.number s) r u d a
held_draws o w s _ _ (goal_is_continued g l f room) a = λ v. (let t = task_for w (with_ends More g) s in
    holds_staged Busy s.goals g.number s.out (s.out ++ t ∷ []) (λ q. now_out g.number s.out t refl) (λ q. cc) (λ n k. inr (still_out n s.out (t ∷ []) k)) (a v))
held_draws o w s _ _ (pair_is_drawn p x l f e at room) a = λ v. (let t = task_for w (Join p.number x.origin) s in holds_out s.goals s.out (s.out ++ t ∷ []) (λ k q. still_out k s.out (t ∷ []) q) (a v))
held_draws o w s _ _ (budget_is_out l b c d) a = a
held_draws o w s _ _ (budget_is_spent l b c d) a = λ v. absurd (cc)
held_draws o w s _ _ (all_is_out l b c) a = a
held_draws o w s _ _ (all_is_done l b c) a = a

-- a task ends that isn't a goal's

ends_other : (gs : List Target) (out : List Out) (k : ℕ) (t : Out) → out_at k out ≡ Some t → ((n : ℕ) → IsTaskOf n t.job → ⊥) → Holds gs out → Holds gs (without k out)
ends_other gs out k t at free h = holds_out gs out (without k out) (λ n o. (elim (out_without n k out t at o) [
  | inl a ↦ absurd (free n a)
  | inr b ↦ b
])) h

free_join : (t : Out) (j : Job) → t.job ≡ j → ((n : ℕ) → IsTaskOf n j → ⊥) → (n : ℕ) → IsTaskOf n t.job → ⊥
free_join t j is free n a = free n (subst (λ (k : Job). IsTaskOf n k) is a)

held_meets : (o : Opening) (t : Out) (i pairs : ℕ) (does : State → State) (s u : State) → out_at t.ticket s.out ≡ Some t → t.job ≡ Meet i → ((x : State) → IsHeld x → IsHeld (does x)) → Meets o t i pairs does s u → IsHeld s → IsHeld u
held_meets o t i pairs does s _ at is g (within_limit died b c) a = g _ (λ v. ends_other s.goals s.out t.ticket t at (free_join t (Meet i) is (λ n q. q)) (a v))
held_meets o t i pairs does s _ at is g (past_limit more b c) a = λ v. absurd (cc)

-- the ends of a goal that goes on are those of its result
pub new_ends : (m : Meaning) (gs : List Target) (es : List Entry) (g : ℕ) (l r : Tree) (c d : Chain) (stop : Stop) → HasEnds gs g l r → GoalResult m es l r c d stop → (y : Target) → slice_get gs g ≡ Some y → (end_of (followed_by y.left c) ≡ end_of c) × (end_of (followed_by y.right d) ≡ end_of d)
new_ends m gs es g l r c d stop has q y at =
    let left_start : c.start ≡ l = sym (ap (λ (z : Chain). z.start) q.left_is) ∙ q.both.left_is.start in
    let right_start : d.start ≡ r = sym (ap (λ (z : Chain). z.start) q.right_is) ∙ q.both.right_is.start in (
      end_followed y.left c l (has y at).0 ∙ ap (λ (z : Tree). last_term z c.steps) (sym left_start),
      end_followed y.right d r (has y at).1 ∙ ap (λ (z : Tree). last_term z d.steps) (sym right_start),
    )

module _ (m : Meaning) (o : Opening) where
  -- a goal's task ends
  goal_held : (s : State) (kind : ℕ → ℕ → GoalEnd → Happening) (t : Out) (g : ℕ) (l r : Tree) (c d : Chain) (stop : Stop) (u : State)
      → out_at t.ticket s.out ≡ Some t → ((n : ℕ) → IsTaskOf n t.job → g ≡ n) → HasEnds s.goals g l r → GoalResult m (take t.front s.entries) l r c d stop → GoalEnds kind t g c d stop s u → IsHeld s → IsHeld u
  goal_held s kind t g l r c d stop _ at its has q (ends_meet e) a = λ v. absurd (cc)
  goal_held s kind t g l r c d stop _ at its has q (ends_differ x e after) a = λ v.
      subst (λ (gs : List Target). Holds gs (without t.ticket s.out)) (sym (change_twice (λ (y : Target). record y { stage = x }) (goes_on c d) s.goals g))
      (holds_changed (λ (y : Target). record (goes_on c d y) { stage = x }) s.goals g s.out (without t.ticket s.out) (λ y k b. absurd (not_busy t s stop x after b)) apart_ gone (a v))
    where
      apart_ : (y : Target) → slice_get s.goals g ≡ Some y → x ≡ Settled → end_of (followed_by y.left c) ≡ end_of (followed_by y.right d) → ⊥
      apart_ y k b same = let ends = new_ends m s.goals (take t.front s.entries) g l r c d stop has q y k in e (sym ends.0 ∙ same ∙ ends.1)

      gone : (n : ℕ) → IsOut n s.out → (g ≡ n) ⊎ IsOut n (without t.ticket s.out)
      gone n k = elim (out_without n t.ticket s.out t at k) [
        | inl b ↦ inl (its n b)
        | inr b ↦ inr b
      ]

  held_commits : (s : State) (t : Out) (f : Finding) (u : State) → out_at t.ticket s.out ≡ Some t → JobEnds s.goals t.job → IsResult m o.axioms (take t.front s.entries) t.job f → IsHeld s → Commits o t f s u → IsHeld u
  held_commits s t f _ at job right a (is_late v e) = λ q. (let c : None ≡ Some v = sym q ∙ e in absurd (cc))
  held_commits s t _ u at job right a (goal_ends {l = c} {r = d} {stop = stop} g x y e is ends_) =
      goal_held s CommitGoal t g x y c d stop u at (λ n b. subst (λ (j : Job). IsTaskOf n j) is b) (subst (λ (j : Job). JobEnds s.goals j) is job) (result_goal m o.axioms (take t.front s.entries) t.job (Ends c d stop) right g x y c d stop is refl) ends_ a
  held_commits s t _ u at job right a (more_ends {l = c} {r = d} {stop = stop} g x y e is ends_) =
      goal_held s CommitMore t g x y c d stop u at (λ n b. subst (λ (j : Job). IsTaskOf n j) is b) (subst (λ (j : Job). JobEnds s.goals j) is job) (result_more m o.axioms (take t.front s.entries) t.job (Ends c d stop) right g x y c d stop is refl) ends_ a
  held_commits s t _ _ at job right a (pair_joins p b e is) = λ v. ends_other s.goals s.out t.ticket t at (free_join t (Join p b) is (λ n q. q)) (a v)
  held_commits s t _ _ at job right a (fact_is_kept {f = f} p b e is) = λ v. holds_woken s.goals (without t.ticket s.out) (ends_other s.goals s.out t.ticket t at (free_join t (Join p b) is (λ n q. q)) (a v))
  held_commits s t _ u at job right a (fact_is_stale {k = k} i e is b) = held_meets o t i 0 (λ y. kills k i y) s u at is (λ y z. held_kills k i y z) b a
  held_commits s t _ u at job right a (fact_is_dead i e is d b) = held_meets o t i 0 stays s u at is (λ y z. z) b a
  held_commits s t _ u at job right a (fact_meets {ks = ks} {fs = fs} i e is d b) = held_meets o t i (newly_waiting fs (each (λ c. kills i c) ks s)) (λ y. visits i ks fs y) s u at is (λ y z. held_each i ks y z) b a

-- tasks are put back

held_restored : (n w fr : ℕ) (j : Job) (s : State) → (let t : Out = record { ticket = n; worker = w; job = j; front = fr } in out_at n s.out ≡ Some t → IsHeld s → IsHeld (reclaims t s))
held_restored n w fr (Goal g l r) s at a = λ v. (let t : Out = record { ticket = n; worker = w; job = Goal g l r; front = fr } in
    holds_staged Due s.goals g s.out (without n s.out) (λ q. absurd (cc)) (λ q. cc) (λ k q. out_without k n s.out t at q) (a v))
held_restored n w fr (More g l r) s at a = λ v. (let t : Out = record { ticket = n; worker = w; job = More g l r; front = fr } in
    holds_staged Continued s.goals g s.out (without n s.out) (λ q. absurd (cc)) (λ q. cc) (λ k q. out_without k n s.out t at q) (a v))
held_restored n w fr (Meet i) s at a = λ v. (let t : Out = record { ticket = n; worker = w; job = Meet i; front = fr } in ends_other s.goals s.out n t at (λ k q. q) (a v))
held_restored n w fr (Join p b) s at a = λ v. (let t : Out = record { ticket = n; worker = w; job = Join p b; front = fr } in ends_other s.goals s.out n t at (λ k q. q) (a v))

held_recalled : (ts : List Out) (s : State) → s.out ≡ ts → IsHeld s → IsHeld (each reclaims ts s)
held_recalled [] s e a = a
held_recalled (t ∷ ts) s e a =
    let same : (t.ticket == t.ticket) ≡ true = eq-eqb t.ticket t.ticket refl in
    let at : out_at t.ticket s.out ≡ Some t = rw (e, same) refl in
    let less : without t.ticket (t ∷ ts) ≡ ts = rw same refl in
    held_recalled ts (reclaims t s) (out_restored t.ticket t.worker t.front t.job s ∙ ap (without t.ticket) e ∙ less) (held_restored t.ticket t.worker t.front t.job s at a)

-- audits, closes and the start

held_audits : (o : Opening) (f : Fact) (s u : State) (r : AuditReply) → Audits o f s r u → IsHeld s → IsHeld u
held_audits o f s _ _ (is_closed v e) a = a
held_audits o f s _ _ (is_spent e c) a = λ v. absurd (cc)
held_audits o f s _ _ (is_kept e c) a = λ v. holds_woken s.goals s.out (a e)

held_closes : (s u : State) (outcome : Outcome) (v : Verdict) → Closes s outcome v u → IsHeld s → IsHeld u
held_closes s _ _ _ converges a = λ v. absurd (cc)
held_closes s _ _ _ has_large a = λ v. absurd (cc)
held_closes s _ _ _ has_stuck a = λ v. absurd (cc)

starts_due : (es : List Equation) (n : ℕ) (x : Target) → slice_get (map goal_of es) n ≡ Some x → x.stage ≡ Due
starts_due [] n x e = absurd (cc)
starts_due (g ∷ gs) zero x e = let q : goal_of g ≡ x = cc in ap (λ (y : Target). y.stage) (sym q)
starts_due (g ∷ gs) (suc n) x e = starts_due gs n x e

held_starts : (o : Opening) (s : State) → Starts o s → IsHeld s
held_starts o _ (axioms_wait l) = λ v. record {
  busy = λ n x at b. (let d = starts_due o.goals n x at in let q : Due ≡ Busy = sym d ∙ b in absurd (cc));
  differ = λ n x at b. (let d = starts_due o.goals n x at in let q : Due ≡ Settled = sym d ∙ b in absurd (cc));
}
held_starts o _ (too_many_axioms l) = λ v. absurd (cc)

pub held_reaches : (m : Meaning) (o : Opening) (s : State) → Reaches m o s → IsHeld s
held_reaches m o s (starts a) = held_starts o s a
held_reaches m o u (draws_on {s = s} {r = r} w l a d) = held_draws o w s r u d (held_reaches m o s a)
held_reaches m o u (commits_on {s = s} {f = f} t at right a c) = held_commits m o s t f u at (Each-at (λ (v : Out). JobEnds s.goals v.job) t.ticket s.out t at (rests_reaches m o s a).ends) right (held_reaches m o s a) c
held_reaches m o _ (reclaims_on {s = s} t at a) = held_restored t.ticket t.worker t.front t.job s at (held_reaches m o s a)
held_reaches m o _ (recalls_on {s = s} a) = held_recalled s.out s refl (held_reaches m o s a)
held_reaches m o u (audits_on {s = s} {answer = r} x may a b) = held_audits o x.fact s u r b (held_reaches m o s a)
held_reaches m o u (closes_on {s = s} {outcome = outcome} {v = v} d f a c) = held_closes s u outcome v c (held_reaches m o s a)
