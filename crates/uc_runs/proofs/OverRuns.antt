-- In every state of a run the facts, with their chains, are over the order's signature, and so are the goals' chains, with the
-- variables that the goals have.
use Rattle.std.proofs.Common.{◌≡◌, ℕ, zero, suc, ◌-◌, List, [], ◌∷◌, length, Some, refl, inl, inr, subst, map, take, slice_get}
use Rattle.std.proofs.lemmas.Bool.{cases_Bool}
use Rattle.uc_term.specs.declared.equation.Equation.{Equation}
use Rattle.uc_term.specs.Tree.{Tree}
use Rattle.uc_order.specs.Laws.{Meaning, Laws, HasSym, IsGroundOf}
use Rattle.uc_fact.specs.declared.chain.Chain.{Chain}
use Rattle.uc_fact.specs.declared.fact.Fact.{Fact}
use Rattle.uc_fact.specs.declared.fact.Stop.{Stop}
use Rattle.uc_fact.specs.Chains.{end_of}
use Rattle.uc_fact.specs.Live.{equation_of, equations_of}
use Rattle.uc_fact.specs.Ground.{AreOfSignature}
use Rattle.uc_shelf.specs.Entries.{born, is_dead, live}
use Rattle.uc_machine.specs.declared.state.Stage.{Stage}
use Rattle.uc_machine.specs.declared.state.Stage.TheVariants.{Due, Busy, Continued}
use Rattle.uc_machine.specs.declared.event.Verdict.{Verdict}
use Rattle.uc_machine.specs.declared.event.GoalEnd.{GoalEnd}
use Rattle.uc_machine.specs.declared.event.Happening.{Happening}
use Rattle.uc_machine.specs.declared.event.Happening.TheVariants.{CommitGoal, CommitMore}
use Rattle.uc_machine.specs.declared.task.Finding.{Finding}
use Rattle.uc_machine.specs.declared.task.Finding.TheVariants.{Ends}
use Rattle.uc_machine.specs.declared.task.Job.{Job}
use Rattle.uc_machine.specs.declared.task.Job.TheVariants.{Goal, More, Meet, Join}
use Rattle.uc_machine.specs.declared.task.Outcome.{Outcome}
use Rattle.uc_machine.specs.Commits.{GoalEnds, ends_meet, ends_differ, Meets, within_limit, past_limit, newly_waiting, stays, Commits, is_late, goal_ends, more_ends, pair_joins, fact_is_kept, fact_is_stale, fact_is_dead, fact_meets}
use Rattle.uc_machine.specs.Draws.{Reply, Draws, verdict_stands, goal_is_due, fact_is_unmet, orphan_is_dropped, goal_is_continued, pair_is_drawn, budget_is_out, budget_is_spent, all_is_out, all_is_done}
use Rattle.uc_machine.specs.Effects.{wakes, goes_on, kills, visits, drops, reclaims}
use Rattle.uc_machine.specs.Lists.{change, each, Each}
use Rattle.uc_machine.specs.Results.{IsResult}
use Rattle.uc_machine.specs.Runs.{goal_of, Starts, axioms_wait, too_many_axioms, AuditReply, Audits, is_closed, is_spent, is_kept, Closes, converges, has_large, has_stuck, Reaches, starts, draws_on, commits_on, reclaims_on, recalls_on, audits_on, closes_on}
use Rattle.uc_machine.specs.State.{Opening, State, Target, Out}
use Rattle.uc_machine.proofs.Lists.{Each-at, Each-map}
use Rattle.uc_runs.specs.Signatures.{OpensOver, IsChainOver, IsTargetOver, IsOver, AreGroundEquations, EndsAreGround}
use Rattle.uc_runs.proofs.AtRest.{HasEnds, JobEnds, GoalResult, result_goal, result_more, rests_reaches}
use Rattle.uc_runs.proofs.EachFact.{each_get, equations_each, front_each, each_fact}
use Rattle.uc_runs.proofs.OverFound.{Has, ChainHas, Any, end_has, followed_has, normal_has, IsFactOver, IsEquationOver, live_over, fact_over}

pub facts_reach : (m : Meaning) → Laws m → (o : Opening) → AreOfSignature (HasSym m) m.arity o.axioms → (s : State) → Reaches m o s → Each (IsFactOver m) (born s.entries)
facts_reach m laws o axioms = each_fact m o (IsFactOver m) (λ es over origin front t f i g. fact_over m laws o.axioms axioms es over origin front t f i g)

module _ (m : Meaning) (Known : ℕ → Type 0) where
  abbrev TargetHas : Target → Type 0
  TargetHas g = ChainHas m Known g.left × ChainHas m Known g.right

  -- both sides of each goal are over the signature, with these variables
  abbrev pub GoalsHave : List Equation → Type 0
  GoalsHave es = (n : ℕ) (e : Equation) → slice_get es n ≡ Some e → Has m Known e.left × Has m Known e.right

  goals_start : (es : List Equation) → GoalsHave es → Each TargetHas (map goal_of es)
  goals_start [] h = tt
  goals_start (e ∷ es) h = let a = h zero e refl in (((a.0, tt), (a.1, tt)), goals_start es (λ n f at. h (suc n) f at))

  goals_changed : (f : Target → Target) (gs : List Target) (n : ℕ) → ((x : Target) → slice_get gs n ≡ Some x → TargetHas x → TargetHas (f x)) → Each TargetHas gs → Each TargetHas (change f gs n)
  goals_changed f [] n k h = tt
  goals_changed f (g ∷ gs) zero k h = (k g refl h.0, h.1)
  goals_changed f (g ∷ gs) (suc n) k h = (h.0, goals_changed f gs n k h.1)

  goals_staged : (c : Stage) (gs : List Target) (n : ℕ) → Each TargetHas gs → Each TargetHas (change (λ (x : Target). record x { stage = c }) gs n)
  goals_staged c gs n h = goals_changed (λ (x : Target). record x { stage = c }) gs n (λ x at k. k) h

  goals_woken : (gs : List Target) → Each TargetHas gs → Each TargetHas (map wakes gs)
  goals_woken [] h = tt
  goals_woken (g ∷ gs) h = (h.0, goals_woken gs h.1)

  -- what is kept
  abbrev IsSigned : State → Type 0
  IsSigned s = Each TargetHas s.goals

  signed_kills : (i k : ℕ) (s : State) → IsSigned s → IsSigned (kills i k s)
  signed_kills i k s a = elim (cases_Bool (is_dead s.entries k)) as (λ _. IsSigned (kills i k s)) [
    | inl e ↦ rw e a
    | inr e ↦ rw e (goals_woken s.goals a)
  ]

  signed_each : (i : ℕ) (ks : List ℕ) (s : State) → IsSigned s → IsSigned (each (kills i) ks s)
  signed_each i [] s a = a
  signed_each i (k ∷ ks) s a = signed_each i ks (kills i k s) (signed_kills i k s a)

  signed_draws : (o : Opening) (w : ℕ) (s : State) (r : Reply) (u : State) → Draws o w s r u → IsSigned s → IsSigned u
  signed_draws o w s _ _ (verdict_stands v e) a = a
  signed_draws o w s _ _ (goal_is_due g e f) a = goals_staged Busy s.goals g.number a
  signed_draws o w s _ _ (fact_is_unmet i n f) a = a
  signed_draws o w s r u (orphan_is_dropped p n e f d) a = signed_draws o w (drops w p.number s) r u d a
  signed_draws o w s _ _ (goal_is_continued g l f room) a = goals_staged Busy s.goals g.number a
  signed_draws o w s _ _ (pair_is_drawn p x l f e at room) a = a
  signed_draws o w s _ _ (budget_is_out l b c d) a = a
  signed_draws o w s _ _ (budget_is_spent l b c d) a = a
  signed_draws o w s _ _ (all_is_out l b c) a = a
  signed_draws o w s _ _ (all_is_done l b c) a = a

  signed_meets : (o : Opening) (t : Out) (i pairs : ℕ) (does : State → State) (s u : State) → ((x : State) → IsSigned x → IsSigned (does x)) → Meets o t i pairs does s u → IsSigned s → IsSigned u
  signed_meets o t i pairs does s _ g (within_limit died b c) a = g _ a
  signed_meets o t i pairs does s _ g (past_limit more b c) a = a

  signed_restored : (n w fr : ℕ) (j : Job) (s : State) → (let t : Out = record { ticket = n; worker = w; job = j; front = fr } in IsSigned s → IsSigned (reclaims t s))
  signed_restored n w fr (Goal g l r) s a = goals_staged Due s.goals g a
  signed_restored n w fr (More g l r) s a = goals_staged Continued s.goals g a
  signed_restored n w fr (Meet i) s a = a
  signed_restored n w fr (Join p b) s a = a

  signed_recalled : (ts : List Out) (s : State) → IsSigned s → IsSigned (each reclaims ts s)
  signed_recalled [] s a = a
  signed_recalled (t ∷ ts) s a = signed_recalled ts (reclaims t s) (signed_restored t.ticket t.worker t.front t.job s a)

  signed_closes : (s u : State) (outcome : Outcome) (v : Verdict) → Closes s outcome v u → IsSigned s → IsSigned u
  signed_closes s _ _ _ converges a = a
  signed_closes s _ _ _ has_large a = a
  signed_closes s _ _ _ has_stuck a = a

  signed_starts : (o : Opening) (s : State) → GoalsHave o.goals → Starts o s → IsSigned s
  signed_starts o _ h (axioms_wait l) = goals_start o.goals h
  signed_starts o _ h (too_many_axioms l) = goals_start o.goals h

  module _ (laws : Laws m) (o : Opening) (axioms : AreOfSignature (HasSym m) m.arity o.axioms) where
    goal_signed : (s : State) (kind : ℕ → ℕ → GoalEnd → Happening) (t : Out) (g : ℕ) (l r : Tree) (c d : Chain) (stop : Stop) (u : State)
        → Each (IsFactOver m) (born s.entries) → HasEnds s.goals g l r → GoalResult m (take t.front s.entries) l r c d stop → GoalEnds kind t g c d stop s u → IsSigned s → IsSigned u
    goal_signed s kind t g l r c d stop u facts has q ends_ a = go u ends_
      where
        front : AreOfSignature (HasSym m) m.arity (equations_of (live (take t.front s.entries)))
        front = live_over m (take t.front s.entries) (front_each (IsFactOver m) s.entries t.front facts)

        moved : (x : Target) → slice_get s.goals g ≡ Some x → TargetHas x → TargetHas (goes_on c d x)
        moved x at k =
            let e = has x at in
            let lh : Has m Known l = subst (Has m Known) e.0 (end_has m Known x.left k.0) in
            let rh : Has m Known r = subst (Has m Known) e.1 (end_has m Known x.right k.1) in
            let ln = normal_has m Known laws (live (take t.front s.entries)) front 4096 l q.left q.both.left_is lh in
            let rn = normal_has m Known laws (live (take t.front s.entries)) front (4096 - length q.left.chain.steps) r q.right q.both.right_is rh in
            let lc : ChainHas m Known c = subst (ChainHas m Known) q.left_is ln.0 in
            let rc : ChainHas m Known d = subst (ChainHas m Known) q.right_is rn.0 in
            (followed_has m Known x.left c k.0 lc.1, followed_has m Known x.right d k.1 rc.1)

        new : Each TargetHas (change (goes_on c d) s.goals g)
        new = goals_changed (goes_on c d) s.goals g moved a

        go : (u : State) → GoalEnds kind t g c d stop s u → IsSigned u
        go _ (ends_meet e) = new
        go _ (ends_differ x e b) = goals_staged x (change (goes_on c d) s.goals g) g new

    signed_commits : (s : State) (t : Out) (f : Finding) (u : State) → Each (IsFactOver m) (born s.entries) → JobEnds s.goals t.job → IsResult m o.axioms (take t.front s.entries) t.job f → IsSigned s → Commits o t f s u → IsSigned u
    signed_commits s t f _ facts at right a (is_late v e) = a
    signed_commits s t _ u facts at right a (goal_ends {l = c} {r = d} {stop = stop} g x y e is ends_) =
        goal_signed s CommitGoal t g x y c d stop u facts (subst (λ (j : Job). JobEnds s.goals j) is at) (result_goal m o.axioms (take t.front s.entries) t.job (Ends c d stop) right g x y c d stop is refl) ends_ a
    signed_commits s t _ u facts at right a (more_ends {l = c} {r = d} {stop = stop} g x y e is ends_) =
        goal_signed s CommitMore t g x y c d stop u facts (subst (λ (j : Job). JobEnds s.goals j) is at) (result_more m o.axioms (take t.front s.entries) t.job (Ends c d stop) right g x y c d stop is refl) ends_ a
    signed_commits s t _ _ facts at right a (pair_joins p b e is) = a
    signed_commits s t _ _ facts at right a (fact_is_kept {f = f} p b e is) = goals_woken s.goals a
    signed_commits s t _ u facts at right a (fact_is_stale {k = k} i e is b) = signed_meets o t i 0 (λ y. kills k i y) s u (λ y z. signed_kills k i y z) b a
    signed_commits s t _ u facts at right a (fact_is_dead i e is d b) = signed_meets o t i 0 stays s u (λ y z. z) b a
    signed_commits s t _ u facts at right a (fact_meets {ks = ks} {fs = fs} i e is d b) = signed_meets o t i (newly_waiting fs (each (λ c. kills i c) ks s)) (λ y. visits i ks fs y) s u (λ y z. signed_each i ks y z) b a

    signed_audits : (f : Fact) (s u : State) (r : AuditReply) → Audits o f s r u → IsSigned s → IsSigned u
    signed_audits f s _ _ (is_closed v e) a = a
    signed_audits f s _ _ (is_spent e c) a = a
    signed_audits f s _ _ (is_kept e c) a = goals_woken s.goals a

    module _ (goals : GoalsHave o.goals) where
      pub goals_reach : (s : State) → Reaches m o s → Each TargetHas s.goals
      goals_reach s (starts a) = signed_starts o s goals a
      goals_reach u (draws_on {s = s} {r = r} w l a d) = signed_draws o w s r u d (goals_reach s a)
      goals_reach u (commits_on {s = s} {f = f} t at right a c) = signed_commits s t f u (facts_reach m laws o axioms s a) (Each-at (λ (v : Out). JobEnds s.goals v.job) t.ticket s.out t at (rests_reaches m o s a).ends) right (goals_reach s a) c
      goals_reach _ (reclaims_on {s = s} t at a) = signed_restored t.ticket t.worker t.front t.job s (goals_reach s a)
      goals_reach _ (recalls_on {s = s} a) = signed_recalled s.out s (goals_reach s a)
      goals_reach u (audits_on {s = s} {answer = r} x may a b) = signed_audits x.fact s u r b (goals_reach s a)
      goals_reach u (closes_on {s = s} {outcome = outcome} {v = v} d f a c) = signed_closes s u outcome v c (goals_reach s a)

module _ (m : Meaning) (laws : Laws m) (o : Opening) (over : OpensOver m o) where
  chain_over : (c : Chain) → ChainHas m Any c → IsChainOver m c
  chain_over c a = record { start = a.0; steps = a.1 }

  pub stays_over : (s : State) → Reaches m o s → IsOver m s
  stays_over s r =
      let facts = facts_reach m laws o over.axioms s r in
      record {
        facts = each_get (IsEquationOver m) (map equation_of (born s.entries)) (equations_each (IsEquationOver m) (born s.entries) (Each-map {P = IsFactOver m} {Q = λ (f : Fact). IsEquationOver m (equation_of f)} (λ f k. k.0) (born s.entries) facts));
        chains = Each-map {P = IsFactOver m} {Q = λ (f : Fact). IsChainOver m f.chain} (λ f k. chain_over f.chain k.1) (born s.entries) facts;
        goals = Each-map {P = TargetHas m Any} {Q = IsTargetOver m} (λ g k. record { left = chain_over g.left k.0; right = chain_over g.right k.1 }) s.goals (goals_reach m Any laws o over.axioms over.goals s r);
      }

  pub facts_stay_over : (s : State) → Reaches m o s → AreOfSignature (HasSym m) m.arity (equations_of (live s.entries))
  facts_stay_over s r = live_over m s.entries (facts_reach m laws o over.axioms s r)

  pub ends_stay_ground : AreGroundEquations m o.goals → (s : State) → Reaches m o s → EndsAreGround m s
  ends_stay_ground ground s r =
      Each-map {P = TargetHas m (λ _. ⊥)} {Q = λ (g : Target). IsGroundOf m (end_of g.left) × IsGroundOf m (end_of g.right)} (λ g k. (end_has m (λ _. ⊥) g.left k.0, end_has m (λ _. ⊥) g.right k.1)) s.goals (goals_reach m (λ _. ⊥) laws o over.axioms ground s r)
