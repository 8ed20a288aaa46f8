-- In every state of a run the chains of facts and goals replay.
use Rattle.std.proofs.Common.{◌≡◌, ℕ, zero, suc, ◌-◌, ◌<◌, List, [], ◌∷◌, ◌++◌, length, Some, refl, ap, sym, ◌∙◌, arith, inl, inr, subst, map, take, drop, slice_get}
use Rattle.std.proofs.lemmas.Bool.{cases_Bool}
use Rattle.std.proofs.lemmas.List.{take-append-le, take-append-drop}
use Rattle.std.proofs.Math.Seq.{take-length}
use Rattle.uc_term.specs.declared.equation.Equation.{Equation}
use Rattle.uc_term.specs.Tree.{Tree}
use Rattle.uc_term.proofs.Gets.{get_pushed}
use Rattle.uc_order.specs.Laws.{Meaning}
use Rattle.uc_fact.specs.declared.chain.Chain.{Chain}
use Rattle.uc_fact.specs.declared.fact.Fact.{Fact}
use Rattle.uc_fact.specs.declared.fact.Stop.{Stop}
use Rattle.uc_shelf.specs.declared.entry.Entry.{Entry}
use Rattle.uc_shelf.specs.declared.entry.Entry.TheVariants.{Born, Dies}
use Rattle.uc_shelf.specs.Entries.{born, is_dead}
use Rattle.uc_machine.specs.declared.state.Stage.{Stage}
use Rattle.uc_machine.specs.declared.state.Stage.TheVariants.{Due, Busy, Continued}
use Rattle.uc_machine.specs.declared.event.Verdict.{Verdict}
use Rattle.uc_machine.specs.declared.event.GoalEnd.{GoalEnd}
use Rattle.uc_machine.specs.declared.event.Happening.{Happening}
use Rattle.uc_machine.specs.declared.event.Happening.TheVariants.{CommitGoal, CommitMore}
use Rattle.uc_machine.specs.declared.task.Finding.{Finding}
use Rattle.uc_machine.specs.declared.task.Finding.TheVariants.{Ends}
use Rattle.uc_machine.specs.declared.task.Job.{Job}
use Rattle.uc_machine.specs.declared.task.Job.TheVariants.{Goal, More, Meet, Join}
use Rattle.uc_machine.specs.declared.task.Missing.{Missing}
use Rattle.uc_machine.specs.declared.task.Outcome.{Outcome}
use Rattle.uc_fact.specs.Chains.{end_of, followed_by}
use Rattle.uc_machine.specs.Commits.{GoalEnds, ends_meet, ends_differ, Meets, within_limit, past_limit, newly_waiting, stays, Commits, is_late, goal_ends, more_ends, pair_joins, fact_is_kept, fact_is_stale, fact_is_dead, fact_meets}
use Rattle.uc_machine.specs.Draws.{Reply, Draws, verdict_stands, goal_is_due, fact_is_unmet, orphan_is_dropped, goal_is_continued, pair_is_drawn, budget_is_out, budget_is_spent, all_is_out, all_is_done}
use Rattle.uc_machine.specs.Effects.{wakes, goes_on, kills, visits, drops, reclaims}
use Rattle.uc_machine.specs.Lists.{change, each}
use Rattle.uc_rewrite.specs.Replay.{LeadsFrom}
use Rattle.uc_machine.specs.Promises.{Grew, ChainsReplay}
use Rattle.uc_machine.specs.Results.{IsResult}
use Rattle.uc_machine.specs.Runs.{goal_of, Starts, axioms_wait, too_many_axioms, AuditReply, Audits, is_closed, is_spent, is_kept, Closes, converges, has_large, has_stuck, MayAudit, Reaches, starts, draws_on, commits_on, reclaims_on, recalls_on, audits_on, closes_on}
use Rattle.uc_machine.specs.State.{Opening, State, Target, Out}
use Rattle.uc_runs.proofs.AtRest.{HasEnds, JobEnds, GoalResult, result_goal, result_more, rests_reaches}
use Rattle.uc_machine.proofs.Audited.{was_missing}
use Rattle.uc_machine.proofs.Blocks.{born-append, born-dies}
use Rattle.uc_runs.proofs.Earlier.{audited_grew}
use Rattle.uc_machine.proofs.Lists.{Each-at, below}
use Rattle.uc_runs.proofs.Replayed.{leads_on, leads_further, normal_leads, kept_leads, missing_leads}

-- facts

abbrev pub FactsLead : List Equation → List Fact → Type 0
FactsLead axioms fs = (n : ℕ) (f : Fact) → slice_get fs n ≡ Some f → LeadsFrom axioms (take n fs) f.chain f.left f.right

facts_push : (axioms : List Equation) (fs : List Fact) (f : Fact) → LeadsFrom axioms fs f.chain f.left f.right → FactsLead axioms fs → FactsLead axioms (fs ++ f ∷ [])
facts_push axioms fs f new old n g e = elim (get_pushed fs f n g e) [
  | inl a ↦ (let l : n < length fs = below fs n g a in subst (λ (z : List Fact). LeadsFrom axioms z g.chain g.left g.right) (sym (take-append-le n fs (f ∷ []) (omega arith))) (old n g a))
  | inr b ↦ (let q : take n (fs ++ f ∷ []) ≡ fs = ap (λ k. take k (fs ++ f ∷ [])) b.0 ∙ take-append-le (length fs) fs (f ∷ []) (omega arith) ∙ take-length fs in
      subst (λ (z : List Fact). LeadsFrom axioms z g.chain g.left g.right) (sym q) (subst (λ (x : Fact). LeadsFrom axioms fs x.chain x.left x.right) (sym b.1) new))
]

-- what replays over the facts of a front replays over those born since
over_all : (axioms : List Equation) (es : List Entry) (n : ℕ) (c : Chain) (u v : Tree) → LeadsFrom axioms (born (take n es)) c u v → LeadsFrom axioms (born es) c u v
over_all axioms es n c u v h =
    let q : born es ≡ born (take n es) ++ born (drop n es) = ap born (sym (take-append-drop n es)) ∙ born-append (take n es) (drop n es) in
    subst (λ (z : List Fact). LeadsFrom axioms z c u v) (sym q) (leads_further axioms (born (take n es)) (born (drop n es)) c u v h)

over_grown : (axioms : List Equation) (es fs : List Entry) → Grew es fs → (c : Chain) (u v : Tree) → LeadsFrom axioms (born es) c u v → LeadsFrom axioms (born fs) c u v
over_grown axioms es fs g c u v h =
    let q : born fs ≡ born es ++ born g.more = ap born g.is ∙ born-append es g.more in
    subst (λ (z : List Fact). LeadsFrom axioms z c u v) (sym q) (leads_further axioms (born es) (born g.more) c u v h)

-- goals

abbrev GoalLeads : List Equation → List Fact → Equation → Target → Type 0
GoalLeads axioms fs e g = LeadsFrom axioms fs g.left e.left (end_of g.left) × LeadsFrom axioms fs g.right e.right (end_of g.right)

abbrev pub GoalsLead : List Equation → List Fact → List Equation → List Target → Type 0
GoalsLead axioms fs [] [] = Unit {0}
GoalsLead axioms fs [] (g ∷ gs) = ⊥
GoalsLead axioms fs (e ∷ es) [] = ⊥
GoalsLead axioms fs (e ∷ es) (g ∷ gs) = GoalLeads axioms fs e g × GoalsLead axioms fs es gs

module _ (axioms : List Equation) (fs : List Fact) where
  goals_changed : (f : Target → Target) (es : List Equation) (gs : List Target) (n : ℕ) → ((e : Equation) (x : Target) → slice_get gs n ≡ Some x → GoalLeads axioms fs e x → GoalLeads axioms fs e (f x)) → GoalsLead axioms fs es gs → GoalsLead axioms fs es (change f gs n)
  goals_changed f [] [] n k h = tt
  goals_changed f [] (g ∷ gs) n k h = absurd h
  goals_changed f (e ∷ es) [] n k h = absurd h
  goals_changed f (e ∷ es) (g ∷ gs) zero k h = (k e g refl h.0, h.1)
  goals_changed f (e ∷ es) (g ∷ gs) (suc n) k h = (h.0, goals_changed f es gs n k h.1)

  goals_staged : (c : Stage) (es : List Equation) (gs : List Target) (n : ℕ) → GoalsLead axioms fs es gs → GoalsLead axioms fs es (change (λ (x : Target). record x { stage = c }) gs n)
  goals_staged c es gs n h = goals_changed (λ (x : Target). record x { stage = c }) es gs n (λ e x at k. k) h

  goals_woken : (es : List Equation) (gs : List Target) → GoalsLead axioms fs es gs → GoalsLead axioms fs es (map wakes gs)
  goals_woken [] [] h = tt
  goals_woken [] (g ∷ gs) h = absurd h
  goals_woken (e ∷ es) [] h = absurd h
  goals_woken (e ∷ es) (g ∷ gs) h = (h.0, goals_woken es gs h.1)

  goals_further : (more : List Fact) (es : List Equation) (gs : List Target) → GoalsLead axioms fs es gs → GoalsLead axioms (fs ++ more) es gs
  goals_further more [] [] h = tt
  goals_further more [] (g ∷ gs) h = absurd h
  goals_further more (e ∷ es) [] h = absurd h
  goals_further more (e ∷ es) (g ∷ gs) h = ((leads_further axioms fs more g.left e.left (end_of g.left) h.0.0, leads_further axioms fs more g.right e.right (end_of g.right) h.0.1), goals_further more es gs h.1)

  goals_start : (es : List Equation) → GoalsLead axioms fs es (map goal_of es)
  goals_start [] = tt
  goals_start (e ∷ es) = ((record { start_is = refl; end_is = refl; replays = tt }, record { start_is = refl; end_is = refl; replays = tt }), goals_start es)

  as_many_goals : (es : List Equation) (gs : List Target) → GoalsLead axioms fs es gs → length gs ≡ length es
  as_many_goals [] [] h = refl
  as_many_goals [] (g ∷ gs) h = absurd h
  as_many_goals (e ∷ es) [] h = absurd h
  as_many_goals (e ∷ es) (g ∷ gs) h = ap suc (as_many_goals es gs h.1)

  goal_at : (es : List Equation) (gs : List Target) (n : ℕ) (g : Target) (e : Equation) → slice_get gs n ≡ Some g → slice_get es n ≡ Some e → GoalsLead axioms fs es gs → GoalLeads axioms fs e g
  goal_at [] gs n g e a b h = absurd (cc)
  goal_at (x ∷ es) [] n g e a b h = absurd h
  goal_at (x ∷ es) (y ∷ gs) zero g e a b h = let p : y ≡ g = cc in let q : x ≡ e = cc in subst (λ (z : Equation). GoalLeads axioms fs z g) q (subst (λ (z : Target). GoalLeads axioms fs x z) p h.0)
  goal_at (x ∷ es) (y ∷ gs) (suc n) g e a b h = goal_at es gs n g e a b h.1

  to_its_end : (c : Chain) (u v : Tree) → LeadsFrom axioms fs c u v → LeadsFrom axioms fs c u (end_of c)
  to_its_end c u v h = record { start_is = h.start_is; end_is = refl; replays = h.replays }

  chain_goes_on : (c d : Chain) (u l v : Tree) → LeadsFrom axioms fs c u (end_of c) → end_of c ≡ l → LeadsFrom axioms fs d l v → LeadsFrom axioms fs (followed_by c d) u (end_of (followed_by c d))
  chain_goes_on c d u l v a q b = to_its_end (followed_by c d) u v (leads_on axioms fs c d u (end_of c) v a (subst (λ (t : Tree). LeadsFrom axioms fs d t v) (sym q) b))

  goals_go_on : (es : List Equation) (gs : List Target) (n : ℕ) (l r v w : Tree) (c d : Chain) → HasEnds gs n l r → LeadsFrom axioms fs c l v → LeadsFrom axioms fs d r w → GoalsLead axioms fs es gs → GoalsLead axioms fs es (change (goes_on c d) gs n)
  goals_go_on es gs n l r v w c d has a b h = goals_changed (goes_on c d) es gs n (λ e x at k. (chain_goes_on x.left c e.left l v k.0 (has x at).0 a, chain_goes_on x.right d e.right r w k.1 (has x at).1 b)) h

-- what is kept

record Replaying (o : Opening) (es : List Entry) (gs : List Target) : Type 0 where
  facts : FactsLead o.axioms (born es)
  goals : GoalsLead o.axioms (born es) o.goals gs

replaying_staged : (o : Opening) (es : List Entry) (gs : List Target) (c : Stage) (n : ℕ) → Replaying o es gs → Replaying o es (change (λ (x : Target). record x { stage = c }) gs n)
replaying_staged o es gs c n a = record { facts = a.facts; goals = goals_staged o.axioms (born es) c o.goals gs n a.goals }

replaying_born : (o : Opening) (es : List Entry) (gs : List Target) (f : Fact) → LeadsFrom o.axioms (born es) f.chain f.left f.right → Replaying o es gs → Replaying o (es ++ Born f ∷ []) (map wakes gs)
replaying_born o es gs f h a =
    let q : born (es ++ Born f ∷ []) ≡ born es ++ f ∷ [] = born-append es (Born f ∷ []) in
    record {
      facts = subst (FactsLead o.axioms) (sym q) (facts_push o.axioms (born es) f h a.facts);
      goals = subst (λ (fs : List Fact). GoalsLead o.axioms fs o.goals (map wakes gs)) (sym q) (goals_woken o.axioms (born es ++ f ∷ []) o.goals gs (goals_further o.axioms (born es) (f ∷ []) o.goals gs a.goals));
    }

replaying_dies : (o : Opening) (es : List Entry) (gs : List Target) (i k : ℕ) → Replaying o es gs → Replaying o (es ++ Dies i k ∷ []) (map wakes gs)
replaying_dies o es gs i k a =
    let q : born (es ++ Dies i k ∷ []) ≡ born es = born-dies es i k in
    record {
      facts = subst (FactsLead o.axioms) (sym q) a.facts;
      goals = subst (λ (fs : List Fact). GoalsLead o.axioms fs o.goals (map wakes gs)) (sym q) (goals_woken o.axioms (born es) o.goals gs a.goals);
    }

abbrev IsReplaying : Opening → State → Type 0
IsReplaying o s = Replaying o s.entries s.goals

replaying_kills : (o : Opening) (i k : ℕ) (s : State) → IsReplaying o s → IsReplaying o (kills i k s)
replaying_kills o i k s a = elim (cases_Bool (is_dead s.entries k)) as (λ _. IsReplaying o (kills i k s)) [
  | inl e ↦ rw e a
  | inr e ↦ rw e (replaying_dies o s.entries s.goals k i a)
]

replaying_each : (o : Opening) (i : ℕ) (ks : List ℕ) (s : State) → IsReplaying o s → IsReplaying o (each (kills i) ks s)
replaying_each o i [] s a = a
replaying_each o i (k ∷ ks) s a = replaying_each o i ks (kills i k s) (replaying_kills o i k s a)

replaying_draws : (o : Opening) (w : ℕ) (s : State) (r : Reply) (u : State) → Draws o w s r u → IsReplaying o s → IsReplaying o u
replaying_draws o w s _ _ (verdict_stands v e) a = a
replaying_draws o w s _ _ (goal_is_due g e f) a = replaying_staged o s.entries s.goals Busy g.number a
replaying_draws o w s _ _ (fact_is_unmet i n f) a = a
replaying_draws o w s r u (orphan_is_dropped p n e f d) a = replaying_draws o w (drops w p.number s) r u d a
replaying_draws o w s _ _ (goal_is_continued g l f room) a = replaying_staged o s.entries s.goals Busy g.number a
replaying_draws o w s _ _ (pair_is_drawn p x l f e at room) a = a
replaying_draws o w s _ _ (budget_is_out l b c d) a = a
replaying_draws o w s _ _ (budget_is_spent l b c d) a = a
replaying_draws o w s _ _ (all_is_out l b c) a = a
replaying_draws o w s _ _ (all_is_done l b c) a = a

module _ (m : Meaning) where
  goal_replaying : (o : Opening) (s : State) (kind : ℕ → ℕ → GoalEnd → Happening) (t : Out) (g : ℕ) (l r : Tree) (c d : Chain) (stop : Stop) (u : State)
      → HasEnds s.goals g l r → GoalResult m (take t.front s.entries) l r c d stop → GoalEnds kind t g c d stop s u → IsReplaying o s → IsReplaying o u
  goal_replaying o s kind t g l r c d stop u has q ends_ a = go u ends_
    where
      left_leads : LeadsFrom o.axioms (born s.entries) c l q.left.term
      left_leads = subst (λ (x : Chain). LeadsFrom o.axioms (born s.entries) x l q.left.term) q.left_is (over_all o.axioms s.entries t.front q.left.chain l q.left.term (normal_leads m o.axioms (take t.front s.entries) 4096 l q.left q.both.left_is))

      right_leads : LeadsFrom o.axioms (born s.entries) d r q.right.term
      right_leads = subst (λ (x : Chain). LeadsFrom o.axioms (born s.entries) x r q.right.term) q.right_is (over_all o.axioms s.entries t.front q.right.chain r q.right.term (normal_leads m o.axioms (take t.front s.entries) (4096 - length q.left.chain.steps) r q.right q.both.right_is))

      new : Replaying o s.entries (change (goes_on c d) s.goals g)
      new = record { facts = a.facts; goals = goals_go_on o.axioms (born s.entries) o.goals s.goals g l r q.left.term q.right.term c d has left_leads right_leads a.goals }

      go : (u : State) → GoalEnds kind t g c d stop s u → IsReplaying o u
      go _ (ends_meet e) = new
      go _ (ends_differ x e b) = replaying_staged o s.entries (change (goes_on c d) s.goals g) x g new

  replaying_meets : (o : Opening) (t : Out) (i pairs : ℕ) (does : State → State) (s u : State) → ((x : State) → IsReplaying o x → IsReplaying o (does x)) → Meets o t i pairs does s u → IsReplaying o s → IsReplaying o u
  replaying_meets o t i pairs does s _ g (within_limit died b c) a = g _ a
  replaying_meets o t i pairs does s _ g (past_limit more b c) a = a

  replaying_commits : (o : Opening) (s : State) (t : Out) (f : Finding) (u : State) → JobEnds s.goals t.job → IsResult m o.axioms (take t.front s.entries) t.job f → IsReplaying o s → Commits o t f s u → IsReplaying o u
  replaying_commits o s t f _ at right a (is_late v e) = a
  replaying_commits o s t _ u at right a (goal_ends {l = c} {r = d} {stop = stop} g x y e is ends_) =
      goal_replaying o s CommitGoal t g x y c d stop u (subst (λ (j : Job). JobEnds s.goals j) is at) (result_goal m o.axioms (take t.front s.entries) t.job (Ends c d stop) right g x y c d stop is refl) ends_ a
  replaying_commits o s t _ u at right a (more_ends {l = c} {r = d} {stop = stop} g x y e is ends_) =
      goal_replaying o s CommitMore t g x y c d stop u (subst (λ (j : Job). JobEnds s.goals j) is at) (result_more m o.axioms (take t.front s.entries) t.job (Ends c d stop) right g x y c d stop is refl) ends_ a
  replaying_commits o s t _ _ at right a (pair_joins p b e is) = a
  replaying_commits o s t _ _ at right a (fact_is_kept {f = f} p b e is) = replaying_born o s.entries s.goals f (over_all o.axioms s.entries t.front f.chain f.left f.right (kept_leads m o.axioms (take t.front s.entries) t.job f right)) a
  replaying_commits o s t _ u at right a (fact_is_stale {k = k} i e is b) = replaying_meets o t i 0 (λ y. kills k i y) s u (λ y z. replaying_kills o k i y z) b a
  replaying_commits o s t _ u at right a (fact_is_dead i e is d b) = replaying_meets o t i 0 stays s u (λ y z. z) b a
  replaying_commits o s t _ u at right a (fact_meets {ks = ks} {fs = fs} i e is d b) = replaying_meets o t i (newly_waiting fs (each (λ c. kills i c) ks s)) (λ y. visits i ks fs y) s u (λ y z. replaying_each o i ks y z) b a

  replaying_restored : (o : Opening) (n w fr : ℕ) (j : Job) (s : State) → (let t : Out = record { ticket = n; worker = w; job = j; front = fr } in IsReplaying o s → IsReplaying o (reclaims t s))
  replaying_restored o n w fr (Goal g l r) s a = replaying_staged o s.entries s.goals Due g a
  replaying_restored o n w fr (More g l r) s a = replaying_staged o s.entries s.goals Continued g a
  replaying_restored o n w fr (Meet i) s a = a
  replaying_restored o n w fr (Join p b) s a = a

  replaying_recalled : (o : Opening) (ts : List Out) (s : State) → IsReplaying o s → IsReplaying o (each reclaims ts s)
  replaying_recalled o [] s a = a
  replaying_recalled o (t ∷ ts) s a = replaying_recalled o ts (reclaims t s) (replaying_restored o t.ticket t.worker t.front t.job s a)

  replaying_audits : (o : Opening) (s u : State) (x : Missing) (r : AuditReply) → MayAudit m o s x → Audits o x.fact s r u → IsReplaying o s → IsReplaying o u
  replaying_audits o s _ x _ may (is_closed v e) a = a
  replaying_audits o s _ x _ may (is_spent e c) a = a
  replaying_audits o s _ x _ next (is_kept e c) a =
      let may = was_missing m o s x next in
      replaying_born o s.entries s.goals x.fact
      (over_grown o.axioms may.drained.entries s.entries (audited_grew o may.all may.drained (x ∷ may.left) s may.audited) x.fact.chain x.fact.left x.fact.right (missing_leads m o.axioms may.drained may.all may.is_final x may.among)) a

  replaying_closes : (o : Opening) (s u : State) (outcome : Outcome) (v : Verdict) → Closes s outcome v u → IsReplaying o s → IsReplaying o u
  replaying_closes o s _ _ _ converges a = a
  replaying_closes o s _ _ _ has_large a = a
  replaying_closes o s _ _ _ has_stuck a = a

  replaying_starts : (o : Opening) (s : State) → Starts o s → IsReplaying o s
  replaying_starts o _ (axioms_wait l) = record { facts = λ n f e. absurd (cc); goals = goals_start o.axioms [] o.goals }
  replaying_starts o _ (too_many_axioms l) = record { facts = λ n f e. absurd (cc); goals = goals_start o.axioms [] o.goals }

  replaying_reaches : (o : Opening) (s : State) → Reaches m o s → IsReplaying o s
  replaying_reaches o s (starts a) = replaying_starts o s a
  replaying_reaches o u (draws_on {s = s} {r = r} w l a d) = replaying_draws o w s r u d (replaying_reaches o s a)
  replaying_reaches o u (commits_on {s = s} {f = f} t at right a c) = replaying_commits o s t f u (Each-at (λ (v : Out). JobEnds s.goals v.job) t.ticket s.out t at (rests_reaches m o s a).ends) right (replaying_reaches o s a) c
  replaying_reaches o _ (reclaims_on {s = s} t at a) = replaying_restored o t.ticket t.worker t.front t.job s (replaying_reaches o s a)
  replaying_reaches o _ (recalls_on {s = s} a) = replaying_recalled o s.out s (replaying_reaches o s a)
  replaying_reaches o u (audits_on {s = s} {answer = r} x may a b) = replaying_audits o s u x r may b (replaying_reaches o s a)
  replaying_reaches o u (closes_on {s = s} {outcome = outcome} {v = v} d f a c) = replaying_closes o s u outcome v c (replaying_reaches o s a)

  pub chains_replay : (o : Opening) (s : State) → Reaches m o s → ChainsReplay o s
  chains_replay o s r =
      let a = replaying_reaches o s r in
      record {
        facts = a.facts;
        as_many = as_many_goals o.axioms (born s.entries) o.goals s.goals a.goals;
        goals = λ n g at goal is. (let h = goal_at o.axioms (born s.entries) o.goals s.goals n g goal at is a.goals in record { left = h.0; right = h.1 });
      }
