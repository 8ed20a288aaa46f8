-- From one state one commit, one audit, one close and one start leave one state.
use Rattle.std.proofs.Common.{◌≡◌, ℕ, ◌+◌, ◌<◌, ◌≤◌, true, Some, None, length, refl, ap, sym, ◌∙◌, arith, subst}
use Rattle.std.proofs.lemmas.Bool.{false≢true}
use Rattle.uc_term.specs.Tree.{Tree}
use Rattle.uc_fact.specs.declared.chain.Chain.{Chain}
use Rattle.uc_fact.specs.declared.fact.Fact.{Fact}
use Rattle.uc_fact.specs.declared.fact.Origin.{Origin}
use Rattle.uc_fact.specs.declared.fact.Stop.{Stop}
use Rattle.uc_shelf.specs.Entries.{born, is_dead}
use Rattle.uc_ledger.specs.declared.ledger.State.TheVariants.{Done}
use Rattle.uc_machine.specs.declared.state.Stage.{Stage}
use Rattle.uc_machine.specs.declared.event.Verdict.{Verdict}
use Rattle.uc_machine.specs.declared.event.Verdict.TheVariants.{PairsOut}
use Rattle.uc_machine.specs.declared.event.GoalEnd.{GoalEnd}
use Rattle.uc_machine.specs.declared.event.Happening.{Happening}
use Rattle.uc_machine.specs.declared.event.Happening.TheVariants.{CommitGoal, CommitMore, CommitMeet, CommitJoined, CommitKept}
use Rattle.uc_machine.specs.declared.task.Finding.{Finding}
use Rattle.uc_machine.specs.declared.task.Job.TheVariants.{Goal, More, Meet, Join}
use Rattle.uc_machine.specs.declared.task.Outcome.{Outcome}
use Rattle.uc_machine.specs.Commits.{HasGrown, HasNotGrown, StageAfter, after_steps, full_but_grown, size_but_grown, after_full, after_size, GoalEnds, ends_meet, ends_differ, Meets, within_limit, past_limit, deaths, newly_waiting, stays, steps_of, end_word, Commits, is_late, goal_ends, more_ends, pair_joins, fact_is_kept, fact_is_stale, fact_is_dead, fact_meets}
use Rattle.uc_machine.specs.Effects.{accepts, closes, takes_ends, stages, turns, publishes, kills, visits, is_met}
use Rattle.uc_machine.specs.Lists.{each}
use Rattle.uc_machine.specs.Runs.{AuditReply, ClosedBy, Starts, axioms_wait, too_many_axioms, Audits, is_closed, is_spent, is_kept, Closes, converges, has_large, has_stuck}
use Rattle.uc_machine.specs.State.{Opening, State, Out, waiting}

-- commit

grown_or_not : {A : Type 0} (t : Out) (s : State) → HasGrown t s → HasNotGrown t s → A
grown_or_not t s a b = absurd (let x : t.front < length s.entries = a in let y : length s.entries ≤ t.front = b in omega arith)

one_stage : (t : Out) (s : State) (stop : Stop) (a b : Stage) → StageAfter t s stop a → StageAfter t s stop b → a ≡ b
one_stage t s _ _ _ after_steps after_steps = refl
one_stage t s _ _ _ (full_but_grown g) (full_but_grown h) = refl
one_stage t s _ _ _ (full_but_grown g) (after_full n) = grown_or_not t s g n
one_stage t s _ _ _ (size_but_grown g) (size_but_grown h) = refl
one_stage t s _ _ _ (size_but_grown g) (after_size n) = grown_or_not t s g n
one_stage t s _ _ _ (after_full n) (full_but_grown g) = grown_or_not t s g n
one_stage t s _ _ _ (after_full n) (after_full k) = refl
one_stage t s _ _ _ (after_size n) (size_but_grown g) = grown_or_not t s g n
one_stage t s _ _ _ (after_size n) (after_size k) = refl

one_ends : (kind : ℕ → ℕ → GoalEnd → Happening) (t : Out) (g : ℕ) (l r : Chain) (stop : Stop) (s u v : State) → GoalEnds kind t g l r stop s u → GoalEnds kind t g l r stop s v → u ≡ v
one_ends kind t g l r stop s _ _ (ends_meet e) (ends_meet f) = refl
one_ends kind t g l r stop s _ _ (ends_meet e) (ends_differ c n a) = absurd (n e)
one_ends kind t g l r stop s _ _ (ends_differ c n a) (ends_meet e) = absurd (n e)
one_ends kind t g l r stop s _ _ (ends_differ c n a) (ends_differ d k b) = ap (λ (x : Stage). stages x g (takes_ends g l r (accepts t (kind g (steps_of l r) (end_word stop)) s))) (one_stage t s stop c d a b)

one_meets : (o : Opening) (t : Out) (i pairs : ℕ) (does : State → State) (s u v : State) → Meets o t i pairs does s u → Meets o t i pairs does s v → u ≡ v
one_meets o t i pairs does s _ _ (within_limit m a b) (within_limit n c d) =
    let x : deaths (does s) ≡ deaths s + m = b in
    let y : deaths (does s) ≡ deaths s + n = d in
    let e : m ≡ n = omega arith in
    ap (λ z. does (is_met i (accepts t (CommitMeet i pairs z) s))) e
one_meets o t i pairs does s _ _ (within_limit m a b) (past_limit n c d) =
    absurd (let x : waiting (does s) ≤ o.limit = a in let y : waiting (does s) ≡ waiting s + n = c in let z : o.limit < waiting s + n = d in omega arith)
one_meets o t i pairs does s _ _ (past_limit n c d) (within_limit m a b) =
    absurd (let x : waiting (does s) ≤ o.limit = a in let y : waiting (does s) ≡ waiting s + n = c in let z : o.limit < waiting s + n = d in omega arith)
one_meets o t i pairs does s _ _ (past_limit m a b) (past_limit n c d) =
    let x : waiting (does s) ≡ waiting s + m = a in
    let y : waiting (does s) ≡ waiting s + n = c in
    let e : m ≡ n = omega arith in
    ap (λ z. closes t.worker (PairsOut (waiting s) z) (is_met i (accepts t (CommitMeet i 0 0) s))) e

-- no verdict stands
late_or_not : {A : Type 0} (s : State) (v : Verdict) → s.verdict ≡ Some v → s.verdict ≡ None → A
late_or_not s v e n = absurd (cc)

one_goal : (t : Out) (g h : ℕ) (a b c d : Tree) → t.job ≡ Goal g a b → t.job ≡ Goal h c d → g ≡ h
one_goal t g h a b c d p q = cc

one_more : (t : Out) (g h : ℕ) (a b c d : Tree) → t.job ≡ More g a b → t.job ≡ More h c d → g ≡ h
one_more t g h a b c d p q = cc

goal_or_more : {A : Type 0} (t : Out) (g h : ℕ) (a b c d : Tree) → t.job ≡ Goal g a b → t.job ≡ More h c d → A
goal_or_more t g h a b c d p q = absurd (cc)

one_fact : (t : Out) (i j : ℕ) → t.job ≡ Meet i → t.job ≡ Meet j → i ≡ j
one_fact t i j p q = cc

one_join : (t : Out) (p q : ℕ) (a b : Origin) → t.job ≡ Join p a → t.job ≡ Join q b → p ≡ q
one_join t p q a b x y = cc

pub one_commit : (o : Opening) (t : Out) (f : Finding) (s u v : State) → Commits o t f s u → Commits o t f s v → u ≡ v
one_commit o t f s _ _ (is_late v e) (is_late w d) = refl
one_commit o t _ s _ v (is_late x e) (goal_ends g a b n is y) = late_or_not s x e n
one_commit o t _ s _ v (is_late x e) (more_ends g a b n is y) = late_or_not s x e n
one_commit o t _ s _ _ (is_late x e) (pair_joins p a n is) = late_or_not s x e n
one_commit o t _ s _ _ (is_late x e) (fact_is_kept p a n is) = late_or_not s x e n
one_commit o t _ s _ v (is_late x e) (fact_is_stale i n is y) = late_or_not s x e n
one_commit o t _ s _ v (is_late x e) (fact_is_dead i n is d y) = late_or_not s x e n
one_commit o t _ s _ v (is_late x e) (fact_meets i n is d y) = late_or_not s x e n
one_commit o t _ s u _ (goal_ends g a b n is x) (is_late y e) = late_or_not s y e n
one_commit o t _ s u v (goal_ends {l = l} {r = r} {stop = stop} g a b n is x) (goal_ends h c d k js y) = let q : h ≡ g = one_goal t h g c d a b js is in one_ends CommitGoal t g l r stop s u v x (subst (λ z. GoalEnds CommitGoal t z l r stop s v) q y)
one_commit o t _ s u v (goal_ends g a b n is x) (more_ends h c d k js y) = goal_or_more t g h a b c d is js
one_commit o t _ s u _ (more_ends g a b n is x) (is_late y e) = late_or_not s y e n
one_commit o t _ s u v (more_ends g a b n is x) (goal_ends h c d k js y) = goal_or_more t h g c d a b js is
one_commit o t _ s u v (more_ends {l = l} {r = r} {stop = stop} g a b n is x) (more_ends h c d k js y) = let q : h ≡ g = one_more t h g c d a b js is in one_ends CommitMore t g l r stop s u v x (subst (λ z. GoalEnds CommitMore t z l r stop s v) q y)
one_commit o t _ s _ _ (pair_joins p a n is) (is_late y e) = late_or_not s y e n
one_commit o t _ s _ _ (pair_joins p a n is) (pair_joins q b k js) = ap (λ z. turns Done z (accepts t (CommitJoined z) s)) (one_join t p q a b is js)
one_commit o t _ s _ _ (fact_is_kept p a n is) (is_late y e) = late_or_not s y e n
one_commit o t _ s _ _ (fact_is_kept {f = f} p a n is) (fact_is_kept q b k js) = ap (λ z. publishes f (turns Done z (accepts t (CommitKept z (length (born s.entries))) s))) (one_join t p q a b is js)
one_commit o t _ s u _ (fact_is_stale i n is x) (is_late y e) = late_or_not s y e n
one_commit o t _ s u v (fact_is_stale {k = k} i n is x) (fact_is_stale j l js y) = let q : j ≡ i = one_fact t j i js is in one_meets o t i 0 (kills k i) s u v x (subst (λ z. Meets o t z 0 (kills k z) s v) q y)
one_commit o t _ s u _ (fact_is_dead i n is d x) (is_late y e) = late_or_not s y e n
one_commit o t _ s u v (fact_is_dead i n is d x) (fact_is_dead j l js c y) = let q : j ≡ i = one_fact t j i js is in one_meets o t i 0 stays s u v x (subst (λ z. Meets o t z 0 stays s v) q y)
one_commit o t _ s u v (fact_is_dead i n is d x) (fact_meets j l js c y) = absurd (let q : i ≡ j = one_fact t i j is js in false≢true (sym c ∙ subst (λ z. is_dead s.entries z ≡ true) q d))
one_commit o t _ s u _ (fact_meets i n is d x) (is_late y e) = late_or_not s y e n
one_commit o t _ s u v (fact_meets i n is d x) (fact_is_dead j l js c y) = absurd (let q : j ≡ i = one_fact t j i js is in false≢true (sym d ∙ subst (λ z. is_dead s.entries z ≡ true) q c))
one_commit o t _ s u v (fact_meets {ks = ks} {fs = fs} i n is d x) (fact_meets j l js c y) =
    let q : j ≡ i = one_fact t j i js is in
    one_meets o t i (newly_waiting fs (each (kills i) ks s)) (visits i ks fs) s u v x (subst (λ z. Meets o t z (newly_waiting fs (each (kills z) ks s)) (visits z ks fs) s v) q y)

-- audit, close, start

pub one_audit : (o : Opening) (f : Fact) (s : State) (a b : AuditReply) (u v : State) → Audits o f s a u → Audits o f s b v → (a ≡ b) × (u ≡ v)
one_audit o f s _ _ _ _ (is_closed v e) (is_closed w d) = let q : v ≡ w = cc in (ap ClosedBy q, refl)
one_audit o f s _ _ _ _ (is_closed v e) (is_spent n c) = late_or_not s v e n
one_audit o f s _ _ _ _ (is_closed v e) (is_kept n c) = late_or_not s v e n
one_audit o f s _ _ _ _ (is_spent n c) (is_closed v e) = late_or_not s v e n
one_audit o f s _ _ _ _ (is_spent n c) (is_spent k d) = (refl, refl)
one_audit o f s _ _ _ _ (is_spent n c) (is_kept k d) = absurd (d c)
one_audit o f s _ _ _ _ (is_kept n c) (is_closed v e) = late_or_not s v e n
one_audit o f s _ _ _ _ (is_kept n c) (is_spent k d) = absurd (c d)
one_audit o f s _ _ _ _ (is_kept n c) (is_kept k d) = (refl, refl)

pub one_close : (s : State) (outcome : Outcome) (a b : Verdict) (u v : State) → Closes s outcome a u → Closes s outcome b v → (a ≡ b) × (u ≡ v)
one_close s _ _ _ _ _ converges converges = (refl, refl)
one_close s _ _ _ _ _ has_large has_large = (refl, refl)
one_close s _ _ _ _ _ has_stuck has_stuck = (refl, refl)

pub one_start : (o : Opening) (u v : State) → Starts o u → Starts o v → u ≡ v
one_start o _ _ (axioms_wait a) (axioms_wait b) = refl
one_start o _ _ (axioms_wait a) (too_many_axioms b) = absurd (let x : length o.axioms ≤ o.limit = a in let y : o.limit < length o.axioms = b in omega arith)
one_start o _ _ (too_many_axioms a) (axioms_wait b) = absurd (let x : length o.axioms ≤ o.limit = b in let y : o.limit < length o.axioms = a in omega arith)
one_start o _ _ (too_many_axioms a) (too_many_axioms b) = refl
