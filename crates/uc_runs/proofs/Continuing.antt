-- In every state of a run the last commit of a Continued goal made exactly 4,096 steps, a further one being possible.
use Rattle.std.proofs.Common.{◌≡◌, ℕ, zero, suc, ◌+◌, ◌-◌, ◌≤◌, List, [], ◌∷◌, ◌++◌, length, true, false, cond, ◌==◌, Option, Some, None, refl, ap, sym, ◌∙◌, arith, inl, inr, subst, map, take, slice_get}
use Rattle.std.specs.Prelude.{◌⊎◌}
use Rattle.std.proofs.lemmas.Bool.{cases_Bool, eqb-false, eq-eqb, ne_eqb, cases_eq, false≢true}
use Rattle.uc_term.specs.declared.equation.Equation.{Equation}
use Rattle.uc_term.specs.Tree.{Tree}
use Rattle.uc_order.specs.Laws.{Meaning}
use Rattle.uc_fact.specs.declared.chain.Chain.{Chain}
use Rattle.uc_fact.specs.declared.chain.Step.{Step}
use Rattle.uc_fact.specs.declared.fact.Fact.{Fact}
use Rattle.uc_fact.specs.declared.fact.Stop.{Stop}
use Rattle.uc_fact.specs.declared.fact.Stop.TheVariants.{Full, Steps, Size}
use Rattle.uc_fact.specs.Live.{Live}
use Rattle.uc_rewrite.specs.declared.normal.Normal.{Normal}
use Rattle.uc_rewrite.specs.Normalising.{Normalises, is_full, is_spent as has_spent, is_large, goes_on as makes_step}
use Rattle.uc_shelf.specs.declared.entry.Entry.{Entry}
use Rattle.uc_shelf.specs.Entries.{is_dead, live}
use Rattle.uc_machine.specs.declared.state.Stage.{Stage}
use Rattle.uc_machine.specs.declared.state.Stage.TheVariants.{Due, Busy, Continued, Settled, Stuck}
use Rattle.uc_machine.specs.declared.event.Event.{Event}
use Rattle.uc_machine.specs.declared.event.Verdict.{Verdict}
use Rattle.uc_machine.specs.declared.event.GoalEnd.{GoalEnd}
use Rattle.uc_machine.specs.declared.event.GoalEnd.TheVariants.{Met as EndsMet, Steps as EndsSteps}
use Rattle.uc_machine.specs.declared.event.Happening.{Happening}
use Rattle.uc_machine.specs.declared.event.Happening.TheVariants.{CommitGoal, CommitMore, CommitMeet}
use Rattle.uc_machine.specs.declared.task.Finding.{Finding}
use Rattle.uc_machine.specs.declared.task.Finding.TheVariants.{Ends}
use Rattle.uc_machine.specs.declared.task.Job.{Job}
use Rattle.uc_machine.specs.declared.task.Job.TheVariants.{Goal, More, Meet, Join}
use Rattle.uc_machine.specs.declared.task.Outcome.{Outcome}
use Rattle.uc_machine.specs.Commits.{GoalEnds, ends_meet, ends_differ, StageAfter, after_steps, full_but_grown, size_but_grown, after_full, after_size, Meets, within_limit, past_limit, newly_waiting, stays, steps_of, end_word, Commits, is_late, goal_ends, more_ends, pair_joins, fact_is_kept, fact_is_stale, fact_is_dead, fact_meets}
use Rattle.uc_machine.specs.Draws.{Reply, with_ends, Draws, verdict_stands, goal_is_due, fact_is_unmet, orphan_is_dropped, goal_is_continued, pair_is_drawn, budget_is_out, budget_is_spent, all_is_out, all_is_done}
use Rattle.uc_machine.specs.Effects.{wakes, wakes_stage, kills, visits, drops, goes_on, task_for, draw_event, reclaims}
use Rattle.uc_machine.specs.Events.{GoalCommit, goal_commit, else_this, last_commit}
use Rattle.uc_machine.specs.Lists.{change, each, Each}
use Rattle.uc_machine.specs.Promises.{WasSpent, GoesOn, MoresGoOn}
use Rattle.uc_machine.specs.Results.{NormaliseBoth, stop_of, IsResult}
use Rattle.uc_machine.specs.Runs.{goal_of, Starts, axioms_wait, too_many_axioms, AuditReply, Audits, is_closed, is_spent, is_kept, Closes, converges, has_large, has_stuck, Reaches, starts, draws_on, commits_on, reclaims_on, recalls_on, audits_on, closes_on}
use Rattle.uc_machine.specs.State.{Opening, State, Target, Out, is_continued, out_at, without}
use Rattle.uc_runs.proofs.AtRest.{GoalResult, result_goal, result_more, is_busy}
use Rattle.uc_machine.proofs.Blocks.{apart_from}
use Rattle.uc_machine.proofs.Found.{first_is}
use Rattle.uc_machine.proofs.Calls.{out_restored}
use Rattle.uc_machine.proofs.Kept.{is_same, IsBusy, Kept}
use Rattle.uc_machine.proofs.Lists.{get-changed, Each-map, Each-push, Each-without, Each-at}
use Rattle.uc_machine.proofs.Runs.{kept_reaches}
use Rattle.uc_machine.proofs.Steps.{at_task}

-- the last commit of a longer history

last_same : (g : ℕ) (h : List Event) (e : Event) → goal_commit g e.what ≡ None → last_commit g (h ++ e ∷ []) ≡ last_commit g h
last_same g [] e q = q
last_same g (x ∷ h) e q = ap (λ (c : Option GoalCommit). else_this c (goal_commit g x.what)) (last_same g h e q)

last_new : (g : ℕ) (h : List Event) (e : Event) (c : GoalCommit) → goal_commit g e.what ≡ Some c → last_commit g (h ++ e ∷ []) ≡ Some c
last_new g [] e c q = q
last_new g (x ∷ h) e c q = ap (λ (d : Option GoalCommit). else_this d (goal_commit g x.what)) (last_new g h e c q)

-- how many steps are made

spent_steps : (m : Meaning) (ls : List Live) (limit : ℕ) (t end : Tree) (steps : List Step) (stop : Stop) → Normalises m.greater m.least ls limit t steps end stop → (length steps ≤ limit) × (stop ≡ Steps → length steps ≡ limit)
spent_steps m ls limit t _ _ _ (is_full i) = ((omega arith), (λ e. absurd (cc)))
spent_steps m ls _ t _ _ _ (has_spent f) = ((omega arith), (λ e. refl))
spent_steps m ls _ t _ _ _ (is_large f l) = ((omega arith), (λ e. absurd (cc)))
spent_steps m ls _ t end _ stop (makes_step {limit = limit} {v = v} {steps = steps} f l n) =
    let r = spent_steps m ls limit v end steps stop n in
    let low : length steps ≤ limit = r.0 in
    ((omega arith), (λ e. ap suc (r.1 e)))

pub one_spent : (a b : Stop) → stop_of a b ≡ Steps → (a ≡ Steps) ⊎ (b ≡ Steps)
one_spent Full b e = inr e
one_spent Steps b e = inl refl
one_spent Size Full e = absurd (cc)
one_spent Size Steps e = inr refl
one_spent Size Size e = absurd (cc)

both_spent : (m : Meaning) (es : List Entry) (l r : Tree) (left right : Normal) → NormaliseBoth m es l r left right → stop_of left.stop right.stop ≡ Steps → length left.chain.steps + length right.chain.steps ≡ 4096
both_spent m es l r left right both e =
    let p = spent_steps m (live es) 4096 l left.term left.chain.steps left.stop both.left_is.normalises in
    let q = spent_steps m (live es) (4096 - length left.chain.steps) r right.term right.chain.steps right.stop both.right_is.normalises in
    let low : length left.chain.steps ≤ 4096 = p.0 in
    let rest : length right.chain.steps ≤ 4096 - length left.chain.steps = q.0 in
    elim (one_spent left.stop right.stop e) [
      | inl a ↦ (let x : length left.chain.steps ≡ 4096 = p.1 a in omega arith)
      | inr b ↦ (let x : length right.chain.steps ≡ 4096 - length left.chain.steps = q.1 b in omega arith)
    ]

-- what is kept

record Going (gs : List Target) (outs : List Out) (h : List Event) : Type 0 where
  continued : (g : ℕ) (x : Target) → slice_get gs g ≡ Some x → x.stage ≡ Continued → WasSpent g h
  out : Each (λ (t : Out). GoesOn h t.job) outs

abbrev IsGoing : State → Type 0
IsGoing s = Going s.goals s.out s.history

-- an event that is no goal's commit
abbrev IsQuiet : Event → Type 0
IsQuiet e = (g : ℕ) → goal_commit g e.what ≡ None

goes_on_quiet : (h : List Event) (e : Event) → IsQuiet e → (j : Job) → GoesOn h j → GoesOn (h ++ e ∷ []) j
goes_on_quiet h e q (Goal g l r) a = tt
goes_on_quiet h e q (More g l r) a = last_same g h e (q g) ∙ a
goes_on_quiet h e q (Meet i) a = tt
goes_on_quiet h e q (Join p o) a = tt

going_event : (gs : List Target) (out : List Out) (h : List Event) (e : Event) → IsQuiet e → Going gs out h → Going gs out (h ++ e ∷ [])
going_event gs out h e q a = record {
  continued = λ g x at c. last_same g h e (q g) ∙ a.continued g x at c;
  out = Each-map (λ (t : Out) b. goes_on_quiet h e q t.job b) out a.out;
}

going_without : (gs : List Target) (out : List Out) (h : List Event) (n : ℕ) → Going gs out h → Going gs (without n out) h
going_without gs out h n a = record { continued = a.continued; out = Each-without (λ (t : Out). GoesOn h t.job) n out a.out }

going_push : (gs : List Target) (out : List Out) (h : List Event) (t : Out) → GoesOn h t.job → Going gs out h → Going gs (out ++ t ∷ []) h
going_push gs out h t b a = record { continued = a.continued; out = Each-push (λ (u : Out). GoesOn h u.job) out t a.out b }

-- a goal gets another stage; where it is Continued, its last commit spent its steps
going_staged : (gs : List Target) (out : List Out) (h : List Event) (c : Stage) (g : ℕ) → (c ≡ Continued → WasSpent g h) → Going gs out h → Going (change (λ (x : Target). record x { stage = c }) gs g) out h
going_staged gs out h c g f a = record { continued = staged; out = a.out }
  where
    staged : (n : ℕ) (x : Target) → slice_get (change (λ (y : Target). record y { stage = c }) gs g) n ≡ Some x → x.stage ≡ Continued → WasSpent n h
    staged n x at q = elim (get-changed (λ (y : Target). record y { stage = c }) gs g n x at) [
      | inl b ↦ a.continued n x b q
      | inr b ↦ subst (λ k. WasSpent k h) b.0 (f (sym (ap (λ (z : Target). z.stage) b.1.2) ∙ q))
    ]

pub busy_no : {A : Type 0} → (let c : Stage = Busy in c ≡ Continued) → A
busy_no e = absurd (cc)

pub due_no : {A : Type 0} → (let c : Stage = Due in c ≡ Continued) → A
due_no e = absurd (cc)

pub still_continued : (c : Stage) → wakes_stage c ≡ Continued → c ≡ Continued
still_continued Due e = absurd (cc)
still_continued Busy e = absurd (cc)
still_continued Continued e = refl
still_continued Settled e = absurd (cc)
still_continued Stuck e = absurd (cc)

pub woken_from : (gs : List Target) (g : ℕ) (y : Target) → slice_get (map wakes gs) g ≡ Some y → (x : Target) × (slice_get gs g ≡ Some x) × (y ≡ wakes x)
woken_from [] g y e = absurd (cc)
woken_from (x ∷ gs) zero y e = (x, refl, (cc))
woken_from (x ∷ gs) (suc g) y e = woken_from gs g y e

going_woken : (gs : List Target) (out : List Out) (h : List Event) → Going gs out h → Going (map wakes gs) out h
going_woken gs out h a = record {
  continued = λ g y at c. (let x = woken_from gs g y at in a.continued g x.0 x.1 (still_continued x.0.stage (sym (ap (λ (z : Target). z.stage) x.2) ∙ c)));
  out = a.out;
}

going_kills : (i k : ℕ) (s : State) → IsGoing s → IsGoing (kills i k s)
going_kills i k s a = elim (cases_Bool (is_dead s.entries k)) as (λ _. IsGoing (kills i k s)) [
  | inl e ↦ rw e a
  | inr e ↦ rw e (going_woken s.goals s.out s.history a)
]

going_each : (i : ℕ) (ks : List ℕ) (s : State) → IsGoing s → IsGoing (each (kills i) ks s)
going_each i [] s a = a
going_each i (k ∷ ks) s a = going_each i ks (kills i k s) (going_kills i k s a)

pub continued_is : (c : Stage) → is_continued c ≡ true → c ≡ Continued
continued_is Due e = absurd (false≢true e)
continued_is Busy e = absurd (false≢true e)
continued_is Continued e = refl
continued_is Settled e = absurd (false≢true e)
continued_is Stuck e = absurd (false≢true e)

going_draws : (o : Opening) (w : ℕ) (s : State) (r : Reply) (u : State) → Draws o w s r u → IsGoing s → IsGoing u
going_draws o w s _ _ (verdict_stands v e) a = a
going_draws o w s _ _ (goal_is_due g e f) a =
    going_event _ _ s.history (record { worker = w; what = draw_event (with_ends Goal g) (length s.entries) }) (λ n. refl)
    (going_push _ s.out s.history (task_for w (with_ends Goal g) s) tt (going_staged s.goals s.out s.history Busy g.number busy_no a))
going_draws o w s _ _ (fact_is_unmet i n f) a =
    going_event s.goals _ s.history (record { worker = w; what = draw_event (Meet i.number) (length s.entries) }) (λ k. refl) (going_push s.goals s.out s.history (task_for w (Meet i.number) s) tt a)
going_draws o w s r u (orphan_is_dropped p n e f d) a = going_draws o w (drops w p.number s) r u d (going_event s.goals s.out s.history _ (λ k. refl) a)
going_draws o w s _ _ (goal_is_continued g l f room) a =
    let h = first_is (λ (y : Target). is_continued y.stage) s.goals g f in
    going_event _ _ s.history (record { worker = w; what = draw_event (with_ends More g) (length s.entries) }) (λ n. refl)
    (going_push _ s.out s.history (task_for w (with_ends More g) s) (a.continued g.number g.here h.at (continued_is g.here.stage h.passes)) (going_staged s.goals s.out s.history Busy g.number busy_no a))
going_draws o w s _ _ (pair_is_drawn p x l f e at room) a =
    going_event s.goals _ s.history (record { worker = w; what = draw_event (Join p.number x.origin) (length s.entries) }) (λ k. refl) (going_push s.goals s.out s.history (task_for w (Join p.number x.origin) s) tt a)
going_draws o w s _ _ (budget_is_out l b c d) a = a
going_draws o w s _ _ (budget_is_spent l b c d) a = going_event s.goals s.out s.history _ (λ k. refl) a
going_draws o w s _ _ (all_is_out l b c) a = a
going_draws o w s _ _ (all_is_done l b c) a = a

-- the commit of a goal

abbrev Tells : (ℕ → ℕ → GoalEnd → Happening) → Type 0
Tells kind = (g n k : ℕ) (e : GoalEnd) → goal_commit k (kind g n e) ≡ cond (g == k) (Some (record { steps = n; end = e })) None

others_go_on : (kind : ℕ → ℕ → GoalEnd → Happening) → Tells kind → (w g n : ℕ) (e : GoalEnd) (h : List Event) (j : Job) → ((l r : Tree) (k : ℕ) → j ≡ More k l r → (g ≡ k → ⊥)) → GoesOn h j → GoesOn (h ++ record { worker = w; what = kind g n e } ∷ []) j
others_go_on kind tells w g n e h (Goal k l r) ne a = tt
others_go_on kind tells w g n e h (More k l r) ne a = last_same k h (record { worker = w; what = kind g n e }) (tells g n k e ∙ rw (ne_eqb g k (ne l r k refl)) refl) ∙ a
others_go_on kind tells w g n e h (Meet i) ne a = tt
others_go_on kind tells w g n e h (Join p o) ne a = tt

-- another goal's More is of another goal
apart_goal : (g : ℕ) (a b : Tree) (j : Job) → is_same (Goal g a b) j ≡ false → (l r : Tree) (k : ℕ) → j ≡ More k l r → (g ≡ k → ⊥)
apart_goal g a b j ne l r k e = eqb-false g k (subst (λ (z : Job). is_same (Goal g a b) z ≡ false) e ne)

apart_more : (g : ℕ) (a b : Tree) (j : Job) → is_same (More g a b) j ≡ false → (l r : Tree) (k : ℕ) → j ≡ More k l r → (g ≡ k → ⊥)
apart_more g a b j ne l r k e = eqb-false g k (subst (λ (z : Job). is_same (More g a b) z ≡ false) e ne)

all_go_on : (kind : ℕ → ℕ → GoalEnd → Happening) → Tells kind → (w g n : ℕ) (e : GoalEnd) (h : List Event) (j : Job) (out : List Out) → ((k : Job) → is_same j k ≡ false → (l r : Tree) (i : ℕ) → k ≡ More i l r → (g ≡ i → ⊥))
    → Each (λ (t : Out). is_same j t.job ≡ false) out → Each (λ (t : Out). GoesOn h t.job) out → Each (λ (t : Out). GoesOn (h ++ record { worker = w; what = kind g n e } ∷ []) t.job) out
all_go_on kind tells w g n e h j [] f a b = tt
all_go_on kind tells w g n e h j (t ∷ ts) f a b = (others_go_on kind tells w g n e h t.job (f t.job a.0) b.0, all_go_on kind tells w g n e h j ts f a.1 b.1)

-- the event of its commit is recorded, and the goal isn't Continued
going_commit : (kind : ℕ → ℕ → GoalEnd → Happening) → Tells kind → (w g n : ℕ) (e : GoalEnd) (gs hs : List Target) (out : List Out) (h : List Event) (j : Job) → ((k : Job) → is_same j k ≡ false → (l r : Tree) (i : ℕ) → k ≡ More i l r → (g ≡ i → ⊥))
    → Each (λ (t : Out). is_same j t.job ≡ false) out
    → ((k : ℕ) (x : Target) → slice_get hs k ≡ Some x → x.stage ≡ Continued → ((g ≡ k → ⊥) × ((y : Target) × (slice_get gs k ≡ Some y) × (y.stage ≡ Continued))) ⊎ ((g ≡ k) × ((n ≡ 4096) × (e ≡ EndsSteps))))
    → Going gs out h → Going hs out (h ++ record { worker = w; what = kind g n e } ∷ [])
going_commit kind tells w g n e gs hs out h j f apart known a = record { continued = staged; out = all_go_on kind tells w g n e h j out f apart a.out }
  where
    staged : (k : ℕ) (x : Target) → slice_get hs k ≡ Some x → x.stage ≡ Continued → WasSpent k (h ++ record { worker = w; what = kind g n e } ∷ [])
    staged k x at c = elim (known k x at c) [
      | inl b ↦ last_same k h (record { worker = w; what = kind g n e }) (tells g n k e ∙ rw (ne_eqb g k b.0) refl) ∙ a.continued k b.1.0 b.1.1 b.1.2
      | inr b ↦ last_new k h (record { worker = w; what = kind g n e }) (record { steps = 4096; end = EndsSteps })
          (tells g n k e ∙ rw (eq-eqb g k b.0) (ap (λ z. Some (let c : GoalCommit = record { steps = z; end = e } in c)) b.1.0 ∙ ap (λ z. Some (let c : GoalCommit = record { steps = 4096; end = z } in c)) b.1.1))
    ]

pub steps_only : (t : Out) (s : State) (stop : Stop) (c : Stage) → StageAfter t s stop c → c ≡ Continued → stop ≡ Steps
steps_only t s _ _ after_steps e = refl
steps_only t s _ _ (full_but_grown a) e = absurd (cc)
steps_only t s _ _ (size_but_grown a) e = absurd (cc)
steps_only t s _ _ (after_full a) e = absurd (cc)
steps_only t s _ _ (after_size a) e = absurd (cc)

module _ (m : Meaning) where
  goal_going : (kind : ℕ → ℕ → GoalEnd → Happening) → Tells kind → (s : State) (t : Out) (g : ℕ) (l r : Tree) (c d : Chain) (stop : Stop) (u : State) (j : Job) → ((k : Job) → is_same j k ≡ false → (x y : Tree) (i : ℕ) → k ≡ More i x y → (g ≡ i → ⊥))
      → Each (λ (v : Out). is_same j v.job ≡ false) (without t.ticket s.out) → ((x : Target) → slice_get s.goals g ≡ Some x → x.stage ≡ Continued → ⊥)
      → GoalResult m (take t.front s.entries) l r c d stop → GoalEnds kind t g c d stop s u → IsGoing s → IsGoing u
  goal_going kind tells s t g l r c d stop u j f apart busy q ends_ a = go u ends_
    where
      before : Going s.goals (without t.ticket s.out) s.history
      before = going_without s.goals s.out s.history t.ticket a

      -- a goal after the ends are taken over
      known : (k : ℕ) (x : Target) → slice_get (change (goes_on c d) s.goals g) k ≡ Some x → x.stage ≡ Continued → (g ≡ k → ⊥) × ((y : Target) × (slice_get s.goals k ≡ Some y) × (y.stage ≡ Continued))
      known k x at e = elim (cases_eq g k) [
        | inl same ↦ elim (get-changed (goes_on c d) s.goals g k x at) [
          | inl b ↦ absurd (busy x (subst (λ z. slice_get s.goals z ≡ Some x) (sym same) b) e)
          | inr b ↦ absurd (busy b.1.0 (subst (λ z. slice_get s.goals z ≡ Some b.1.0) (sym same) b.1.1) (sym (ap (λ (z : Target). z.stage) b.1.2) ∙ e))
        ]
        | inr ne ↦ elim (get-changed (goes_on c d) s.goals g k x at) [
          | inl b ↦ (ne, (x, b, e))
          | inr b ↦ absurd (ne b.0)
        ]
      ]

      -- and after its stage is set
      known_staged : (x : Stage) → (x ≡ Continued → stop ≡ Steps) → (k : ℕ) (y : Target) → slice_get (change (λ (z : Target). record z { stage = x }) (change (goes_on c d) s.goals g) g) k ≡ Some y → y.stage ≡ Continued
          → ((g ≡ k → ⊥) × ((z : Target) × (slice_get s.goals k ≡ Some z) × (z.stage ≡ Continued))) ⊎ ((g ≡ k) × ((steps_of c d ≡ 4096) × (end_word stop ≡ EndsSteps)))
      known_staged x only k y at e = elim (get-changed (λ (z : Target). record z { stage = x }) (change (goes_on c d) s.goals g) g k y at) [
        | inl b ↦ inl (known k y b e)
        | inr b ↦ (let spent : stop ≡ Steps = only (sym (ap (λ (z : Target). z.stage) b.1.2) ∙ e) in inr (b.0, (counted spent, ap end_word spent)))
      ]
        where
          counted : stop ≡ Steps → steps_of c d ≡ 4096
          counted e = subst (λ (z : Chain). length c.steps + length z.steps ≡ 4096) q.right_is (subst (λ (z : Chain). length z.steps + length q.right.chain.steps ≡ 4096) q.left_is (both_spent m (take t.front s.entries) l r q.left q.right q.both (q.stop_is ∙ e)))

      go : (u : State) → GoalEnds kind t g c d stop s u → IsGoing u
      go _ (ends_meet e) =
          going_event (change (goes_on c d) s.goals g) (without t.ticket s.out) (s.history ++ record { worker = t.worker; what = kind g (steps_of c d) EndsMet } ∷ []) _ (λ k. refl)
          (going_commit kind tells t.worker g (steps_of c d) EndsMet s.goals (change (goes_on c d) s.goals g) (without t.ticket s.out) s.history j f apart (λ k x at z. inl (known k x at z)) before)
      go _ (ends_differ x n b) =
          going_commit kind tells t.worker g (steps_of c d) (end_word stop) s.goals (change (λ (z : Target). record z { stage = x }) (change (goes_on c d) s.goals g) g) (without t.ticket s.out) s.history j f apart (known_staged x (steps_only t s stop x b)) before

  going_meets : (o : Opening) (t : Out) (i pairs : ℕ) (does : State → State) (s u : State) → ((x : State) → IsGoing x → IsGoing (does x)) → Meets o t i pairs does s u → IsGoing s → IsGoing u
  going_meets o t i pairs does s _ g (within_limit died b c) a = g _ (going_event s.goals (without t.ticket s.out) s.history (record { worker = t.worker; what = CommitMeet i pairs died }) (λ k. refl) (going_without s.goals s.out s.history t.ticket a))
  going_meets o t i pairs does s _ g (past_limit more b c) a =
      going_event s.goals (without t.ticket s.out) _ _ (λ k. refl) (going_event s.goals (without t.ticket s.out) s.history (record { worker = t.worker; what = CommitMeet i 0 0 }) (λ k. refl) (going_without s.goals s.out s.history t.ticket a))

  pub not_continued : (gs : List Target) (g : ℕ) → ((x : Target) → slice_get gs g ≡ Some x → x.stage ≡ Busy) → (x : Target) → slice_get gs g ≡ Some x → x.stage ≡ Continued → ⊥
  not_continued gs g busy x at e = let b : x.stage ≡ Busy = busy x at in busy_no (sym b ∙ e)

  going_commits : (o : Opening) (s : State) (t : Out) (f : Finding) (u : State) → Kept o s → out_at t.ticket s.out ≡ Some t → IsResult m o.axioms (take t.front s.entries) t.job f → IsGoing s → Commits o t f s u → IsGoing u
  going_commits o s t f _ k at right a (is_late v e) = going_event s.goals (without t.ticket s.out) s.history _ (λ g. refl) (going_without s.goals s.out s.history t.ticket a)
  going_commits o s t _ u k at right a (goal_ends {l = c} {r = d} {stop = stop} g x y e is ends_) =
      goal_going CommitGoal (λ h n i z. refl) s t g x y c d stop u (Goal g x y) (λ j ne l r i q. apart_goal g x y j ne l r i q)
      (subst (λ (j : Job). Each (λ (v : Out). is_same j v.job ≡ false) (without t.ticket s.out)) is (apart_from t.ticket s.out t at k.tasks.apart))
      (not_continued s.goals g (is_busy s.goals g (subst (λ (j : Job). IsBusy s.pairs s.goals s.meetings t.worker j) is (at_task o s t k at))))
      (result_goal m o.axioms (take t.front s.entries) t.job (Ends c d stop) right g x y c d stop is refl) ends_ a
  going_commits o s t _ u k at right a (more_ends {l = c} {r = d} {stop = stop} g x y e is ends_) =
      goal_going CommitMore (λ h n i z. refl) s t g x y c d stop u (More g x y) (λ j ne l r i q. apart_more g x y j ne l r i q)
      (subst (λ (j : Job). Each (λ (v : Out). is_same j v.job ≡ false) (without t.ticket s.out)) is (apart_from t.ticket s.out t at k.tasks.apart))
      (not_continued s.goals g (is_busy s.goals g (subst (λ (j : Job). IsBusy s.pairs s.goals s.meetings t.worker j) is (at_task o s t k at))))
      (result_more m o.axioms (take t.front s.entries) t.job (Ends c d stop) right g x y c d stop is refl) ends_ a
  going_commits o s t _ _ k at right a (pair_joins p b e is) = going_event s.goals (without t.ticket s.out) s.history _ (λ g. refl) (going_without s.goals s.out s.history t.ticket a)
  going_commits o s t _ _ k at right a (fact_is_kept {f = f} p b e is) = going_woken s.goals (without t.ticket s.out) _ (going_event s.goals (without t.ticket s.out) s.history _ (λ g. refl) (going_without s.goals s.out s.history t.ticket a))
  going_commits o s t _ u k at right a (fact_is_stale {k = c} i e is b) = going_meets o t i 0 (λ y. kills c i y) s u (λ y z. going_kills c i y z) b a
  going_commits o s t _ u k at right a (fact_is_dead i e is d b) = going_meets o t i 0 stays s u (λ y z. z) b a
  going_commits o s t _ u k at right a (fact_meets {ks = ks} {fs = fs} i e is d b) = going_meets o t i (newly_waiting fs (each (λ c. kills i c) ks s)) (λ y. visits i ks fs y) s u (λ y z. going_each i ks y z) b a

  going_restored : (n w fr : ℕ) (j : Job) (s : State) → (let t : Out = record { ticket = n; worker = w; job = j; front = fr } in out_at n s.out ≡ Some t → IsGoing s → IsGoing (reclaims t s))
  going_restored n w fr (Goal g l r) s at a = going_event _ (without n s.out) s.history _ (λ k. refl) (going_staged s.goals (without n s.out) s.history Due g due_no (going_without s.goals s.out s.history n a))
  going_restored n w fr (More g l r) s at a =
      going_event _ (without n s.out) s.history _ (λ k. refl)
      (going_staged s.goals (without n s.out) s.history Continued g (λ e. Each-at (λ (v : Out). GoesOn s.history v.job) n s.out (record { ticket = n; worker = w; job = More g l r; front = fr }) at a.out) (going_without s.goals s.out s.history n a))
  going_restored n w fr (Meet i) s at a = going_event s.goals (without n s.out) s.history _ (λ k. refl) (going_without s.goals s.out s.history n a)
  going_restored n w fr (Join p b) s at a = going_event s.goals (without n s.out) s.history _ (λ k. refl) (going_without s.goals s.out s.history n a)

  going_recalled : (ts : List Out) (s : State) → s.out ≡ ts → IsGoing s → IsGoing (each reclaims ts s)
  going_recalled [] s e a = a
  going_recalled (t ∷ ts) s e a =
      let same : (t.ticket == t.ticket) ≡ true = eq-eqb t.ticket t.ticket refl in
      let at : out_at t.ticket s.out ≡ Some t = rw (e, same) refl in
      let less : without t.ticket (t ∷ ts) ≡ ts = rw same refl in
      going_recalled ts (reclaims t s) (out_restored t.ticket t.worker t.front t.job s ∙ ap (without t.ticket) e ∙ less) (going_restored t.ticket t.worker t.front t.job s at a)

  going_audits : (o : Opening) (f : Fact) (s u : State) (r : AuditReply) → Audits o f s r u → IsGoing s → IsGoing u
  going_audits o f s _ _ (is_closed v e) a = a
  going_audits o f s _ _ (is_spent e c) a = going_event s.goals s.out s.history _ (λ k. refl) a
  going_audits o f s _ _ (is_kept e c) a = going_event (map wakes s.goals) s.out s.history _ (λ k. refl) (going_woken s.goals s.out s.history a)

  going_closes : (s u : State) (outcome : Outcome) (v : Verdict) → Closes s outcome v u → IsGoing s → IsGoing u
  going_closes s _ _ _ converges a = going_event s.goals s.out s.history _ (λ k. refl) a
  going_closes s _ _ _ has_large a = going_event s.goals s.out s.history _ (λ k. refl) a
  going_closes s _ _ _ has_stuck a = going_event s.goals s.out s.history _ (λ k. refl) a

  pub none_continued : (gs : List Equation) (g : ℕ) (x : Target) → slice_get (map goal_of gs) g ≡ Some x → x.stage ≡ Continued → ⊥
  none_continued [] g x at e = cc
  none_continued (y ∷ gs) zero x at e = due_no (ap (λ (z : Target). z.stage) (first_goal (goal_of y) x at) ∙ e)
    where
      first_goal : (a b : Target) → (let o : Option Target = Some a in o ≡ Some b) → a ≡ b
      first_goal a b e = cc
  none_continued (y ∷ gs) (suc g) x at e = none_continued gs g x at e

  going_starts : (o : Opening) (s : State) → Starts o s → IsGoing s
  going_starts o _ (axioms_wait l) = record { continued = λ g x at e. absurd (none_continued o.goals g x at e); out = tt }
  going_starts o _ (too_many_axioms l) = record { continued = λ g x at e. absurd (none_continued o.goals g x at e); out = tt }

  going_reaches : (o : Opening) (s : State) → Reaches m o s → IsGoing s
  going_reaches o s (starts a) = going_starts o s a
  going_reaches o u (draws_on {s = s} {r = r} w l a d) = going_draws o w s r u d (going_reaches o s a)
  going_reaches o u (commits_on {s = s} {f = f} t at right a c) = going_commits o s t f u (kept_reaches m o s a) at right (going_reaches o s a) c
  going_reaches o _ (reclaims_on {s = s} t at a) = going_restored t.ticket t.worker t.front t.job s at (going_reaches o s a)
  going_reaches o _ (recalls_on {s = s} a) = going_recalled s.out s refl (going_reaches o s a)
  going_reaches o u (audits_on {s = s} {answer = r} x may a b) = going_audits o x.fact s u r b (going_reaches o s a)
  going_reaches o u (closes_on {s = s} {outcome = outcome} {v = v} d f a c) = going_closes s u outcome v c (going_reaches o s a)

  pub mores_go_on : (o : Opening) (s : State) → Reaches m o s → MoresGoOn s
  mores_go_on o s r = let a = going_reaches o s r in record { continued = a.continued; out = a.out }
