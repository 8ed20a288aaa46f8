-- In every state of a run an ordered step was possible from an end of a Continued goal, by the facts of the task that was
-- committed last.
use Rattle.std.proofs.Common.{◌≡◌, ℕ, zero, suc, ◌+◌, ◌-◌, ◌≤◌, List, [], ◌∷◌, ◌++◌, length, true, ◌==◌, Some, refl, ap, sym, ◌∙◌, arith, inl, inr, subst, map, take, slice_get}
use Rattle.std.specs.Prelude.{◌⊎◌}
use Rattle.std.proofs.lemmas.Bool.{cases_Bool, eq-eqb}
use Rattle.std.proofs.lemmas.List.{take-append-le, length-append}
use Rattle.uc_term.specs.Tree.{Tree}
use Rattle.uc_order.specs.Laws.{Meaning}
use Rattle.uc_fact.specs.declared.chain.Chain.{Chain}
use Rattle.uc_fact.specs.declared.fact.Fact.{Fact}
use Rattle.uc_fact.specs.declared.fact.Stop.{Stop}
use Rattle.uc_fact.specs.declared.fact.Stop.TheVariants.{Steps}
use Rattle.uc_fact.specs.Chains.{end_of, followed_by}
use Rattle.uc_rewrite.specs.Normalising.{Normalises, is_full, is_spent as has_spent, is_large, goes_on as makes_step}
use Rattle.uc_fact.specs.declared.chain.Step.{Step}
use Rattle.uc_shelf.specs.declared.entry.Entry.{Entry}
use Rattle.uc_shelf.specs.Entries.{is_dead, live}
use Rattle.uc_machine.specs.declared.state.Stage.{Stage}
use Rattle.uc_machine.specs.declared.state.Stage.TheVariants.{Due, Busy, Continued}
use Rattle.uc_machine.specs.declared.event.Event.{Event}
use Rattle.uc_machine.specs.declared.event.Verdict.{Verdict}
use Rattle.uc_machine.specs.declared.event.GoalEnd.{GoalEnd}
use Rattle.uc_machine.specs.declared.event.Happening.{Happening}
use Rattle.uc_machine.specs.declared.event.Happening.TheVariants.{CommitGoal, CommitMore}
use Rattle.uc_machine.specs.declared.task.Finding.{Finding}
use Rattle.uc_machine.specs.declared.task.Finding.TheVariants.{Ends}
use Rattle.uc_machine.specs.declared.task.Job.{Job}
use Rattle.uc_machine.specs.declared.task.Job.TheVariants.{Goal, More, Meet, Join}
use Rattle.uc_machine.specs.declared.task.Outcome.{Outcome}
use Rattle.uc_machine.specs.Commits.{GoalEnds, ends_meet, ends_differ, Meets, within_limit, past_limit, newly_waiting, stays, Commits, is_late, goal_ends, more_ends, pair_joins, fact_is_kept, fact_is_stale, fact_is_dead, fact_meets}
use Rattle.uc_machine.specs.Draws.{Reply, with_ends, Draws, verdict_stands, goal_is_due, fact_is_unmet, orphan_is_dropped, goal_is_continued, pair_is_drawn, budget_is_out, budget_is_spent, all_is_out, all_is_done}
use Rattle.uc_machine.specs.Effects.{wakes, kills, visits, drops, draw_event, goes_on, task_for, reclaims}
use Rattle.uc_machine.specs.Lists.{change, each, Each}
use Rattle.uc_machine.specs.Promises.{CanGoOnIn, Grew, WasDrawn}
use Rattle.uc_machine.specs.Results.{IsResult}
use Rattle.uc_machine.specs.Runs.{Starts, axioms_wait, too_many_axioms, AuditReply, Audits, is_closed, is_spent, is_kept, Closes, converges, has_large, has_stuck, Reaches, starts, draws_on, commits_on, reclaims_on, recalls_on, audits_on, closes_on}
use Rattle.uc_machine.specs.State.{Opening, State, Target, Out, is_continued, is_draw, draws_in, out_at, without}
use Rattle.uc_machine.proofs.Found.{first_is}
use Rattle.uc_machine.proofs.Calls.{out_restored}
use Rattle.uc_machine.proofs.Grows.{kills_grew, commits_grew, audits_grew}
use Rattle.uc_machine.proofs.Kept.{IsBusy, Kept}
use Rattle.uc_machine.proofs.Lists.{get-changed, get-change_same, Each-map, Each-push, Each-without, Each-at}
use Rattle.uc_machine.proofs.Promises.{fronts_are_prefixes, tickets_differ}
use Rattle.uc_machine.proofs.Runs.{kept_reaches}
use Rattle.uc_machine.proofs.Steps.{at_task}
use Rattle.uc_runs.specs.Further.{IsAboutGoal, GaveEnds, GoesFurther, MoreGoesFurther, ContinuedGoFurther}
use Rattle.uc_runs.specs.Later.{Continues, draws_next, commits_result, reclaims_task, recalls_tasks, audits_missing, closes_drained}
use Rattle.uc_runs.proofs.Recording.{none, further, call_records}
use Rattle.uc_runs.proofs.AtRest.{JobEnds, HasEnds, GoalResult, result_goal, result_more, is_busy, end_followed, normal_end, rests_reaches}
use Rattle.uc_runs.proofs.Continuing.{busy_no, due_no, still_continued, woken_from, continued_is, steps_only, one_spent, not_continued, none_continued}

-- a draw stays where it is as the history grows
draws_both : (h i : List Event) → draws_in (h ++ i) ≡ draws_in h ++ draws_in i
draws_both [] i = refl
draws_both (e ∷ h) i = elim (cases_Bool (is_draw e)) as (λ _. draws_in (e ∷ h ++ i) ≡ draws_in (e ∷ h) ++ draws_in i) [ inl b ↦ rw b (ap (λ z. e ∷ z) (draws_both h i)) | inr b ↦ rw b (draws_both h i) ]

found_before : (xs ys : List Event) (n : ℕ) (e : Event) → slice_get xs n ≡ Some e → slice_get (xs ++ ys) n ≡ Some e
found_before [] ys n e f = absurd (cc)
found_before (x ∷ xs) ys zero e f = f
found_before (x ∷ xs) ys (suc n) e f = found_before xs ys n e f

drawn_on : (h i : List Event) (t : Out) → Continues h i → WasDrawn h t → WasDrawn i t
drawn_on h i t c d =
    let e : draws_in i ≡ draws_in h ++ draws_in c.more = ap draws_in c.is ∙ draws_both h c.more in
    ap (λ z. slice_get z t.ticket) e ∙ found_before (draws_in h) (draws_in c.more) t.ticket (record { worker = t.worker; what = draw_event t.job t.front }) d

module _ (m : Meaning) (o : Opening) (hist : List Event) where
  -- what is kept, of the goals and the tasks out
  record Further (es : List Entry) (gs : List Target) (outs : List Out) : Type 0 where
    continued : (g : ℕ) (x : Target) → slice_get gs g ≡ Some x → x.stage ≡ Continued → GoesFurther m o hist es g (end_of x.left) (end_of x.right)
    out : Each (λ (t : Out). MoreGoesFurther m o hist es t.job) outs

  abbrev IsFurther : State → Type 0
  IsFurther s = Further s.entries s.goals s.out

  -- entries grow

  goes_grew : (es fs : List Entry) (g : ℕ) (l r : Tree) → Grew es fs → GoesFurther m o hist es g l r → GoesFurther m o hist fs g l r
  goes_grew es fs n l r g a =
      let more : length fs ≡ length es + length g.more = ap length g.is ∙ length-append es g.more in
      let low : a.task.front ≤ length es = a.within in
      let same : take a.task.front fs ≡ take a.task.front es = ap (take a.task.front) g.is ∙ take-append-le a.task.front es g.more low in
      record { task = a.task; about = a.about; drawn = a.drawn; gave = a.gave; within = (omega arith); further = subst (λ z. CanGoOnIn m z l ⊎ CanGoOnIn m z r) (sym same) a.further }

  more_grew : (es fs : List Entry) → Grew es fs → (j : Job) → MoreGoesFurther m o hist es j → MoreGoesFurther m o hist fs j
  more_grew es fs g (Goal n l r) a = tt
  more_grew es fs g (More n l r) a = goes_grew es fs n l r g a
  more_grew es fs g (Meet i) a = tt
  more_grew es fs g (Join p o) a = tt

  further_grew : (es fs : List Entry) (gs : List Target) (out : List Out) → Grew es fs → Further es gs out → Further fs gs out
  further_grew es fs gs out g a = record {
    continued = λ n x at c. goes_grew es fs n (end_of x.left) (end_of x.right) g (a.continued n x at c);
    out = Each-map (λ (t : Out) b. more_grew es fs g t.job b) out a.out;
  }

  -- tasks end and go out

  further_without : (es : List Entry) (gs : List Target) (out : List Out) (n : ℕ) → Further es gs out → Further es gs (without n out)
  further_without es gs out n a = record { continued = a.continued; out = Each-without (λ (t : Out). MoreGoesFurther m o hist es t.job) n out a.out }

  further_push : (es : List Entry) (gs : List Target) (out : List Out) (t : Out) → MoreGoesFurther m o hist es t.job → Further es gs out → Further es gs (out ++ t ∷ [])
  further_push es gs out t b a = record { continued = a.continued; out = Each-push (λ (u : Out). MoreGoesFurther m o hist es u.job) out t a.out b }

  -- goals change

  further_staged : (es : List Entry) (gs : List Target) (out : List Out) (c : Stage) (g : ℕ) → ((x : Target) → slice_get gs g ≡ Some x → c ≡ Continued → GoesFurther m o hist es g (end_of x.left) (end_of x.right)) → Further es gs out → Further es (change (λ (x : Target). record x { stage = c }) gs g) out
  further_staged es gs out c g f a = record { continued = staged; out = a.out }
    where
      staged : (n : ℕ) (x : Target) → slice_get (change (λ (y : Target). record y { stage = c }) gs g) n ≡ Some x → x.stage ≡ Continued → GoesFurther m o hist es n (end_of x.left) (end_of x.right)
      staged n x at q = elim (get-changed (λ (y : Target). record y { stage = c }) gs g n x at) [
        | inl b ↦ a.continued n x b q
        | inr b ↦ subst (λ (z : Target). GoesFurther m o hist es n (end_of z.left) (end_of z.right)) (sym b.1.2) (subst (λ k. GoesFurther m o hist es k (end_of b.1.0.left) (end_of b.1.0.right)) b.0 (f b.1.0 (subst (λ k. slice_get gs k ≡ Some b.1.0) (sym b.0) b.1.1) (sym (ap (λ (z : Target). z.stage) b.1.2) ∙ q)))
      ]

  further_woken : (es : List Entry) (gs : List Target) (out : List Out) → Further es gs out → Further es (map wakes gs) out
  further_woken es gs out a = record {
    continued = λ g y at c. (let x = woken_from gs g y at in
        subst (λ (z : Target). GoesFurther m o hist es g (end_of z.left) (end_of z.right)) (sym x.2) (a.continued g x.0 x.1 (still_continued x.0.stage (sym (ap (λ (z : Target). z.stage) x.2) ∙ c))));
    out = a.out;
  }

  further_kills : (i k : ℕ) (s : State) → IsFurther s → IsFurther (kills i k s)
  further_kills i k s a = elim (cases_Bool (is_dead s.entries k)) as (λ _. Grew s.entries ((kills i k s).entries) → IsFurther (kills i k s)) [
    | inl e ↦ rw e (λ g. a)
    | inr e ↦ rw e (λ g. further_grew s.entries _ _ s.out g (further_woken s.entries s.goals s.out a))
  ] (kills_grew i k s)

  further_each : (i : ℕ) (ks : List ℕ) (s : State) → IsFurther s → IsFurther (each (kills i) ks s)
  further_each i [] s a = a
  further_each i (k ∷ ks) s a = further_each i ks (kills i k s) (further_kills i k s a)

  further_draws : (w : ℕ) (s : State) (r : Reply) (u : State) → Draws o w s r u → IsFurther s → IsFurther u
  further_draws w s _ _ (verdict_stands v e) a = a
  further_draws w s _ _ (goal_is_due g e f) a =
      further_push s.entries _ s.out (task_for w (with_ends Goal g) s) tt (further_staged s.entries s.goals s.out Busy g.number (λ x at q. busy_no q) a)
  further_draws w s _ _ (fact_is_unmet i n f) a = further_push s.entries s.goals s.out (task_for w (Meet i.number) s) tt a
  further_draws w s r u (orphan_is_dropped p n e f d) a = further_draws w (drops w p.number s) r u d (record { continued = a.continued; out = a.out })
  further_draws w s _ _ (goal_is_continued g l f room) a =
      let h = first_is (λ (y : Target). is_continued y.stage) s.goals g f in
      further_push s.entries _ s.out (task_for w (with_ends More g) s) (a.continued g.number g.here h.at (continued_is g.here.stage h.passes)) (further_staged s.entries s.goals s.out Busy g.number (λ x at q. busy_no q) a)
  further_draws w s _ _ (pair_is_drawn p x l f e at room) a = further_push s.entries s.goals s.out (task_for w (Join p.number x.origin) s) tt a
  further_draws w s _ _ (budget_is_out l b c d) a = a
  further_draws w s _ _ (budget_is_spent l b c d) a = record { continued = a.continued; out = a.out }
  further_draws w s _ _ (all_is_out l b c) a = a
  further_draws w s _ _ (all_is_done l b c) a = a

  -- the commit of a goal

  spent_goes_on : (es : List Entry) (limit : ℕ) (t end : Tree) (steps : List Step) (stop : Stop) → Normalises m.greater m.least (live es) limit t steps end stop → stop ≡ Steps → CanGoOnIn m es end
  spent_goes_on es limit t _ _ _ (is_full i) e = absurd (cc)
  spent_goes_on es _ t _ _ _ (has_spent {v = v} {place = place} {rule = rule} f) e = record { place = place; rule = rule; v = v; first = f }
  spent_goes_on es _ t _ _ _ (is_large f l) e = absurd (cc)
  spent_goes_on es _ t end _ stop (makes_step {limit = limit} {v = v} {steps = steps} f l n) e = spent_goes_on es limit v end steps stop n e

  -- the ends to which a result leads, where it stopped by its steps
  result_goes : (s : State) (t : Out) (g : ℕ) (l r : Tree) (c d : Chain) (stop : Stop) → t.front ≤ length s.entries → IsAboutGoal g t.job → WasDrawn hist t → GoalResult m (take t.front s.entries) l r c d stop → stop ≡ Steps → (x : Target) → (end_of x.left ≡ l) × (end_of x.right ≡ r)
      → GaveEnds m o t g (end_of (followed_by x.left c)) (end_of (followed_by x.right d)) → GoesFurther m o hist s.entries g (end_of (followed_by x.left c)) (end_of (followed_by x.right d))
  result_goes s t g l r c d stop low about drawn q spent x ends gave =
      let es = take t.front s.entries in
      let left : end_of (followed_by x.left q.left.chain) ≡ q.left.term = end_followed x.left q.left.chain l ends.0 ∙ normal_end m (live es) 4096 l q.left.term q.left.chain.steps q.left.stop q.both.left_is.normalises in
      let right : end_of (followed_by x.right q.right.chain) ≡ q.right.term = end_followed x.right q.right.chain r ends.1 ∙ normal_end m (live es) (4096 - length q.left.chain.steps) r q.right.term q.right.chain.steps q.right.stop q.both.right_is.normalises in
      let left_end : end_of (followed_by x.left c) ≡ q.left.term = ap (λ (z : Chain). end_of (followed_by x.left z)) (sym q.left_is) ∙ left in
      let right_end : end_of (followed_by x.right d) ≡ q.right.term = ap (λ (z : Chain). end_of (followed_by x.right z)) (sym q.right_is) ∙ right in
      record {
        task = t;
        about = about;
        drawn = drawn;
        gave = gave;
        within = low;
        further = elim (one_spent q.left.stop q.right.stop (q.stop_is ∙ spent)) [
          | inl a ↦ inl (subst (λ z. CanGoOnIn m es z) (sym left_end) (spent_goes_on es 4096 l q.left.term q.left.chain.steps q.left.stop q.both.left_is.normalises a))
          | inr b ↦ inr (subst (λ z. CanGoOnIn m es z) (sym right_end) (spent_goes_on es (4096 - length q.left.chain.steps) r q.right.term q.right.chain.steps q.right.stop q.both.right_is.normalises b))
        ];
      }

  -- the task of a commit: it is about the goal, was out in a run, and was drawn as the history says
  record IsCommitted (s : State) (t : Out) (g : ℕ) (f : Finding) (u : State) : Type 0 where
    about : IsAboutGoal g t.job
    low : t.front ≤ length s.entries
    drawn : WasDrawn hist t
    reaches : Reaches m o s
    was_out : out_at t.ticket s.out ≡ Some t
    is_result : IsResult m o.axioms (take t.front s.entries) t.job f
    commits : Commits o t f s u

  goal_further : (kind : ℕ → ℕ → GoalEnd → Happening) (s : State) (t : Out) (g : ℕ) (l r : Tree) (c d : Chain) (stop : Stop) (f : Finding) (u : State) → IsCommitted s t g f u → ((x : Target) → slice_get s.goals g ≡ Some x → x.stage ≡ Continued → ⊥) → HasEnds s.goals g l r
      → GoalResult m (take t.front s.entries) l r c d stop → GoalEnds kind t g c d stop s u → IsFurther s → IsFurther u
  goal_further kind s t g l r c d stop f u by busy has q ends_ a = go u ends_ by
    where
      -- the goals after the ends are taken over: none of this number is Continued
      taken : Further s.entries (change (goes_on c d) s.goals g) (without t.ticket s.out)
      taken = record { continued = known; out = Each-without (λ (v : Out). MoreGoesFurther m o hist s.entries v.job) t.ticket s.out a.out }
        where
          known : (k : ℕ) (x : Target) → slice_get (change (goes_on c d) s.goals g) k ≡ Some x → x.stage ≡ Continued → GoesFurther m o hist s.entries k (end_of x.left) (end_of x.right)
          known k x at e = elim (get-changed (goes_on c d) s.goals g k x at) [
            | inl b ↦ a.continued k x b e
            | inr b ↦ absurd (busy b.1.0 (subst (λ z. slice_get s.goals z ≡ Some b.1.0) (sym b.0) b.1.1) (sym (ap (λ (z : Target). z.stage) b.1.2) ∙ e))
          ]

      -- the ends of this goal, as they are after the commit
      gave : (stage : Stage) (v : State) (x : Target) → v.goals ≡ change (λ (y : Target). record y { stage = stage }) (change (goes_on c d) s.goals g) g → slice_get (change (goes_on c d) s.goals g) g ≡ Some x → IsCommitted s t g f v → GaveEnds m o t g (end_of x.left) (end_of x.right)
      gave stage v x goals at k = record {
        before = s;
        after = v;
        finding = f;
        reaches = k.reaches;
        was_out = k.was_out;
        is_result = k.is_result;
        commits = k.commits;
        target = record x { stage = stage };
        at = ap (λ gs. slice_get gs g) goals ∙ get-change_same (λ (y : Target). record y { stage = stage }) (change (goes_on c d) s.goals g) g x at;
        left = refl;
        right = refl;
      }

      led : (x : Target) → slice_get (change (goes_on c d) s.goals g) g ≡ Some x → stop ≡ Steps → GaveEnds m o t g (end_of x.left) (end_of x.right) → GoesFurther m o hist s.entries g (end_of x.left) (end_of x.right)
      led x at spent given = elim (get-changed (goes_on c d) s.goals g g x at) [
        | inl b ↦ (let h : slice_get (change (goes_on c d) s.goals g) g ≡ Some (goes_on c d x) = get-change_same (goes_on c d) s.goals g x b in
            let same : goes_on c d x ≡ x = cc in
            subst (λ (z : Target). GoesFurther m o hist s.entries g (end_of z.left) (end_of z.right)) same (result_goes s t g l r c d stop by.low by.about by.drawn q spent x (has x b) (subst (λ (z : Target). GaveEnds m o t g (end_of z.left) (end_of z.right)) (sym same) given)))
        | inr b ↦ subst (λ (z : Target). GoesFurther m o hist s.entries g (end_of z.left) (end_of z.right)) (sym b.1.2) (result_goes s t g l r c d stop by.low by.about by.drawn q spent b.1.0 (has b.1.0 b.1.1) (subst (λ (z : Target). GaveEnds m o t g (end_of z.left) (end_of z.right)) b.1.2 given))
      ]

      go : (v : State) → GoalEnds kind t g c d stop s v → IsCommitted s t g f v → IsFurther v
      go _ (ends_meet e) k = record { continued = taken.continued; out = taken.out }
      go v (ends_differ x n b) k = (let z = further_staged s.entries (change (goes_on c d) s.goals g) (without t.ticket s.out) x g (λ y at e. led y at (steps_only t s stop x b e) (gave x _ y refl at k)) taken in record { continued = z.continued; out = z.out })

  -- the other commits

  further_meets : (t : Out) (i pairs : ℕ) (does : State → State) (s u : State) → ((x : State) → IsFurther x → IsFurther (does x)) → Meets o t i pairs does s u → IsFurther s → IsFurther u
  further_meets t i pairs does s _ g (within_limit died b c) a = g _ (let k = further_without s.entries s.goals s.out t.ticket a in record { continued = k.continued; out = k.out })
  further_meets t i pairs does s _ g (past_limit more b c) a = let k = further_without s.entries s.goals s.out t.ticket a in record { continued = k.continued; out = k.out }

  further_commits : (s : State) (t : Out) (f : Finding) (u : State) → Reaches m o s → WasDrawn hist t → Kept o s → out_at t.ticket s.out ≡ Some t → JobEnds s.goals t.job → IsResult m o.axioms (take t.front s.entries) t.job f → IsFurther s → Commits o t f s u → IsFurther u
  further_commits s t f _ q w k at ends right a (is_late v e) = let b = further_without s.entries s.goals s.out t.ticket a in record { continued = b.continued; out = b.out }
  further_commits s t _ u q w k at ends right a (goal_ends {l = c} {r = d} {stop = stop} g x y e is ends_) =
      goal_further CommitGoal s t g x y c d stop (Ends c d stop) u
      (record {
        about = subst (IsAboutGoal g) (sym is) refl;
        low = Each-at (λ (v : Out). v.front ≤ length s.entries) t.ticket s.out t at (fronts_are_prefixes o s k);
        drawn = w;
        reaches = q;
        was_out = at;
        is_result = right;
        commits = goal_ends {l = c} {r = d} {stop = stop} g x y e is ends_;
      })
      (not_continued m s.goals g (is_busy s.goals g (subst (λ (j : Job). IsBusy s.pairs s.goals s.meetings t.worker j) is (at_task o s t k at))))
      (subst (λ (j : Job). JobEnds s.goals j) is ends)
      (result_goal m o.axioms (take t.front s.entries) t.job (Ends c d stop) right g x y c d stop is refl) ends_ a
  further_commits s t _ u q w k at ends right a (more_ends {l = c} {r = d} {stop = stop} g x y e is ends_) =
      goal_further CommitMore s t g x y c d stop (Ends c d stop) u
      (record {
        about = subst (IsAboutGoal g) (sym is) refl;
        low = Each-at (λ (v : Out). v.front ≤ length s.entries) t.ticket s.out t at (fronts_are_prefixes o s k);
        drawn = w;
        reaches = q;
        was_out = at;
        is_result = right;
        commits = more_ends {l = c} {r = d} {stop = stop} g x y e is ends_;
      })
      (not_continued m s.goals g (is_busy s.goals g (subst (λ (j : Job). IsBusy s.pairs s.goals s.meetings t.worker j) is (at_task o s t k at))))
      (subst (λ (j : Job). JobEnds s.goals j) is ends)
      (result_more m o.axioms (take t.front s.entries) t.job (Ends c d stop) right g x y c d stop is refl) ends_ a
  further_commits s t _ _ q w k at ends right a (pair_joins p b e is) = let c = further_without s.entries s.goals s.out t.ticket a in record { continued = c.continued; out = c.out }
  further_commits s t _ u q w k at ends right a (fact_is_kept {f = f} p b e is) =
      further_grew s.entries _ _ _ (commits_grew o t _ s u (fact_is_kept {f = f} p b e is)) (further_woken s.entries s.goals (without t.ticket s.out) (further_without s.entries s.goals s.out t.ticket a))
  further_commits s t _ u q w k at ends right a (fact_is_stale {k = c} i e is b) = further_meets t i 0 (λ y. kills c i y) s u (λ y z. further_kills c i y z) b a
  further_commits s t _ u q w k at ends right a (fact_is_dead i e is d b) = further_meets t i 0 stays s u (λ y z. z) b a
  further_commits s t _ u q w k at ends right a (fact_meets {ks = ks} {fs = fs} i e is d b) = further_meets t i (newly_waiting fs (each (λ c. kills i c) ks s)) (λ y. visits i ks fs y) s u (λ y z. (let x = further_each i ks y z in record { continued = x.continued; out = x.out })) b a

  -- tasks are put back

  further_restored : (n w fr : ℕ) (j : Job) (s : State) → (let t : Out = record { ticket = n; worker = w; job = j; front = fr } in out_at n s.out ≡ Some t → JobEnds s.goals j → IsFurther s → IsFurther (reclaims t s))
  further_restored n w fr (Goal g l r) s at ends a = further_staged s.entries s.goals (without n s.out) Due g (λ x b e. due_no e) (further_without s.entries s.goals s.out n a)
  further_restored n w fr (More g l r) s at ends a =
      let more : GoesFurther m o hist s.entries g l r = Each-at (λ (v : Out). MoreGoesFurther m o hist s.entries v.job) n s.out (record { ticket = n; worker = w; job = More g l r; front = fr }) at a.out in
      further_staged s.entries s.goals (without n s.out) Continued g
      (λ x b e. subst (λ z. GoesFurther m o hist s.entries g (end_of x.left) z) (sym (ends x b).1) (subst (λ z. GoesFurther m o hist s.entries g z r) (sym (ends x b).0) more)) (further_without s.entries s.goals s.out n a)
  further_restored n w fr (Meet i) s at ends a = further_without s.entries s.goals s.out n a
  further_restored n w fr (Join p b) s at ends a = further_without s.entries s.goals s.out n a

  further_recalled : (ts : List Out) (s : State) → s.out ≡ ts → Reaches m o s → IsFurther s → IsFurther (each reclaims ts s)
  further_recalled [] s e r a = a
  further_recalled (t ∷ ts) s e r a =
      let same : (t.ticket == t.ticket) ≡ true = eq-eqb t.ticket t.ticket refl in
      let at : out_at t.ticket s.out ≡ Some t = rw (e, same) refl in
      let less : without t.ticket (t ∷ ts) ≡ ts = rw same refl in
      let ends : JobEnds s.goals t.job = Each-at (λ (v : Out). JobEnds s.goals v.job) t.ticket s.out t at (rests_reaches m o s r).ends in
      further_recalled ts (reclaims t s) (out_restored t.ticket t.worker t.front t.job s ∙ ap (without t.ticket) e ∙ less) (reclaims_on t at r) (further_restored t.ticket t.worker t.front t.job s at ends a)

  -- audits, closes and the start

  further_audits : (f : Fact) (s u : State) (r : AuditReply) → Audits o f s r u → Grew s.entries u.entries → IsFurther s → IsFurther u
  further_audits f s _ _ (is_closed v e) g a = a
  further_audits f s _ _ (is_spent e c) g a = record { continued = a.continued; out = a.out }
  further_audits f s _ _ (is_kept e c) g a = further_grew s.entries _ _ s.out g (further_woken s.entries s.goals s.out a)

  further_closes : (s u : State) (outcome : Outcome) (v : Verdict) → Closes s outcome v u → IsFurther s → IsFurther u
  further_closes s _ _ _ converges a = record { continued = a.continued; out = a.out }
  further_closes s _ _ _ has_large a = record { continued = a.continued; out = a.out }
  further_closes s _ _ _ has_stuck a = record { continued = a.continued; out = a.out }

  further_starts : (s : State) → Starts o s → IsFurther s
  further_starts _ (axioms_wait l) = record { continued = λ g x at e. absurd (none_continued m o.goals g x at e); out = tt }
  further_starts _ (too_many_axioms l) = record { continued = λ g x at e. absurd (none_continued m o.goals g x at e); out = tt }

  further_reaches : (s : State) → Reaches m o s → Continues s.history hist → IsFurther s
  further_reaches s (starts a) h = further_starts s a
  further_reaches u (draws_on {s = s} {r = r} w l a d) h = further_draws w s r u d (further_reaches s a (further s.history u.history hist (call_records m o s u (draws_next w l d)) h))
  further_reaches u (commits_on {s = s} {f = f} t at right a c) h =
      let k = kept_reaches m o s a in
      let b = further s.history u.history hist (call_records m o s u (commits_result t at right c)) h in
      let w = drawn_on s.history hist t b (Each-at (WasDrawn s.history) t.ticket s.out t at (tickets_differ o s k).drawn) in
      further_commits s t f u a w k at (Each-at (λ (v : Out). JobEnds s.goals v.job) t.ticket s.out t at (rests_reaches m o s a).ends) right (further_reaches s a b) c
  further_reaches u (reclaims_on {s = s} t at a) h = further_restored t.ticket t.worker t.front t.job s at (Each-at (λ (v : Out). JobEnds s.goals v.job) t.ticket s.out t at (rests_reaches m o s a).ends) (further_reaches s a (further s.history u.history hist (call_records m o s u (reclaims_task t at)) h))
  further_reaches u (recalls_on {s = s} a) h = further_recalled s.out s refl a (further_reaches s a (further s.history u.history hist (call_records m o s u recalls_tasks) h))
  further_reaches u (audits_on {s = s} {answer = r} x may a b) h = further_audits x.fact s u r b (audits_grew o x.fact s u r b) (further_reaches s a (further s.history u.history hist (call_records m o s u (audits_missing x may b)) h))
  further_reaches u (closes_on {s = s} {outcome = outcome} {v = v} d f a c) h = further_closes s u outcome v c (further_reaches s a (further s.history u.history hist (call_records m o s u (closes_drained d f c)) h))

pub continued_go_further : (m : Meaning) (o : Opening) (s : State) → Reaches m o s → ContinuedGoFurther m o s
continued_go_further m o s r = let a = further_reaches m o s.history s r (none s.history) in record { continued = a.continued; out = a.out }
