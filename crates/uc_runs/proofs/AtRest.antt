-- In every state of a run a Settled goal's ends are irreducible by the facts that live now, and a Stuck goal has an end from
-- which the next step is too large.
use Rattle.std.proofs.Common.{◌≡◌, ℕ, zero, suc, ◌-◌, List, [], ◌∷◌, ◌++◌, length, false, ◌==◌, Some, refl, ap, sym, ◌∙◌, inl, inr, subst, map, take, slice_get}
use Rattle.std.specs.Prelude.{◌⊎◌}
use Rattle.std.proofs.lemmas.Bool.{cases_Bool, eqb-false}
use Rattle.uc_term.specs.Tree.{Tree}
use Rattle.uc_term.specs.declared.equation.Equation.{Equation}
use Rattle.uc_fact.specs.declared.chain.Chain.{Chain}
use Rattle.uc_fact.specs.declared.fact.Fact.{Fact}
use Rattle.uc_fact.specs.declared.fact.Stop.{Stop}
use Rattle.uc_shelf.specs.declared.entry.Entry.{Entry}
use Rattle.uc_shelf.specs.declared.entry.Entry.TheVariants.{Born, Dies}
use Rattle.uc_shelf.specs.Entries.{born, is_dead}
use Rattle.uc_machine.specs.declared.state.Stage.{Stage}
use Rattle.uc_machine.specs.declared.state.Stage.TheVariants.{Due, Busy, Continued, Settled, Stuck}
use Rattle.uc_machine.specs.declared.event.Verdict.{Verdict}
use Rattle.uc_machine.specs.declared.event.GoalEnd.{GoalEnd}
use Rattle.uc_machine.specs.declared.event.Happening.{Happening}
use Rattle.uc_machine.specs.declared.event.Happening.TheVariants.{CommitGoal, CommitMore, CommitMeet, CommitJoined, CommitKept, CommitLate}
use Rattle.uc_machine.specs.declared.task.Job.{Job}
use Rattle.uc_machine.specs.declared.task.Job.TheVariants.{Goal, More, Meet, Join}
use Rattle.uc_machine.specs.Lists.{At, change, each, Each, map_option}
use Rattle.uc_machine.specs.State.{Opening, State, Target, Out, out_at, without, is_due, is_continued}
use Rattle.uc_machine.specs.Effects.{publishes, enters, kills, reclaims, wakes, wakes_stage, task_for, drops, accepts, goes_on, visits}
use Rattle.std.proofs.lemmas.List.{length-map}
use Rattle.uc_term.proofs.Terms.{take_of_length-le}
use Rattle.uc_order.specs.Laws.{Meaning}
use Rattle.uc_fact.specs.declared.chain.Step.{Step}
use Rattle.uc_fact.specs.declared.fact.Stop.TheVariants.{Full, Steps, Size}
use Rattle.uc_fact.specs.Chains.{last_term, end_of, followed_by}
use Rattle.uc_fact.specs.Live.{Live, equations_of}
use Rattle.uc_fact.specs.Ordered.{IsIrreducible}
use Rattle.uc_rewrite.specs.declared.normal.Normal.{Normal}
use Rattle.uc_rewrite.specs.Normalising.{Normalises, is_full, is_spent, is_large, goes_on as makes_step}
use Rattle.uc_shelf.specs.Entries.{live}
use Rattle.uc_machine.specs.declared.task.Finding.{Finding}
use Rattle.uc_machine.specs.declared.task.Finding.TheVariants.{Ends}
use Rattle.uc_machine.specs.declared.task.Outcome.{Outcome}
use Rattle.uc_machine.specs.Draws.{Reply, with_ends, Draws, verdict_stands, goal_is_due, fact_is_unmet, orphan_is_dropped, goal_is_continued, pair_is_drawn, budget_is_out, budget_is_spent, all_is_out, all_is_done}
use Rattle.uc_machine.specs.Commits.{GoalEnds, ends_meet, ends_differ, StageAfter, after_steps, full_but_grown, size_but_grown, after_full, after_size, Meets, within_limit, past_limit, newly_waiting, stays, Commits, is_late, goal_ends, more_ends, pair_joins, fact_is_kept, fact_is_stale, fact_is_dead, fact_meets}
use Rattle.uc_machine.specs.Results.{NormaliseBoth, stop_of, IsResult, goal_comes_to, more_comes_to, pair_is_joined, pair_is_kept, fact_is_stale as comes_stale, fact_meets as comes_to_meet}
use Rattle.uc_machine.specs.Runs.{goal_of, Starts, axioms_wait, too_many_axioms, AuditReply, Audits, is_closed, is_spent, is_kept, Closes, converges, has_large, has_stuck, Reaches, starts, draws_on, commits_on, reclaims_on, recalls_on, audits_on, closes_on}
use Rattle.uc_machine.specs.Promises.{IsStuckIn, StaysAtRest, GoalsAtRest, IsNormalIn}
use Rattle.uc_machine.proofs.Kept.{Kept, IsBusy, is_same}
use Rattle.uc_machine.proofs.Lists.{Each-map, Each-push, Each-without, Each-at, get-changed, get-change_same, get-change_other, length-change}
use Rattle.uc_machine.proofs.Found.{first_is}
use Rattle.uc_machine.proofs.Blocks.{apart_from}
use Rattle.uc_machine.proofs.Steps.{at_task}
use Rattle.uc_machine.proofs.Runs.{kept_reaches}

-- where chains end

pub last_of_both : (t : Tree) (xs ys : List Step) → last_term t (xs ++ ys) ≡ last_term (last_term t xs) ys
last_of_both t [] ys = refl
last_of_both t (x ∷ xs) ys = last_of_both x.to xs ys

pub end_followed : (c d : Chain) (l : Tree) → end_of c ≡ l → end_of (followed_by c d) ≡ last_term l d.steps
end_followed c d l e = last_of_both c.start c.steps d.steps ∙ ap (λ z. last_term z d.steps) e

-- the ends of a task's goal are the goal's present ends
abbrev pub HasEnds : List Target → ℕ → Tree → Tree → Type 0
HasEnds gs g l r = (x : Target) → slice_get gs g ≡ Some x → (end_of x.left ≡ l) × (end_of x.right ≡ r)

abbrev pub JobEnds : List Target → Job → Type 0
JobEnds gs (Goal g l r) = HasEnds gs g l r
JobEnds gs (More g l r) = HasEnds gs g l r
JobEnds gs (Meet i) = Unit {0}
JobEnds gs (Join p a) = Unit {0}

-- a change of a stage leaves the ends

has_ends_stage : (c : Stage) (gs : List Target) (k g : ℕ) (l r : Tree) → HasEnds gs g l r → HasEnds (change (λ (x : Target). record x { stage = c }) gs k) g l r
has_ends_stage c gs k g l r a y e = elim (get-changed (λ (x : Target). record x { stage = c }) gs k g y e) [
  | inl b ↦ a y b
  | inr b ↦ (let q = a b.1.0 b.1.1 in (ap (λ (z : Target). end_of z.left) b.1.2 ∙ q.0, ap (λ (z : Target). end_of z.right) b.1.2 ∙ q.1))
]

job_ends_stage : (c : Stage) (gs : List Target) (k : ℕ) (j : Job) → JobEnds gs j → JobEnds (change (λ (x : Target). record x { stage = c }) gs k) j
job_ends_stage c gs k (Goal g l r) a = has_ends_stage c gs k g l r a
job_ends_stage c gs k (More g l r) a = has_ends_stage c gs k g l r a
job_ends_stage c gs k (Meet i) a = tt
job_ends_stage c gs k (Join p o) a = tt

pub get_woken : (gs : List Target) (g : ℕ) (y : Target) → slice_get (map wakes gs) g ≡ Some y → (x : Target) × (slice_get gs g ≡ Some x) × (y ≡ wakes x)
get_woken [] g y e = absurd (cc)
get_woken (x ∷ gs) zero y e = (x, refl, (cc))
get_woken (x ∷ gs) (suc g) y e = get_woken gs g y e

has_ends_woken : (gs : List Target) (g : ℕ) (l r : Tree) → HasEnds gs g l r → HasEnds (map wakes gs) g l r
has_ends_woken gs g l r a y e = let b = get_woken gs g y e in let q = a b.0 b.1 in (ap (λ (z : Target). end_of z.left) b.2 ∙ q.0, ap (λ (z : Target). end_of z.right) b.2 ∙ q.1)

job_ends_woken : (gs : List Target) (j : Job) → JobEnds gs j → JobEnds (map wakes gs) j
job_ends_woken gs (Goal g l r) a = has_ends_woken gs g l r a
job_ends_woken gs (More g l r) a = has_ends_woken gs g l r a
job_ends_woken gs (Meet i) a = tt
job_ends_woken gs (Join p o) a = tt

-- a change at another goal leaves the ends, too

has_ends_other : (f : Target → Target) (gs : List Target) (k g : ℕ) (l r : Tree) → (k == g) ≡ false → HasEnds gs g l r → HasEnds (change f gs k) g l r
has_ends_other f gs k g l r ne a y e = a y (sym (get-change_other f gs k g (eqb-false k g ne)) ∙ e)

goal_other : (f : Target → Target) (gs : List Target) (k : ℕ) (a b : Tree) (j : Job) → is_same (Goal k a b) j ≡ false → JobEnds gs j → JobEnds (change f gs k) j
goal_other f gs k a b (Goal g l r) ne h = has_ends_other f gs k g l r ne h
goal_other f gs k a b (More g l r) ne h = has_ends_other f gs k g l r ne h
goal_other f gs k a b (Meet i) ne h = tt
goal_other f gs k a b (Join p o) ne h = tt

more_other : (f : Target → Target) (gs : List Target) (k : ℕ) (a b : Tree) (j : Job) → is_same (More k a b) j ≡ false → JobEnds gs j → JobEnds (change f gs k) j
more_other f gs k a b (Goal g l r) ne h = has_ends_other f gs k g l r ne h
more_other f gs k a b (More g l r) ne h = has_ends_other f gs k g l r ne h
more_other f gs k a b (Meet i) ne h = tt
more_other f gs k a b (Join p o) ne h = tt

all_other : (gs hs : List Target) (j : Job) (out : List Out) → ((k : Job) → is_same j k ≡ false → JobEnds gs k → JobEnds hs k) → Each (λ (t : Out). is_same j t.job ≡ false) out → Each (λ (t : Out). JobEnds gs t.job) out → Each (λ (t : Out). JobEnds hs t.job) out
all_other gs hs j [] f a b = tt
all_other gs hs j (t ∷ ts) f a b = (f t.job a.0 b.0, all_other gs hs j ts f a.1 b.1)

-- the goal of a task is out

pub is_busy : (gs : List Target) (g : ℕ) → map_option (λ (x : Target). x.stage) (slice_get gs g) ≡ Some Busy → (x : Target) → slice_get gs g ≡ Some x → x.stage ≡ Busy
is_busy gs g b x at = let c : map_option (λ (y : Target). y.stage) (Some x) ≡ Some Busy = rw at at b in cc

-- stops

both_full : (a b : Stop) → stop_of a b ≡ Full → (a ≡ Full) × (b ≡ Full)
both_full Full b e = (refl, e)
both_full Steps b e = absurd (cc)
both_full Size Full e = absurd (cc)
both_full Size Steps e = absurd (cc)
both_full Size Size e = absurd (cc)

one_large : (a b : Stop) → stop_of a b ≡ Size → (a ≡ Size) ⊎ (b ≡ Size)
one_large Full b e = inr e
one_large Steps b e = absurd (cc)
one_large Size b e = inl refl

module _ (m : Meaning) where
  pub normal_end : (ls : List Live) (limit : ℕ) (t end : Tree) (steps : List Step) (stop : Stop) → Normalises m.greater m.least ls limit t steps end stop → last_term t steps ≡ end
  normal_end ls limit t _ _ _ (is_full i) = refl
  normal_end ls _ t _ _ _ (is_spent f) = refl
  normal_end ls _ t _ _ _ (is_large f l) = refl
  normal_end ls _ t end _ stop (makes_step {limit = limit} {v = v} {steps = steps} f l n) = normal_end ls limit v end steps stop n

  ends_full : (ls : List Live) (limit : ℕ) (t end : Tree) (steps : List Step) (stop : Stop) → Normalises m.greater m.least ls limit t steps end stop → stop ≡ Full → IsIrreducible m.greater m.least (equations_of ls) end
  ends_full ls limit t _ _ _ (is_full i) e = i
  ends_full ls _ t _ _ _ (is_spent f) e = absurd (cc)
  ends_full ls _ t _ _ _ (is_large f l) e = absurd (cc)
  ends_full ls _ t end _ stop (makes_step {limit = limit} {v = v} {steps = steps} f l n) e = ends_full ls limit v end steps stop n e

  ends_large : (es : List Entry) (limit : ℕ) (t end : Tree) (steps : List Step) (stop : Stop) → Normalises m.greater m.least (live es) limit t steps end stop → stop ≡ Size → IsStuckIn m es end
  ends_large es limit t _ _ _ (is_full i) e = absurd (cc)
  ends_large es _ t _ _ _ (is_spent f) e = absurd (cc)
  ends_large es _ t _ _ _ (is_large {v = v} {place = place} {rule = rule} f l) e = record { place = place; rule = rule; v = v; first = f; large = l }
  ends_large es _ t end _ stop (makes_step {limit = limit} {v = v} {steps = steps} f l n) e = ends_large es limit v end steps stop n e

  -- what is kept: the goals at rest, the ends of the tasks' goals, and how many goals there are
  pub record Rests (o : Opening) (s : State) : Type 0 where
    pub rest : Each (StaysAtRest m s.entries) s.goals
    pub ends : Each (λ (t : Out). JobEnds s.goals t.job) s.out
    pub as_many : length s.goals ≡ length o.goals

  -- a goal that is neither Settled nor Stuck
  awake : (es : List Entry) (x : Target) → (x.stage ≡ Settled → ⊥) → (x.stage ≡ Stuck → ⊥) → StaysAtRest m es x
  awake es x a b = record { settled = λ e. absurd (a e); stuck = λ e. absurd (b e) }

  rest_changed : (es : List Entry) (f : Target → Target) (gs : List Target) (g : ℕ) → ((x : Target) → slice_get gs g ≡ Some x → StaysAtRest m es (f x)) → Each (StaysAtRest m es) gs → Each (StaysAtRest m es) (change f gs g)
  rest_changed es f [] g h a = tt
  rest_changed es f (x ∷ gs) zero h a = (h x refl, a.1)
  rest_changed es f (x ∷ gs) (suc g) h a = (a.0, rest_changed es f gs g h a.1)

  rest_stage : (es : List Entry) (c : Stage) (gs : List Target) (g : ℕ) → (c ≡ Settled → ⊥) → (c ≡ Stuck → ⊥) → Each (StaysAtRest m es) gs → Each (StaysAtRest m es) (change (λ (x : Target). record x { stage = c }) gs g)
  rest_stage es c gs g a b h = rest_changed es (λ (x : Target). record x { stage = c }) gs g (λ x e. awake es (record x { stage = c }) a b) h

  not_settled : (c : Stage) → wakes_stage c ≡ Settled → ⊥
  not_settled Due e = cc
  not_settled Busy e = cc
  not_settled Continued e = cc
  not_settled Settled e = cc
  not_settled Stuck e = cc

  not_stuck : (c : Stage) → wakes_stage c ≡ Stuck → ⊥
  not_stuck Due e = cc
  not_stuck Busy e = cc
  not_stuck Continued e = cc
  not_stuck Settled e = cc
  not_stuck Stuck e = cc

  rest_woken : (es : List Entry) (gs : List Target) → Each (StaysAtRest m es) (map wakes gs)
  rest_woken es [] = tt
  rest_woken es (x ∷ gs) = (awake es (wakes x) (not_settled x.stage) (not_stuck x.stage), rest_woken es gs)

  -- an entry is published
  rests_entry : (o : Opening) (e : Entry) (s : State) → Rests o s → Rests o (enters e s)
  rests_entry o e s a = record {
    rest = rest_woken (s.entries ++ e ∷ []) s.goals;
    ends = Each-map (λ (t : Out) b. job_ends_woken s.goals t.job b) s.out a.ends;
    as_many = length-map s.goals wakes ∙ a.as_many;
  }

  rests_publish : (o : Opening) (f : Fact) (s : State) → Rests o s → Rests o (publishes f s)
  rests_publish o f s a = let b = rests_entry o (Born f) s a in record { rest = b.rest; ends = b.ends; as_many = b.as_many }

  rests_kills : (o : Opening) (i k : ℕ) (s : State) → Rests o s → Rests o (kills i k s)
  rests_kills o i k s a = elim (cases_Bool (is_dead s.entries k)) as (λ _. Rests o (kills i k s)) [
    | inl e ↦ rw e a
    | inr e ↦ rw e (let b = rests_entry o (Dies k i) s a in record { rest = b.rest; ends = b.ends; as_many = b.as_many })
  ]

  rests_each : (o : Opening) (i : ℕ) (ks : List ℕ) (s : State) → Rests o s → Rests o (each (kills i) ks s)
  rests_each o i [] s a = a
  rests_each o i (k ∷ ks) s a = rests_each o i ks (kills i k s) (rests_kills o i k s a)

  -- a goal goes out
  rests_out : (o : Opening) (s : State) (g : ℕ) (t : Out) → Rests o s → JobEnds s.goals t.job → (gs : List Target) → gs ≡ change (λ (x : Target). record x { stage = Busy }) s.goals g → (n : ℕ) → Each (StaysAtRest m s.entries) gs × Each (λ (u : Out). JobEnds gs u.job) (s.out ++ t ∷ []) × (length gs ≡ length o.goals)
  rests_out o s g t a new gs e n = rw e (
    rest_stage s.entries Busy s.goals g (λ q. cc) (λ q. cc) a.rest,
    Each-map (λ (u : Out) b. job_ends_stage Busy s.goals g u.job b) (s.out ++ t ∷ []) (Each-push (λ (u : Out). JobEnds s.goals u.job) s.out t a.ends new),
    length-change (λ (x : Target). record x { stage = Busy }) s.goals g ∙ a.as_many,
  )

  ends_found : (gs : List Target) (g : At Target) → slice_get gs g.number ≡ Some g.here → HasEnds gs g.number (end_of g.here.left) (end_of g.here.right)
  ends_found gs g at x e = let same : g.here ≡ x = cc in (ap (λ (z : Target). end_of z.left) (sym same), ap (λ (z : Target). end_of z.right) (sym same))

  rests_draws : (o : Opening) (w : ℕ) (s : State) (r : Reply) (u : State) → Draws o w s r u → Rests o s → Rests o u
  rests_draws o w s _ _ (verdict_stands v e) a = a
  rests_draws o w s _ _ (goal_is_due g e f) a =
      let h = first_is (λ (y : Target). is_due y.stage) s.goals g f in
      let b = rests_out o s g.number (task_for w (with_ends Goal g) s) a (ends_found s.goals g h.at) _ refl 0 in
      record { rest = b.0; ends = b.1; as_many = b.2 }
  rests_draws o w s _ _ (fact_is_unmet i n f) a = record { rest = a.rest; ends = Each-push (λ (t : Out). JobEnds s.goals t.job) s.out (task_for w (Meet i.number) s) a.ends tt; as_many = a.as_many }
  rests_draws o w s r u (orphan_is_dropped p n e f d) a = rests_draws o w (drops w p.number s) r u d (record { rest = a.rest; ends = a.ends; as_many = a.as_many })
  rests_draws o w s _ _ (goal_is_continued g l f room) a =
      let h = first_is (λ (y : Target). is_continued y.stage) s.goals g f in
      let b = rests_out o s g.number (task_for w (with_ends More g) s) a (ends_found s.goals g h.at) _ refl 0 in
      record { rest = b.0; ends = b.1; as_many = b.2 }
  rests_draws o w s _ _ (pair_is_drawn p x l f e at room) a = record { rest = a.rest; ends = Each-push (λ (t : Out). JobEnds s.goals t.job) s.out (task_for w (Join p.number x.origin) s) a.ends tt; as_many = a.as_many }
  rests_draws o w s _ _ (budget_is_out l b c d) a = a
  rests_draws o w s _ _ (budget_is_spent l b c d) a = record { rest = a.rest; ends = a.ends; as_many = a.as_many }
  rests_draws o w s _ _ (all_is_out l b c) a = a
  rests_draws o w s _ _ (all_is_done l b c) a = a

  -- a task that isn't a goal's ends
  rests_ended : (o : Opening) (s : State) (n : ℕ) → Rests o s → Each (λ (t : Out). JobEnds s.goals t.job) (without n s.out)
  rests_ended o s n a = Each-without (λ (t : Out). JobEnds s.goals t.job) n s.out a.ends

  -- a goal's task ends: where it went, and how its ends rest
  goal_rests : (o : Opening) (s : State) (kind : ℕ → ℕ → GoalEnd → Happening) (t : Out) (g : ℕ) (l r : Tree) (left right : Normal) (u : State)
      → Rests o s → HasEnds s.goals g l r → ((x : Target) → slice_get s.goals g ≡ Some x → x.stage ≡ Busy)
      → NormaliseBoth m (take t.front s.entries) l r left right
      → ((h : Target → Target) (gs : List Target) → Each (λ (v : Out). JobEnds gs v.job) (without t.ticket s.out) → Each (λ (v : Out). JobEnds (change h gs g) v.job) (without t.ticket s.out))
      → GoalEnds kind t g left.chain right.chain (stop_of left.stop right.stop) s u → Rests o u
  goal_rests o s kind t g l r left right _ a has busy both apart (ends_meet e) = record {
    rest = rest_changed s.entries (goes_on left.chain right.chain) s.goals g (λ x at. (let b = busy x at in awake s.entries (goes_on left.chain right.chain x) (λ q. (let c : Busy ≡ Settled = sym b ∙ q in cc)) (λ q. (let c : Busy ≡ Stuck = sym b ∙ q in cc)))) a.rest;
    ends = apart (goes_on left.chain right.chain) s.goals (rests_ended o s t.ticket a);
    as_many = length-change (goes_on left.chain right.chain) s.goals g ∙ a.as_many;
  }
  goal_rests o s kind t g l r left right _ a has busy both apart (ends_differ c e after) = record {
    rest = rest_changed s.entries (λ (x : Target). record x { stage = c }) (change (goes_on left.chain right.chain) s.goals g) g staged
        (rest_changed s.entries (goes_on left.chain right.chain) s.goals g (λ x at. (let b = busy x at in awake s.entries (goes_on left.chain right.chain x) (λ q. (let d : Busy ≡ Settled = sym b ∙ q in cc)) (λ q. (let d : Busy ≡ Stuck = sym b ∙ q in cc)))) a.rest);
    ends = apart (λ (x : Target). record x { stage = c }) (change (goes_on left.chain right.chain) s.goals g) (apart (goes_on left.chain right.chain) s.goals (rests_ended o s t.ticket a));
    as_many = length-change (λ (x : Target). record x { stage = c }) (change (goes_on left.chain right.chain) s.goals g) g ∙ length-change (goes_on left.chain right.chain) s.goals g ∙ a.as_many;
  }
    where
      left_end : (x : Target) → slice_get s.goals g ≡ Some x → end_of (followed_by x.left left.chain) ≡ left.term
      left_end x at = end_followed x.left left.chain l (has x at).0 ∙ normal_end (live (take t.front s.entries)) 4096 l left.term left.chain.steps left.stop both.left_is.normalises

      right_end : (x : Target) → slice_get s.goals g ≡ Some x → end_of (followed_by x.right right.chain) ≡ right.term
      right_end x at = end_followed x.right right.chain r (has x at).1 ∙ normal_end (live (take t.front s.entries)) (4096 - length left.chain.steps) r right.term right.chain.steps right.stop both.right_is.normalises

      resting : (x : Target) → slice_get s.goals g ≡ Some x → (d : Stage) (stop : Stop) → stop ≡ stop_of left.stop right.stop → StageAfter t s stop d → StaysAtRest m s.entries (record (goes_on left.chain right.chain x) { stage = d })
      resting x at _ _ q after_steps = awake s.entries (record (goes_on left.chain right.chain x) { stage = Continued }) (λ z. cc) (λ z. cc)
      resting x at _ _ q (full_but_grown b) = awake s.entries (record (goes_on left.chain right.chain x) { stage = Due }) (λ z. cc) (λ z. cc)
      resting x at _ _ q (size_but_grown b) = awake s.entries (record (goes_on left.chain right.chain x) { stage = Due }) (λ z. cc) (λ z. cc)
      resting x at _ _ q (after_full b) =
          let es : take t.front s.entries ≡ s.entries = take_of_length-le s.entries t.front b in
          let full = both_full left.stop right.stop (sym q) in
          let i : IsNormalIn m s.entries left.term = subst (λ z. IsNormalIn m z left.term) es (ends_full (live (take t.front s.entries)) 4096 l left.term left.chain.steps left.stop both.left_is.normalises full.0) in
          let k : IsNormalIn m s.entries right.term = subst (λ z. IsNormalIn m z right.term) es (ends_full (live (take t.front s.entries)) (4096 - length left.chain.steps) r right.term right.chain.steps right.stop both.right_is.normalises full.1) in
          record {
            settled = λ z. (subst (λ y. IsNormalIn m s.entries y) (sym (left_end x at)) i, subst (λ y. IsNormalIn m s.entries y) (sym (right_end x at)) k);
            stuck = λ z. absurd (cc);
          }
      resting x at _ _ q (after_size b) =
          let es : take t.front s.entries ≡ s.entries = take_of_length-le s.entries t.front b in
          record {
            settled = λ z. absurd (cc);
            stuck = λ z. (elim (one_large left.stop right.stop (sym q)) [
              | inl y ↦ inl (subst (λ v. IsStuckIn m s.entries v) (sym (left_end x at)) (subst (λ v. IsStuckIn m v left.term) es (ends_large (take t.front s.entries) 4096 l left.term left.chain.steps left.stop both.left_is.normalises y)))
              | inr y ↦ inr (subst (λ v. IsStuckIn m s.entries v) (sym (right_end x at)) (subst (λ v. IsStuckIn m v right.term) es (ends_large (take t.front s.entries) (4096 - length left.chain.steps) r right.term right.chain.steps right.stop both.right_is.normalises y)))
            ]);
          }

      staged : (y : Target) → slice_get (change (goes_on left.chain right.chain) s.goals g) g ≡ Some y → StaysAtRest m s.entries (record y { stage = c })
      staged y at = elim (get-changed (goes_on left.chain right.chain) s.goals g g y at) [
        | inl b ↦ (let h : slice_get (change (goes_on left.chain right.chain) s.goals g) g ≡ Some (goes_on left.chain right.chain y) = get-change_same (goes_on left.chain right.chain) s.goals g y b in
            let same : goes_on left.chain right.chain y ≡ y = cc in
            subst (λ z. StaysAtRest m s.entries (record z { stage = c })) same (resting y b c (stop_of left.stop right.stop) refl after))
        | inr b ↦ subst (λ z. StaysAtRest m s.entries (record z { stage = c })) (sym b.1.2) (resting b.1.0 b.1.1 c (stop_of left.stop right.stop) refl after)
      ]

  -- what a goal's result is made of
  pub record GoalResult (es : List Entry) (x y : Tree) (c d : Chain) (stop : Stop) : Type 0 where
    pub left : Normal
    pub right : Normal
    pub both : NormaliseBoth m es x y left right
    pub left_is : left.chain ≡ c
    pub right_is : right.chain ≡ d
    pub stop_is : stop_of left.stop right.stop ≡ stop

  pub result_goal : (axioms : List Equation) (es : List Entry) (j : Job) (f : Finding) → IsResult m axioms es j f → (g : ℕ) (x y : Tree) (c d : Chain) (stop : Stop) → j ≡ Goal g x y → f ≡ Ends c d stop → GoalResult es x y c d stop
  result_goal axioms es _ _ (goal_comes_to {l = l} {r = r} {left = left} {right = right} both) g x y c d stop e q =
      let lx : l ≡ x = cc in
      let ry : r ≡ y = cc in
      record { left = left; right = right; both = subst (λ z. NormaliseBoth m es x z left right) ry (subst (λ z. NormaliseBoth m es z r left right) lx both); left_is = (cc); right_is = (cc); stop_is = (cc) }
  result_goal axioms es _ _ (more_comes_to a) g x y c d stop e q = absurd (cc)
  result_goal axioms es _ _ (pair_is_joined a b) g x y c d stop e q = absurd (cc)
  result_goal axioms es _ _ (pair_is_kept a b h) g x y c d stop e q = absurd (cc)
  result_goal axioms es _ _ (comes_stale a b) g x y c d stop e q = absurd (cc)
  result_goal axioms es _ _ (comes_to_meet a b h k) g x y c d stop e q = absurd (cc)

  pub result_more : (axioms : List Equation) (es : List Entry) (j : Job) (f : Finding) → IsResult m axioms es j f → (g : ℕ) (x y : Tree) (c d : Chain) (stop : Stop) → j ≡ More g x y → f ≡ Ends c d stop → GoalResult es x y c d stop
  result_more axioms es _ _ (goal_comes_to a) g x y c d stop e q = absurd (cc)
  result_more axioms es _ _ (more_comes_to {l = l} {r = r} {left = left} {right = right} both) g x y c d stop e q =
      let lx : l ≡ x = cc in
      let ry : r ≡ y = cc in
      record { left = left; right = right; both = subst (λ z. NormaliseBoth m es x z left right) ry (subst (λ z. NormaliseBoth m es z r left right) lx both); left_is = (cc); right_is = (cc); stop_is = (cc) }
  result_more axioms es _ _ (pair_is_joined a b) g x y c d stop e q = absurd (cc)
  result_more axioms es _ _ (pair_is_kept a b h) g x y c d stop e q = absurd (cc)
  result_more axioms es _ _ (comes_stale a b) g x y c d stop e q = absurd (cc)
  result_more axioms es _ _ (comes_to_meet a b h k) g x y c d stop e q = absurd (cc)

  rests_accepted : (o : Opening) (s : State) (t : Out) (h : Happening) → Rests o s → Rests o (accepts t h s)
  rests_accepted o s t h a = record { rest = a.rest; ends = rests_ended o s t.ticket a; as_many = a.as_many }

  rests_meets : (o : Opening) (t : Out) (i pairs : ℕ) (does : State → State) (s u : State) → ((x : State) → Rests o x → Rests o (does x)) → Meets o t i pairs does s u → Rests o s → Rests o u
  rests_meets o t i pairs does s _ g (within_limit died b c) a = g _ (let x = rests_accepted o s t (CommitMeet i pairs died) a in record { rest = x.rest; ends = x.ends; as_many = x.as_many })
  rests_meets o t i pairs does s _ g (past_limit more b c) a = record { rest = a.rest; ends = rests_ended o s t.ticket a; as_many = a.as_many }

  rests_commits : (o : Opening) (s : State) (t : Out) (f : Finding) (u : State) → Kept o s → out_at t.ticket s.out ≡ Some t → IsResult m o.axioms (take t.front s.entries) t.job f → Rests o s → Commits o t f s u → Rests o u
  rests_commits o s t f _ k at right a (is_late v e) = rests_accepted o s t (CommitLate t.ticket) a
  rests_commits o s t _ u k at right a (goal_ends {l = c} {r = d} {stop = stop} g x y e is ends_) =
      let q = result_goal o.axioms (take t.front s.entries) t.job (Ends c d stop) right g x y c d stop is refl in
      let job = subst (λ j. JobEnds s.goals j) is (Each-at (λ (v : Out). JobEnds s.goals v.job) t.ticket s.out t at a.ends) in
      let busy = subst (λ j. IsBusy s.pairs s.goals s.meetings t.worker j) is (at_task o s t k at) in
      let others = subst (λ j. Each (λ (v : Out). is_same j v.job ≡ false) (without t.ticket s.out)) is (apart_from t.ticket s.out t at k.tasks.apart) in
      goal_rests o s CommitGoal t g x y q.left q.right u a job (is_busy s.goals g busy) q.both (λ h gs b. all_other gs (change h gs g) (Goal g x y) (without t.ticket s.out) (λ j n z. goal_other h gs g x y j n z) others b)
      (subst (λ z. GoalEnds CommitGoal t g q.left.chain q.right.chain z s u) (sym q.stop_is) (subst (λ z. GoalEnds CommitGoal t g q.left.chain z stop s u) (sym q.right_is) (subst (λ z. GoalEnds CommitGoal t g z d stop s u) (sym q.left_is) ends_)))
  rests_commits o s t _ u k at right a (more_ends {l = c} {r = d} {stop = stop} g x y e is ends_) =
      let q = result_more o.axioms (take t.front s.entries) t.job (Ends c d stop) right g x y c d stop is refl in
      let job = subst (λ j. JobEnds s.goals j) is (Each-at (λ (v : Out). JobEnds s.goals v.job) t.ticket s.out t at a.ends) in
      let busy = subst (λ j. IsBusy s.pairs s.goals s.meetings t.worker j) is (at_task o s t k at) in
      let others = subst (λ j. Each (λ (v : Out). is_same j v.job ≡ false) (without t.ticket s.out)) is (apart_from t.ticket s.out t at k.tasks.apart) in
      goal_rests o s CommitMore t g x y q.left q.right u a job (is_busy s.goals g busy) q.both (λ h gs b. all_other gs (change h gs g) (More g x y) (without t.ticket s.out) (λ j n z. more_other h gs g x y j n z) others b)
      (subst (λ z. GoalEnds CommitMore t g q.left.chain q.right.chain z s u) (sym q.stop_is) (subst (λ z. GoalEnds CommitMore t g q.left.chain z stop s u) (sym q.right_is) (subst (λ z. GoalEnds CommitMore t g z d stop s u) (sym q.left_is) ends_)))
  rests_commits o s t _ _ k at right a (pair_joins p b e is) = let x = rests_accepted o s t (CommitJoined p) a in record { rest = x.rest; ends = x.ends; as_many = x.as_many }
  rests_commits o s t _ _ k at right a (fact_is_kept {f = f} p b e is) = rests_publish o f _ (let x = rests_accepted o s t (CommitKept p (length (born s.entries))) a in record { rest = x.rest; ends = x.ends; as_many = x.as_many })
  rests_commits o s t _ u k at right a (fact_is_stale {k = c} i e is b) = rests_meets o t i 0 (λ y. kills c i y) s u (λ y z. rests_kills o c i y z) b a
  rests_commits o s t _ u k at right a (fact_is_dead i e is d b) = rests_meets o t i 0 stays s u (λ y z. z) b a
  rests_commits o s t _ u k at right a (fact_meets {ks = ks} {fs = fs} i e is d b) = rests_meets o t i (newly_waiting fs (each (λ c. kills i c) ks s)) (λ y. visits i ks fs y) s u (λ y z. (let x = rests_each o i ks y z in record { rest = x.rest; ends = x.ends; as_many = x.as_many })) b a

  rests_restored : (o : Opening) (n w fr : ℕ) (j : Job) (s : State) → (let t : Out = record { ticket = n; worker = w; job = j; front = fr } in Rests o s → Rests o (reclaims t s))
  rests_restored o n w fr (Goal g l r) s a = record { rest = rest_stage s.entries Due s.goals g (λ q. cc) (λ q. cc) a.rest; ends = Each-map (λ (u : Out) b. job_ends_stage Due s.goals g u.job b) (without n s.out) (rests_ended o s n a); as_many = length-change (λ (x : Target). record x { stage = Due }) s.goals g ∙ a.as_many }
  rests_restored o n w fr (More g l r) s a = record { rest = rest_stage s.entries Continued s.goals g (λ q. cc) (λ q. cc) a.rest; ends = Each-map (λ (u : Out) b. job_ends_stage Continued s.goals g u.job b) (without n s.out) (rests_ended o s n a); as_many = length-change (λ (x : Target). record x { stage = Continued }) s.goals g ∙ a.as_many }
  rests_restored o n w fr (Meet i) s a = record { rest = a.rest; ends = rests_ended o s n a; as_many = a.as_many }
  rests_restored o n w fr (Join p b) s a = record { rest = a.rest; ends = rests_ended o s n a; as_many = a.as_many }

  rests_recalled : (o : Opening) (ts : List Out) (s : State) → Rests o s → Rests o (each reclaims ts s)
  rests_recalled o [] s a = a
  rests_recalled o (t ∷ ts) s a = rests_recalled o ts (reclaims t s) (rests_restored o t.ticket t.worker t.front t.job s a)

  rests_audits : (o : Opening) (f : Fact) (s u : State) (r : AuditReply) → Audits o f s r u → Rests o s → Rests o u
  rests_audits o f s _ _ (is_closed v e) a = a
  rests_audits o f s _ _ (is_spent e c) a = record { rest = a.rest; ends = a.ends; as_many = a.as_many }
  rests_audits o f s _ _ (is_kept e c) a = let b = rests_publish o f s a in record { rest = b.rest; ends = b.ends; as_many = b.as_many }

  rests_closes : (o : Opening) (s u : State) (outcome : Outcome) (v : Verdict) → Closes s outcome v u → Rests o s → Rests o u
  rests_closes o s _ _ _ converges a = record { rest = a.rest; ends = a.ends; as_many = a.as_many }
  rests_closes o s _ _ _ has_large a = record { rest = a.rest; ends = a.ends; as_many = a.as_many }
  rests_closes o s _ _ _ has_stuck a = record { rest = a.rest; ends = a.ends; as_many = a.as_many }

  all_due : (es : List Entry) (gs : List Equation) → Each (StaysAtRest m es) (map goal_of gs)
  all_due es [] = tt
  all_due es (g ∷ gs) = (awake es (goal_of g) (λ q. cc) (λ q. cc), all_due es gs)

  rests_starts : (o : Opening) (s : State) → Starts o s → Rests o s
  rests_starts o _ (axioms_wait l) = record { rest = all_due [] o.goals; ends = tt; as_many = length-map o.goals goal_of }
  rests_starts o _ (too_many_axioms l) = record { rest = all_due [] o.goals; ends = tt; as_many = length-map o.goals goal_of }

  pub rests_reaches : (o : Opening) (s : State) → Reaches m o s → Rests o s
  rests_reaches o s (starts a) = rests_starts o s a
  rests_reaches o u (draws_on {s = s} {r = r} w l a d) = rests_draws o w s r u d (rests_reaches o s a)
  rests_reaches o u (commits_on {s = s} {f = f} t at right a c) = rests_commits o s t f u (kept_reaches m o s a) at right (rests_reaches o s a) c
  rests_reaches o _ (reclaims_on {s = s} t at a) = rests_restored o t.ticket t.worker t.front t.job s (rests_reaches o s a)
  rests_reaches o _ (recalls_on {s = s} a) = rests_recalled o s.out s (rests_reaches o s a)
  rests_reaches o u (audits_on {s = s} {answer = r} x may a b) = rests_audits o x.fact s u r b (rests_reaches o s a)
  rests_reaches o u (closes_on {s = s} {outcome = outcome} {v = v} d f a c) = rests_closes o s u outcome v c (rests_reaches o s a)

  pub goals_at_rest : (o : Opening) (s : State) → Reaches m o s → GoalsAtRest m s
  goals_at_rest o s r = (rests_reaches o s r).rest
