-- What bounds the draws of a search, step by step. Each draw of a goal has a goal that was Due, each draw of a meeting a fact that
-- was Unmet, each other draw a unit. A goal is Due at the start and again after an entry at most.
use Rattle.std.proofs.Common.{◌≡◌, ℕ, suc, ◌+◌, ◌-◌, ◌*◌, ◌<◌, ◌≤◌, List, [], ◌∷◌, ◌++◌, length, count_by, true, false, cond, None, refl, ap, ap₂, ◌∙◌, arith, inl, inr, subst, mul-suc}
use Rattle.std.proofs.lemmas.Bool.{cases_Bool}
use Rattle.std.proofs.lemmas.List.Sums.{sum_by_push}
use Rattle.std.proofs.lemmas.List.{append-nil, length_push, length-map}
use Rattle.uc_fact.specs.declared.chain.Chain.{Chain}
use Rattle.uc_fact.specs.declared.fact.Fact.{Fact}
use Rattle.uc_fact.specs.declared.fact.Stop.{Stop}
use Rattle.uc_pair.specs.declared.formed.Formed.{Formed}
use Rattle.uc_ledger.specs.declared.ledger.State.TheVariants.{Done}
use Rattle.uc_shelf.specs.declared.entry.Entry.TheVariants.{Born, Dies}
use Rattle.uc_shelf.specs.Entries.{born, is_dead}
use Rattle.uc_machine.specs.declared.state.Meeting.{Meeting}
use Rattle.uc_machine.specs.declared.state.Meeting.TheVariants.{Unmet, Visiting, Met}
use Rattle.uc_machine.specs.declared.state.Stage.{Stage}
use Rattle.uc_machine.specs.declared.state.Stage.TheVariants.{Busy}
use Rattle.uc_machine.specs.declared.event.Verdict.{Verdict}
use Rattle.uc_machine.specs.declared.event.Event.{Event}
use Rattle.uc_machine.specs.declared.event.GoalEnd.{GoalEnd}
use Rattle.uc_machine.specs.declared.event.Happening.{Happening}
use Rattle.uc_machine.specs.declared.event.Happening.TheVariants.{DrawGoal, DrawMore, DrawMeet, DrawJoin, Dropped, CommitGoal, CommitMore, CommitMeet, CommitJoined, CommitKept, AuditKept, Close}
use Rattle.uc_machine.specs.declared.task.Finding.{Finding}
use Rattle.uc_machine.specs.Lists.{change, each}
use Rattle.uc_machine.specs.State.{Opening, State, Target, Out, draws_in, is_draw, is_due, is_unmet}
use Rattle.uc_machine.specs.Effects.{accepts, closes, ending_of, dies, drops, goes_on, is_met, keeps, kills, meets_unmet, publishes, stages, takes_ends, turns, unit_of, visits, wakes}
use Rattle.uc_machine.specs.Events.{draw_in}
use Rattle.uc_machine.specs.Draws.{Reply, Draws, verdict_stands, goal_is_due, fact_is_unmet, orphan_is_dropped, goal_is_continued, pair_is_drawn, budget_is_out, budget_is_spent, all_is_out, all_is_done}
use Rattle.uc_machine.specs.Commits.{GoalEnds, ends_meet, ends_differ, StageAfter, after_steps, full_but_grown, size_but_grown, after_full, after_size, Meets, within_limit, past_limit, newly_waiting, stays, Commits, is_late, goal_ends, more_ends, pair_joins, fact_is_kept, fact_is_stale, fact_is_dead, fact_meets}
use Rattle.uc_machine.proofs.Accounts.{draws_in-push}
use Rattle.uc_machine.proofs.Blocks.{born-append, born-dies}
use Rattle.uc_machine.proofs.Found.{first_is}
use Rattle.uc_machine.proofs.Lists.{length-change}
use Rattle.uc_search.specs.Bounds.{is_audit}
use Rattle.uc_search.proofs.Loads.{due_of, dues, dues-few, dues-stage, dues-taken, dues-ends, unmets, unmets-change, met_less, died_less, unmets-taken, unmets-push}

-- EVENTS

abbrev pub audits_in : List Event → ℕ
audits_in h = count_by is_audit h

abbrev by : ℕ → Happening → Event
by w h = record { worker = w; what = h }

draw_is : (e : Event) → is_draw e ≡ true → draw_in e ≡ e ∷ []
draw_is e q = rw q refl

draw_is_not : (e : Event) → is_draw e ≡ false → draw_in e ≡ []
draw_is_not e q = rw q refl

draws_more : (h : List Event) (e : Event) → is_draw e ≡ true → length (draws_in (h ++ e ∷ [])) ≡ length (draws_in h) + 1
draws_more h e q = ap length (draws_in-push h e ∙ ap (λ es. draws_in h ++ es) (draw_is e q)) ∙ length_push (draws_in h) e

draws_same : (h : List Event) (e : Event) → is_draw e ≡ false → length (draws_in (h ++ e ∷ [])) ≡ length (draws_in h)
draws_same h e q = ap length (draws_in-push h e ∙ ap (λ es. draws_in h ++ es) (draw_is_not e q) ∙ append-nil (draws_in h))

audits_more : (h : List Event) (e : Event) → is_audit e ≡ true → audits_in (h ++ e ∷ []) ≡ audits_in h + 1
audits_more h e q = sum_by_push (λ (x : Event). cond (is_audit x) 1 0) h e ∙ rw q refl

audits_same : (h : List Event) (e : Event) → is_audit e ≡ false → audits_in (h ++ e ∷ []) ≡ audits_in h
audits_same h e q = sum_by_push (λ (x : Event). cond (is_audit x) 1 0) h e ∙ rw q (omega arith)

-- THE BOUND

-- so many loads may be taken or to come, with so many goals, entries and births, and so many units
abbrev room : ℕ → ℕ → ℕ
room goals entries = goals + goals * entries

-- the draws with the loads that are to come are at most as many as there is room for; births and audits are at most as many as
-- units; and there are so many audits at least
pub record Fits (a : ℕ) (s : State) : Type 0 where
  pub tasks : length (draws_in s.history) + (dues s.goals + unmets s.meetings) ≤ room (length s.goals) (length s.entries) + (length (born s.entries) + (s.counted + s.reserved))
  pub births : length (born s.entries) ≤ s.counted
  pub audits : audits_in s.history ≤ s.counted
  pub least : a ≤ audits_in s.history

more_room : (g h n k : ℕ) → h ≡ g → k ≡ n + 1 → room h k ≡ room g n + g
more_room g h n k e f =
    let q : k ≡ suc n = f ∙ (omega arith) in
    let b : g * suc n ≡ g * n + g = mul-suc g n in
    let c : g + (g * n + g) ≡ (g + g * n) + g = omega arith in
    ap₂ room e q ∙ ap (λ x. g + x) b ∙ c

-- sums: nothing is drawn; a task is drawn; an entry is made
quiet_sums : (d l p b k d2 l2 p2 b2 k2 : ℕ) → d + l ≤ p + (b + k) → d2 ≡ d → l2 ≤ l → p2 ≡ p → b2 ≡ b → k2 ≡ k → d2 + l2 ≤ p2 + (b2 + k2)
quiet_sums d l p b k d2 l2 p2 b2 k2 h i j x y z = omega (arith, h, i, j, x, y, z)

drawn_sums : (d l p b k d2 l2 p2 b2 k2 : ℕ) → d + l ≤ p + (b + k) → d2 ≡ d + 1 → l2 + 1 + k ≤ l + k2 → p2 ≡ p → b2 ≡ b → d2 + l2 ≤ p2 + (b2 + k2)
drawn_sums d l p b k d2 l2 p2 b2 k2 h i j x y = omega (arith, h, i, j, x, y)

entry_sums : (d x y p b k d2 x2 y2 p2 b2 k2 g n : ℕ) → d + (x + y) ≤ p + (b + k) → d2 ≡ d → x2 ≤ g → y2 ≤ y + n → p2 ≡ p + g → b2 ≡ b + n → k ≤ k2 → d2 + (x2 + y2) ≤ p2 + (b2 + k2)
entry_sums d x y p b k d2 x2 y2 p2 b2 k2 g n h i j q r t u = omega (arith, h, i, j, q, r, t, u)

-- no task is drawn, and there is no new entry
fits_quiet : (a : ℕ) (s u : State) → Fits a s
    → length (draws_in u.history) ≡ length (draws_in s.history) → audits_in u.history ≡ audits_in s.history
    → dues u.goals + unmets u.meetings ≤ dues s.goals + unmets s.meetings → length u.goals ≡ length s.goals → u.entries ≡ s.entries
    → s.counted ≤ u.counted → u.counted + u.reserved ≡ s.counted + s.reserved → Fits a u
fits_quiet a s u f d x l g e c k =
    let b : length (born u.entries) ≡ length (born s.entries) = ap (λ es. length (born es)) e in
    let births : length (born s.entries) ≤ s.counted = f.births in
    let audits : audits_in s.history ≤ s.counted = f.audits in
    let least : a ≤ audits_in s.history = f.least in
    record {
      tasks = quiet_sums (length (draws_in s.history)) (dues s.goals + unmets s.meetings) (room (length s.goals) (length s.entries)) (length (born s.entries)) (s.counted + s.reserved)
          (length (draws_in u.history)) (dues u.goals + unmets u.meetings) (room (length u.goals) (length u.entries)) (length (born u.entries)) (u.counted + u.reserved) f.tasks d l (ap₂ room g (ap length e)) b k;
      births = (let y : s.counted ≤ u.counted = c in omega arith);
      audits = (let y : s.counted ≤ u.counted = c in let z : audits_in u.history ≡ audits_in s.history = x in omega arith);
      least = (let z : audits_in u.history ≡ audits_in s.history = x in omega arith);
    }

-- a task is drawn, for which a load or a unit is taken
fits_drawn : (a : ℕ) (s u : State) → Fits a s
    → length (draws_in u.history) ≡ length (draws_in s.history) + 1 → audits_in u.history ≡ audits_in s.history
    → dues u.goals + unmets u.meetings + 1 + (s.counted + s.reserved) ≤ dues s.goals + unmets s.meetings + (u.counted + u.reserved) → length u.goals ≡ length s.goals → u.entries ≡ s.entries
    → u.counted ≡ s.counted → Fits a u
fits_drawn a s u f d x l g e c =
    let b : length (born u.entries) ≡ length (born s.entries) = ap (λ es. length (born es)) e in
    let births : length (born s.entries) ≤ s.counted = f.births in
    let audits : audits_in s.history ≤ s.counted = f.audits in
    let least : a ≤ audits_in s.history = f.least in
    record {
      tasks = drawn_sums (length (draws_in s.history)) (dues s.goals + unmets s.meetings) (room (length s.goals) (length s.entries)) (length (born s.entries)) (s.counted + s.reserved)
          (length (draws_in u.history)) (dues u.goals + unmets u.meetings) (room (length u.goals) (length u.entries)) (length (born u.entries)) (u.counted + u.reserved) f.tasks d l (ap₂ room g (ap length e)) b;
      births = (let y : u.counted ≡ s.counted = c in omega arith);
      audits = (let y : u.counted ≡ s.counted = c in let z : audits_in u.history ≡ audits_in s.history = x in omega arith);
      least = (let z : audits_in u.history ≡ audits_in s.history = x in omega arith);
    }

-- there is a new entry, by which n facts are born; of this many the units were counted before, of the others they are now
fits_entry : (a c n : ℕ) (s u : State) → Fits a s
    → length (draws_in u.history) ≡ length (draws_in s.history) → audits_in u.history ≡ audits_in s.history + c
    → length u.goals ≡ length s.goals → unmets u.meetings ≤ unmets s.meetings + n → length u.entries ≡ length s.entries + 1 → length (born u.entries) ≡ length (born s.entries) + n
    → length (born s.entries) + n ≤ u.counted → u.counted ≡ s.counted + c → u.reserved ≡ s.reserved → Fits (a + c) u
fits_entry a c n s u f d x g m e b l k r =
    let audits : audits_in s.history ≤ s.counted = f.audits in
    let least : a ≤ audits_in s.history = f.least in
    let du : dues u.goals ≤ length u.goals = dues-few u.goals in
    record {
      tasks = entry_sums (length (draws_in s.history)) (dues s.goals) (unmets s.meetings) (room (length s.goals) (length s.entries)) (length (born s.entries)) (s.counted + s.reserved)
          (length (draws_in u.history)) (dues u.goals) (unmets u.meetings) (room (length u.goals) (length u.entries)) (length (born u.entries)) (u.counted + u.reserved) (length s.goals) n f.tasks d
          (let y : length u.goals ≡ length s.goals = g in omega arith) m (more_room (length s.goals) (length u.goals) (length s.entries) (length u.entries) g e) b
          (let y : u.counted ≡ s.counted + c = k in let z : u.reserved ≡ s.reserved = r in omega arith);
      births = (let y : length (born u.entries) ≡ length (born s.entries) + n = b in let z : length (born s.entries) + n ≤ u.counted = l in omega arith);
      audits = (let y : u.counted ≡ s.counted + c = k in let z : audits_in u.history ≡ audits_in s.history + c = x in omega arith);
      least = (let z : audits_in u.history ≡ audits_in s.history + c = x in omega arith);
    }

-- THE EFFECTS

pub fits_closes : (a w : ℕ) (v : Verdict) (s : State) → Fits a s → Fits a (closes w v s)
fits_closes a w v s f =
    let e : Event = by w (Close (ending_of v)) in
    fits_quiet a s (closes w v s) f (draws_same s.history e refl) (audits_same s.history e refl) (omega arith) refl refl (omega arith) refl

-- the commit's event is recorded
fits_accepts : (a : ℕ) (t : Out) (h : Happening) (s : State) → is_draw (by t.worker h) ≡ false → is_audit (by t.worker h) ≡ false → unit_of t.job ≤ s.reserved → Fits a s → Fits a (accepts t h s)
fits_accepts a t h s d x l f =
    let e : Event = by t.worker h in
    let y : unit_of t.job ≤ s.reserved = l in
    fits_quiet a s (accepts t h s) f (draws_same s.history e d) (audits_same s.history e x) (omega arith) refl refl (omega arith) (units_move s.counted s.reserved (unit_of t.job) l)
  where
    units_move : (c r n : ℕ) → n ≤ r → (c + n) + (r - n) ≡ c + r
    units_move c r n l = omega (arith, l)

fits_stages : (a : ℕ) (c : Stage) (g : ℕ) (s : State) → due_of c ≡ 0 → Fits a s → Fits a (stages c g s)
fits_stages a c g s z f =
    let l : dues (change (λ (x : Target). record x { stage = c }) s.goals g) ≤ dues s.goals = dues-stage c s.goals g z in
    fits_quiet a s (stages c g s) f refl refl (omega arith) (length-change (λ (x : Target). record x { stage = c }) s.goals g) refl (omega arith) refl

fits_ends : (a g : ℕ) (l r : Chain) (s : State) → Fits a s → Fits a (takes_ends g l r s)
fits_ends a g l r s f =
    let e : dues (change (goes_on l r) s.goals g) ≡ dues s.goals = dues-ends l r s.goals g in
    fits_quiet a s (takes_ends g l r s) f refl refl (omega arith) (length-change (goes_on l r) s.goals g) refl (omega arith) refl

fits_met : (a i : ℕ) (s : State) → Fits a s → Fits a (is_met i s)
fits_met a i s f =
    let l : unmets (change (λ (x : Meeting). Met) s.meetings i) ≤ unmets s.meetings = unmets-change (λ (x : Meeting). Met) s.meetings i met_less in
    fits_quiet a s (is_met i s) f refl refl (omega arith) refl refl (omega arith) refl

fits_done : (a p : ℕ) (s : State) → Fits a s → Fits a (turns Done p s)
fits_done a p s f = fits_quiet a s (turns Done p s) f refl refl (omega arith) refl refl (omega arith) refl

fits_forms : (a i : ℕ) (ks : List ℕ) (fs : List Formed) (s : State) → Fits a (each (kills i) ks s) → Fits a (visits i ks fs s)
fits_forms a i ks fs s f = fits_quiet a (each (kills i) ks s) (visits i ks fs s) f refl refl (omega arith) refl refl (omega arith) refl

plain : (a : ℕ) (s : State) → Fits (a + 0) s → Fits a s
plain a s f = subst (λ n. Fits n s) (let e : a + 0 ≡ a = omega arith in e) f

-- a fact is born whose unit was counted
fits_born : (a : ℕ) (x : Fact) (s : State) → length (born s.entries) < s.counted → Fits a s → Fits a (publishes x s)
fits_born a x s l f =
    let y : length (born s.entries) < s.counted = l in
    let m : unmets (s.meetings ++ Unmet ∷ []) ≡ unmets s.meetings + 1 = unmets-push s.meetings in
    plain a (publishes x s) (fits_entry a 0 1 s (publishes x s) f refl (omega arith) (length-map s.goals wakes) (omega arith) (length_push s.entries (Born x)) (ap length (born-append s.entries (Born x ∷ [])) ∙ length_push (born s.entries) x) (omega arith) (omega arith) refl)

fits_dies : (a k i : ℕ) (s : State) → Fits a s → Fits a (dies k i s)
fits_dies a k i s f =
    let l : unmets (change meets_unmet s.meetings i) ≤ unmets s.meetings = unmets-change meets_unmet s.meetings i died_less in
    let b : length (born s.entries) ≤ s.counted = f.births in
    let e : length (born (s.entries ++ Dies i k ∷ [])) ≡ length (born s.entries) = ap length (born-dies s.entries i k) in
    plain a (dies k i s) (fits_entry a 0 0 s (dies k i s) f refl (omega arith) (length-map s.goals wakes) (omega arith) (length_push s.entries (Dies i k)) (omega arith) (omega arith) (omega arith) refl)

fits_kills : (a k i : ℕ) (s : State) → Fits a s → Fits a (kills k i s)
fits_kills a k i s f = elim (cases_Bool (is_dead s.entries i)) as (λ _. Fits a (cond (is_dead s.entries i) s (dies k i s))) [
  | inl e ↦ rw e f
  | inr e ↦ rw e (fits_dies a k i s f)
]

fits_each : (a i : ℕ) (ks : List ℕ) (s : State) → Fits a s → Fits a (each (kills i) ks s)
fits_each a i [] s f = f
fits_each a i (k ∷ ks) s f = fits_each a i ks (kills i k s) (fits_kills a i k s f)

-- an audit that keeps a fact
pub fits_keeps : (a n : ℕ) (x : Fact) (s : State) → Fits a s → Fits (a + 1) (keeps x (AuditKept n) s)
fits_keeps a n x s f =
    let b : length (born s.entries) ≤ s.counted = f.births in
    let e : Event = by 0 (AuditKept n) in
    let m : unmets (s.meetings ++ Unmet ∷ []) ≡ unmets s.meetings + 1 = unmets-push s.meetings in
    fits_entry a 1 1 s (keeps x (AuditKept n) s) f (draws_same s.history e refl) (audits_more s.history e refl) (length-map s.goals wakes) (omega arith) (length_push s.entries (Born x)) (ap length (born-append s.entries (Born x ∷ [])) ∙ length_push (born s.entries) x) (omega arith) refl refl

pub fewer_fit : (a c : ℕ) (s : State) → Fits (a + c) s → Fits a s
fewer_fit a c s f = record { tasks = f.tasks; births = f.births; audits = f.audits; least = (let l : a + c ≤ audits_in s.history = f.least in omega arith) }

-- DRAWS

pub draws_fit : (a : ℕ) (o : Opening) (w : ℕ) (s : State) (r : Reply) (u : State) → Draws o w s r u → Fits a s → Fits a u
draws_fit a o w s _ _ (verdict_stands v e) f = f
draws_fit a o w s _ u (goal_is_due g e p) f =
    let h = first_is (λ (y : Target). is_due y.stage) s.goals g p in
    let x : Event = by w (DrawGoal g.number (length s.entries)) in
    let l : dues (change (λ (y : Target). record y { stage = Busy }) s.goals g.number) + 1 ≡ dues s.goals = dues-taken s.goals g.number g.here h.at h.passes in
    fits_drawn a s _ f (draws_more s.history x refl) (audits_same s.history x refl) (omega arith) (length-change (λ (y : Target). record y { stage = Busy }) s.goals g.number) refl refl
draws_fit a o w s _ u (fact_is_unmet i n p) f =
    let h = first_is is_unmet s.meetings i p in
    let x : Event = by w (DrawMeet i.number (length s.entries)) in
    let l : unmets (change (λ (y : Meeting). Visiting) s.meetings i.number) + 1 ≡ unmets s.meetings = unmets-taken s.meetings i.number i.here h.at h.passes in
    fits_drawn a s _ f (draws_more s.history x refl) (audits_same s.history x refl) (omega arith) refl refl refl
draws_fit a o w s r u (orphan_is_dropped p n e q d) f =
    let x : Event = by w (Dropped p.number) in
    draws_fit a o w (drops w p.number s) r u d (fits_quiet a s (drops w p.number s) f (draws_same s.history x refl) (audits_same s.history x refl) (omega arith) refl refl (omega arith) refl)
draws_fit a o w s _ u (goal_is_continued g l p b) f =
    let x : Event = by w (DrawMore g.number (length s.entries)) in
    let y : dues (change (λ (z : Target). record z { stage = Busy }) s.goals g.number) ≤ dues s.goals = dues-stage Busy s.goals g.number refl in
    fits_drawn a s _ f (draws_more s.history x refl) (audits_same s.history x refl) (omega arith) (length-change (λ (z : Target). record z { stage = Busy }) s.goals g.number) refl refl
draws_fit a o w s _ u (pair_is_drawn p y l q e at b) f =
    let x : Event = by w (DrawJoin p.number (length s.entries)) in
    fits_drawn a s _ f (draws_more s.history x refl) (audits_same s.history x refl) (omega arith) refl refl refl
draws_fit a o w s _ _ (budget_is_out l x b c) f = f
draws_fit a o w s _ _ (budget_is_spent l x b c) f = fits_closes a w _ s f
draws_fit a o w s _ _ (all_is_out l x b) f = f
draws_fit a o w s _ _ (all_is_done l x b) f = f

-- COMMITS

not_due : (t : Out) (s : State) (stop : Stop) (c : Stage) → t.front ≡ length s.entries → StageAfter t s stop c → due_of c ≡ 0
not_due t s _ _ e after_steps = refl
not_due t s _ _ e (full_but_grown g) = absurd (let l : t.front < length s.entries = g in omega (arith, l, e))
not_due t s _ _ e (size_but_grown g) = absurd (let l : t.front < length s.entries = g in omega (arith, l, e))
not_due t s _ _ e (after_full g) = refl
not_due t s _ _ e (after_size g) = refl

abbrev IsCalm : ℕ → Happening → Type 0
IsCalm w h = (is_draw (by w h) ≡ false) × (is_audit (by w h) ≡ false)

goal_fits : (a : ℕ) (kind : ℕ → ℕ → GoalEnd → Happening) (t : Out) (g : ℕ) (l r : Chain) (stop : Stop) (s u : State) → ((n m : ℕ) (e : GoalEnd) → IsCalm t.worker (kind n m e)) → t.front ≡ length s.entries → unit_of t.job ≤ s.reserved
    → GoalEnds kind t g l r stop s u → Fits a s → Fits a u
goal_fits a kind t g l r stop s _ calm e n (ends_meet q) f =
    fits_closes a t.worker _ _ (fits_ends a g l r _ (fits_accepts a t _ s (calm _ _ _).0 (calm _ _ _).1 n f))
goal_fits a kind t g l r stop s _ calm e n (ends_differ c q x) f =
    fits_stages a c g _ (not_due t s stop c e x) (fits_ends a g l r _ (fits_accepts a t _ s (calm _ _ _).0 (calm _ _ _).1 n f))

meets_fit : (a : ℕ) (o : Opening) (t : Out) (i pairs : ℕ) (does : State → State) (s u : State) → unit_of t.job ≤ s.reserved → ((x : State) → Fits a x → Fits a (does x)) → Meets o t i pairs does s u → Fits a s → Fits a u
meets_fit a o t i pairs does s _ n d (within_limit died x y) f = d _ (fits_met a i _ (fits_accepts a t (CommitMeet i pairs died) s refl refl n f))
meets_fit a o t i pairs does s _ n d (past_limit more x y) f = fits_closes a t.worker _ _ (fits_met a i _ (fits_accepts a t (CommitMeet i 0 0) s refl refl n f))

-- the fact of a pair is born, whose unit the commit counts
kept_fits : (a : ℕ) (t : Out) (x : Fact) (p : ℕ) (n : ℕ) (s : State) → unit_of t.job ≡ 1 → unit_of t.job ≤ s.reserved → Fits a s → Fits a (publishes x (turns Done p (accepts t (CommitKept p n) s)))
kept_fits a t x p n s one l f =
    let b : length (born s.entries) ≤ s.counted = f.births in
    let e : unit_of t.job ≡ 1 = one in
    fits_born a x (turns Done p (accepts t (CommitKept p n) s)) (omega arith) (fits_done a p _ (fits_accepts a t (CommitKept p n) s refl refl l f))

pub commits_fit : (a : ℕ) (o : Opening) (t : Out) (x : Finding) (s u : State) → t.front ≡ length s.entries → unit_of t.job ≤ s.reserved → s.verdict ≡ None → Commits o t x s u → Fits a s → Fits a u
commits_fit a o t x s _ e n v (is_late w q) f = absurd (cc)
commits_fit a o t _ s u e n v (goal_ends {l = l} {r = r} {stop = stop} g c d q is x) f = goal_fits a CommitGoal t g l r stop s u (λ i j k. (refl, refl)) e n x f
commits_fit a o t _ s u e n v (more_ends {l = l} {r = r} {stop = stop} g c d q is x) f = goal_fits a CommitMore t g l r stop s u (λ i j k. (refl, refl)) e n x f
commits_fit a o t _ s _ e n v (pair_joins p c q is) f = fits_done a p _ (fits_accepts a t (CommitJoined p) s refl refl n f)
commits_fit a o t _ s _ e n v (fact_is_kept {f = y} p c q is) f = kept_fits a t y p (length (born s.entries)) s (ap unit_of is) n f
commits_fit a o t _ s u e n v (fact_is_stale {k = k} i q is m) f = meets_fit a o t i 0 (λ y. kills k i y) s u n (λ y g. fits_kills a k i y g) m f
commits_fit a o t _ s u e n v (fact_is_dead i q is d m) f = meets_fit a o t i 0 stays s u n (λ y g. g) m f
commits_fit a o t _ s u e n v (fact_meets {ks = ks} {fs = fs} i q is d m) f = meets_fit a o t i (newly_waiting fs (each (λ c. kills i c) ks s)) (λ y. visits i ks fs y) s u n (λ y g. fits_forms a i ks fs y (fits_each a i ks y g)) m f
