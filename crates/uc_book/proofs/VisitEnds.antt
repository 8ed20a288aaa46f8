-- What the end of a visit leaves: a meeting of the machine, and parts that fit together and have room.
use Rattle.std.proofs.Common.{◌≡◌, ℕ, ◌+◌, ◌<◌, ◌≤◌, List, [], ◌∷◌, ◌++◌, length, true, false, Some, refl, ap, sym, ◌∙◌, arith, subst}
use Rattle.std.specs.Prelude.{None, remove, not, vec_len, vec_capacity}
use Rattle.std.proofs.lemmas.List.{append-nil}
use Rattle.std.proofs.lemmas.List.Sums.{count_by-le-length}
use Rattle.boxcar.specs.Table.{Shelves}
use Rattle.uc_pair.specs.declared.formed.Formed.{Formed}
use Rattle.uc_shelf.specs.declared.entry.Entry.{Entry}
use Rattle.uc_shelf.specs.Entries.{born, is_dead}
use Rattle.uc_shelf.specs.Fronts.{IsOf}
use Rattle.uc_shelf.specs.Sights.{Sight}
use Rattle.uc_machine.specs.declared.event.Event.{Event}
use Rattle.uc_machine.specs.declared.event.Happening.TheVariants.{CommitMeet, Close}
use Rattle.uc_machine.specs.declared.event.Verdict.{Verdict}
use Rattle.uc_machine.specs.declared.event.Verdict.TheVariants.{PairsOut}
use Rattle.uc_machine.specs.declared.task.Job.TheVariants.{Meet}
use Rattle.uc_machine.specs.declared.task.Finding.{Finding}
use Rattle.uc_machine.specs.declared.task.Finding.TheVariants.{Stale, Met}
use Rattle.uc_machine.specs.State.{Opening, State, Out, waiting, draws_in}
use Rattle.uc_machine.specs.Effects.{accepts, is_met, closes, ending_of, one_commit}
use Rattle.uc_machine.specs.Commits.{Commits, Meets, within_limit, past_limit, newly_waiting}
use Rattle.uc_machine.proofs.Lists.{length-change}
use Rattle.uc_book.specs.declared.parts.Parts.{Parts}
use Rattle.uc_rows.specs.declared.tasks.TaskRow.{TaskRow}
use Rattle.uc_rows.specs.TaskRows.{is_join, unit_if_join, StandsAt}
use Rattle.uc_rows.specs.RowViews.{PairsView}
use Rattle.uc_book.specs.Parts.{state_of, closings, Fit, HasRoom, IsSubjectOut, IsSteady}
use Rattle.uc_book.specs.Ending.{CanEnd, HasEnded}
use Rattle.uc_rows.specs.Rising.{AreRising, AreBelow}
use Rattle.uc_rows.specs.Deaths.{alive_of, all_dead, visited, deaths_by}
use Rattle.uc_book.proofs.Histories.{draws-none}
use Rattle.uc_rows.proofs.Items.{length-remove}
use Rattle.uc_book.proofs.Fitting.{joins, fit_ended}
use Rattle.uc_rows.proofs.PutBack.{joins_left}
use Rattle.uc_book.proofs.Standing.{accepted_fit}
use Rattle.uc_book.proofs.Taking.{reserved_state}
use Rattle.uc_book.proofs.RisingNumbers.{filter_rises, filter_below, below_more}
use Rattle.uc_book.proofs.NewPairs.{waiting_more, deaths_more}
use Rattle.uc_book.proofs.Visits.{stale, dead_met, met}

-- WHAT A VISIT NEEDS

-- the fact of a meeting that is out is born
pub meeting_born : (shelf : Shelves) (o : Opening) (p : Parts) (at : ℕ) (t : Out) (i : ℕ) → CanEnd shelf o p → StandsAt p.tasks.items at t → t.job ≡ Meet i → i < length (born p.facts.front.entries)
meeting_born shelf o p at t i c s j = subst (IsSubjectOut p t.worker) j (c.subjects t s.found)

pub falls_rise : (es : List Entry) (ks : List ℕ) → AreRising 0 ks → AreRising 0 (alive_of es ks)
falls_rise es ks r = filter_rises (λ k. not (is_dead es k)) 0 ks r

pub falls_below : (es : List Entry) (m n : ℕ) (ks : List ℕ) → m ≤ n → AreBelow m ks → AreBelow n (alive_of es ks)
falls_below es m n ks l b = filter_below (λ k. not (is_dead es k)) n ks (below_more m n ks l b)

-- there is room for more pairs
pub reserved_steady : (p : Parts) (pairs : PairsView) → pairs.pairs ≡ p.pairs.pairs → pairs.draws ≡ p.pairs.draws → p.pairs.spare ≤ pairs.spare → (let q : Parts = record p { pairs = pairs } in IsSteady p q)
reserved_steady p pairs a b s = record { state = reserved_state p pairs a b; front = refl; tasks = refl; next = refl; capacity = omega arith; spare = s }

-- THE MEETING

pub keeps_visit : (o : Opening) (t : Out) (i killer : ℕ) (js : List ℕ) (fs : List Formed) (s u : State) (n waits : ℕ) → n ≡ newly_waiting fs (all_dead killer js s) → waits ≡ waiting s → waits + (length js + n) ≤ o.limit
    → u ≡ visited killer js fs (is_met i (accepts t (CommitMeet i n (length js)) s)) → Meets o t i (newly_waiting fs (all_dead killer js s)) (visited killer js fs) s u
keeps_visit o t i killer js fs s u n waits e f l is =
    let w : waiting (visited killer js fs s) ≡ waiting s + (length js + newly_waiting fs (all_dead killer js s)) = waiting_more killer js fs s in
    let few : waiting (visited killer js fs s) ≤ o.limit = omega (arith, w, e, f, l) in
    subst (Meets o t i (newly_waiting fs (all_dead killer js s)) (visited killer js fs) s)
    (sym (is ∙ ap (λ m. visited killer js fs (is_met i (accepts t (CommitMeet i m (length js)) s))) e))
    (within_limit (length js) few (deaths_more killer js fs s))

pub passes_limit : (o : Opening) (t : Out) (i killer : ℕ) (js : List ℕ) (fs : List Formed) (s u : State) (n waits : ℕ) → n ≡ length js + newly_waiting fs (all_dead killer js s) → waits ≡ waiting s → o.limit < waits + n
    → u ≡ closes t.worker (PairsOut waits n) (is_met i (accepts t (CommitMeet i 0 0) s)) → Meets o t i (newly_waiting fs (all_dead killer js s)) (visited killer js fs) s u
passes_limit o t i killer js fs s u n waits e f l is =
    let w : waiting (visited killer js fs s) ≡ waiting s + n = waiting_more killer js fs s ∙ ap (λ m. waiting s + m) (sym e) in
    let many : o.limit < waiting s + n = omega (arith, f, l) in
    subst (Meets o t i (newly_waiting fs (all_dead killer js s)) (visited killer js fs) s)
    (sym (is ∙ ap (λ m. closes t.worker (PairsOut m n) (is_met i (accepts t (CommitMeet i 0 0) s))) f))
    (past_limit n w many)

-- THE PARTS

pub kept_fit : (shelf : Shelves) (p q : Parts) (at : ℕ) (t : Out) (i n killer : ℕ) (js : List ℕ) (fs : List Formed) → Fit shelf p → StandsAt p.tasks.items at t → IsOf shelf q.facts.front → q.facts.front.entries ≡ p.facts.front.entries ++ deaths_by killer js → HasEnded p at q
    → state_of q ≡ visited killer js fs (is_met i (accepts t (CommitMeet i n (length js)) (state_of p))) → Fit shelf q
kept_fit shelf p q at t i n killer js fs f s of entries h e =
    accepted_fit shelf p q at t (CommitMeet i n (length js)) (deaths_by killer js) f s of entries h.next h.tasks refl (ap (λ (x : State). x.history) e) (ap (λ (x : State). x.numbers) e)

pub kept_room : (p q : Parts) (at : ℕ) (t : Out) → HasRoom p → StandsAt p.tasks.items at t → HasEnded p at q → length p.tasks.items ≤ q.pairs.spare → HasRoom q
kept_room p q at t room s h spare =
    let l : length (remove p.tasks.items at) + 1 ≡ length p.tasks.items = length-remove p.tasks.items at s.inside in
    let k : length q.tasks.items ≡ length (remove p.tasks.items at) = ap length h.tasks in
    let v : closings q.verdict ≡ closings p.verdict = ap closings h.verdict in
    let j : joins q.tasks.items ≤ length q.tasks.items = count_by-le-length (λ (r : TaskRow). is_join r.job) q.tasks.items in
    let a : vec_len q.history ≡ vec_len p.history + 1 = h.history in
    let b : vec_capacity q.history ≡ vec_capacity p.history = h.capacity in
    let e : vec_len p.history + (0 + (length p.tasks.items + closings p.verdict)) ≤ vec_capacity p.history = room.events in
    record { events = omega arith; waiting = omega arith }

pub passed_fit : (shelf : Shelves) (p q : Parts) (at : ℕ) (t : Out) (i : ℕ) (v : Verdict) → Fit shelf p → StandsAt p.tasks.items at t → q.facts.front ≡ p.facts.front → q.tasks.items ≡ remove p.tasks.items at → q.next ≡ p.next
    → state_of q ≡ closes t.worker v (is_met i (accepts t (CommitMeet i 0 0) (state_of p))) → Fit shelf q
passed_fit shelf p q at t i v f s front tasks next e =
    let one : List Event = p.history.items ++ record { worker = t.worker; what = CommitMeet i 0 0 } ∷ [] in
    let draws : draws_in q.history.items ≡ draws_in p.history.items
    = ap (λ (x : State). draws_in x.history) e ∙ draws-none one (record { worker = t.worker; what = Close (ending_of v) }) refl ∙ draws-none p.history.items (record { worker = t.worker; what = CommitMeet i 0 0 }) refl in
    fit_ended shelf p q at [] f s.inside (subst (IsOf shelf) (sym front) f.front) (ap (λ (x : Sight). x.entries) front ∙ sym (append-nil p.facts.front.entries)) next tasks draws
    (ap (λ (x : State). length x.numbers) e ∙ length-change one_commit p.numbers.items t.worker)

pub passed_room : (p q : Parts) (at : ℕ) (t : Out) (v : Verdict) → HasRoom p → StandsAt p.tasks.items at t → p.verdict ≡ None → q.tasks.items ≡ remove p.tasks.items at → q.verdict ≡ Some v → q.pairs.spare ≡ p.pairs.spare → vec_len q.history ≡ vec_len p.history + 2 → vec_capacity q.history ≡ vec_capacity p.history → HasRoom q
passed_room p q at t v room s open_ tasks verdict spare history capacity =
    let l : length (remove p.tasks.items at) + 1 ≡ length p.tasks.items = length-remove p.tasks.items at s.inside in
    let k : length q.tasks.items ≡ length (remove p.tasks.items at) = ap length tasks in
    let c : closings q.verdict ≡ 0 = ap closings verdict in
    let d : closings p.verdict ≡ 1 = ap closings open_ in
    let n : joins q.tasks.items ≡ joins (remove p.tasks.items at) = ap joins tasks in
    let j : joins (remove p.tasks.items at) + unit_if_join t.job ≡ joins p.tasks.items = joins_left p.tasks.items at t s in
    let w : joins p.tasks.items ≤ p.pairs.spare = room.waiting in
    let e : vec_len p.history + (0 + (length p.tasks.items + closings p.verdict)) ≤ vec_capacity p.history = room.events in
    record { events = omega arith; waiting = omega arith }

-- THE COMMIT

-- what the end of a visit at a place says
abbrev pub EndsAs : ℕ → ℕ → ℕ → List ℕ → List Formed → List TaskRow → ℕ → State → State → Type 0
EndsAs limit i killer js fs tasks at s u = (o : Opening) (t : Out) → o.limit ≡ limit → StandsAt tasks at t → Meets o t i (newly_waiting fs (all_dead killer js s)) (visited killer js fs) s u

-- the result of the task at a place is committed
abbrev pub CommitsAt : Opening → List TaskRow → ℕ → Finding → State → State → Type 0
CommitsAt o tasks at f s u = (t : Out) → StandsAt tasks at t → Commits o t f s u

abbrev pub MeetsAt : List TaskRow → ℕ → ℕ → Type 0
MeetsAt tasks at i = (t : Out) → StandsAt tasks at t → t.job ≡ Meet i

pub stale_at : (o : Opening) (limit : ℕ) (tasks : List TaskRow) (at i killer : ℕ) (js : List ℕ) (s u : State) → o.limit ≡ limit → s.verdict ≡ None → MeetsAt tasks at i → js ≡ alive_of s.entries (i ∷ []) → EndsAs limit i killer js [] tasks at s u → CommitsAt o tasks at (Stale killer) s u
stale_at o limit tasks at i killer js s u l open_ job e h t a =
    stale o t i killer s u open_ (job t a) (subst (λ (ks : List ℕ). Meets o t i (newly_waiting [] (all_dead killer ks s)) (visited killer ks []) s u) e (h o t l a))

pub dead_at : (o : Opening) (limit : ℕ) (tasks : List TaskRow) (at i : ℕ) (ks : List ℕ) (fs : List Formed) (s u : State) → o.limit ≡ limit → s.verdict ≡ None → MeetsAt tasks at i → is_dead s.entries i ≡ true → EndsAs limit i i [] [] tasks at s u → CommitsAt o tasks at (Met ks fs) s u
dead_at o limit tasks at i ks fs s u l open_ job dead h t a = dead_met o t i ks fs s u open_ (job t a) dead (h o t l a)

pub met_at : (o : Opening) (limit : ℕ) (tasks : List TaskRow) (at i : ℕ) (ks js : List ℕ) (fs : List Formed) (s u : State) → o.limit ≡ limit → s.verdict ≡ None → MeetsAt tasks at i → is_dead s.entries i ≡ false → AreRising 0 ks → js ≡ alive_of s.entries ks → EndsAs limit i i js fs tasks at s u → CommitsAt o tasks at (Met ks fs) s u
met_at o limit tasks at i ks js fs s u l open_ job alive rising e h t a =
    met o t i ks fs s u open_ (job t a) alive rising (subst (λ (hs : List ℕ). Meets o t i (newly_waiting fs (all_dead i hs s)) (visited i hs fs) s u) e (h o t l a))
