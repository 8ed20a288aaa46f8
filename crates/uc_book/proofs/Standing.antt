-- The task at a place of the tasks out, and what its end needs and leaves.
use Rattle.std.proofs.Common.{◌≡◌, ℕ, zero, suc, ◌+◌, ◌<◌, ◌≤◌, List, [], ◌∷◌, ◌++◌, length, get_or, map, take, false, Some, None, refl, ap, sym, ◌∙◌, arith, subst}
use Rattle.std.specs.Prelude.{remove, slice_get, Vec, vec_len, vec_capacity}
use Rattle.std.specs.declared.alloc.Global.{Global}
use Rattle.std.proofs.lemmas.List.{append-nil}
use Rattle.boxcar.specs.Table.{Shelves}
use Rattle.uc_fact.specs.declared.fact.Fact.{Fact}
use Rattle.uc_shelf.specs.declared.entry.Entry.{Entry}
use Rattle.uc_shelf.specs.declared.entry.Entry.TheVariants.{Born}
use Rattle.uc_shelf.specs.Entries.{born}
use Rattle.uc_shelf.specs.Fronts.{IsOf}
use Rattle.uc_ledger.specs.declared.ledger.State.TheVariants.{Out as OutTo, Done}
use Rattle.uc_shelf.specs.Sights.{Sight}
use Rattle.uc_machine.specs.declared.event.Event.{Event}
use Rattle.uc_machine.specs.declared.event.Happening.{Happening}
use Rattle.uc_machine.specs.declared.event.Happening.TheVariants.{Close}
use Rattle.uc_machine.specs.declared.event.Verdict.{Verdict}
use Rattle.uc_machine.specs.declared.state.Stage.{Stage}
use Rattle.uc_machine.specs.declared.task.Job.{Job}
use Rattle.uc_machine.specs.declared.task.Job.TheVariants.{Goal, More, Meet, Join}
use Rattle.uc_machine.specs.Lists.{Each, change, map_option}
use Rattle.uc_machine.specs.State.{Opening, State, Target, Pair, Out, out_at, draws_in, is_draw_what}
use Rattle.uc_machine.specs.Effects.{unit_of, reclaims, accepts, turns, publishes, stages, closes, ending_of, reclaim_event, one_reclaim, one_commit}
use Rattle.uc_rows.specs.declared.tasks.TaskRow.{TaskRow}
use Rattle.uc_book.specs.declared.parts.Parts.{Parts}
use Rattle.uc_book.specs.declared.token.Done.{Done as DoneTask}
use Rattle.uc_book.specs.Answers.{IsNotOut}
use Rattle.uc_rows.specs.RowViews.{PairsView}
use Rattle.uc_rows.specs.TaskRows.{out_of, unit_if_join, HasFront, StandsAt}
use Rattle.uc_book.specs.Parts.{state_of, closings, Fit, HasRoom, IsSubjectOut, IsSteady, SameCounts}
use Rattle.uc_book.specs.Ending.{CanEnd, CanAccept, CanReturn, HasEnded}
use Rattle.uc_machine.proofs.Lists.{length-change}
use Rattle.uc_book.proofs.Histories.{draws-none, no_draw}
use Rattle.uc_rows.proofs.PutBack.{joins_left}
use Rattle.uc_book.proofs.Steady.{steady_fit, steady_room, steady_sound}
use Rattle.uc_rows.proofs.Items.{length-remove}
use Rattle.uc_book.proofs.Fitting.{joins, fit_ended}

-- the row at the place is that of the task
pub row_out : (ts : List TaskRow) (at : ℕ) (t : Out) (row : TaskRow) → StandsAt ts at t → row ≡ get_or ts at row → out_of row ≡ t
row_out ts at t row s e = ap out_of e ∙ s.is row

pub each_row : (P : TaskRow → Type 0) (ts : List TaskRow) (at : ℕ) (row : TaskRow) → at < length ts → row ≡ get_or ts at row → Each P ts → P row
each_row P [] at row l e h = absurd (omega arith)
each_row P (t ∷ ts) zero row l e h = subst P (sym e) h.0
each_row P (t ∷ ts) (suc at) row l e h = each_row P ts at row (omega arith) e h.1

pub unit_few : (j : Job) → unit_of j ≤ 1
unit_few (Goal g l r) = omega arith
unit_few (More g l r) = omega arith
unit_few (Meet i) = omega arith
unit_few (Join p o) = omega arith

-- WHAT AN END NEEDS

-- what a job is about is out as long as facts, pairs and goals stay
pub still_out : (p q : Parts) (w : ℕ) (j : Job) → q.facts.front ≡ p.facts.front → q.pairs.pairs ≡ p.pairs.pairs → q.goals ≡ p.goals → IsSubjectOut p w j → IsSubjectOut q w j
still_out p q w (Goal g l r) a b e h = subst (λ (gs : List Target). g < length gs) (sym e) h
still_out p q w (More g l r) a b e h = subst (λ (gs : List Target). g < length gs) (sym e) h
still_out p q w (Meet i) a b e h = subst (λ (f : Sight). i < length (born f.entries)) (sym a) h
still_out p q w (Join n o) a b e h = subst (λ (ps : List Pair). map_option (λ (x : Pair). x.condition) (slice_get ps n) ≡ Some (OutTo w)) (sym b) h

some_room : (p : Parts) (at : ℕ) (t : Out) → HasRoom p → StandsAt p.tasks.items at t → vec_len p.history + closings p.verdict < vec_capacity p.history
some_room p at t r s =
    let e : vec_len p.history + (0 + (length p.tasks.items + closings p.verdict)) ≤ vec_capacity p.history = r.events in
    let l : at < length p.tasks.items = s.inside in
    omega arith

-- an end and a close
pub room_for_two : (p : Parts) (at : ℕ) (t : Out) → HasRoom p → StandsAt p.tasks.items at t → p.verdict ≡ None → vec_len p.history + 1 < vec_capacity p.history
room_for_two p at t r s v =
    let c : closings p.verdict ≡ 1 = ap closings v in
    let e : vec_len p.history + closings p.verdict < vec_capacity p.history = some_room p at t r s in
    omega arith

pub can_return : (shelf : Shelves) (o : Opening) (p : Parts) (at : ℕ) (t : Out) → CanEnd shelf o p → StandsAt p.tasks.items at t → CanReturn p t
can_return shelf o p at t c s =
    let j : joins (remove p.tasks.items at) + unit_if_join t.job ≡ joins p.tasks.items = joins_left p.tasks.items at t s in
    let w : joins p.tasks.items ≤ p.pairs.spare = c.room.waiting in
    let r : vec_len p.history + closings p.verdict < vec_capacity p.history = some_room p at t c.room s in
    record {
      subject = c.subjects t s.found;
      spare = omega arith;
      units = c.units t s.found;
      small = c.sound.small;
      room = omega arith;
    }

pub can_accept : (shelf : Shelves) (o : Opening) (p : Parts) (at : ℕ) (t : Out) → CanEnd shelf o p → StandsAt p.tasks.items at t → CanAccept p t
can_accept shelf o p at t c s =
    let w : p.counted + p.reserved ≤ o.budget = c.sound.within in
    let b : o.budget ≤ 10000000 = c.sound.budget in
    let r : vec_len p.history + closings p.verdict < vec_capacity p.history = some_room p at t c.room s in
    record {
      units = c.units t s.found;
      counted = omega arith;
      small = c.sound.small;
      room = omega arith;
    }

-- WHAT AN END LEAVES

reclaimed_history : (t : Out) (s : State) → (reclaims t s).history ≡ s.history ++ record { worker = t.worker; what = reclaim_event t.job } ∷ []
reclaimed_history t s = by_job t.job t.ticket t.worker t.front s
  where
    by_job : (j : Job) (n w f : ℕ) (s : State) → (let t : Out = record { ticket = n; worker = w; job = j; front = f } in (reclaims t s).history ≡ s.history ++ record { worker = w; what = reclaim_event j } ∷ [])
    by_job (Goal g l r) n w f s = refl
    by_job (More g l r) n w f s = refl
    by_job (Meet i) n w f s = refl
    by_job (Join p o) n w f s = refl

reclaimed_numbers : (t : Out) (s : State) → (reclaims t s).numbers ≡ change one_reclaim s.numbers t.worker
reclaimed_numbers t s = by_job t.job t.ticket t.worker t.front s
  where
    by_job : (j : Job) (n w f : ℕ) (s : State) → (let t : Out = record { ticket = n; worker = w; job = j; front = f } in (reclaims t s).numbers ≡ change one_reclaim s.numbers w)
    by_job (Goal g l r) n w f s = refl
    by_job (More g l r) n w f s = refl
    by_job (Meet i) n w f s = refl
    by_job (Join p o) n w f s = refl

pub returned_fit : (shelf : Shelves) (p q : Parts) (at : ℕ) (t : Out) → Fit shelf p → StandsAt p.tasks.items at t → state_of q ≡ reclaims t (state_of p) → HasEnded p at q → q.facts.front ≡ p.facts.front → Fit shelf q
returned_fit shelf p q at t f s e h front =
    let draws : draws_in q.history.items ≡ draws_in p.history.items
    = ap (λ (x : State). draws_in x.history) e ∙ ap draws_in (reclaimed_history t (state_of p)) ∙ draws-none p.history.items (record { worker = t.worker; what = reclaim_event t.job }) (no_draw t.job) in
    let numbers : length q.numbers.items ≡ length p.numbers.items
    = ap (λ (x : State). length x.numbers) e ∙ ap length (reclaimed_numbers t (state_of p)) ∙ length-change one_reclaim p.numbers.items t.worker in
    fit_ended shelf p q at [] f s.inside (subst (IsOf shelf) (sym front) f.front) (ap (λ (x : Sight). x.entries) front ∙ sym (append-nil p.facts.front.entries)) h.next h.tasks draws numbers

-- a task that ended by a commit, and what the commit did besides: it left these entries behind the old ones, and recorded no draw
pub accepted_fit : (shelf : Shelves) (p q : Parts) (at : ℕ) (t : Out) (what : Happening) (more : List Entry) → Fit shelf p → StandsAt p.tasks.items at t → IsOf shelf q.facts.front → q.facts.front.entries ≡ p.facts.front.entries ++ more → q.next ≡ p.next → q.tasks.items ≡ remove p.tasks.items at
    → is_draw_what what ≡ false → q.history.items ≡ p.history.items ++ record { worker = t.worker; what = what } ∷ [] → q.numbers.items ≡ change one_commit p.numbers.items t.worker → Fit shelf q
accepted_fit shelf p q at t what more f s of entries next tasks quiet history numbers =
    fit_ended shelf p q at more f s.inside of entries next tasks
    (ap draws_in history ∙ draws-none p.history.items (record { worker = t.worker; what = what }) quiet) (ap length numbers ∙ length-change one_commit p.numbers.items t.worker)

-- the pair of a Join is Done
pub joined_fit : (shelf : Shelves) (p q : Parts) (at : ℕ) (t : Out) (what : Happening) (n : ℕ) → Fit shelf p → StandsAt p.tasks.items at t → state_of q ≡ turns Done n (accepts t what (state_of p)) → is_draw_what what ≡ false → q.next ≡ p.next → q.tasks.items ≡ remove p.tasks.items at → q.facts.front ≡ p.facts.front → Fit shelf q
joined_fit shelf p q at t what n f s e quiet next tasks front =
    accepted_fit shelf p q at t what [] f s (subst (IsOf shelf) (sym front) f.front) (ap (λ (x : Sight). x.entries) front ∙ sym (append-nil p.facts.front.entries)) next tasks quiet
    (ap (λ (x : State). x.history) e) (ap (λ (x : State). x.numbers) e)

-- and a fact is published
pub kept_fit : (shelf : Shelves) (p q : Parts) (at : ℕ) (t : Out) (what : Happening) (n : ℕ) (a : Fact) → Fit shelf p → StandsAt p.tasks.items at t → state_of q ≡ publishes a (turns Done n (accepts t what (state_of p))) → is_draw_what what ≡ false → q.next ≡ p.next → q.tasks.items ≡ remove p.tasks.items at → IsOf shelf q.facts.front → Fit shelf q
kept_fit shelf p q at t what n a f s e quiet next tasks of =
    accepted_fit shelf p q at t what (Born a ∷ []) f s of (ap (λ (x : State). x.entries) e) next tasks quiet (ap (λ (x : State). x.history) e) (ap (λ (x : State). x.numbers) e)

-- the task ended, and nothing else happened
pub late_fit : (shelf : Shelves) (p q : Parts) (at : ℕ) (t : Out) (what : Happening) → Fit shelf p → StandsAt p.tasks.items at t → state_of q ≡ accepts t what (state_of p) → is_draw_what what ≡ false → q.next ≡ p.next → q.tasks.items ≡ remove p.tasks.items at → q.facts.front ≡ p.facts.front → Fit shelf q
late_fit shelf p q at t what f s e quiet next tasks front =
    accepted_fit shelf p q at t what [] f s (subst (IsOf shelf) (sym front) f.front) (ap (λ (x : Sight). x.entries) front ∙ sym (append-nil p.facts.front.entries)) next tasks quiet
    (ap (λ (x : State). x.history) e) (ap (λ (x : State). x.numbers) e)

-- a goal got its state
pub rested_fit : (shelf : Shelves) (p q : Parts) (v : State) (at : ℕ) (t : Out) (what : Happening) (c : Stage) (g : ℕ) → Fit shelf p → StandsAt p.tasks.items at t → v.history ≡ p.history.items → v.numbers ≡ p.numbers.items → state_of q ≡ stages c g (accepts t what v) → is_draw_what what ≡ false → q.next ≡ p.next → q.tasks.items ≡ remove p.tasks.items at → q.facts.front ≡ p.facts.front → Fit shelf q
rested_fit shelf p q v at t what c g f s history numbers e quiet next tasks front =
    accepted_fit shelf p q at t what [] f s (subst (IsOf shelf) (sym front) f.front) (ap (λ (x : Sight). x.entries) front ∙ sym (append-nil p.facts.front.entries)) next tasks quiet
    (ap (λ (x : State). x.history) e ∙ ap (λ h. h ++ record { worker = t.worker; what = what } ∷ []) history) (ap (λ (x : State). x.numbers) e ∙ ap (λ ns. change one_commit ns t.worker) numbers)

-- a goal is proved
pub proved_fit : (shelf : Shelves) (p q : Parts) (v : State) (at : ℕ) (t : Out) (what : Happening) (verdict : Verdict) → Fit shelf p → StandsAt p.tasks.items at t → v.history ≡ p.history.items → v.numbers ≡ p.numbers.items → state_of q ≡ closes t.worker verdict (accepts t what v) → is_draw_what what ≡ false → q.next ≡ p.next → q.tasks.items ≡ remove p.tasks.items at → q.facts.front ≡ p.facts.front → Fit shelf q
proved_fit shelf p q v at t what verdict f s history numbers e quiet next tasks front =
    let one : draws_in (v.history ++ record { worker = t.worker; what = what } ∷ []) ≡ draws_in v.history = draws-none v.history (record { worker = t.worker; what = what }) quiet in
    let two : draws_in ((v.history ++ record { worker = t.worker; what = what } ∷ []) ++ record { worker = t.worker; what = Close (ending_of verdict) } ∷ []) ≡ draws_in (v.history ++ record { worker = t.worker; what = what } ∷ [])
    = draws-none (v.history ++ record { worker = t.worker; what = what } ∷ []) (record { worker = t.worker; what = Close (ending_of verdict) }) refl in
    fit_ended shelf p q at [] f s.inside (subst (IsOf shelf) (sym front) f.front) (ap (λ (x : Sight). x.entries) front ∙ sym (append-nil p.facts.front.entries)) next tasks
    (ap (λ (x : State). draws_in x.history) e ∙ two ∙ one ∙ ap draws_in history) (ap (λ (x : State). length x.numbers) e ∙ length-change one_commit v.numbers t.worker ∙ ap length numbers)

-- there is room after a task ended, and maybe the book was closed
pub room_after : (p q : Parts) (at : ℕ) (t : Out) → HasRoom p → StandsAt p.tasks.items at t → q.tasks.items ≡ remove p.tasks.items at → vec_len q.history + closings q.verdict ≡ vec_len p.history + (1 + closings p.verdict) → vec_capacity p.history ≤ vec_capacity q.history
    → p.pairs.spare ≤ q.pairs.spare + unit_if_join t.job → HasRoom q
room_after p q at t room stands tasks history capacity spare =
    let l : length (remove p.tasks.items at) + 1 ≡ length p.tasks.items = length-remove p.tasks.items at stands.inside in
    let k : length q.tasks.items ≡ length (remove p.tasks.items at) = ap length tasks in
    let n : joins q.tasks.items ≡ joins (remove p.tasks.items at) = ap joins tasks in
    let j : joins (remove p.tasks.items at) + unit_if_join t.job ≡ joins p.tasks.items = joins_left p.tasks.items at t stands in
    let w : joins p.tasks.items ≤ p.pairs.spare = room.waiting in
    let e : vec_len p.history + (0 + (length p.tasks.items + closings p.verdict)) ≤ vec_capacity p.history = room.events in
    record { events = omega arith; waiting = omega arith }

-- no task of the ticket is out
pub not_there : (s : State) (w : ℕ) (d : DoneTask) → out_at d.ticket s.out ≡ None → IsNotOut s w d
not_there s w d e = λ t h. (let f : None ≡ Some t = sym e ∙ h.at in absurd (cc))

-- the task of the ticket isn't that of the result
pub not_same : (s : State) (w : ℕ) (d : DoneTask) (t : Out) → out_at d.ticket s.out ≡ Some t → ((t.worker ≡ w) → (t.job ≡ d.job) → (take t.front s.entries ≡ d.front.entries) → ⊥) → IsNotOut s w d
not_same s w d t e differ = λ u h. (let f : Some t ≡ Some u = sym e ∙ h.at in let is : t ≡ u = cc in differ (ap (λ (x : Out). x.worker) is ∙ h.worker) (ap (λ (x : Out). x.job) is ∙ h.job_is) (ap (λ (x : Out). take x.front s.entries) is ∙ h.front_is))

-- ends stay possible as long as the state does
pub steady_end : (shelf : Shelves) (o : Opening) (p q : Parts) → IsSteady p q → CanEnd shelf o p → CanEnd shelf o q
steady_end shelf o p q s c = record {
  sound = steady_sound o p q s c.sound;
  fit = steady_fit shelf p q s c.fit;
  room = steady_room p q s c.room;
  subjects = λ t is. still_out p q t.worker t.job s.front (ap (λ (x : State). x.pairs) s.state) (ap (λ (x : State). x.goals) s.state) (c.subjects t (subst (λ ts. out_at t.ticket (map out_of ts) ≡ Some t) s.tasks is));
  units = λ t is. subst (λ n. unit_of t.job ≤ n) (sym (ap (λ (x : State). x.reserved) s.state)) (c.units t (subst (λ ts. out_at t.ticket (map out_of ts) ≡ Some t) s.tasks is));
}

pub steady_stands : (p q : Parts) (at : ℕ) (t : Out) → IsSteady p q → StandsAt p.tasks.items at t → StandsAt q.tasks.items at t
steady_stands p q at t s h = subst (λ ts. StandsAt ts at t) (sym s.tasks) h

pub stands_before : (p q : Parts) (at : ℕ) (t : Out) → IsSteady p q → StandsAt q.tasks.items at t → StandsAt p.tasks.items at t
stands_before p q at t s h = subst (λ ts. StandsAt ts at t) s.tasks h

-- there is room when a fact was published behind the end of a task
pub room_kept : (p q r : Parts) (at : ℕ) (t : Out) → HasRoom p → StandsAt p.tasks.items at t → HasEnded p at q → q.pairs.spare ≡ p.pairs.spare → SameCounts q r → HasRoom r
room_kept p q r at t room stands ended spare same =
    let tasks : r.tasks.items ≡ remove p.tasks.items at = ap (λ (ts : Vec TaskRow Global). ts.items) same.tasks ∙ ended.tasks in
    let l : vec_len r.history ≡ vec_len q.history = ap (λ (es : Vec Event Global). vec_len es) same.history in
    let k : vec_capacity r.history ≡ vec_capacity q.history = ap (λ (es : Vec Event Global). vec_capacity es) same.history in
    let v : closings r.verdict ≡ closings p.verdict = ap closings (same.verdict ∙ ended.verdict) in
    let e : vec_len q.history ≡ vec_len p.history + 1 = ended.history in
    let d : vec_capacity q.history ≡ vec_capacity p.history = ended.capacity in
    let w : r.pairs.spare ≡ q.pairs.spare = ap (λ (x : PairsView). x.spare) same.pairs in
    room_after p r at t room stands tasks (omega arith) (omega arith) (omega arith)

-- the book was closed
pub closed_fit : (shelf : Shelves) (p q : Parts) (w : ℕ) (v : Verdict) → Fit shelf p → state_of q ≡ closes w v (state_of p) → q.facts.front ≡ p.facts.front → q.next ≡ p.next → q.tasks.items ≡ p.tasks.items → Fit shelf q
closed_fit shelf p q w v f e front next tasks =
    let l : length q.tasks.items ≡ length p.tasks.items = ap length tasks in
    record {
      front = subst (IsOf shelf) (sym front) f.front;
      next = next ∙ f.next ∙ sym (ap (λ (x : State). length (draws_in x.history)) e ∙ ap length (draws-none p.history.items (record { worker = w; what = Close (ending_of v) }) refl));
      fronts = subst (λ (x : Sight). Each (HasFront shelf x.entries) q.tasks.items) (sym front) (subst (Each (HasFront shelf p.facts.front.entries)) (sym tasks) f.fronts);
      few = omega (arith, f.few);
      workers = ap (λ (x : State). length x.numbers) e ∙ f.workers;
    }

pub closed_room : (p q : Parts) (w : ℕ) (v : Verdict) → HasRoom p → p.verdict ≡ None → state_of q ≡ closes w v (state_of p) → q.tasks.items ≡ p.tasks.items → vec_len q.history ≡ vec_len p.history + 1 → vec_capacity q.history ≡ vec_capacity p.history → q.pairs.spare ≡ p.pairs.spare → HasRoom q
closed_room p q w v r open_ e tasks history capacity spare =
    let l : length q.tasks.items ≡ length p.tasks.items = ap length tasks in
    let j : joins q.tasks.items ≡ joins p.tasks.items = ap joins tasks in
    let a : closings q.verdict ≡ 0 = ap (λ (x : State). closings x.verdict) e in
    let b : closings p.verdict ≡ 1 = ap closings open_ in
    let i : joins p.tasks.items ≤ p.pairs.spare = r.waiting in
    let k : vec_len p.history + (0 + (length p.tasks.items + closings p.verdict)) ≤ vec_capacity p.history = r.events in
    record { events = omega arith; waiting = omega arith }
