-- The parts still fit together, and have room, when tasks come and go and entries are added.
use Rattle.std.proofs.Common.{◌≡◌, ℕ, ◌+◌, ◌<◌, ◌≤◌, ◌^◌, List, [], ◌∷◌, ◌++◌, length, cond, refl, ap, sym, ◌∙◌, arith, subst}
use Rattle.std.specs.Prelude.{remove, count_by, vec_len, vec_capacity}
use Rattle.std.proofs.lemmas.List.{take_all, take-append-le, length-append, length_push}
use Rattle.std.proofs.lemmas.List.Sums.{sum_by_push}
use Rattle.boxcar.specs.Table.{Shelves}
use Rattle.uc_shelf.specs.Fronts.{IsOf}
use Rattle.uc_shelf.specs.Sights.{Sight}
use Rattle.uc_shelf.specs.declared.entry.Entry.{Entry}
use Rattle.uc_rows.specs.declared.tasks.TaskRow.{TaskRow}
use Rattle.uc_machine.specs.declared.task.Job.{Job}
use Rattle.uc_machine.specs.declared.task.Job.TheVariants.{Goal, More, Meet, Join}
use Rattle.uc_machine.specs.Lists.{Each, change}
use Rattle.uc_machine.specs.State.{Out}
use Rattle.uc_rows.specs.TaskRows.{is_join, unit_if_join, HasFront, StandsAt}
use Rattle.uc_book.specs.declared.parts.Parts.{Parts}
use Rattle.uc_machine.specs.State.{State, draws_in}
use Rattle.uc_machine.specs.Effects.{hands_out, draw_event, one_drawn}
use Rattle.uc_book.specs.Parts.{state_of, closings, Fit, HasRoom, RoomFor}
use Rattle.uc_book.specs.Ending.{HasEnded}
use Rattle.uc_rows.proofs.PutBack.{joins_left}
use Rattle.uc_machine.proofs.Lists.{Each-map, Each-push, length-change}
use Rattle.uc_book.proofs.Histories.{draws-one}
use Rattle.uc_rows.proofs.Items.{Each-remove, length-remove}

abbrev pub joins : List TaskRow → ℕ
joins ts = count_by (λ (t : TaskRow). is_join t.job) ts

-- the front of all entries is a prefix of them
pub whole_front : (shelf : Shelves) (front : Sight) (t : TaskRow) → IsOf shelf front → t.front ≡ front → HasFront shelf front.entries t
whole_front shelf front t of e = record {
  of = rw e of;
  within = rw e (omega arith);
  is = rw e (sym (take_all (length front.entries) front.entries (omega arith)));
}

-- more entries don't change it
pub longer_front : (shelf : Shelves) (es more : List Entry) (t : TaskRow) → HasFront shelf es t → HasFront shelf (es ++ more) t
longer_front shelf es more t h = let w : length t.front.entries ≤ length es = h.within in record {
  of = h.of;
  within = omega (arith, length-append es more);
  is = h.is ∙ sym (take-append-le (length t.front.entries) es more w);
}

pub longer_fronts : (shelf : Shelves) (es more : List Entry) (ts : List TaskRow) → Each (HasFront shelf es) ts → Each (HasFront shelf (es ++ more)) ts
longer_fronts shelf es more ts e = Each-map (longer_front shelf es more) ts e

-- what a draw leaves of the history and of the workers' numbers
handed_history : (w : ℕ) (j : Job) (s : State) → (hands_out w j s).history ≡ s.history ++ record { worker = w; what = draw_event j (length s.entries) } ∷ []
handed_history w (Goal g l r) s = refl
handed_history w (More g l r) s = refl
handed_history w (Meet i) s = refl
handed_history w (Join p o) s = refl

handed_numbers : (w : ℕ) (j : Job) (s : State) → (hands_out w j s).numbers ≡ change one_drawn s.numbers w
handed_numbers w (Goal g l r) s = refl
handed_numbers w (More g l r) s = refl
handed_numbers w (Meet i) s = refl
handed_numbers w (Join p o) s = refl

pub fit_given : (shelf : Shelves) (p q : Parts) (row : TaskRow) → Fit shelf p → state_of q ≡ hands_out row.worker row.job (state_of p) → q.facts.front ≡ p.facts.front → q.next ≡ p.next + 1 → q.tasks.items ≡ p.tasks.items ++ row ∷ [] → row.front ≡ p.facts.front → length p.tasks.items + 1 < 2 ^ 32 → Fit shelf q
fit_given shelf p q row f e front next tasks own few =
    let h : q.history.items ≡ p.history.items ++ record { worker = row.worker; what = draw_event row.job (length p.facts.front.entries) } ∷ [] = ap (λ (s : State). s.history) e ∙ handed_history row.worker row.job (state_of p) in
    let ns : q.numbers.items ≡ change one_drawn p.numbers.items row.worker = ap (λ (s : State). s.numbers) e ∙ handed_numbers row.worker row.job (state_of p) in
    record {
      front = subst (IsOf shelf) (sym front) f.front;
      next = next ∙ ap (λ n. n + 1) f.next ∙ sym (ap (λ h. length (draws_in h)) h ∙ draws-one p.history.items row.worker row.job (length p.facts.front.entries));
      fronts = subst (λ (s : Sight). Each (HasFront shelf s.entries) q.tasks.items) (sym front) (subst (Each (HasFront shelf p.facts.front.entries)) (sym tasks) (Each-push (HasFront shelf p.facts.front.entries) p.tasks.items row f.fronts (whole_front shelf p.facts.front row f.front own)));
      few = (let l : length q.tasks.items ≡ length p.tasks.items + 1 = ap length tasks ∙ length_push p.tasks.items row in omega arith);
      workers = ap length ns ∙ length-change one_drawn p.numbers.items row.worker ∙ f.workers;
    }

-- a task less, and more entries or none
pub fit_ended : (shelf : Shelves) (p q : Parts) (at : ℕ) (more : List Entry) → Fit shelf p → at < length p.tasks.items → IsOf shelf q.facts.front → q.facts.front.entries ≡ p.facts.front.entries ++ more → q.next ≡ p.next → q.tasks.items ≡ remove p.tasks.items at
    → draws_in q.history.items ≡ draws_in p.history.items → length q.numbers.items ≡ length p.numbers.items → Fit shelf q
fit_ended shelf p q at more f inside of entries next tasks draws numbers = record {
  front = of;
  next = next ∙ f.next ∙ sym (ap length draws);
  fronts = subst (λ es. Each (HasFront shelf es) q.tasks.items) (sym entries) (subst (Each (HasFront shelf (p.facts.front.entries ++ more))) (sym tasks) (Each-remove (HasFront shelf (p.facts.front.entries ++ more)) p.tasks.items at (longer_fronts shelf p.facts.front.entries more p.tasks.items f.fronts)));
  few = (let l : length p.tasks.items < 2 ^ 32 = f.few in let k : length (remove p.tasks.items at) + 1 ≡ length p.tasks.items = length-remove p.tasks.items at inside in let e : length q.tasks.items ≡ length (remove p.tasks.items at) = ap length tasks in omega arith);
  workers = numbers ∙ f.workers;
}

-- there is room after a task was given, where there was room for it
pub room_given : (p q : Parts) (row : TaskRow) → HasRoom p → RoomFor 2 p → q.tasks.items ≡ p.tasks.items ++ row ∷ [] → q.verdict ≡ p.verdict → vec_len q.history ≡ vec_len p.history + 1 → vec_capacity q.history ≡ vec_capacity p.history
    → p.pairs.spare + unit_if_join row.job ≤ q.pairs.spare → HasRoom q
room_given p q row room two tasks verdict history capacity spare =
    let l : length q.tasks.items ≡ length p.tasks.items + 1 = ap length tasks ∙ length_push p.tasks.items row in
    let v : closings q.verdict ≡ closings p.verdict = ap closings verdict in
    let n : joins q.tasks.items ≡ joins p.tasks.items + unit_if_join row.job = ap joins tasks ∙ sum_by_push (λ (t : TaskRow). cond (is_join t.job) 1 0) p.tasks.items row in
    let w : joins p.tasks.items ≤ p.pairs.spare = room.waiting in
    record { events = omega arith; waiting = omega arith }

-- there is room after a task ended
pub room_ended : (p q : Parts) (at : ℕ) (t : Out) → HasRoom p → StandsAt p.tasks.items at t → HasEnded p at q → p.pairs.spare ≤ q.pairs.spare + unit_if_join t.job → HasRoom q
room_ended p q at t room stands ended spare =
    let l : length (remove p.tasks.items at) + 1 ≡ length p.tasks.items = length-remove p.tasks.items at stands.inside in
    let k : length q.tasks.items ≡ length (remove p.tasks.items at) = ap length ended.tasks in
    let v : closings q.verdict ≡ closings p.verdict = ap closings ended.verdict in
    let n : joins q.tasks.items ≡ joins (remove p.tasks.items at) = ap joins ended.tasks in
    let j : joins (remove p.tasks.items at) + unit_if_join t.job ≡ joins p.tasks.items = joins_left p.tasks.items at t stands in
    let w : joins p.tasks.items ≤ p.pairs.spare = room.waiting in
    let e = room.events in
    record { events = omega arith; waiting = omega arith }
