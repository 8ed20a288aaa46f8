-- Parts that stay as they were but for their room.
use Rattle.std.proofs.Common.{◌≡◌, ◌+◌, ◌<◌, ◌≤◌, ◌^◌, List, length, refl, ap, sym, ◌∙◌, arith, subst}
use Rattle.std.specs.Prelude.{⊤, Option, Some, None, Result, Ok, Err, OnErr, MatchOption, Vec, vec_len, vec_capacity}
use Rattle.std.specs.declared.alloc.Global.{Global}
use Rattle.boxcar.specs.Table.{Shelves}
use Rattle.uc_shelf.specs.Fronts.{IsOf}
use Rattle.uc_shelf.specs.Sights.{Sight}
use Rattle.uc_machine.specs.declared.event.Event.{Event}
use Rattle.uc_machine.specs.declared.state.Numbers.{Numbers}
use Rattle.uc_machine.specs.declared.event.Verdict.{Verdict}
use Rattle.uc_machine.specs.Lists.{Each}
use Rattle.uc_machine.specs.State.{Opening, State, Target}
use Rattle.uc_machine.specs.Effects.{next_ticket}
use Rattle.uc_book.specs.declared.parts.Parts.{Parts}
use Rattle.uc_rows.specs.declared.tasks.TaskRow.{TaskRow}
use Rattle.uc_rows.specs.RowViews.{FactsView, PairsView}
use Rattle.uc_rows.specs.Bounds.{AreSmall}
use Rattle.uc_rows.specs.TaskRows.{HasFront}
use Rattle.uc_book.specs.Parts.{state_of, closings, Fit, HasRoom, IsSteady}
use Rattle.uc_book.specs.Drawing.{IsSound, HasRoomToGive, CanGive}
use Rattle.uc_book.specs.Dropping.{SameOthers}
use Rattle.uc_book.proofs.Fitting.{joins}

-- what holds where a call gives up holds of any result
pub on_err : {T E : Type 0} {P : Type 0} (r : Result T E) → P → OnErr r P
on_err (Ok x) h = tt
on_err (Err e) h = h

pub on_none : {A : Type 0} {P : Type 0} (o : Option A) → P → MatchOption o P (λ _. ⊤)
on_none None h = h
on_none (Some x) h = tt

pub closings_few : (v : Option Verdict) → closings v ≤ 1
closings_few None = omega arith
closings_few (Some v) = omega arith

-- the events are as many as the history's vector says
events_of : (p : Parts) → vec_len p.history ≡ length p.history.items
events_of p = p.history.ok.0

pub steady_len : (p q : Parts) → IsSteady p q → vec_len q.history ≡ vec_len p.history
steady_len p q s = events_of q ∙ ap (λ (x : State). length x.history) s.state ∙ sym (events_of p)

pub steady_fit : (shelf : Shelves) (p q : Parts) → IsSteady p q → Fit shelf p → Fit shelf q
steady_fit shelf p q s f = record {
  front = subst (IsOf shelf) (sym s.front) f.front;
  next = s.next ∙ f.next ∙ sym (ap next_ticket s.state);
  fronts = subst (Each (HasFront shelf q.facts.front.entries)) (sym s.tasks) (subst (λ (x : Sight). Each (HasFront shelf x.entries) p.tasks.items) (sym s.front) f.fronts);
  few = subst (λ (ts : List TaskRow). length ts < 2 ^ 32) (sym s.tasks) f.few;
  workers = ap (λ (x : State). length x.numbers) s.state ∙ f.workers;
}

pub steady_room : (p q : Parts) → IsSteady p q → HasRoom p → HasRoom q
steady_room p q s r =
    let l : length q.tasks.items ≡ length p.tasks.items = ap length s.tasks in
    let v : closings q.verdict ≡ closings p.verdict = ap (λ (x : State). closings x.verdict) s.state in
    let n : joins q.tasks.items ≡ joins p.tasks.items = ap joins s.tasks in
    let h : vec_len q.history ≡ vec_len p.history = steady_len p q s in
    let c : vec_capacity p.history ≤ vec_capacity q.history = s.capacity in
    let w : p.pairs.spare ≤ q.pairs.spare = s.spare in
    let e : vec_len p.history + (0 + (length p.tasks.items + closings p.verdict)) ≤ vec_capacity p.history = r.events in
    let j : joins p.tasks.items ≤ p.pairs.spare = r.waiting in
    record { events = omega arith; waiting = omega arith }

pub steady_sound : (o : Opening) (p q : Parts) → IsSteady p q → IsSound o p → IsSound o q
steady_sound o p q s k =
    let c : q.counted ≡ p.counted = ap (λ (x : State). x.counted) s.state in
    let r : q.reserved ≡ p.reserved = ap (λ (x : State). x.reserved) s.state in
    let n : q.next ≡ p.next = s.next in
    let w : p.counted + p.reserved ≤ o.budget = k.within in
    let l : p.next < 2 ^ 63 = k.next in
    record {
      small = subst AreSmall (sym (ap (λ (x : State). x.numbers) s.state)) k.small;
      within = omega arith;
      budget = k.budget;
      next = omega arith;
    }

-- room to give a task stays as long as tasks and history do
pub give_on : (p q : Parts) → q.tasks ≡ p.tasks → q.history ≡ p.history → HasRoomToGive p → HasRoomToGive q
give_on p q tasks history h =
    let l : length q.tasks.items ≡ length p.tasks.items = ap (λ (ts : Vec TaskRow Global). length ts.items) tasks in
    let t : vec_len q.tasks ≡ vec_len p.tasks = ap (λ (ts : Vec TaskRow Global). vec_len ts) tasks in
    let d : vec_capacity q.tasks ≡ vec_capacity p.tasks = ap (λ (ts : Vec TaskRow Global). vec_capacity ts) tasks in
    let e : vec_len q.history ≡ vec_len p.history = ap (λ (es : Vec Event Global). vec_len es) history in
    let k : vec_capacity q.history ≡ vec_capacity p.history = ap (λ (es : Vec Event Global). vec_capacity es) history in
    let few : length p.tasks.items + 2 < 2 ^ 32 = h.few in
    let room : vec_len p.tasks < vec_capacity p.tasks = h.tasks in
    let events : vec_len p.history + (length p.tasks.items + 3) ≤ vec_capacity p.history = h.events in
    record { few = omega arith; tasks = omega arith; events = omega arith }

-- a task may be given where there is such room
pub steady_give : (shelf : Shelves) (o : Opening) (p q : Parts) → IsSteady p q → IsSound o p → Fit shelf p → HasRoom p → HasRoomToGive q → CanGive shelf o q
steady_give shelf o p q s k f r h =
    let v : closings q.verdict ≤ 1 = closings_few q.verdict in
    let events : vec_len q.history + (length q.tasks.items + 3) ≤ vec_capacity q.history = h.events in
    record {
      sound = steady_sound o p q s k;
      fit = steady_fit shelf p q s f;
      room = steady_room p q s r;
      few = omega (arith, h.few);
      room_tasks = h.tasks;
      room_events = omega arith;
    }

pub steady_by : (p q : Parts) → q.facts.front ≡ p.facts.front → q.facts.meetings ≡ p.facts.meetings → q.pairs ≡ p.pairs → q.goals ≡ p.goals → q.tasks.items ≡ p.tasks.items → q.next ≡ p.next → q.counted ≡ p.counted → q.reserved ≡ p.reserved → q.verdict ≡ p.verdict → q.numbers ≡ p.numbers
    → q.history.items ≡ p.history.items → vec_capacity p.history ≤ vec_capacity q.history → IsSteady p q
steady_by p q front meetings pairs goals tasks next counted reserved verdict numbers history capacity = record {
  state = same p q front meetings pairs goals tasks next counted reserved verdict numbers history;
  front = front;
  tasks = tasks;
  next = next;
  capacity = capacity;
  spare = (let e : q.pairs.spare ≡ p.pairs.spare = ap (λ (v : PairsView). v.spare) pairs in omega arith);
}
  where
    same : (p q : Parts) → q.facts.front ≡ p.facts.front → q.facts.meetings ≡ p.facts.meetings → q.pairs ≡ p.pairs → q.goals ≡ p.goals → q.tasks.items ≡ p.tasks.items → q.next ≡ p.next → q.counted ≡ p.counted → q.reserved ≡ p.reserved → q.verdict ≡ p.verdict → q.numbers ≡ p.numbers
        → q.history.items ≡ p.history.items → state_of q ≡ state_of p
    same p q a b e f g h i j k l m = cc

-- the goals are read, and the facts, and stay
pub steady_on : (p q r : Parts) → IsSteady p q → r.facts.front ≡ q.facts.front → r.facts.meetings ≡ q.facts.meetings → r.pairs ≡ q.pairs → r.goals ≡ q.goals → r.tasks ≡ q.tasks → r.next ≡ q.next → r.counted ≡ q.counted → r.reserved ≡ q.reserved → r.verdict ≡ q.verdict → r.numbers ≡ q.numbers → r.history ≡ q.history → IsSteady p r
steady_on p q r s front meetings pairs goals tasks next counted reserved verdict numbers history =
    let items : r.tasks.items ≡ q.tasks.items = ap (λ (ts : Vec TaskRow Global). ts.items) tasks in
    let events : r.history.items ≡ q.history.items = ap (λ (es : Vec Event Global). es.items) history in
    let k : vec_capacity r.history ≡ vec_capacity q.history = ap (λ (es : Vec Event Global). vec_capacity es) history in
    let low : vec_capacity q.history ≤ vec_capacity r.history = omega arith in
    let t : IsSteady q r = steady_by q r front meetings pairs goals items next counted reserved verdict numbers events low in
    let c : vec_capacity p.history ≤ vec_capacity q.history = s.capacity in
    let d : p.pairs.spare ≤ q.pairs.spare = s.spare in
    let e : q.pairs.spare ≤ r.pairs.spare = t.spare in
    record {
      state = t.state ∙ s.state;
      front = t.front ∙ s.front;
      tasks = t.tasks ∙ s.tasks;
      next = t.next ∙ s.next;
      capacity = omega arith;
      spare = omega arith;
    }

-- the facts have more room
pub with_facts : (p : Parts) (fs : FactsView) → fs.front ≡ p.facts.front → fs.meetings ≡ p.facts.meetings → (let q : Parts = record p { facts = fs } in IsSteady p q)
with_facts p fs front meetings = steady_by p (record p { facts = fs }) front meetings refl refl refl refl refl refl refl refl refl (omega arith)

pub steady_self : (p : Parts) (fs : FactsView) → fs ≡ p.facts → (let q : Parts = record p { facts = fs } in IsSteady p q)
steady_self p fs e = with_facts p fs (ap (λ (x : FactsView). x.front) e) (ap (λ (x : FactsView). x.meetings) e)

-- the goals were read
pub with_goals : (p : Parts) (gs : List Target) → gs ≡ p.goals → (let q : Parts = record p { goals = gs } in IsSteady p q)
with_goals p gs e = steady_by p (record p { goals = gs }) refl refl refl e refl refl refl refl refl refl refl (omega arith)

-- the history has more room
pub steady_events : (p : Parts) (es : Vec Event Global) → es.items ≡ p.history.items → vec_capacity p.history ≤ vec_capacity es → (let q : Parts = record p { history = es } in IsSteady p q)
steady_events p es items capacity = steady_by p (record p { history = es }) refl refl refl refl refl refl refl refl refl refl items capacity

pub steady_after : (p q r : Parts) → IsSteady p q → IsSteady q r → IsSteady p r
steady_after p q r a b =
    let c : vec_capacity p.history ≤ vec_capacity q.history = a.capacity in
    let d : vec_capacity q.history ≤ vec_capacity r.history = b.capacity in
    let e : p.pairs.spare ≤ q.pairs.spare = a.spare in
    let f : q.pairs.spare ≤ r.pairs.spare = b.spare in
    record {
      state = b.state ∙ a.state;
      front = b.front ∙ a.front;
      tasks = b.tasks ∙ a.tasks;
      next = b.next ∙ a.next;
      capacity = omega arith;
      spare = omega arith;
    }

-- parts fit together as long as these are the same
pub fit_as : (shelf : Shelves) (p q : Parts) → Fit shelf p → q.facts.front ≡ p.facts.front → q.tasks.items ≡ p.tasks.items → q.next ≡ p.next → next_ticket (state_of q) ≡ next_ticket (state_of p) → q.numbers.items ≡ p.numbers.items → Fit shelf q
fit_as shelf p q f front tasks next ticket numbers = record {
  front = subst (IsOf shelf) (sym front) f.front;
  next = next ∙ f.next ∙ sym ticket;
  fronts = subst (Each (HasFront shelf q.facts.front.entries)) (sym tasks) (subst (λ (x : Sight). Each (HasFront shelf x.entries) p.tasks.items) (sym front) f.fronts);
  few = subst (λ (ts : List TaskRow). length ts < 2 ^ 32) (sym tasks) f.few;
  workers = ap length numbers ∙ f.workers;
}

-- parts fit together after drops
pub others_fit : (shelf : Shelves) (p q : Parts) → SameOthers p q → next_ticket (state_of q) ≡ next_ticket (state_of p) → Fit shelf p → Fit shelf q
others_fit shelf p q s ticket f =
    fit_as shelf p q f (ap (λ (fs : FactsView). fs.front) s.facts) (ap (λ (ts : Vec TaskRow Global). ts.items) s.tasks) s.next ticket (ap (λ (ns : Vec Numbers Global). ns.items) s.numbers)

-- drops that were taken back leave the parts as they were
pub others_steady : (p q : Parts) → SameOthers p q → state_of q ≡ state_of p → vec_capacity p.history ≤ vec_capacity q.history → p.pairs.spare ≤ q.pairs.spare → IsSteady p q
others_steady p q s state capacity spare = record {
  state = state;
  front = ap (λ (fs : FactsView). fs.front) s.facts;
  tasks = ap (λ (ts : Vec TaskRow Global). ts.items) s.tasks;
  next = s.next;
  capacity = capacity;
  spare = spare;
}

pub others_self : (p : Parts) → SameOthers p p
others_self p = record { facts = refl; goals = refl; tasks = refl; next = refl; counted = refl; reserved = refl; verdict = refl; numbers = refl }

pub others_after : (p q r : Parts) → SameOthers p q → SameOthers q r → SameOthers p r
others_after p q r a b = record {
  facts = b.facts ∙ a.facts;
  goals = b.goals ∙ a.goals;
  tasks = b.tasks ∙ a.tasks;
  next = b.next ∙ a.next;
  counted = b.counted ∙ a.counted;
  reserved = b.reserved ∙ a.reserved;
  verdict = b.verdict ∙ a.verdict;
  numbers = b.numbers ∙ a.numbers;
}
