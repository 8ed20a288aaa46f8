-- The machine's state, as the parts of a book hold it.
use Rattle.std.specs.Prelude.{◌≡◌, ⊤, ℕ, ◌+◌, ◌<◌, ◌≤◌, ◌^◌, map, length, Option, Some, None, option_map, slice_get, count_by, vec_len, vec_capacity}
use Rattle.boxcar.specs.Table.{Shelves}
use Rattle.uc_order.specs.Laws.{Meaning}
use Rattle.uc_shelf.specs.Fronts.{IsOf}
use Rattle.uc_shelf.specs.Entries.{born}
use Rattle.uc_queue.specs.declared.entry.Entry.{Entry as Place}
use Rattle.uc_ledger.specs.declared.ledger.State.TheVariants.{Out as OutTo}
use Rattle.uc_machine.specs.declared.event.Verdict.{Verdict}
use Rattle.uc_machine.specs.declared.task.Job.{Job}
use Rattle.uc_machine.specs.declared.task.Job.TheVariants.{Goal, More, Meet, Join}
use Rattle.uc_rows.specs.declared.tasks.TaskRow.{TaskRow}
use Rattle.uc_book.specs.declared.parts.Parts.{Parts}
use Rattle.uc_rows.specs.TaskRows.{out_of, is_join, HasFront}
use Rattle.uc_machine.specs.Lists.{Each, map_option}
use Rattle.uc_machine.specs.State.{State, Pair}
use Rattle.uc_rows.specs.PairRows.{head_in}
use Rattle.uc_machine.specs.Effects.{next_ticket}
use Rattle.uc_book.specs.Openings.{Opened, opening_of}
use Rattle.uc_machine.specs.Runs.{Reaches}

abbrev pub state_of : Parts → State
state_of p = record {
  entries = p.facts.front.entries;
  meetings = p.facts.meetings;
  pairs = p.pairs.pairs;
  draws = p.pairs.draws;
  goals = p.goals;
  out = map out_of p.tasks.items;
  counted = p.counted;
  reserved = p.reserved;
  verdict = p.verdict;
  numbers = p.numbers.items;
  history = p.history.items;
}

-- the parts fit together
pub record Fit (shelf : Shelves) (p : Parts) : Type 0 where
  pub front : IsOf shelf p.facts.front
  pub next : p.next ≡ next_ticket (state_of p)
  pub fronts : Each (HasFront shelf p.facts.front.entries) p.tasks.items
  pub few : length p.tasks.items < 2 ^ 32
  pub workers : length p.numbers.items ≡ 65

-- a close may still come
abbrev pub closings : Option Verdict → ℕ
closings None = 1
closings (Some v) = 0

-- there is room for so many events, for those that end the tasks out, and for that of a close
abbrev pub RoomFor : ℕ → Parts → Type 0
RoomFor n p = vec_len p.history + (n + (length p.tasks.items + closings p.verdict)) ≤ vec_capacity p.history

-- There is room for the events that end the tasks out, and for that of a close; and for the pairs of the Joins out to wait
-- again.
pub record HasRoom (p : Parts) : Type 0 where
  pub events : RoomFor 0 p
  pub waiting : count_by (λ (t : TaskRow). is_join t.job) p.tasks.items ≤ p.pairs.spare

-- the parts of a book that stands on this shelf and has this opening: they fit together, have room, and a run leads to their
-- state; the numbers of axioms and goals are in their types
pub record IsBook (m : Meaning) (o : Opened) (p : Parts) : Type 0 where
  pub fit : Fit o.shelf p
  pub room : HasRoom p
  pub reaches : Reaches m (opening_of o) (state_of p)
  pub budget : o.budget ≤ 10000000
  pub few_axioms : length o.problem.axioms < 2 ^ 31
  pub few_goals : length o.problem.goals < 2 ^ 31

-- facts, pairs and goals are as they were
pub record SameSubjects (p q : Parts) : Type 0 where
  pub facts : q.facts ≡ p.facts
  pub pairs : q.pairs ≡ p.pairs
  pub goals : q.goals ≡ p.goals

-- what isn't a fact, a pair or a goal is as it was, and so is the front of the entries
pub record SameRest (p q : Parts) : Type 0 where
  pub front : q.facts.front ≡ p.facts.front
  pub tasks : q.tasks ≡ p.tasks
  pub next : q.next ≡ p.next
  pub counted : q.counted ≡ p.counted
  pub reserved : q.reserved ≡ p.reserved
  pub verdict : q.verdict ≡ p.verdict
  pub numbers : q.numbers ≡ p.numbers
  pub history : q.history ≡ p.history

-- the pair of a Join is the one at the queue's head
abbrev pub IsAtHead : Parts → Job → Type 0
IsAtHead p (Goal g l r) = ⊤
IsAtHead p (More g l r) = ⊤
IsAtHead p (Meet i) = ⊤
IsAtHead p (Join n o) = option_map (λ (e : Place). e.number) (head_in p.pairs) ≡ Some n

-- the goal is one of the book's, the fact is born, the pair of a Join is out to the worker
abbrev pub IsSubjectOut : Parts → ℕ → Job → Type 0
IsSubjectOut p w (Goal g l r) = g < length p.goals
IsSubjectOut p w (More g l r) = g < length p.goals
IsSubjectOut p w (Meet i) = i < length (born p.facts.front.entries)
IsSubjectOut p w (Join n o) = map_option (λ (x : Pair). x.condition) (slice_get p.pairs.pairs n) ≡ Some (OutTo w)

-- what isn't a fact or a goal is as it was
pub record SameCounts (p q : Parts) : Type 0 where
  pub pairs : q.pairs ≡ p.pairs
  pub tasks : q.tasks ≡ p.tasks
  pub next : q.next ≡ p.next
  pub counted : q.counted ≡ p.counted
  pub reserved : q.reserved ≡ p.reserved
  pub verdict : q.verdict ≡ p.verdict
  pub numbers : q.numbers ≡ p.numbers
  pub history : q.history ≡ p.history

-- the state is the same, and there is no less room
pub record IsSteady (p q : Parts) : Type 0 where
  pub state : state_of q ≡ state_of p
  pub front : q.facts.front ≡ p.facts.front
  pub tasks : q.tasks.items ≡ p.tasks.items
  pub next : q.next ≡ p.next
  pub capacity : vec_capacity p.history ≤ vec_capacity q.history
  pub spare : p.pairs.spare ≤ q.pairs.spare
