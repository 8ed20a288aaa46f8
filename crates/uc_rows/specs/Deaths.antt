-- Facts that die one after the other, taken together.
use Rattle.std.specs.Prelude.{◌≡◌, ℕ, true, List, [], ◌∷◌, ◌++◌, map, filter, not, slice_get}
use Rattle.uc_fact.specs.declared.fact.Origin.TheVariants.{Revived}
use Rattle.uc_ledger.specs.declared.ledger.State.TheVariants.{Waiting}
use Rattle.uc_shelf.specs.declared.entry.Entry.{Entry}
use Rattle.uc_shelf.specs.declared.entry.Entry.TheVariants.{Dies}
use Rattle.uc_shelf.specs.Entries.{born, is_dead}
use Rattle.uc_machine.specs.declared.state.Meeting.{Meeting}
use Rattle.uc_rows.specs.declared.facts.FactRow.{FactRow}
use Rattle.uc_machine.specs.Lists.{change, each}
use Rattle.uc_machine.specs.State.{State, Pair, Target}
use Rattle.uc_pair.specs.declared.formed.Formed.{Formed}
use Rattle.uc_machine.specs.Effects.{wakes, meets_unmet, sides_weight, forms}

-- the facts of a list that aren't dead yet
abbrev pub alive_of : List Entry → List ℕ → List ℕ
alive_of es ks = filter (λ k. not (is_dead es k)) ks

-- the entries of their deaths
abbrev pub deaths_by : ℕ → List ℕ → List Entry
deaths_by killer js = map (λ j. Dies j killer) js

-- the pair of a fact's own sides
abbrev pub revived : List Entry → ℕ → Pair
revived es j = record { origin = Revived j; weight = sides_weight (slice_get (born es) j); condition = Waiting }

-- the meetings: those that were Unmet become Met
abbrev pub met_by : List ℕ → List Meeting → List Meeting
met_by js ms = each (λ j xs. change meets_unmet xs j) js ms

-- the goals: where a fact died, those that are Settled or Stuck become Due
abbrev pub woken_by : List ℕ → List Target → List Target
woken_by [] gs = gs
woken_by (j ∷ js) gs = map wakes gs

-- the state with these entries, meetings, pairs and goals
abbrev pub with_facts : State → List Entry → List Meeting → List Pair → List Target → State
with_facts s es ms ps gs = record s { entries = es; meetings = ms; pairs = ps; goals = gs }

-- the state behind the deaths
abbrev pub all_dead : ℕ → List ℕ → State → State
all_dead killer js s = with_facts s (s.entries ++ deaths_by killer js) (met_by js s.meetings) (s.pairs ++ map (revived s.entries) js) (woken_by js s.goals)

-- and behind the pairs that these overlaps get then
abbrev pub visited : ℕ → List ℕ → List Formed → State → State
visited killer js fs s = forms fs (all_dead killer js s)

-- the entries have these deaths behind them, all by one killer
pub record HasDeaths (es fs : List Entry) (js : List ℕ) : Type 0 where
  pub killer : ℕ
  pub is : fs ≡ es ++ deaths_by killer js

-- a fact's row, when it died
abbrev pub dead_row : FactRow → FactRow
dead_row r = record r { is_dead = true; meeting = meets_unmet r.meeting }

abbrev pub rows_by : List ℕ → List FactRow → List FactRow
rows_by js rows = each (λ j rs. change dead_row rs j) js rows
