-- The entries and the facts as the code holds them.
use Rattle.std.specs.Prelude.{◌≡◌, ℕ, ◌+◌, ◌<◌, ◌≤◌, ◌^◌, ◌-◌, List, [], ◌∷◌, ◌++◌, Bool, false, map, length, Option, Some, None, slice_get, slice_index_or, vec_len, vec_capacity}
use Rattle.uc_shelf.specs.declared.entry.Entry.{Entry}
use Rattle.uc_shelf.specs.declared.entry.Entry.TheVariants.{Born}
use Rattle.uc_term.specs.Tree.{nodes}
use Rattle.uc_fact.specs.declared.fact.Fact.{Fact}
use Rattle.uc_shelf.specs.Entries.{born, is_dead}
use Rattle.uc_machine.specs.declared.state.Meeting.{Meeting}
use Rattle.uc_rows.specs.declared.facts.FactRow.{FactRow}
use Rattle.uc_rows.specs.declared.facts.Facts.TheInside.{Inside}
use Rattle.uc_rows.specs.RowViews.{FactsView}
use Rattle.uc_machine.specs.State.{is_unmet}
use Rattle.uc_machine.specs.Effects.{sides_weight}

abbrev pub meetings_of : List FactRow → List Meeting
meetings_of rows = map (λ (r : FactRow). r.meeting) rows

abbrev pub facts_view : Inside → FactsView
facts_view f = record { front = f.front; meetings = meetings_of f.rows.items; room = vec_capacity f.rows - vec_len f.rows }

-- what a row says, where there is one
abbrev pub dead_in : Option FactRow → Bool
dead_in None = false
dead_in (Some r) = r.is_dead

abbrev pub weight_in : Option FactRow → ℕ
weight_in None = 0
weight_in (Some r) = r.weight

-- each fact has its row, which says whether it is dead and the weight of its sides
pub record AreRows (es : List Entry) (rows : List FactRow) : Type 0 where
  pub as_many : length rows ≡ length (born es)
  pub dead : (n : ℕ) → is_dead es n ≡ dead_in (slice_get rows n)
  pub weights : (n : ℕ) → sides_weight (slice_get (born es) n) ≡ weight_in (slice_get rows n)

-- no fact of a number below n is Unmet
abbrev pub NoneUnmetBelow : ℕ → List FactRow → Type 0
NoneUnmetBelow n rows = (k : ℕ) (d : FactRow) → k < n → k < length rows → is_unmet (slice_index_or rows k d).meeting ≡ false

-- where the search for a fact that is Unmet goes on
pub record AreFacts (f : Inside) : Type 0 where
  pub rows : AreRows f.front.entries f.rows.items
  pub met : NoneUnmetBelow f.unmet_from f.rows.items
  pub within : f.unmet_from ≤ length f.rows.items
  pub few : length f.rows.items ≤ 2 ^ 31

-- the entries have one more, the birth of a fact whose sides have this weight
pub record HasOneMore (es fs : List Entry) (weight : ℕ) : Type 0 where
  pub fact : Fact
  pub is : fs ≡ es ++ Born fact ∷ []
  pub weight_is : weight ≡ nodes fact.left + nodes fact.right
