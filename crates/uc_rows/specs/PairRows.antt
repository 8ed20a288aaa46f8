-- The pairs as the code holds them: what each comes from, its state, and those that wait.
use Rattle.std.specs.Prelude.{◌≡◌, ℕ, ◌-◌, List, [], ◌∷◌, Option, Some, length, min, slice_get, vec_len, vec_capacity}
use Rattle.uc_fact.specs.declared.fact.Origin.{Origin}
use Rattle.uc_queue.specs.declared.entry.Entry.{Entry as Place}
use Rattle.uc_queue.specs.Queue.{next}
use Rattle.uc_ledger.specs.declared.ledger.State.{State as Condition}
use Rattle.uc_ledger.specs.declared.ledger.State.TheVariants.{Waiting}
use Rattle.uc_rows.specs.declared.pairs.PairRow.{PairRow}
use Rattle.uc_rows.specs.declared.pairs.Pairs.TheInside.{Inside}
use Rattle.uc_rows.specs.RowViews.{PairsView}
use Rattle.uc_machine.specs.State.{Pair, queue_from}

-- each pair with its state
abbrev pub pairs_of : List PairRow → List Condition → List Pair
pairs_of (r ∷ rs) (c ∷ cs) = record { origin = r.origin; weight = r.weight; condition = c } ∷ pairs_of rs cs
pairs_of rs cs = []

abbrev pub pairs_view : Inside → PairsView
pairs_view p = record {
  pairs = pairs_of p.rows.items p.states.states;
  draws = p.queue.draws;
  spare = p.queue.spare;
  room = min (vec_capacity p.rows - vec_len p.rows) p.states.spare;
}

-- each pair has its state, and the queue holds those that are Waiting
pub record ArePairs (p : Inside) : Type 0 where
  pub as_many : length p.states.states ≡ length p.rows.items
  pub queue : p.queue.waiting ≡ queue_from 0 (pairs_of p.rows.items p.states.states)

-- the queue of these pairs
abbrev pub queue_in : PairsView → List Place
queue_in p = queue_from 0 p.pairs

-- what the next draw takes
abbrev pub head_in : PairsView → Option Place
head_in p = next (record { waiting = queue_in p; draws = p.draws; spare = 0 })

-- the pair that the next draw takes has this number and this origin
pub record IsHead (p : PairsView) (number : ℕ) (origin : Origin) : Type 0 where
  pub place : Place
  pub pair : Pair
  pub is : head_in p ≡ Some place
  pub number_is : place.number ≡ number
  pub at : slice_get p.pairs number ≡ Some pair
  pub waits : pair.condition ≡ Waiting
  pub origin_is : pair.origin ≡ origin
