-- Orphans that leave the queue, and what of the parts of a book stays then.
use Rattle.std.specs.Prelude.{◌≡◌, ℕ, ◌<◌, Some, slice_get}
use Rattle.uc_ledger.specs.declared.ledger.State.TheVariants.{Waiting}
use Rattle.uc_machine.specs.Lists.{map_option}
use Rattle.uc_machine.specs.State.{State, Pair}
use Rattle.uc_machine.specs.Effects.{drops}
use Rattle.uc_book.specs.declared.parts.Parts.{Parts}

-- a pair that waited was dropped by this worker
pub record WasDropped (w p : ℕ) (old new : State) : Type 0 where
  pub waited : map_option (λ (x : Pair). x.condition) (slice_get old.pairs p) ≡ Some Waiting
  pub modulo : old.draws < 5
  pub is : new ≡ drops w p old

-- pairs were, one after the other, if any
pub data Dropped (w : ℕ) (start : State) : State → Type 0 where
  none_dropped : Dropped w start start
  one_more_dropped : {s u : State} (p : ℕ) → Dropped w start s → WasDropped w p s u → Dropped w start u

-- what is no pair and no event is as it was
pub record SameOthers (p q : Parts) : Type 0 where
  pub facts : q.facts ≡ p.facts
  pub goals : q.goals ≡ p.goals
  pub tasks : q.tasks ≡ p.tasks
  pub next : q.next ≡ p.next
  pub counted : q.counted ≡ p.counted
  pub reserved : q.reserved ≡ p.reserved
  pub verdict : q.verdict ≡ p.verdict
  pub numbers : q.numbers ≡ p.numbers
