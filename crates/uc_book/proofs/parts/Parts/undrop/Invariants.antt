use Rattle.std.proofs.Common.{◌≡◌, ◌≤◌, ◌+◌, ℕ, length}
use Rattle.std.specs.Prelude.{vec_len, vec_capacity}
use Rattle.uc_machine.specs.State.{State}
use Rattle.uc_book.specs.Dropping.{Dropped, SameOthers}
use Rattle.uc_book.specs.Parts.{state_of}
use Rattle.uc_book.proofs.parts.Parts.undrop.Given as goal

abbrev pub invariant-loop-self : goal.invariant-loop-self
invariant-loop-self l = record {
  some : (w : ℕ) × (s : State) × Dropped w s (state_of l.self) × (length s.history ≡ l.kept);
  back : (w : ℕ) (s : State) → Dropped w s (state_of l.initial.self) → length s.history ≡ l.kept → Dropped w s (state_of l.self);
  others : SameOthers l.initial.self l.self;
  spare : l.self.pairs.spare + vec_len l.initial.self.history ≡ l.initial.self.pairs.spare + vec_len l.self.history;
  within : vec_len l.self.history ≤ l.kept + l.self.pairs.spare;
  least : l.kept ≤ vec_len l.self.history;
  capacity : vec_capacity l.self.history ≡ vec_capacity l.initial.self.history;
}

abbrev pub decreases-loop-self : goal.decreases-loop-self
decreases-loop-self l = vec_len l.self.history
