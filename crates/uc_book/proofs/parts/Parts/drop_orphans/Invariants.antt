use Rattle.std.proofs.Common.{◌≡◌, ◌≤◌, ◌+◌, length}
use Rattle.std.specs.Prelude.{vec_len, vec_capacity}
use Rattle.uc_machine.specs.State.{Opening, State, queue}
use Rattle.uc_machine.specs.Draws.{Reply, Draws, NoneUnmet}
use Rattle.uc_machine.specs.Effects.{next_ticket}
use Rattle.uc_book.specs.Drawing.{HasRoomToGive}
use Rattle.uc_book.specs.Dropping.{Dropped, SameOthers}
use Rattle.uc_book.specs.Parts.{state_of}
use Rattle.uc_book.proofs.parts.Parts.drop_orphans.Given as goal

abbrev pub invariant-loop-number : goal.invariant-loop-number
invariant-loop-number l = record {
  leads : (o : Opening) (r : Reply) (u : State) → Draws o l.worker (state_of l.self) r u → Draws o l.worker (state_of l.initial.self) r u;
  met : NoneUnmet (state_of l.self);
  dropped : Dropped l.worker (state_of l.initial.self) (state_of l.self);
  others : SameOthers l.initial.self l.self;
  room : HasRoomToGive l.self;
  spare : l.self.pairs.spare + vec_len l.initial.self.history ≡ l.initial.self.pairs.spare + vec_len l.self.history;
  least : vec_len l.initial.self.history ≤ vec_len l.self.history;
  ticket : next_ticket (state_of l.self) ≡ next_ticket (state_of l.initial.self);
  history : vec_len l.self.history + length (queue (state_of l.self)) ≤ vec_len l.initial.self.history + length (queue (state_of l.initial.self));
  capacity : vec_capacity l.initial.self.history ≤ vec_capacity l.self.history;
}

abbrev pub decreases-loop-number : goal.decreases-loop-number
decreases-loop-number l = length (queue (state_of l.self))
