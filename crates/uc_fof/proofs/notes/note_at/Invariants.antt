use Rattle.std.proofs.Common.{length, ◌-◌, []}
use Rattle.uc_fof.specs.Rules.{Outcome}
use Rattle.uc_fof.specs.Notes.{Rest}
use Rattle.uc_fof.proofs.notes.note_at.Given as goal

abbrev pub invariant-pieces : goal.invariant-pieces
invariant-pieces l = (o : Outcome (Unit {0})) → Rest l.bytes l.tokens l.note.brackets.items l.note.at o → Rest l.bytes l.tokens [] l.from o

abbrev pub decreases-pieces : goal.decreases-pieces
decreases-pieces l = length l.tokens - l.note.at
