use Rattle.std.proofs.Common.{refl}
use Rattle.uc_clause.specs.Drafts.{reads_variable}
use Rattle.uc_clause.proofs.grammar.draft.Draft.variable.Goals as goal

pub returns-clause-moves : goal.returns-clause-moves
returns-clause-moves c = λ table.
    reads_variable c.in_ok-number.number c.requires.begins c.requires.head c.requires.room
    (rw (← c.bytes_at.ensures) c.in_ok-number.ensures.number)
    (rw (c.in_ok-push.ensures.items, c.in_ok-push-2.ensures.items, c.in_ok-number.ensures.seen, c.bytes_at.ensures, c.token_at.ensures.place) refl)
