use Rattle.std.proofs.Common.{refl}
use Rattle.uc_clause.specs.Drafts.{reads_constant}
use Rattle.uc_clause.proofs.Tables.{interned_grows}
use Rattle.uc_clause.proofs.Interned.{interned_is}
use Rattle.uc_clause.proofs.grammar.draft.Draft.constant.Goals as goal

pub returns-clause-moves : goal.returns-clause-moves
returns-clause-moves c = λ seen.
    reads_constant c.in_ok-sym.sym c.intern.new.self c.requires.begins c.requires.head c.requires.alone c.requires.room
    (rw (← c.in_ok-name.ensures, ← c.as_bytes.ensures) c.in_ok-sym.ensures.interned.0)
    (interned_grows _ _ _ _ _ c.in_ok-sym.ensures.interned)
    (rw (← c.in_ok-name.ensures, ← c.as_bytes.ensures) (interned_is _ _ _ _ _ c.in_ok-sym.ensures.interned))
    (rw (c.in_ok-push.ensures.items, c.in_ok-push-2.ensures.items, c.token_at.ensures.place) refl)
