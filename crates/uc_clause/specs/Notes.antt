-- How the reader of notes goes on.
use Rattle.std.specs.Prelude.{ℕ, ◌<◌, Bool, true, false, List, length}
use Rattle.uc_clause.specs.declared.token.Token.{Token}
use Rattle.uc_clause.specs.declared.grammar.note.Note.{Note}
use Rattle.uc_clause.specs.Rules.{Outcome, read}
use Rattle.uc_clause.specs.Items.{Rest}

-- whatever the rest comes to behind the token, it comes to before it, or the note has ended
abbrev pub NoteGoes : List ℕ → List Token → Note → Note → Bool → Type 0
NoteGoes bytes tokens old new true = (old.at < new.at) × (old.at < length tokens) × ((outcome : Outcome (Unit {0})) → Rest bytes tokens new.brackets.items new.at outcome → Rest bytes tokens old.brackets.items old.at outcome)
NoteGoes bytes tokens old new false = Rest bytes tokens old.brackets.items old.at (read tt new.at)
