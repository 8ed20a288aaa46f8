-- Which tokens read as notes, and where the others stop: they go as those of a clause, outside the formula.
use Rattle.std.specs.Prelude.{◌≡◌, ◌≢◌, ℕ, ◌+◌, ◌-◌, ◌<◌, Bool, true, false, List, [], ◌∷◌, ◌++◌, length, take, slice_get, Option, Some, None}
use Rattle.uc_clause.specs.declared.token.Token.{Token}
use Rattle.uc_clause.specs.declared.terminal.Terminal.{Terminal}
use Rattle.uc_clause.specs.declared.terminal.Terminal.TheVariants.{Open, Close, OpenSquare, CloseSquare, Comma, End}
use Rattle.uc_clause.specs.declared.grammar.stop.Why.TheVariants.{NoToken}
use Rattle.uc_clause.specs.Terminals.{terminal_at}
use Rattle.uc_fof.specs.declared.notes.Bracket.{Bracket}
use Rattle.uc_fof.specs.declared.notes.Bracket.TheVariants.{Round, Square}
use Rattle.uc_fof.specs.declared.notes.Piece.{Piece}
use Rattle.uc_fof.specs.declared.notes.Piece.TheVariants.{Plain, Opens, Closes, Behind, Misplaced}
use Rattle.uc_fof.specs.declared.notes.Note.{Note as Reader}
use Rattle.uc_fof.specs.declared.stop.Reason.TheVariants.{Outside}
use Rattle.uc_fof.specs.Rules.{Outcome, read, stop, Rule, ◌>>=◌, the, Choice}

-- what a token is to a note, behind this innermost open bracket, if one is open: a part of it, which may open or close a
-- bracket; what ends it; or what can't stand there
abbrev pub piece_of : Option Bracket → Terminal → Piece
piece_of innermost End = Misplaced
piece_of innermost Open = Opens Round
piece_of innermost OpenSquare = Opens Square
piece_of None Comma = Behind
piece_of None Close = Behind
piece_of None CloseSquare = Behind
piece_of (Some Round) Close = Closes
piece_of (Some Square) Close = Misplaced
piece_of (Some Round) CloseSquare = Misplaced
piece_of (Some Square) CloseSquare = Closes
piece_of innermost other = Plain

module _ (bytes : List ℕ) (tokens : List Token) where
  -- what the next token is to a note in which these brackets are open, the innermost last
  abbrev pub piece_at : List Bracket → ℕ → Piece
  piece_at open_ones at = piece_of (slice_get open_ones (length open_ones - 1)) (terminal_at bytes tokens at)

  -- the rest of a note in which these brackets are open
  pub data Rest : List Bracket → ℕ → Outcome (Unit {0}) → Type 0 where
    has_token : {bs : List Bracket} {at : ℕ} {outcome : Outcome (Unit {0})} → piece_at bs at ≡ Plain → Rest bs (at + 1) outcome → Rest bs at outcome
    has_opening : {bs : List Bracket} {b : Bracket} {at : ℕ} {outcome : Outcome (Unit {0})} → piece_at bs at ≡ Opens b → Rest (bs ++ b ∷ []) (at + 1) outcome → Rest bs at outcome
    has_closing : {bs : List Bracket} {at : ℕ} {outcome : Outcome (Unit {0})} → piece_at bs at ≡ Closes → Rest (take (length bs - 1) bs) (at + 1) outcome → Rest bs at outcome
    ends_before : {bs : List Bracket} {at : ℕ} → piece_at bs at ≡ Behind → Rest bs at (read tt at)
    stops_before : {bs : List Bracket} {at : ℕ} → piece_at bs at ≡ Misplaced → Rest bs at (stop (Outside NoToken) at)

  -- a note isn't empty
  pub data Note : ℕ → Outcome (Unit {0}) → Type 0 where
    is_note : {at : ℕ} {outcome : Outcome (Unit {0})} → piece_at [] at ≢ Behind → Rest [] at outcome → Note at outcome
    is_no_note : {at : ℕ} → piece_at [] at ≡ Behind → Note at (stop (Outside NoToken) at)

  abbrev pub note : Rule (Unit {0})
  note at outcome = Note at outcome

  abbrev pub comma : Rule (Unit {0})
  comma = the (λ at. terminal_at bytes tokens at ≡ Comma) (Outside NoToken)

  abbrev pub closing : Rule (Unit {0})
  closing = the (λ at. terminal_at bytes tokens at ≡ Close) (Outside NoToken)

  -- , note )
  abbrev pub second_note : Rule (Unit {0})
  second_note = do
    _ ← comma
    _ ← note
    closing

  -- [ , note ] )
  abbrev pub more_notes : Rule (Unit {0})
  more_notes = Choice (λ at. terminal_at bytes tokens at ≡ Comma) second_note closing

  -- , note [ , note ] )
  abbrev pub first_note : Rule (Unit {0})
  first_note = do
    _ ← comma
    _ ← note
    more_notes

  -- whatever the rest comes to behind the token, it comes to before it, or the note has ended
  abbrev pub NoteGoes : Reader → Reader → Bool → Type 0
  NoteGoes old new true = (old.at < new.at) × (old.at < length tokens) × ((outcome : Outcome (Unit {0})) → Rest new.brackets.items new.at outcome → Rest old.brackets.items old.at outcome)
  NoteGoes old new false = Rest old.brackets.items old.at (read tt new.at)
