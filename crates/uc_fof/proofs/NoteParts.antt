-- How notes are read.
use Rattle.std.proofs.Common.{◌≡◌, Bool, ℕ, ◌+◌, ◌-◌, ◌<◌, List, [], length, refl, sym, ap, ◌∙◌}
use Rattle.std.specs.Prelude.{◌≢◌, Option, Some, None, slice_get, Result, Ok, Err}
use Rattle.uc_clause.specs.declared.token.Token.{Token}
use Rattle.uc_clause.specs.declared.terminal.Terminal.{Terminal}
use Rattle.uc_clause.specs.declared.terminal.Terminal.TheVariants.{End, Comma}
use Rattle.uc_fof.specs.declared.notes.Bracket.{Bracket}
use Rattle.uc_fof.specs.declared.notes.Piece.{Piece}
use Rattle.uc_fof.specs.declared.notes.Piece.TheVariants.{Behind, Misplaced}
use Rattle.uc_fof.specs.declared.stop.Halt.{Halt}
use Rattle.uc_fof.specs.declared.stop.Halt.TheVariants.{At, NoMemory}
use Rattle.uc_clause.specs.Terminals.{terminal_at}
use Rattle.uc_fof.specs.Rules.{read, Stops, Goes, goes_on, stops_first, is_first}
use Rattle.uc_fof.specs.Notes.{piece_of, piece_at, Rest, Note, is_note, more_notes, closing}
use Rattle.uc_fof.specs.Formulas.{notes}
use Rattle.uc_clause.proofs.Ends.{some_token}
use Rattle.uc_fof.proofs.Sequences.{hands_on}

-- what a token is to a note, step by step
pub piece_is : (bytes : List ℕ) (tokens : List Token) (bs : List Bracket) (at : ℕ) (slice : List Bracket) (inner : Option Bracket) (t : Terminal) (r p : Piece) → slice ≡ bs → inner ≡ slice_get slice (length slice - 1) → t ≡ terminal_at bytes tokens at → r ≡ piece_of inner t → r ≡ p → piece_at bytes tokens bs at ≡ p
piece_is bytes tokens bs at slice inner t r p s i e f g =
    let same : inner ≡ slice_get bs (length bs - 1) = i ∙ ap (λ l. slice_get l (length l - 1)) s in
    sym (f ∙ ap (λ v. piece_of v t) same ∙ ap (piece_of (slice_get bs (length bs - 1))) e) ∙ g

end_misplaced : (inner : Option Bracket) → piece_of inner End ≡ Misplaced
end_misplaced None = refl
end_misplaced (Some b) = refl

pub some_piece : (bytes : List ℕ) (tokens : List Token) (bs : List Bracket) (at : ℕ) (p : Piece) → piece_at bytes tokens bs at ≡ p → p ≢ Misplaced → at < length tokens
some_piece bytes tokens bs at p e n = some_token bytes tokens at (λ f. n (sym e ∙ ap (piece_of (slice_get bs (length bs - 1))) f ∙ end_misplaced (slice_get bs (length bs - 1))))

module _ (bytes : List ℕ) (tokens : List Token) (from : ℕ) where
  pub note_reads : (e : Halt) → piece_at bytes tokens [] from ≢ Behind → Stops (Rest bytes tokens [] from) e → Stops (Note bytes tokens from) e
  note_reads e n h = hands_on (Rest bytes tokens [] from) (Note bytes tokens from) e (λ r k s. is_note n s) h

  pub notes_comma_stops : (conjecture : Bool) → terminal_at bytes tokens from ≡ Comma → (e : Halt) → Stops (Note bytes tokens (from + 1)) e → Stops (notes bytes tokens conjecture from) e
  notes_comma_stops conjecture c e h = hands_on (Note bytes tokens (from + 1)) (notes bytes tokens conjecture from) e (λ r k s. is_first c (goes_on {v = tt} {middle = from + 1} (c, refl) (stops_first s))) h

  pub more_comma_stops : terminal_at bytes tokens from ≡ Comma → (e : Halt) → Stops (Note bytes tokens (from + 1)) e → Stops (more_notes bytes tokens from) e
  more_comma_stops c e h = hands_on (Note bytes tokens (from + 1)) (more_notes bytes tokens from) e (λ r k s. is_first c (goes_on {v = tt} {middle = from + 1} (c, refl) (stops_first s))) h

  pub notes_first : (conjecture : Bool) → terminal_at bytes tokens from ≡ Comma → (middle : ℕ) → Note bytes tokens (from + 1) (read tt middle) → (r : Result ℕ Halt) → Goes (more_notes bytes tokens middle) r → Goes (notes bytes tokens conjecture from) r
  notes_first conjecture c middle x (Ok end) g = is_first c (goes_on {v = tt} {middle = from + 1} (c, refl) (goes_on {v = tt} x g))
  notes_first conjecture c middle x (Err (At r k)) g = is_first c (goes_on {v = tt} {middle = from + 1} (c, refl) (goes_on {v = tt} x g))
  notes_first conjecture c middle x (Err NoMemory) g = tt

  pub more_second : terminal_at bytes tokens from ≡ Comma → (middle : ℕ) → Note bytes tokens (from + 1) (read tt middle) → (r : Result ℕ Halt) → Goes (closing bytes tokens middle) r → Goes (more_notes bytes tokens from) r
  more_second c middle x (Ok end) g = is_first c (goes_on {v = tt} {middle = from + 1} (c, refl) (goes_on {v = tt} x g))
  more_second c middle x (Err (At r k)) g = is_first c (goes_on {v = tt} {middle = from + 1} (c, refl) (goes_on {v = tt} x g))
  more_second c middle x (Err NoMemory) g = tt
