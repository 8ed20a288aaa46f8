-- The part of a text in which a proof stands: between a start line and the first end line behind it.
use Rattle.std.specs.Prelude.{ℕ, ◌≡◌, ◌<◌, ◌≤◌, ◌+◌, ◌&&◌, Bool, true, false, List, length, drop, codes, nat_lt, nat_eq, bytes_eq, slice_range, Option, Some, None, Result, Ok, Err, if◌then◌else◌}
use Rattle.std.specs.List.{starts_with, prefix_len}
use Rattle.uc_clause.specs.declared.token.Place.{Place}
use Rattle.uc_clause.specs.declared.fault.What.TheVariants.{Bytes}
use Rattle.uc_clause.specs.Bytes.{in_line}
use Rattle.uc_clause.specs.Tokens.{place_of}
use Rattle.uc_tstp.specs.declared.fault.ProofFault.{ProofFault}
use Rattle.uc_tstp.specs.declared.fault.ProofFault.TheVariants.{Syntax, Truncated, Limit}
use Rattle.uc_tstp.specs.declared.framing.Frame.{Frame}
use Rattle.uc_tstp.specs.declared.framing.Span.{Span}
use Rattle.uc_tstp.specs.declared.framing.Border.{Border}
use Rattle.uc_tstp.specs.declared.framing.Border.TheVariants.{Start, End}

-- the length of the first line without its line feed; none where no line feed ends it
abbrev pub line_length : List ℕ → Option ℕ
line_length text = if nat_lt (prefix_len in_line text) (length text) then Some (prefix_len in_line text) else None

abbrev pub start_words : List ℕ
start_words = codes "% SZS output start CNFRefutation for "

abbrev pub end_words : List ℕ
end_words = codes "% SZS output end CNFRefutation for "

-- a line, without its line feed, that begins with the start line's words and has a name behind them
abbrev pub is_start : List ℕ → Bool
is_start line = starts_with nat_eq line start_words && nat_lt (length start_words) (length line)

abbrev pub is_end : List ℕ → Bool
is_end line = starts_with nat_eq line end_words

abbrev pub is_border : Border → List ℕ → Bool
is_border Start line = is_start line
is_border End line = is_end line

-- the names in them
abbrev pub start_name : List ℕ → List ℕ
start_name line = drop (length start_words) line

abbrev pub end_name : List ℕ → List ℕ
end_name line = drop (length end_words) line

-- the line without its line feed
abbrev pub line_at : List ℕ → Span → List ℕ
line_at text span = slice_range text span.first span.feed

abbrev pub is_same_name : List ℕ → Span → Span → Bool
is_same_name text start end = bytes_eq (end_name (line_at text end)) (start_name (line_at text start))

-- the first line from this byte on that passes the test, if there is one
module _ (test : List ℕ → Bool) (text : List ℕ) where
  pub data FirstLine : ℕ → Option Span → Type 0 where
    no_line : {at : ℕ} → line_length (drop at text) ≡ None → FirstLine at None
    this_line : {at n : ℕ} → line_length (drop at text) ≡ Some n → test (slice_range text at (at + n)) ≡ true → FirstLine at (Some (record { first = at; feed = at + n }))
    later_line : {at n : ℕ} {found : Option Span} → line_length (drop at text) ≡ Some n → test (slice_range text at (at + n)) ≡ false → FirstLine (at + n + 1) found → FirstLine at found

abbrev pub first_place : Place
first_place = record { line = 1; column = 1 }

abbrev pub max_proof : ℕ
max_proof = 268435456

-- the frame of a text, however long, or why it has none
pub data Framed (text : List ℕ) : Result Frame ProofFault → Type 0 where
  no_start : FirstLine (is_border Start) text 0 None → Framed text (Err (Syntax (place_of text (length text))))
  no_end : {start : Span} → FirstLine (is_border Start) text 0 (Some start) → FirstLine (is_border End) text (start.feed + 1) None → Framed text (Err Truncated)
  other_name : {start end : Span} → FirstLine (is_border Start) text 0 (Some start) → FirstLine (is_border End) text (start.feed + 1) (Some end) → is_same_name text start end ≡ false → Framed text (Err (Syntax (place_of text end.first)))
  framed : {start end : Span} → FirstLine (is_border Start) text 0 (Some start) → FirstLine (is_border End) text (start.feed + 1) (Some end) → is_same_name text start end ≡ true → Framed text (Ok (record { from = start.feed + 1; to = end.first }))

-- the same of a text that isn't too long; a longer one is refused at its first byte
abbrev pub IsFrame : List ℕ → Result Frame ProofFault → Type 0
IsFrame text (Err (Limit what place)) = (max_proof < length text) × (what ≡ Bytes) × (place ≡ first_place)
IsFrame text answer = (length text ≤ max_proof) × Framed text answer
