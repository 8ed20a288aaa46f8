-- Places in a frame, and in the whole text.
use Rattle.std.proofs.Common.{◌≡◌, ℕ, ◌+◌, ◌-◌, ◌<◌, ◌≤◌, Bool, true, false, List, ◌++◌, length, take, drop, get_or, get_or-drop, Option, Some, None, refl, sym, ap, ap₂, ◌∙◌, subst, arith}
use Rattle.std.specs.Prelude.{◌==◌, cond, eqb, nat_lt, reverse, count_by, Result, Ok, Err, if◌then◌else◌}
use Rattle.std.specs.List.{prefix_len, suffix_len}
use Rattle.std.proofs.Math.Seq.{take-add}
use Rattle.std.proofs.lemmas.List.{reverse-append, take-append-drop, take-append-le, length-drop}
use Rattle.std.proofs.lemmas.List.Sums.{sum_by-append, prefix_len_stops, suffix_len-take_no}
use Rattle.std.proofs.lemmas.List.Folds.{prefix_len-append}
use Rattle.std.proofs.lemmas.Bool.{eqb-true}
use Rattle.uc_clause.specs.declared.token.Token.{Token}
use Rattle.uc_clause.specs.Bytes.{in_line}
use Rattle.std.proofs.lemmas.Option.{slice_get-get_or}
use Rattle.uc_clause.proofs.Spans.{within_text}
use Rattle.uc_clause.specs.Tokens.{AreTokens, Cut, end, gap, token, stuck, onto, place_behind, place_of}
use Rattle.uc_tstp.specs.declared.framing.Frame.{Frame}
use Rattle.uc_tstp.specs.declared.framing.Span.{Span}
use Rattle.uc_tstp.specs.Framing.{line_length, FirstLine, no_line, this_line, later_line, Framed, framed}
use Rattle.uc_tstp.specs.Reading.{inside}
use Rattle.uc_tstp.specs.Faults.{behind_lines}

-- behind a line feed the column doesn't depend on what stands in front
same_or_none : (n m : ℕ) → cond (eqb n m) (m + 0) n ≡ n
same_or_none n m = go (eqb n m) refl
  where
    go : (b : Bool) → eqb n m ≡ b → cond b (m + 0) n ≡ n
    go true e = omega (arith, eqb-true n m e)
    go false e = refl

column_behind : (front piece : List ℕ) → suffix_len in_line front ≡ 0 → suffix_len in_line (front ++ piece) ≡ suffix_len in_line piece
column_behind front piece e =
    ap (prefix_len in_line) (reverse-append front piece)
    ∙ prefix_len-append in_line (reverse piece) (reverse front)
    ∙ ap (λ n. cond (eqb (prefix_len in_line (reverse piece)) (length (reverse piece))) (length (reverse piece) + n) (prefix_len in_line (reverse piece))) e
    ∙ same_or_none (prefix_len in_line (reverse piece)) (length (reverse piece))

pub place_behind_lines : (front piece : List ℕ) → suffix_len in_line front ≡ 0 → place_behind (front ++ piece) ≡ behind_lines (place_behind front) (place_behind piece)
place_behind_lines front piece e =
    let lines : count_by (λ b. b == 10) (front ++ piece) ≡ count_by (λ b. b == 10) front + count_by (λ b. b == 10) piece = sum_by-append (λ b. cond (b == 10) 1 0) front piece in
    ap₂ (λ l c. record { line = l; column = c }) (ap (λ n. 1 + n) lines ∙ omega arith) (ap (λ n. 1 + n) (column_behind front piece e))

-- the first bytes of a text, through the frame
take-within : (k m : ℕ) (xs : List ℕ) → k ≤ length (take m xs) → take k xs ≡ take k (take m xs)
take-within k m xs h = ap (take k) (sym (take-append-drop m xs)) ∙ take-append-le k (take m xs) (drop m xs) h

through_frame : (text : List ℕ) (frame : Frame) (k : ℕ) → k ≤ length (inside text frame) → take (frame.from + k) text ≡ take frame.from text ++ take k (inside text frame)
through_frame text frame k h = take-add frame.from k text ∙ ap (λ xs. take frame.from text ++ xs) (take-within k (frame.to - frame.from) (drop frame.from text) h)

pub place_in_frame : (text : List ℕ) (frame : Frame) (k : ℕ) → k ≤ length (inside text frame) → suffix_len in_line (take frame.from text) ≡ 0 → place_of text (frame.from + k) ≡ behind_lines (place_of text frame.from) (place_of (inside text frame) k)
place_in_frame text frame k h e = ap place_behind (through_frame text frame k h) ∙ place_behind_lines (take frame.from text) (take k (inside text frame)) e

-- a byte that begins no token stands in the text
abbrev IsIn : List ℕ → Result (List Token) ℕ → Type 0
IsIn text (Ok tokens) = Unit {0}
IsIn text (Err k) = k < length text

onto_in : (text : List ℕ) (t : Token) (r : Result (List Token) ℕ) → IsIn text r → IsIn text (onto t r)
onto_in text t (Ok ts) h = tt
onto_in text t (Err k) h = h

cut_in : {text : List ℕ} {at : ℕ} {r : Result (List Token) ℕ} → Cut text at r → IsIn text r
cut_in (end h) = tt
cut_in (gap h s rest) = cut_in rest
cut_in {text = text} (token {rest = r} h s rest) = onto_in text _ r (cut_in rest)
cut_in (stuck h s) = h

pub stuck_in : (text : List ℕ) (k : ℕ) → Cut text 0 (Err k) → k < length text
stuck_in text k c = cut_in c

-- the frame begins behind a line feed
line_feed : (xs : List ℕ) (n : ℕ) → line_length xs ≡ Some n → (n < length xs) × (in_line (get_or xs n 0) ≡ false)
line_feed xs n e = go (nat_lt (prefix_len in_line xs) (length xs)) refl e
  where
    go : (b : Bool) → nat_lt (prefix_len in_line xs) (length xs) ≡ b → (if b then Some (prefix_len in_line xs) else None) ≡ Some n → (n < length xs) × (in_line (get_or xs n 0) ≡ false)
    go true l f =
        let same : prefix_len in_line xs ≡ n = cc in
        let lt : prefix_len in_line xs < length xs = grind (arith, l) in
        (omega arith, subst (λ i. in_line (get_or xs i 0) ≡ false) same (prefix_len_stops in_line xs 0 lt))
    go false l f = absurd cc

abbrev Feeds : List ℕ → Option Span → Type 0
Feeds text None = Unit {0}
Feeds text (Some s) = (s.feed < length text) × (in_line (get_or text s.feed 0) ≡ false)

first_feeds : {test : List ℕ → Bool} {text : List ℕ} {at : ℕ} {found : Option Span} → FirstLine test text at found → Feeds text found
first_feeds (no_line e) = tt
first_feeds {text = text} (this_line {at = at} {n = n} e t) =
    let l = line_feed (drop at text) n e in
    (omega (arith, l.0, length-drop at text), subst (λ b. in_line b ≡ false) (get_or-drop at text n 0) l.1)
first_feeds (later_line e t rest) = first_feeds rest

pub begins_line : (text : List ℕ) (frame : Frame) → Framed text (Ok frame) → suffix_len in_line (take frame.from text) ≡ 0
begins_line text _ (framed {start = start} s e n) =
    let f = first_feeds s in
    let same : start.feed ≡ start.feed + 1 - 1 = omega arith in
    suffix_len-take_no in_line text (start.feed + 1) 0 (omega arith) (omega (arith, f.0)) (subst (λ i. in_line (get_or text i 0) ≡ false) same f.1)

-- a token begins in its text
pub first_in : (bytes : List ℕ) (tokens : List Token) (at : ℕ) → AreTokens bytes tokens → at < length tokens → (d : Token) → (get_or tokens at d).from ≤ length bytes
first_in bytes tokens at are lt d = let w = within_text bytes tokens at (get_or tokens at d) are (slice_get-get_or tokens at d lt) in omega (arith, w.0, w.1)
