-- The frame of a printed proof.
use Rattle.std.proofs.Common.{◌≡◌, ℕ, ◌+◌, ◌-◌, ◌<◌, true, false, List, [], ◌∷◌, ◌++◌, length, drop, length-append, refl, sym, ap, ap₂, ◌∙◌, subst, arith, append_assoc, Option, Some, Ok}
use Rattle.std.specs.Prelude.{nat_lt, bytes_eq, slice_range}
use Rattle.std.specs.List.{list_all, prefix_len}
use Rattle.std.proofs.Math.Seq.{drop-append_seam, take-append_seam}
use Rattle.std.proofs.lemmas.Bool.{and_parts}
use Rattle.std.proofs.lemmas.Bool.Decides.{nat_tests}
use Rattle.std.proofs.lemmas.Slice.Eq.{bytes_eq-Decides}
use Rattle.uc_term.specs.Table.{Table}
use Rattle.uc_clause.specs.Bytes.{in_line}
use Rattle.uc_clause.proofs.PieceLemmas.{drop_both}
use Rattle.uc_check.specs.declared.proof.Line.{Line}
use Rattle.uc_tstp.specs.declared.framing.Frame.{Frame}
use Rattle.uc_tstp.specs.declared.framing.Span.{Span}
use Rattle.uc_tstp.specs.declared.framing.Border.TheVariants.{Start, End}
use Rattle.uc_tstp.specs.Framing.{line_length, start_words, end_words, is_start, is_end, is_border, start_name, end_name, line_at, is_same_name, FirstLine, this_line, later_line, Framed, framed}
use Rattle.uc_tstp.specs.Printing.{border_text, line_text, lines_text, names_in, proof_text}
use Rattle.uc_tstp.specs.Printable.{IsProofName}
use Rattle.uc_tstp.specs.Reading.{inside}
use Rattle.uc_tstp.proofs.PrintedPieces.{all_both}
use Rattle.uc_tstp.proofs.LinePieces.{front_text, AreInLines}

-- a line of a text, with its line feed behind it
stop_at : (front rest : List ℕ) → list_all in_line front ≡ true → prefix_len in_line (front ++ 10 ∷ rest) ≡ length front
stop_at [] rest all = refl
stop_at (b ∷ front) rest all =
    let parts = and_parts (in_line b) (list_all in_line front) all in
    rw (parts.0, stop_at front rest parts.1) (omega arith)

shorter : (front rest : List ℕ) → nat_lt (length front) (length (front ++ 10 ∷ rest)) ≡ true
shorter front rest = let e = length-append front (10 ∷ rest) in let less : length front < length (front ++ 10 ∷ rest) = omega arith in grind (arith, nat_tests, less)

length_of : (front rest : List ℕ) → list_all in_line front ≡ true → line_length (front ++ 10 ∷ rest) ≡ Some (length front)
length_of front rest all = rw (stop_at front rest all, shorter front rest) refl

record LineHere (text front rest : List ℕ) (at : ℕ) : Type 0 where
  pub measured : line_length (drop at text) ≡ Some (length front)
  pub is : slice_range text at (at + length front) ≡ front
  pub behind : drop (at + length front + 1) text ≡ rest

line_here : (text front rest : List ℕ) (at : ℕ) → drop at text ≡ front ++ 10 ∷ rest → list_all in_line front ≡ true → LineHere text front rest at
line_here text front rest at e all = record {
  measured = ap line_length e ∙ length_of front rest all;
  is = let len : at + length front - at ≡ length front = omega arith in rw (len, e) (take-append_seam front (10 ∷ rest));
  behind = sym (drop_both 1 (at + length front) text) ∙ ap (drop 1) (sym (drop_both (length front) at text) ∙ ap (drop (length front)) e ∙ drop-append_seam front (10 ∷ rest));
}

-- the lines of a proof are none of its borders
feed_last : (front more rest : List ℕ) → ((front ++ 41 ∷ 46 ∷ 10 ∷ []) ++ more) ++ rest ≡ (front ++ 41 ∷ 46 ∷ []) ++ 10 ∷ (more ++ rest)
feed_last front more rest = simp append_assoc refl

module _ (table : Table) (names : List (List ℕ)) where
  abbrev whole_front : List ℕ → Line → List ℕ
  whole_front file line = front_text table names file line ++ 41 ∷ 46 ∷ []

  no_end_line : (file : List ℕ) (line : Line) → is_end (whole_front file line) ≡ false
  no_end_line file line = refl

  passed_line : (file : List ℕ) (line : Line) (files : List (List ℕ)) (lines : List Line) (at : ℕ) → at + length (whole_front file line) + 1 + length (lines_text table names files lines) ≡ at + length (line_text table names file line ++ lines_text table names files lines)
  passed_line file line files lines at =
      let front : List ℕ = front_text table names file line in
      let more : List ℕ = lines_text table names files lines in
      omega (arith, length-append (front ++ 41 ∷ 46 ∷ 10 ∷ []) more, length-append front (41 ∷ 46 ∷ 10 ∷ []), length-append front (41 ∷ 46 ∷ []))

  no_more : (at : ℕ) → at + 0 ≡ at
  no_more at = omega arith

  pass_lines : (text rest : List ℕ) (files : List (List ℕ)) (lines : List Line) (at : ℕ) (found : Option Span) → AreInLines table names files lines → drop at text ≡ lines_text table names files lines ++ rest → FirstLine (is_border End) text (at + length (lines_text table names files lines)) found → FirstLine (is_border End) text at found
  pass_lines text rest (file ∷ files) (line ∷ lines) at found in_lines e further =
      let front : List ℕ = front_text table names file line in
      let more : List ℕ = lines_text table names files lines in
      let here = line_here text (whole_front file line) (more ++ rest) at (e ∙ feed_last front more rest) (all_both in_line front (41 ∷ 46 ∷ []) in_lines.0 refl) in
      later_line here.measured (ap is_end here.is ∙ no_end_line file line)
      (pass_lines text rest files lines (at + length (whole_front file line) + 1) found in_lines.1 here.behind (subst (λ i. FirstLine (is_border End) text i found) (sym (passed_line file line files lines at)) further))
  pass_lines text rest [] lines at found in_lines e further = subst (λ i. FirstLine (is_border End) text i found) (no_more at) further
  pass_lines text rest (file ∷ files) [] at found in_lines e further = subst (λ i. FirstLine (is_border End) text i found) (no_more at) further

-- the frame
pub record FrameOf (text lines : List ℕ) : Type 0 where
  pub frame : Frame
  pub is : Framed text (Ok frame)
  pub lines_are : inside text frame ≡ lines

regrouped : (s n l e : List ℕ) → (((s ++ n) ++ 10 ∷ []) ++ l) ++ e ≡ (s ++ n) ++ 10 ∷ (l ++ e)
regrouped s n l e = simp append_assoc refl

starts : (name : List ℕ) → 0 < length name → is_start (start_words ++ name) ≡ true
starts name some =
    let e : length (start_words ++ name) ≡ length start_words + length name = length-append start_words name in
    let less : length start_words < length (start_words ++ name) = omega arith in
    grind (arith, nat_tests, less)

ends : (name : List ℕ) → is_end (end_words ++ name) ≡ true
ends name = refl

same_names : (text name : List ℕ) (start end : Span) → line_at text start ≡ start_words ++ name → line_at text end ≡ end_words ++ name → is_same_name text start end ≡ true
same_names text name start end s e =
    let one : end_name (line_at text end) ≡ name = ap end_name e ∙ drop-append_seam end_words name in
    let other : start_name (line_at text start) ≡ name = ap start_name s ∙ drop-append_seam start_words name in
    ap₂ bytes_eq one other ∙ (bytes_eq-Decides name name).1 refl

pub frame_again : (table : Table) (name : List ℕ) (files : List (List ℕ)) (lines : List Line) → IsProofName name → AreInLines table (names_in lines) files lines → FrameOf (proof_text table name files lines) (lines_text table (names_in lines) files lines)
frame_again table name files lines named in_lines =
    let text : List ℕ = proof_text table name files lines in
    let middle : List ℕ = lines_text table (names_in lines) files lines in
    let last : List ℕ = border_text end_words name in
    let first_line : List ℕ = start_words ++ name in
    let start = line_here text first_line (middle ++ last) 0 (regrouped start_words name middle last) (all_both in_line start_words name refl named.1) in
    let from : ℕ = 0 + length first_line + 1 in
    let to : ℕ = from + length middle in
    let last_here : drop to text ≡ last = sym (drop_both (length middle) from text) ∙ ap (drop (length middle)) start.behind ∙ drop-append_seam middle last in
    let end = line_here text (end_words ++ name) [] to last_here (all_both in_line end_words name refl named.1) in
    let start_found : FirstLine (is_border Start) text 0 (Some (record { first = 0; feed = 0 + length first_line })) = this_line start.measured (ap is_start start.is ∙ starts name named.0) in
    let end_found : FirstLine (is_border End) text to (Some (record { first = to; feed = to + length (end_words ++ name) })) = this_line end.measured (ap is_end end.is ∙ ends name) in
    record {
      frame = record { from = from; to = to };
      is = framed start_found (pass_lines table (names_in lines) text last files lines from _ in_lines start.behind end_found) (same_names text name (record { first = 0; feed = 0 + length first_line }) (record { first = to; feed = to + length (end_words ++ name) }) start.is end.is);
      lines_are = let len : to - from ≡ length middle = omega arith in rw (len, start.behind) (take-append_seam middle last);
    }
