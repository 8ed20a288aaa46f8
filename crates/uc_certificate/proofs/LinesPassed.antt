-- Whole lines of a text, and how the first one that passes a test is found behind lines none of which does.
use Rattle.std.proofs.Common.{◌≡◌, ℕ, ◌+◌, ◌-◌, ◌<◌, Bool, true, List, [], ◌∷◌, ◌++◌, length, take, drop, length-append, length-drop, append_assoc, refl, sym, ap, ◌∙◌, subst, arith, Some}
use Rattle.std.specs.Prelude.{slice_range}
use Rattle.std.specs.List.{list_all, prefix_len}
use Rattle.std.proofs.Math.Seq.{drop-append_seam, take-append_seam}
use Rattle.std.proofs.lemmas.Bool.{and_parts}
use Rattle.uc_clause.specs.Bytes.{in_line}
use Rattle.uc_clause.proofs.PieceLemmas.{drop_both}
use Rattle.uc_system.specs.Lines.{first_line}
use Rattle.uc_system.proofs.FirstLines.{cut_line}
use Rattle.uc_certificate.specs.Headings.{line_from, behind_line, FirstLine, this_line, later_line, HasNoLine, nothing_stands, other_stands}

stop_at : (front rest : List ℕ) → list_all in_line front ≡ true → prefix_len in_line (front ++ 10 ∷ rest) ≡ length front
stop_at [] rest all = refl
stop_at (b ∷ front) rest all =
    let parts = and_parts (in_line b) (list_all in_line front) all in
    rw (parts.0, stop_at front rest parts.1) (omega arith)

-- behind a part of the text
pub behind_part : (text front rest : List ℕ) (at : ℕ) → drop at text ≡ front ++ rest → drop (at + length front) text ≡ rest
behind_part text front rest at e = sym (drop_both (length front) at text) ∙ ap (drop (length front)) e ∙ drop-append_seam front rest

-- a part of the text
pub part_is : (text front rest : List ℕ) (at : ℕ) → drop at text ≡ front ++ rest → slice_range text at (at + length front) ≡ front
part_is text front rest at e = let len : at + length front - at ≡ length front = omega arith in rw (len, e) (take-append_seam front rest)

-- a whole line of the text
pub record WholeLine (text line rest : List ℕ) (at : ℕ) : Type 0 where
  pub from : line_from text at ≡ line
  pub first : first_line (drop at text) ≡ Some (record { line = line; rest = rest })
  pub within : at < length text
  pub behind : drop (behind_line text at line) text ≡ rest

pub whole_line : (text line rest : List ℕ) (at : ℕ) → drop at text ≡ line ++ 10 ∷ rest → list_all in_line line ≡ true → WholeLine text line rest at
whole_line text line rest at e all = record {
  from = ap (λ t. take (prefix_len in_line t) t) e ∙ ap (λ n. take n (line ++ 10 ∷ rest)) (stop_at line rest all) ∙ take-append_seam line (10 ∷ rest);
  first = ap first_line e ∙ cut_line line rest all;
  within = omega (arith, ap length e, length-drop at text, length-append line (10 ∷ rest));
  behind = sym (drop_both 1 (at + length line) text) ∙ ap (drop 1) (behind_part text line (10 ∷ rest) at e);
}

-- the first line that passes the test is this one
pub found_line : (test : List ℕ → Bool) (text line rest : List ℕ) (at : ℕ) → WholeLine text line rest at → test line ≡ true → FirstLine text test at at
found_line test text line rest at l h = this_line l.within (ap test l.from ∙ h)

one_more : (at : ℕ) (line rest : List ℕ) → at + length line + 1 + length rest ≡ at + length (line ++ 10 ∷ rest)
one_more at line rest = omega (arith, length-append line (10 ∷ rest))

-- or stands behind these lines
pub pass_lines : (test : List ℕ → Bool) (text rest : List ℕ) (to : ℕ) {lines : List ℕ} → HasNoLine test lines → (at : ℕ) → drop at text ≡ lines ++ rest → FirstLine text test (at + length lines) to → FirstLine text test at to
pass_lines test text rest to nothing_stands at e further = let same : at + 0 ≡ at = omega arith in subst (λ i. FirstLine text test i to) same further
pass_lines test text rest to (other_stands {line = line} {rest = more} all fails_it others) at e further =
    let l = whole_line text line (more ++ rest) at (e ∙ append_assoc line (10 ∷ more) rest) all in
    let next : FirstLine text test (behind_line text at line) to = pass_lines test text rest to others (behind_line text at line) l.behind (subst (λ i. FirstLine text test i to) (sym (one_more at line more)) further) in
    later_line l.within (ap test l.from ∙ fails_it) (subst (λ x. FirstLine text test (behind_line text at x) to) (sym l.from) next)

pub no_line_both : (test : List ℕ → Bool) {one : List ℕ} (two : List ℕ) → HasNoLine test one → HasNoLine test two → HasNoLine test (one ++ two)
no_line_both test two nothing_stands b = b
no_line_both test two (other_stands {line = line} {rest = more} all fails_it others) b = subst (HasNoLine test) (sym (append_assoc line (10 ∷ more) two)) (other_stands all fails_it (no_line_both test two others b))
