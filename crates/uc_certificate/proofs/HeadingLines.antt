-- The lines of a text by their first bytes.
use Rattle.std.proofs.Common.{◌≡◌, ℕ, ◌+◌, ◌<◌, ◌≤◌, ◌^◌, Bool, true, false, List, length, take, drop, length-drop, refl, sym, ap, ◌∙◌, subst, arith, None}
use Rattle.std.specs.List.{prefix_len}
use Rattle.std.proofs.lemmas.List.Folds.{length-prefix_len}
use Rattle.uc_clause.specs.Bytes.{in_line}
use Rattle.uc_system.specs.declared.lines.Cursor.{Cursor}
use Rattle.uc_system.specs.Lines.{first_line}
use Rattle.uc_system.proofs.FirstLines.{none_here, next_here}
use Rattle.uc_certificate.specs.Headings.{line_from}
use Rattle.uc_certificate.specs.Reads.{IsLine}

pub line_here : (text : List ℕ) (at : ℕ) (line : List ℕ) → line ≡ line_from text at → at ≤ length text → at + length line < length text → IsLine text at line
line_here text at line e low h =
    let n : ℕ = prefix_len in_line (drop at text) in
    let many : length line ≡ n = ap length e ∙ length-prefix_len in_line (drop at text) in
    let from : Cursor = record { from = at; number = 0 } in
    let next : Cursor = record { from = at + length line + 1; number = 1 } in
    let r = next_here text (drop at text) line from next n refl refl (omega (arith, length-drop at text)) e (omega arith) (omega arith) (record { within = low; few = omega arith }) in
    record { is = r.is; within = h }

pub no_line_here : (text : List ℕ) (at : ℕ) (line : List ℕ) → line ≡ line_from text at → at ≤ length text → length text ≤ at + length line → first_line (drop at text) ≡ None
no_line_here text at line e low h =
    let many : length line ≡ prefix_len in_line (drop at text) = ap length e ∙ length-prefix_len in_line (drop at text) in
    none_here text (drop at text) at (prefix_len in_line (drop at text)) refl refl (omega (arith, length-drop at text))
