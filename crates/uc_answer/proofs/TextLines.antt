-- A text as lines.
use Rattle.std.proofs.Common.{ℕ, ◌≡◌, List, [], ◌∷◌, ◌++◌, length, sym, ap, ◌∙◌, arith, append_assoc}
use Rattle.std.proofs.lemmas.List.{append-nil}
use Rattle.uc_answer.specs.Lines.{joined}
use Rattle.uc_answer.proofs.DirectedLines.{joined_one}

pub one_more_line : (lines : List (List ℕ)) (line rest left text : List ℕ) → joined lines ++ rest ≡ text → rest ≡ line ++ left → joined (lines ++ line ∷ []) ++ left ≡ text
one_more_line lines line rest left text begun e = ap (λ t. t ++ left) (joined_one lines line) ∙ append_assoc (joined lines) line left ∙ ap (λ t. joined lines ++ t) (sym e) ∙ begun

pub all_lines : (lines : List (List ℕ)) (rest text : List ℕ) → joined lines ++ rest ≡ text → length rest ≡ 0 → joined lines ≡ text
all_lines lines [] text begun e = sym (append-nil (joined lines)) ∙ begun
all_lines lines (x ∷ xs) text begun e = absurd (omega (arith, e))
