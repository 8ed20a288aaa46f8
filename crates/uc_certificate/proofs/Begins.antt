-- What stands behind a line begins one.
use Rattle.std.proofs.Common.{◌≡◌, ℕ, ◌+◌, ◌-◌, ◌<◌, ◌≤◌, Bool, true, false, List, length, take, drop, length-drop, length-take-le, get_or, get_or-drop, refl, sym, ap, ◌∙◌, subst, arith, Option, Some, None}
use Rattle.std.specs.List.{prefix_len, suffix_len}
use Rattle.std.proofs.lemmas.List.Folds.{length-prefix_len}
use Rattle.std.proofs.lemmas.List.Sums.{prefix_len-le-length, prefix_len_stops, suffix_len-take_no}
use Rattle.std.specs.Prelude.{nat_lt}
use Rattle.uc_clause.specs.Bytes.{in_line}
use Rattle.uc_system.specs.Lines.{Cut, first_line}
use Rattle.uc_system.proofs.FirstLines.{cut_at, no_cut}
use Rattle.uc_certificate.specs.Reads.{IsLine, IsStart}

some_cut : (a b : Cut) → Some a ≡ Some b → a ≡ b
some_cut a b e = cc

-- the first line ends at the first line feed
pub record Ends (text : List ℕ) (c : Cut) : Type 0 where
  pub line : c.line ≡ take (prefix_len in_line text) text
  pub feed : prefix_len in_line text < length text
  pub rest : c.rest ≡ drop (prefix_len in_line text + 1) text

pub first_ends : (text : List ℕ) (c : Cut) → first_line text ≡ Some c → Ends text c
first_ends text c e = go (nat_lt (prefix_len in_line text) (length text)) refl
  where
    go : (b : Bool) → nat_lt (prefix_len in_line text) (length text) ≡ b → Ends text c
    go true h =
        let lt : prefix_len in_line text < length text = grind (arith, h) in
        let cut = cut_at text (prefix_len in_line text) (prefix_len in_line text + 1) refl refl lt in
        let same : c ≡ record { line = take (prefix_len in_line text) text; rest = drop (prefix_len in_line text + 1) text } = some_cut c _ (sym e ∙ cut) in
        record { line = ap (λ (x : Cut). x.line) same; feed = lt; rest = ap (λ (x : Cut). x.rest) same }
    go false h =
        let le : length text ≤ prefix_len in_line text = grind (arith, h) in
        absurd (let bad : Some c ≡ None = sym e ∙ no_cut text le in cc)

pub behind_start : (text : List ℕ) (at : ℕ) (c : Cut) → first_line (drop at text) ≡ Some c → at + length c.line < length text → IsStart text (at + length c.line + 1)
behind_start text at c e h =
    let ends = first_ends (drop at text) c e in
    let n : ℕ = prefix_len in_line (drop at text) in
    let many : length c.line ≡ n = ap length ends.line ∙ length-prefix_len in_line (drop at text) in
    let feed : in_line (get_or (drop at text) n 0) ≡ false = prefix_len_stops in_line (drop at text) 0 ends.feed in
    let there : in_line (get_or text (at + n) 0) ≡ false = subst (λ b. in_line b ≡ false) (get_or-drop at text n 0) feed in
    let same : at + n ≡ at + length c.line + 1 - 1 = omega arith in
    suffix_len-take_no in_line text (at + length c.line + 1) 0 (omega arith) (omega arith) (subst (λ i. in_line (get_or text i 0) ≡ false) same there)

pub line_start : (text : List ℕ) (at : ℕ) (line : List ℕ) → IsLine text at line → IsStart text (at + length line + 1)
line_start text at line l = behind_start text at (record { line = line; rest = drop (at + length line + 1) text }) l.is l.within
