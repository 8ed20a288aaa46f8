-- How a text is passed line by line.
use Rattle.std.proofs.Common.{◌≡◌, ℕ, suc, ◌+◌, ◌-◌, ◌<◌, List, drop, sym, ap, ◌∙◌, arith}
use Rattle.std.specs.List.{prefix_len}
use Rattle.uc_clause.specs.Bytes.{in_line}
use Rattle.uc_certificate.specs.Reading.{lines_down}

pub down_more : (count i : ℕ) (text rest behind : List ℕ) → i < count → behind ≡ drop (prefix_len in_line rest + 1) rest → lines_down (count - i) rest ≡ lines_down count text → lines_down (count - (i + 1)) behind ≡ lines_down count text
down_more count i text rest behind lt b h =
    let more : count - i ≡ suc (count - (i + 1)) = omega (arith, lt) in
    ap (lines_down (count - (i + 1))) b ∙ sym (ap (λ k. lines_down k rest) more) ∙ h

pub down_none : (count : ℕ) (text : List ℕ) → lines_down (count - 0) text ≡ lines_down count text
down_none count text = let same : count - 0 ≡ count = omega arith in ap (λ k. lines_down k text) same

pub down_all : (left count : ℕ) (text rest : List ℕ) → left ≡ 0 → lines_down left rest ≡ lines_down count text → rest ≡ lines_down count text
down_all left count text rest e h = sym (ap (λ k. lines_down k rest) e) ∙ h
