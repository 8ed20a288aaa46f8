-- The first line of a text, by how many bytes stand before the first line feed; and of a text that begins with a whole line.
use Rattle.std.proofs.Common.{◌≡◌, ℕ, zero, suc, ◌+◌, ◌<◌, ◌≤◌, ◌==◌, Bool, true, false, List, [], ◌∷◌, ◌++◌, length, length-take-le, length-drop, take, drop, refl, sym, ap, ◌∙◌, arith, subst, Some, None}
use Rattle.std.specs.List.{prefix_len, list_all}
use Rattle.std.proofs.lemmas.List.{drop-drop}
use Rattle.uc_clause.specs.Bytes.{in_line}
use Rattle.uc_table.specs.declared.lines.Cursor.{Cursor}
use Rattle.uc_table.specs.Lines.{first_line}
use Rattle.uc_table.specs.Places.{IsAt, IsNext}

-- so many bytes stand before the first line feed
abbrev CutsAt : List ℕ → Type 0
CutsAt text = (n k : ℕ) → prefix_len in_line text ≡ n → k ≡ n + 1 → n < length text → first_line text ≡ Some (record { line = take n text; rest = drop k text })

cut_by : (b : ℕ) (bs : List ℕ) (is : Bool) → (b == 10) ≡ is → CutsAt bs → CutsAt (b ∷ bs)
cut_by b bs true q more n k e f h =
    let none_before : 0 ≡ n = rw q at e in
    let en : n ≡ 0 = sym none_before in
    let ek : k ≡ 1 = omega arith in
    rw (en, ek, q) refl
cut_by b bs false q more zero k e f h = absurd (let e' : 1 + prefix_len in_line bs ≡ 0 = rw q at e in omega arith)
cut_by b bs false q more (suc n) zero e f h = absurd (omega arith)
cut_by b bs false q more (suc n) (suc k) e f h =
    let e' : 1 + prefix_len in_line bs ≡ suc n = rw q at e in
    rw (q, more n k (omega arith) (omega arith) (omega arith)) refl

pub cut_at : (text : List ℕ) → CutsAt text
cut_at [] n k e f h = absurd (omega arith)
cut_at (b ∷ bs) n k e f h = cut_by b bs (b == 10) refl (cut_at bs) n k e f h

abbrev CutsNot : List ℕ → Type 0
CutsNot text = length text ≤ prefix_len in_line text → first_line text ≡ None

no_cut_by : (b : ℕ) (bs : List ℕ) (is : Bool) → (b == 10) ≡ is → CutsNot bs → CutsNot (b ∷ bs)
no_cut_by b bs true q more h = absurd (let h' : length (b ∷ bs) ≤ 0 = rw q at h in omega arith)
no_cut_by b bs false q more h =
    let h' : length (b ∷ bs) ≤ 1 + prefix_len in_line bs = rw q at h in
    rw (q, more (omega arith)) refl

pub no_cut : (text : List ℕ) → CutsNot text
no_cut [] h = refl
no_cut (b ∷ bs) h = no_cut_by b bs (b == 10) refl (no_cut bs) h

-- a line with its line feed
abbrev CutsLine : List ℕ → List ℕ → Type 0
CutsLine line rest = list_all in_line line ≡ true → first_line (line ++ 10 ∷ rest) ≡ Some (record { line = line; rest = rest })

cut_line_by : (b : ℕ) (bs rest : List ℕ) (is : Bool) → (b == 10) ≡ is → CutsLine bs rest → CutsLine (b ∷ bs) rest
cut_line_by b bs rest true q more h = absurd (let h' : false ≡ true = rw q at h in cc)
cut_line_by b bs rest false q more h =
    let h' : list_all in_line bs ≡ true = rw q at h in
    rw (q, more h') refl

pub cut_line : (line rest : List ℕ) → CutsLine line rest
cut_line [] rest h = refl
cut_line (b ∷ bs) rest h = cut_line_by b bs rest (b == 10) refl (cut_line bs rest) h

-- the reader of a line
pub none_here : (bytes rest : List ℕ) (from n : ℕ) → rest ≡ drop from bytes → n ≡ prefix_len in_line rest → length rest ≤ n → first_line (drop from bytes) ≡ None
none_here bytes rest from n e m h = subst (λ x. first_line x ≡ None) e (no_cut rest (omega arith))

pub next_here : (bytes rest line : List ℕ) (at next : Cursor) (n : ℕ) → rest ≡ drop at.from bytes → n ≡ prefix_len in_line rest → n < length rest → line ≡ take n rest → next.from ≡ at.from + n + 1 → next.number ≡ at.number + 1 → IsAt bytes at → IsNext bytes at line next
next_here bytes rest line at next n e m h l f k a =
    let long : length rest ≡ length (drop at.from bytes) = ap length e in
    let cut = cut_at rest n (n + 1) (sym m) refl h in
    let behind : drop (n + 1) rest ≡ drop next.from bytes = ap (drop (n + 1)) e ∙ drop-drop (n + 1) at.from bytes ∙ ap (λ i. drop i bytes) (omega arith) in
    let lines : take n rest ≡ line = sym l in
    record {
      is = ap first_line (sym e) ∙ cut ∙ (λ i. Some (record { line = lines i; rest = behind i }));
      number = k;
      short = omega (arith, ap length l, length-take-le n rest (omega arith), long, length-drop at.from bytes);
      further = omega arith;
      stands = record { within = omega (arith, long, length-drop at.from bytes, a.within); few = omega (arith, a.few) };
    }
