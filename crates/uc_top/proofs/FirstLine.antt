-- The first line of a text, by how many bytes stand before its first line feed.
use Rattle.std.proofs.Common.{◌≡◌, ℕ, zero, suc, ◌+◌, ◌<◌, ◌≤◌, ◌==◌, Bool, true, false, List, [], ◌∷◌, ◌++◌, length, take, refl, sym, ap, arith}
use Rattle.std.specs.List.{prefix_len, list_all}
use Rattle.std.proofs.lemmas.Bool.{eqb-true}
use Rattle.std.proofs.Math.Seq.{take_all}
use Rattle.uc_clause.specs.Bytes.{in_line}
use Rattle.uc_top.specs.Given.{IsFirstLine, feed_ends, text_ends}

-- the text has these bytes, none of them a line feed, and then one
record IsCut (text body : List ℕ) : Type 0 where
  none : list_all in_line body ≡ true
  rest : List ℕ
  is : text ≡ body ++ 10 ∷ rest

abbrev HasFeed : List ℕ → Type 0
HasFeed text = (n : ℕ) → prefix_len in_line text ≡ n → n < length text → IsCut text (take n text)

one_byte : (b : ℕ) (bs : List ℕ) (is : Bool) → (b == 10) ≡ is → HasFeed bs → HasFeed (b ∷ bs)
one_byte b bs true q more n e h =
    let none_before : 0 ≡ n = rw q at e in
    rw (sym none_before) (record { none = refl; rest = bs; is = ap (λ x. x ∷ bs) (eqb-true b 10 q) })
one_byte b bs false q more zero e h = absurd (let e' : 1 + prefix_len in_line bs ≡ 0 = rw q at e in omega arith)
one_byte b bs false q more (suc n) e h =
    let e' : 1 + prefix_len in_line bs ≡ suc n = rw q at e in
    let cut = more n (omega arith) (omega arith) in
    record { none = rw q cut.none; rest = cut.rest; is = ap (λ t. b ∷ t) cut.is }

has_feed : (text : List ℕ) → HasFeed text
has_feed [] n e h = absurd (omega arith)
has_feed (b ∷ bs) n e h = one_byte b bs (b == 10) refl (has_feed bs) n e h

-- no line feed is there
abbrev HasNone : List ℕ → Type 0
HasNone text = length text ≤ prefix_len in_line text → list_all in_line text ≡ true

no_byte : (b : ℕ) (bs : List ℕ) (is : Bool) → (b == 10) ≡ is → HasNone bs → HasNone (b ∷ bs)
no_byte b bs true q more h = absurd (let h' : length (b ∷ bs) ≤ 0 = rw q at h in omega arith)
no_byte b bs false q more h =
    let h' : length (b ∷ bs) ≤ 1 + prefix_len in_line bs = rw q at h in
    rw q (more (omega arith))

has_none : (text : List ℕ) → HasNone text
has_none [] h = refl
has_none (b ∷ bs) h = no_byte b bs (b == 10) refl (has_none bs) h

-- the bytes up to and with the line feed
with_feed : (text : List ℕ) (n k : ℕ) → k ≡ n + 1 → n < length text → (rest : List ℕ) → text ≡ take n text ++ 10 ∷ rest → take k text ≡ take n text ++ 10 ∷ []
with_feed [] n k f h rest e = absurd (omega arith)
with_feed (b ∷ bs) zero k f h rest e = let one : k ≡ 1 = omega arith in rw one (ap (take 1) e)
with_feed (b ∷ bs) (suc n) zero f h rest e = absurd (omega arith)
with_feed (b ∷ bs) (suc n) (suc k) f h rest e = ap (λ t. b ∷ t) (with_feed bs n k (omega arith) (omega arith) rest (tail_is e))
  where
    tail_is : {xs ys : List ℕ} → b ∷ xs ≡ b ∷ ys → xs ≡ ys
    tail_is e = cc

pub line_with_feed : (text : List ℕ) (n : ℕ) → n ≡ prefix_len in_line text → n < length text → IsFirstLine text (take (n + 1) text)
line_with_feed text n e h =
    let cut = has_feed text n (sym e) h in
    rw (with_feed text n (n + 1) refl h cut.rest cut.is) (feed_ends _ cut.rest cut.none cut.is)

pub line_without : (text : List ℕ) (n : ℕ) → n ≡ prefix_len in_line text → length text ≤ n → 0 < length text → IsFirstLine text (take n text)
line_without text n e h some = rw (take_all n text h) (text_ends (has_none text (omega arith)) some)
