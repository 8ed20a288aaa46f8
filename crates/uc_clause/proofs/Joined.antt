-- A text that is made of pieces which stand apart is cut into them.
use Rattle.std.proofs.Common.{◌≡◌, ℕ, ◌+◌, ◌<◌, List, [], ◌∷◌, ◌++◌, length, get_or, drop, length-append, refl, sym, ap, ◌∙◌, subst, arith, append_assoc, append-nil, Bool, true, false, ◌&&◌, ◌||◌, ⊎_elim}
use Rattle.std.specs.Prelude.{◌==◌, Ok}
use Rattle.std.specs.List.{list_all, prefix_len}
use Rattle.std.proofs.Math.Seq.{drop-append_seam, take-append_seam}
use Rattle.std.proofs.lemmas.Bool.{and_parts, or_cases, cases_Bool}
use Rattle.std.proofs.lemmas.Bool.Decides.{nat_tests}
use Rattle.uc_clause.specs.declared.token.Kind.{Kind}
use Rattle.uc_clause.specs.declared.token.Kind.TheVariants.{Lower, Upper, Quoted, Integer, Unequal, Mark}
use Rattle.uc_clause.specs.declared.token.Token.{Token}
use Rattle.uc_clause.specs.Bytes.{between, is_lower, is_upper, is_digit, is_sign, is_word, is_mark, is_name, is_digits, closes}
use Rattle.uc_clause.specs.Names.{IsSpellable, escaped, quoted, unescaped, spelling, kind_of_word, stands_for}
use Rattle.uc_clause.specs.Tokens.{Cut, end, gap, token, token_at, Stands, Skips, spells}
use Rattle.uc_clause.proofs.Once.{some_bytes}
use Rattle.uc_clause.proofs.PieceLemmas.{plain_step}
use Rattle.uc_clause.proofs.Longest.{lower_at, upper_at, digit_at, signed_at, mark_at, unequal_at, white_at, tail_is}
use Rattle.uc_clause.proofs.QuotedAt.{quoted_at}

-- a token's kind and bytes, or a byte of white space
pub data Piece : Type 0 where
  lexeme : Kind → List ℕ → Piece
  blank : ℕ → Piece

abbrev pub piece_bytes : Piece → List ℕ
piece_bytes (lexeme kind x) = x
piece_bytes (blank b) = b ∷ []

abbrev pub joined : List Piece → List ℕ
joined [] = []
joined (p ∷ ps) = piece_bytes p ++ joined ps

-- each piece is the longest at its place
abbrev pub AreApart : List Piece → Type 0
AreApart [] = Unit {0}
AreApart (lexeme kind x ∷ ps) = Stands (x ++ joined ps) kind (length x) × AreApart ps
AreApart (blank b ∷ ps) = Skips (b ∷ joined ps) 1 × AreApart ps

-- the tokens of the pieces, from this byte of the text on
abbrev pub tokens_of : List ℕ → ℕ → List Piece → List Token
tokens_of text at [] = []
tokens_of text at (lexeme kind x ∷ ps) = token_at text kind at (length x) ∷ tokens_of text (at + length x) ps
tokens_of text at (blank b ∷ ps) = tokens_of text (at + 1) ps

behind_front : (front : List ℕ) (rest text : List ℕ) → text ≡ front ++ rest → drop (length front) text ≡ rest
behind_front front rest text e = rw e (drop-append_seam front rest)

pub cut_joined : (text front : List ℕ) (ps : List Piece) → text ≡ front ++ joined ps → AreApart ps → Cut text (length front) (Ok (tokens_of text (length front) ps))
cut_joined text front [] e apart = end (omega (arith, ap length e, ap length (append-nil front)))
cut_joined text front (lexeme kind x ∷ ps) e apart =
    let here : drop (length front) text ≡ x ++ joined ps = behind_front front (x ++ joined ps) text e in
    let more : text ≡ (front ++ x) ++ joined ps = e ∙ sym (append_assoc front x (joined ps)) in
    let rest = rw length-append at (cut_joined text (front ++ x) ps more apart.1) in
    let some : 0 < length x = some_bytes kind (length x) (x ++ joined ps) apart.0.spelled in
    let inside : length front < length text = omega (arith, ap length e, length-append front (x ++ joined ps), length-append x (joined ps)) in
    token inside (rw here apart.0) rest
cut_joined text front (blank b ∷ ps) e apart =
    let here : drop (length front) text ≡ b ∷ joined ps = behind_front front (b ∷ joined ps) text e in
    let more : text ≡ (front ++ b ∷ []) ++ joined ps = e ∙ sym (append_assoc front (b ∷ []) (joined ps)) in
    let rest = rw length-append at (cut_joined text (front ++ b ∷ []) ps more apart.1) in
    let inside : length front < length text = omega (arith, ap length e, length-append front (b ∷ joined ps)) in
    gap inside (rw here apart.0) rest

pub cut_pieces : (ps : List Piece) → AreApart ps → Cut (joined ps) 0 (Ok (tokens_of (joined ps) 0 ps))
cut_pieces ps apart = cut_joined (joined ps) [] ps refl apart

-- words before what no word goes on with
prefix_stop : (p : ℕ → Bool) (bs rest : List ℕ) → list_all p bs ≡ true → prefix_len p rest ≡ 0 → prefix_len p (bs ++ rest) ≡ length bs
prefix_stop p [] rest all none = none
prefix_stop p (b ∷ bs) rest all none =
    let parts = and_parts (p b) (list_all p bs) all in
    rw (parts.0, prefix_stop p bs rest parts.1 none) (omega arith)

one_and : (b : ℕ) (bs : List ℕ) → 1 + length bs ≡ length (b ∷ bs)
one_and b bs = omega arith

pub lower_stands : (x rest : List ℕ) → is_name x ≡ true → prefix_len is_word rest ≡ 0 → Stands (x ++ rest) Lower (length x)
lower_stands [] rest s none = cc
lower_stands (b ∷ bs) rest s none =
    let parts = and_parts (is_lower b) (list_all is_word bs) s in
    subst (Stands (b ∷ bs ++ rest) Lower) (one_and b bs) (lower_at (b ∷ bs ++ rest) (length bs) (omega arith) parts.0 (rw (tail_is b (bs ++ rest)) (sym (prefix_stop is_word bs rest parts.1 none))))

pub upper_stands : (b : ℕ) (bs rest : List ℕ) → is_upper b ≡ true → list_all is_word bs ≡ true → prefix_len is_word rest ≡ 0 → Stands (b ∷ bs ++ rest) Upper (length (b ∷ bs))
upper_stands b bs rest u all none =
    subst (Stands (b ∷ bs ++ rest) Upper) (one_and b bs) (upper_at (b ∷ bs ++ rest) (length bs) (omega arith) u (rw (tail_is b (bs ++ rest)) (sym (prefix_stop is_word bs rest all none))))

some_digits : (bs : List ℕ) → is_digits bs ≡ true → (length bs ≡ 0 → ⊥) × (list_all is_digit bs ≡ true)
some_digits [] s = cc
some_digits (b ∷ bs) s = ((λ none. omega arith), s)

pub integer_stands : (x rest : List ℕ) → spells Integer x ≡ true → prefix_len is_digit rest ≡ 0 → Stands (x ++ rest) Integer (length x)
integer_stands [] rest s none = cc
integer_stands (b ∷ bs) rest s none =
    ⊎_elim
    (λ signed.
    let parts = and_parts (is_sign b) (is_digits bs) signed in
    let digits = some_digits bs parts.1 in
    subst (Stands (b ∷ bs ++ rest) Integer) (one_and b bs) (signed_at (b ∷ bs ++ rest) (length bs) (omega arith) parts.0 (rw (tail_is b (bs ++ rest)) (sym (prefix_stop is_digit bs rest digits.1 none))) digits.0))
    (λ plain.
    let parts = and_parts (is_digit b) (list_all is_digit bs) plain in
    subst (Stands (b ∷ bs ++ rest) Integer) (one_and b bs) (digit_at (b ∷ bs ++ rest) (length bs) (omega arith) parts.0 (rw (tail_is b (bs ++ rest)) (sym (prefix_stop is_digit bs rest parts.1 none)))))
    (or_cases (is_sign b && is_digits bs) (is_digit b && list_all is_digit bs) s)

-- marks
pub mark_stands : (b : ℕ) (rest : List ℕ) → is_mark b ≡ true → is_sign b ≡ false → (b ≡ 36 → ⊥) → (b ≡ 33 → ⊥) → (b ≡ 47 → ⊥) → Stands (b ∷ rest) Mark 1
mark_stands b rest m s d u h = mark_at (b ∷ rest) (omega arith) m s d u h

pub unequal_stands : (rest : List ℕ) → Stands (33 ∷ 61 ∷ rest) Unequal 2
unequal_stands rest = unequal_at (33 ∷ 61 ∷ rest) (omega arith) refl refl

pub blank_skips : (rest : List ℕ) → Skips (32 ∷ rest) 1
blank_skips rest = white_at (32 ∷ rest) (omega arith) refl

escape_closes : (b : ℕ) (y : List ℕ) → (b == 92 || b == 39) ≡ true → closes 39 (92 ∷ b ∷ y) ≡ closes 39 y
escape_closes b y e = rw e refl

plain_closes : (b : ℕ) (y : List ℕ) → between 32 126 b ≡ true → (b == 92 || b == 39) ≡ false → closes 39 (b ∷ y) ≡ closes 39 y
plain_closes b y w e = plain_step 39 b y (λ h. grind (arith, nat_tests)) (λ h. grind (arith, nat_tests)) (grind (arith, nat_tests)) (grind (arith, nat_tests))

escaped_on : (b : ℕ) (w : List ℕ) → (b == 92 || b == 39) ≡ true → escaped (b ∷ w) ≡ 92 ∷ b ∷ escaped w
escaped_on b w e = rw e refl

escaped_off : (b : ℕ) (w : List ℕ) → (b == 92 || b == 39) ≡ false → escaped (b ∷ w) ≡ b ∷ escaped w
escaped_off b w e = rw e refl

pub closes_escaped : (w : List ℕ) → list_all (between 32 126) w ≡ true → closes 39 (escaped w ++ 39 ∷ []) ≡ true
closes_escaped [] all = refl
closes_escaped (b ∷ w) all =
    let parts = and_parts (between 32 126 b) (list_all (between 32 126) w) all in
    ⊎_elim
    (λ e. rw (escaped_on b w e) (escape_closes b (escaped w ++ 39 ∷ []) e ∙ closes_escaped w parts.1))
    (λ e. rw (escaped_off b w e) (plain_closes b (escaped w ++ 39 ∷ []) parts.0 e ∙ closes_escaped w parts.1))
    (cases_Bool (b == 92 || b == 39))

-- pieces with a quote behind them aren't nothing
plain_first : (b : ℕ) (y : List ℕ) → (b == 92) ≡ false → (z : List ℕ) → unescaped (b ∷ y ++ 39 ∷ z) ≡ b ∷ unescaped (y ++ 39 ∷ z)
plain_first b [] e z = rw e refl
plain_first b (c ∷ y) e z = rw e refl

pub unescaped-escaped : (w : List ℕ) → unescaped (escaped w ++ 39 ∷ []) ≡ w
unescaped-escaped [] = refl
unescaped-escaped (b ∷ w) =
    ⊎_elim
    (λ e. rw (escaped_on b w e) (ap (λ l. b ∷ l) (unescaped-escaped w)))
    (λ e. rw (escaped_off b w e) (plain_first b (escaped w) (grind (arith, nat_tests)) [] ∙ ap (λ l. b ∷ l) (unescaped-escaped w)))
    (cases_Bool (b == 92 || b == 39))

first_escaped : (b : ℕ) (w rest : List ℕ) → get_or (escaped (b ∷ w) ++ rest) 0 0 ≡ 39 → ⊥
first_escaped b w rest h = ⊎_elim (λ e. let y = rw (escaped_on b w e) at h in omega arith) (λ e. let y : b ≡ 39 = rw (escaped_off b w e) at h in grind (arith, nat_tests)) (cases_Bool (b == 92 || b == 39))

pub quoted_stands : (w rest : List ℕ) → IsSpellable w → Stands (quoted w ++ rest) Quoted (length (quoted w))
quoted_stands [] rest spellable = absurd (omega (arith, spellable.0))
quoted_stands (b ∷ w) rest spellable =
    let inner : List ℕ = escaped (b ∷ w) ++ 39 ∷ [] in
    let closed : closes 39 inner ≡ true = closes_escaped (b ∷ w) spellable.1 in
    let len : length inner ≡ length (escaped (b ∷ w)) + 1 = length-append (escaped (b ∷ w)) (39 ∷ []) in
    let whole : length (39 ∷ inner ++ rest) ≡ 1 + (length inner + length rest) = omega (arith, length-append inner rest) in
    subst (Stands (39 ∷ inner ++ rest) Quoted) (one_and 39 inner)
    (quoted_at (39 ∷ inner ++ rest) (length inner) (omega arith) refl (λ one. omega arith)
    (λ h. first_escaped b w (39 ∷ [] ++ rest) (ap (λ l. get_or l 0 0) (sym (append_assoc (escaped (b ∷ w)) (39 ∷ []) rest)) ∙ h))
    (rw (tail_is 39 (inner ++ rest)) (omega (arith, length-append inner rest)))
    (rw (tail_is 39 (inner ++ rest), take-append_seam inner rest) closed))

-- a word as it is printed
pub spelling_stands : (w rest : List ℕ) → IsSpellable w → prefix_len is_word rest ≡ 0 → Stands (spelling w ++ rest) (kind_of_word w) (length (spelling w))
spelling_stands w rest spellable none =
    ⊎_elim (λ e. rw e (lower_stands w rest e none)) (λ e. rw e (quoted_stands w rest spellable)) (cases_Bool (is_name w))

pub stands_for_spelling : (w : List ℕ) → stands_for (kind_of_word w) (spelling w) ≡ w
stands_for_spelling w = ⊎_elim (λ e. rw e refl) (λ e. rw e (unescaped-escaped w)) (cases_Bool (is_name w))
