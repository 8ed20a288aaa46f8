-- Printed texts as pieces which stand apart and have no line feed.
use Rattle.std.proofs.Common.{◌≡◌, ℕ, ◌+◌, ◌<◌, ◌≤◌, Bool, true, false, List, [], ◌∷◌, ◌++◌, length, refl, sym, ap, ◌∙◌, subst, arith, append_assoc, ⊎_elim}
use Rattle.std.specs.Prelude.{decimal, ◌==◌, ◌&&◌, ◌||◌, if◌then◌else◌, MatchBool}
use Rattle.std.specs.List.{list_all, prefix_len, AllByRecursion}
use Rattle.std.specs.Str.Parse.{AllDigits}
use Rattle.std.proofs.lemmas.Bool.{cases_Bool, and_from, and_parts, or_cases, or_right}
use Rattle.std.proofs.lemmas.Bool.Decides.{nat_tests}
use Rattle.std.proofs.lemmas.List.Folds.{list_all-append}
use Rattle.std.proofs.lemmas.Fmt.{decimal_is_IsNumeral}
use Rattle.std.proofs.lemmas.Str.Parse.{tells_digits}
use Rattle.uc_term.specs.Tree.{Tree, var, app, Trees, none, more}
use Rattle.uc_term.specs.Over.{AreOver}
use Rattle.uc_term.specs.Table.{Table, name_of, arity_of}
use Rattle.uc_clause.specs.declared.clause.Name.{Name}
use Rattle.uc_clause.specs.declared.token.Kind.TheVariants.{Lower, Integer, Mark}
use Rattle.uc_clause.specs.Bytes.{in_line, is_digit, is_word, is_lower, is_sign, is_digits, is_mark, is_name, between}
use Rattle.uc_clause.specs.Names.{IsSpellable, IsSpellableName, spelling, escaped, kind_of_word, name_spelling}
use Rattle.uc_clause.specs.Tokens.{spells}
use Rattle.uc_clause.specs.Printing.{term_text, args_text, rest_text, sign_text, equation_text}
use Rattle.uc_clause.specs.Printable.{IsPrintableSymbol, IsNumbered}
use Rattle.uc_clause.proofs.Joined.{Piece, lexeme, blank, joined, AreApart, mark_stands, blank_skips, lower_stands, integer_stands, spelling_stands}
use Rattle.uc_clause.proofs.Printed.{IsReadable, Parts, term_pieces, joined_term, apart_term, number_words}
use Rattle.uc_clause.proofs.PrintedClause.{name_kind, name_stands, sign_pieces, joined_sign, sign_apart, sign_parts}
use Rattle.uc_tstp.specs.Printing.{listed, further}

-- what a text needs behind it: where a word may go on, a byte with which none does
abbrev pub Ends : Bool → List Piece → Type 0
Ends true ps = Parts ps
Ends false ps = Unit {0}

-- the text is these pieces, whatever stands behind it
pub record Spells (in_word : Bool) (text : List ℕ) (pieces : List Piece → List Piece) : Type 0 where
  pub whole : (ps : List Piece) → joined (pieces ps) ≡ text ++ joined ps
  pub apart : (ps : List Piece) → AreApart ps → Ends in_word ps → AreApart (pieces ps)
  pub one_line : list_all in_line text ≡ true

pub all_both : (p : ℕ → Bool) (xs ys : List ℕ) → list_all p xs ≡ true → list_all p ys ≡ true → list_all p (xs ++ ys) ≡ true
all_both p xs ys h k = list_all-append p xs ys ∙ and_from (list_all p xs) (list_all p ys) h k

-- one text behind another
pub followed : {a b : Bool} {x y : List ℕ} {p q : List Piece → List Piece} → Spells a x p → Spells b y q → ((ps : List Piece) → Ends b ps → Ends a (q ps)) → Spells b (x ++ y) (λ ps. p (q ps))
followed {a} {b} {x} {y} {p} {q} s t front = record {
  whole = λ ps. s.whole (q ps) ∙ ap (λ l. x ++ l) (t.whole ps) ∙ sym (append_assoc x y (joined ps));
  apart = λ ps apart ends. s.apart (q ps) (t.apart ps apart ends) (front ps ends);
  one_line = all_both in_line x y s.one_line t.one_line;
}

pub nothing_spells : Spells true [] (λ ps. ps)
nothing_spells = record { whole = λ ps. refl; apart = λ ps apart ends. apart; one_line = refl }

-- what needs nothing behind it needs no end of a word
pub ended : {x : List ℕ} {p : List Piece → List Piece} → Spells false x p → Spells true x p
ended s = record { whole = s.whole; apart = λ ps apart ends. s.apart ps apart tt; one_line = s.one_line }

-- marks
abbrev pub mark : ℕ → List Piece → List Piece
mark b ps = lexeme Mark (b ∷ []) ∷ ps

pub mark_spells : (b : ℕ) → is_mark b ≡ true → is_sign b ≡ false → (b ≡ 36 → ⊥) → (b ≡ 33 → ⊥) → (b ≡ 47 → ⊥) → list_all in_line (b ∷ []) ≡ true → Spells false (b ∷ []) (mark b)
mark_spells b m s d u h l = record { whole = λ ps. refl; apart = λ ps apart ends. (mark_stands b (joined ps) m s d u h, apart); one_line = l }

pub open_spells : Spells false (40 ∷ []) (mark 40)
open_spells = mark_spells 40 refl refl (λ h. omega arith) (λ h. omega arith) (λ h. omega arith) refl

pub close_spells : Spells false (41 ∷ []) (mark 41)
close_spells = mark_spells 41 refl refl (λ h. omega arith) (λ h. omega arith) (λ h. omega arith) refl

pub open_square_spells : Spells false (91 ∷ []) (mark 91)
open_square_spells = mark_spells 91 refl refl (λ h. omega arith) (λ h. omega arith) (λ h. omega arith) refl

pub close_square_spells : Spells false (93 ∷ []) (mark 93)
close_square_spells = mark_spells 93 refl refl (λ h. omega arith) (λ h. omega arith) (λ h. omega arith) refl

pub bare_comma_spells : Spells false (44 ∷ []) (mark 44)
bare_comma_spells = mark_spells 44 refl refl (λ h. omega arith) (λ h. omega arith) (λ h. omega arith) refl

pub dot_spells : Spells false (46 ∷ []) (mark 46)
dot_spells = mark_spells 46 refl refl (λ h. omega arith) (λ h. omega arith) (λ h. omega arith) refl

-- a comma and a space
abbrev pub comma : List Piece → List Piece
comma ps = mark 44 (blank 32 ∷ ps)

pub comma_spells : Spells false (44 ∷ 32 ∷ []) comma
comma_spells = record {
  whole = λ ps. refl;
  apart = λ ps apart ends. (mark_stands 44 (32 ∷ joined ps) refl refl (λ h. omega arith) (λ h. omega arith) (λ h. omega arith), (blank_skips (joined ps), apart));
  one_line = refl;
}

-- bytes of words, digits and what is spelled end no line
word_in_line : (b : ℕ) → is_word b ≡ true → in_line b ≡ true
word_in_line b w = grind (arith, nat_tests)

words_in_line : (bs : List ℕ) → list_all is_word bs ≡ true → list_all in_line bs ≡ true
words_in_line [] all = refl
words_in_line (b ∷ bs) all = let parts = and_parts (is_word b) (list_all is_word bs) all in and_from (in_line b) (list_all in_line bs) (word_in_line b parts.0) (words_in_line bs parts.1)

name_in_line : (w : List ℕ) → is_name w ≡ true → list_all in_line w ≡ true
name_in_line [] s = cc
name_in_line (b ∷ bs) s =
    let parts = and_parts (is_lower b) (list_all is_word bs) s in
    and_from (in_line b) (list_all in_line bs) (grind (arith, nat_tests, parts.0)) (words_in_line bs parts.1)

digits_in_line : (bs : List ℕ) → list_all is_digit bs ≡ true → list_all in_line bs ≡ true
digits_in_line [] all = refl
digits_in_line (b ∷ bs) all = let parts = and_parts (is_digit b) (list_all is_digit bs) all in and_from (in_line b) (list_all in_line bs) (grind (arith, nat_tests, parts.0)) (digits_in_line bs parts.1)

plain_in_line : (b : ℕ) → between 32 126 b ≡ true → in_line b ≡ true
plain_in_line b w = grind (arith, nat_tests)

escaped_in_line : (w : List ℕ) → list_all (between 32 126) w ≡ true → list_all in_line (escaped w) ≡ true
escaped_in_line [] all = refl
escaped_in_line (b ∷ w) all =
    let parts = and_parts (between 32 126 b) (list_all (between 32 126) w) all in
    let rest = and_from (in_line b) (list_all in_line (escaped w)) (plain_in_line b parts.0) (escaped_in_line w parts.1) in
    ⊎_elim (λ e. rw e rest) (λ e. rw e rest) (cases_Bool (b == 92 || b == 39))

spelling_in_line : (w : List ℕ) → IsSpellable w → list_all in_line (spelling w) ≡ true
spelling_in_line w spellable = ⊎_elim (λ e. rw e (name_in_line w e)) (λ e. rw e (all_both in_line (escaped w) (39 ∷ []) (escaped_in_line w spellable.1) refl)) (cases_Bool (is_name w))

integer_in_line : (x : List ℕ) → spells Integer x ≡ true → list_all in_line x ≡ true
integer_in_line [] s = cc
integer_in_line (b ∷ bs) s =
    ⊎_elim
    (λ signed.
    let parts = and_parts (is_sign b) (is_digits bs) signed in
    and_from (in_line b) (list_all in_line bs) (grind (arith, nat_tests, parts.0)) (digits_in_line bs (some bs parts.1)))
    (λ plain. digits_in_line (b ∷ bs) plain)
    (or_cases (is_sign b && is_digits bs) (is_digit b && list_all is_digit bs) s)
  where
    some : (bs : List ℕ) → is_digits bs ≡ true → list_all is_digit bs ≡ true
    some [] s = cc
    some (b ∷ bs) s = s

-- words
abbrev pub lower : List ℕ → List Piece → List Piece
lower w ps = lexeme Lower w ∷ ps

pub lower_spells : (w : List ℕ) → is_name w ≡ true → Spells true w (lower w)
lower_spells w is = record { whole = λ ps. refl; apart = λ ps apart ends. (lower_stands w (joined ps) is ends, apart); one_line = name_in_line w is }

bare : (w : List ℕ) → is_name w ≡ true → spelling w ≡ w
bare w is = rw is refl

pub bare_spells : (w : List ℕ) → is_name w ≡ true → Spells true (spelling w) (lower w)
bare_spells w is = subst (λ x. Spells true x (lower w)) (sym (bare w is)) (lower_spells w is)

abbrev pub word : List ℕ → List Piece → List Piece
word w ps = lexeme (kind_of_word w) (spelling w) ∷ ps

pub word_spells : (w : List ℕ) → IsSpellable w → Spells true (spelling w) (word w)
word_spells w spellable = record { whole = λ ps. refl; apart = λ ps apart ends. (spelling_stands w (joined ps) spellable ends, apart); one_line = spelling_in_line w spellable }

abbrev pub name : Name → List Piece → List Piece
name n ps = lexeme (name_kind n) (name_spelling n) ∷ ps

no_digit : (b : ℕ) → is_word b ≡ false → is_digit b ≡ false
no_digit b w = grind (arith, nat_tests)

no_digits : (rest : List ℕ) → prefix_len is_word rest ≡ 0 → prefix_len is_digit rest ≡ 0
no_digits [] n = refl
no_digits (b ∷ bs) n = ⊎_elim (λ w. absurd (go w n)) (λ w. rw (no_digit b w) refl) (cases_Bool (is_word b))
  where
    go : is_word b ≡ true → prefix_len is_word (b ∷ bs) ≡ 0 → ⊥
    go e f = let g = rw e at f in omega arith

name_text_in_line : (text : List ℕ) (integer : Bool) → MatchBool integer (spells Integer text ≡ true) (IsSpellable text) → list_all in_line (if integer then text else spelling text) ≡ true
name_text_in_line text true s = integer_in_line text s
name_text_in_line text false s = spelling_in_line text s

pub name_spells : (n : Name) → IsSpellableName n → Spells true (name_spelling n) (name n)
name_spells n spellable = record {
  whole = λ ps. refl;
  apart = λ ps apart ends. (name_stands n.text (joined ps) n.integer spellable ends (no_digits (joined ps) ends), apart);
  one_line = name_text_in_line n.text n.integer spellable;
}

-- numbers
abbrev pub number : ℕ → List Piece → List Piece
number n ps = lexeme Integer (decimal n) ∷ ps

digits_are : (ds : List ℕ) → AllDigits 10 ds → list_all is_digit ds ≡ true
digits_are [] all = refl
digits_are (d ∷ ds) all = let parts = tells_digits.parts d ds all in and_from (is_digit d) (list_all is_digit ds) (grind (arith, nat_tests, parts.0)) (digits_are ds parts.1)

integer_of : (ds : List ℕ) → 0 < length ds → list_all is_digit ds ≡ true → spells Integer ds ≡ true
integer_of [] some all = absurd (omega arith)
integer_of (d ∷ ds) some all = or_right (is_sign d && is_digits ds) (list_all is_digit (d ∷ ds)) all

pub decimal_digits : (n : ℕ) → n ≤ 255 → list_all is_digit (decimal n) ≡ true
decimal_digits n h = digits_are (decimal n) (decimal_is_IsNumeral n (omega arith)).0.1

pub decimal_some : (n : ℕ) → n ≤ 255 → 0 < length (decimal n)
decimal_some n h = (decimal_is_IsNumeral n (omega arith)).0.0

pub number_spells : (n : ℕ) → n ≤ 255 → Spells true (decimal n) (number n)
number_spells n h = record {
  whole = λ ps. refl;
  apart = λ ps apart ends. (integer_stands (decimal n) (joined ps) (integer_of (decimal n) (decimal_some n h) (decimal_digits n h)) (no_digits (joined ps) ends), apart);
  one_line = digits_in_line (decimal n) (decimal_digits n h);
}

-- terms
module _ (table : Table) where
  mutual
    term_in_line : (t : Tree) → IsReadable table t → list_all in_line (term_text table t) ≡ true
    term_in_line (var n) readable = words_in_line (decimal (n + 1)) (number_words n readable)
    term_in_line (app f ts) readable = all_both in_line (spelling (name_of table f)) (args_text table ts) (spelling_in_line (name_of table f) readable.0.1) (args_in_line ts readable.2)

    args_in_line : (ts : Trees) → AreOver (IsPrintableSymbol table) (arity_of table) IsNumbered ts → list_all in_line (args_text table ts) ≡ true
    args_in_line none readable = refl
    args_in_line (more t ts) readable = all_both in_line (term_text table t) (rest_text table ts) (term_in_line t readable.0) (rest_in_line ts readable.1)

    rest_in_line : (ts : Trees) → AreOver (IsPrintableSymbol table) (arity_of table) IsNumbered ts → list_all in_line (rest_text table ts) ≡ true
    rest_in_line none readable = refl
    rest_in_line (more t ts) readable = all_both in_line (term_text table t) (rest_text table ts) (term_in_line t readable.0) (rest_in_line ts readable.1)

  pub term_spells : (t : Tree) → IsReadable table t → Spells true (term_text table t) (term_pieces table t)
  term_spells t readable = record { whole = joined_term table t; apart = λ ps apart ends. apart_term table t ps readable apart ends; one_line = term_in_line t readable }

  -- equations
  abbrev pub equation_pieces : Bool → Tree → Tree → List Piece → List Piece
  equation_pieces positive left right ps = term_pieces table left (sign_pieces positive (term_pieces table right ps))

  sign_in_line : (positive : Bool) → list_all in_line (sign_text positive) ≡ true
  sign_in_line true = refl
  sign_in_line false = refl

  sign_spells : (positive : Bool) → Spells false (sign_text positive) (sign_pieces positive)
  sign_spells positive = record { whole = joined_sign positive; apart = λ ps apart ends. sign_apart positive ps apart; one_line = sign_in_line positive }

  pub equation_spells : (positive : Bool) (left right : Tree) → IsReadable table left → IsReadable table right → Spells true (equation_text table positive left right) (equation_pieces positive left right)
  equation_spells positive left right h k = followed (followed (term_spells left h) (sign_spells positive) (λ ps ends. sign_parts positive ps)) (term_spells right k) (λ ps ends. tt)

-- lists with texts between their members
module _ {A : Type 0} (between : List ℕ) (text : A → List ℕ) (gap : List Piece → List Piece) (pieces : A → List Piece → List Piece) where
  abbrev pub further_pieces : List A → List Piece → List Piece
  further_pieces [] ps = ps
  further_pieces (x ∷ xs) ps = gap (pieces x (further_pieces xs ps))

  abbrev pub listed_pieces : List A → List Piece → List Piece
  listed_pieces [] ps = ps
  listed_pieces (x ∷ xs) ps = pieces x (further_pieces xs ps)

  module _ (gap_spells : Spells false between gap) (gap_parts : (ps : List Piece) → Parts (gap ps)) where
    further_parts : (xs : List A) (ps : List Piece) → Parts ps → Parts (further_pieces xs ps)
    further_parts [] ps parts = parts
    further_parts (x ∷ xs) ps parts = gap_parts (pieces x (further_pieces xs ps))

    pub further_spells : (xs : List A) → AllByRecursion (λ x. Spells true (text x) (pieces x)) xs → Spells true (further between text xs) (further_pieces xs)
    further_spells [] all = nothing_spells
    further_spells (x ∷ xs) all = followed (followed gap_spells all.0 (λ ps ends. tt)) (further_spells xs all.1) (λ ps ends. further_parts xs ps ends)

    pub listed_spells : (xs : List A) → AllByRecursion (λ x. Spells true (text x) (pieces x)) xs → Spells true (listed between text xs) (listed_pieces xs)
    listed_spells [] all = nothing_spells
    listed_spells (x ∷ xs) all = followed all.0 (further_spells xs all.1) (λ ps ends. further_parts xs ps ends)
