-- Digits, and names and numbers that stand in one line.
use Rattle.std.proofs.Common.{◌≡◌, ℕ, ◌+◌, ◌-◌, ◌*◌, ◌<◌, ◌≤◌, ◌^◌, ◌==◌, ◌&&◌, ◌||◌, min, Bool, true, false, List, [], ◌∷◌, ◌++◌, length, get_or, take, refl, sym, subst, arith, decimal}
use Rattle.std.specs.List.{list_all}
use Rattle.std.specs.Char.{digit_value}
use Rattle.std.specs.Str.Parse.{AllDigits, digits_value}
use Rattle.std.proofs.lemmas.Bool.{and_parts, and_from}
use Rattle.std.proofs.lemmas.Bool.Decides.{nat_tests}
use Rattle.std.proofs.lemmas.Fmt.{decimal_is_IsNumeral}
use Rattle.std.proofs.lemmas.Int.Digits.{digits_value_more}
use Rattle.std.proofs.lemmas.List.{take_more}
use Rattle.std.proofs.lemmas.Str.{digit_value_digit}
use Rattle.std.proofs.lemmas.Str.Parse.{digit_from_value}
use Rattle.uc_clause.specs.Bytes.{between, is_digit, is_name, in_line}
use Rattle.uc_clause.specs.Names.{IsSpellable, spelling, escaped}

pub and_left : (a b : Bool) → (a && b) ≡ true → a ≡ true
and_left a b h = (and_parts a b h).0

pub and_right : (a b : Bool) → (a && b) ≡ true → b ≡ true
and_right a b h = (and_parts a b h).1

pub and_both : (a b : Bool) → a ≡ true → b ≡ true → (a && b) ≡ true
and_both a b e f = and_from a b e f

pub all_append : (p : ℕ → Bool) (xs ys : List ℕ) → list_all p xs ≡ true → list_all p ys ≡ true → list_all p (xs ++ ys) ≡ true
all_append p [] ys h k = k
all_append p (x ∷ xs) ys h k = and_both (p x) _ (and_left (p x) _ h) (all_append p xs ys (and_right (p x) _ h) k)

-- digits, read one by one
pub all_more : (ds : List ℕ) (i : ℕ) → i < length ds → list_all is_digit (take i ds) ≡ true → is_digit (get_or ds i 0) ≡ true → list_all is_digit (take (i + 1) ds) ≡ true
all_more ds i h all d = subst (λ x. list_all is_digit x ≡ true) (sym (take_more ds i 0 h)) (all_append is_digit (take i ds) (get_or ds i 0 ∷ []) all (and_both _ _ d refl))

pub value_more : (ds : List ℕ) (i value product next : ℕ) → i < length ds → digit_value (get_or ds i 0) ≡ get_or ds i 0 - 48 → value ≡ min (digits_value 10 (take i ds)) (2 ^ 32 - 1) → product ≡ min (value * 10) (2 ^ 32 - 1) → next ≡ min (product + (get_or ds i 0 - 48)) (2 ^ 32 - 1) → next ≡ min (digits_value 10 (take (i + 1) ds)) (2 ^ 32 - 1)
value_more ds i value product next h d v p n = let more = digits_value_more 10 ds i h in omega (arith, more, d, v, p, n)

pub digit_is : (c : ℕ) → is_digit c ≡ true → digit_value c ≡ c - 48
digit_is c h =
    let low : 48 ≤ c = grind (arith, nat_tests) in
    let high : c ≤ 57 = grind (arith, nat_tests) in
    let value : digit_value c + 48 ≡ c = digit_value_digit c (low, high) in
    omega arith

-- no line feed is among the bytes
abbrev pub InLine : List ℕ → Type 0
InLine text = list_all in_line text ≡ true

is_digit_by : (c : ℕ) → 48 ≤ c → c ≤ 57 → is_digit c ≡ true
is_digit_by c h k = grind (arith, nat_tests)

digits_are : (ds : List ℕ) → AllDigits 10 ds → list_all is_digit ds ≡ true
digits_are [] h = refl
digits_are (d ∷ ds) h = let r = digit_from_value d h.0 in and_both (is_digit d) _ (is_digit_by d r.0 r.1) (digits_are ds h.1)

digit_in_line : (d : ℕ) → is_digit d ≡ true → in_line d ≡ true
digit_in_line d h = grind (arith, nat_tests)

digits_in_line : (ds : List ℕ) → list_all is_digit ds ≡ true → InLine ds
digits_in_line [] h = refl
digits_in_line (d ∷ ds) h = and_both (in_line d) _ (digit_in_line d (and_left (is_digit d) _ h)) (digits_in_line ds (and_right (is_digit d) _ h))

pub decimal_in_line : (n : ℕ) → n < 2 ^ 64 → InLine (decimal n)
decimal_in_line n h = digits_in_line (decimal n) (digits_are (decimal n) (decimal_is_IsNumeral n h).0.1)

visible_in_line : (b : ℕ) → between 32 126 b ≡ true → in_line b ≡ true
visible_in_line b h = grind (arith, nat_tests)

word_in_line : (w : List ℕ) → list_all (between 32 126) w ≡ true → InLine w
word_in_line [] h = refl
word_in_line (b ∷ bs) h = and_both (in_line b) _ (visible_in_line b (and_left (between 32 126 b) _ h)) (word_in_line bs (and_right (between 32 126 b) _ h))

escaped_by : (b : ℕ) (bs : List ℕ) (t : Bool) → (b == 92 || b == 39) ≡ t → in_line b ≡ true → InLine (escaped bs) → InLine (escaped (b ∷ bs))
escaped_by b bs true e here rest = rw e (and_both (in_line b) _ here rest)
escaped_by b bs false e here rest = rw e (and_both (in_line b) _ here rest)

escaped_in_line : (w : List ℕ) → list_all (between 32 126) w ≡ true → InLine (escaped w)
escaped_in_line [] h = refl
escaped_in_line (b ∷ bs) h = escaped_by b bs (b == 92 || b == 39) refl (visible_in_line b (and_left (between 32 126 b) _ h)) (escaped_in_line bs (and_right (between 32 126 b) _ h))

pub spelling_in_line : (w : List ℕ) → IsSpellable w → InLine (spelling w)
spelling_in_line w s = by_name (is_name w) refl
  where
    by_name : (t : Bool) → is_name w ≡ t → InLine (spelling w)
    by_name true e = rw e (word_in_line w s.1)
    by_name false e = rw e (all_append in_line (escaped w) (39 ∷ []) (escaped_in_line w s.1) refl)
