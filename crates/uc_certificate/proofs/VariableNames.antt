-- The names of variables.
use Rattle.std.proofs.Common.{◌≡◌, ℕ, zero, suc, ◌+◌, ◌-◌, ◌<◌, ◌≤◌, ◌^◌, ◌==◌, Bool, true, false, not, ◌&&◌, List, [], ◌∷◌, ◌++◌, length, length-append, get_or, decimal, Option, Some, None, refl, sym, ap, ◌∙◌, subst, arith, ◌⊎◌, inl, inr}
use Rattle.std.specs.Prelude.{nat_eq, nat_le, nat_lt, slice_get, bytes_eq, if◌then◌else◌, IfSome, ◌||◌}
use Rattle.std.specs.List.{list_all, list_any}
use Rattle.std.specs.Str.Parse.{digits_value}
use Rattle.std.proofs.lemmas.Bool.{and_parts}
use Rattle.std.proofs.lemmas.Bool.Decides.{nat_tests}
use Rattle.std.proofs.lemmas.Fmt.{decimal-digits_value}
use Rattle.std.proofs.lemmas.Str.Parse.{IsNumeralModel, IsDigitsTest, numerals_by_value}
use Rattle.std.proofs.lemmas.Slice.Eq.{bytes_eq-Decides}
use Rattle.uc_clause.specs.declared.token.Token.{Token}
use Rattle.uc_clause.specs.declared.terminal.Terminal.{Terminal}
use Rattle.uc_clause.specs.declared.terminal.Terminal.TheVariants.{Upper}
use Rattle.uc_clause.specs.Bytes.{is_digits, is_digit}
use Rattle.uc_clause.specs.Terminals.{terminal_at, bytes_at}
use Rattle.uc_clause.specs.Meaning.{Variables, with_name}
use Rattle.uc_clause.specs.Printing.{variable_text}
use Rattle.uc_clause.proofs.Ends.{some_other}
use Rattle.uc_system.proofs.Splits.{and_left, and_right, and_both}
use Rattle.uc_system.proofs.Decimals.{decimal_value}
use Rattle.uc_certificate.specs.JoinLines.{variable_of, begins_with_zero, named_by, variable_by, MOST_VARIABLES}
use Rattle.uc_certificate.specs.Reads.{AreVariables}

range : (c : ℕ) → is_digit c ≡ true → (48 ≤ c) × (c ≤ 57)
range c h =
    let low : 48 ≤ c = grind (arith, nat_tests) in
    let high : c ≤ 57 = grind (arith, nat_tests) in
    (low, high)

in_range : (c : ℕ) → (48 ≤ c) × (c ≤ 57) → is_digit c ≡ true
in_range c h = let low : 48 ≤ c = h.0 in let high : c ≤ 57 = h.1 in grind (arith, nat_tests)

tells : IsDigitsTest (λ ds. list_all is_digit ds ≡ true)
tells = record {
  empty = refl;
  parts = λ c cs p. (range c (and_left (is_digit c) (list_all is_digit cs) p), and_right (is_digit c) (list_all is_digit cs) p);
  more = λ c cs r p. and_both (is_digit c) (list_all is_digit cs) (in_range c r) p;
}

model : IsNumeralModel (λ ds. list_all is_digit ds ≡ true) (digits_value 10)
model = numerals_by_value (λ ds. list_all is_digit ds ≡ true) tells

not_zero : (b : ℕ) → nat_eq b 48 ≡ false → b ≡ 48 → ⊥
not_zero b h e = grind (arith, nat_tests)

-- digits without a leading zero are what is printed of their number
canonical : (ds : List ℕ) → is_digits ds ≡ true → begins_with_zero ds ≡ false → digits_value 10 ds < 2 ^ 64 → decimal (digits_value 10 ds) ≡ ds
canonical [] h z small = absurd cc
canonical (b ∷ bs) h z small = decimal-digits_value model (b ∷ bs) h (omega arith) (λ e. absurd (not_zero b z e)) small

if_some : (b : Bool) (x n : ℕ) → (if b then Some x else None) ≡ Some n → (b ≡ true) × (x ≡ n)
if_some true x n e = let same : x ≡ n = cc in (refl, same)
if_some false x n e = absurd cc

not_true : (b : Bool) → not b ≡ true → b ≡ false
not_true true h = absurd cc
not_true false h = refl

at_most : (a b : ℕ) → nat_le a b ≡ true → a ≤ b
at_most a b h = grind (arith, nat_tests)

variable_is : (ds : List ℕ) (n : ℕ) → variable_of ds ≡ Some n → (ds ≡ decimal (n + 1)) × (n < 8192)
variable_is ds n e =
    let v : ℕ = digits_value 10 ds in
    let s = if_some ((is_digits ds && not (begins_with_zero ds)) && (nat_le 1 v && nat_le v MOST_VARIABLES)) (v - 1) n e in
    let digits = and_left (is_digits ds && not (begins_with_zero ds)) (nat_le 1 v && nat_le v MOST_VARIABLES) s.0 in
    let bounds = and_right (is_digits ds && not (begins_with_zero ds)) (nat_le 1 v && nat_le v MOST_VARIABLES) s.0 in
    let low : 1 ≤ v = at_most 1 v (and_left (nat_le 1 v) (nat_le v MOST_VARIABLES) bounds) in
    let high : v ≤ 8192 = at_most v 8192 (and_right (nat_le 1 v) (nat_le v MOST_VARIABLES) bounds) in
    let more : v ≡ n + 1 = omega (arith, s.1) in
    (sym (canonical ds (and_left (is_digits ds) (not (begins_with_zero ds)) digits) (not_true (begins_with_zero ds) (and_right (is_digits ds) (not (begins_with_zero ds)) digits)) (omega arith)) ∙ ap decimal more, omega arith)

is_x : (b : ℕ) → nat_eq b 88 ≡ true → b ≡ 88
is_x b h = grind (arith, nat_tests)

named_by_first : (b : ℕ) (ds : List ℕ) (n : ℕ) (t : Bool) → nat_eq b 88 ≡ t → named_by (b ∷ ds) ≡ Some n → (b ∷ ds ≡ variable_text n) × (n < 8192)
named_by_first b ds n true q e =
    let e' : variable_of ds ≡ Some n = rw q at e in
    let first : b ≡ 88 = is_x b q in
    let r = variable_is ds n e' in
    (ap (λ x. x ∷ ds) first ∙ ap (λ l. 88 ∷ l) r.0, r.1)
named_by_first b ds n false q e = absurd (let e' : None ≡ Some n = rw q at e in cc)

-- a name says which variable it is of
pub named_is : (bs : List ℕ) (n : ℕ) → named_by bs ≡ Some n → (bs ≡ variable_text n) × (n < 8192)
named_is [] n e = absurd cc
named_is (b ∷ ds) n e = named_by_first b ds n (nat_eq b 88) refl e

pub variable_named : (t : Terminal) (bs : List ℕ) (n : ℕ) → variable_by t bs ≡ Some n → named_by bs ≡ Some n
variable_named Upper bs n e = e
variable_named t bs n e = absurd cc

small_by : (o : Option ℕ) → ((n : ℕ) → o ≡ Some n → n < 8192) → IfSome o (λ n. n < 8192)
small_by None h = tt
small_by (Some n) h = h n refl

pub variable_small : (t : Terminal) (bs : List ℕ) → IfSome (variable_by t bs) (λ n. n < 8192)
variable_small t bs = small_by (variable_by t bs) (λ n e. (named_is bs n (variable_named t bs n e)).1)

pub text_once : (n m : ℕ) → n < 8192 → m < 8192 → variable_text n ≡ variable_text m → n ≡ m
text_once n m h k e =
    let same : decimal (n + 1) ≡ decimal (m + 1) = cc in
    omega (arith, sym (decimal_value (n + 1) (omega arith)) ∙ ap (digits_value 10) same ∙ decimal_value (m + 1) (omega arith))

-- the names so far are those of the first variables
pub record AreFirst (seen : Variables) (count : ℕ) : Type 0 where
  pub many : length seen ≡ count
  pub names : (n : ℕ) (name : List ℕ) → slice_get seen n ≡ Some name → name ≡ variable_text n

pub first_none : (seen : Variables) → seen ≡ [] → AreFirst seen 0
first_none seen e = record { many = ap length e; names = λ n name g. let g' : None ≡ Some name = rw e at g in absurd cc }

has_first : (x y : List ℕ) (t : Bool) → bytes_eq x y ≡ t → t ≡ true → x ≡ y
has_first x y t q e = (bytes_eq-Decides x y).0 (q ∙ e)

found_by : (x y : List ℕ) (ys : Variables) (t : Bool) → bytes_eq x y ≡ t → list_any (bytes_eq x) (y ∷ ys) ≡ true → (list_any (bytes_eq x) ys ≡ true → (i : ℕ) × (i < length ys) × (slice_get ys i ≡ Some x)) → (i : ℕ) × (i < length (y ∷ ys)) × (slice_get (y ∷ ys) i ≡ Some x)
found_by x y ys true q e more = (0, omega arith, ap Some (sym (has_first x y true q refl)))
found_by x y ys false q e more = let r = more (rw q at e) in (suc r.0, omega (arith, r.1), r.2)

pub found : (x : List ℕ) (seen : Variables) → list_any (bytes_eq x) seen ≡ true → (i : ℕ) × (i < length seen) × (slice_get seen i ≡ Some x)
found x [] e = absurd cc
found x (y ∷ ys) e = found_by x y ys (bytes_eq x y) refl e (found x ys)

snoc_get : (xs : Variables) (x : List ℕ) (n : ℕ) (y : List ℕ) → slice_get (xs ++ x ∷ []) n ≡ Some y → (slice_get xs n ≡ Some y) ⊎ ((n ≡ length xs) × (y ≡ x))
snoc_get [] x zero y e = let same : y ≡ x = cc in inr (refl, same)
snoc_get [] x (suc n) y e = absurd cc
snoc_get (z ∷ zs) x zero y e = inl e
snoc_get (z ∷ zs) x (suc n) y e = over (snoc_get zs x n y e)
  where
    over : (slice_get zs n ≡ Some y) ⊎ ((n ≡ length zs) × (y ≡ x)) → (slice_get (z ∷ zs) (suc n) ≡ Some y) ⊎ ((suc n ≡ length (z ∷ zs)) × (y ≡ x))
    over (inl h) = inl h
    over (inr h) = inr (omega (arith, h.0), h.1)

pub first_more : (seen new : Variables) (count : ℕ) (name : List ℕ) → count < 8192 → AreFirst seen count → name ≡ variable_text count → new ≡ with_name seen name → AreFirst new (count + 1)
first_more seen new count name few first is e = by_any (list_any (bytes_eq name) seen) refl
  where
    by_any : (t : Bool) → list_any (bytes_eq name) seen ≡ t → AreFirst new (count + 1)
    by_any true q =
        let r = found name seen q in
        absurd (omega (arith, r.1, first.many, text_once r.0 count (omega (arith, r.1, first.many)) few (sym (first.names r.0 name r.2) ∙ is)))
    by_any false q =
        let e' : new ≡ seen ++ name ∷ [] = rw q at e in
        record {
          many = ap length e' ∙ length-append seen (name ∷ []) ∙ ap (λ k. k + 1) first.many;
          names = λ n x g. by_place n x (snoc_get seen name n x (rw e' at g));
        }
      where
        by_place : (n : ℕ) (x : List ℕ) → (slice_get seen n ≡ Some x) ⊎ ((n ≡ length seen) × (x ≡ name)) → x ≡ variable_text n
        by_place n x (inl h) = first.names n x h
        by_place n x (inr h) = h.1 ∙ is ∙ ap variable_text (sym (h.0 ∙ first.many))

pub first_all : (bytes : List ℕ) (tokens : List Token) (seen : Variables) (count : ℕ) → AreFirst seen count → ((at n : ℕ) → variable_by (terminal_at bytes tokens at) (bytes_at bytes tokens at) ≡ Some n → n < count) → count ≤ 8192 → AreVariables bytes tokens seen
first_all bytes tokens seen count first all few = record { names = first.names; all = λ at n e. omega (arith, all at n e, first.many); few = omega (arith, few, first.many) }

upper_is : (t : Terminal) (bs : List ℕ) (n : ℕ) → variable_by t bs ≡ Some n → t ≡ Upper
upper_is Upper bs n e = refl
upper_is t bs n e = absurd cc

-- behind the last token there is none
pub all_of : (bytes : List ℕ) (tokens : List Token) (most : ℕ) → ((at n : ℕ) → at < length tokens → variable_by (terminal_at bytes tokens at) (bytes_at bytes tokens at) ≡ Some n → n < most) → (at n : ℕ) → variable_by (terminal_at bytes tokens at) (bytes_at bytes tokens at) ≡ Some n → n < most
all_of bytes tokens most all at n e = all at n (some_other bytes tokens at Upper (upper_is (terminal_at bytes tokens at) (bytes_at bytes tokens at) n e) (λ f. cc)) e
