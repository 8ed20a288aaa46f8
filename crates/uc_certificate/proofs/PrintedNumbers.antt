-- Numbers and variables of join lines as pieces, and what the grammar reads from them.
use Rattle.std.proofs.Common.{◌≡◌, ◌≢◌, ℕ, ◌+◌, ◌-◌, ◌<◌, ◌≤◌, ◌^◌, ◌&&◌, Bool, true, false, List, [], ◌∷◌, length, get_or, refl, sym, ap, ap₂, ◌∙◌, arith, decimal, Some}
use Rattle.std.specs.Prelude.{nat_le, nat_lt}
use Rattle.std.specs.List.{list_all, prefix_len}
use Rattle.std.specs.Str.Parse.{AllDigits, digits_value}
use Rattle.std.proofs.lemmas.Bool.{and_from, or_right}
use Rattle.std.proofs.lemmas.Bool.Decides.{nat_tests}
use Rattle.std.proofs.lemmas.Fmt.{decimal_is_IsNumeral, first_decimal}
use Rattle.std.proofs.lemmas.Str.Parse.{digit_from_value}
use Rattle.uc_term.specs.Tree.{var}
use Rattle.uc_term.specs.Table.{Table}
use Rattle.uc_clause.specs.declared.token.Kind.TheVariants.{Integer, Upper}
use Rattle.uc_clause.specs.declared.token.Token.{Token}
use Rattle.uc_clause.specs.declared.terminal.Terminal.{Terminal}
use Rattle.uc_clause.specs.declared.terminal.Terminal.TheVariants as terminal
use Rattle.uc_clause.specs.declared.grammar.stop.Why.TheVariants.{NoToken}
use Rattle.uc_clause.specs.Bytes.{is_digit, is_digits, is_sign, is_word}
use Rattle.uc_clause.specs.Tokens.{spells}
use Rattle.uc_clause.specs.Terminals.{terminal_at}
use Rattle.uc_clause.specs.Rules.{read_or_stop}
use Rattle.uc_clause.specs.Printing.{variable_text}
use Rattle.uc_clause.proofs.Joined.{Piece, lexeme, joined, integer_stands}
use Rattle.uc_clause.proofs.Printed.{facts}
use Rattle.uc_system.proofs.Decimals.{decimal_value, decimal_in_line}
use Rattle.uc_tstp.proofs.PrintedPieces.{Spells, number, term_spells}
use Rattle.uc_tstp.proofs.TokensAgain.{At, Reads, Member}
use Rattle.uc_certificate.specs.Bounds.{IsShort}
use Rattle.uc_certificate.specs.JoinLines.{MOST_VARIABLES, integer_of, integer_by, begins_with_zero, variable_of, named_by, variable_by}
use Rattle.uc_certificate.specs.JoinLines as rules

-- decimal digits
digit_by : (c : ℕ) → 48 ≤ c → c ≤ 57 → is_digit c ≡ true
digit_by c h k = grind (arith, nat_tests)

digits_are : (ds : List ℕ) → AllDigits 10 ds → list_all is_digit ds ≡ true
digits_are [] h = refl
digits_are (d ∷ ds) h = let r = digit_from_value d h.0 in and_from (is_digit d) (list_all is_digit ds) (digit_by d r.0 r.1) (digits_are ds h.1)

some_digits : (ds : List ℕ) → 0 < length ds → list_all is_digit ds ≡ true → is_digits ds ≡ true
some_digits [] some all = absurd (omega arith)
some_digits (d ∷ ds) some all = all

decimal_some : (n : ℕ) → n < 2 ^ 64 → 0 < length (decimal n)
decimal_some n h = (decimal_is_IsNumeral n h).0.0

decimal_digits : (n : ℕ) → n < 2 ^ 64 → is_digits (decimal n) ≡ true
decimal_digits n h = some_digits (decimal n) (decimal_some n h) (digits_are (decimal n) (decimal_is_IsNumeral n h).0.1)

spelled_by : (ds : List ℕ) → is_digits ds ≡ true → spells Integer ds ≡ true
spelled_by [] all = absurd cc
spelled_by (d ∷ ds) all = or_right (is_sign d && is_digits ds) (is_digits (d ∷ ds)) all

-- where no word goes on no digit does
no_digit : (b : ℕ) → is_word b ≡ false → is_digit b ≡ false
no_digit b w = grind (arith, nat_tests)

no_digits_by : (b : ℕ) (bs : List ℕ) (t : Bool) → is_word b ≡ t → prefix_len is_word (b ∷ bs) ≡ 0 → prefix_len is_digit (b ∷ bs) ≡ 0
no_digits_by b bs true w n = absurd (let g : 1 + prefix_len is_word bs ≡ 0 = rw w at n in omega arith)
no_digits_by b bs false w n = rw (no_digit b w) refl

no_digits : (rest : List ℕ) → prefix_len is_word rest ≡ 0 → prefix_len is_digit rest ≡ 0
no_digits [] n = refl
no_digits (b ∷ bs) n = no_digits_by b bs (is_word b) refl n

-- numbers
pub integer_spells : (n : ℕ) → IsShort n → Spells true (decimal n) (number n)
integer_spells n h = record {
  whole = λ ps. refl;
  apart = λ ps apart ends. (integer_stands (decimal n) (joined ps) (spelled_by (decimal n) (decimal_digits n (omega arith))) (no_digits (joined ps) ends), apart);
  one_line = decimal_in_line n (omega arith);
}

integer_read : (n : ℕ) → IsShort n → integer_of (decimal n) ≡ Some n
integer_read n h =
    let value : digits_value 10 (decimal n) ≡ n = decimal_value n (omega arith) in
    let below : nat_lt n (2 ^ 32) ≡ true = grind (arith, nat_tests) in
    rw (decimal_digits n (omega arith), value, below) refl

-- variables
abbrev pub variable : ℕ → List Piece → List Piece
variable n ps = lexeme Upper (variable_text n) ∷ ps

pub variable_spells : (table : Table) (n : ℕ) → n < MOST_VARIABLES → Spells true (variable_text n) (variable n)
variable_spells table n h = term_spells table (var n) (omega arith)

no_zero : (ds : List ℕ) → (get_or ds 0 0 ≡ 48 → ⊥) → begins_with_zero ds ≡ false
no_zero [] n = refl
no_zero (d ∷ ds) n = grind (arith, nat_tests, n)

pub variable_named : (n : ℕ) → n < MOST_VARIABLES → named_by (variable_text n) ≡ Some n
variable_named n h =
    let value : digits_value 10 (decimal (n + 1)) ≡ n + 1 = decimal_value (n + 1) (omega arith) in
    let first : begins_with_zero (decimal (n + 1)) ≡ false = no_zero (decimal (n + 1)) (λ e. omega (arith, first_decimal (n + 1) (omega arith) (omega arith))) in
    let low : nat_le 1 (n + 1) ≡ true = grind (arith, nat_tests) in
    let high : nat_le (n + 1) MOST_VARIABLES ≡ true = grind (arith, nat_tests) in
    let less : n + 1 - 1 ≡ n = omega arith in
    rw (decimal_digits (n + 1) (omega arith), first, value, low, high) (ap Some less)

module _ (text : List ℕ) (tokens : List Token) where
  pub integer_here : {at : ℕ} {ps : List Piece} (n : ℕ) → IsShort n → At text tokens at (number n ps) → Reads text tokens (rules.integer text tokens) at n (at + 1) ps
  integer_here {at} {ps} n h here =
      let f = facts text tokens at here.0 Integer (decimal n) ps (decimal_some n (omega arith)) here.1 in
      record { reads = sym (ap (λ o. read_or_stop NoToken o at) (ap₂ integer_by f.terminal f.bytes ∙ integer_read n h)); behind = (here.0 + length (decimal n), f.next) }

  upper_is_no_close : (t : Terminal) → t ≡ terminal.Upper → t ≢ terminal.CloseSquare
  upper_is_no_close t e h = cc

  pub variable_here : (n : ℕ) → n < MOST_VARIABLES → (at : ℕ) (ps : List Piece) → At text tokens at (variable n ps) → Member text tokens (rules.variable text tokens) (λ x v. v ≡ x) n at ps
  variable_here n h at ps here =
      let f = facts text tokens at here.0 Upper (variable_text n) ps (omega arith) here.1 in
      record {
        v = n;
        end = at + 1;
        reads = sym (ap (λ o. read_or_stop NoToken o at) (ap₂ variable_by f.terminal f.bytes ∙ variable_named n h));
        on = refl;
        behind = (here.0 + length (variable_text n), f.next);
        not_close = upper_is_no_close (terminal_at text tokens at) f.terminal;
      }
