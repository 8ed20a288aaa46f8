-- How the reader takes a symbol's line apart.
use Rattle.std.proofs.Common.{◌≡◌, ℕ, ◌+◌, ◌≤◌, Bool, true, false, List, [], ◌∷◌, ◌++◌, length, refl, sym, ap, ◌∙◌, subst, append_assoc, length-append, arith}
use Rattle.std.specs.Prelude.{codes, bytes_eq, IsTrue, ◌↔◌, MatchOption, IfSome, Option, Some, None}
use Rattle.std.proofs.lemmas.List.{append_cancel_left}
use Rattle.uc_clause.specs.Names.{IsSpellable, spelling, stands_for}
use Rattle.uc_system.specs.declared.symbols.Written.{Written}
use Rattle.uc_system.specs.declared.header.Kind.{Kind}
use Rattle.uc_system.specs.declared.header.Kind.TheVariants.{Weighing, Paths}
use Rattle.uc_system.specs.Numerals.{is_numeral}
use Rattle.uc_system.specs.Symbols.{symbol_words}
use Rattle.uc_system.specs.Written.{IsSplit, written_line, kept, IsWritten, IsNotWritten, IsNamed, IsNotNamed, IsWordOf, kind_at}
use Rattle.uc_system.proofs.Compared.{bytes_differ}
use Rattle.uc_system.proofs.Splits.{split_once, numeral_no_space, name_back}

-- a name and an arity
pub named_text : (spelled arity : List ℕ) → spelled ++ codes " " ++ arity ≡ spelled ++ 32 ∷ arity
named_text spelled arity = append_assoc spelled (32 ∷ []) arity

false_or_true : (b : Bool) → b ≡ false → b ≡ true → ⊥
false_or_true b e f = cc

pub no_numeral_not_named : (text front back : List ℕ) → IsSplit text front back → is_numeral back ≡ false → IsNotNamed text
no_numeral_not_named text front back s n spelled arity h e =
    let r = split_once front spelled back arity s.last (numeral_no_space arity h) (sym s.is ∙ e ∙ named_text spelled arity) in
    false_or_true (is_numeral back) n (subst (λ x. is_numeral x ≡ true) (sym r.1) h)

-- and a weight
pub weighed_line_is : (w0 : ℕ) (spelled arity weight : List ℕ) → written_line (Weighing w0) spelled arity weight ≡ symbol_words ++ ((spelled ++ codes " " ++ arity) ++ 32 ∷ weight)
weighed_line_is w0 spelled arity weight = simp append_assoc refl

pub bare_line_is : (spelled arity weight : List ℕ) → written_line Paths spelled arity weight ≡ symbol_words ++ (spelled ++ codes " " ++ arity)
bare_line_is spelled arity weight = simp append_assoc refl

split_is : (w0 : ℕ) (line rest front back spelled arity weight : List ℕ) → line ≡ symbol_words ++ rest → IsSplit rest front back → is_numeral weight ≡ true → line ≡ written_line (Weighing w0) spelled arity weight → (front ≡ spelled ++ codes " " ++ arity) × (back ≡ weight)
split_is w0 line rest front back spelled arity weight l s w e =
    let same : rest ≡ (spelled ++ codes " " ++ arity) ++ 32 ∷ weight = append_cancel_left symbol_words rest _ (sym l ∙ e ∙ weighed_line_is w0 spelled arity weight) in
    split_once front (spelled ++ codes " " ++ arity) back weight s.last (numeral_no_space weight w) (sym s.is ∙ same)

pub no_weight_not_written : (w0 : ℕ) (line rest front back : List ℕ) → line ≡ symbol_words ++ rest → IsSplit rest front back → is_numeral back ≡ false → IsNotWritten (Weighing w0) line
no_weight_not_written w0 line rest front back l s n spelled arity weight a w e =
    let r = split_is w0 line rest front back spelled arity weight l s w e in
    false_or_true (is_numeral back) n (subst (λ x. is_numeral x ≡ true) (sym r.1) w)

pub no_name_not_written : (w0 : ℕ) (line rest front back : List ℕ) → line ≡ symbol_words ++ rest → IsSplit rest front back → IsNotNamed front → IsNotWritten (Weighing w0) line
no_name_not_written w0 line rest front back l s n spelled arity weight a w e =
    let r = split_is w0 line rest front back spelled arity weight l s w e in
    n spelled arity a r.0

pub is_written : (w0 : ℕ) (line rest front back spelled : List ℕ) (n m : ℕ) → line ≡ symbol_words ++ rest → IsSplit rest front back → is_numeral back ≡ true → m ≡ kept back → IsNamed front spelled n → IsWritten (Weighing w0) line spelled n m
is_written w0 line rest front back spelled n m l s h k i = record {
  arity_digits = i.arity_digits;
  weight_digits = back;
  is_arity = i.is_arity;
  is_weight = h;
  is = l ∙ ap (λ x. symbol_words ++ x) (s.is ∙ ap (λ x. x ++ 32 ∷ back) i.is) ∙ sym (weighed_line_is w0 spelled i.arity_digits back);
  arity_is = i.arity_is;
  weight_is = k;
}

-- what it stands for is the only word that can be spelled so
pub word_only : (spelled word : List ℕ) → word ≡ stands_for (kind_at spelled) spelled → (name : List ℕ) → spelled ≡ spelling name → name ≡ word
word_only spelled word e name f = sym (name_back name) ∙ ap (λ s. stands_for (kind_at s) s) (sym f) ∙ sym e

-- no word is spelled so where what it stands for can't be spelled, or is spelled otherwise
pub no_word : (spelled word : List ℕ) (b : Bool) → word ≡ stands_for (kind_at spelled) spelled → b ≡ false → (IsTrue b ↔ IsSpellable word) → IsWordOf spelled None
no_word spelled word b w n i name s e = false_or_true b n (i.1 (subst IsSpellable (word_only spelled word w name e) s))

pub other_spelling : (spelled word again : List ℕ) → word ≡ stands_for (kind_at spelled) spelled → again ≡ spelling word → bytes_eq again spelled ≡ false → IsWordOf spelled None
other_spelling spelled word again w a n name s e = bytes_differ again spelled n (a ∙ ap spelling (sym (word_only spelled word w name e)) ∙ sym e)

-- a line with the weight that stands behind its name and arity
module _ (w0 : ℕ) (line rest front back : List ℕ) (weight : ℕ) (l : line ≡ symbol_words ++ rest) (s : IsSplit rest front back) (h : is_numeral back ≡ true) (k : weight ≡ kept back) where
  pub weighed : (result : Option Written) → MatchOption result (IsNotNamed front) (λ w. IsNamed front w.spelled.now w.arity) → IfSome result (λ w. w.weight ≡ weight) → MatchOption result (IsNotWritten (Weighing w0) line) (λ w. IsWritten (Weighing w0) line w.spelled.now w.arity w.weight)
  weighed None n i = no_name_not_written w0 line rest front back l s n
  weighed (Some w) n i = is_written w0 line rest front back w.spelled.now w.arity w.weight l s h (i ∙ k) n

-- what is spelled is shorter than the line
pub spelled_short : (kind : Kind) (line spelled : List ℕ) (arity weight : ℕ) → IsWritten kind line spelled arity weight → 9 + length spelled + 1 ≤ length line
spelled_short (Weighing w0) line spelled arity weight h = omega (arith, simp length-append at (ap length h.is))
spelled_short Paths line spelled arity weight h = omega (arith, simp length-append at (ap length h.is))
