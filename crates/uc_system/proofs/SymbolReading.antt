-- The reader of a symbol's line.
use Rattle.std.proofs.Common.{◌≡◌, ℕ, ◌+◌, ◌<◌, ◌≤◌, nat_lt, Bool, true, List, [], ◌∷◌, ◌++◌, length, length-append, refl, sym, ap, ◌∙◌, subst, arith, Option, Some, None, inl, inr, ◌⊎◌}
use Rattle.std.specs.Prelude.{codes}
use Rattle.std.proofs.lemmas.Bool.Decides.{nat_tests}
use Rattle.std.proofs.lemmas.List.{append_cancel_left}
use Rattle.uc_term.specs.declared.node.Sym.{Sym}
use Rattle.uc_term.specs.Table.{Table, IsSymbol}
use Rattle.uc_clause.specs.Names.{IsSpellable, spelling}
use Rattle.uc_system.specs.declared.fault.SystemFault.{SystemFault}
use Rattle.uc_system.specs.declared.fault.SystemFault.TheVariants.{Limit}
use Rattle.uc_system.specs.declared.header.Kind.{Kind}
use Rattle.uc_system.specs.declared.header.Kind.TheVariants.{Weighing, Paths}
use Rattle.uc_system.specs.declared.header.Header.{Header}
use Rattle.uc_system.specs.Numerals.{is_numeral, value_of}
use Rattle.uc_system.specs.Lines.{Cut, first_line, place_in, departs, gets, fails}
use Rattle.uc_ordering.specs.Weights.{MAX_WEIGHT}
use Rattle.uc_system.specs.Symbols.{symbol_words, IsFollowed, Parts, symbol_front, symbol_line, IsWeight, IsSymbolLine, is_one_of, symbol_fault, SymbolAt, has_too_many, is_symbol}
use Rattle.uc_system.specs.Written.{written_line, kept, IsWritten, IsNotWritten}
use Rattle.uc_system.proofs.Splits.{split_once, numeral_no_space}
use Rattle.uc_system.proofs.Taken.{named_text, weighed_line_is, bare_line_is}

-- the line of a symbol has its name so spelled
line_is : (kind : Kind) (p : Parts) → symbol_line kind p ≡ written_line kind (spelling p.name) p.arity p.weight
line_is (Weighing w0) p = refl
line_is Paths p = refl

-- a line is taken apart in one way
written_once : (kind : Kind) (s t a b w v : List ℕ) → is_numeral a ≡ true → is_numeral b ≡ true → IsWeight kind w → IsWeight kind v → written_line kind s a w ≡ written_line kind t b v → s ≡ t
written_once (Weighing w0) s t a b w v n m h k e =
    let rest : (s ++ codes " " ++ a) ++ 32 ∷ w ≡ (t ++ codes " " ++ b) ++ 32 ∷ v = append_cancel_left symbol_words _ _ (sym (weighed_line_is w0 s a w) ∙ e ∙ weighed_line_is w0 t b v) in
    let front = (split_once (s ++ codes " " ++ a) (t ++ codes " " ++ b) w v (numeral_no_space w h) (numeral_no_space v k) rest).0 in
    (split_once s t a b (numeral_no_space a n) (numeral_no_space b m) (sym (named_text s a) ∙ front ∙ named_text t b)).0
written_once Paths s t a b w v n m h k e =
    let front : s ++ codes " " ++ a ≡ t ++ codes " " ++ b = append_cancel_left symbol_words _ _ (sym (bare_line_is s a w) ∙ e ∙ bare_line_is t b v) in
    (split_once s t a b (numeral_no_space a n) (numeral_no_space b m) (sym (named_text s a) ∙ front ∙ named_text t b)).0

pub not_written_no_symbol : (kind : Kind) (line : List ℕ) → IsNotWritten kind line → (p : Parts) → IsSymbolLine kind line p → ⊥
not_written_no_symbol kind line n p i = n (spelling p.name) p.arity p.weight i.arity i.weight (i.is ∙ line_is kind p)

pub no_word_no_symbol : (kind : Kind) (line spelled : List ℕ) (a w : ℕ) → IsWritten kind line spelled a w → ((name : List ℕ) → IsSpellable name → spelled ≡ spelling name → ⊥) → (p : Parts) → IsSymbolLine kind line p → ⊥
no_word_no_symbol kind line spelled a w h n p i = n p.name i.name (written_once kind spelled (spelling p.name) h.arity_digits p.arity h.weight_digits p.weight h.is_arity i.arity h.is_weight i.weight (sym h.is ∙ i.is ∙ line_is kind p))

-- the line with its name
abbrev pub parts_of : (kind : Kind) (line spelled : List ℕ) (a w : ℕ) → IsWritten kind line spelled a w → List ℕ → Parts
parts_of kind line spelled a w h name = record { name = name; arity = h.arity_digits; weight = h.weight_digits }

pub symbol_line_is : (kind : Kind) (line spelled : List ℕ) (a w : ℕ) (h : IsWritten kind line spelled a w) (name : List ℕ) → IsSpellable name → spelled ≡ spelling name → IsSymbolLine kind line (parts_of kind line spelled a w h name)
symbol_line_is kind line spelled a w h name s e = record {
  name = s;
  arity = h.is_arity;
  weight = h.is_weight;
  is = h.is ∙ ap (λ x. written_line kind x h.arity_digits h.weight_digits) e ∙ sym (line_is kind (parts_of kind line spelled a w h name));
}

-- weights that are kept
heavy : (w : ℕ) → MAX_WEIGHT < w → nat_lt MAX_WEIGHT w ≡ true
heavy w h = grind (arith, nat_tests)

below_or : (a b : ℕ) → (a < b) ⊎ (b ≤ a)
below_or a b = grind arith

heavy_fault : (header : Header) (w0 : ℕ) → header.kind ≡ Weighing w0 → (repeated followed : Bool) (n a w : ℕ) → MAX_WEIGHT < w → symbol_fault header repeated followed n a w ≡ Some (departs n)
heavy_fault header w0 k repeated followed n a w h = let big = heavy w h in rw (k, big) refl

kept_or : (header : Header) (repeated followed : Bool) (n a : ℕ) (digits : List ℕ) (kind : Kind) → header.kind ≡ kind → IsWeight kind digits → (symbol_fault header repeated followed n a (kept digits) ≡ symbol_fault header repeated followed n a (value_of digits)) × (symbol_fault header repeated followed n a (kept digits) ≡ None → kept digits ≡ value_of digits)
kept_or header repeated followed n a digits (Weighing w0) k i = elim (below_or MAX_WEIGHT (value_of digits)) [
  | inl h ↦ (let f = heavy_fault header w0 k repeated followed n a (kept digits) (omega arith) in (f ∙ sym (heavy_fault header w0 k repeated followed n a (value_of digits) h), λ e. absurd (let both = sym f ∙ e in cc)))
  | inr h ↦ (let same : kept digits ≡ value_of digits = omega arith in (ap (symbol_fault header repeated followed n a) same, λ e. same))
]
kept_or header repeated followed n a digits Paths k i = let none : digits ≡ [] = i in rw none (refl, λ e. refl)

module _ (table : Table) (header : Header) (earlier : List Sym) (n : ℕ) (text : List ℕ) (c : Cut) (cut : first_line text ≡ Some c) (spelled : List ℕ) (a w : ℕ) (h : IsWritten header.kind c.line spelled a w) (name : List ℕ) (s : IsSpellable name) (e : spelled ≡ spelling name) where
  abbrev here : Parts
  here = parts_of header.kind c.line spelled a w h name

  line_here : IsSymbolLine header.kind c.line here
  line_here = symbol_line_is header.kind c.line spelled a w h name s e

  front_is : 9 + length spelled + 1 ≡ length (symbol_front name)
  front_is = omega (arith, ap length e, length-append (symbol_words ++ spelling name) (codes " "), length-append symbol_words (spelling name))

  pub too_many : 255 < a → SymbolAt table header earlier n text (fails (Limit (place_in n (9 + length spelled + 1))))
  too_many big = subst (λ x. SymbolAt table header earlier n text (fails (Limit (place_in n x)))) (sym front_is) (has_too_many cut line_here (omega (arith, h.arity_is)))

  module _ (few : a ≤ 255) (f : Sym) (symbol : IsSymbol table f name a) (followed : Bool) (is_followed : IsFollowed header.kind c.rest followed) where
    arity_is : value_of h.arity_digits ≡ a
    arity_is = omega (arith, h.arity_is)

    abbrev fault_here : ℕ → Option SystemFault
    fault_here x = symbol_fault header (is_one_of f earlier) followed n a x

    both : (symbol_fault header (is_one_of f earlier) followed n a (kept h.weight_digits) ≡ symbol_fault header (is_one_of f earlier) followed n a (value_of h.weight_digits)) × (symbol_fault header (is_one_of f earlier) followed n a (kept h.weight_digits) ≡ None → kept h.weight_digits ≡ value_of h.weight_digits)
    both = kept_or header (is_one_of f earlier) followed n a h.weight_digits header.kind refl h.is_weight

    pub refused : (fault : SystemFault) → fault_here w ≡ Some fault → SymbolAt table header earlier n text (fails fault)
    refused fault g =
        let kept_fault : fault_here (value_of h.weight_digits) ≡ Some fault = sym both.0 ∙ ap fault_here (sym h.weight_is) ∙ g in
        is_symbol f followed cut line_here (omega (arith, arity_is)) (subst (IsSymbol table f name) (sym arity_is) symbol) is_followed (rw (arity_is, kept_fault) refl)

    pub taken : fault_here w ≡ None → SymbolAt table header earlier n text (gets (record { symbol = f; weight = w }) (n + 1) c.rest)
    taken g =
        let kept_none : fault_here (kept h.weight_digits) ≡ None = ap fault_here (sym h.weight_is) ∙ g in
        let weight : value_of h.weight_digits ≡ w = sym (both.1 kept_none) ∙ sym h.weight_is in
        let none : fault_here (value_of h.weight_digits) ≡ None = sym both.0 ∙ kept_none in
        is_symbol f followed cut line_here (omega (arith, arity_is)) (subst (IsSymbol table f name) (sym arity_is) symbol) is_followed (rw (arity_is, none) (ap (λ x. gets (record { symbol = f; weight = x }) (n + 1) c.rest) (sym weight)))
