-- Where exactly a symbol's line stands.
use Rattle.std.proofs.Common.{◌≡◌, ℕ, ◌==◌, Bool, true, false, List, [], ◌∷◌, ◌++◌, refl, sym, ap, ◌∙◌, subst, arith, Option, Some, None}
use Rattle.std.proofs.lemmas.Bool.Decides.{nat_tests}
use Rattle.uc_system.specs.declared.header.Kind.{Kind}
use Rattle.uc_system.specs.declared.header.Kind.TheVariants.{Weighing, Paths}
use Rattle.uc_system.specs.Lines.{Cut, first_line}
use Rattle.uc_system.specs.Symbols.{begins_symbol, Parts, symbol_line, IsSymbolLine, StandsSymbol, IsFollowed}
use Rattle.uc_system.specs.Written.{IsWritten, IsNotWritten, IsWordOf}
use Rattle.uc_system.proofs.SymbolReading.{not_written_no_symbol, no_word_no_symbol, symbol_line_is, parts_of}

first_line_is : (text : List ℕ) (c : Cut) → first_line text ≡ Some c → text ≡ c.line ++ 10 ∷ c.rest
first_line_is [] c e = absurd cc
first_line_is (b ∷ bs) c e = by_test (first_line_is bs) (b == 10) refl (first_line bs) refl
  where
    by_test : ((d : Cut) → first_line bs ≡ Some d → bs ≡ d.line ++ 10 ∷ d.rest) → (t : Bool) → (b == 10) ≡ t → (o : Option Cut) → first_line bs ≡ o → b ∷ bs ≡ c.line ++ 10 ∷ c.rest
    by_test rec true q o f =
        let byte : b ≡ 10 = grind (arith, nat_tests) in
        let here : Some (record { line = []; rest = bs }) ≡ Some c = rw q at e in
        let same : record { line = []; rest = bs } ≡ c = cc in
        ap (λ x. x ∷ bs) byte ∙ ap (λ (x : Cut). x.line ++ 10 ∷ x.rest) same
    by_test rec false q None f = absurd (let none : None ≡ Some c = rw (q, f) at e in cc)
    by_test rec false q (Some d) f =
        let here : Some (record { line = b ∷ d.line; rest = d.rest }) ≡ Some c = rw (q, f) at e in
        let same : record { line = b ∷ d.line; rest = d.rest } ≡ c = cc in
        ap (λ x. b ∷ x) (rec d f) ∙ ap (λ (x : Cut). x.line ++ 10 ∷ x.rest) same

begins_line : (kind : Kind) (p : Parts) (rest : List ℕ) → begins_symbol (symbol_line kind p ++ rest) ≡ true
begins_line (Weighing w0) p rest = refl
begins_line Paths p rest = refl

stands_begins : (kind : Kind) (text : List ℕ) → StandsSymbol kind text → begins_symbol text ≡ true
stands_begins kind text s = ap begins_symbol (first_line_is text s.cut s.is_cut ∙ ap (λ l. l ++ 10 ∷ s.cut.rest) s.line.is) ∙ begins_line kind s.parts (10 ∷ s.cut.rest)

pub no_symbol_here : (kind : Kind) (text : List ℕ) → begins_symbol text ≡ false → StandsSymbol kind text → ⊥
no_symbol_here kind text h s = let both : true ≡ false = sym (stands_begins kind text s) ∙ h in cc

pub followed_once : (kind : Kind) (text : List ℕ) (a b : Bool) → IsFollowed kind text a → IsFollowed kind text b → a ≡ b
followed_once kind text true true x y = refl
followed_once kind text true false x y = absurd (y x)
followed_once kind text false true x y = absurd (x y)
followed_once kind text false false x y = refl

-- how a reader finds it
pub no_line_stands : (kind : Kind) (text : List ℕ) → first_line text ≡ None → StandsSymbol kind text → ⊥
no_line_stands kind text e s = let both : None ≡ Some s.cut = sym e ∙ s.is_cut in absurd cc

module _ (kind : Kind) (text : List ℕ) (c : Cut) (cut : first_line text ≡ Some c) where
  line_stands : (s : StandsSymbol kind text) → IsSymbolLine kind c.line s.parts
  line_stands s = let both : Some s.cut ≡ Some c = sym s.is_cut ∙ cut in let same : s.cut ≡ c = cc in subst (λ (x : Cut). IsSymbolLine kind x.line s.parts) same s.line

  pub unwritten_stands : IsNotWritten kind c.line → StandsSymbol kind text → ⊥
  unwritten_stands n s = not_written_no_symbol kind c.line n s.parts (line_stands s)

  module _ (spelled : List ℕ) (a w : ℕ) (h : IsWritten kind c.line spelled a w) where
    pub nameless_stands : IsWordOf spelled None → StandsSymbol kind text → ⊥
    nameless_stands word s = no_word_no_symbol kind c.line spelled a w h word s.parts (line_stands s)

    pub named_stands : (name : List ℕ) → IsWordOf spelled (Some name) → StandsSymbol kind text
    named_stands name word = record { cut = c; is_cut = cut; parts = parts_of kind c.line spelled a w h name; line = symbol_line_is kind c.line spelled a w h name word.0 word.1 }
