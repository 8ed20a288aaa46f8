-- The symbols' lines are read in one way, and what is read of them.
use Rattle.std.proofs.Common.{◌≡◌, ℕ, List, [], ◌∷◌, ◌++◌, length, refl, sym, ap, ◌∙◌, subst, append_assoc, arith, Bool, Option, Some, None}
use Rattle.std.proofs.lemmas.List.{append_cancel_left}
use Rattle.uc_term.specs.declared.node.Sym.{Sym}
use Rattle.uc_term.specs.Table.{Table, IsSymbol, IsDistinct}
use Rattle.uc_clause.specs.Names.{spelling}
use Rattle.uc_system.specs.declared.fault.SystemFault.TheVariants.{Limit}
use Rattle.uc_system.specs.declared.header.Kind.{Kind}
use Rattle.uc_system.specs.declared.header.Kind.TheVariants.{Weighing, Paths}
use Rattle.uc_system.specs.declared.header.Header.{Header}
use Rattle.uc_system.specs.declared.symbols.Ranked.{Ranked}
use Rattle.uc_system.specs.Numerals.{value_of}
use Rattle.uc_system.specs.Lines.{Cut, first_line, place_in, Outcome, gets, fails}
use Rattle.uc_system.specs.Symbols.{symbol_words, Parts, symbol_front, IsSymbolLine, is_one_of, symbol_fault, ranked_or, symbols_in, IsFollowed, SymbolAt, is_no_whole_line, is_no_symbol, has_too_many, is_symbol, SymbolsAt, no_more_symbols, one_more_symbol, fails_in_symbol, symbol_lines}
use Rattle.uc_system.proofs.LinesOnce.{Once}
use Rattle.uc_system.proofs.Standing.{followed_once}
use Rattle.uc_system.proofs.Splits.{split_once, numeral_no_space, name_once}

-- a line without its weight
bare_once : (a b : List ℕ) (x y : List ℕ) → (IsSymbolLine Paths (symbol_front a ++ x) (record { name = a; arity = x; weight = [] })) → (IsSymbolLine Paths (symbol_front b ++ y) (record { name = b; arity = y; weight = [] })) → symbol_front a ++ x ≡ symbol_front b ++ y → (a ≡ b) × (x ≡ y)
bare_once a b x y i j e =
    let whole : (symbol_words ++ spelling a) ++ 32 ∷ x ≡ (symbol_words ++ spelling b) ++ 32 ∷ y = sym (append_assoc (symbol_words ++ spelling a) (32 ∷ []) x) ∙ e ∙ append_assoc (symbol_words ++ spelling b) (32 ∷ []) y in
    let r = split_once (symbol_words ++ spelling a) (symbol_words ++ spelling b) x y (numeral_no_space x i.arity) (numeral_no_space y j.arity) whole in
    (name_once a b (append_cancel_left symbol_words (spelling a) (spelling b) r.0), r.1)

bare : (kind : Kind) (line : List ℕ) (p : Parts) → IsSymbolLine kind line p → IsSymbolLine Paths (symbol_front p.name ++ p.arity) (record { name = p.name; arity = p.arity; weight = [] })
bare kind line p i = record { name = i.name; arity = i.arity; weight = refl; is = refl }

same_parts : (p q : Parts) → p.name ≡ q.name → p.arity ≡ q.arity → p.weight ≡ q.weight → p ≡ q
same_parts p q a b c = rw (a, b, c) refl

-- a line says one thing
pub parts_once : (kind : Kind) (line : List ℕ) (p q : Parts) → IsSymbolLine kind line p → IsSymbolLine kind line q → p ≡ q
parts_once (Weighing w0) line p q i j =
    let e : (symbol_front p.name ++ p.arity) ++ 32 ∷ p.weight ≡ (symbol_front q.name ++ q.arity) ++ 32 ∷ q.weight =
    sym (append_assoc (symbol_front p.name ++ p.arity) (32 ∷ []) p.weight) ∙ sym i.is ∙ j.is ∙ append_assoc (symbol_front q.name ++ q.arity) (32 ∷ []) q.weight in
    let r = split_once (symbol_front p.name ++ p.arity) (symbol_front q.name ++ q.arity) p.weight q.weight (numeral_no_space p.weight i.weight) (numeral_no_space q.weight j.weight) e in
    let b = bare_once p.name q.name p.arity q.arity (bare (Weighing w0) line p i) (bare (Weighing w0) line q j) r.0 in
    same_parts p q b.0 b.1 r.1
parts_once Paths line p q i j =
    let b = bare_once p.name q.name p.arity q.arity (bare Paths line p i) (bare Paths line q j) (sym i.is ∙ j.is) in
    same_parts p q b.0 b.1 (i.weight ∙ sym j.weight)

pub some_once : {A : Type 0} (a b : A) → Some a ≡ Some b → a ≡ b
some_once a b e = cc

pub some_or_none : {A : Type 0} (o : Option A) (a : A) → o ≡ Some a → o ≡ None → ⊥
some_or_none o a e f = cc

module _ (table : Table) (header : Header) where
  -- the two read the same of a line
  pub same_line : (text : List ℕ) (c d : Cut) (p q : Parts) → first_line text ≡ Some c → first_line text ≡ Some d → IsSymbolLine header.kind c.line p → IsSymbolLine header.kind d.line q → (c ≡ d) × (p ≡ q)
  same_line text c d p q e f i j =
      let cuts : c ≡ d = some_once c d (sym e ∙ f) in
      (cuts, parts_once header.kind d.line p q (subst (λ (x : Cut). IsSymbolLine header.kind x.line p) cuts i) j)

  pub no_symbol_line : (text : List ℕ) (c d : Cut) (q : Parts) → first_line text ≡ Some c → first_line text ≡ Some d → ((p : Parts) → IsSymbolLine header.kind c.line p → ⊥) → IsSymbolLine header.kind d.line q → ⊥
  no_symbol_line text c d q e f none j = none q (subst (λ (x : Cut). IsSymbolLine header.kind x.line q) (some_once d c (sym f ∙ e)) j)

  abbrev outcome_of : List Sym → ℕ → Cut → Parts → Bool → Sym → Outcome Ranked
  outcome_of earlier n c p b f = ranked_or (symbol_fault header (is_one_of f earlier) b n (value_of p.arity) (value_of p.weight)) (record { symbol = f; weight = value_of p.weight }) n c.rest

  same_number : (f g : Sym) → f.0 ≡ g.0 → f ≡ g
  same_number f g e = ap (λ k. record { 0 = k }) e

  module _ (d : IsDistinct table) where
    same_symbol : (f g : Sym) (p q : Parts) → p ≡ q → IsSymbol table f p.name (value_of p.arity) → IsSymbol table g q.name (value_of q.arity) → f ≡ g
    same_symbol f g p q e s t = same_number f g (d f.0 g.0 _ (subst (λ (x : Parts). IsSymbol table f x.name (value_of x.arity)) e s) t)

    symbol_once : (earlier : List Sym) → Once (SymbolAt table header earlier)
    symbol_once earlier n text _ _ (is_no_whole_line e) (is_no_whole_line f) = refl
    symbol_once earlier n text _ _ (is_no_whole_line e) (is_no_symbol {c = c} f k) = absurd (some_or_none _ c f e)
    symbol_once earlier n text _ _ (is_no_whole_line e) (has_too_many {c = c} f k m) = absurd (some_or_none _ c f e)
    symbol_once earlier n text _ _ (is_no_whole_line e) (is_symbol {c = c} a x f k m s z o) = absurd (some_or_none _ c f e)
    symbol_once earlier n text _ _ (is_no_symbol {c = c} e h) (is_no_whole_line f) = absurd (some_or_none _ c e f)
    symbol_once earlier n text _ _ (is_no_symbol e h) (is_no_symbol f k) = refl
    symbol_once earlier n text _ _ (is_no_symbol {c = c} e h) (has_too_many {c = g} {p = q} f k m) = absurd (no_symbol_line text c g q e f h k)
    symbol_once earlier n text _ _ (is_no_symbol {c = c} e h) (is_symbol {c = g} {p = q} a x f k m s z o) = absurd (no_symbol_line text c g q e f h k)
    symbol_once earlier n text _ _ (has_too_many {c = c} e h m) (is_no_whole_line f) = absurd (some_or_none _ c e f)
    symbol_once earlier n text _ _ (has_too_many {c = c} {p = p} e h m) (is_no_symbol {c = g} f k) = absurd (no_symbol_line text g c p f e k h)
    symbol_once earlier n text _ _ (has_too_many {c = c} {p = p} e h m) (has_too_many {c = g} {p = q} f k l) = let same = same_line text c g p q e f h k in ap (λ (x : Parts). fails (Limit (place_in n (length (symbol_front x.name))))) same.1
    symbol_once earlier n text _ _ (has_too_many {c = c} {p = p} e h m) (is_symbol {c = g} {p = q} a x f k l s z o) = let same = same_line text c g p q e f h k in absurd (let arities : value_of p.arity ≡ value_of q.arity = ap (λ (x : Parts). value_of x.arity) same.1 in omega arith)
    symbol_once earlier n text _ _ (is_symbol {c = c} a x e h m s z o) (is_no_whole_line f) = absurd (some_or_none _ c e f)
    symbol_once earlier n text _ _ (is_symbol {c = c} {p = p} a x e h m s z o) (is_no_symbol {c = g} f k) = absurd (no_symbol_line text g c p f e k h)
    symbol_once earlier n text _ _ (is_symbol {c = c} {p = p} a x e h m s z o) (has_too_many {c = g} {p = q} f k l) = let same = same_line text c g p q e f h k in absurd (let arities : value_of p.arity ≡ value_of q.arity = ap (λ (x : Parts). value_of x.arity) same.1 in omega arith)
    symbol_once earlier n text _ _ (is_symbol {c = c} {p = p} a x e h m s z o) (is_symbol {c = g} {p = q} b y f k l t w u) =
        let same = same_line text c g p q e f h k in
        let symbols : a ≡ b = same_symbol a b p q same.1 s t in
        let followed : x ≡ y = followed_once header.kind g.rest x y (subst (λ (v : Cut). IsFollowed header.kind v.rest x) same.0 z) w in
        o ∙ (λ i. outcome_of earlier n (same.0 i) (same.1 i) (followed i) (symbols i)) ∙ sym u

    symbols_once : {earlier : List Ranked} {n : ℕ} {text : List ℕ} {o p : Outcome (List Ranked)} → SymbolsAt table header earlier n text o → SymbolsAt table header earlier n text p → o ≡ p
    symbols_once (no_more_symbols e) (no_more_symbols f) = refl
    symbols_once (no_more_symbols e) (one_more_symbol f x y) = absurd (cc)
    symbols_once (no_more_symbols e) (fails_in_symbol f x) = absurd (cc)
    symbols_once (one_more_symbol e x y) (no_more_symbols f) = absurd (cc)
    symbols_once {earlier} {n} {text} {o} {p} (one_more_symbol {m = m} {rest = r} {s = s} e x y) (one_more_symbol {m = k} {rest = q} {s = t} f z w) =
        let same = symbol_once (symbols_in earlier) n text (gets s m r) (gets t k q) x z in
        let values : t ≡ s = cc in
        let numbers : k ≡ m = cc in
        let rests : q ≡ r = cc in
        symbols_once y (rw rests at (rw numbers at (rw values at w)))
    symbols_once {earlier} {n} {text} (one_more_symbol {m = m} {rest = r} {s = s} e x y) (fails_in_symbol {fault = g} f z) = absurd (let same = symbol_once (symbols_in earlier) n text (gets s m r) (fails g) x z in cc)
    symbols_once (fails_in_symbol e x) (no_more_symbols f) = absurd (cc)
    symbols_once {earlier} {n} {text} (fails_in_symbol {fault = g} e x) (one_more_symbol {m = m} {rest = r} {s = s} f z w) = absurd (let same = symbol_once (symbols_in earlier) n text (gets s m r) (fails g) z x in cc)
    symbols_once {earlier} {n} {text} (fails_in_symbol {fault = g} e x) (fails_in_symbol {fault = h} f z) =
        let same = symbol_once (symbols_in earlier) n text (fails g) (fails h) x z in
        let faults : g ≡ h = cc in
        rw faults refl

    pub symbol_lines_once : Once (symbol_lines table header)
    symbol_lines_once n text o p x y = symbols_once x y
