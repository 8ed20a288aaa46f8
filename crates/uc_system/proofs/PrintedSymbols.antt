-- Printed symbols are read as they are.
use Rattle.std.proofs.Common.{◌≡◌, ℕ, ◌+◌, ◌<◌, ◌^◌, ◌==◌, ◌||◌, Bool, true, false, List, [], ◌∷◌, ◌++◌, length, map, refl, sym, ap, ◌∙◌, subst, append_assoc, append-nil, arith, Some, None, decimal}
use Rattle.std.specs.Prelude.{codes}
use Rattle.std.proofs.lemmas.List.{map-append}
use Rattle.std.proofs.lemmas.Option.{slice_get-get_or, unwrap_or-slice_get}
use Rattle.std.proofs.lemmas.Bool.Decides.{nat_tests}
use Rattle.std.proofs.lemmas.Bool.{or_from}
use Rattle.uc_term.specs.declared.node.Sym.{Sym}
use Rattle.uc_term.specs.Table.{Table, Entry, Has, IsSymbol, name_of, arity_of}
use Rattle.uc_term.specs.Signatures.{same_symbol}
use Rattle.uc_clause.specs.Bytes.{in_line}
use Rattle.uc_clause.specs.Names.{spelling}
use Rattle.uc_clause.specs.Printable.{IsPrintableSymbol}
use Rattle.uc_order.specs.Members.{In, in_front, in_rest, Each, AreDistinct}
use Rattle.uc_system.specs.declared.header.Kind.{Kind}
use Rattle.uc_system.specs.declared.header.Kind.TheVariants.{Weighing, Paths}
use Rattle.uc_system.specs.declared.header.Header.{Header}
use Rattle.uc_system.specs.declared.symbols.Ranked.{Ranked}
use Rattle.uc_system.specs.Numerals.{value_of}
use Rattle.uc_system.specs.Lines.{gets}
use Rattle.uc_system.specs.Symbols.{symbol_words, begins_symbol, Parts, symbol_front, IsSymbolLine, IsFollowed, is_bad_weight, is_one_of, symbol_fault, ranked_or, symbols_in, is_symbol, SymbolsAt, no_more_symbols, one_more_symbol}
use Rattle.uc_system.specs.Printing.{bare_line, weighed_line, weighed_text, bare_text}
use Rattle.uc_system.proofs.PrintedFacts.{cut_ended}
use Rattle.uc_system.proofs.Decimals.{all_append, decimal_numeral, decimal_value, decimal_in_line}
use Rattle.uc_system.proofs.Standing.{no_symbol_here}
use Rattle.uc_system.proofs.TextsInLine.{InLine, spelling_in_line}

symbol_is : (table : Table) (f : Sym) → Has table f → IsSymbol table f (name_of table f) (arity_of table f)
symbol_is table f has =
    let d : Entry = record { name = []; arity = 0 } in
    slice_get-get_or table f.0 d has ∙ ap Some (sym (unwrap_or-slice_get table f.0 d))

-- symbols with weights beside them
abbrev pub ranked : List Sym → List ℕ → List Ranked
ranked (f ∷ fs) (w ∷ ws) = record { symbol = f; weight = w } ∷ ranked fs ws
ranked fs ws = []

abbrev pub unranked : List Sym → List Ranked
unranked fs = map (λ f. record { symbol = f; weight = 0 }) fs

-- none of them is one of the others
abbrev pub AreNew : List Sym → List Sym → Type 0
AreNew earlier fs = Each (λ f. is_one_of f earlier ≡ false) fs

other_symbol : (f g : Sym) → (f ≡ g → ⊥) → same_symbol f g ≡ false
other_symbol f g n = by_test (f.0 == g.0) refl
  where
    by_test : (t : Bool) → (f.0 == g.0) ≡ t → (f.0 == g.0) ≡ false
    by_test true e = absurd (n (let numbers : f.0 ≡ g.0 = grind (arith, nat_tests) in ap (λ k. record { 0 = k }) numbers))
    by_test false e = e

one_of_by : (f x : Sym) (xs : List Sym) (g : Sym) (t : Bool) → same_symbol f x ≡ t → (same_symbol f x || is_one_of f xs) ≡ false → (is_one_of f xs ≡ false → is_one_of f (xs ++ g ∷ []) ≡ false) → (same_symbol f x || is_one_of f (xs ++ g ∷ [])) ≡ false
one_of_by f x xs g true q h more = absurd (let h' : true ≡ false = rw q at h in cc)
one_of_by f x xs g false q h more = let h' : is_one_of f xs ≡ false = rw q at h in rw q (more h')

one_of_more : (f : Sym) (earlier : List Sym) (g : Sym) → is_one_of f earlier ≡ false → same_symbol f g ≡ false → is_one_of f (earlier ++ g ∷ []) ≡ false
one_of_more f [] g h e = or_from _ false e refl
one_of_more f (x ∷ xs) g h e = one_of_by f x xs g (same_symbol f x) refl h (λ k. one_of_more f xs g k e)

new_more : (earlier : List Sym) (g : Sym) (fs : List Sym) → AreNew earlier fs → (In fs g → ⊥) → AreNew (earlier ++ g ∷ []) fs
new_more earlier g [] all n = tt
new_more earlier g (f ∷ fs) all n = (one_of_more f earlier g all.0 (other_symbol f g (λ e. n (subst (λ (x : Sym). In (f ∷ fs) x) e in_front))), new_more earlier g fs all.1 (λ i. n (in_rest i)))

symbols_more : (earlier : List Ranked) (s : Ranked) → symbols_in earlier ++ s.symbol ∷ [] ≡ symbols_in (earlier ++ s ∷ [])
symbols_more earlier s = sym (map-append (λ (r : Ranked). r.symbol) earlier (s ∷ []))

module _ (table : Table) where
  bare_in_line : (f : Sym) → IsPrintableSymbol table f → InLine (bare_line table f)
  bare_in_line f p = all_append in_line (symbol_front (name_of table f)) (decimal (arity_of table f)) (all_append in_line (symbol_words ++ spelling (name_of table f)) (codes " ") (all_append in_line symbol_words (spelling (name_of table f)) refl (spelling_in_line (name_of table f) p.1)) refl) (decimal_in_line (arity_of table f) (omega (arith, p.2)))

  weighed_in_line : (f : Sym) (w : ℕ) → IsPrintableSymbol table f → w < 2 ^ 64 → InLine (weighed_line table f w)
  weighed_in_line f w p small = all_append in_line (bare_line table f ++ codes " ") (decimal w) (all_append in_line (bare_line table f) (codes " ") (bare_in_line f p) refl) (decimal_in_line w small)

  module _ (first : ℕ) (light : Bool) where
    abbrev pub header_of : Kind → Header
    header_of kind = record { first = first; light = light; kind = kind }

    -- what is right with a weight
    pub record IsGood (w0 : ℕ) (f : Sym) (w : ℕ) (fs : List Sym) : Type 0 where
      pub small : w < 2 ^ 64
      pub fine : is_bad_weight (Weighing w0) (arity_of table f) w ≡ false
      pub light_is : (w == 0) ≡ true → light ≡ true
      pub last : (w == 0) ≡ true → length fs ≡ 0

    no_fault : (w0 n : ℕ) (f : Sym) (w : ℕ) (fs : List Sym) (followed : Bool) → IsGood w0 f w fs → (length fs ≡ 0 → followed ≡ false) → symbol_fault (header_of (Weighing w0)) false followed n (arity_of table f) w ≡ None
    no_fault w0 n f w fs followed good behind = by_weight (w == 0) refl
      where
        by_weight : (t : Bool) → (w == 0) ≡ t → symbol_fault (header_of (Weighing w0)) false followed n (arity_of table f) w ≡ None
        by_weight false e = rw (good.fine, e) refl
        by_weight true e = let l : light ≡ true = good.light_is e in let k : followed ≡ false = behind (good.last e) in rw (good.fine, e, l, k) refl

    abbrev pub AreGood : ℕ → List Sym → List ℕ → Type 0
    AreGood w0 (f ∷ fs) (w ∷ ws) = IsGood w0 f w fs × AreGood w0 fs ws
    AreGood w0 fs ws = Unit {0}

    -- exactly another symbol's line follows, or none
    record Next (kind : Kind) (text : List ℕ) (fs : List Sym) : Type 0 where
      followed : Bool
      is_so : IsFollowed kind text followed
      none : length fs ≡ 0 → followed ≡ false

    weighed_symbol : (w0 : ℕ) (f : Sym) (w : ℕ) → IsPrintableSymbol table f → w < 2 ^ 64 → IsSymbolLine (Weighing w0) (weighed_line table f w) (record { name = name_of table f; arity = decimal (arity_of table f); weight = decimal w })
    weighed_symbol w0 f w p small = record { name = p.1; arity = decimal_numeral (arity_of table f) (omega (arith, p.2)); weight = decimal_numeral w small; is = refl }

    next_weighed : (w0 : ℕ) (fs : List Sym) (ws : List ℕ) (rest : List ℕ) → begins_symbol rest ≡ false → length ws ≡ length fs → Each (IsPrintableSymbol table) fs → AreGood w0 fs ws → Next (Weighing w0) (weighed_text table fs ws ++ rest) fs
    next_weighed w0 [] ws rest h many all good = record { followed = false; is_so = no_symbol_here (Weighing w0) rest h; none = λ e. refl }
    next_weighed w0 (f ∷ fs) [] rest h many all good = absurd (omega arith)
    next_weighed w0 (f ∷ fs) (w ∷ ws) rest h many all good = record {
      followed = true;
      is_so = record { cut = record { line = weighed_line table f w; rest = weighed_text table fs ws ++ rest }; is_cut = cut_ended (weighed_line table f w) (weighed_text table fs ws) rest (weighed_in_line f w all.0 good.0.small); parts = record { name = name_of table f; arity = decimal (arity_of table f); weight = decimal w }; line = weighed_symbol w0 f w all.0 good.0.small };
      none = λ e. absurd (omega arith);
    }

    bare_symbol : (f : Sym) → IsPrintableSymbol table f → IsSymbolLine Paths (bare_line table f) (record { name = name_of table f; arity = decimal (arity_of table f); weight = [] })
    bare_symbol f p = record { name = p.1; arity = decimal_numeral (arity_of table f) (omega (arith, p.2)); weight = refl; is = refl }

    next_bare : (fs : List Sym) (rest : List ℕ) → begins_symbol rest ≡ false → Each (IsPrintableSymbol table) fs → Next Paths (bare_text table fs ++ rest) fs
    next_bare [] rest h all = record { followed = false; is_so = no_symbol_here Paths rest h; none = λ e. refl }
    next_bare (f ∷ fs) rest h all = record {
      followed = true;
      is_so = record { cut = record { line = bare_line table f; rest = bare_text table fs ++ rest }; is_cut = cut_ended (bare_line table f) (bare_text table fs) rest (bare_in_line f all.0); parts = record { name = name_of table f; arity = decimal (arity_of table f); weight = [] }; line = bare_symbol f all.0 };
      none = λ e. absurd (omega arith);
    }

    pub weighed_read : (w0 : ℕ) (earlier : List Ranked) (fs : List Sym) (ws : List ℕ) (n : ℕ) (rest : List ℕ) → begins_symbol rest ≡ false → length ws ≡ length fs → Each (IsPrintableSymbol table) fs → AreNew (symbols_in earlier) fs → AreDistinct fs → AreGood w0 fs ws → SymbolsAt table (header_of (Weighing w0)) earlier n (weighed_text table fs ws ++ rest) (gets (earlier ++ ranked fs ws) (n + length fs) rest)
    weighed_read w0 earlier [] ws n rest h many all new distinct good =
        let number : n ≡ n + 0 = omega arith in
        subst (λ x. SymbolsAt table (header_of (Weighing w0)) earlier n rest (gets x (n + 0) rest)) (sym (append-nil earlier)) (subst (λ m. SymbolsAt table (header_of (Weighing w0)) earlier n rest (gets earlier m rest)) number (no_more_symbols h))
    weighed_read w0 earlier (f ∷ fs) [] n rest h many all new distinct good = absurd (omega arith)
    weighed_read w0 earlier (f ∷ fs) (w ∷ ws) n rest h many all new distinct good =
        let s : Ranked = record { symbol = f; weight = w } in
        let p : Parts = record { name = name_of table f; arity = decimal (arity_of table f); weight = decimal w } in
        let text : List ℕ = weighed_text table fs ws ++ rest in
        let few : arity_of table f < 2 ^ 64 = omega (arith, all.0.2) in
        let arity_is : value_of (decimal (arity_of table f)) ≡ arity_of table f = decimal_value (arity_of table f) few in
        let weight_is : value_of (decimal w) ≡ w = decimal_value w good.0.small in
        let cut = cut_ended (weighed_line table f w) (weighed_text table fs ws) rest (weighed_in_line f w all.0 good.0.small) in
        let line = weighed_symbol w0 f w all.0 good.0.small in
        let next = next_weighed w0 fs ws rest h (omega arith) all.1 good.1 in
        let fault = no_fault w0 n f w fs next.followed good.0 next.none in
        let outcome : gets s (n + 1) text ≡ ranked_or (symbol_fault (header_of (Weighing w0)) (is_one_of f (symbols_in earlier)) next.followed n (value_of p.arity) (value_of p.weight)) (record { symbol = f; weight = value_of p.weight }) n text = rw (arity_is, weight_is, new.0, fault) refl in
        let here = is_symbol {c = record { line = weighed_line table f w; rest = text }} {p = p} f next.followed cut line (omega (arith, all.0.2, arity_is)) (subst (IsSymbol table f (name_of table f)) (sym arity_is) (symbol_is table f all.0.0)) next.is_so outcome in
        let new_ones = subst (λ x. AreNew x fs) (symbols_more earlier s) (new_more (symbols_in earlier) f fs new.1 distinct.0) in
        let more = weighed_read w0 (earlier ++ s ∷ []) fs ws (n + 1) rest h (omega arith) all.1 new_ones distinct.1 good.1 in
        let number : n + 1 + length fs ≡ n + length (f ∷ fs) = omega arith in
        one_more_symbol refl here (subst (λ m. SymbolsAt table (header_of (Weighing w0)) (earlier ++ s ∷ []) (n + 1) text (gets (earlier ++ ranked (f ∷ fs) (w ∷ ws)) m rest)) number (subst (λ x. SymbolsAt table (header_of (Weighing w0)) (earlier ++ s ∷ []) (n + 1) text (gets x (n + 1 + length fs) rest)) (append_assoc earlier (s ∷ []) (ranked fs ws)) more))

    pub bare_read : (earlier : List Ranked) (fs : List Sym) (n : ℕ) (rest : List ℕ) → begins_symbol rest ≡ false → Each (IsPrintableSymbol table) fs → AreNew (symbols_in earlier) fs → AreDistinct fs → SymbolsAt table (header_of Paths) earlier n (bare_text table fs ++ rest) (gets (earlier ++ unranked fs) (n + length fs) rest)
    bare_read earlier [] n rest h all new distinct =
        let number : n ≡ n + 0 = omega arith in
        subst (λ x. SymbolsAt table (header_of Paths) earlier n rest (gets x (n + 0) rest)) (sym (append-nil earlier)) (subst (λ m. SymbolsAt table (header_of Paths) earlier n rest (gets earlier m rest)) number (no_more_symbols h))
    bare_read earlier (f ∷ fs) n rest h all new distinct =
        let s : Ranked = record { symbol = f; weight = 0 } in
        let p : Parts = record { name = name_of table f; arity = decimal (arity_of table f); weight = [] } in
        let text : List ℕ = bare_text table fs ++ rest in
        let few : arity_of table f < 2 ^ 64 = omega (arith, all.0.2) in
        let arity_is : value_of (decimal (arity_of table f)) ≡ arity_of table f = decimal_value (arity_of table f) few in
        let cut = cut_ended (bare_line table f) (bare_text table fs) rest (bare_in_line f all.0) in
        let line = bare_symbol f all.0 in
        let next = next_bare fs rest h all.1 in
        let outcome : gets s (n + 1) text ≡ ranked_or (symbol_fault (header_of Paths) (is_one_of f (symbols_in earlier)) next.followed n (value_of p.arity) (value_of p.weight)) (record { symbol = f; weight = value_of p.weight }) n text = rw new.0 refl in
        let here = is_symbol {c = record { line = bare_line table f; rest = text }} {p = p} f next.followed cut line (omega (arith, all.0.2, arity_is)) (subst (IsSymbol table f (name_of table f)) (sym arity_is) (symbol_is table f all.0.0)) next.is_so outcome in
        let new_ones = subst (λ x. AreNew x fs) (symbols_more earlier s) (new_more (symbols_in earlier) f fs new.1 distinct.0) in
        let more = bare_read (earlier ++ s ∷ []) fs (n + 1) rest h all.1 new_ones distinct.1 in
        let number : n + 1 + length fs ≡ n + length (f ∷ fs) = omega arith in
        one_more_symbol refl here (subst (λ m. SymbolsAt table (header_of Paths) (earlier ++ s ∷ []) (n + 1) text (gets (earlier ++ unranked (f ∷ fs)) m rest)) number (subst (λ x. SymbolsAt table (header_of Paths) (earlier ++ s ∷ []) (n + 1) text (gets x (n + 1 + length fs) rest)) (append_assoc earlier (s ∷ []) (unranked fs)) more))
