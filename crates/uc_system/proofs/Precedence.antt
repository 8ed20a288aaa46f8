-- What the symbols' lines give: symbols that can be printed.
use Rattle.std.proofs.Common.{◌≡◌, ℕ, zero, suc, get_or, ◌≤◌, ◌<◌, List, [], ◌∷◌, ◌++◌, length, refl, sym, ap, ◌∙◌, subst, arith, Option, Some, None, unwrap_or}
use Rattle.std.proofs.lemmas.List.{map-append}
use Rattle.std.proofs.lemmas.Option.{slice_get_within}
use Rattle.uc_term.specs.declared.node.Sym.{Sym}
use Rattle.uc_term.specs.Table.{Table, Entry, IsSymbol, name_of, arity_of}
use Rattle.uc_clause.specs.Names.{IsSpellable}
use Rattle.uc_clause.specs.Printable.{IsPrintableSymbol}
use Rattle.uc_order.specs.Members.{Each}
pub use Rattle.uc_kbo.proofs.Tables.{each_in}
use Rattle.uc_system.specs.declared.fault.SystemFault.{SystemFault}
use Rattle.uc_system.specs.declared.header.Header.{Header}
use Rattle.uc_system.specs.declared.symbols.Ranked.{Ranked}
use Rattle.uc_system.specs.Numerals.{value_of}
use Rattle.uc_system.specs.Lines.{Outcome, gets}
use Rattle.uc_system.specs.Symbols.{ranked_or, symbols_in, SymbolAt, is_symbol, SymbolsAt, no_more_symbols, one_more_symbol, fails_in_symbol}

pub each_both : {A : Type 0} (P : A → Type 0) (xs ys : List A) → Each P xs → Each P ys → Each P (xs ++ ys)
each_both P [] ys h k = k
each_both P (x ∷ xs) ys h k = (h.0, each_both P xs ys h.1 k)

pub each_map : {A : Type 0} (P Q : A → Type 0) → ((x : A) → P x → Q x) → (xs : List A) → Each P xs → Each Q xs
each_map P Q f [] h = tt
each_map P Q f (x ∷ xs) h = (f x h.0, each_map P Q f xs h.1)

-- the symbol of the one with this number
pub each_symbol : (P : Sym → Type 0) (ss : List Ranked) (i : ℕ) (d : Ranked) → i < length ss → Each P (symbols_in ss) → P (get_or ss i d).symbol
each_symbol P [] i d h all = absurd (omega arith)
each_symbol P (s ∷ ss) zero d h all = all.0
each_symbol P (s ∷ ss) (suc i) d h all = each_symbol P ss i d (omega arith) all.1

pub printable_symbol : (table : Table) (f : Sym) (name : List ℕ) (n : ℕ) → IsSpellable name → n ≤ 255 → IsSymbol table f name n → IsPrintableSymbol table f
printable_symbol table f name n spellable few s =
    let name_is : name_of table f ≡ name = ap (λ (o : Option Entry). (unwrap_or o (record { name = []; arity = 0 })).name) s in
    let arity_is : arity_of table f ≡ n = ap (λ (o : Option Entry). (unwrap_or o (record { name = []; arity = 0 })).arity) s in
    (slice_get_within table f.0 _ s, subst IsSpellable (sym name_is) spellable, omega arith)

pub record IsRanked (fault : Option SystemFault) (x s : Ranked) (r q : List ℕ) : Type 0 where
  pub no_fault : fault ≡ None
  pub is : x ≡ s
  pub rest_is : r ≡ q

pub ranked_is : (fault : Option SystemFault) (x s : Ranked) (n m : ℕ) (r q : List ℕ) → ranked_or fault x n r ≡ gets s m q → IsRanked fault x s r q
ranked_is None x s n m r q e = let same : x ≡ s = cc in let rests : r ≡ q = cc in record { no_fault = refl; is = same; rest_is = rests }
ranked_is (Some fault) x s n m r q e = absurd (cc)

module _ (table : Table) (header : Header) where
  symbol_printable : {earlier : List Sym} {n : ℕ} {text : List ℕ} {o : Outcome Ranked} → SymbolAt table header earlier n text o → (s : Ranked) (m : ℕ) (rest : List ℕ) → o ≡ gets s m rest → IsPrintableSymbol table s.symbol
  symbol_printable (is_symbol {p = p} f b e h l y w o) s m rest g =
      let ranked = ranked_is _ (record { symbol = f; weight = value_of p.weight }) s _ m _ rest (sym o ∙ g) in
      let same : f ≡ s.symbol = ap (λ (x : Ranked). x.symbol) ranked.is in
      subst (IsPrintableSymbol table) same (printable_symbol table f p.name (value_of p.arity) h.name l y)
  symbol_printable v s m rest g = absurd cc

  all_printable : {earlier : List Ranked} {n : ℕ} {text : List ℕ} {o : Outcome (List Ranked)} → SymbolsAt table header earlier n text o → (ss : List Ranked) (m : ℕ) (rest : List ℕ) → o ≡ gets ss m rest → Each (IsPrintableSymbol table) (symbols_in earlier) → Each (IsPrintableSymbol table) (symbols_in ss)
  all_printable {earlier} (no_more_symbols e) ss m rest g all = let same : earlier ≡ ss = cc in subst (λ (x : List Ranked). Each (IsPrintableSymbol table) (symbols_in x)) same all
  all_printable {earlier} (one_more_symbol {m = k} {rest = q} {s = s} e x y) ss m rest g all =
      let more : Each (IsPrintableSymbol table) (symbols_in earlier ++ s.symbol ∷ []) = each_both (IsPrintableSymbol table) (symbols_in earlier) (s.symbol ∷ []) all (symbol_printable x s k q refl, tt) in
      all_printable y ss m rest g (subst (Each (IsPrintableSymbol table)) (sym (map-append (λ (r : Ranked). r.symbol) earlier (s ∷ []))) more)
  all_printable (fails_in_symbol e x) ss m rest g all = absurd (cc)

  pub symbols_printable : {n : ℕ} {text : List ℕ} (ss : List Ranked) (m : ℕ) (rest : List ℕ) → SymbolsAt table header [] n text (gets ss m rest) → Each (IsPrintableSymbol table) (symbols_in ss)
  symbols_printable ss m rest x = all_printable x ss m rest refl tt
