-- Why a text isn't read doesn't depend on the table: two tables with the symbols of the lines so far lead from line to line alike.
use Rattle.std.proofs.Common.{◌≡◌, ℕ, ◌==◌, ◌||◌, Bool, true, false, List, [], ◌∷◌, ◌++◌, length, map, slice_get, unwrap_or, Option, Some, None, Result, Err, refl, sym, ap, ap₂, ◌∙◌, subst, arith, if◌then◌else◌}
use Rattle.std.specs.Prelude.{◌&&◌, not}
use Rattle.std.proofs.lemmas.Bool.{eqb-true, eq-eqb}
use Rattle.std.proofs.lemmas.List.{length-map}
use Rattle.uc_term.specs.declared.node.Sym.{Sym}
use Rattle.uc_term.specs.declared.equation.Equation.{Equation}
use Rattle.uc_term.specs.Table.{Table, Entry, IsSymbol, IsDistinct, name_of, arity_of}
use Rattle.uc_clause.specs.Printable.{IsPrintableSymbol}
use Rattle.uc_order.specs.Members.{In, in_front, in_rest, Each}
use Rattle.uc_system.specs.declared.fault.SystemFault.{SystemFault}
use Rattle.uc_system.specs.declared.fault.SystemFault.TheVariants.{Limit}
use Rattle.uc_system.specs.declared.header.Header.{Header}
use Rattle.uc_system.specs.declared.symbols.Ranked.{Ranked}
use Rattle.uc_system.specs.declared.system.SystemText.{SystemText}
use Rattle.uc_system.specs.Numerals.{value_of}
use Rattle.uc_system.specs.Lines.{Cut, place_in, departs, Outcome, gets, fails, Rule, goes_on, fails_first, ◌>>=◌, gives, passed_or}
use Rattle.uc_system.specs.Symbols.{Parts, symbol_front, is_one_of, weighs_nothing, symbol_fault, ranked_or, symbols_in, IsFollowed, SymbolAt, is_no_whole_line, is_no_symbol, has_too_many, is_symbol, SymbolsAt, no_more_symbols, one_more_symbol, fails_in_symbol, has_light, has_constant, symbols_fault, are_complete}
use Rattle.uc_system.specs.Facts.{fact_lines}
use Rattle.uc_system.specs.Reading.{text_of, system_body, system_lines, ReadsSystem, reads, goes_further, fails_within}
use Rattle.uc_system.proofs.HeaderOnce.{header_once}
use Rattle.uc_system.proofs.SymbolsOnce.{some_or_none, same_line, no_symbol_line}
use Rattle.uc_system.proofs.Standing.{followed_once}
use Rattle.uc_system.proofs.Precedence.{symbols_printable}
use Rattle.uc_system.proofs.FactsOnce.{fact_lines_once}
use Rattle.uc_system.proofs.Renamed.{renamed_sides, Renames, AreAlike, with_others, facts_renamed}

-- two readings end behind the same line with as many facts, or with the same fault
abbrev pub EndAlike : Outcome SystemText → Outcome SystemText → Type 0
EndAlike (gets a n rest) (gets b m more) = (n ≡ m) × (rest ≡ more) × (length a.system.facts ≡ length b.system.facts)
EndAlike (fails a) (fails b) = a ≡ b
EndAlike o p = ⊥

-- a symbol of one table and a symbol of another have the same entry
pub record HaveEntry (one other : Table) (f g : Sym) : Type 0 where
  pub entry : Entry
  pub here : slice_get one f.0 ≡ Some entry
  pub there : slice_get other g.0 ≡ Some entry

entry_back : (one other : Table) (f g : Sym) → HaveEntry one other f g → HaveEntry other one g f
entry_back one other f g h = record { entry = h.entry; here = h.there; there = h.here }

same_names : (one other : Table) (f g : Sym) → HaveEntry one other f g → name_of one f ≡ name_of other g
same_names one other f g h = ap (λ (o : Option Entry). (unwrap_or o (record { name = []; arity = 0 })).name) (h.here ∙ sym h.there)

same_arities : (one other : Table) (f g : Sym) → HaveEntry one other f g → arity_of one f ≡ arity_of other g
same_arities one other f g h = ap (λ (o : Option Entry). (unwrap_or o (record { name = []; arity = 0 })).arity) (h.here ∙ sym h.there)

-- so it is with symbols, one by one
pub data HaveEntries (one other : Table) : List Sym → List Sym → Type 0 where
  no_entries : HaveEntries one other [] []
  more_entries : {f g : Sym} {fs gs : List Sym} → HaveEntry one other f g → HaveEntries one other fs gs → HaveEntries one other (f ∷ fs) (g ∷ gs)

entries_back : (one other : Table) {fs gs : List Sym} → HaveEntries one other fs gs → HaveEntries other one gs fs
entries_back one other no_entries = no_entries
entries_back one other (more_entries {f = f} {g = g} h t) = more_entries (entry_back one other f g h) (entries_back one other t)

-- the symbol that stands where this one does
abbrev partner : List Sym → List Sym → Sym → Sym
partner (f ∷ fs) (g ∷ gs) h = if h.0 == f.0 then g else partner fs gs h
partner fs gs h = h

same_number : (f g : Sym) → f.0 ≡ g.0 → f ≡ g
same_number f g e = ap (λ k. record { 0 = k }) e

later_in : (f : Sym) (fs : List Sym) (h : Sym) → In (f ∷ fs) h → ((h.0 == f.0) ≡ false) → In fs h
later_in f fs _ in_front e = absurd (let bad : true ≡ false = sym (eq-eqb f.0 f.0 refl) ∙ e in cc)
later_in f fs h (in_rest i) e = i

module _ (one other : Table) where
  abbrev HasPartner : List Sym → Sym → Sym → Type 0
  HasPartner gs h p = In gs p × HaveEntry one other h p

  has_partner : {fs gs : List Sym} → HaveEntries one other fs gs → (h : Sym) → In fs h → HasPartner gs h (partner fs gs h)
  has_partner no_entries h i = elim i [ ]
  has_partner (more_entries {f = f} {g = g} {fs = fs} {gs = gs} s t) h i = go (h.0 == f.0) refl (λ j. has_partner t h j)
    where
      go : (b : Bool) → (h.0 == f.0) ≡ b → (In fs h → HasPartner gs h (partner fs gs h)) → HasPartner (g ∷ gs) h (if b then g else partner fs gs h)
      go true e later = (in_front, subst (λ (x : Sym). HaveEntry one other x g) (sym (same_number h f (eqb-true h.0 f.0 e))) s)
      go false e later = let p = later (later_in f fs h i e) in (in_rest p.0, p.1)

  renames : {fs gs : List Sym} → HaveEntries one other fs gs → Renames one other fs gs
  renames {fs} {gs} s = record {
    r = partner fs gs;
    known = λ f i. (has_partner s f i).0;
    names = λ f i. sym (same_names one other f (partner fs gs f) (has_partner s f i).1);
    arities = λ f i. sym (same_arities one other f (partner fs gs f) (has_partner s f i).1);
  }

are_alike : (one other : Table) {fs gs : List Sym} → HaveEntries one other fs gs → AreAlike one other fs gs
are_alike one other s = record { there = renames one other s; back = renames other one (entries_back one other s) }

-- what the symbols' lines give in two tables
pub data AreRanked (one other : Table) : List Ranked → List Ranked → Type 0 where
  none_ranked : AreRanked one other [] []
  one_ranked : {s r : Ranked} {ss rs : List Ranked} → HaveEntry one other s.symbol r.symbol → s.weight ≡ r.weight → AreRanked one other ss rs → AreRanked one other (s ∷ ss) (r ∷ rs)

module _ (one other : Table) where
  ranked_on : {ss rs : List Ranked} (s r : Ranked) → AreRanked one other ss rs → HaveEntry one other s.symbol r.symbol → s.weight ≡ r.weight → AreRanked one other (ss ++ s ∷ []) (rs ++ r ∷ [])
  ranked_on s r none_ranked h w = one_ranked h w none_ranked
  ranked_on s r (one_ranked k v t) h w = one_ranked k v (ranked_on s r t h w)

  entries_of : {ss rs : List Ranked} → AreRanked one other ss rs → HaveEntries one other (symbols_in ss) (symbols_in rs)
  entries_of none_ranked = no_entries
  entries_of (one_ranked h w t) = more_entries h (entries_of t)

  light_alike : (header : Header) {ss rs : List Ranked} → AreRanked one other ss rs → has_light header ss ≡ has_light header rs
  light_alike header none_ranked = refl
  light_alike header (one_ranked h w t) = ap₂ (λ n b. weighs_nothing header.kind n || b) w (light_alike header t)

  constant_alike : {ss rs : List Ranked} → AreRanked one other ss rs → has_constant one ss ≡ has_constant other rs
  constant_alike none_ranked = refl
  constant_alike (one_ranked {s = s} {r = r} h w t) = ap₂ (λ n b. (n == 0) || b) (same_arities one other s.symbol r.symbol h) (constant_alike t)

  faults_alike : (header : Header) (n : ℕ) {ss rs : List Ranked} → AreRanked one other ss rs → symbols_fault one header ss n ≡ symbols_fault other header rs n
  faults_alike header n a = ap₂ (λ p q. if header.light && not p then Some (departs header.first) else (if q then None else Some (departs n))) (light_alike header a) (constant_alike a)

  module _ (first : IsDistinct one) (second : IsDistinct other) where
    -- a symbol stands among the ones where its partner stands among the others
    numbers_alike : (f g h k : Sym) → HaveEntry one other f g → HaveEntry one other h k → (f.0 == h.0) ≡ (g.0 == k.0)
    numbers_alike f g h k s t = go (f.0 == h.0) (g.0 == k.0) refl refl
      where
        go : (a b : Bool) → (f.0 == h.0) ≡ a → (g.0 == k.0) ≡ b → a ≡ b
        go true true d e = refl
        go false false d e = refl
        go true false d e =
            let numbers : f.0 ≡ h.0 = eqb-true f.0 h.0 d in
            let entries : Some s.entry ≡ Some t.entry = sym s.here ∙ ap (slice_get one) numbers ∙ t.here in
            let others : g.0 ≡ k.0 = second g.0 k.0 t.entry (s.there ∙ entries) t.there in
            absurd (let bad : true ≡ false = sym (eq-eqb g.0 k.0 others) ∙ e in cc)
        go false true d e =
            let numbers : g.0 ≡ k.0 = eqb-true g.0 k.0 e in
            let entries : Some s.entry ≡ Some t.entry = sym s.there ∙ ap (slice_get other) numbers ∙ t.there in
            let others : f.0 ≡ h.0 = first f.0 h.0 t.entry (s.here ∙ entries) t.here in
            absurd (let bad : true ≡ false = sym (eq-eqb f.0 h.0 others) ∙ d in cc)

    one_of_alike : (f g : Sym) → HaveEntry one other f g → {ss rs : List Ranked} → AreRanked one other ss rs → is_one_of f (symbols_in ss) ≡ is_one_of g (symbols_in rs)
    one_of_alike f g h none_ranked = refl
    one_of_alike f g h (one_ranked {s = s} {r = r} k w t) = ap₂ (λ a b. a || b) (numbers_alike f g s.symbol r.symbol h k) (one_of_alike f g h t)

    -- both give a symbol of the same weight, or refuse alike
    pub data GiveAlike : Outcome Ranked → Outcome Ranked → Type 0 where
      both_give : {s r : Ranked} {n : ℕ} {rest : List ℕ} → HaveEntry one other s.symbol r.symbol → s.weight ≡ r.weight → GiveAlike (gets s n rest) (gets r n rest)
      both_refuse : {fault : SystemFault} → GiveAlike (fails fault) (fails fault)

    give_or : (fault : Option SystemFault) (s r : Ranked) (n : ℕ) (rest : List ℕ) → HaveEntry one other s.symbol r.symbol → s.weight ≡ r.weight → GiveAlike (ranked_or fault s n rest) (ranked_or fault r n rest)
    give_or None s r n rest h w = both_give h w
    give_or (Some fault) s r n rest h w = both_refuse

    module _ (header : Header) where
      abbrev outcome_of : List Sym → ℕ → Cut → Parts → Bool → Sym → Outcome Ranked
      outcome_of earlier n c p b f = ranked_or (symbol_fault header (is_one_of f earlier) b n (value_of p.arity) (value_of p.weight)) (record { symbol = f; weight = value_of p.weight }) n c.rest

      symbol_given : (n : ℕ) (c : Cut) (p : Parts) (b : Bool) (f g : Sym) → HaveEntry one other f g → {ss rs : List Ranked} → AreRanked one other ss rs → GiveAlike (outcome_of (symbols_in ss) n c p b f) (outcome_of (symbols_in rs) n c p b g)
      symbol_given n c p b f g h {ss} {rs} a =
          subst (λ (x : Bool). GiveAlike (outcome_of (symbols_in ss) n c p b f) (ranked_or (symbol_fault header x b n (value_of p.arity) (value_of p.weight)) (record { symbol = g; weight = value_of p.weight }) n c.rest)) (one_of_alike f g h a)
          (give_or (symbol_fault header (is_one_of f (symbols_in ss)) b n (value_of p.arity) (value_of p.weight)) (record { symbol = f; weight = value_of p.weight }) (record { symbol = g; weight = value_of p.weight }) n c.rest h refl)

      symbol_alike : {ss rs : List Ranked} → AreRanked one other ss rs → {n : ℕ} {text : List ℕ} {o p : Outcome Ranked} → SymbolAt one header (symbols_in ss) n text o → SymbolAt other header (symbols_in rs) n text p → GiveAlike o p
      symbol_alike r (is_no_whole_line e) (is_no_whole_line f) = both_refuse
      symbol_alike r (is_no_whole_line e) (is_no_symbol {c = c} f k) = absurd (some_or_none _ c f e)
      symbol_alike r (is_no_whole_line e) (has_too_many {c = c} f k m) = absurd (some_or_none _ c f e)
      symbol_alike r (is_no_whole_line e) (is_symbol {c = c} a x f k m s z o) = absurd (some_or_none _ c f e)
      symbol_alike r (is_no_symbol {c = c} e h) (is_no_whole_line f) = absurd (some_or_none _ c e f)
      symbol_alike r (is_no_symbol e h) (is_no_symbol f k) = both_refuse
      symbol_alike r {text = text} (is_no_symbol {c = c} e h) (has_too_many {c = g} {p = q} f k m) = absurd (no_symbol_line one header text c g q e f h k)
      symbol_alike r {text = text} (is_no_symbol {c = c} e h) (is_symbol {c = g} {p = q} a x f k m s z o) = absurd (no_symbol_line one header text c g q e f h k)
      symbol_alike r (has_too_many {c = c} e h m) (is_no_whole_line f) = absurd (some_or_none _ c e f)
      symbol_alike r {text = text} (has_too_many {c = c} {p = p} e h m) (is_no_symbol {c = g} f k) = absurd (no_symbol_line one header text g c p f e k h)
      symbol_alike r {n = n} {text = text} (has_too_many {c = c} {p = p} e h m) (has_too_many {c = g} {p = q} f k l) =
          let same = same_line one header text c g p q e f h k in
          subst (λ (x : Parts). GiveAlike (fails (Limit (place_in n (length (symbol_front p.name))))) (fails (Limit (place_in n (length (symbol_front x.name)))))) same.1 both_refuse
      symbol_alike r {text = text} (has_too_many {c = c} {p = p} e h m) (is_symbol {c = g} {p = q} a x f k l s z o) = let same = same_line one header text c g p q e f h k in absurd (let arities : value_of p.arity ≡ value_of q.arity = ap (λ (x : Parts). value_of x.arity) same.1 in omega arith)
      symbol_alike r (is_symbol {c = c} a x e h m s z o) (is_no_whole_line f) = absurd (some_or_none _ c e f)
      symbol_alike r {text = text} (is_symbol {c = c} {p = p} a x e h m s z o) (is_no_symbol {c = g} f k) = absurd (no_symbol_line one header text g c p f e k h)
      symbol_alike r {text = text} (is_symbol {c = c} {p = p} a x e h m s z o) (has_too_many {c = g} {p = q} f k l) = let same = same_line one header text c g p q e f h k in absurd (let arities : value_of p.arity ≡ value_of q.arity = ap (λ (x : Parts). value_of x.arity) same.1 in omega arith)
      symbol_alike {rs = rs} r {n = n} {text = text} (is_symbol {c = c} {p = p} {outcome = o} a x e h m s z i) (is_symbol {c = g} {p = q} {outcome = w} b y f k l t v j) =
          let same = same_line one header text c g p q e f h k in
          let followed : x ≡ y = followed_once header.kind g.rest x y (subst (λ (u : Cut). IsFollowed header.kind u.rest x) same.0 z) v in
          let entry : IsSymbol other b p.name (value_of p.arity) = subst (λ (u : Parts). IsSymbol other b u.name (value_of u.arity)) (sym same.1) t in
          let given = symbol_given n c p x a b (record { entry = record { name = p.name; arity = value_of p.arity }; here = s; there = entry }) r in
          let moved : outcome_of (symbols_in rs) n c p x b ≡ w = (λ d. outcome_of (symbols_in rs) n (same.0 d) (same.1 d) (followed d) b) ∙ sym j in
          subst (GiveAlike o) moved (subst (λ u. GiveAlike u (outcome_of (symbols_in rs) n c p x b)) (sym i) given)

      -- all of them
      pub data GiveAll : Outcome (List Ranked) → Outcome (List Ranked) → Type 0 where
        both_all : {ss rs : List Ranked} {n : ℕ} {rest : List ℕ} → AreRanked one other ss rs → GiveAll (gets ss n rest) (gets rs n rest)
        both_fail : {fault : SystemFault} → GiveAll (fails fault) (fails fault)

      record AreGiven (s r : Ranked) (n m : ℕ) (rest more : List ℕ) : Type 0 where
        entry : HaveEntry one other s.symbol r.symbol
        weight : s.weight ≡ r.weight
        number : m ≡ n
        text : more ≡ rest

      given : {o p : Outcome Ranked} → GiveAlike o p → (s r : Ranked) (n m : ℕ) (rest more : List ℕ) → o ≡ gets s n rest → p ≡ gets r m more → AreGiven s r n m rest more
      given (both_give {s = a} {r = b} {n = k} {rest = q} h w) s r n m rest more e f =
          let ss : a ≡ s = cc in
          let rs : b ≡ r = cc in
          let numbers : m ≡ n = cc in
          let texts : more ≡ rest = cc in
          record {
            entry = subst (λ (x : Ranked). HaveEntry one other x.symbol r.symbol) ss (subst (λ (x : Ranked). HaveEntry one other a.symbol x.symbol) rs h);
            weight = sym (ap (λ (x : Ranked). x.weight) ss) ∙ w ∙ ap (λ (x : Ranked). x.weight) rs;
            number = numbers;
            text = texts;
          }
      given both_refuse s r n m rest more e f = absurd cc

      refused : {o p : Outcome Ranked} → GiveAlike o p → (a : SystemFault) → o ≡ fails a → p ≡ fails a
      refused (both_give h w) a e = absurd cc
      refused both_refuse a e = e

      never : {o p : Outcome Ranked} → GiveAlike o p → (s : Ranked) (n : ℕ) (rest : List ℕ) (a : SystemFault) → o ≡ gets s n rest → p ≡ fails a → ⊥
      never (both_give h w) s n rest a e f = absurd cc
      never both_refuse s n rest a e f = absurd cc

      symbols_alike : {ss rs : List Ranked} → AreRanked one other ss rs → {n : ℕ} {text : List ℕ} {o p : Outcome (List Ranked)} → SymbolsAt one header ss n text o → SymbolsAt other header rs n text p → GiveAll o p
      symbols_alike a (no_more_symbols e) (no_more_symbols f) = both_all a
      symbols_alike a (no_more_symbols e) (one_more_symbol f x y) = absurd cc
      symbols_alike a (no_more_symbols e) (fails_in_symbol f x) = absurd cc
      symbols_alike a (one_more_symbol e x y) (no_more_symbols f) = absurd cc
      symbols_alike {rs = rs} a {p = p} (one_more_symbol {m = m} {rest = k} {s = s} e x y) (one_more_symbol {m = l} {rest = q} {s = r} f z w) =
          let g = given (symbol_alike a x z) s r m l k q refl refl in
          let there : SymbolsAt other header (rs ++ r ∷ []) m k p = subst (λ (i : ℕ). SymbolsAt other header (rs ++ r ∷ []) i k p) g.number (subst (λ (t : List ℕ). SymbolsAt other header (rs ++ r ∷ []) l t p) g.text w) in
          symbols_alike (ranked_on s r a g.entry g.weight) y there
      symbols_alike a (one_more_symbol {m = m} {rest = k} {s = s} e x y) (fails_in_symbol {fault = b} f z) = absurd (never (symbol_alike a x z) s m k b refl refl)
      symbols_alike a (fails_in_symbol e x) (no_more_symbols f) = absurd cc
      symbols_alike a (fails_in_symbol {fault = b} e x) (one_more_symbol {m = m} {rest = k} {s = s} f z w) = absurd (let bad : gets s m k ≡ fails b = refused (symbol_alike a x z) b refl in cc)
      symbols_alike a (fails_in_symbol {fault = b} e x) (fails_in_symbol {fault = c} f z) =
          let faults : fails c ≡ fails b = refused (symbol_alike a x z) b refl in
          let same : b ≡ c = cc in
          subst (λ (d : SystemFault). GiveAll (fails b) (fails d)) same both_fail

      -- WHAT STANDS BEHIND THEM

      record AllGiven (ss rs : List Ranked) (n m : ℕ) (rest more : List ℕ) : Type 0 where
        ranked : AreRanked one other ss rs
        number : m ≡ n
        text : more ≡ rest

      all_given : {o p : Outcome (List Ranked)} → GiveAll o p → (ss rs : List Ranked) (n m : ℕ) (rest more : List ℕ) → o ≡ gets ss n rest → p ≡ gets rs m more → AllGiven ss rs n m rest more
      all_given (both_all {ss = as_one} {rs = as_other} {n = k} {rest = q} h) ss rs n m rest more e f =
          let firsts : as_one ≡ ss = cc in
          let seconds : as_other ≡ rs = cc in
          let numbers : m ≡ n = cc in
          let texts : more ≡ rest = cc in
          record { ranked = subst (λ (x : List Ranked). AreRanked one other x rs) firsts (subst (λ (x : List Ranked). AreRanked one other as_one x) seconds h); number = numbers; text = texts }
      all_given both_fail ss rs n m rest more e f = absurd cc

      all_refused : {o p : Outcome (List Ranked)} → GiveAll o p → (a : SystemFault) → o ≡ fails a → p ≡ fails a
      all_refused (both_all h) a e = absurd cc
      all_refused both_fail a e = e

      never_all : {o p : Outcome (List Ranked)} → GiveAll o p → (ss : List Ranked) (n : ℕ) (rest : List ℕ) (a : SystemFault) → o ≡ gets ss n rest → p ≡ fails a → ⊥
      never_all (both_all h) ss n rest a e f = absurd cc
      never_all both_fail ss n rest a e f = absurd cc

      abbrev rest_of : Table → List Ranked → Rule SystemText
      rest_of table ss = fact_lines table (symbols_in ss) >>= (λ es. gives (text_of header.kind ss es))

      abbrev tail_of : Table → List Ranked → Rule SystemText
      tail_of table ss = are_complete table header ss >>= (λ _. rest_of table ss)

      module _ {ss rs : List Ranked} (a : AreRanked one other ss rs) (printable : Each (IsPrintableSymbol other) (symbols_in rs)) where
        facts_agree : (n : ℕ) (text : List ℕ) (o p : Outcome (List Equation)) → fact_lines one (symbols_in ss) n text o → fact_lines other (symbols_in rs) n text p → (f : Equation → Equation) × (with_others f o ≡ p)
        facts_agree n text o p x y =
            let alike = are_alike one other (entries_of a) in
            (renamed_sides alike.there.r, fact_lines_once other (symbols_in rs) printable second n text (with_others (renamed_sides alike.there.r) o) p (facts_renamed one other (symbols_in ss) (symbols_in rs) alike x) y)

        rest_alike : (n : ℕ) (text : List ℕ) {o p : Outcome SystemText} → rest_of one ss n text o → rest_of other rs n text p → EndAlike o p
        rest_alike n text (fails_first {fault = b} x) (fails_first {fault = c} y) = let same = (facts_agree n text (fails b) (fails c) x y).1 in let faults : b ≡ c = cc in faults
        rest_alike n text (fails_first {fault = b} x) (goes_on {v = es} {m = m} {rest = q} y z) = absurd (let same = (facts_agree n text (fails b) (gets es m q) x y).1 in cc)
        rest_alike n text (goes_on {v = es} {m = m} {rest = q} x w) (fails_first {fault = b} y) = absurd (let same = (facts_agree n text (gets es m q) (fails b) x y).1 in cc)
        rest_alike n text {o} {p} (goes_on {v = es} {m = m} {rest = q} x w) (goes_on {v = gs} {m = k} {rest = r} y z) =
            let agree = facts_agree n text (gets es m q) (gets gs k r) x y in
            let same = agree.1 in
            let facts : map agree.0 es ≡ gs = cc in
            let numbers : m ≡ k = cc in
            let texts : q ≡ r = cc in
            let many : length es ≡ length gs = sym (length-map es agree.0) ∙ ap length facts in
            subst (λ (u : Outcome SystemText). EndAlike u p) (sym w) (subst (λ (u : Outcome SystemText). EndAlike (gets (text_of header.kind ss es) m q) u) (sym z) (numbers, texts, many))

        abbrev passed : ℕ → List ℕ → Option SystemFault → Outcome (Unit {0})
        passed n text fault = passed_or fault n text

        tail_alike : (n : ℕ) (text : List ℕ) {o p : Outcome SystemText} → tail_of one ss n text o → tail_of other rs n text p → EndAlike o p
        tail_alike n text (fails_first {fault = b} x) (fails_first {fault = c} y) =
            let same : fails b ≡ fails c = x ∙ ap (passed n text) (faults_alike header n a) ∙ sym y in
            let faults : b ≡ c = cc in
            faults
        tail_alike n text (fails_first {fault = b} x) (goes_on {v = u} {m = m} {rest = q} y z) = absurd (let same : fails b ≡ gets u m q = x ∙ ap (passed n text) (faults_alike header n a) ∙ sym y in cc)
        tail_alike n text (goes_on {v = u} {m = m} {rest = q} x w) (fails_first {fault = b} y) = absurd (let same : gets u m q ≡ fails b = x ∙ ap (passed n text) (faults_alike header n a) ∙ sym y in cc)
        tail_alike n text {p = p} (goes_on {v = u} {m = m} {rest = q} x w) (goes_on {v = v} {m = k} {rest = r} y z) =
            let same : gets u m q ≡ gets v k r = x ∙ ap (passed n text) (faults_alike header n a) ∙ sym y in
            let numbers : k ≡ m = cc in
            let texts : r ≡ q = cc in
            rest_alike m q w (subst (λ (i : ℕ). rest_of other rs i q p) numbers (subst (λ (t : List ℕ). rest_of other rs k t p) texts z))

      body_alike : {n : ℕ} {text : List ℕ} {o p : Outcome SystemText} → system_body one header n text o → system_body other header n text p → EndAlike o p
      body_alike (fails_first {fault = b} x) (fails_first {fault = c} y) =
          let same : fails c ≡ fails b = all_refused (symbols_alike none_ranked x y) b refl in
          let faults : b ≡ c = cc in
          faults
      body_alike (fails_first {fault = b} x) (goes_on {v = rs} {m = k} {rest = r} y z) = absurd (let same : gets rs k r ≡ fails b = all_refused (symbols_alike none_ranked x y) b refl in cc)
      body_alike (goes_on {v = ss} {m = m} {rest = q} x w) (fails_first {fault = b} y) = absurd (never_all (symbols_alike none_ranked x y) ss m q b refl refl)
      body_alike {p = p} (goes_on {v = ss} {m = m} {rest = q} x w) (goes_on {v = rs} {m = k} {rest = r} y z) =
          let all = all_given (symbols_alike none_ranked x y) ss rs m k q r refl refl in
          tail_alike all.ranked (symbols_printable other header rs k r y) m q w (subst (λ (i : ℕ). tail_of other rs i q p) all.number (subst (λ (t : List ℕ). tail_of other rs k t p) all.text z))

    pub lines_alike : {n : ℕ} {text : List ℕ} {o p : Outcome SystemText} → system_lines one n text o → system_lines other n text p → EndAlike o p
    lines_alike {n} {text} (fails_first {fault = b} x) (fails_first {fault = c} y) =
        let same = header_once n text (fails b) (fails c) x y in
        let faults : b ≡ c = cc in
        faults
    lines_alike {n} {text} (fails_first {fault = b} x) (goes_on {v = h} {m = k} {rest = r} y z) = absurd (let same = header_once n text (fails b) (gets h k r) x y in cc)
    lines_alike {n} {text} (goes_on {v = h} {m = k} {rest = r} x w) (fails_first {fault = b} y) = absurd (let same = header_once n text (gets h k r) (fails b) x y in cc)
    lines_alike {n} {text} {p = p} (goes_on {v = h} {m = m} {rest = q} x w) (goes_on {v = j} {m = k} {rest = r} y z) =
        let same = header_once n text (gets h m q) (gets j k r) x y in
        let headers : j ≡ h = cc in
        let numbers : k ≡ m = cc in
        let texts : r ≡ q = cc in
        body_alike h w (subst (λ (d : Header). system_body other d m q p) headers (subst (λ (i : ℕ). system_body other j i q p) numbers (subst (λ (t : List ℕ). system_body other j k t p) texts z)))

    -- a text that is refused in one table is refused alike in the other
    pub refused_alike : (text : List ℕ) (fault : SystemFault) {a b : Result SystemText SystemFault} → a ≡ Err fault → ReadsSystem one text a → ReadsSystem other text b → b ≡ Err fault
    refused_alike text fault e (reads x) y = absurd cc
    refused_alike text fault e (goes_further x h) (reads y) = absurd (h (lines_alike x y).1)
    refused_alike text fault e (goes_further {n = n} x h) (goes_further {n = m} y k) = ap (λ i. Err (departs i)) (sym (lines_alike x y).0) ∙ e
    refused_alike text fault e (goes_further x h) (fails_within y) = absurd (lines_alike x y)
    refused_alike text fault e (fails_within x) (reads y) = absurd (lines_alike x y)
    refused_alike text fault e (fails_within x) (goes_further y k) = absurd (lines_alike x y)
    refused_alike text fault e (fails_within x) (fails_within y) = ap Err (sym (lines_alike x y)) ∙ e
