-- A printed system is read again as it is.
use Rattle.std.proofs.Common.{◌≡◌, ℕ, ◌+◌, ◌<◌, ◌≤◌, ◌^◌, ◌==◌, ◌&&◌, ◌||◌, not, nat_lt, nat_le, Bool, true, false, List, [], ◌∷◌, ◌++◌, length, refl, sym, ap, ap₂, ◌∙◌, subst, append_assoc, append-nil, arith, Some, None, decimal, inl, inr, ◌⊎◌}
use Rattle.std.specs.Prelude.{codes, Ok}
use Rattle.std.specs.List.{list_any}
use Rattle.std.proofs.lemmas.Bool.Decides.{nat_tests}
use Rattle.std.proofs.lemmas.Bool.{or_left, or_right}
use Rattle.uc_term.specs.declared.node.Sym.{Sym}
use Rattle.uc_term.specs.declared.equation.Equation.{Equation}
use Rattle.uc_term.specs.Table.{Table, arity_of}
use Rattle.uc_clause.specs.Printable.{IsPrintableSymbol}
use Rattle.uc_order.specs.Members.{In, in_front, in_rest, Each}
use Rattle.uc_order.specs.declared.spec.OrderSpec.{OrderSpec}
use Rattle.uc_order.specs.declared.spec.OrderSpec.TheVariants.{Kbo, Lpo}
use Rattle.uc_kbo.specs.Faults.{weighed, IsBad, NoneBad}
use Rattle.uc_ordering.specs.Weights.{MAX_WEIGHT}
use Rattle.uc_system.specs.declared.header.Kind.{Kind}
use Rattle.uc_system.specs.declared.header.Kind.TheVariants.{Weighing, Paths}
use Rattle.uc_system.specs.declared.symbols.Ranked.{Ranked}
use Rattle.uc_fact.specs.declared.fact.System.{System}
use Rattle.uc_system.specs.declared.system.SystemText.{SystemText}
use Rattle.uc_system.specs.Numerals.{is_numeral, value_of}
use Rattle.uc_system.specs.Lines.{gets, goes_on, pick, picked, value_or}
use Rattle.uc_system.specs.Header.{heading_line, weighing_words, paths_line, version_line, version_of, weighing_of, kind_of}
use Rattle.uc_system.specs.Symbols.{begins_symbol, is_bad_weight, symbols_in, weights_in, SymbolsAt, has_light, has_constant, symbols_fault, are_complete}
use Rattle.uc_system.specs.Facts.{end_line, IsFact, FactsAt}
use Rattle.uc_system.specs.Reading.{spec_of, text_of, system_body, system_lines, ReadsSystem, reads}
use Rattle.uc_system.specs.Printing.{ended, weighed_text, bare_text, symbols_text, facts_text, system_text}
use Rattle.uc_system.specs.Printable.{IsPrintableSystem}
use Rattle.uc_system.proofs.FirstLines.{cut_line}
use Rattle.uc_system.proofs.Decimals.{all_append, decimal_numeral, decimal_value, decimal_in_line}
use Rattle.uc_system.proofs.TextsInLine.{InLine}
use Rattle.uc_system.proofs.PrintedFacts.{facts_read}
use Rattle.uc_system.proofs.PrintedSymbols.{ranked, unranked, AreGood, header_of, weighed_read, bare_read}

regrouped : (h o s f e b : List ℕ) → (ended h ++ ended o ++ s ++ f ++ e) ++ b ≡ h ++ 10 ∷ (o ++ 10 ∷ (s ++ (f ++ (e ++ b))))
regrouped h o s f e b = simp append_assoc refl

facts_no_symbol : (table : Table) (es : List Equation) (b : List ℕ) → begins_symbol (facts_text table 1 es ++ (ended end_line ++ b)) ≡ false
facts_no_symbol table [] b = refl
facts_no_symbol table (e ∷ es) b = refl

-- the first line
version_read : (n : ℕ) (light : Bool) (rest : List ℕ) → version_line n (heading_line light ++ 10 ∷ rest) (gets light (n + 1) rest)
version_read n true rest = sym (ap (version_of n) (cut_line (codes "% system 2") rest refl))
version_read n false rest = sym (ap (version_of n) (cut_line (codes "% system 1") rest refl))

-- the second line
weighing_is : (w0 : ℕ) → 1 ≤ w0 → w0 ≤ 1000000 → weighing_of (decimal w0) ≡ Some (Weighing w0)
weighing_is w0 low high =
    let numeral : is_numeral (decimal w0) ≡ true = decimal_numeral w0 (omega arith) in
    let value : value_of (decimal w0) ≡ w0 = decimal_value w0 (omega arith) in
    let above : nat_le 1 w0 ≡ true = grind (arith, nat_tests) in
    let below : nat_le w0 MAX_WEIGHT ≡ true = grind (arith, nat_tests) in
    rw (numeral, value, above, below) refl

kbo_read : (n w0 : ℕ) (rest : List ℕ) → 1 ≤ w0 → w0 ≤ 1000000 → pick kind_of n ((weighing_words ++ decimal w0) ++ 10 ∷ rest) (gets (Weighing w0) (n + 1) rest)
kbo_read n w0 rest low high =
    let line : InLine (weighing_words ++ decimal w0) = all_append _ weighing_words (decimal w0) refl (decimal_in_line w0 (omega arith)) in
    let kind : kind_of (weighing_words ++ decimal w0) ≡ Some (Weighing w0) = weighing_is w0 low high in
    sym (ap (picked kind_of n) (cut_line (weighing_words ++ decimal w0) rest line) ∙ ap (λ k. value_or k n rest) kind)

lpo_read : (n : ℕ) (rest : List ℕ) → pick kind_of n (paths_line ++ 10 ∷ rest) (gets Paths (n + 1) rest)
lpo_read n rest = sym (ap (picked kind_of n) (cut_line paths_line rest refl))

-- the weights of a description that fits
below_or : (a b : ℕ) → (a < b) ⊎ (b ≤ a)
below_or a b = grind arith

at_most : (w : ℕ) → (1000000 < w → ⊥) → w ≤ 1000000
at_most w n = elim (below_or 1000000 w) [ inl h ↦ absurd (n h) | inr h ↦ h ]

not_over : (w : ℕ) → w ≤ 1000000 → nat_lt MAX_WEIGHT w ≡ false
not_over w h = grind (arith, nat_tests)

is_equal : (a b : ℕ) → (a == b) ≡ true → a ≡ b
is_equal a b e = grind (arith, nat_tests)

isnt_equal : (a b : ℕ) → (a == b) ≡ false → a ≡ b → ⊥
isnt_equal a b e h = grind (arith, nat_tests)

is_below : (a b : ℕ) → nat_lt a b ≡ true → a < b
is_below a b e = grind (arith, nat_tests)

module _ (table : Table) (w0 : ℕ) (f : Sym) (w : ℕ) where
  fine_weight : (rest : _) → (IsBad w0 (record { symbol = f; arity = arity_of table f; weight = w }) rest → ⊥) → is_bad_weight (Weighing w0) (arity_of table f) w ≡ false
  fine_weight rest none = by_tests (arity_of table f == 0) refl (nat_lt w w0) refl (w == 0) refl (arity_of table f == 1) refl
    where
      small : nat_lt MAX_WEIGHT w ≡ false
      small = not_over w (at_most w (λ h. none (inl h)))

      by_tests : (a : Bool) → (arity_of table f == 0) ≡ a → (b : Bool) → nat_lt w w0 ≡ b → (c : Bool) → (w == 0) ≡ c → (d : Bool) → (arity_of table f == 1) ≡ d → is_bad_weight (Weighing w0) (arity_of table f) w ≡ false
      by_tests true p true q c r d s = absurd (none (inr (inl (is_equal _ _ p, is_below _ _ q))))
      by_tests a p b q true r false s = absurd (none (inr (inr (is_equal _ _ r, λ h. isnt_equal _ _ s h.0))))
      by_tests true p false q true r true s = rw (small, p, q, r, s) refl
      by_tests true p false q false r d s = rw (small, p, q, r) refl
      by_tests false p b q true r true s = rw (small, p, r, s) refl
      by_tests false p b q false r d s = rw (small, p, r) refl

module _ (table : Table) where
  no_more : (w0 : ℕ) (f : Sym) (w : ℕ) (fs : List Sym) (ws : List ℕ) → length ws ≡ length fs → (w == 0) ≡ true → (IsBad w0 (record { symbol = f; arity = arity_of table f; weight = w }) (weighed table fs ws) → ⊥) → length fs ≡ 0
  no_more w0 f w [] ws many e none = refl
  no_more w0 f w (g ∷ gs) [] many e none = absurd (omega arith)
  no_more w0 f w (g ∷ gs) (v ∷ vs) many e none = absurd (none (inr (inr (is_equal _ _ e, λ h. let none_left : length (weighed table (g ∷ gs) (v ∷ vs)) ≡ 0 = h.1 in omega arith))))

  good_weights : (first : ℕ) (light : Bool) (w0 : ℕ) (fs : List Sym) (ws : List ℕ) → length ws ≡ length fs → NoneBad w0 (weighed table fs ws) → (list_any (λ w. w == 0) ws ≡ true → light ≡ true) → AreGood table first light w0 fs ws
  good_weights first light w0 [] ws many none some = tt
  good_weights first light w0 (f ∷ fs) [] many none some = tt
  good_weights first light w0 (f ∷ fs) (w ∷ ws) many none some = (
    record {
      small = omega (arith, at_most w (λ h. none.0 (inl h)));
      fine = fine_weight table w0 f w (weighed table fs ws) none.0;
      light_is = λ e. some (or_left (w == 0) _ e);
      last = λ e. no_more w0 f w fs ws (omega arith) e none.0;
    },
    good_weights first light w0 fs ws (omega arith) none.1 (λ e. some (or_right (w == 0) _ e)),
  )

  symbols_are : (fs : List Sym) (ws : List ℕ) → length ws ≡ length fs → symbols_in (ranked fs ws) ≡ fs
  symbols_are [] ws h = refl
  symbols_are (f ∷ fs) [] h = absurd (omega arith)
  symbols_are (f ∷ fs) (w ∷ ws) h = ap (λ x. f ∷ x) (symbols_are fs ws (omega arith))

  weights_are : (fs : List Sym) (ws : List ℕ) → length ws ≡ length fs → weights_in (ranked fs ws) ≡ ws
  weights_are [] [] h = refl
  weights_are (f ∷ fs) (w ∷ ws) h = ap (λ x. w ∷ x) (weights_are fs ws (omega arith))
  weights_are v w h = absurd (omega arith)

  bare_symbols_are : (fs : List Sym) → symbols_in (unranked fs) ≡ fs
  bare_symbols_are [] = refl
  bare_symbols_are (f ∷ fs) = ap (λ x. f ∷ x) (bare_symbols_are fs)

  light_is : (first w0 : ℕ) (light : Bool) (fs : List Sym) (ws : List ℕ) → length ws ≡ length fs → has_light (header_of table first light (Weighing w0)) (ranked fs ws) ≡ list_any (λ w. w == 0) ws
  light_is first w0 light [] [] h = refl
  light_is first w0 light (f ∷ fs) (w ∷ ws) h = ap (λ b. (w == 0) || b) (light_is first w0 light fs ws (omega arith))
  light_is first w0 light v w h = absurd (omega arith)

  zero_is : (n : ℕ) → n ≡ 0 → (n == 0) ≡ true
  zero_is n h = grind (arith, nat_tests)

  some_by : (s : Ranked) (ss : List Ranked) (f : Sym) → In (symbols_in (s ∷ ss)) f → arity_of table f ≡ 0 → (In (symbols_in ss) f → has_constant table ss ≡ true) → has_constant table (s ∷ ss) ≡ true
  some_by s ss _ in_front e more = or_left (arity_of table s.symbol == 0) _ (zero_is _ e)
  some_by s ss f (in_rest j) e more = or_right (arity_of table s.symbol == 0) _ (more j)

  some_constant : (ss : List Ranked) (f : Sym) → In (symbols_in ss) f → arity_of table f ≡ 0 → has_constant table ss ≡ true
  some_constant [] f i e = elim i [ ]
  some_constant (s ∷ ss) f i e = some_by s ss f i e (λ j. some_constant ss f j e)

  and_not : (b : Bool) → (b && not b) ≡ false
  and_not true = refl
  and_not false = refl

  new_all : (fs : List Sym) → Each (λ (f : Sym). false ≡ false) fs
  new_all [] = tt
  new_all (f ∷ fs) = (refl, new_all fs)

  -- A printed system, from the line of the number `first` on, is read up to what stands behind it.
  module _ (es : List Equation) (small : length es + 1 < 2 ^ 64) (first : ℕ) (behind : List ℕ) where
    abbrev rest : List ℕ
    rest = facts_text table 1 es ++ (ended end_line ++ behind)

    abbrev said : OrderSpec → SystemText
    said spec = record { spec = spec; system = record { facts = es } }

    -- what stands behind the symbols' lines
    body_read : (kind : Kind) (light : Bool) (ss : List Ranked) (fs : List Sym) (n : ℕ) (spec : OrderSpec) → symbols_in ss ≡ fs → spec_of kind ss ≡ spec → symbols_fault table (header_of table first light kind) ss n ≡ None → Each (IsPrintableSymbol table) fs → Each (IsFact table fs) es → (m : ℕ) × (SymbolsAt table (header_of table first light kind) [] (first + 1 + 1) (symbols_text table spec ++ rest) (gets ss n rest) → system_body table (header_of table first light kind) (first + 1 + 1) (symbols_text table spec ++ rest) (gets (said spec) m behind))
    body_read kind light ss fs n spec symbols is none printable all =
        let facts = facts_read table fs printable behind [] es 1 n refl (omega arith) all in
        let there : FactsAt table (symbols_in ss) [] n rest (gets es (n + length es + 1) behind) = subst (λ x. FactsAt table x [] n rest (gets es (n + length es + 1) behind)) (sym symbols) facts in
        let checked : are_complete table (header_of table first light kind) ss n rest (gets tt n rest) = rw none refl in
        let is_said : gets (said spec) (n + length es + 1) behind ≡ gets (text_of kind ss es) (n + length es + 1) behind = ap (λ (x : OrderSpec). gets (said x) (n + length es + 1) behind) (sym is) in
        (n + length es + 1, λ x. goes_on x (goes_on checked (goes_on there is_said)))

    abbrev IsReadUpTo : OrderSpec → Type 0
    IsReadUpTo spec = (m : ℕ) × system_lines table first (system_text table spec es ++ behind) (gets (said spec) m behind)

    kbo_system : (w0 : ℕ) (ws : List ℕ) (fs : List Sym) → IsPrintableSystem table (Kbo w0 ws fs) es → IsReadUpTo (Kbo w0 ws fs)
    kbo_system w0 ws fs p =
        let light : Bool = list_any (λ w. w == 0) ws in
        let weights = p.fits.total.1 in
        let good = good_weights first light w0 fs ws weights.as_many weights.none_bad (λ e. e) in
        let symbols = weighed_read table first light w0 [] fs ws (first + 1 + 1) rest (facts_no_symbol table es behind) weights.as_many p.symbols (new_all fs) p.fits.total.0.1 good in
        let fs_are = symbols_are fs ws weights.as_many in
        let some = p.fits.constant in
        let constant : has_constant table (ranked fs ws) ≡ true = some_constant (ranked fs ws) some.0 (subst (λ x. In x some.0) (sym fs_are) some.1.0) some.1.1 in
        let lights = light_is first w0 light fs ws weights.as_many in
        let none : symbols_fault table (header_of table first light (Weighing w0)) (ranked fs ws) (first + 1 + 1 + length fs) ≡ None = rw (lights, and_not light, constant) refl in
        let spec_is : spec_of (Weighing w0) (ranked fs ws) ≡ Kbo w0 ws fs = ap₂ (λ a b. Kbo w0 a b) (weights_are fs ws weights.as_many) fs_are in
        let b = body_read (Weighing w0) light (ranked fs ws) fs (first + 1 + 1 + length fs) (Kbo w0 ws fs) fs_are spec_is none p.symbols p.facts in
        let tail : List ℕ = weighed_text table fs ws ++ rest in
        let lines = goes_on (goes_on refl (goes_on (version_read first light ((weighing_words ++ decimal w0) ++ 10 ∷ tail)) (goes_on (kbo_read (first + 1) w0 tail weights.w0_some weights.w0_most) (goes_on refl refl)))) (b.1 symbols) in
        (b.0, subst (λ x. system_lines table first x (gets (said (Kbo w0 ws fs)) b.0 behind)) (sym (regrouped (heading_line light) (weighing_words ++ decimal w0) (weighed_text table fs ws) (facts_text table 1 es) (ended end_line) behind)) lines)

    lpo_system : (fs : List Sym) → IsPrintableSystem table (Lpo fs) es → IsReadUpTo (Lpo fs)
    lpo_system fs p =
        let symbols = bare_read table first false [] fs (first + 1 + 1) rest (facts_no_symbol table es behind) p.symbols (new_all fs) p.fits.total.1 in
        let fs_are = bare_symbols_are fs in
        let some = p.fits.constant in
        let constant : has_constant table (unranked fs) ≡ true = some_constant (unranked fs) some.0 (subst (λ x. In x some.0) (sym fs_are) some.1.0) some.1.1 in
        let none : symbols_fault table (header_of table first false Paths) (unranked fs) (first + 1 + 1 + length fs) ≡ None = rw constant refl in
        let spec_is : spec_of Paths (unranked fs) ≡ Lpo fs = ap (λ x. Lpo x) fs_are in
        let b = body_read Paths false (unranked fs) fs (first + 1 + 1 + length fs) (Lpo fs) fs_are spec_is none p.symbols p.facts in
        let tail : List ℕ = bare_text table fs ++ rest in
        let lines = goes_on (goes_on refl (goes_on (version_read first false (paths_line ++ 10 ∷ tail)) (goes_on (lpo_read (first + 1) tail) (goes_on refl refl)))) (b.1 symbols) in
        (b.0, subst (λ x. system_lines table first x (gets (said (Lpo fs)) b.0 behind)) (sym (regrouped (codes "% system 1") paths_line (bare_text table fs) (facts_text table 1 es) (ended end_line) behind)) lines)

    pub system_again : (spec : OrderSpec) → IsPrintableSystem table spec es → IsReadUpTo spec
    system_again (Kbo w0 ws fs) p = kbo_system w0 ws fs p
    system_again (Lpo fs) p = lpo_system fs p

  pub system_read : (spec : OrderSpec) (es : List Equation) → length es + 1 < 2 ^ 64 → IsPrintableSystem table spec es → ReadsSystem table (system_text table spec es) (Ok (record { spec = spec; system = record { facts = es } }))
  system_read spec es small p =
      let again = system_again es small 1 [] spec p in
      reads (subst (λ x. system_lines table 1 x (gets (record { spec = spec; system = record { facts = es } }) again.0 [])) (append-nil (system_text table spec es)) again.1)

pub printed_read : (table : Table) (spec : OrderSpec) (system : System) (start text : List ℕ) → start ≡ [] → text ≡ start ++ system_text table spec system.facts → length system.facts + 1 < 2 ^ 64 → IsPrintableSystem table spec system.facts → ReadsSystem table text (Ok (record { spec = spec; system = system }))
printed_read table spec system start text none_yet e small printable =
    let same : text ≡ system_text table spec system.facts = e ∙ ap (λ l. l ++ system_text table spec system.facts) none_yet in
    subst (λ x. ReadsSystem table x (Ok (record { spec = spec; system = system }))) (sym same) (system_read table spec system.facts small printable)
