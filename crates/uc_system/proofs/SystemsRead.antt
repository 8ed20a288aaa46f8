-- What is read is a description of an order of its own symbols, and facts over them.
use Rattle.std.proofs.Common.{◌≡◌, ℕ, ◌<◌, ◌≤◌, ◌==◌, ◌&&◌, ◌||◌, not, nat_lt, nat_le, Bool, true, false, List, [], ◌∷◌, ◌++◌, length, refl, sym, ap, ◌∙◌, subst, append_assoc, append-nil, arith, Option, Some, None, inl, inr, ◌⊎◌, if◌then◌else◌}
use Rattle.std.specs.Prelude.{bytes_eq, drop, nat_eq}
use Rattle.std.specs.List.{starts_with}
use Rattle.std.proofs.lemmas.Bool.Decides.{nat_tests}
use Rattle.std.proofs.lemmas.List.{map-append}
use Rattle.std.proofs.lemmas.Bool.{or_parts}
use Rattle.uc_term.specs.declared.node.Sym.{Sym}
use Rattle.uc_term.specs.declared.equation.Equation.{Equation}
use Rattle.uc_term.specs.Table.{Table, Has, arity_of}
use Rattle.uc_clause.specs.Printable.{IsPrintableSymbol}
use Rattle.uc_order.specs.Members.{In, in_front, in_rest, Each, AreDistinct}
use Rattle.uc_kbo.specs.declared.weights.Weighed.{Weighed}
use Rattle.uc_kbo.specs.Faults.{weighed, IsBad, NoneBad, HasConstant}
use Rattle.uc_ordering.specs.Weights.{MAX_WEIGHT}
use Rattle.uc_system.specs.declared.fault.SystemFault.{SystemFault}
use Rattle.uc_system.specs.declared.header.Kind.{Kind}
use Rattle.uc_system.specs.declared.header.Kind.TheVariants.{Weighing, Paths}
use Rattle.uc_system.specs.declared.header.Header.{Header}
use Rattle.uc_system.specs.declared.symbols.Ranked.{Ranked}
use Rattle.uc_system.specs.declared.system.SystemText.{SystemText}
use Rattle.uc_system.specs.Numerals.{is_numeral, value_of}
use Rattle.uc_system.specs.Lines.{Cut, first_line, departs, Outcome, gets, goes_on, passed_or, value_or, picked}
use Rattle.uc_system.specs.Header.{weighing_words, paths_line, weighing_of, kind_of, header_lines}
use Rattle.uc_system.specs.Symbols.{StandsSymbol, IsFollowed, symbols_in, weights_in, is_bad_weight, weighs_nothing, is_one_of, symbol_fault, has_light, has_constant, SymbolAt, is_symbol, SymbolsAt, no_more_symbols, one_more_symbol, fails_in_symbol, symbols_fault}
use Rattle.uc_system.specs.Facts.{IsFact, FactsAt, no_more_facts, one_more_fact}
use Rattle.uc_system.specs.Reading.{text_of, system_lines, IsSystem}
use Rattle.uc_system.proofs.Precedence.{each_both, each_map, ranked_is, symbols_printable}
use Rattle.uc_system.proofs.FactChecks.{arity_is, in_is_one}

-- members of lists
each_self : {A : Type 0} (xs : List A) → Each (In xs) xs
each_self [] = tt
each_self (x ∷ xs) = (in_front, each_map (In xs) (In (x ∷ xs)) (λ y i. in_rest i) xs (each_self xs))

in_last : (xs : List Sym) (y x : Sym) → In (xs ++ y ∷ []) x → In xs x ⊎ (x ≡ y)
in_last [] y _ in_front = inr refl
in_last [] y x (in_rest i) = elim i [ ]
in_last (z ∷ zs) y _ in_front = inl in_front
in_last (z ∷ zs) y x (in_rest i) = elim (in_last zs y x i) [ inl h ↦ inl (in_rest h) | inr e ↦ inr e ]

distinct_more : (fs : List Sym) (f : Sym) → AreDistinct fs → (In fs f → ⊥) → AreDistinct (fs ++ f ∷ [])
distinct_more [] f d n = ((λ i. elim i [ ]), tt)
distinct_more (g ∷ gs) f d n = ((λ i. other (in_last gs f g i)), distinct_more gs f d.1 (λ i. n (in_rest i)))
  where
    other : In gs g ⊎ (g ≡ f) → ⊥
    other (inl h) = d.0 h
    other (inr e) = n (subst (λ (x : Sym). In (g ∷ gs) x) e in_front)

-- what is right with a symbol that is read
record IsFine (bad repeated nothing followed : Bool) : Type 0 where
  fine : bad ≡ false
  new : repeated ≡ false
  last : nothing ≡ true → followed ≡ false

fine_by : (bad repeated nothing light followed : Bool) (x y z : SystemFault) → (if bad || repeated then Some x else (if nothing && not light then Some y else (if nothing && followed then Some z else None))) ≡ None → IsFine bad repeated nothing followed
fine_by false false true true false x y z e = record { fine = refl; new = refl; last = λ _. refl }
fine_by false false false l f x y z e = record { fine = refl; new = refl; last = λ h. absurd (cc) }
fine_by v r t l f x y z e = absurd cc

module _ (table : Table) (header : Header) where
  record IsTaken (earlier : List Sym) (s : Ranked) (rest : List ℕ) : Type 0 where
    fine : is_bad_weight header.kind (arity_of table s.symbol) s.weight ≡ false
    new : is_one_of s.symbol earlier ≡ false
    last : weighs_nothing header.kind s.weight ≡ true → StandsSymbol header.kind rest → ⊥

  taken : {earlier : List Sym} {n : ℕ} {text : List ℕ} {o : Outcome Ranked} → SymbolAt table header earlier n text o → (s : Ranked) (m : ℕ) (rest : List ℕ) → o ≡ gets s m rest → IsTaken earlier s rest
  taken {earlier} {n} (is_symbol {c = c} {p = p} f b e h l y z o) s m rest g =
      let made : Ranked = record { symbol = f; weight = value_of p.weight } in
      let ranked = ranked_is (symbol_fault header (is_one_of f earlier) b n (value_of p.arity) (value_of p.weight)) made s n m c.rest rest (sym o ∙ g) in
      let right = fine_by (is_bad_weight header.kind (value_of p.arity) (value_of p.weight)) (is_one_of f earlier) (weighs_nothing header.kind (value_of p.weight)) header.light b (departs n) (departs header.first) (departs n) ranked.no_fault in
      let arities : value_of p.arity ≡ arity_of table f = arity_is table f p.name (value_of p.arity) y in
      let here : IsTaken earlier made c.rest = record { fine = subst (λ a. is_bad_weight header.kind a (value_of p.weight) ≡ false) arities right.fine; new = right.new; last = λ w. subst (IsFollowed header.kind c.rest) (right.last w) z } in
      subst (λ (x : List ℕ). IsTaken earlier s x) ranked.rest_is (subst (λ (x : Ranked). IsTaken earlier x c.rest) ranked.is here)
  taken v s m rest g = absurd cc

  stands : {earlier : List Sym} {n : ℕ} {text : List ℕ} {o : Outcome Ranked} → SymbolAt table header earlier n text o → (s : Ranked) (m : ℕ) (rest : List ℕ) → o ≡ gets s m rest → StandsSymbol header.kind text
  stands (is_symbol {c = c} {p = p} f b e h l y z o) s m rest g = record { cut = c; is_cut = e; parts = p; line = h }
  stands v s m rest g = absurd cc

  none_twice : {earlier : List Ranked} {n : ℕ} {text : List ℕ} {o : Outcome (List Ranked)} → SymbolsAt table header earlier n text o → (ss : List Ranked) (m : ℕ) (rest : List ℕ) → o ≡ gets ss m rest → AreDistinct (symbols_in earlier) → AreDistinct (symbols_in ss)
  none_twice {earlier} (no_more_symbols e) ss m rest g d = let same : earlier ≡ ss = cc in subst (λ (x : List Ranked). AreDistinct (symbols_in x)) same d
  none_twice {earlier} (one_more_symbol {m = k} {rest = q} {s = s} e x y) ss m rest g d =
      let t = taken x s k q refl in
      let more : AreDistinct (symbols_in earlier ++ s.symbol ∷ []) = distinct_more (symbols_in earlier) s.symbol d (λ i. (let both : true ≡ false = sym (in_is_one s.symbol (symbols_in earlier) i) ∙ t.new in cc)) in
      none_twice y ss m rest g (subst AreDistinct (sym (map-append (λ (r : Ranked). r.symbol) earlier (s ∷ []))) more)
  none_twice (fails_in_symbol e x) ss m rest g d = absurd (cc)

-- weights
over_most : (w : ℕ) → nat_lt MAX_WEIGHT w ≡ false → 1000000 < w → ⊥
over_most w e h = grind (arith, nat_tests)

both_tests : (a b : Bool) → (a && b) ≡ false → a ≡ true → b ≡ true → ⊥
both_tests true true e f g = cc
both_tests true false e f g = cc
both_tests false b e f g = cc

is_zero : (n : ℕ) → n ≡ 0 → (n == 0) ≡ true
is_zero n h = grind (arith, nat_tests)

is_below : (m n : ℕ) → m < n → nat_lt m n ≡ true
is_below m n h = grind (arith, nat_tests)

is_equal : (m n : ℕ) → (m == n) ≡ true → m ≡ n
is_equal m n e = grind (arith, nat_tests)

not_bad : (w0 a w : ℕ) (f : Sym) (rest : List Weighed) → is_bad_weight (Weighing w0) a w ≡ false → (w ≡ 0 → length rest ≡ 0) → IsBad w0 (record { symbol = f; arity = a; weight = w }) rest → ⊥
not_bad w0 a w f rest e last (inl h) = over_most w (or_parts (nat_lt MAX_WEIGHT w) _ e).0 h
not_bad w0 a w f rest e last (inr (inl h)) = both_tests (a == 0) (nat_lt w w0) (or_parts ((a == 0) && nat_lt w w0) _ (or_parts (nat_lt MAX_WEIGHT w) _ e).1).0 (is_zero a h.0) (is_below w w0 h.1)
not_bad w0 a w f rest e last (inr (inr h)) = by_test (a == 1) refl
  where
    by_test : (t : Bool) → (a == 1) ≡ t → ⊥
    by_test true q = h.1 (is_equal a 1 q, last h.0)
    by_test false q = both_tests (w == 0) (not (a == 1)) (or_parts ((a == 0) && nat_lt w w0) _ (or_parts (nat_lt MAX_WEIGHT w) _ e).1).1 (is_zero w h.0) (ap not q)

weighed_none : (table : Table) (ss : List Ranked) → length ss ≡ 0 → length (weighed table (symbols_in ss) (weights_in ss)) ≡ 0
weighed_none table [] h = refl
weighed_none table (s ∷ ss) h = absurd (omega arith)

as_many : (ss : List Ranked) → length (weights_in ss) ≡ length (symbols_in ss)
as_many [] = refl
as_many (s ∷ ss) = omega (arith, as_many ss)

module _ (table : Table) (header : Header) (w0 : ℕ) (kind : header.kind ≡ Weighing w0) where
  -- the symbols that are read behind the earlier ones
  record Behind (earlier ss : List Ranked) (text : List ℕ) : Type 0 where
    more : List Ranked
    is : ss ≡ earlier ++ more
    good : NoneBad w0 (weighed table (symbols_in more) (weights_in more))
    none : (StandsSymbol header.kind text → ⊥) → length more ≡ 0

  good_weights : {earlier : List Ranked} {n : ℕ} {text : List ℕ} {o : Outcome (List Ranked)} → SymbolsAt table header earlier n text o → (ss : List Ranked) (m : ℕ) (rest : List ℕ) → o ≡ gets ss m rest → Behind earlier ss text
  good_weights {earlier} (no_more_symbols e) ss m rest g = let same : earlier ≡ ss = cc in record { more = []; is = sym same ∙ sym (append-nil earlier); good = tt; none = λ _. refl }
  good_weights {earlier} (one_more_symbol {m = k} {rest = q} {s = s} e x y) ss m rest g =
      let t = taken table header x s k q refl in
      let b = good_weights y ss m rest g in
      let fine : is_bad_weight (Weighing w0) (arity_of table s.symbol) s.weight ≡ false = subst (λ (x : Kind). is_bad_weight x (arity_of table s.symbol) s.weight ≡ false) kind t.fine in
      let last : weighs_nothing (Weighing w0) s.weight ≡ true → StandsSymbol header.kind q → ⊥ = subst (λ (x : Kind). weighs_nothing x s.weight ≡ true → StandsSymbol header.kind q → ⊥) kind t.last in
      record {
        more = s ∷ b.more;
        is = b.is ∙ append_assoc earlier (s ∷ []) b.more;
        good = (not_bad w0 (arity_of table s.symbol) s.weight s.symbol (weighed table (symbols_in b.more) (weights_in b.more)) fine (λ z. weighed_none table b.more (b.none (last (is_zero s.weight z)))), b.good);
        none = λ h. absurd (h (stands table header x s k q refl));
      }
  good_weights (fails_in_symbol e x) ss m rest g = absurd (cc)

  pub none_bad : {n : ℕ} {text : List ℕ} (ss : List Ranked) (m : ℕ) (rest : List ℕ) → SymbolsAt table header [] n text (gets ss m rest) → NoneBad w0 (weighed table (symbols_in ss) (weights_in ss))
  none_bad ss m rest x =
      let b = good_weights x ss m rest refl in
      subst (λ (s : List Ranked). NoneBad w0 (weighed table (symbols_in s) (weights_in s))) (sym b.is) b.good

-- a constant
constant_in : (table : Table) (ss : List Ranked) → has_constant table ss ≡ true → HasConstant table (symbols_in ss)
constant_in table [] h = absurd (cc)
constant_in table (s ∷ ss) h = by_test (arity_of table s.symbol == 0) refl (constant_in table ss)
  where
    by_test : (t : Bool) → (arity_of table s.symbol == 0) ≡ t → (has_constant table ss ≡ true → HasConstant table (symbols_in ss)) → HasConstant table (symbols_in (s ∷ ss))
    by_test true e more = (s.symbol, (in_front, is_equal _ 0 e))
    by_test false e more = let there = more (rw e at h) in (there.0, (in_rest there.1.0, there.1.1))

complete_by : (missing some : Bool) (x y : SystemFault) → (if missing then Some x else (if some then None else Some y)) ≡ None → some ≡ true
complete_by false true x y e = refl
complete_by v s x y e = absurd cc

passed_none : (fault : Option SystemFault) (n m : ℕ) (text rest : List ℕ) (u : Unit {0}) → gets u m rest ≡ passed_or fault n text → fault ≡ None
passed_none None n m text rest u e = refl
passed_none (Some fault) n m text rest u e = absurd (cc)

-- the weight of a variable
abbrev IsRightKind : Kind → Type 0
IsRightKind (Weighing w0) = (1 ≤ w0) × (w0 ≤ 1000000)
IsRightKind Paths = Unit {0}

at_least : (v : ℕ) → nat_le 1 v ≡ true → 1 ≤ v
at_least v e = grind (arith, nat_tests)

at_most : (v : ℕ) → nat_le v MAX_WEIGHT ≡ true → v ≤ 1000000
at_most v e = grind (arith, nat_tests)

weighing_by : (numeral low high : Bool) (v : ℕ) (kind : Kind) → nat_le 1 v ≡ low → nat_le v MAX_WEIGHT ≡ high → (if numeral && (low && high) then Some (Weighing v) else None) ≡ Some kind → IsRightKind kind
weighing_by true true true v kind l h e = let same : Weighing v ≡ kind = cc in subst IsRightKind same (at_least v l, at_most v h)
weighing_by w low high v kind l h e = absurd cc

right_kind_by : (paths weighing : Bool) (ds : List ℕ) (kind : Kind) → (if paths then Some Paths else (if weighing then weighing_of ds else None)) ≡ Some kind → IsRightKind kind
right_kind_by true w ds kind e = let same : Paths ≡ kind = cc in subst IsRightKind same tt
right_kind_by false true ds kind e = weighing_by (is_numeral ds) (nat_le 1 (value_of ds)) (nat_le (value_of ds) MAX_WEIGHT) (value_of ds) kind refl refl e
right_kind_by false false ds kind e = absurd (cc)

right_kind : (line : List ℕ) (kind : Kind) → kind_of line ≡ Some kind → IsRightKind kind
right_kind line kind e = right_kind_by (bytes_eq line paths_line) (starts_with nat_eq line weighing_words) (drop (length weighing_words) line) kind e

value_is : (o : Option Kind) (n m : ℕ) (r rest : List ℕ) (kind : Kind) → gets kind m rest ≡ value_or o n r → o ≡ Some kind
value_is (Some k) n m r rest kind e = let same : k ≡ kind = cc in ap Some same
value_is None n m r rest kind e = absurd (cc)

picked_right : (c : Option Cut) (n m : ℕ) (rest : List ℕ) (kind : Kind) → gets kind m rest ≡ picked kind_of n c → IsRightKind kind
picked_right None n m rest kind e = absurd (cc)
picked_right (Some c) n m rest kind e = right_kind c.line kind (value_is (kind_of c.line) n m c.rest rest kind e)

right_header : {n m : ℕ} {text rest : List ℕ} (header : Header) → header_lines n text (gets header m rest) → IsRightKind header.kind
right_header header (goes_on h (goes_on {m = j} {rest = q} v (goes_on {v = kind} {m = m} {rest = r} k (goes_on u g)))) =
    let same : kind ≡ header.kind = cc in
    subst IsRightKind same (picked_right (first_line q) j m r kind k)

-- the facts
all_facts : (table : Table) (fs : List Sym) → {earlier : List Equation} {n : ℕ} {text : List ℕ} {o : Outcome (List Equation)} → FactsAt table fs earlier n text o → (es : List Equation) (m : ℕ) (rest : List ℕ) → o ≡ gets es m rest → Each (IsFact table fs) earlier → Each (IsFact table fs) es
all_facts table fs {earlier} (no_more_facts e l) es m rest g all = let same : earlier ≡ es = cc in subst (Each (IsFact table fs)) same all
all_facts table fs {earlier} (one_more_fact {e = x} e l y) es m rest g all = all_facts table fs y es m rest g (each_both (IsFact table fs) earlier (x ∷ []) all (l.fact, tt))
all_facts table fs v es m rest g all = absurd cc

module _ (table : Table) (header : Header) (right : IsRightKind header.kind) (ss : List Ranked) (n k : ℕ) (text rest : List ℕ) (x : SymbolsAt table header [] n text (gets ss k rest)) (none : symbols_fault table header ss k ≡ None) (es : List Equation) (all : Each (IsFact table (symbols_in ss)) es) where
  of_table : Each (Has table) (symbols_in ss)
  of_table = each_map (IsPrintableSymbol table) (Has table) (λ f p. p.0) (symbols_in ss) (symbols_printable table header ss k rest x)

  constant : HasConstant table (symbols_in ss)
  constant = constant_in table ss (complete_by (header.light && not (has_light header ss)) (has_constant table ss) (departs header.first) (departs k) none)

  by_kind : (kind : Kind) → header.kind ≡ kind → IsRightKind kind → IsSystem table (text_of kind ss es)
  by_kind (Weighing w0) e r = record {
    fits = record {
      of_table = of_table;
      constant = constant;
      total = ((each_self (symbols_in ss), none_twice table header x ss k rest refl tt, each_self (symbols_in ss)), record { w0_some = r.0; w0_most = r.1; as_many = as_many ss; none_bad = none_bad table header w0 e ss k rest x });
    };
    facts = all;
  }
  by_kind Paths e r = record {
    fits = record { of_table = of_table; constant = constant; total = (each_self (symbols_in ss), none_twice table header x ss k rest refl tt, each_self (symbols_in ss)) };
    facts = all;
  }

  system_of : IsSystem table (text_of header.kind ss es)
  system_of = by_kind header.kind refl right

pub system_is : (table : Table) (text : List ℕ) (said : SystemText) (n : ℕ) (rest : List ℕ) → system_lines table 1 text (gets said n rest) → IsSystem table said
system_is table text said n rest (goes_on {v = header} h (goes_on {v = ss} {m = k} {rest = r} x (goes_on {v = u} {m = j} {rest = q} y (goes_on {v = es} {m = i} {rest = p} z w)))) =
    let same : text_of header.kind ss es ≡ said = cc in
    let none = passed_none (symbols_fault table header ss k) k j r q u y in
    subst (IsSystem table) same (system_of table header (right_header header h) ss _ k _ r x none es (all_facts table (symbols_in ss) z es i p refl tt))
