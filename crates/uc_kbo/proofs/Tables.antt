-- The table of an order, made entry by entry.
use Rattle.std.proofs.Common.{◌≡◌, ◌↔◌, ℕ, zero, suc, ◌+◌, ◌-◌, ◌<◌, ◌≤◌, ◌==◌, ◌&&◌, List, [], ◌∷◌, ◌++◌, length, take, drop, get_or, set, replicate, refl, sym, ap, ap₂, ◌∙◌, subst, arith, ◌⊎◌, inl, inr, Bool, true, false, append_assoc, append-nil, IsTrue, Option, Some, None, MatchOption, count_by, cond, if◌then◌else◌}
use Rattle.std.proofs.lemmas.Bool.{cases_eq}
use Rattle.std.proofs.lemmas.Bool.Decides.{nat_tests}
use Rattle.std.proofs.lemmas.Grind.{take_at_read}
use Rattle.std.proofs.lemmas.List.{get_or-set_same, get_or-set_other, length-take-le}
use Rattle.std.proofs.lemmas.List.Sums.{sum_by-cons}
use Rattle.uc_term.specs.declared.node.Sym.{Sym}
use Rattle.uc_term.specs.declared.node.Node.{Node}
use Rattle.uc_term.specs.Flat.{tree_of, IsWhole}
use Rattle.uc_term.specs.Tree.{Tree}
use Rattle.uc_term.specs.Table as syms
use Rattle.uc_order.specs.Members.{In, in_front, in_rest, Each, AreDistinct}
use Rattle.uc_order.specs.VarOrders.{Classes, representative, represented}
use Rattle.uc_order.proofs.Renaming.{drop_more, renamed_tree}
use Rattle.uc_kbo.specs.declared.weights.Weighed.{Weighed}
use Rattle.uc_kbo.specs.declared.weights.Slot.{Slot}
use Rattle.uc_kbo.specs.Kbo.{Weighing, Kbo, KboGreater, KboUnder}
use Rattle.uc_kbo.specs.Weights.{symbols_of, is_entry, weight_in, rank_in, weighing, AreFit, least_constant, lighter_of}
use Rattle.uc_kbo.specs.Runs.{slot_at, weight_at, rank_at, table_weighing, read_by, test_by, above_by}
use Rattle.uc_kbo.specs.Valid.{IsTied}
use Rattle.uc_kbo.specs.Faults.{weighed, IsBad, FirstBad, bad_front, bad_rest, NoneBad}
use Rattle.uc_kbo.specs.Table.{if_false, other_entry, member_of}
use Rattle.uc_kbo.proofs.Covering.{read_plain}

-- the entries, one after another
pub weighed_more : (table : syms.Table) (fs : List Sym) (ws : List ℕ) (i a : ℕ) (d f : Sym) (w e : ℕ) (es ds all : List Weighed) → i < length fs → i < length ws → f ≡ get_or fs i d → w ≡ get_or ws i e → a ≡ syms.arity_of table f → ds ≡ es ++ record { symbol = f; arity = a; weight = w } ∷ [] → es ++ weighed table (drop i fs) (drop i ws) ≡ all → ds ++ weighed table (drop (i + 1) fs) (drop (i + 1) ws) ≡ all
weighed_more table fs ws i a d f w e es ds all h k ef ew ea eds inv =
    let here : weighed table (drop i fs) (drop i ws) ≡ record { symbol = f; arity = a; weight = w } ∷ weighed table (drop (i + 1) fs) (drop (i + 1) ws) =
    ap₂ (weighed table) (drop_more fs i d h) (drop_more ws i e k) ∙ ap (λ n. n ∷ weighed table (drop (i + 1) fs) (drop (i + 1) ws))
    (ap₂ (λ (g : Sym) (v : ℕ). let x : Weighed = record { symbol = g; arity = syms.arity_of table g; weight = v } in x) (sym ef) (sym ew) ∙ ap (λ (b : ℕ). let x : Weighed = record { symbol = f; arity = b; weight = w } in x) (sym ea)) in
    ap (λ l. l ++ weighed table (drop (i + 1) fs) (drop (i + 1) ws)) eds ∙ append_assoc es (record { symbol = f; arity = a; weight = w } ∷ []) (weighed table (drop (i + 1) fs) (drop (i + 1) ws)) ∙ ap (λ l. es ++ l) (sym here) ∙ inv

drop_past : {A : Type 0} (xs : List A) (i : ℕ) → length xs ≤ i → drop i xs ≡ []
drop_past [] zero h = refl
drop_past [] (suc i) h = refl
drop_past (x ∷ xs) zero h = absurd (omega arith)
drop_past (x ∷ xs) (suc i) h = drop_past xs i (omega arith)

pub weighed_end : (table : syms.Table) (fs : List Sym) (ws : List ℕ) (i : ℕ) (es all : List Weighed) → length fs ≤ i → es ++ weighed table (drop i fs) (drop i ws) ≡ all → es ≡ all
weighed_end table fs ws i es all h inv = sym (append-nil es) ∙ ap (λ l. es ++ weighed table l (drop i ws)) (sym (drop_past fs i h)) ∙ inv

-- the symbols are the precedence
pub symbols-weighed : (table : syms.Table) (fs : List Sym) (ws : List ℕ) → length ws ≡ length fs → symbols_of (weighed table fs ws) ≡ fs
symbols-weighed table [] ws h = refl
symbols-weighed table (f ∷ fs) [] h = absurd (omega arith)
symbols-weighed table (f ∷ fs) (w ∷ ws) h = ap (λ l. f ∷ l) (symbols-weighed table fs ws (omega arith))

pub constants-weighed : (table : syms.Table) (fs : List Sym) (ws : List ℕ) (f : Sym) → length ws ≡ length fs → In fs f → syms.arity_of table f ≡ 0 → 0 < count_by (λ e. e.arity == 0) (weighed table fs ws)
constants-weighed table [] ws f h i z = elim i [ ]
constants-weighed table (g ∷ fs) [] f h i z = absurd (omega arith)
constants-weighed table (g ∷ fs) (w ∷ ws) _ h in_front z =
    let one : cond {A = ℕ} (syms.arity_of table g == 0) 1 0 ≡ 1 = grind (arith, nat_tests) in
    omega (arith, sum_by-cons (λ (e : Weighed). cond {A = ℕ} (e.arity == 0) 1 0) (record { symbol = g; arity = syms.arity_of table g; weight = w }) (weighed table fs ws))
constants-weighed table (g ∷ fs) (w ∷ ws) f h (in_rest i) z =
    omega (arith, sum_by-cons (λ (e : Weighed). cond {A = ℕ} (e.arity == 0) 1 0) (record { symbol = g; arity = syms.arity_of table g; weight = w }) (weighed table fs ws), constants-weighed table fs ws f (omega arith) i z)

pub each_in : {A : Type 0} (P : A → Type 0) (xs : List A) (x : A) → Each P xs → In xs x → P x
each_in P [] x e i = elim i [ ]
each_in P (y ∷ ys) _ e in_front = e.0
each_in P (y ∷ ys) x e (in_rest i) = each_in P ys x e.1 i

pub each_of : {A : Type 0} (P Q : A → Type 0) (xs : List A) → ((x : A) → P x → Q x) → Each P xs → Each Q xs
each_of P Q [] h e = tt
each_of P Q (x ∷ xs) h e = (h x e.0, each_of P Q xs h e.1)

-- bad weights
small_or : (n m : ℕ) → (n < m) ⊎ (m ≤ n)
small_or n m = grind arith

zero_or : (n : ℕ) → (n ≡ 0) ⊎ (n ≡ 0 → ⊥)
zero_or n = cases_eq n 0

pub fit_of : (w0 : ℕ) (es : List Weighed) → NoneBad w0 es → AreFit w0 es
fit_of w0 [] n = tt
fit_of w0 (e ∷ es) n = ((λ z. constant (small_or e.weight w0) z, λ z. (unary (cases_eq e.arity 1) z, last (cases_eq (length es) 0) z)), fit_of w0 es n.1)
  where
    constant : (e.weight < w0) ⊎ (w0 ≤ e.weight) → e.arity ≡ 0 → w0 ≤ e.weight
    constant (inl l) z = absurd (n.0 (inr (inl (z, l))))
    constant (inr l) z = l

    unary : (e.arity ≡ 1) ⊎ (e.arity ≡ 1 → ⊥) → e.weight ≡ 0 → e.arity ≡ 1
    unary (inl u) z = u
    unary (inr u) z = absurd (n.0 (inr (inr (z, λ p. u p.0))))

    last : (length es ≡ 0) ⊎ (length es ≡ 0 → ⊥) → e.weight ≡ 0 → length es ≡ 0
    last (inl u) z = u
    last (inr u) z = absurd (n.0 (inr (inr (z, λ p. u p.1))))

-- what the entries from a place on say of all
pub record Rest (w0 : ℕ) (es : List Weighed) (i : ℕ) : Type 0 where
  pub bad : (d : Weighed) → FirstBad w0 (drop i es) d → FirstBad w0 es d
  pub none : NoneBad w0 (drop i es) → NoneBad w0 es

pub rest_all : (w0 : ℕ) (es : List Weighed) → Rest w0 es 0
rest_all w0 es = record { bad = λ d b. b; none = λ n. n }

length-drop_one : (es : List Weighed) (i : ℕ) → i < length es → length (drop (i + 1) es) + (i + 1) ≡ length es
length-drop_one [] i h = absurd (omega arith)
length-drop_one (e ∷ es) zero h = omega arith
length-drop_one (e ∷ es) (suc i) h = let s : suc i + 1 ≡ suc (i + 1) = omega arith in omega (arith, length-drop_one es i (omega arith), ap (λ k. length (drop k (e ∷ es))) s)

module _ (w0 : ℕ) (es : List Weighed) (i : ℕ) (e d : Weighed) (last : Bool) (h : i < length es) (is : e ≡ get_or es i d) (tells : IsTrue last ↔ (i + 1 ≡ length es)) where
  at_entry : drop i es ≡ e ∷ drop (i + 1) es
  at_entry = drop_more es i d h ∙ ap (λ k. k ∷ drop (i + 1) es) (sym is)

  to_last : length (drop (i + 1) es) ≡ 0 → IsTrue last
  to_last z = tells.1 (omega (arith, length-drop_one es i h))

  from_last : IsTrue last → length (drop (i + 1) es) ≡ 0
  from_last t = omega (arith, tells.0 t, length-drop_one es i h)

  pub found_bad : Rest w0 es i → (1000000 < e.weight) ⊎ (((e.arity ≡ 0) × (e.weight < w0)) ⊎ ((e.weight ≡ 0) × (((e.arity ≡ 1) × IsTrue last) → ⊥))) → FirstBad w0 es e
  found_bad r b = r.bad e (let P : List Weighed → Type 0 = λ l. FirstBad w0 l e in subst P (sym at_entry) (bad_front (spread b)))
    where
      spread : (1000000 < e.weight) ⊎ (((e.arity ≡ 0) × (e.weight < w0)) ⊎ ((e.weight ≡ 0) × (((e.arity ≡ 1) × IsTrue last) → ⊥))) → IsBad w0 e (drop (i + 1) es)
      spread (inl l) = inl l
      spread (inr (inl p)) = inr (inl p)
      spread (inr (inr p)) = inr (inr (p.0, λ q. p.1 (q.0, to_last q.1)))

  not_bad : (e.weight ≤ 1000000) × (e.arity ≡ 0 → w0 ≤ e.weight) × (e.weight ≡ 0 → (e.arity ≡ 1) × IsTrue last) → IsBad w0 e (drop (i + 1) es) → ⊥
  not_bad g (inl l) = absurd (omega (arith, g.0))
  not_bad g (inr (inl p)) = absurd (omega (arith, g.1 p.0, p.1))
  not_bad g (inr (inr p)) = let q = g.2 p.0 in p.1 (q.0, from_last q.1)

  pub rest_more : Rest w0 es i → (e.weight ≤ 1000000) × (e.arity ≡ 0 → w0 ≤ e.weight) × (e.weight ≡ 0 → (e.arity ≡ 1) × IsTrue last) → Rest w0 es (i + 1)
  rest_more r g = record {
    bad = λ c b. r.bad c (let P : List Weighed → Type 0 = λ l. FirstBad w0 l c in subst P (sym at_entry) (bad_rest (not_bad g) b));
    none = λ n. r.none (let P : List Weighed → Type 0 = NoneBad w0 in subst P (sym at_entry) (not_bad g, n));
  }

pub rest_end : (w0 : ℕ) (es : List Weighed) (i : ℕ) → length es ≤ i → Rest w0 es i → NoneBad w0 es
rest_end w0 es i h r = r.none (let P : List Weighed → Type 0 = NoneBad w0 in subst P (sym (drop_past es i h)) tt)

-- the least constant, from the last entry on
pub least_more : (es : List Weighed) (i : ℕ) (e d : Weighed) (best next : Option Weighed) → 0 < i → i ≤ length es → e ≡ get_or es (i - 1) d → best ≡ least_constant (drop i es) → next ≡ (if e.arity == 0 then lighter_of e best else best) → next ≡ least_constant (drop (i - 1) es)
least_more es i e d best next h k is b n =
    let s : i - 1 + 1 ≡ i = omega arith in
    let at : drop (i - 1) es ≡ e ∷ drop i es = drop_more es (i - 1) d (omega arith) ∙ ap₂ (λ x l. x ∷ l) (sym is) (ap (λ j. drop j es) s) in
    n ∙ ap (λ o. if e.arity == 0 then lighter_of e o else o) b ∙ ap least_constant (sym at)

pub least_start : (es : List Weighed) → None ≡ least_constant (drop (length es) es)
least_start es = ap least_constant (sym (drop_past es (length es) (omega arith)))

-- slots
push_here : (w0 : ℕ) (xs : List Weighed) (e : Weighed) (n : ℕ) → (In (symbols_of xs) e.symbol → ⊥) → weight_in w0 (xs ++ e ∷ []) e.symbol n ≡ (if e.arity == n then e.weight else w0)
push_here w0 [] e n ne = ap (λ b. if b && (e.arity == n) then e.weight else w0) (same e.symbol.0)
  where
    same : (k : ℕ) → (k == k) ≡ true
    same k = grind (arith, nat_tests)
push_here w0 (x ∷ xs) e n ne = if_false (is_entry x e.symbol n) x.weight (weight_in w0 (xs ++ e ∷ []) e.symbol n) (other_entry x e.symbol n (λ q. ne (let P : Sym → Type 0 = In (symbols_of (x ∷ xs)) in subst P q in_front))) ∙ push_here w0 xs e n (λ i. ne (in_rest i))

push_other : (w0 : ℕ) (xs : List Weighed) (e : Weighed) (f : Sym) (n : ℕ) → (e.symbol ≡ f → ⊥) → weight_in w0 (xs ++ e ∷ []) f n ≡ weight_in w0 xs f n
push_other w0 [] e f n ne = if_false (is_entry e f n) e.weight w0 (other_entry e f n ne)
push_other w0 (x ∷ xs) e f n ne = ap (λ v. if is_entry x f n then x.weight else v) (push_other w0 xs e f n ne)

rank_here : (k : ℕ) (xs : List Weighed) (e : Weighed) (n : ℕ) → (In (symbols_of xs) e.symbol → ⊥) → rank_in k (xs ++ e ∷ []) e.symbol n ≡ (if e.arity == n then k + length xs else 0)
rank_here k [] e n ne = ap (λ b. if b && (e.arity == n) then k else 0) (same e.symbol.0) ∙ ap (λ j. if e.arity == n then j else 0) (plus k)
  where
    same : (j : ℕ) → (j == j) ≡ true
    same j = grind (arith, nat_tests)

    plus : (j : ℕ) → j ≡ j + 0
    plus j = omega arith
rank_here k (x ∷ xs) e n ne =
    let s : k + 1 + length xs ≡ k + length (x ∷ xs) = omega arith in
    if_false (is_entry x e.symbol n) k (rank_in (k + 1) (xs ++ e ∷ []) e.symbol n) (other_entry x e.symbol n (λ q. ne (let P : Sym → Type 0 = In (symbols_of (x ∷ xs)) in subst P q in_front)))
    ∙ rank_here (k + 1) xs e n (λ i. ne (in_rest i)) ∙ ap (λ j. if e.arity == n then j else 0) s

rank_other : (k : ℕ) (xs : List Weighed) (e : Weighed) (f : Sym) (n : ℕ) → (e.symbol ≡ f → ⊥) → rank_in k (xs ++ e ∷ []) f n ≡ rank_in k xs f n
rank_other k [] e f n ne = if_false (is_entry e f n) k 0 (other_entry e f n ne)
rank_other k (x ∷ xs) e f n ne = ap (λ v. if is_entry x f n then k else v) (rank_other (k + 1) xs e f n ne)

-- a symbol isn't among the entries before it
among_entries : (es : List Weighed) (i : ℕ) (d : Weighed) → i < length es → In (symbols_of es) (get_or es i d).symbol
among_entries [] i d h = absurd (omega arith)
among_entries (e ∷ es) zero d h = in_front
among_entries (e ∷ es) (suc i) d h = in_rest (among_entries es i d (omega arith))

pub not_before : (es : List Weighed) (i : ℕ) (d : Weighed) → AreDistinct (symbols_of es) → i < length es → In (symbols_of (take i es)) (get_or es i d).symbol → ⊥
not_before [] i d a h j = absurd (omega arith)
not_before (e ∷ es) zero d a h j = elim j [ ]
not_before (e ∷ es) (suc i) d a h j = elim (member_of e.symbol (get_or es i d).symbol (symbols_of (take i es)) j) [
  | inl q ↦ a.0 (let P : Sym → Type 0 = In (symbols_of es) in subst P (sym q) (among_entries es i d (omega arith)))
  | inr k ↦ not_before es i d a.1 (omega arith) k
]

-- the first slots say nothing
pub tied_none : (w0 n : ℕ) → IsTied w0 [] (replicate n (record { arity = 0; weight = w0; rank = 0 }))
tied_none w0 n f m =
    let slot : slot_at w0 (replicate n (record { arity = 0; weight = w0; rank = 0 })) f ≡ record { arity = 0; weight = w0; rank = 0 } = all_absent n f.0 in
    (ap (λ (s : Slot). if s.arity == m then s.weight else w0) slot ∙ either (0 == m) w0, ap (λ (s : Slot). if s.arity == m then s.rank else 0) slot ∙ either (0 == m) 0)
  where
    either : (b : Bool) (x : ℕ) → (if b then x else x) ≡ x
    either true x = refl
    either false x = refl

    all_absent : (k i : ℕ) → get_or (replicate k (let a : Slot = record { arity = 0; weight = w0; rank = 0 } in a)) i (record { arity = 0; weight = w0; rank = 0 }) ≡ record { arity = 0; weight = w0; rank = 0 }
    all_absent zero i = refl
    all_absent (suc k) zero = refl
    all_absent (suc k) (suc i) = all_absent k i

module _ (w0 : ℕ) (es : List Weighed) (i : ℕ) (e d : Weighed) (table : List Slot) (a : AreDistinct (symbols_of es)) (h : i < length es) (is : e ≡ get_or es i d) (room : e.symbol.0 < length table) (t : IsTied w0 (take i es) table) where
  abbrev slot : Slot
  slot = record { arity = e.arity; weight = e.weight; rank = i + 1 }

  new : IsTied w0 (take i es ++ e ∷ []) (set table e.symbol.0 slot)
  new f n = by_symbol (cases_eq f.0 e.symbol.0)
    where
      before : In (symbols_of (take i es)) e.symbol → ⊥
      before j = not_before es i d a h (let P : Weighed → Type 0 = λ x. In (symbols_of (take i es)) x.symbol in subst P is j)

      here : slot_at w0 (set table e.symbol.0 slot) e.symbol ≡ slot
      here = get_or-set_same table e.symbol.0 slot (record { arity = 0; weight = w0; rank = 0 }) room

      places : 1 + length (take i es) ≡ i + 1
      places = let l = length-take-le i es (omega arith) in omega arith

      by_symbol : (f.0 ≡ e.symbol.0) ⊎ (f.0 ≡ e.symbol.0 → ⊥) → (weight_at w0 (set table e.symbol.0 slot) f n ≡ weight_in w0 (take i es ++ e ∷ []) f n) × (rank_at w0 (set table e.symbol.0 slot) f n ≡ rank_in 1 (take i es ++ e ∷ []) f n)
      by_symbol (inl q) =
          let same : e.symbol ≡ f = ap (λ k. let x : Sym = record { 0 = k } in x) (sym q) in
          let P : Sym → Type 0 = λ g. (weight_at w0 (set table e.symbol.0 slot) g n ≡ weight_in w0 (take i es ++ e ∷ []) g n) × (rank_at w0 (set table e.symbol.0 slot) g n ≡ rank_in 1 (take i es ++ e ∷ []) g n) in
          subst P same (
            ap (λ (s : Slot). if s.arity == n then s.weight else w0) here ∙ sym (push_here w0 (take i es) e n before),
            ap (λ (s : Slot). if s.arity == n then s.rank else 0) here ∙ ap (λ j. if e.arity == n then j else 0) (sym places) ∙ sym (rank_here 1 (take i es) e n before),
          )
      by_symbol (inr ne) =
          let other : slot_at w0 (set table e.symbol.0 slot) f ≡ slot_at w0 table f = get_or-set_other table e.symbol.0 f.0 slot (record { arity = 0; weight = w0; rank = 0 }) ne in
          let apart : e.symbol ≡ f → ⊥ = λ q. ne (ap (λ (g : Sym). g.0) (sym q)) in (
            ap (λ (s : Slot). if s.arity == n then s.weight else w0) other ∙ (t f n).0 ∙ sym (push_other w0 (take i es) e f n apart),
            ap (λ (s : Slot). if s.arity == n then s.rank else 0) other ∙ (t f n).1 ∙ sym (rank_other 1 (take i es) e f n apart),
          )

  pub tied_more : IsTied w0 (take (i + 1) es) (set table e.symbol.0 slot)
  tied_more = let P : List Weighed → Type 0 = λ l. IsTied w0 l (set table e.symbol.0 slot) in subst P (ap (λ x. take i es ++ x ∷ []) is ∙ sym (take_at_read es i d h).1) new

-- the weights by the slots are those by the entries
pub weighing_tied : (w0 : ℕ) (es : List Weighed) (table : List Slot) → IsTied w0 es table → table_weighing w0 table ≡ weighing w0 es
weighing_tied w0 es table t = λ i. record { w0 = w0; weight_of = λ f n. (t f n).0 i; rank = λ f n. (t f n).1 i }

pub plain_iff : (V : Type 0) (w v : Weighing) (cs : Classes) (s t : List Node) → w ≡ v → V ↔ Kbo w (test_by false cs) (above_by false cs) (tree_of (read_by false cs s)) (tree_of (read_by false cs t)) → V ↔ KboGreater v (tree_of s) (tree_of t)
plain_iff V w v cs s t e h =
    let P : Weighing → Type 0 = λ u. V ↔ KboGreater u (tree_of (read_by false cs s)) (tree_of (read_by false cs t)) in
    let Q : List Node → Type 0 = λ l. V ↔ KboGreater v (tree_of l) (tree_of (read_by false cs t)) in
    let R : List Node → Type 0 = λ l. V ↔ KboGreater v (tree_of s) (tree_of l) in
    subst R (read_plain cs t) (subst Q (read_plain cs s) (subst P e h))

pub plain_equal : (V : Type 0) (cs : Classes) (s t : List Node) → V ↔ (tree_of (read_by false cs s) ≡ tree_of (read_by false cs t)) → V ↔ (tree_of s ≡ tree_of t)
plain_equal V cs s t h =
    let Q : List Node → Type 0 = λ l. V ↔ (tree_of l ≡ tree_of (read_by false cs t)) in
    let R : List Node → Type 0 = λ l. V ↔ (tree_of s ≡ tree_of l) in
    subst R (read_plain cs t) (subst Q (read_plain cs s) h)

pub under_iff : (V : Type 0) (w v : Weighing) (cs : Classes) (s t : List Node) → w ≡ v → IsWhole s → IsWhole t → V ↔ Kbo w (test_by true cs) (above_by true cs) (tree_of (read_by true cs s)) (tree_of (read_by true cs t)) → V ↔ KboUnder v cs (tree_of s) (tree_of t)
under_iff V w v cs s t e ws wt h =
    let P : Weighing → Type 0 = λ u. V ↔ Kbo u (test_by true cs) (above_by true cs) (tree_of (read_by true cs s)) (tree_of (read_by true cs t)) in
    let Q : Tree → Type 0 = λ l. V ↔ Kbo v (test_by true cs) (above_by true cs) l (tree_of (read_by true cs t)) in
    let R : Tree → Type 0 = λ l. V ↔ Kbo v (test_by true cs) (above_by true cs) (represented cs (tree_of s)) l in
    subst R (renamed_tree (representative cs) t wt) (subst Q (renamed_tree (representative cs) s ws) (subst P e h))

pub under_equal : (V : Type 0) (cs : Classes) (s t : List Node) → IsWhole s → IsWhole t → V ↔ (tree_of (read_by true cs s) ≡ tree_of (read_by true cs t)) → V ↔ (represented cs (tree_of s) ≡ represented cs (tree_of t))
under_equal V cs s t ws wt h =
    let Q : Tree → Type 0 = λ l. V ↔ (l ≡ tree_of (read_by true cs t)) in
    let R : Tree → Type 0 = λ l. V ↔ (represented cs (tree_of s) ≡ l) in
    subst R (renamed_tree (representative cs) t wt) (subst Q (renamed_tree (representative cs) s ws) h)

pub no_bad : (w0 : ℕ) (es : List Weighed) (o : Option Weighed) → MatchOption o (NoneBad w0 es) (FirstBad w0 es) → ((e : Weighed) → o ≡ Some e → ⊥) → NoneBad w0 es
no_bad w0 es None m n = m
no_bad w0 es (Some e) m n = absurd (n e refl)
