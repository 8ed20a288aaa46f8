-- What a table of weights says of the order.
use Rattle.std.proofs.Common.{◌≡◌, ℕ, ◌+◌, ◌<◌, ◌≤◌, ◌==◌, ◌&&◌, refl, sym, ap, ◌∙◌, subst, arith, ◌⊎◌, inl, inr, List, [], ◌∷◌, length, Bool, true, false, cond, if◌then◌else◌, Option, Some, None, nat_lt, count_by}
use Rattle.std.proofs.lemmas.Bool.Decides.{nat_tests}
use Rattle.std.proofs.lemmas.List.Sums.{sum_by-cons}
use Rattle.uc_term.specs.declared.node.Sym.{Sym}
use Rattle.uc_order.specs.Members.{In, in_front, in_rest, AreDistinct}
use Rattle.uc_kbo.specs.declared.weights.Weighed.{Weighed}
use Rattle.uc_kbo.specs.Weights.{symbols_of, is_entry, weight_in, rank_in, arity_in, lighter_of, least_constant, weighing, AreFit, IsTable}
use Rattle.uc_kbo.specs.Order.{Admissible}

pub bool_cases : (b : Bool) → (b ≡ true) ⊎ (b ≡ false)
bool_cases true = inl refl
bool_cases false = inr refl

pub if_true : {A : Type 0} (b : Bool) (x y : A) → b ≡ true → (if b then x else y) ≡ x
if_true true x y e = refl
if_true false x y e = absurd (grind arith)

pub if_false : {A : Type 0} (b : Bool) (x y : A) → b ≡ false → (if b then x else y) ≡ y
if_false true x y e = absurd (grind arith)
if_false false x y e = refl

same_number : (f g : Sym) → (f.0 == g.0) ≡ true → f ≡ g
same_number f g e = let n : f.0 ≡ g.0 = grind (arith, nat_tests) in ap (λ k. record { 0 = k }) n

equal_number : (f g : Sym) → f ≡ g → (f.0 == g.0) ≡ true
equal_number f g e = let n : f.0 ≡ g.0 = ap (λ h. h.0) e in grind (arith, nat_tests)

other_number : (f g : Sym) → (f ≡ g → ⊥) → (f.0 == g.0) ≡ false
other_number f g n = elim (bool_cases (f.0 == g.0)) [ inl e ↦ absurd (n (same_number f g e)) | inr e ↦ e ]

and_left : (a b : Bool) → (a && b) ≡ true → a ≡ true
and_left true b e = refl
and_left false b e = absurd (grind arith)

and_right : (a b : Bool) → (a && b) ≡ true → b ≡ true
and_right true b e = e
and_right false b e = absurd (grind arith)

and_false : (a b : Bool) → a ≡ false → (a && b) ≡ false
and_false true b e = absurd (grind arith)
and_false false b e = refl

and_true : (a b : Bool) → a ≡ true → b ≡ true → (a && b) ≡ true
and_true true true e q = refl
and_true true false e q = absurd (grind arith)
and_true false b e q = absurd (grind arith)

entry_symbol : (e : Weighed) (f : Sym) (n : ℕ) → is_entry e f n ≡ true → e.symbol ≡ f
entry_symbol e f n q = same_number e.symbol f (and_left (e.symbol.0 == f.0) (e.arity == n) q)

entry_arity : (e : Weighed) (f : Sym) (n : ℕ) → is_entry e f n ≡ true → e.arity ≡ n
entry_arity e f n q = let r = and_right (e.symbol.0 == f.0) (e.arity == n) q in grind (arith, nat_tests)

is_its_entry : (e : Weighed) (f : Sym) (n : ℕ) → e.symbol ≡ f → e.arity ≡ n → is_entry e f n ≡ true
is_its_entry e f n q r = and_true (e.symbol.0 == f.0) (e.arity == n) (equal_number e.symbol f q) (grind (arith, nat_tests))

pub other_entry : (e : Weighed) (f : Sym) (n : ℕ) → (e.symbol ≡ f → ⊥) → is_entry e f n ≡ false
other_entry e f n ne = and_false (e.symbol.0 == f.0) (e.arity == n) (other_number e.symbol f ne)

module _ (w0 : ℕ) where
  weight_here : (e : Weighed) (es : List Weighed) (f : Sym) (n : ℕ) → is_entry e f n ≡ true → weight_in w0 (e ∷ es) f n ≡ e.weight
  weight_here e es f n q = if_true (is_entry e f n) e.weight (weight_in w0 es f n) q

  weight_later : (e : Weighed) (es : List Weighed) (f : Sym) (n : ℕ) → is_entry e f n ≡ false → weight_in w0 (e ∷ es) f n ≡ weight_in w0 es f n
  weight_later e es f n q = if_false (is_entry e f n) e.weight (weight_in w0 es f n) q

  constants_fit : (es : List Weighed) (f : Sym) → AreFit w0 es → w0 ≤ weight_in w0 es f 0
  constants_fit [] f h = omega arith
  constants_fit (e ∷ es) f h = elim (bool_cases (is_entry e f 0)) [
    | inl q ↦ omega (arith, weight_here e es f 0 q, h.0.0 (entry_arity e f 0 q))
    | inr q ↦ omega (arith, weight_later e es f 0 q, constants_fit es f h.1)
  ]

  module _ (some : 0 < w0) where
    light_fit : (es : List Weighed) (f : Sym) (n : ℕ) → AreFit w0 es → weight_in w0 es f n ≡ 0 → n ≡ 1
    light_fit [] f n h z = absurd (omega arith)
    light_fit (e ∷ es) f n h z = elim (bool_cases (is_entry e f n)) [
      | inl q ↦ (let r = h.0.1 (sym (weight_here e es f n q) ∙ z) in omega (arith, r.0, entry_arity e f n q))
      | inr q ↦ light_fit es f n h.1 (sym (weight_later e es f n q) ∙ z)
    ]

    rank_found : (k : ℕ) (es : List Weighed) (f : Sym) (n : ℕ) → weight_in w0 es f n ≡ 0 → k ≤ rank_in k es f n
    rank_found k [] f n z = absurd (omega arith)
    rank_found k (e ∷ es) f n z = elim (bool_cases (is_entry e f n)) [
      | inl q ↦ omega (arith, if_true (is_entry e f n) k (rank_in (k + 1) es f n) q)
      | inr q ↦ omega (arith, if_false (is_entry e f n) k (rank_in (k + 1) es f n) q, rank_found (k + 1) es f n (sym (weight_later e es f n q) ∙ z))
    ]

    -- the last entry is above all others
    last_top : (k : ℕ) (e : Weighed) (es : List Weighed) (f g : Sym) (n m : ℕ) → 0 < k → length es ≡ 0 → is_entry e f n ≡ true → (rank_in k (e ∷ es) g m < rank_in k (e ∷ es) f n) ⊎ ((g ≡ f) × (m ≡ n))
    last_top k e (d ∷ ds) f g n m p l q = absurd (omega arith)
    last_top k e [] f g n m p l q = elim (bool_cases (is_entry e g m)) [
      | inl r ↦ inr (sym (entry_symbol e g m r) ∙ entry_symbol e f n q, sym (entry_arity e g m r) ∙ entry_arity e f n q)
      | inr r ↦ inl (omega (arith, if_true (is_entry e f n) k 0 q, if_false (is_entry e g m) k 0 r))
    ]

    top_fit : (k : ℕ) (es : List Weighed) (f g : Sym) (n m : ℕ) → 0 < k → AreFit w0 es → weight_in w0 es f n ≡ 0 → (rank_in k es g m < rank_in k es f n) ⊎ ((g ≡ f) × (m ≡ n))
    top_fit k [] f g n m p h z = absurd (omega arith)
    top_fit k (e ∷ es) f g n m p h z = elim (bool_cases (is_entry e f n)) [
      | inl q ↦ last_top k e es f g n m p (h.0.1 (sym (weight_here e es f n q) ∙ z)).1 q
      | inr q ↦ (let rest = sym (weight_later e es f n q) ∙ z in let rf = if_false (is_entry e f n) k (rank_in (k + 1) es f n) q in elim (bool_cases (is_entry e g m)) [
        | inl r ↦ inl (omega (arith, rf, if_true (is_entry e g m) k (rank_in (k + 1) es g m) r, rank_found (k + 1) es f n rest))
        | inr r ↦ (let rg = if_false (is_entry e g m) k (rank_in (k + 1) es g m) r in elim (top_fit (k + 1) es f g n m (omega arith) h.1 rest) [ inl l ↦ inl (omega arith) | inr s ↦ inr s ])
      ])
    ]

  pub admissible : (es : List Weighed) → IsTable w0 es → Admissible (weighing w0 es)
  admissible es t = record {
    some_weight = t.some_weight;
    constants = λ f. constants_fit es f t.fit;
    light = λ f n z. light_fit t.some_weight es f n t.fit z;
    top = λ f n z g m. top_fit t.some_weight 1 es f g n m (omega arith) t.fit z;
  }

-- ranks tell the symbols of the table apart
rank_bound : (k : ℕ) (es : List Weighed) (f : Sym) (n : ℕ) → (rank_in k es f n ≡ 0) ⊎ (k ≤ rank_in k es f n)
rank_bound k [] f n = inl refl
rank_bound k (e ∷ es) f n = elim (bool_cases (is_entry e f n)) [
  | inl q ↦ inr (omega (arith, if_true (is_entry e f n) k (rank_in (k + 1) es f n) q))
  | inr q ↦ (let r = if_false (is_entry e f n) k (rank_in (k + 1) es f n) q in elim (rank_bound (k + 1) es f n) [ inl z ↦ inl (omega arith) | inr l ↦ inr (omega arith) ])
]

rank_same : (k : ℕ) (es : List Weighed) (f g : Sym) (n m : ℕ) → 0 < k → k ≤ rank_in k es f n → rank_in k es f n ≡ rank_in k es g m → f ≡ g
rank_same k [] f g n m p h e = absurd (omega arith)
rank_same k (d ∷ es) f g n m p h e = elim (bool_cases (is_entry d f n)) [
  | inl q ↦ (let rf = if_true (is_entry d f n) k (rank_in (k + 1) es f n) q in elim (bool_cases (is_entry d g m)) [
    | inl r ↦ sym (entry_symbol d f n q) ∙ entry_symbol d g m r
    | inr r ↦ (let rg = if_false (is_entry d g m) k (rank_in (k + 1) es g m) r in elim (rank_bound (k + 1) es g m) [ inl z ↦ absurd (omega arith) | inr l ↦ absurd (omega arith) ])
  ])
  | inr q ↦ (let rf = if_false (is_entry d f n) k (rank_in (k + 1) es f n) q in elim (bool_cases (is_entry d g m)) [
    | inl r ↦ (let rg = if_true (is_entry d g m) k (rank_in (k + 1) es g m) r in elim (rank_bound (k + 1) es f n) [ inl z ↦ absurd (omega arith) | inr l ↦ absurd (omega arith) ])
    | inr r ↦ (let rg = if_false (is_entry d g m) k (rank_in (k + 1) es g m) r in elim (rank_bound (k + 1) es f n) [ inl z ↦ absurd (omega arith) | inr l ↦ rank_same (k + 1) es f g n m (omega arith) l (omega arith) ])
  ])
]

pub member_of : (g f : Sym) (gs : List Sym) → In (g ∷ gs) f → (g ≡ f) ⊎ In gs f
member_of g _ gs in_front = inl refl
member_of g f gs (in_rest j) = inr j

rank_has : (k : ℕ) (es : List Weighed) (f : Sym) → In (symbols_of es) f → k ≤ rank_in k es f (arity_in es f)
rank_has k [] f i = elim i [ ]
rank_has k (e ∷ es) f i = by_first (bool_cases (e.symbol.0 == f.0)) i (λ j. rank_has (k + 1) es f j)
  where
    by_first : ((e.symbol.0 == f.0) ≡ true) ⊎ ((e.symbol.0 == f.0) ≡ false) → In (symbols_of (e ∷ es)) f → (In (symbols_of es) f → k + 1 ≤ rank_in (k + 1) es f (arity_in es f)) → k ≤ rank_in k (e ∷ es) f (arity_in (e ∷ es) f)
    by_first (inl q) i next =
        let a = if_true (e.symbol.0 == f.0) e.arity (arity_in es f) q in
        omega (arith, ap (rank_in k (e ∷ es) f) a, if_true (is_entry e f e.arity) k (rank_in (k + 1) es f e.arity) (is_its_entry e f e.arity (same_number e.symbol f q) refl))
    by_first (inr q) i next =
        let a = if_false (e.symbol.0 == f.0) e.arity (arity_in es f) q in
        let b = if_false (is_entry e f (arity_in es f)) k (rank_in (k + 1) es f (arity_in es f)) (and_false (e.symbol.0 == f.0) (e.arity == arity_in es f) q) in
        elim (member_of e.symbol f (symbols_of es) i) [
          | inl r ↦ absurd (let t = equal_number e.symbol f r in cc)
          | inr j ↦ omega (arith, ap (rank_in k (e ∷ es) f) a, b, next j)
        ]

pub ranks_apart : (es : List Weighed) (f g : Sym) → In (symbols_of es) f → In (symbols_of es) g → rank_in 1 es f (arity_in es f) ≡ rank_in 1 es g (arity_in es g) → f ≡ g
ranks_apart es f g i j e = rank_same 1 es f g (arity_in es f) (arity_in es g) (omega arith) (rank_has 1 es f i) e

-- what the least constant of a table is
pub record IsConstant (w0 : ℕ) (es : List Weighed) (d : Weighed) : Type 0 where
  pub member : In (symbols_of es) d.symbol
  pub bare : arity_in es d.symbol ≡ 0
  pub weighs : weight_in w0 es d.symbol 0 ≡ d.weight

constant_here : (w0 : ℕ) (e : Weighed) (es : List Weighed) → e.arity ≡ 0 → IsConstant w0 (e ∷ es) e
constant_here w0 e es z = record {
  member = in_front;
  bare = if_true (e.symbol.0 == e.symbol.0) e.arity (arity_in es e.symbol) (equal_number e.symbol e.symbol refl) ∙ z;
  weighs = weight_here w0 e es e.symbol 0 (is_its_entry e e.symbol 0 refl z);
}

constant_later : (w0 : ℕ) (e : Weighed) (es : List Weighed) (d : Weighed) → (In (symbols_of es) e.symbol → ⊥) → IsConstant w0 es d → IsConstant w0 (e ∷ es) d
constant_later w0 e es d apart c =
    let ne : e.symbol ≡ d.symbol → ⊥ = λ q. apart (let P : Sym → Type 0 = In (symbols_of es) in subst P (sym q) c.member) in
    record {
      member = in_rest c.member;
      bare = if_false (e.symbol.0 == d.symbol.0) e.arity (arity_in es d.symbol) (other_number e.symbol d.symbol ne) ∙ c.bare;
      weighs = weight_later w0 e es d.symbol 0 (other_entry e d.symbol 0 ne) ∙ c.weighs;
    }

lighter_cases : (e d : Weighed) → ((lighter_of e (Some d) ≡ Some d) × (d.weight < e.weight)) ⊎ ((lighter_of e (Some d) ≡ Some e) × (e.weight ≤ d.weight))
lighter_cases e d = elim (bool_cases (nat_lt d.weight e.weight)) [
  | inl q ↦ inl (if_true (nat_lt d.weight e.weight) (Some d) (Some e) q, grind (arith, nat_tests))
  | inr q ↦ inr (if_false (nat_lt d.weight e.weight) (Some d) (Some e) q, grind (arith, nat_tests))
]

least_at_constant : (e : Weighed) (es : List Weighed) → (e.arity == 0) ≡ true → least_constant (e ∷ es) ≡ lighter_of e (least_constant es)
least_at_constant e es q = if_true (e.arity == 0) (lighter_of e (least_constant es)) (least_constant es) q

least_at_other : (e : Weighed) (es : List Weighed) → (e.arity == 0) ≡ false → least_constant (e ∷ es) ≡ least_constant es
least_at_other e es q = if_false (e.arity == 0) (lighter_of e (least_constant es)) (least_constant es) q

is_zero : (n : ℕ) → (n == 0) ≡ true → n ≡ 0
is_zero n q = grind (arith, nat_tests)

zero_is : (n : ℕ) → n ≡ 0 → (n == 0) ≡ true
zero_is n q = grind (arith, nat_tests)

some_same : (d e : Weighed) → Some d ≡ Some e → d ≡ e
some_same d e q = cc

pub least_is_constant : (w0 : ℕ) (es : List Weighed) (d : Weighed) → AreDistinct (symbols_of es) → least_constant es ≡ Some d → IsConstant w0 es d
least_is_constant w0 [] d a q = absurd (let n : None ≡ Some d = q in cc)
least_is_constant w0 (e ∷ es) d a q = by_arity (bool_cases (e.arity == 0)) (least_constant es) refl (λ c h. least_is_constant w0 es c a.1 h)
  where
    here_is : (c : Weighed) → c ≡ e → e.arity ≡ 0 → IsConstant w0 (e ∷ es) c
    here_is c r z = subst (λ (x : Weighed). IsConstant w0 (e ∷ es) x) (sym r) (constant_here w0 e es z)

    by_arity : ((e.arity == 0) ≡ true) ⊎ ((e.arity == 0) ≡ false) → (o : Option Weighed) → least_constant es ≡ o → ((c : Weighed) → least_constant es ≡ Some c → IsConstant w0 es c) → IsConstant w0 (e ∷ es) d
    by_arity (inr z) o r next = constant_later w0 e es d a.0 (next d (sym (least_at_other e es z) ∙ q))
    by_arity (inl z) None r next = here_is d (some_same d e (sym q ∙ least_at_constant e es z ∙ ap (lighter_of e) r)) (is_zero e.arity z)
    by_arity (inl z) (Some c) r next =
        let at : Some d ≡ lighter_of e (Some c) = sym q ∙ least_at_constant e es z ∙ ap (lighter_of e) r in
        elim (lighter_cases e c) [
          | inl l ↦ subst (λ (x : Weighed). IsConstant w0 (e ∷ es) x) (sym (some_same d c (at ∙ l.0))) (constant_later w0 e es c a.0 (next c r))
          | inr l ↦ here_is d (some_same d e (at ∙ l.0)) (is_zero e.arity z)
        ]

-- f is d, or weighs more, or as much and is later
abbrev pub IsOver : ℕ → ℕ → List Weighed → Weighed → Sym → Type 0
IsOver w0 k es d f = (f ≡ d.symbol) ⊎ ((d.weight < weight_in w0 es f 0) ⊎ ((d.weight ≡ weight_in w0 es f 0) × (rank_in k es d.symbol 0 < rank_in k es f 0)))

pub record Least (w0 k : ℕ) (es : List Weighed) (f : Sym) : Type 0 where
  pub constant : Weighed
  pub found : least_constant es ≡ Some constant
  pub over : IsOver w0 k es constant f

over_later : (w0 k : ℕ) (e : Weighed) (es : List Weighed) (d : Weighed) (f : Sym) → (e.symbol ≡ f → ⊥) → (e.symbol ≡ d.symbol → ⊥) → IsOver w0 (k + 1) es d f → IsOver w0 k (e ∷ es) d f
over_later w0 k e es d f nf nd o =
    let wf = weight_later w0 e es f 0 (other_entry e f 0 nf) in
    let rf = if_false (is_entry e f 0) k (rank_in (k + 1) es f 0) (other_entry e f 0 nf) in
    let rd = if_false (is_entry e d.symbol 0) k (rank_in (k + 1) es d.symbol 0) (other_entry e d.symbol 0 nd) in
    elim o [ inl q ↦ inl q | inr p ↦ inr (elim p [ inl l ↦ inl (omega arith) | inr r ↦ inr (omega (arith, r.0), omega (arith, r.1)) ]) ]

not_lighter : (w0 k : ℕ) (es : List Weighed) (d : Weighed) (f : Sym) → weight_in w0 es d.symbol 0 ≡ d.weight → IsOver w0 k es d f → d.weight ≤ weight_in w0 es f 0
not_lighter w0 k es d f e (inl q) = omega (arith, e, ap (λ g. weight_in w0 es g 0) q)
not_lighter w0 k es d f e (inr (inl l)) = omega arith
not_lighter w0 k es d f e (inr (inr r)) = omega (arith, r.0)

less_or_equal : (a b : ℕ) → a ≤ b → (a < b) ⊎ (a ≡ b)
less_or_equal a b h = grind arith

-- an earlier constant that weighs no more than all later ones
over_first : (w0 k : ℕ) (e : Weighed) (es : List Weighed) (f : Sym) → e.arity ≡ 0 → (e.symbol ≡ f → ⊥) → In (symbols_of es) f → arity_in es f ≡ 0 → e.weight ≤ weight_in w0 es f 0 → IsOver w0 k (e ∷ es) e f
over_first w0 k e es f z nf i b h =
    let wf = weight_later w0 e es f 0 (other_entry e f 0 nf) in
    let rf = if_false (is_entry e f 0) k (rank_in (k + 1) es f 0) (other_entry e f 0 nf) in
    let re = if_true (is_entry e e.symbol 0) k (rank_in (k + 1) es e.symbol 0) (is_its_entry e e.symbol 0 refl z) in
    let pos = rank_has (k + 1) es f i in
    elim (less_or_equal e.weight (weight_in w0 es f 0) h) [
      | inl l ↦ inr (inl (omega arith))
      | inr q ↦ inr (inr (omega arith, omega (arith, ap (rank_in (k + 1) es f) b)))
    ]

module _ (w0 k : ℕ) (e : Weighed) (es : List Weighed) (f : Sym) (a : AreDistinct (symbols_of (e ∷ es))) where
  least_here : e.arity ≡ 0 → e.symbol ≡ f → Least w0 k (e ∷ es) f
  least_here z q = by_least (least_constant es) refl
    where
      it : least_constant (e ∷ es) ≡ Some e → Least w0 k (e ∷ es) f
      it r = record { constant = e; found = r; over = inl (sym q) }

      by_least : (o : Option Weighed) → least_constant es ≡ o → Least w0 k (e ∷ es) f
      by_least None r = it (least_at_constant e es (zero_is e.arity z) ∙ ap (lighter_of e) r)
      by_least (Some c) r =
          let at = least_at_constant e es (zero_is e.arity z) ∙ ap (lighter_of e) r in
          let wf = weight_here w0 e es f 0 (is_its_entry e f 0 q z) in
          elim (lighter_cases e c) [
            | inl l ↦ record { constant = c; found = at ∙ l.0; over = inr (inl (omega (arith, l.1))) }
            | inr l ↦ it (at ∙ l.0)
          ]

  least_later : (e.symbol ≡ f → ⊥) → In (symbols_of es) f → arity_in es f ≡ 0 → Least w0 (k + 1) es f → Least w0 k (e ∷ es) f
  least_later nf i b n = by_arity (bool_cases (e.arity == 0))
    where
      d : Weighed
      d = n.constant

      old : IsConstant w0 es n.constant
      old = least_is_constant w0 es n.constant a.1 n.found

      apart : e.symbol ≡ n.constant.symbol → ⊥
      apart q = a.0 (let P : Sym → Type 0 = In (symbols_of es) in subst P (sym q) old.member)

      kept : least_constant (e ∷ es) ≡ Some n.constant → Least w0 k (e ∷ es) f
      kept r = record { constant = n.constant; found = r; over = over_later w0 k e es n.constant f nf apart n.over }

      by_arity : ((e.arity == 0) ≡ true) ⊎ ((e.arity == 0) ≡ false) → Least w0 k (e ∷ es) f
      by_arity (inr z) = kept (least_at_other e es z ∙ n.found)
      by_arity (inl z) =
          let at = least_at_constant e es z ∙ ap (lighter_of e) n.found in
          elim (lighter_cases e n.constant) [
            | inl l ↦ kept (at ∙ l.0)
            | inr l ↦ record { constant = e; found = at ∙ l.0; over = over_first w0 k e es f (is_zero e.arity z) nf i b (omega (arith, l.1, not_lighter w0 (k + 1) es n.constant f old.weighs n.over)) }
          ]

pub least_of : (w0 k : ℕ) (es : List Weighed) (f : Sym) → AreDistinct (symbols_of es) → In (symbols_of es) f → arity_in es f ≡ 0 → Least w0 k es f
least_of w0 k [] f a i b = elim i [ ]
least_of w0 k (e ∷ es) f a i b = by_first (bool_cases (e.symbol.0 == f.0)) (λ j c. least_of w0 (k + 1) es f a.1 j c)
  where
    by_first : ((e.symbol.0 == f.0) ≡ true) ⊎ ((e.symbol.0 == f.0) ≡ false) → (In (symbols_of es) f → arity_in es f ≡ 0 → Least w0 (k + 1) es f) → Least w0 k (e ∷ es) f
    by_first (inl q) next = least_here w0 k e es f a (sym (if_true (e.symbol.0 == f.0) e.arity (arity_in es f) q) ∙ b) (same_number e.symbol f q)
    by_first (inr q) next =
        let nf : e.symbol ≡ f → ⊥ = λ r. absurd (let t = equal_number e.symbol f r in cc) in
        let c = sym (if_false (e.symbol.0 == f.0) e.arity (arity_in es f) q) ∙ b in
        elim (member_of e.symbol f (symbols_of es) i) [ inl r ↦ absurd (nf r) | inr j ↦ least_later w0 k e es f a nf j c (next j c) ]

pub some_least : (es : List Weighed) → 0 < count_by (λ e. e.arity == 0) es → (d : Weighed) × (least_constant es ≡ Some d)
some_least [] h = absurd (omega arith)
some_least (e ∷ es) h = by_arity (bool_cases (e.arity == 0)) (λ k. some_least es k)
  where
    by_least : (e.arity == 0) ≡ true → (o : Option Weighed) → least_constant es ≡ o → (d : Weighed) × (least_constant (e ∷ es) ≡ Some d)
    by_least z None r = (e, least_at_constant e es z ∙ ap (lighter_of e) r)
    by_least z (Some c) r =
        let at = least_at_constant e es z ∙ ap (lighter_of e) r in
        elim (lighter_cases e c) [ inl l ↦ (c, at ∙ l.0) | inr l ↦ (e, at ∙ l.0) ]

    by_arity : ((e.arity == 0) ≡ true) ⊎ ((e.arity == 0) ≡ false) → (0 < count_by (λ e. e.arity == 0) es → (d : Weighed) × (least_constant es ≡ Some d)) → (d : Weighed) × (least_constant (e ∷ es) ≡ Some d)
    by_arity (inl z) next = by_least z (least_constant es) refl
    by_arity (inr z) next =
        let c = sum_by-cons (λ (d : Weighed). cond (d.arity == 0) 1 0) e es in
        let zero_one : cond {A = ℕ} (e.arity == 0) 1 0 ≡ 0 = rw z refl in
        let r = next (omega arith) in
        (r.0, least_at_other e es z ∙ r.1)
