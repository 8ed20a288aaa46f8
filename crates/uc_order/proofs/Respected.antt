-- What a substitution that respects an order of variables says of its terms.
use Rattle.std.proofs.Common.{◌≡◌, ℕ, ◌+◌, List, [], ◌∷◌, Bool, true, false, ◌||◌, ◌==◌, refl, sym, ap, ap₂, ◌∙◌, subst, arith, ◌⊎◌, inl, inr, if◌then◌else◌}
use Rattle.std.proofs.lemmas.Bool.Decides.{nat_tests}
use Rattle.uc_term.specs.Tree.{Tree, var, app, Trees, none, more, apply, apply_all}
use Rattle.uc_term.specs.Variables.{is_among, Occurs, is_itself, in_args, OccursIn, in_first, in_later}
use Rattle.uc_term.proofs.Terms.{apply-apply}
use Rattle.uc_order.specs.Members.{In, in_front, in_rest, Each}
use Rattle.uc_order.specs.VarOrders.{Classes, Among, among_front, among_rest, HasOnly, class_of, IsHigher, first_or, representative, represented, EachVar, Respects}
use Rattle.uc_order.proofs.Exactly.{Each-at}

or_cases : (a b : Bool) → (a || b) ≡ true → (a ≡ true) ⊎ (b ≡ true)
or_cases true b e = inl refl
or_cases false b e = inr e

bool_cases : (b : Bool) → (b ≡ true) ⊎ (b ≡ false)
bool_cases true = inl refl
bool_cases false = inr refl

or_true : (a b : Bool) → b ≡ true → (a || b) ≡ true
or_true true b e = refl
or_true false b e = e

if_true : {A : Type 0} (b : Bool) (x y : A) → b ≡ true → (if b then x else y) ≡ x
if_true true x y e = refl
if_true false x y e = absurd (grind arith)

if_false : {A : Type 0} (b : Bool) (x y : A) → b ≡ false → (if b then x else y) ≡ y
if_false true x y e = absurd (grind arith)
if_false false x y e = refl

pub is_among-In : (x : ℕ) (ys : List ℕ) → is_among x ys ≡ true → In ys x
is_among-In x [] e = absurd (grind arith)
is_among-In x (y ∷ ys) e = elim (or_cases (x == y) (is_among x ys) e) [ inl a ↦ (let q : y ≡ x = grind (arith, nat_tests) in subst (λ (z : ℕ). In (y ∷ ys) z) q in_front) | inr b ↦ in_rest (is_among-In x ys b) ]

pub In-is_among : (x : ℕ) (ys : List ℕ) → In ys x → is_among x ys ≡ true
In-is_among x [] i = elim i [ ]
In-is_among x (_ ∷ ys) in_front = let e : (x == x) ≡ true = grind (arith, nat_tests) in ap (λ b. b || is_among x ys) e
In-is_among x (y ∷ ys) (in_rest i) = or_true (x == y) (is_among x ys) (In-is_among x ys i)

-- terms that are alike in all variables are alike
module _ (σ τ : ℕ → Tree) (same : (x : ℕ) → σ x ≡ τ x) where
  mutual
    pub apply-same : (t : Tree) → apply σ t ≡ apply τ t
    apply-same (var x) = same x
    apply-same (app f ts) = ap (app f) (apply_all-same ts)

    pub apply_all-same : (ts : Trees) → apply_all σ ts ≡ apply_all τ ts
    apply_all-same none = refl
    apply_all-same (more t ts) = ap₂ more (apply-same t) (apply_all-same ts)

first_in : (x : ℕ) (c : List ℕ) → In c x → In c (first_or x c)
first_in x [] i = elim i [ ]
first_in x (y ∷ ys) i = in_front

pub later : (z : ℕ) (c : List ℕ) (cs : Classes) → is_among z c ≡ false → Among (c ∷ cs) z → Among cs z
later z c cs e (among_front i) = absurd (let t = In-is_among z c i in cc)
later z c cs e (among_rest a) = a

-- the first variable of its class is one of the order's
pub representative-among : (x : ℕ) (cs : Classes) → Among cs x → Among cs (representative cs x)
representative-among x [] a = elim a [ ]
representative-among x (c ∷ cs) a = elim (bool_cases (is_among x c)) [
  | inl e ↦ subst (λ (z : ℕ). Among (c ∷ cs) z) (sym (if_true (is_among x c) (first_or x c) (representative cs x) e)) (among_front (first_in x c (is_among-In x c e)))
  | inr e ↦ subst (λ (z : ℕ). Among (c ∷ cs) z) (sym (if_false (is_among x c) (first_or x c) (representative cs x) e)) (among_rest (representative-among x cs (later x c cs e a)))
]

mutual
  -- a variable that occurs in a term with other variables is that of one that occurs in the term
  represented_from : (r : ℕ → ℕ) (Known : ℕ → Type 0) (t : Tree) → ((x : ℕ) → Occurs x t → Known (r x)) → (y : ℕ) → Occurs y (apply (λ x. var (r x)) t) → Known y
  represented_from r Known (var x) h _ is_itself = h x is_itself
  represented_from r Known (app f ts) h y (in_args o) = represented_all_from r Known ts (λ x i. h x (in_args i)) y o

  represented_all_from : (r : ℕ → ℕ) (Known : ℕ → Type 0) (ts : Trees) → ((x : ℕ) → OccursIn x ts → Known (r x)) → (y : ℕ) → OccursIn y (apply_all (λ x. var (r x)) ts) → Known y
  represented_all_from r Known none h y o = elim o [ ]
  represented_all_from r Known (more t ts) h y (in_first o) = represented_from r Known t (λ x i. h x (in_first i)) y o
  represented_all_from r Known (more t ts) h y (in_later o) = represented_all_from r Known ts (λ x i. h x (in_later i)) y o

pub HasOnly-represented : (cs : Classes) (t : Tree) → HasOnly cs t → HasOnly cs (represented cs t)
HasOnly-represented cs t h y o = represented_from (representative cs) (Among cs) t (λ x i. representative-among x cs (h x i)) y o

each_among : (P : ℕ → Type 0) (cs : Classes) (x : ℕ) → EachVar P cs → Among cs x → P x
each_among P [] x e a = elim a [ ]
each_among P (c ∷ cs) x e (among_front i) = Each-at P c x e.0 i
each_among P (c ∷ cs) x e (among_rest a) = each_among P cs x e.1 a

module _ (Greater : Tree → Tree → Type 0) (σ : ℕ → Tree) where
  first_same : (x : ℕ) (c : List ℕ) (cs : Classes) → Respects Greater σ (c ∷ cs) → In c x → σ (first_or x c) ≡ σ x
  first_same x [] cs r i = elim i [ ]
  first_same x (y ∷ ys) cs r i = Each-at (λ z. σ y ≡ σ z) (y ∷ ys) x r.0.0.0 i

  -- a variable and the first of its class have one term
  pub representative-same : (cs : Classes) → Respects Greater σ cs → (x : ℕ) → σ (representative cs x) ≡ σ x
  representative-same [] r x = refl
  representative-same (c ∷ cs) r x = elim (bool_cases (is_among x c)) [
    | inl e ↦ ap σ (if_true (is_among x c) (first_or x c) (representative cs x) e) ∙ first_same x c cs r (is_among-In x c e)
    | inr e ↦ ap σ (if_false (is_among x c) (first_or x c) (representative cs x) e) ∙ representative-same cs r.1 x
  ]

  -- so have a term and the one with the first variables
  pub represented-same : (cs : Classes) → Respects Greater σ cs → (t : Tree) → apply σ (represented cs t) ≡ apply σ t
  represented-same cs r t = apply-apply σ (λ x. var (representative cs x)) t ∙ apply-same (λ x. σ (representative cs x)) σ (representative-same cs r) t

  -- what is higher has a greater term
  pub higher_greater : (cs : Classes) (x y : ℕ) → Respects Greater σ cs → Among cs x → Among cs y → IsHigher cs x y → Greater (σ x) (σ y)
  higher_greater [] x y r a b h = elim a [ ]
  higher_greater (c ∷ cs) x y r a b h = elim (bool_cases (is_among x c)) [
    | inl e ↦ absurd (let k = if_true (is_among x c) 0 (class_of cs x + 1) e in omega (arith, h, k))
    | inr e ↦ (let later_x = later x c cs e a in elim (bool_cases (is_among y c)) [
      | inl k ↦ each_among (λ z. Greater (σ z) (σ y)) cs x (Each-at (λ z. Each (λ w. σ z ≡ σ w) c × EachVar (λ w. Greater (σ w) (σ z)) cs) c y r.0 (is_among-In y c k)).1 later_x
      | inr k ↦ higher_greater cs x y r.1 later_x (later y c cs k b) (let p = if_false (is_among x c) 0 (class_of cs x + 1) e in let q = if_false (is_among y c) 0 (class_of cs y + 1) k in omega (arith, h, p, q))
    ])
  ]
