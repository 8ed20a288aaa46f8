-- The weights that options name are good, with and without the encoding's symbols.
use Rattle.std.proofs.Common.{◌≡◌, ℕ, suc, ◌-◌, ◌≤◌, ◌==◌, ◌&&◌, ◌||◌, nat_lt, max, fold, Bool, true, false, not, List, [], ◌∷◌, ◌++◌, length, map, bytes_eq, unwrap_or, Option, Some, None, is_none, find, if◌then◌else◌, refl, sym, ap, ◌∙◌, subst, arith, inl, inr}
use Rattle.std.specs.Cmp.Lexicographic.{bytes_decides}
use Rattle.std.proofs.lemmas.Bool.{eqb-true, eq-eqb, false≢true}
use Rattle.std.proofs.lemmas.Bool.Decides.{nat_tests}
use Rattle.uc_term.specs.declared.node.Sym.{Sym}
use Rattle.uc_term.specs.declared.signature.Signature.{Signature}
use Rattle.uc_term.specs.Table.{Table, name_of, arity_of}
use Rattle.uc_term.specs.Signatures.{first_named}
use Rattle.uc_order.specs.Members.{In, in_front, in_rest, AreDistinct}
use Rattle.uc_order.proofs.Counts.{same_sym}
use Rattle.uc_kbo.specs.Faults.{weighed, IsBad, NoneBad}
use Rattle.uc_kbo.specs.declared.weights.Weighed.{Weighed}
use Rattle.uc_ordering.specs.Choice.{below_marks, ends_in_zero, with_behind}
use Rattle.uc_ordering.specs.Weights.{weight_given, weight_of, is_last, is_bad, is_bad_for}
use Rattle.uc_ordering.proofs.Signatures.{Signed}
use Rattle.uc_ordering.proofs.Named.{find_none-in}
use Rattle.uc_ordering.proofs.Totals.{same_symbol_of}

-- what a good weight of a symbol is, where so many symbols stand behind it
pub record Fine (w0 arity w behind : ℕ) : Type 0 where
  pub most : w ≤ 1000000
  pub constant : arity ≡ 0 → w0 ≤ w
  pub vanishing : w ≡ 0 → (arity ≡ 1) × (behind ≡ 0)

fine_is_good : (w0 : ℕ) (e : Weighed) (es : List Weighed) → Fine w0 e.arity e.weight (length es) → IsBad w0 e es → ⊥
fine_is_good w0 e es f (inl b) = absurd (omega (arith, b, f.most))
fine_is_good w0 e es f (inr (inl b)) = absurd (omega (arith, b.1, f.constant b.0))
fine_is_good w0 e es f (inr (inr b)) = b.1 (f.vanishing b.0)

length-weighed : (table : Table) (fs : List Sym) (ws : List ℕ) → length ws ≡ length fs → length (weighed table fs ws) ≡ length fs
length-weighed table [] ws h = refl
length-weighed table (f ∷ fs) [] h = absurd (omega arith)
length-weighed table (f ∷ fs) (w ∷ ws) h = ap suc (length-weighed table fs ws (omega arith))

-- the last of them is one of them
last_in : (fs : List Sym) (f : Sym) → is_last fs f ≡ true → In fs f
last_in [] f e = absurd (false≢true e)
last_in (g ∷ []) f e = let q : g ≡ f = same_sym g f (eqb-true g.0 f.0 e) in (let P : Sym → Type 0 = λ h. In (h ∷ []) f in subst P (sym q) in_front)
last_in (g ∷ h ∷ hs) f e = in_rest (last_in (h ∷ hs) f e)

-- a weight that is given is given to the name
given_in : (ps : List (List ℕ × ℕ)) (name : List ℕ) (v : ℕ) → weight_given ps name ≡ Some v → In ps (name, v)
given_in [] name v e = absurd cc
given_in (p ∷ ps) name v e = go (bytes_eq p.0 name) refl e (given_in ps name v)
  where
    here : p.0 ≡ name → p.1 ≡ v → In (p ∷ ps) (name, v)
    here q r = subst (In (p ∷ ps)) (ap (λ (a : List ℕ). (a, p.1)) q ∙ ap (λ (b : ℕ). (name, b)) r) in_front

    go : (b : Bool) → bytes_eq p.0 name ≡ b → (if b then Some p.1 else weight_given ps name) ≡ Some v → (weight_given ps name ≡ Some v → In ps (name, v)) → In (p ∷ ps) (name, v)
    go true q e later = here ((bytes_decides p.0 name).0 q) (let r : Some p.1 ≡ Some v = e in cc)
    go false q e later = in_rest (later e)

In-map : {X Y : Type 0} (h : X → Y) (xs : List X) (x : X) → In xs x → In (map h xs) (h x)
In-map h [] x i = elim i [ ]
In-map h (x ∷ xs) _ in_front = in_front
In-map h (y ∷ xs) x (in_rest i) = in_rest (In-map h xs x i)

or_false : (a b : Bool) → (a || b) ≡ false → (a ≡ false) × (b ≡ false)
or_false true b e = absurd (false≢true (sym e))
or_false false b e = (refl, e)

and_right : (a b : Bool) → a ≡ true → (a && b) ≡ false → b ≡ false
and_right true b e q = q
and_right false b e q = absurd (false≢true e)

not_false : (b : Bool) → not b ≡ false → b ≡ true
not_false true e = refl
not_false false e = absurd (false≢true (sym e))

both : (a b : Bool) → (a && b) ≡ true → (a ≡ true) × (b ≡ true)
both true b e = (refl, e)
both false b e = absurd (false≢true e)

at_most : (a b : ℕ) → nat_lt a b ≡ false → b ≤ a
at_most a b e = grind (arith, nat_tests)

module _ (table : Table) (w0 : ℕ) (some : 1 ≤ w0) (most : w0 ≤ 1000000) where
  -- what a symbol's weight keeps in a precedence
  pub record FineIn (precedence : List Sym) (f : Sym) (w : ℕ) : Type 0 where
    pub bounded : w ≤ 1000000
    pub constant : arity_of table f ≡ 0 → w0 ≤ w
    pub vanishing : w ≡ 0 → (arity_of table f ≡ 1) × (is_last precedence f ≡ true)

  not_bad : (precedence : List Sym) (f : Sym) (w : ℕ) → is_bad table w0 precedence f w ≡ false → FineIn precedence f w
  not_bad precedence f w e =
      let p = or_false (nat_lt 1000000 w) _ e in
      let q = or_false ((arity_of table f == 0) && nat_lt w w0) _ p.1 in
      record {
        bounded = at_most 1000000 w p.0;
        constant = λ z. at_most w w0 (and_right (arity_of table f == 0) (nat_lt w w0) (eq-eqb (arity_of table f) 0 z) q.0);
        vanishing = λ z. (let r = both (arity_of table f == 1) (is_last precedence f) (not_false _ (and_right (w == 0) _ (eq-eqb w 0 z) q.1)) in (eqb-true (arity_of table f) 1 r.0, r.1));
      }

  w0_fine : (precedence : List Sym) (f : Sym) (w : ℕ) → w ≡ w0 → FineIn precedence f w
  w0_fine precedence f w e = record {
    bounded = omega (arith, e, most);
    constant = λ z. omega (arith, e);
    vanishing = λ z. absurd (omega (arith, e, z, some));
  }

  module _ (own : List Sym) (signature : Signature) (s : Signed table own signature) (given : List (List ℕ × ℕ)) (known : find (λ name. is_none (first_named table name own)) (map (λ p. p.0) given) ≡ None) (precedence : List Sym) (good : find (is_bad_for table w0 own precedence) given ≡ None) where
    pub fine : (f : Sym) → In signature.symbols f → FineIn precedence f (weight_of table w0 given f)
    fine f i = go (weight_given given (name_of table f)) refl
      where
        go : (o : Option ℕ) → weight_given given (name_of table f) ≡ o → FineIn precedence f (unwrap_or o w0)
        go None e = w0_fine precedence f w0 refl
        go (Some v) e =
            let j = given_in given (name_of table f) v e in
            let k = In-map (λ (p : List ℕ × ℕ). p.0) given (name_of table f, v) j in
            let named = same_symbol_of table own signature s (map (λ p. p.0) given) known f (name_of table f) i k refl in
            let b = find_none-in (is_bad_for table w0 own precedence) given good (name_of table f, v) j in
            not_bad precedence f v (rw named at b)

  module _ (w : Sym → ℕ) where
    -- the weights of a precedence
    behind : (f g : Sym) (gs : List Sym) → AreDistinct (f ∷ g ∷ gs) → FineIn (f ∷ g ∷ gs) f (w f) → w f ≡ 0 → ⊥
    behind f g gs a h z = a.0 (last_in (g ∷ gs) f (h.vanishing z).1)

    head_fine : (f : Sym) (n : ℕ) → FineIn (f ∷ []) f (w f) → n ≡ 0 → Fine w0 (arity_of table f) (w f) n
    head_fine f n h e = record { most = h.bounded; constant = h.constant; vanishing = λ z. ((h.vanishing z).0, e) }

    some_fine : (fs : List Sym) (f : Sym) (n : ℕ) → FineIn fs f (w f) → (w f ≡ 0 → ⊥) → Fine w0 (arity_of table f) (w f) n
    some_fine fs f n h k = record { most = h.bounded; constant = h.constant; vanishing = λ z. absurd (k z) }

    entry_good : (f : Sym) (v : ℕ) (es : List Weighed) → Fine w0 (arity_of table f) v (length es) → IsBad w0 (record { symbol = f; arity = arity_of table f; weight = v }) es → ⊥
    entry_good f v es h = fine_is_good w0 (record { symbol = f; arity = arity_of table f; weight = v }) es h

    pub none_bad : (fs : List Sym) → AreDistinct fs → ((f : Sym) → In fs f → FineIn fs f (w f)) → NoneBad w0 (weighed table fs (map w fs))
    none_bad [] a h = tt
    none_bad (f ∷ []) a h = (entry_good f (w f) [] (head_fine f 0 (h f in_front) refl), tt)
    none_bad (f ∷ g ∷ gs) a h =
        (entry_good f (w f) (weighed table (g ∷ gs) (map w (g ∷ gs))) (some_fine (f ∷ g ∷ gs) f (length (weighed table (g ∷ gs) (map w (g ∷ gs)))) (h f in_front) (behind f g gs a (h f in_front))), none_bad (g ∷ gs) a.1 (λ e i. later e (h e (in_rest i))))
      where
        later : (e : Sym) → FineIn (f ∷ g ∷ gs) e (w e) → FineIn (g ∷ gs) e (w e)
        later e k = record { bounded = k.bounded; constant = k.constant; vanishing = k.vanishing }

    module _ (yes no eq : Sym) (heavy : ℕ) (yes_bare : arity_of table yes ≡ 0) (no_bare : arity_of table no ≡ 0) (eq_binary : arity_of table eq ≡ 2) (heavy_some : w0 ≤ heavy) (heavy_most : heavy ≤ 1000000) where
      abbrev pub marks : List Sym
      marks = yes ∷ no ∷ eq ∷ []

      abbrev pub weights : List ℕ
      weights = heavy ∷ heavy ∷ w0 ∷ []

      heavy_fine : (f : Sym) (n : ℕ) → Fine w0 (arity_of table f) heavy n
      heavy_fine f n = record { most = heavy_most; constant = λ z. heavy_some; vanishing = λ z. absurd (omega (arith, z, heavy_some, some)) }

      eq_fine : (n : ℕ) → Fine w0 (arity_of table eq) w0 n
      eq_fine n = record { most = most; constant = λ z. omega arith; vanishing = λ z. absurd (omega (arith, z, some)) }

      marks_good : (fs : List Sym) (ws : List ℕ) → NoneBad w0 (weighed table fs ws) → NoneBad w0 (weighed table (marks ++ fs) (weights ++ ws))
      marks_good fs ws h = (entry_good yes heavy (weighed table (no ∷ eq ∷ fs) (heavy ∷ w0 ∷ ws)) (heavy_fine yes (length (weighed table (no ∷ eq ∷ fs) (heavy ∷ w0 ∷ ws)))), (entry_good no heavy (weighed table (eq ∷ fs) (w0 ∷ ws)) (heavy_fine no (length (weighed table (eq ∷ fs) (w0 ∷ ws)))), (entry_good eq w0 (weighed table fs ws) (eq_fine (length (weighed table fs ws))), h)))

      one_below : (x y : ℕ) (ys : List ℕ) → below_marks (x ∷ y ∷ ys) ≡ suc (below_marks (y ∷ ys))
      one_below x y ys = go (ends_in_zero (y ∷ ys))
        where
          go : (b : Bool) → (if b then length (x ∷ y ∷ ys) - 1 else length (x ∷ y ∷ ys)) ≡ suc (if b then length (y ∷ ys) - 1 else length (y ∷ ys))
          go true = omega arith
          go false = refl

      pub none_bad_with : (fs : List Sym) → AreDistinct fs → ((f : Sym) → In fs f → FineIn fs f (w f)) → NoneBad w0 (weighed table (with_behind (below_marks (map w fs)) fs marks) (with_behind (below_marks (map w fs)) (map w fs) weights))
      none_bad_with [] a h = marks_good [] [] tt
      none_bad_with (f ∷ []) a h = go (w f == 0) refl
        where
          go : (b : Bool) → (w f == 0) ≡ b → NoneBad w0 (weighed table (with_behind (if b then 0 else 1) (f ∷ []) marks) (with_behind (if b then 0 else 1) (w f ∷ []) weights))
          go true e = marks_good (f ∷ []) (w f ∷ []) (entry_good f (w f) [] (head_fine f 0 (h f in_front) refl), tt)
          go false e = (entry_good f (w f) (weighed table marks weights) (some_fine (f ∷ []) f (length (weighed table marks weights)) (h f in_front) (λ z. absurd (false≢true (sym e ∙ eq-eqb (w f) 0 z)))), marks_good [] [] tt)
      none_bad_with (f ∷ g ∷ gs) a h =
          rw (one_below (w f) (w g) (map w gs))
          (entry_good f (w f) (weighed table (with_behind (below_marks (map w (g ∷ gs))) (g ∷ gs) marks) (with_behind (below_marks (map w (g ∷ gs))) (map w (g ∷ gs)) weights)) (some_fine (f ∷ g ∷ gs) f (length (weighed table (with_behind (below_marks (map w (g ∷ gs))) (g ∷ gs) marks) (with_behind (below_marks (map w (g ∷ gs))) (map w (g ∷ gs)) weights))) (h f in_front) (behind f g gs a (h f in_front))), none_bad_with (g ∷ gs) a.1 (λ e i. later e (h e (in_rest i))))
        where
          later : (e : Sym) → FineIn (f ∷ g ∷ gs) e (w e) → FineIn (g ∷ gs) e (w e)
          later e k = record { bounded = k.bounded; constant = k.constant; vanishing = k.vanishing }

-- the heaviest constant
module _ (table : Table) (w : Sym → ℕ) where
  abbrev pub heavier : ℕ → Sym → ℕ
  heavier n f = if arity_of table f == 0 then max n (w f) else n

  one_more : (n : ℕ) (f : Sym) → n ≤ heavier n f
  one_more n f = go (arity_of table f == 0)
    where
      go : (b : Bool) → n ≤ (if b then max n (w f) else n)
      go true = grind arith
      go false = omega arith

  at_least : (fs : List Sym) (n : ℕ) → n ≤ fold heavier n fs
  at_least [] n = omega arith
  at_least (f ∷ fs) n = omega (arith, at_least fs (heavier n f), one_more n f)

  it_counts : (n : ℕ) (f : Sym) → arity_of table f ≡ 0 → w f ≤ heavier n f
  it_counts n f z = rw (eq-eqb (arity_of table f) 0 z) (greatest n (w f))
    where
      greatest : (a b : ℕ) → b ≤ max a b
      greatest a b = grind arith

  pub heaviest_least : (fs : List Sym) (n : ℕ) (f : Sym) → In fs f → arity_of table f ≡ 0 → w f ≤ fold heavier n fs
  heaviest_least [] n f i z = elim i [ ]
  heaviest_least (f ∷ fs) n _ in_front z = omega (arith, at_least fs (heavier n f), it_counts n f z)
  heaviest_least (g ∷ fs) n f (in_rest i) z = heaviest_least fs (heavier n g) f i z

  pub heaviest_most : (fs : List Sym) (n most : ℕ) → n ≤ most → ((f : Sym) → In fs f → w f ≤ most) → fold heavier n fs ≤ most
  heaviest_most [] n most h k = h
  heaviest_most (f ∷ fs) n most h k = heaviest_most fs (heavier n f) most (go (arity_of table f == 0) (k f in_front)) (λ g i. k g (in_rest i))
    where
      go : (b : Bool) → w f ≤ most → (if b then max n (w f) else n) ≤ most
      go true l = bounded n (w f) most h l
        where
          bounded : (a b c : ℕ) → a ≤ c → b ≤ c → max a b ≤ c
          bounded a b c p q = grind arith
      go false l = h
