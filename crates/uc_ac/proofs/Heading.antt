-- The symbols that stand with two arguments in two terms, from their nodes.
use Rattle.std.proofs.Common.{◌≡◌, ℕ, zero, suc, ◌+◌, ◌<◌, ◌≤◌, ◌==◌, Bool, true, false, List, [], ◌∷◌, ◌++◌, length, drop, get_or, if◌then◌else◌, refl, sym, ap, ◌∙◌, subst, arith, ◌⊎◌, inl, inr, append_assoc, append-nil, nat_cmp, eqb}
use Rattle.std.specs.List.{Contains, dedup}
use Rattle.std.specs.List.Sorted.{IsSorted, IsPermutation}
use Rattle.std.proofs.lemmas.Bool.{eqb-true, eq-eqb}
use Rattle.std.proofs.lemmas.List.Sorted.{Contains-permutation, IsPermutation-sym}
use Rattle.std.proofs.lemmas.List.Kept.{Contains-dedup_nat, Contains-from_dedup}
use Rattle.std.proofs.lemmas.Map.Keys.{IsStrictlyIncreasing-dedup}
use Rattle.uc_term.specs.declared.node.Sym.{Sym}
use Rattle.uc_term.specs.declared.node.Node.{Node}
use Rattle.uc_term.specs.declared.node.Node.TheVariants.{Var, App}
use Rattle.uc_term.specs.Tree.{Tree, var, app, Trees, none, more, count}
use Rattle.uc_term.specs.Flat.{flat, flat_all}
use Rattle.uc_order.specs.Members.{In, in_front, in_rest}
use Rattle.uc_ac.specs.Joining.{Heads, heads_it, heads_below, HeadsOne, heads_first, heads_later, AreBinaryIn}
use Rattle.uc_ac.specs.Found.{binary_heads}
use Rattle.uc_ac.proofs.Parts.{same_sym}
use Rattle.uc_ac.proofs.Found.{past}
use Rattle.uc_ac.proofs.Sorting.{drop_cons}

pub In-cons : {A : Type 0} (x y : A) (xs : List A) → In (x ∷ xs) y → (x ≡ y) ⊎ In xs y
In-cons x _ xs in_front = inl refl
In-cons x y xs (in_rest i) = inr i

pub in_first : {A : Type 0} (x y : A) (xs : List A) → x ≡ y → In (x ∷ xs) y
in_first x y xs e = subst (λ z. In (x ∷ xs) z) e in_front

In-append : {A : Type 0} (xs ys : List A) (y : A) → In (xs ++ ys) y → In xs y ⊎ In ys y
In-append [] ys y i = inr i
In-append (x ∷ xs) ys y i = go (In-cons x y (xs ++ ys) i) (In-append xs ys y)
  where
    later : In xs y ⊎ In ys y → In (x ∷ xs) y ⊎ In ys y
    later (inl k) = inl (in_rest k)
    later (inr k) = inr k

    go : (x ≡ y) ⊎ In (xs ++ ys) y → (In (xs ++ ys) y → In xs y ⊎ In ys y) → In (x ∷ xs) y ⊎ In ys y
    go (inl e) rest = inl (in_first x y xs e)
    go (inr j) rest = later (rest j)

In-left : {A : Type 0} {xs : List A} (ys : List A) {y : A} → In xs y → In (xs ++ ys) y
In-left ys in_front = in_front
In-left ys (in_rest i) = in_rest (In-left ys i)

In-right : {A : Type 0} (xs : List A) {ys : List A} {y : A} → In ys y → In (xs ++ ys) y
In-right [] i = i
In-right (x ∷ xs) i = in_rest (In-right xs i)

contains_in : (xs : List ℕ) (x : ℕ) → Contains xs x → In xs x
contains_in [] x (k, h, e) = absurd (omega arith)
contains_in (y ∷ ys) x (zero, h, e) = subst (λ z. In (y ∷ ys) z) e in_front
contains_in (y ∷ ys) x (suc k, h, e) = in_rest (contains_in ys x (k, omega arith, e))

in_contains : (xs : List ℕ) (x : ℕ) → In xs x → Contains xs x
in_contains [] x i = elim i [ ]
in_contains (_ ∷ xs) x in_front = (0, omega arith, refl)
in_contains (y ∷ xs) x (in_rest i) = let c = in_contains xs x i in (suc c.0, (let h = c.1 in omega arith), c.2)

abbrev headed : Bool → ℕ → List ℕ → List ℕ
headed b g ns = if b then g ∷ ns else ns

headed-append : (b : Bool) (g : ℕ) (ns ms : List ℕ) → headed b g ns ++ ms ≡ headed b g (ns ++ ms)
headed-append true g ns ms = refl
headed-append false g ns ms = refl

heads-append : (ns ms : List Node) → binary_heads (ns ++ ms) ≡ binary_heads ns ++ binary_heads ms
heads-append [] ms = refl
heads-append (Var x ∷ ns) ms = heads-append ns ms
heads-append (App g n ∷ ns) ms = ap (headed (n == 2) g.0) (heads-append ns ms) ∙ sym (headed-append (n == 2) g.0 (binary_heads ns) (binary_heads ms))

two_heads : (f g : Sym) (ts : Trees) → count ts ≡ 2 → g.0 ≡ f.0 → Heads f (app g ts)
two_heads f g none e h = absurd (omega arith)
two_heads f g (more a none) e h = absurd (omega arith)
two_heads f g (more a (more b none)) e h = subst (λ (k : Sym). Heads f (app k (more a (more b none)))) (sym (same_sym g f h)) heads_it
two_heads f g (more a (more b (more c ts))) e h = absurd (omega arith)

module _ (f : Sym) where
  mutual
    pub listed_heads : (t : Tree) → In (binary_heads (flat t)) f.0 → Heads f t
    listed_heads (var x) i = elim i [ ]
    listed_heads (app g ts) i = go (count ts == 2) refl i (listed_one ts)
      where
        either : count ts ≡ 2 → (g.0 ≡ f.0) ⊎ In (binary_heads (flat_all ts)) f.0 → (In (binary_heads (flat_all ts)) f.0 → HeadsOne f ts) → Heads f (app g ts)
        either two (inl e) below = two_heads f g ts two e
        either two (inr j) below = heads_below (below j)

        go : (b : Bool) → (count ts == 2) ≡ b → In (headed b g.0 (binary_heads (flat_all ts))) f.0 → (In (binary_heads (flat_all ts)) f.0 → HeadsOne f ts) → Heads f (app g ts)
        go true e j below = either (eqb-true (count ts) 2 e) (In-cons g.0 f.0 (binary_heads (flat_all ts)) j) below
        go false e j below = heads_below (below j)

    listed_one : (ts : Trees) → In (binary_heads (flat_all ts)) f.0 → HeadsOne f ts
    listed_one none i = elim i [ ]
    listed_one (more t ts) i = go (In-append (binary_heads (flat t)) (binary_heads (flat_all ts)) f.0 (subst (λ l. In l f.0) (heads-append (flat t) (flat_all ts)) i)) (listed_heads t) (listed_one ts)
      where
        go : In (binary_heads (flat t)) f.0 ⊎ In (binary_heads (flat_all ts)) f.0 → (In (binary_heads (flat t)) f.0 → Heads f t) → (In (binary_heads (flat_all ts)) f.0 → HeadsOne f ts) → HeadsOne f (more t ts)
        go (inl j) here later = heads_first (here j)
        go (inr j) here later = heads_later (later j)

  in_headed : (b : Bool) (g : ℕ) (ns : List ℕ) → In ns f.0 → In (headed b g ns) f.0
  in_headed true g ns i = in_rest i
  in_headed false g ns i = i

  mutual
    pub heads_listed : (t : Tree) → Heads f t → In (binary_heads (flat t)) f.0
    heads_listed _ heads_it = in_front
    heads_listed _ (heads_below {g = g} {ts = ts} h) = in_headed (count ts == 2) g.0 (binary_heads (flat_all ts)) (one_listed ts h)

    one_listed : (ts : Trees) → HeadsOne f ts → In (binary_heads (flat_all ts)) f.0
    one_listed _ (heads_first {t = t} {ts = ts} h) = subst (λ l. In l f.0) (sym (heads-append (flat t) (flat_all ts))) (In-left (binary_heads (flat_all ts)) (heads_listed t h))
    one_listed _ (heads_later {t = t} {ts = ts} h) = subst (λ l. In l f.0) (sym (heads-append (flat t) (flat_all ts))) (In-right (binary_heads (flat t)) (one_listed ts h))

-- all of both, sorted, and each left once
pub binary_are : (s t : Tree) (raw sorted left : List ℕ) → raw ≡ binary_heads (flat s) ++ binary_heads (flat t) → IsPermutation raw sorted → IsSorted nat_cmp sorted → left ≡ dedup eqb sorted → AreBinaryIn s t left
binary_are s t raw sorted left r p o d = subst (AreBinaryIn s t) (sym d) (record { rising = IsStrictlyIncreasing-dedup sorted o; each = λ f. (forth f, back f) })
  where
    forth : (f : Sym) → In (dedup eqb sorted) f.0 → Heads f s ⊎ Heads f t
    forth f i =
        let c : Contains raw f.0 = Contains-permutation sorted raw f.0 (IsPermutation-sym raw sorted p) (Contains-from_dedup eqb sorted f.0 (in_contains (dedup eqb sorted) f.0 i)) in
        elim (In-append (binary_heads (flat s)) (binary_heads (flat t)) f.0 (contains_in (binary_heads (flat s) ++ binary_heads (flat t)) f.0 (subst (λ xs. Contains xs f.0) r c))) [ inl a ↦ inl (listed_heads f s a) | inr b ↦ inr (listed_heads f t b) ]

    listed : (x : ℕ) → In (binary_heads (flat s) ++ binary_heads (flat t)) x → In (dedup eqb sorted) x
    listed x i = contains_in (dedup eqb sorted) x (Contains-dedup_nat sorted x (Contains-permutation raw sorted x p (subst (λ xs. Contains xs x) (sym r) (in_contains (binary_heads (flat s) ++ binary_heads (flat t)) x i))))

    back : (f : Sym) → Heads f s ⊎ Heads f t → In (dedup eqb sorted) f.0
    back f (inl h) = listed f.0 (In-left (binary_heads (flat t)) (heads_listed f s h))
    back f (inr h) = listed f.0 (In-right (binary_heads (flat s)) (heads_listed f t h))

-- one more node
pub heads_next : (whole now new : List ℕ) (ns : List Node) (i : ℕ) (d : Node) → i < length ns → whole ≡ now ++ binary_heads (drop i ns) → new ≡ now ++ binary_heads (get_or ns i d ∷ []) → whole ≡ new ++ binary_heads (drop (i + 1) ns)
heads_next whole now new ns i d h e is =
    let rest = drop (i + 1) ns in
    let n = get_or ns i d in
    e ∙ ap (λ l. now ++ l) (ap binary_heads (drop_cons ns i d h) ∙ heads-append (n ∷ []) rest) ∙ sym (append_assoc now (binary_heads (n ∷ [])) (binary_heads rest)) ∙ ap (λ l. l ++ binary_heads rest) (sym is)

pub heads_end : (whole now : List ℕ) (ns : List Node) (i : ℕ) → length ns ≤ i → whole ≡ now ++ binary_heads (drop i ns) → now ≡ whole
heads_end whole now ns i h e = sym (e ∙ ap (λ l. now ++ binary_heads l) (past ns i h) ∙ append-nil now)

pub two_head : (f : Sym) (n : ℕ) → n ≡ 2 → binary_heads (App f n ∷ []) ≡ f.0 ∷ []
two_head f n e = ap (λ b. headed b f.0 []) (eq-eqb n 2 e)

pub other_head : (f : Sym) (n : ℕ) → (n ≡ 2 → ⊥) → binary_heads (App f n ∷ []) ≡ []
other_head f n k = go (n == 2) refl
  where
    go : (b : Bool) → (n == 2) ≡ b → headed b f.0 [] ≡ []
    go true e = absurd (k (eqb-true n 2 e))
    go false e = refl
