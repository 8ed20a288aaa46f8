-- Equality up to brackets and order is reflexive, symmetric and transitive, and goes by the parts of the two terms.
use Rattle.std.proofs.Common.{◌≡◌, ◌+◌, ◌∙◌, ap, List, [], ◌∷◌, ◌++◌, refl, sym, subst, ◌⊎◌, inl, inr, arith}
use Rattle.uc_term.specs.declared.node.Sym.{Sym}
use Rattle.uc_term.specs.Tree.{Tree, var, app, Trees, none, more, list_of, count}
use Rattle.uc_order.specs.Laws.{pair_of}
use Rattle.uc_order.specs.Members.{In, in_front, in_rest}
use Rattle.uc_ac.specs.Reordered.{IsTaken, taken_first, taken_later, IsReordered, no_element, one_element}
use Rattle.uc_ac.specs.AcEqual.{parts, AcEqual, same_variable, same_head, same_parts, AreAcEqual, no_terms, and_terms}
use Rattle.uc_ac.proofs.Reordering.{Reordered-refl, Reordered-sym, Reordered-trans, Reordered-append}
use Rattle.uc_ac.proofs.Parts.{which_sym, parts-pair, parts-other, parts-single}

module _ (symbols : List Sym) where
  abbrev Eq : Tree → Tree → Type 0
  Eq = AcEqual symbols

  abbrev Eqs : List Tree → List Tree → Type 0
  Eqs = AreAcEqual symbols

  taken_eq : {x y : Tree} {xs rest ys : List Tree} → IsTaken x xs rest → Eq x y → Eqs rest ys → (zs : List Tree) × Eqs xs zs × IsTaken y zs ys
  taken_eq {y = y} {ys = ys} taken_first c cs = (y ∷ ys, and_terms c cs, taken_first)
  taken_eq (taken_later p) c (and_terms {t = z} d ds) = let r = taken_eq p c ds in (z ∷ r.0, and_terms d r.1, taken_later r.2)

  -- one list reordered and then one by one, or one by one and then the other list reordered
  pub reordered_eq : {us vs ws : List Tree} → IsReordered us vs → Eqs us ws → (zs : List Tree) × Eqs vs zs × IsReordered ws zs
  reordered_eq no_element no_terms = ([], no_terms, no_element)
  reordered_eq (one_element p r) (and_terms c cs) =
      let k = reordered_eq r cs in
      let t = taken_eq p c k.1 in
      (t.0, t.1, one_element t.2 k.2)

  -- as many terms
  pub counts : (ss ts : Trees) → Eqs (list_of ss) (list_of ts) → count ss ≡ count ts
  counts none none h = refl
  counts none (more t ts) h = elim h [ ]
  counts (more s ss) none h = elim h [ ]
  counts (more s ss) (more t ts) (and_terms e h) = ap (λ n. n + 1) (counts ss ts h)

  -- the parts are equal one by one after some reordering
  pub record EqualParts (f : Sym) (s t : Tree) : Type 0 where
    pub list : List Tree
    pub reordered : IsReordered (parts f t) list
    pub equal : Eqs (parts f s) list

  one_part : (f : Sym) (s t : Tree) → parts f s ≡ s ∷ [] → parts f t ≡ t ∷ [] → Eq s t → EqualParts f s t
  one_part f s t p q e = record { list = t ∷ []; reordered = subst (λ l. IsReordered l (t ∷ [])) (sym q) (Reordered-refl (t ∷ [])); equal = subst (λ l. Eqs l (t ∷ [])) (sym p) (and_terms e no_terms) }

  pub by_parts : (f : Sym) → In symbols f → (s t : Tree) → Eq s t → EqualParts f s t
  by_parts f i _ _ (same_variable {x = x}) = one_part f (var x) (var x) refl refl same_variable
  by_parts f i _ _ (same_head {f = g} {ss = ss} {ts = ts} n h) =
      let other : g ≡ f → count ss ≡ 2 → ⊥ = λ e two. n (subst (In symbols) (sym e) i, two) in
      one_part f (app g ss) (app g ts) (parts-single f g ss other) (parts-single f g ts (λ e two. other e (counts ss ts h ∙ two))) (same_head n h)
  by_parts f i _ _ (same_parts {f = g} {a = a} {b = b} {c = c} {d = d} {us = us} j p h) = go (which_sym g f)
    where
      go : (g ≡ f) ⊎ (g ≡ f → ⊥) → EqualParts f (pair_of g a b) (pair_of g c d)
      go (inl e) = subst (λ k. EqualParts k (pair_of g a b) (pair_of g c d)) e (record { list = us; reordered = p; equal = h })
      go (inr n) = one_part f (pair_of g a b) (pair_of g c d) (parts-other f g (more a (more b none)) n) (parts-other f g (more c (more d none)) n) (same_parts j p h)

  eqs-append : {xs ys us vs : List Tree} → Eqs xs ys → Eqs us vs → Eqs (xs ++ us) (ys ++ vs)
  eqs-append no_terms d = d
  eqs-append (and_terms e c) d = and_terms e (eqs-append c d)

  -- the parts of two terms that f puts together
  pub pair_parts : (f : Sym) → In symbols f → (s s' t t' : Tree) → Eq s s' → Eq t t' → EqualParts f (pair_of f s t) (pair_of f s' t')
  pair_parts f i s s' t t' d e =
      let a = by_parts f i s s' d in
      let b = by_parts f i t t' e in
      record {
        list = a.list ++ b.list;
        reordered = subst (λ l. IsReordered l (a.list ++ b.list)) (sym (parts-pair f s' t')) (Reordered-append a.reordered b.reordered);
        equal = subst (λ l. Eqs l (a.list ++ b.list)) (sym (parts-pair f s t)) (eqs-append a.equal b.equal);
      }

  -- it isn't in the list, where it is neither the first nor in the rest
  neither : (f g h : Sym) (list : List Sym) → h ≡ f → (g ≡ f → ⊥) → (In list f → ⊥) → In (g ∷ list) h → ⊥
  neither f g _ list e n m in_front = n e
  neither f g h list e n m (in_rest i) = m (subst (In list) e i)

  among_or_not : (f : Sym) (list : List Sym) → In list f ⊎ (In list f → ⊥)
  among_or_not f [] = inr (λ i. elim i [ ])
  among_or_not f (g ∷ list) = go (which_sym g f) (among_or_not f list)
    where
      go : (g ≡ f) ⊎ (g ≡ f → ⊥) → In list f ⊎ (In list f → ⊥) → In (g ∷ list) f ⊎ (In (g ∷ list) f → ⊥)
      go (inl e) rest = inl (subst (λ h. In (h ∷ list) f) (sym e) in_front)
      go (inr n) (inl i) = inl (in_rest i)
      go (inr n) (inr m) = inr (neither f g f list refl n m)

  mutual
    pub AcEqual-refl : (t : Tree) → Eq t t
    AcEqual-refl (var x) = same_variable
    AcEqual-refl (app f ts) = at_head f ts (AreAcEqual-refl ts) (among_or_not f symbols)

    at_head : (f : Sym) (ts : Trees) → Eqs (list_of ts) (list_of ts) → In symbols f ⊎ (In symbols f → ⊥) → Eq (app f ts) (app f ts)
    at_head f ts h (inr n) = same_head (λ b. n b.0) h
    at_head f none h (inl i) = same_head (λ b. absurd (omega (arith, b.1))) h
    at_head f (more s none) h (inl i) = same_head (λ b. absurd (omega (arith, b.1))) h
    at_head f (more s (more t none)) (and_terms d (and_terms e k)) (inl i) = let r = pair_parts f i s s t t d e in same_parts i r.reordered r.equal
    at_head f (more s (more t (more u us))) h (inl i) = same_head (λ b. absurd (omega (arith, b.1))) h

    AreAcEqual-refl : (ts : Trees) → Eqs (list_of ts) (list_of ts)
    AreAcEqual-refl none = no_terms
    AreAcEqual-refl (more t ts) = and_terms (AcEqual-refl t) (AreAcEqual-refl ts)

  mutual
    pub AcEqual-sym : (s t : Tree) → Eq s t → Eq t s
    AcEqual-sym _ _ same_variable = same_variable
    AcEqual-sym _ _ (same_head {ss = ss} {ts = ts} n h) = same_head (λ b. n (b.0, counts ss ts h ∙ b.1)) (AreAcEqual-sym (list_of ss) (list_of ts) h)
    AcEqual-sym _ _ (same_parts {f = f} {a = a} {b = b} {us = us} i p h) =
        let r = reordered_eq (Reordered-sym p) (AreAcEqual-sym (parts f (pair_of f a b)) us h) in
        same_parts i r.2 r.1

    AreAcEqual-sym : (ss ts : List Tree) → Eqs ss ts → Eqs ts ss
    AreAcEqual-sym _ _ no_terms = no_terms
    AreAcEqual-sym _ _ (and_terms {s = s} {t = t} {ss = ss} {ts = ts} e h) = and_terms (AcEqual-sym s t e) (AreAcEqual-sym ss ts h)

  mutual
    pub AcEqual-trans : (s t u : Tree) → Eq s t → Eq t u → Eq s u
    AcEqual-trans _ _ u same_variable d = d
    AcEqual-trans _ _ _ (same_head {f = f} {ss = ss} {ts = ts} n h) (same_head {ts = us} k d) = same_head n (AreAcEqual-trans (list_of ss) (list_of ts) (list_of us) h d)
    AcEqual-trans _ _ _ (same_head {ss = ss} {ts = ts} n h) (same_parts i p d) = absurd (n (i, counts ss ts h))
    AcEqual-trans _ _ _ (same_parts i p h) (same_head n d) = absurd (n (i, refl))
    AcEqual-trans _ _ _ (same_parts {f = f} {a = a} {b = b} {us = us} i p h) (same_parts j q d) =
        let r = reordered_eq p d in
        same_parts i (Reordered-trans q r.2) (AreAcEqual-trans (parts f (pair_of f a b)) us r.0 h r.1)

    pub AreAcEqual-trans : (ss ts us : List Tree) → Eqs ss ts → Eqs ts us → Eqs ss us
    AreAcEqual-trans _ _ _ no_terms d = d
    AreAcEqual-trans _ _ _ (and_terms {s = s} {t = t} {ss = ss} {ts = ts} e h) (and_terms {t = u} {ts = us} d k) = and_terms (AcEqual-trans s t u e d) (AreAcEqual-trans ss ts us h k)
