-- The Knuth-Bendix order is irreflexive and transitive, and contexts keep it and subterms fall under it.
use Rattle.std.proofs.Common.{◌≡◌, ℕ, ◌<◌, ◌≤◌, ◌==◌, refl, sym, ap, ap₂, ◌∙◌, subst, arith, ◌⊎◌, inl, inr, cond, append-nil, [], ◌∷◌, Bool}
use Rattle.std.proofs.lemmas.List.Sums.{sum_by-append}
use Rattle.uc_term.specs.declared.node.Sym.{Sym}
use Rattle.uc_term.specs.Tree.{Tree, var, app, Trees, none, more, count}
use Rattle.uc_term.specs.Variables.{variables, variables_all}
use Rattle.uc_term.specs.Within.{Within, at_root, under, WithinOne, at_first, at_later}
use Rattle.uc_order.specs.Laws.{Inside, inside, InsideOne, is_first, in_first_one, in_later_one}
use Rattle.uc_kbo.specs.Kbo.{Covers, Weighing, weight, weight_all, Tower, tower_last, tower_copy, Kbo, by_variables, by_tower, by_weight, by_head, by_args, FirstGreater, first_here, first_same, is_it, None}
use Rattle.uc_kbo.specs.Sums.{occurrences}

-- what the weights owe
pub record Admissible (w : Weighing) : Type 0 where
  pub some_weight : 0 < w.w0
  pub constants : (f : Sym) → w.w0 ≤ w.weight_of f 0
  pub light : (f : Sym) (n : ℕ) → w.weight_of f n ≡ 0 → n ≡ 1
  pub top : (f : Sym) (n : ℕ) → w.weight_of f n ≡ 0 → (g : Sym) (m : ℕ) → (w.rank g m < w.rank f n) ⊎ ((g ≡ f) × (m ≡ n))

pub Covers-trans : (test : ℕ → ℕ → Bool) (s t u : Tree) → Covers test s t → Covers test t u → Covers test s u
Covers-trans test s t u c d k = omega (arith, c k, d k)

module _ (w : Weighing) where
  abbrev pub Greater : Tree → Tree → Type 0
  Greater = Kbo w is_it None

  abbrev First : Trees → Trees → Type 0
  First = FirstGreater w is_it None

  mutual
    not_same : (test : ℕ → ℕ → Bool) (above : ℕ → ℕ → Type 0) → ((x : ℕ) → above x x → ⊥) → (t u : Tree) → Kbo w test above t u → t ≡ u → ⊥
    not_same test above irr (var x) (var y) (by_variables a) e = let same : x ≡ y = cc in irr x (let P : ℕ → Type 0 = above x in subst P (sym same) a)
    not_same test above irr t u (by_tower (tower_last z) d) e = cc
    not_same test above irr t u (by_tower (tower_copy z p) d) e = cc
    not_same test above irr t u (by_weight c l) e = absurd (omega (arith, ap (weight w) e))
    not_same test above irr (app f ts) (app g us) (by_head c k r) e =
        let same_head : f ≡ g = cc in
        let same_args : ts ≡ us = cc in
        absurd (omega (arith, ap₂ (λ h vs. w.rank h (count vs)) same_head same_args))
    not_same test above irr (app f ts) (app g us) (by_args c k n d) e = all_not_same test above irr ts us d cc

    all_not_same : (test : ℕ → ℕ → Bool) (above : ℕ → ℕ → Type 0) → ((x : ℕ) → above x x → ⊥) → (ts us : Trees) → FirstGreater w test above ts us → ts ≡ us → ⊥
    all_not_same test above irr none us d e = elim d [ ]
    all_not_same test above irr (more t ts) none d e = elim d [ ]
    all_not_same test above irr (more t ts) (more u us) (first_here a) e = not_same test above irr t u a cc
    all_not_same test above irr (more t ts) (more u us) (first_same d) e = all_not_same test above irr ts us d cc

  -- of any kind of variables
  pub irreflexive_by : (test : ℕ → ℕ → Bool) (above : ℕ → ℕ → Type 0) → ((x : ℕ) → above x x → ⊥) → (t : Tree) → Kbo w test above t t → ⊥
  irreflexive_by test above irr t l = not_same test above irr t t l refl

  pub irreflexive : (t : Tree) → Greater t t → ⊥
  irreflexive t l = irreflexive_by is_it None (λ x a. a) t l

  pub tower_weight : {s : Tree} {x : ℕ} → Tower w s x → weight w s ≡ w.w0
  tower_weight (tower_last z) = omega (arith, z)
  tower_weight (tower_copy z p) = omega (arith, z, tower_weight p)

  pub tower_variables : {s : Tree} {x : ℕ} → Tower w s x → variables s ≡ x ∷ []
  tower_variables (tower_last z) = refl
  tower_variables (tower_copy {t = t} z p) = append-nil (variables t) ∙ tower_variables p

  module _ (ok : Admissible w) where
    mutual
      pub heavy : (t : Tree) → w.w0 ≤ weight w t
      heavy (var x) = omega arith
      heavy (app f none) = omega (arith, ok.constants f)
      heavy (app f (more t ts)) = omega (arith, heavy t)

    var_least : (x : ℕ) (u : Tree) → Greater (var x) u → ⊥
    var_least x u (by_variables a) = a
    var_least x u (by_weight c l) = absurd (omega (arith, heavy u))
    var_least x u (by_tower p e) = elim p [ ]

    -- arguments that are one term, which is x or a tower over it
    abbrev OneTower : Trees → ℕ → Type 0
    OneTower none x = ⊥
    OneTower (more t none) x = (t ≡ var x) ⊎ Tower w t x
    OneTower (more t (more u us)) x = ⊥

    one_tower : (f : Sym) (ts : Trees) (x : ℕ) → Tower w (app f ts) x → (w.weight_of f 1 ≡ 0) × OneTower ts x
    one_tower f none x p = elim p [ ]
    one_tower f (more t none) x (tower_last z) = (z, inl refl)
    one_tower f (more t none) x (tower_copy z p) = (z, inr p)
    one_tower f (more t (more u us)) x p = elim p [ ]

    make_tower : (f : Sym) (s : Tree) (x : ℕ) → w.weight_of f 1 ≡ 0 → (s ≡ var x) ⊎ Tower w s x → Tower w (app f (more s none)) x
    make_tower f s x z (inl e) = subst (λ (t : Tree). Tower w (app f (more t none)) x) (sym e) (tower_last z)
    make_tower f s x z (inr p) = tower_copy z p

    onto_var : (s : Tree) (x : ℕ) → Greater s (var x) → weight w s ≡ w.w0 → Tower w s x
    onto_var s x (by_variables a) e = absurd a
    onto_var s x (by_tower p (inl q)) e = subst (λ (z : ℕ). Tower w s z) q p
    onto_var s x (by_tower p (inr a)) e = absurd a
    onto_var s x (by_weight c l) e = absurd (omega arith)

    covers_var : {t : Tree} {x : ℕ} → Tower w t x → Covers is_it t (var x)
    covers_var p k = let v = tower_variables p in omega (arith, ap (occurrences k) v)

    tower_head : (f : Sym) (ts : Trees) (x : ℕ) → Tower w (app f ts) x → w.weight_of f (count ts) ≡ 0
    tower_head f none x p = elim p [ ]
    tower_head f (more t none) x p = (one_tower f (more t none) x p).0
    tower_head f (more t (more u us)) x p = elim p [ ]

    not_over : (f g : Sym) (n m : ℕ) → w.weight_of g m ≡ 0 → w.rank g m < w.rank f n → ⊥
    not_over f g n m z r = elim (ok.top g m z f n) [ inl l ↦ absurd (omega arith) | inr e ↦ absurd (omega (arith, ap₂ w.rank e.0 e.1)) ]

    mutual
      pub transitive : (s t u : Tree) → Greater s t → Greater t u → Greater s u
      transitive s t u (by_variables a) q = absurd a
      transitive s t u (by_tower {x = x} p e) q = absurd (var_least x u q)
      transitive s t u (by_weight c l) (by_variables a) = absurd a
      transitive s t u (by_weight c l) (by_tower {x = x} {y = y} p (inl e)) = by_weight (Covers-trans is_it s t (var x) c (subst (λ (z : ℕ). Covers is_it t (var z)) e (covers_var p))) (omega (arith, tower_weight p))
      transitive s t u (by_weight c l) (by_tower p (inr a)) = absurd a
      transitive s t u (by_weight c l) (by_weight d k) = by_weight (Covers-trans is_it s t u c d) (omega arith)
      transitive s t u (by_weight c l) (by_head d e r) = by_weight (Covers-trans is_it s t u c d) (omega arith)
      transitive s t u (by_weight c l) (by_args d e n k) = by_weight (Covers-trans is_it s t u c d) (omega arith)
      transitive s t u (by_head {f = f} {g = g} {ss = ss} {ts = ts} c e r) (by_tower {y = y} p d) = absurd (not_over f g (count ss) (count ts) (tower_head g ts y p) r)
      transitive s t u (by_head c e r) (by_weight d k) = by_weight (Covers-trans is_it s t u c d) (omega arith)
      transitive s t u (by_head c e r) (by_head d f q) = by_head (Covers-trans is_it s t u c d) (e ∙ f) (omega arith)
      transitive s t u (by_head {f = f} {ss = ss} c e r) (by_args {f = g} {ss = ts} {ts = us} d q n l) = by_head (Covers-trans is_it s t u c d) (e ∙ q) (omega (arith, ap (w.rank g) n))
      transitive s t u (by_args {f = f} {ss = ss} {ts = ts} c e n k) (by_tower {x = x} {y = y} p d) = by_tower (tower_args f ss ts y n (e ∙ tower_weight p) (tower_head f ts y p) k (one_tower f ts y p)) d
      transitive s t u (by_args c e n k) (by_weight d l) = by_weight (Covers-trans is_it s t u c d) (omega arith)
      transitive s t u (by_args {f = f} {ss = ss} {ts = ts} c e n k) (by_head {g = g} {ts = us} d q r) = by_head (Covers-trans is_it s t u c d) (e ∙ q) (omega (arith, ap (w.rank f) n))
      transitive s t u (by_args c e n k) (by_args d q m l) = by_args (Covers-trans is_it s t u c d) (e ∙ q) (n ∙ m) (differs _ _ _ k l)

      differs : (ss ts us : Trees) → First ss ts → First ts us → First ss us
      differs ss ts us (first_here k) (first_here l) = first_here (transitive _ _ _ k l)
      differs ss ts us (first_here k) (first_same d) = first_here k
      differs ss ts us (first_same c) (first_here l) = first_here l
      differs ss ts us (first_same c) (first_same d) = first_same (differs _ _ _ c d)

      tower_args : (f : Sym) (ss ts : Trees) (x : ℕ) → count ss ≡ count ts → weight w (app f ss) ≡ w.w0 → w.weight_of f (count ts) ≡ 0 → First ss ts → (w.weight_of f 1 ≡ 0) × OneTower ts x → Tower w (app f ss) x
      tower_args f none ts x n e z d o = elim d [ ]
      tower_args f (more s ss) none x n e z d o = elim d [ ]
      tower_args f (more s ss) (more t (more v vs)) x n e z d o = absurd o.1
      tower_args f (more s (more r rs)) (more t none) x n e z d o = absurd (omega arith)
      tower_args f (more s none) (more t none) x n e z (first_same d) o = elim d [ ]
      tower_args f (more s none) (more t none) x n e z (first_here k) (zf, inl q) =
          make_tower f s x zf (inr (onto_var s x (let P : Tree → Type 0 = Greater s in subst P q k) (omega (arith, zf))))
      tower_args f (more s none) (more t none) x n e z (first_here k) (zf, inr p) =
          make_tower f s x zf (inr (onto_var s x (transitive s t (var x) k (by_tower p (inl refl))) (omega (arith, zf))))

    -- a light symbol raises every term
    light_covers : (f : Sym) (u : Tree) → Covers is_it (app f (more u none)) u
    light_covers f u k = omega (arith, ap (occurrences k) (append-nil (variables u)))

    light_head : (f g : Sym) (us : Trees) → w.weight_of f 1 ≡ 0 → w.rank g (count us) < w.rank f 1 → Greater (app f (more (app g us) none)) (app g us)
    light_head f g us z r = by_head {ss = more (app g us) none} {ts = us} (light_covers f (app g us)) (omega (arith, z)) r

    light_same : (f g : Sym) (v : Tree) → w.weight_of f 1 ≡ 0 → g ≡ f → Greater (app f (more v none)) v → Greater (app f (more (app g (more v none)) none)) (app g (more v none))
    light_same f g v z e k =
        let P : Sym → Type 0 = λ h. Greater (app f (more (app h (more v none)) none)) (app h (more v none)) in
        subst P (sym e) (by_args (light_covers f (app f (more v none))) (omega (arith, z)) refl (first_here k))

    pub above_light : (f : Sym) (u : Tree) → w.weight_of f 1 ≡ 0 → Greater (app f (more u none)) u
    above_light f (var x) z = by_tower (tower_last z) (inl refl)
    above_light f (app g none) z = elim (ok.top f 1 z g 0) [ inl r ↦ light_head f g none z r | inr e ↦ absurd (omega (arith, e.1)) ]
    above_light f (app g (more v (more r rs))) z = elim (ok.top f 1 z g (count (more v (more r rs)))) [ inl q ↦ light_head f g (more v (more r rs)) z q | inr e ↦ absurd (omega (arith, e.1)) ]
    above_light f (app g (more v none)) z = elim (ok.top f 1 z g (count (more v none))) [ inl q ↦ light_head f g (more v none) z q | inr e ↦ light_same f g v z e.0 (above_light f v z) ]

    -- greater in one argument
    covers : (s t : Tree) → Greater s t → Covers is_it s t
    covers s t (by_variables a) = absurd a
    covers s t (by_tower p (inl e)) = subst (λ (z : ℕ). Covers is_it s (var z)) e (covers_var p)
    covers s t (by_tower p (inr a)) = absurd a
    covers s t (by_weight c l) = c
    covers s t (by_head c e r) = c
    covers s t (by_args c e n d) = c

    pub lighter : (s t : Tree) → Greater s t → weight w t ≤ weight w s
    lighter s t (by_variables a) = absurd a
    lighter s t (by_tower p e) = omega (arith, tower_weight p)
    lighter s t (by_weight c l) = omega arith
    lighter s t (by_head c e r) = omega arith
    lighter s t (by_args c e n d) = omega arith

    record Once (ss ts : Trees) : Type 0 where
      covered : (k : ℕ) → occurrences k (variables_all ts) ≤ occurrences k (variables_all ss)
      weighed : weight_all w ts ≤ weight_all w ss
      as_many : count ss ≡ count ts
      less : First ss ts

    first_once : (s t : Tree) (us : Trees) → Greater s t → Once (more s us) (more t us)
    first_once s t us k = record {
      covered = λ x. omega (arith, covers s t k x, sum_by-append (λ y. cond (y == x) 1 0) (variables s) (variables_all us), sum_by-append (λ y. cond (y == x) 1 0) (variables t) (variables_all us));
      weighed = omega (arith, lighter s t k);
      as_many = refl;
      less = first_here k;
    }

    later_once : (s : Tree) (ss ts : Trees) → Once ss ts → Once (more s ss) (more s ts)
    later_once s ss ts o = record {
      covered = λ x. omega (arith, o.covered x, sum_by-append (λ y. cond (y == x) 1 0) (variables s) (variables_all ss), sum_by-append (λ y. cond (y == x) 1 0) (variables s) (variables_all ts));
      weighed = omega (arith, o.weighed);
      as_many = omega (arith, o.as_many);
      less = first_same o.less;
    }

    less_or_equal : (a b : ℕ) → b ≤ a → (b < a) ⊎ (a ≡ b)
    less_or_equal a b h = grind arith

    over : (f : Sym) (ss ts : Trees) → Once ss ts → (weight w (app f ts) < weight w (app f ss)) ⊎ (weight w (app f ss) ≡ weight w (app f ts)) → Greater (app f ss) (app f ts)
    over f ss ts o (inl l) = by_weight o.covered l
    over f ss ts o (inr e) = by_args o.covered e o.as_many o.less

    in_context : (f : Sym) (ss ts : Trees) → Once ss ts → Greater (app f ss) (app f ts)
    in_context f ss ts o =
        let same = ap (w.weight_of f) o.as_many in
        over f ss ts o (less_or_equal (weight w (app f ss)) (weight w (app f ts)) (omega (arith, o.weighed)))

    mutual
      pub contexts : (s t : Tree) → Within Greater s t → Greater s t
      contexts s t (at_root l) = l
      contexts s t (under {f = f} {us = us} {vs = vs} o) = in_context f us vs (once o)

      once : {ss ts : Trees} → WithinOne Greater ss ts → Once ss ts
      once (at_first {u = u} {v = v} {ts = ts} s) = first_once u v ts (contexts u v s)
      once (at_later {t = t} {us = us} {vs = vs} o) = later_once t us vs (once o)

    -- an argument falls under its term
    record Piece (ss : Trees) (t : Tree) : Type 0 where
      covered : (k : ℕ) → occurrences k (variables t) ≤ occurrences k (variables_all ss)
      weighed : weight w t ≤ weight_all w ss
      alone : count ss ≡ 1 → ss ≡ more t none

    no_terms : (ts : Trees) → count ts ≡ 0 → ts ≡ none
    no_terms none e = refl
    no_terms (more t ts) e = absurd (omega arith)

    piece_first : (t : Tree) (ts : Trees) → Piece (more t ts) t
    piece_first t ts = record {
      covered = λ x. omega (arith, sum_by-append (λ y. cond (y == x) 1 0) (variables t) (variables_all ts));
      weighed = omega arith;
      alone = λ e. ap (more t) (no_terms ts (omega arith));
    }

    piece_later : (s : Tree) (ts : Trees) (t : Tree) → 0 < count ts → Piece ts t → Piece (more s ts) t
    piece_later s ts t some p = record {
      covered = λ x. omega (arith, p.covered x, sum_by-append (λ y. cond (y == x) 1 0) (variables s) (variables_all ts));
      weighed = omega (arith, p.weighed);
      alone = λ e. absurd (omega arith);
    }

    over_piece : (f : Sym) (ss : Trees) (t : Tree) → Piece ss t → (weight w t < weight w (app f ss)) ⊎ (weight w (app f ss) ≡ weight w t) → Greater (app f ss) t
    over_piece f ss t p (inl l) = by_weight p.covered l
    over_piece f ss t p (inr e) =
        let z : w.weight_of f (count ss) ≡ 0 = omega (arith, p.weighed) in
        let one : count ss ≡ 1 = ok.light f (count ss) z in
        let P : Trees → Type 0 = λ rs. Greater (app f rs) t in
        subst P (sym (p.alone one)) (above_light f t (ap (w.weight_of f) (sym one) ∙ z))

    argument_less : (f : Sym) (ss : Trees) (t : Tree) → Piece ss t → Greater (app f ss) t
    argument_less f ss t p = over_piece f ss t p (less_or_equal (weight w (app f ss)) (weight w t) (omega (arith, p.weighed)))

    some_inside : (ss : Trees) (t : Tree) → InsideOne ss t → 0 < count ss
    some_inside none t i = elim i [ ]
    some_inside (more s ss) t i = omega arith

    mutual
      pub subterms : (s t : Tree) → Inside s t → Greater s t
      subterms (var x) t i = elim i [ ]
      subterms (app f ss) t (inside i) = inside_all ss t i (λ u p. argument_less f ss u p)

      -- an argument that is t, or has t inside
      inside_all : (ss : Trees) (t : Tree) {v : Tree} → InsideOne ss t → ((u : Tree) → Piece ss u → Greater v u) → Greater v t
      inside_all none t i h = elim i [ ]
      inside_all (more s ss) t is_first h = h s (piece_first s ss)
      inside_all (more s ss) t {v = v} (in_first_one i) h = transitive v s t (h s (piece_first s ss)) (subterms s t i)
      inside_all (more s ss) t {v = v} (in_later_one i) h = inside_all ss t {v = v} i (λ u p. h u (piece_later s ss u (some_inside ss t i) p))
