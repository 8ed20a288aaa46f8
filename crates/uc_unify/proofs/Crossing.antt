-- What a walk over two terms has found out when it stands before the terms ss of the one and ts of the other.
use Rattle.std.proofs.Common.{◌≡◌, ℕ, suc, ◌+◌, ◌<◌, ◌≤◌, ◌-◌, ◌==◌, List, [], ◌∷◌, ◌++◌, Bool, true, false, Some, None, if◌then◌else◌, unwrap_or, get_or, slice_get, take, drop, length, refl, sym, ap, ap₂, ◌∙◌, subst, arith, ◌⊎◌, inl, inr}
use Rattle.uc_term.specs.declared.node.Sym.{Sym}
use Rattle.uc_term.specs.declared.node.Node.{Node}
use Rattle.uc_term.specs.declared.node.Node.TheVariants.{Var, App}
use Rattle.uc_term.specs.Tree.{Tree, var, app, Trees, none, more, count, nodes, apply, apply_all}
use Rattle.uc_term.specs.Flat.{flat, flat_all, trees_of, tree_of, IsWhole}
use Rattle.uc_term.specs.Subst.{found, image, IsIdempotent}
use Rattle.uc_term.specs.Variables.{Occurs, OccursIn, is_itself, in_args, in_first, in_later}
use Rattle.uc_term.proofs.Terms.{whole_one, apply-var}
use Rattle.uc_term.proofs.Agree.{same_if}
use Rattle.uc_term.proofs.Ahead.{join, count-join}
use Rattle.uc_term.proofs.Gets.{get-append_left, get-append_right}
use Rattle.uc_term.proofs.Joins.{apply_all-join, count-apply_all, join_cancel, opened_at, var_at, place_within, trees_of-end, trees_of-whole}
use Rattle.uc_term.proofs.Parts.{split}
use Rattle.uc_term.proofs.Pairs.{found_kept, found_past, found_here, found_pushed, known, agrees_image}
use Rattle.uc_unify.specs.Unifiers.{IsMostGeneral, HasNoUnifier}
use Rattle.uc_unify.specs.Extension.{IsBound}
use Rattle.uc_unify.specs.Walking.{Meets, AreReduced, ReducedFrom, IsReducedTo}

abbrev Pairs : Type 0
Pairs = List (ℕ × Tree)

-- a new pair asks for one more instance
module _ (σ : ℕ → Tree) (ps : Pairs) (x : ℕ) (u : Tree) where
  meets_pushed : found ps x ≡ None → Meets σ (ps ++ (x, u) ∷ []) → Meets σ ps × (σ x ≡ apply σ u)
  meets_pushed n m = (λ y t e. m y t (found_kept ps ((x, u) ∷ []) y t e), m x u (found_past ps ((x, u) ∷ []) x n ∙ found_here x u []))

  meets_push : Meets σ ps → σ x ≡ apply σ u → Meets σ (ps ++ (x, u) ∷ [])
  meets_push m e y t f = go (found_pushed ps x y u t f)
    where
      go : (found ps y ≡ Some t) ⊎ ((x ≡ y) × (u ≡ t)) → σ y ≡ apply σ t
      go (inl h) = m y t h
      go (inr h) = ap σ (sym h.0) ∙ (e ∙ ap (apply σ) h.1)

-- the terms may change their sides
turned : (s t : Tree) (ss ts : Trees) (now : Pairs) → AreReduced s t ss ts now → AreReduced t s ts ss now
turned s t ss ts now g = record {
  counts = sym g.counts;
  only = λ σ m e. sym (g.only σ m (sym e));
  each = λ σ e. (let r = g.each σ (sym e) in (r.0, sym r.1));
}

module _ (s t : Tree) where
  reduced_start : AreReduced s t (more s none) (more t none) []
  reduced_start = record {
    counts = refl;
    only = λ σ m e. cc;
    each = λ σ e. ((λ x u f. absurd cc), ap (λ v. more v none) e);
  }

  reduced_heads : (f : Sym) (us bs cs ds : Trees) (now : Pairs) → count us ≡ count cs → AreReduced s t (more (app f us) bs) (more (app f cs) ds) now → AreReduced s t (join us bs) (join cs ds) now
  reduced_heads f us bs cs ds now c g = record {
    counts = omega (arith, count-join us bs, count-join cs ds, g.counts);
    only = λ σ m e. g.only σ m (parts σ e);
    each = λ σ e. (let r = g.each σ e in (r.0, whole σ r.1));
  }
    where
      parts : (σ : ℕ → Tree) → apply_all σ (join us bs) ≡ apply_all σ (join cs ds) → apply_all σ (more (app f us) bs) ≡ apply_all σ (more (app f cs) ds)
      parts σ e =
          let r = join_cancel (apply_all σ us) (apply_all σ bs) (apply_all σ cs) (apply_all σ ds) (count-apply_all σ us ∙ c ∙ sym (count-apply_all σ cs)) (sym (apply_all-join σ us bs) ∙ e ∙ apply_all-join σ cs ds) in
          ap₂ (λ x y. more (app f x) y) r.0 r.1

      whole : (σ : ℕ → Tree) → apply_all σ (more (app f us) bs) ≡ apply_all σ (more (app f cs) ds) → apply_all σ (join us bs) ≡ apply_all σ (join cs ds)
      whole σ e =
          let front : apply_all σ us ≡ apply_all σ cs = cc in
          let rest : apply_all σ bs ≡ apply_all σ ds = cc in
          apply_all-join σ us bs ∙ ap₂ join front rest ∙ sym (apply_all-join σ cs ds)

  reduced_clash : (f g : Sym) (us bs cs ds : Trees) (now : Pairs) → (f ≡ g → count us ≡ count cs → ⊥) → AreReduced s t (more (app f us) bs) (more (app g cs) ds) now → HasNoUnifier s t
  reduced_clash f g us bs cs ds now n a σ e =
      let r = (a.each σ e).1 in
      let head : f ≡ g = cc in
      let args : apply_all σ us ≡ apply_all σ cs = cc in
      n head (sym (count-apply_all σ us) ∙ ap count args ∙ count-apply_all σ cs)

  reduced_same : (x : ℕ) (bs ds : Trees) (now : Pairs) → AreReduced s t (more (var x) bs) (more (var x) ds) now → AreReduced s t bs ds now
  reduced_same x bs ds now g = record {
    counts = omega (arith, g.counts);
    only = λ σ m e. g.only σ m (ap (more (σ x)) e);
    each = λ σ e. (let r = g.each σ e in (r.0, tail σ r.1));
  }
    where
      tail : (σ : ℕ → Tree) → apply_all σ (more (var x) bs) ≡ apply_all σ (more (var x) ds) → apply_all σ bs ≡ apply_all σ ds
      tail σ e = cc

  reduced_known : (x : ℕ) (bs : Trees) (u : Tree) (ds : Trees) (now : Pairs) → found now x ≡ Some u → AreReduced s t (more (var x) bs) (more u ds) now → AreReduced s t bs ds now
  reduced_known x bs u ds now f g = record {
    counts = omega (arith, g.counts);
    only = λ σ m e. g.only σ m (ap₂ more (m x u f) e);
    each = λ σ e. (let r = g.each σ e in (r.0, tail σ r.1));
  }
    where
      tail : (σ : ℕ → Tree) → apply_all σ (more (var x) bs) ≡ apply_all σ (more u ds) → apply_all σ bs ≡ apply_all σ ds
      tail σ e = cc

  reduced_new : (x : ℕ) (bs : Trees) (u : Tree) (ds : Trees) (now : Pairs) → found now x ≡ None → AreReduced s t (more (var x) bs) (more u ds) now → AreReduced s t bs ds (now ++ (x, u) ∷ [])
  reduced_new x bs u ds now f g = record {
    counts = omega (arith, g.counts);
    only = λ σ m e. (let r = meets_pushed σ now x u f m in g.only σ r.0 (ap₂ more r.1 e));
    each = λ σ e. (let r = g.each σ e in (meets_push σ now x u r.0 (head σ r.1), tail σ r.1));
  }
    where
      head : (σ : ℕ → Tree) → apply_all σ (more (var x) bs) ≡ apply_all σ (more u ds) → σ x ≡ apply σ u
      head σ e = cc

      tail : (σ : ℕ → Tree) → apply_all σ (more (var x) bs) ≡ apply_all σ (more u ds) → apply_all σ bs ≡ apply_all σ ds
      tail σ e = cc

  reduced_bound : (x : ℕ) (bs : Trees) (u : Tree) (ds : Trees) (now new : Pairs) → IsBound x u now new true → AreReduced s t (more (var x) bs) (more u ds) now → AreReduced s t bs ds new
  reduced_bound x bs u ds now new (inl b) g = subst (AreReduced s t bs ds) (sym b.1) (reduced_known x bs u ds now b.0 g)
  reduced_bound x bs u ds now new (inr b) g = subst (AreReduced s t bs ds) (sym b.1) (reduced_new x bs u ds now b.0 g)

-- the same at places of the two flat lists
module _ (ss ts : List Node) (ws : IsWhole ss) (wt : IsWhole ts) where
  pub at_start : ReducedFrom ss ts 0 0 []
  at_start = rw (trees_of-whole ss ws, trees_of-whole ts wt) (reduced_start (tree_of ss) (tree_of ts))

  none_left : (us : Trees) → 0 ≡ count us → us ≡ none
  none_left none e = refl
  none_left (more u us) e = absurd (omega arith)

  pub at_end : (i j : ℕ) (now : Pairs) → length ss ≤ i → ReducedFrom ss ts i j now → IsReducedTo (tree_of ss) (tree_of ts) now
  at_end i j now h g =
      let left : trees_of (drop i ss) ≡ none = trees_of-end ss i h in
      let right : trees_of (drop j ts) ≡ none = none_left (trees_of (drop j ts)) (sym (ap count left) ∙ g.counts) in
      record {
        only = λ σ m. g.only σ m (ap (apply_all σ) left ∙ sym (ap (apply_all σ) right));
        each = λ σ e. (g.each σ e).0;
      }

  module _ (i j : ℕ) (now : Pairs) (d : Node) (h : i < length ss) (g : ReducedFrom ss ts i j now) where
    some_left : 0 < count (trees_of (drop i ss))
    some_left =
        let p = split ss i (i + nodes (tree_of (drop i ss))) (whole_one ss ws) h refl in
        omega (arith, ap count p.trees)

    pub within : j < length ts
    within = place_within ts j (count (trees_of (drop i ss))) (sym g.counts) some_left

    pub at_same : (x : ℕ) → get_or ss i d ≡ Var x → get_or ts j d ≡ Var x → ReducedFrom ss ts (i + 1) (j + 1) now
    at_same x e k = reduced_same (tree_of ss) (tree_of ts) x (trees_of (drop (i + 1) ss)) (trees_of (drop (j + 1) ts)) now (rw (var_at ss i x d h e, var_at ts j x d within k) at g)

    pub at_var : (x : ℕ) → get_or ss i d ≡ Var x → (to : ℕ) → to ≡ j + nodes (tree_of (drop j ts)) → (new : Pairs) → IsBound x (tree_of (take (to - j) (drop j ts))) now new true → ReducedFrom ss ts (i + 1) to new
    at_var x e to to_is new b =
        let p = split ts j to (whole_one ts wt) within to_is in
        reduced_bound (tree_of ss) (tree_of ts) x (trees_of (drop (i + 1) ss)) (tree_of (take (to - j) (drop j ts))) (trees_of (drop to ts)) now new b (rw (var_at ss i x d h e, p.trees) at g)

    pub at_other_var : (x : ℕ) → get_or ts j d ≡ Var x → (to : ℕ) → to ≡ i + nodes (tree_of (drop i ss)) → (new : Pairs) → IsBound x (tree_of (take (to - i) (drop i ss))) now new true → ReducedFrom ss ts to (j + 1) new
    at_other_var x e to to_is new b =
        let p = split ss i to (whole_one ss ws) h to_is in
        let S = tree_of ss in
        let T = tree_of ts in
        let part = tree_of (take (to - i) (drop i ss)) in
        turned T S (trees_of (drop (j + 1) ts)) (trees_of (drop to ss)) new
        (reduced_bound T S x (trees_of (drop (j + 1) ts)) part (trees_of (drop to ss)) now new b
        (turned S T (more part (trees_of (drop to ss))) (more (var x) (trees_of (drop (j + 1) ts))) now (rw (p.trees, var_at ts j x d within e) at g)))

    pub at_head : (f : Sym) (n : ℕ) → get_or ss i d ≡ App f n → get_or ts j d ≡ App f n → ReducedFrom ss ts (i + 1) (j + 1) now
    at_head f n e k =
        let a = opened_at ss i f n d (whole_one ss ws) h e in
        let b = opened_at ts j f n d (whole_one ts wt) within k in
        rw (a.0.behind, b.0.behind) (reduced_heads (tree_of ss) (tree_of ts) f a.0.args a.0.rest b.0.args b.0.rest now (a.0.counts ∙ sym b.0.counts) (rw (a.1, b.1) at g))

    pub at_clash : (f : Sym) (n : ℕ) → get_or ss i d ≡ App f n → ((x : ℕ) → get_or ts j d ≡ Var x → ⊥) → (get_or ts j d ≡ App f n → ⊥) → HasNoUnifier (tree_of ss) (tree_of ts)
    at_clash f n e no_var k =
        let a = opened_at ss i f n d (whole_one ss ws) h e in
        go (get_or ts j d) refl a.0.args a.0.rest (a.0.counts) (rw a.1 at g)
      where
        go : (o : Node) → get_or ts j d ≡ o → (us bs : Trees) → count us ≡ n → AreReduced (tree_of ss) (tree_of ts) (more (app f us) bs) (trees_of (drop j ts)) now → HasNoUnifier (tree_of ss) (tree_of ts)
        go (Var y) q us bs c m = absurd (no_var y q)
        go (App f' l) q us bs c m =
            let b = opened_at ts j f' l d (whole_one ts wt) within q in
            reduced_clash (tree_of ss) (tree_of ts) f f' us bs b.0.args b.0.rest now (λ same long. k (q ∙ ap₂ App (sym same) (sym b.0.counts ∙ sym long ∙ c))) (rw b.1 at m)

-- a variable that occurs in a term is one of its nodes
mutual
  occurs_at : (x : ℕ) (t : Tree) → Occurs x t → (i : ℕ) × (slice_get (flat t) i ≡ Some (Var x))
  occurs_at x _ is_itself = (0, refl)
  occurs_at x _ (in_args {ts = ts} o) = let r = occurs_in x ts o in (suc r.0, r.1)

  occurs_in : (x : ℕ) (ts : Trees) → OccursIn x ts → (i : ℕ) × (slice_get (flat_all ts) i ≡ Some (Var x))
  occurs_in x _ (in_first {t = t} {ts = ts} o) = let r = occurs_at x t o in (r.0, get-append_left (flat t) (flat_all ts) r.0 (Var x) r.1)
  occurs_in x _ (in_later {t = t} {ts = ts} o) = let r = occurs_in x ts o in get-append_right (flat t) (flat_all ts) r.0 (Var x) r.1

-- what is found is one of the pairs
found_at : (ps : Pairs) (x : ℕ) (t : Tree) → found ps x ≡ Some t → (i : ℕ) × (p : ℕ × Tree) × (slice_get ps i ≡ Some p) × (p.1 ≡ t)
found_at [] x t e = absurd cc
found_at (p ∷ ps) x t e = go (p.0 == x) refl (found_at ps x t) e
  where
    go : (b : Bool) → (p.0 == x) ≡ b → (found ps x ≡ Some t → (i : ℕ) × (q : ℕ × Tree) × (slice_get ps i ≡ Some q) × (q.1 ≡ t)) → (if b then Some p.1 else found ps x) ≡ Some t → (i : ℕ) × (q : ℕ × Tree) × (slice_get (p ∷ ps) i ≡ Some q) × (q.1 ≡ t)
    go true h later e = (0, p, refl, cc)
    go false h later e = let r = later e in (suc r.0, r.1, r.2, r.3)

module _ (s t : Tree) (ps : Pairs) (idem : IsIdempotent ps) (reduced : IsReducedTo s t ps) where
  unmoved : (x : ℕ) (u : Tree) → found ps x ≡ Some u → apply (image ps) u ≡ u
  unmoved x u f = same_if (image ps) var u free ∙ apply-var u
    where
      free : (y : ℕ) → Occurs y u → image ps y ≡ var y
      free y o = go (known (found ps y))
        where
          go : ((v : Tree) × (found ps y ≡ Some v)) ⊎ (found ps y ≡ None) → image ps y ≡ var y
          go (inl v) =
              let p = found_at ps x u f in
              let n = occurs_at y u o in
              absurd (idem p.0 p.1 p.2 (rw p.3 (n.0, Var y, n.1, v)))
          go (inr n) = ap (λ r. unwrap_or r (var y)) n

  -- a solved form that is idempotent is a most general unifier
  pub most_general : IsMostGeneral s t (image ps)
  most_general = record {
    unifies = reduced.only (image ps) (λ x u f. agrees_image ps x u f ∙ sym (unmoved x u f));
    general = λ τ e x. general τ (reduced.each τ e) x (known (found ps x));
  }
    where
      general : (τ : ℕ → Tree) → Meets τ ps → (x : ℕ) → ((u : Tree) × (found ps x ≡ Some u)) ⊎ (found ps x ≡ None) → apply τ (image ps x) ≡ τ x
      general τ m x (inl u) = ap (λ r. apply τ (unwrap_or r (var x))) u.1 ∙ sym (m x u.0 u.1)
      general τ m x (inr n) = ap (λ r. apply τ (unwrap_or r (var x))) n
