-- What a walk over a pattern and a term has found out when it stands before the pattern's terms ps and the term's ts.
use Rattle.std.proofs.Common.{◌≡◌, ℕ, ◌+◌, ◌<◌, ◌≤◌, ◌-◌, List, [], ◌∷◌, ◌++◌, Some, None, true, false, get_or, take, drop, length, refl, sym, ap, ap₂, ◌∙◌, subst, arith, inl, inr, append-nil}
use Rattle.uc_term.specs.declared.node.Sym.{Sym}
use Rattle.uc_term.specs.declared.node.Node.{Node}
use Rattle.uc_term.specs.declared.node.Node.TheVariants.{Var, App}
use Rattle.uc_term.specs.Tree.{Tree, var, app, Trees, none, more, count, nodes, apply, apply_all}
use Rattle.uc_term.specs.Flat.{trees_of, tree_of, IsWhole}
use Rattle.uc_term.specs.Subst.{found, domain, Agrees}
use Rattle.uc_term.specs.Variables.{variables, variables_all, firsts_after}
use Rattle.uc_term.proofs.Terms.{whole_one}
use Rattle.uc_term.proofs.Ahead.{join, count-join}
use Rattle.uc_term.proofs.Joins.{apply_all-join, variables_all-join, count-apply_all, join_cancel, opened_at, var_at, place_within, trees_of-end, trees_of-whole}
use Rattle.uc_term.proofs.Parts.{split}
use Rattle.uc_term.proofs.Pairs.{agrees_pushed, agrees_push, domain_old, domain_new}
use Rattle.uc_unify.specs.Extension.{Extends, HasNoExtension, IsBound}

abbrev Pairs : Type 0
Pairs = List (ℕ × Tree)

pub record Going (P T : Tree) (old : Pairs) (ps ts : Trees) (now : Pairs) : Type 0 where
  pub counts : count ps ≡ count ts
  pub only : (σ : ℕ → Tree) → Agrees σ now → apply_all σ ps ≡ ts → Agrees σ old × (apply σ P ≡ T)
  pub each : (σ : ℕ → Tree) → Agrees σ old → apply σ P ≡ T → Agrees σ now × (apply_all σ ps ≡ ts)
  pub pairs_are : domain now ++ firsts_after (domain now) (variables_all ps) ≡ domain old ++ firsts_after (domain old) (variables P)

module _ (P T : Tree) (old : Pairs) where
  going_start : Going P T old (more P none) (more T none) old
  going_start = record {
    counts = refl;
    only = λ σ a e. (a, cc);
    each = λ σ a e. (a, cc);
    pairs_are = ap (λ l. domain old ++ firsts_after (domain old) l) (append-nil (variables P));
  }

  going_end : (now : Pairs) → Going P T old none none now → Extends P T old now
  going_end now g = record {
    only = λ σ a. g.only σ a refl;
    each = λ σ a e. (g.each σ a e).0;
    pairs_are = sym (append-nil (domain now)) ∙ g.pairs_are;
  }

  going_head : (f : Sym) (us bs cs ds : Trees) (now : Pairs) → count us ≡ count cs → Going P T old (more (app f us) bs) (more (app f cs) ds) now → Going P T old (join us bs) (join cs ds) now
  going_head f us bs cs ds now c g = record {
    counts = omega (arith, count-join us bs, count-join cs ds, g.counts);
    only = λ σ a e. g.only σ a (parts σ e);
    each = λ σ a e. (let r = g.each σ a e in (r.0, whole σ r.1));
    pairs_are = ap (λ l. domain now ++ firsts_after (domain now) l) (variables_all-join us bs) ∙ g.pairs_are;
  }
    where
      parts : (σ : ℕ → Tree) → apply_all σ (join us bs) ≡ join cs ds → apply_all σ (more (app f us) bs) ≡ more (app f cs) ds
      parts σ e =
          let r = join_cancel (apply_all σ us) (apply_all σ bs) cs ds (count-apply_all σ us ∙ c) (sym (apply_all-join σ us bs) ∙ e) in
          ap₂ (λ x y. more (app f x) y) r.0 r.1

      whole : (σ : ℕ → Tree) → apply_all σ (more (app f us) bs) ≡ more (app f cs) ds → apply_all σ (join us bs) ≡ join cs ds
      whole σ e =
          let front : apply_all σ us ≡ cs = cc in
          let rest : apply_all σ bs ≡ ds = cc in
          apply_all-join σ us bs ∙ ap₂ join front rest

  -- another head
  going_clash : (f : Sym) (us bs : Trees) (t : Tree) (ds : Trees) (now : Pairs) → ((cs : Trees) → count cs ≡ count us → t ≡ app f cs → ⊥) → Going P T old (more (app f us) bs) (more t ds) now → HasNoExtension P T old
  going_clash f us bs t ds now n g σ a e =
      let r = (g.each σ a e).1 in
      let head : app f (apply_all σ us) ≡ t = cc in
      n (apply_all σ us) (count-apply_all σ us) (sym head)

  going_known : (x : ℕ) (bs : Trees) (u : Tree) (ds : Trees) (now : Pairs) → found now x ≡ Some u → Going P T old (more (var x) bs) (more u ds) now → Going P T old bs ds now
  going_known x bs u ds now f g = record {
    counts = omega (arith, g.counts);
    only = λ σ a e. g.only σ a (ap₂ more (a x u f) e);
    each = λ σ a e. (let r = g.each σ a e in (r.0, tail σ r.1));
    pairs_are = ap (λ l. domain now ++ l) (sym (domain_old now x u (variables_all bs) f)) ∙ g.pairs_are;
  }
    where
      tail : (σ : ℕ → Tree) → apply_all σ (more (var x) bs) ≡ more u ds → apply_all σ bs ≡ ds
      tail σ e = cc

  going_new : (x : ℕ) (bs : Trees) (u : Tree) (ds : Trees) (now : Pairs) → found now x ≡ None → Going P T old (more (var x) bs) (more u ds) now → Going P T old bs ds (now ++ (x, u) ∷ [])
  going_new x bs u ds now f g = record {
    counts = omega (arith, g.counts);
    only = λ σ a e. (let r = agrees_pushed σ now x u f a in g.only σ r.0 (ap₂ more r.1 e));
    each = λ σ a e. (let r = g.each σ a e in (agrees_push σ now x u r.0 (head σ r.1), tail σ r.1));
    pairs_are = domain_new now x u (variables_all bs) f ∙ g.pairs_are;
  }
    where
      head : (σ : ℕ → Tree) → apply_all σ (more (var x) bs) ≡ more u ds → σ x ≡ u
      head σ e = cc

      tail : (σ : ℕ → Tree) → apply_all σ (more (var x) bs) ≡ more u ds → apply_all σ bs ≡ ds
      tail σ e = cc

  going_other : (x : ℕ) (bs : Trees) (u v : Tree) (ds : Trees) (now : Pairs) → found now x ≡ Some v → (v ≡ u → ⊥) → Going P T old (more (var x) bs) (more u ds) now → HasNoExtension P T old
  going_other x bs u v ds now f n g σ a e =
      let r = g.each σ a e in
      let here : σ x ≡ u = cc in
      n (sym (r.0 x v f) ∙ here)

-- the same at places of the two flat lists
module _ (ps ts : List Node) (old : Pairs) (wp : IsWhole ps) (wt : IsWhole ts) where
  abbrev pub At : ℕ → ℕ → Pairs → Type 0
  At i j now = Going (tree_of ps) (tree_of ts) old (trees_of (drop i ps)) (trees_of (drop j ts)) now

  pub at_start : At 0 0 old
  at_start = rw (trees_of-whole ps wp, trees_of-whole ts wt) (going_start (tree_of ps) (tree_of ts) old)

  none_left : (us : Trees) → 0 ≡ count us → us ≡ none
  none_left none e = refl
  none_left (more u us) e = absurd (omega arith)

  pub at_end : (i j : ℕ) (now : Pairs) → length ps ≤ i → At i j now → Extends (tree_of ps) (tree_of ts) old now
  at_end i j now h g =
      let P : Trees → Type 0 = λ us. Going (tree_of ps) (tree_of ts) old us (trees_of (drop j ts)) now in
      let g' : Going (tree_of ps) (tree_of ts) old none (trees_of (drop j ts)) now = subst P (trees_of-end ps i h) g in
      let Q : Trees → Type 0 = λ us. Going (tree_of ps) (tree_of ts) old none us now in
      going_end (tree_of ps) (tree_of ts) old now (subst Q (none_left (trees_of (drop j ts)) g'.counts) g')

  module _ (i j : ℕ) (now : Pairs) (d : Node) (h : i < length ps) (g : At i j now) where
    pub within_var : (x : ℕ) → get_or ps i d ≡ Var x → j < length ts
    within_var x e = place_within ts j (count (trees_of (drop i ps))) (sym g.counts) (omega (arith, ap count (var_at ps i x d h e)))

    pub within_app : (f : Sym) (n : ℕ) → get_or ps i d ≡ App f n → j < length ts
    within_app f n e = place_within ts j (count (trees_of (drop i ps))) (sym g.counts) (omega (arith, ap count (opened_at ps i f n d (whole_one ps wp) h e).1))

    abbrev Before : Trees → Trees → Type 0
    Before us vs = Going (tree_of ps) (tree_of ts) old us vs now

    pub at_head : (f : Sym) (n : ℕ) → get_or ps i d ≡ App f n → get_or ts j d ≡ App f n → At (i + 1) (j + 1) now
    at_head f n e k =
        let a = opened_at ps i f n d (whole_one ps wp) h e in
        let b = opened_at ts j f n d (whole_one ts wt) (within_app f n e) k in
        rw (a.0.behind, b.0.behind) (going_head (tree_of ps) (tree_of ts) old f a.0.args a.0.rest b.0.args b.0.rest now (a.0.counts ∙ sym b.0.counts) (rw (a.1, b.1) at g))

    pub at_clash : (f : Sym) (n : ℕ) → get_or ps i d ≡ App f n → (get_or ts j d ≡ App f n → ⊥) → HasNoExtension (tree_of ps) (tree_of ts) old
    at_clash f n e k =
        let a = opened_at ps i f n d (whole_one ps wp) h e in
        go (get_or ts j d) refl a.0.args a.0.rest (a.0.counts) (rw a.1 at g)
      where
        go : (m : Node) → get_or ts j d ≡ m → (us bs : Trees) → count us ≡ n → Going (tree_of ps) (tree_of ts) old (more (app f us) bs) (trees_of (drop j ts)) now → HasNoExtension (tree_of ps) (tree_of ts) old
        go (Var y) q us bs c g' =
            going_clash (tree_of ps) (tree_of ts) old f us bs (var y) (trees_of (drop (j + 1) ts)) now (λ cs r s. cc) (rw (var_at ts j y d (within_app f n e) q) at g')
        go (App f' n') q us bs c g' =
            let b = opened_at ts j f' n' d (whole_one ts wt) (within_app f n e) q in
            going_clash (tree_of ps) (tree_of ts) old f us bs (app f' b.0.args) b.0.rest now (λ cs r s. k (q ∙ (let same : f' ≡ f = cc in let long : n' ≡ n = sym b.0.counts ∙ (let l : b.0.args ≡ cs = cc in ap count l) ∙ r ∙ c in ap₂ App same long))) (rw b.1 at g')

    module _ (x : ℕ) (e : get_or ps i d ≡ Var x) (to : ℕ) (to_is : to ≡ j + nodes (tree_of (drop j ts))) where
      abbrev pub part : List Node
      part = take (to - j) (drop j ts)

      before : Before (more (var x) (trees_of (drop (i + 1) ps))) (more (tree_of part) (trees_of (drop to ts)))
      before = let s = split ts j to (whole_one ts wt) (within_var x e) to_is in rw (var_at ps i x d h e, s.trees) at g

      pub at_bound : (new : Pairs) → IsBound x (tree_of part) now new true → At (i + 1) to new
      at_bound new (inl b) = let P : Pairs → Type 0 = At (i + 1) to in subst P (sym b.1) (going_known (tree_of ps) (tree_of ts) old x (trees_of (drop (i + 1) ps)) (tree_of part) (trees_of (drop to ts)) now b.0 before)
      at_bound new (inr b) = let P : Pairs → Type 0 = At (i + 1) to in subst P (sym b.1) (going_new (tree_of ps) (tree_of ts) old x (trees_of (drop (i + 1) ps)) (tree_of part) (trees_of (drop to ts)) now b.0 before)

      pub at_other : (new : Pairs) → IsBound x (tree_of part) now new false → HasNoExtension (tree_of ps) (tree_of ts) old
      at_other new b = going_other (tree_of ps) (tree_of ts) old x (trees_of (drop (i + 1) ps)) (tree_of part) b.0 (trees_of (drop to ts)) now b.1 b.2 before
