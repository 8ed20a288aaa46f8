-- A walk over two terms that looks at their symbols alone.
use Rattle.std.proofs.Common.{◌≡◌, ℕ, ◌+◌, ◌<◌, ◌≤◌, ◌-◌, List, get_or, take, drop, length, refl, sym, ap, ap₂, ◌∙◌, arith}
use Rattle.uc_term.specs.declared.node.Sym.{Sym}
use Rattle.uc_term.specs.declared.node.Node.{Node}
use Rattle.uc_term.specs.declared.node.Node.TheVariants.{Var, App}
use Rattle.uc_term.specs.Tree.{Tree, var, app, Trees, none, more, count, nodes, apply_all}
use Rattle.uc_term.specs.Flat.{trees_of, tree_of, IsWhole}
use Rattle.uc_term.proofs.Terms.{whole_one}
use Rattle.uc_term.proofs.Ahead.{join, count-join}
use Rattle.uc_term.proofs.Joins.{apply_all-join, count-apply_all, opened_at, var_at, place_within, trees_of-whole}
use Rattle.uc_term.proofs.Parts.{split}
use Rattle.uc_pair.specs.Fitting.{NeverMeet, MeetAhead, MeetFrom, WalksOn}

module _ (s t : Tree) where
  meet_heads : (f : Sym) (us bs cs ds : Trees) → count us ≡ count cs → MeetAhead s t (more (app f us) bs) (more (app f cs) ds) → MeetAhead s t (join us bs) (join cs ds)
  meet_heads f us bs cs ds c m = record {
    counts = omega (arith, count-join us bs, count-join cs ds, m.counts);
    each = λ σ τ e. whole σ τ (m.each σ τ e);
  }
    where
      whole : (σ τ : ℕ → Tree) → apply_all σ (more (app f us) bs) ≡ apply_all τ (more (app f cs) ds) → apply_all σ (join us bs) ≡ apply_all τ (join cs ds)
      whole σ τ e =
          let front : apply_all σ us ≡ apply_all τ cs = cc in
          let rest : apply_all σ bs ≡ apply_all τ ds = cc in
          apply_all-join σ us bs ∙ ap₂ join front rest ∙ sym (apply_all-join τ cs ds)

  meet_clash : (f g : Sym) (us bs cs ds : Trees) → (f ≡ g → count us ≡ count cs → ⊥) → MeetAhead s t (more (app f us) bs) (more (app g cs) ds) → NeverMeet s t
  meet_clash f g us bs cs ds n m σ τ e =
      let r = m.each σ τ e in
      let head : f ≡ g = cc in
      let args : apply_all σ us ≡ apply_all τ cs = cc in
      n head (sym (count-apply_all σ us) ∙ ap count args ∙ count-apply_all τ cs)

  meet_skip : (u : Tree) (bs : Trees) (v : Tree) (ds : Trees) → MeetAhead s t (more u bs) (more v ds) → MeetAhead s t bs ds
  meet_skip u bs v ds m = record { counts = omega (arith, m.counts); each = λ σ τ e. rest σ τ (m.each σ τ e) }
    where
      rest : (σ τ : ℕ → Tree) → apply_all σ (more u bs) ≡ apply_all τ (more v ds) → apply_all σ bs ≡ apply_all τ ds
      rest σ τ e = cc

-- the same at places of the two flat lists
module _ (ss ts : List Node) (ws : IsWhole ss) (wt : IsWhole ts) where
  pub at_start : MeetFrom ss ts 0 0
  at_start = rw (trees_of-whole ss ws, trees_of-whole ts wt) (record { counts = refl; each = λ σ τ e. ap (λ t. more t none) e })

  module _ (i j : ℕ) (h : i < length ss) (m : MeetFrom ss ts i j) where
    some_left : 0 < count (trees_of (drop i ss))
    some_left =
        let p = split ss i (i + nodes (tree_of (drop i ss))) (whole_one ss ws) h refl in
        omega (arith, ap count p.trees)

    pub within : j < length ts
    within = place_within ts j (count (trees_of (drop i ss))) (sym m.counts) some_left

    pub at_var : (d : Node) (x : ℕ) → get_or ss i d ≡ Var x → (to : ℕ) → to ≡ j + nodes (tree_of (drop j ts)) → WalksOn ss ts i (i + 1, to)
    at_var d x e to to_is =
        let p = split ts j to (whole_one ts wt) within to_is in
        record {
          meets = meet_skip (tree_of ss) (tree_of ts) (var x) (trees_of (drop (i + 1) ss)) (tree_of (take (to - j) (drop j ts))) (trees_of (drop to ts)) (rw (var_at ss i x d h e, p.trees) at m);
          later = omega arith;
          inside = omega arith;
        }

    pub at_other_var : (d : Node) (x : ℕ) → get_or ts j d ≡ Var x → (to : ℕ) → to ≡ i + nodes (tree_of (drop i ss)) → to ≤ length ss → WalksOn ss ts i (to, j + 1)
    at_other_var d x e to to_is k =
        let p = split ss i to (whole_one ss ws) h to_is in
        record {
          meets = meet_skip (tree_of ss) (tree_of ts) (tree_of (take (to - i) (drop i ss))) (trees_of (drop to ss)) (var x) (trees_of (drop (j + 1) ts)) (rw (p.trees, var_at ts j x d within e) at m);
          later = omega (arith, p.within.0);
          inside = k;
        }

    pub at_head : (d : Node) (f : Sym) (n : ℕ) → get_or ss i d ≡ App f n → get_or ts j d ≡ App f n → WalksOn ss ts i (i + 1, j + 1)
    at_head d f n e k =
        let a = opened_at ss i f n d (whole_one ss ws) h e in
        let b = opened_at ts j f n d (whole_one ts wt) within k in
        record {
          meets = rw (a.0.behind, b.0.behind) (meet_heads (tree_of ss) (tree_of ts) f a.0.args a.0.rest b.0.args b.0.rest (a.0.counts ∙ sym b.0.counts) (rw (a.1, b.1) at m));
          later = omega arith;
          inside = omega arith;
        }

    pub at_clash : (d : Node) (f : Sym) (n : ℕ) → get_or ss i d ≡ App f n → ((x : ℕ) → get_or ts j d ≡ Var x → ⊥) → (get_or ts j d ≡ App f n → ⊥) → NeverMeet (tree_of ss) (tree_of ts)
    at_clash d f n e no_var k =
        let a = opened_at ss i f n d (whole_one ss ws) h e in
        go (get_or ts j d) refl a.0.args a.0.rest (a.0.counts) (rw a.1 at m)
      where
        go : (o : Node) → get_or ts j d ≡ o → (us bs : Trees) → count us ≡ n → MeetAhead (tree_of ss) (tree_of ts) (more (app f us) bs) (trees_of (drop j ts)) → NeverMeet (tree_of ss) (tree_of ts)
        go (Var y) q us bs c m' = absurd (no_var y q)
        go (App g l) q us bs c m' =
            let b = opened_at ts j g l d (whole_one ts wt) within q in
            meet_clash (tree_of ss) (tree_of ts) f g us bs b.0.args b.0.rest (λ same long. k (q ∙ ap₂ App (sym same) (sym b.0.counts ∙ sym long ∙ c))) (rw b.1 at m')
