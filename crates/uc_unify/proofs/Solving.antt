-- The pairs of a solution, place by place.
use Rattle.std.proofs.Common.{◌≡◌, ℕ, ◌+◌, ◌<◌, ◌≤◌, List, [], ◌∷◌, ◌++◌, length, get_or, slice_get, Some, None, unwrap_or, sym, ap, ◌∙◌, subst, arith, ◌⊎◌, inl, inr}
use Rattle.std.proofs.lemmas.Option.{slice_get_within, slice_get-get_or}
use Rattle.uc_term.specs.declared.node.Sym.{Sym}
use Rattle.uc_term.specs.declared.node.Node.{Node}
use Rattle.uc_term.specs.declared.node.Node.TheVariants.{Var, App}
use Rattle.uc_term.specs.Tree.{Tree, var}
use Rattle.uc_term.specs.Subst.{found, image}
use Rattle.uc_term.proofs.Pairs.{known, found_kept, found_past, found_here, found_pushed}
use Rattle.uc_unify.specs.Closure.{AreClasses}
use Rattle.uc_unify.specs.Solutions.{Solves, IsSolution, AddsSolution}
use Rattle.uc_unify.proofs.Sizing.{solves_class}
use Rattle.uc_unify.proofs.Writing.{solves_once}

pub record Solving (ns : List Node) (classes : List ℕ) (i : ℕ) (pairs : List (ℕ × Tree)) : Type 0 where
  pub here : (p x : ℕ) (t : Tree) → p < i → slice_get ns p ≡ Some (Var x) → Solves ns classes p t → image pairs x ≡ t
  pub source : (x : ℕ) (t : Tree) → found pairs x ≡ Some t → (p : ℕ) × (slice_get ns p ≡ Some (Var x)) × Solves ns classes p t

module _ (ns : List Node) (classes : List ℕ) where
  pub solving_starts : (pairs : List (ℕ × Tree)) → pairs ≡ [] → Solving ns classes 0 pairs
  solving_starts pairs e = record {
    here = λ p x t h. absurd (omega arith);
    source = λ x t f. absurd (let g : None ≡ Some t = sym (ap (λ l. found l x) e) ∙ f in cc);
  }

  pub solving_ends : (i : ℕ) (pairs : List (ℕ × Tree)) → length ns ≤ i → Solving ns classes i pairs → IsSolution ns classes (image pairs)
  solving_ends i pairs h s = record {
    here = λ p x t e r. s.here p x t (let j = slice_get_within ns p (Var x) e in omega arith) e r;
    others = λ x n. go x n (known (found pairs x));
  }
    where
      go : (x : ℕ) → ((p : ℕ) → slice_get ns p ≡ Some (Var x) → ⊥) → ((t : Tree) × (found pairs x ≡ Some t)) ⊎ (found pairs x ≡ None) → image pairs x ≡ var x
      go x n (inl f) = absurd (let r = s.source x f.0 f.1 in n r.0 r.1)
      go x n (inr f) = ap (λ o. unwrap_or o (var x)) f

  module _ (k : AreClasses ns classes) (i : ℕ) (d : Node) (h : i < length ns) (old : List (ℕ × Tree)) (s : Solving ns classes i old) where
    pub solving_app : (f : Sym) (n : ℕ) → get_or ns i d ≡ App f n → Solving ns classes (i + 1) old
    solving_app f n at = record { here = λ p x t l e r. go p x t e r (grind arith); source = s.source }
      where
        go : (p x : ℕ) (t : Tree) → slice_get ns p ≡ Some (Var x) → Solves ns classes p t → (p < i) ⊎ (p ≡ i) → image old x ≡ t
        go p x t e r (inl l) = s.here p x t l e r
        go p x t e r (inr q) = absurd (let both : Some (Var x) ≡ Some (App f n) = sym e ∙ ap (slice_get ns) q ∙ slice_get-get_or ns i d h ∙ ap Some at in cc)

    pub solving_var : (y : ℕ) (new : List (ℕ × Tree)) → get_or ns i d ≡ Var y → AddsSolution ns classes i y old new → Solving ns classes (i + 1) new
    solving_var y new at a = elim a [ inl b ↦ skipped b | inr r ↦ elim r [ inl b ↦ kept b | inr b ↦ added b ] ]
      where
        node_is : slice_get ns i ≡ Some (Var y)
        node_is = slice_get-get_or ns i d h ∙ ap Some at

        variable : (p x : ℕ) → slice_get ns p ≡ Some (Var x) → p ≡ i → x ≡ y
        variable p x e q = let both : Some (Var x) ≡ Some (Var y) = sym e ∙ ap (slice_get ns) q ∙ node_is in cc

        same : (p x : ℕ) (t u : Tree) → slice_get ns p ≡ Some (Var x) → x ≡ y → Solves ns classes p t → Solves ns classes i u → t ≡ u
        same p x t u e q r v = solves_once ns classes p t u r (solves_class ns classes i p u (k.one p i y (e ∙ ap (λ z. Some (Var z)) q) node_is) v)

        -- the variable's image is the place's term, where a pair has it
        found_at : (x : ℕ) (u : Tree) → found old y ≡ Some u → Solves ns classes i u
        found_at x u f = let o = s.source y u f in solves_class ns classes o.0 i u (k.one i o.0 y node_is o.1) o.2

        skipped : Solves ns classes i (var y) × (new ≡ old) → Solving ns classes (i + 1) new
        skipped b = subst (Solving ns classes (i + 1)) (sym b.1) (record { here = λ p x t l e r. go p x t e r (grind arith); source = s.source })
          where
            its_image : (x : ℕ) (t : Tree) → x ≡ y → var y ≡ t → ((u : Tree) × (found old x ≡ Some u)) ⊎ (found old x ≡ None) → image old x ≡ t
            its_image x t q m (inl f) =
                let u_is : f.0 ≡ var y = solves_once ns classes i f.0 (var y) (found_at x f.0 (ap (found old) (sym q) ∙ f.1)) b.0 in
                ap (λ o. unwrap_or o (var x)) f.1 ∙ u_is ∙ m
            its_image x t q m (inr f) = ap (λ o. unwrap_or o (var x)) f ∙ ap var q ∙ m

            go : (p x : ℕ) (t : Tree) → slice_get ns p ≡ Some (Var x) → Solves ns classes p t → (p < i) ⊎ (p ≡ i) → image old x ≡ t
            go p x t e r (inl l) = s.here p x t l e r
            go p x t e r (inr q) = let xy = variable p x e q in its_image x t xy (sym (same p x t (var y) e xy r b.0)) (known (found old x))

        kept : ((t : Tree) × (found old y ≡ Some t)) × (new ≡ old) → Solving ns classes (i + 1) new
        kept b = subst (Solving ns classes (i + 1)) (sym b.1) (record { here = λ p x t l e r. go p x t e r (grind arith); source = s.source })
          where
            go : (p x : ℕ) (t : Tree) → slice_get ns p ≡ Some (Var x) → Solves ns classes p t → (p < i) ⊎ (p ≡ i) → image old x ≡ t
            go p x t e r (inl l) = s.here p x t l e r
            go p x t e r (inr q) =
                let xy = variable p x e q in
                ap (λ o. unwrap_or o (var x)) (ap (found old) xy ∙ b.0.1) ∙ sym (same p x t b.0.0 e xy r (found_at x b.0.0 b.0.1))

        added : (found old y ≡ None) × ((t : Tree) × Solves ns classes i t × (new ≡ old ++ (y, t) ∷ [])) → Solving ns classes (i + 1) new
        added b =
            let t0 = b.1.0 in
            subst (Solving ns classes (i + 1)) (sym b.1.2) (record { here = λ p x t l e r. go p x t e r (grind arith); source = λ x t f. from x t (found_pushed old y x t0 t f) })
          where
            its_image : (p x : ℕ) (t : Tree) → slice_get ns p ≡ Some (Var x) → Solves ns classes p t → x ≡ y → image (old ++ (y, b.1.0) ∷ []) x ≡ t
            its_image p x t e r xy = ap (λ o. unwrap_or o (var x)) (ap (found (old ++ (y, b.1.0) ∷ [])) xy ∙ found_past old ((y, b.1.0) ∷ []) y b.0 ∙ found_here y b.1.0 []) ∙ sym (same p x t b.1.0 e xy r b.1.1)

            before : (p x : ℕ) (t : Tree) → slice_get ns p ≡ Some (Var x) → Solves ns classes p t → image old x ≡ t → ((u : Tree) × (found old x ≡ Some u)) ⊎ (found old x ≡ None) → ((u : Tree) × (found (old ++ (y, b.1.0) ∷ []) x ≡ Some u)) ⊎ (found (old ++ (y, b.1.0) ∷ []) x ≡ None) → image (old ++ (y, b.1.0) ∷ []) x ≡ t
            before p x t e r m (inl f) g = ap (λ o. unwrap_or o (var x)) (found_kept old ((y, b.1.0) ∷ []) x f.0 f.1) ∙ sym (ap (λ o. unwrap_or o (var x)) f.1) ∙ m
            before p x t e r m (inr f) (inr g) = ap (λ o. unwrap_or o (var x)) g ∙ sym (ap (λ o. unwrap_or o (var x)) f) ∙ m
            before p x t e r m (inr f) (inl g) = pushed (found_pushed old y x b.1.0 g.0 g.1)
              where
                pushed : (found old x ≡ Some g.0) ⊎ ((y ≡ x) × (b.1.0 ≡ g.0)) → image (old ++ (y, b.1.0) ∷ []) x ≡ t
                pushed (inl h) = absurd (let both : None ≡ Some g.0 = sym f ∙ h in cc)
                pushed (inr h) = its_image p x t e r (sym h.0)

            go : (p x : ℕ) (t : Tree) → slice_get ns p ≡ Some (Var x) → Solves ns classes p t → (p < i) ⊎ (p ≡ i) → image (old ++ (y, b.1.0) ∷ []) x ≡ t
            go p x t e r (inl l) = before p x t e r (s.here p x t l e r) (known (found old x)) (known (found (old ++ (y, b.1.0) ∷ []) x))
            go p x t e r (inr q) = its_image p x t e r (variable p x e q)

            from : (x : ℕ) (t : Tree) → (found old x ≡ Some t) ⊎ ((y ≡ x) × (b.1.0 ≡ t)) → (p : ℕ) × (slice_get ns p ≡ Some (Var x)) × Solves ns classes p t
            from x t (inl f) = s.source x t f
            from x t (inr f) = (i, node_is ∙ ap (λ z. Some (Var z)) f.0, subst (Solves ns classes i) f.1 b.1.1)
