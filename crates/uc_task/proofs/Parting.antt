-- Where a step by one equation is made, a side of it stands; none does where two first symbols are different, or fewer nodes are
-- left than the side has.
use Rattle.std.proofs.Common.{◌≡◌, ℕ, zero, suc, ◌+◌, ◌-◌, ◌<◌, List, [], ◌∷◌, take, drop, get_or, length, slice_get, Some, refl, sym, ap, ◌∙◌, subst, arith, length-take, length-drop, ◌⊎◌, inl, inr, IsTrue, Bool, true, false}
use Rattle.std.proofs.lemmas.List.{get_or_default}
use Rattle.std.proofs.Math.Seq.{get_or-append_right}
use Rattle.std.proofs.Math.ListN.{get_or-append}
use Rattle.uc_term.specs.declared.equation.Equation.{Equation}
use Rattle.uc_term.specs.declared.equation.Side.{Side}
use Rattle.uc_term.specs.declared.equation.Side.TheVariants.{Left, Right}
use Rattle.uc_term.specs.Tree.{Tree, var, app, Trees, none, more, nodes, nodes_all, apply, subterms, subterms_all, subterm}
use Rattle.uc_term.specs.Equations.{side_of, other_side_of}
use Rattle.uc_term.specs.Within.{Within, at_root, under, WithinOne, at_first, at_later}
use Rattle.uc_term.specs.declared.node.Sym.{Sym}
use Rattle.uc_term.specs.declared.node.Node.{Node}
use Rattle.uc_term.specs.declared.node.Node.TheVariants.{App}
use Rattle.uc_term.specs.Flat.{tree_of, IsWhole}
use Rattle.uc_term.proofs.Terms.{length-flat, length-subterms, nodes_pos, nodes_whole, whole_one}
use Rattle.uc_term.proofs.Parts.{split}
use Rattle.uc_unify.specs.Matching.{HasNoMatch}
use Rattle.uc_order.specs.Laws.{Meaning, Laws}
use Rattle.uc_fact.specs.Ordered.{Falls}
use Rattle.uc_fact.proofs.Fitting.{at_start, at_clash}
use Rattle.uc_pair.proofs.Parts.{part_whole, part_tree}
use Rattle.uc_pair.proofs.Clashing.{first_of}
use Rattle.uc_pair.proofs.Replacing.{nodes-instance}
use Rattle.uc_machine.specs.Results.{StepsIn}
use Rattle.uc_task.specs.Reducing.{HasNoPart}

-- a part whose first node isn't the pattern's first symbol
module _ (ns ps : List Node) (p : ℕ) (d : Node) (w : IsWhole ns) (v : IsWhole ps) (h : p < length ns) where
  abbrev to : ℕ
  to = p + nodes (tree_of (drop p ns))

  some : 0 < length ps
  some = omega (arith, ap length v, length-flat (tree_of ps), nodes_pos (tree_of ps))

  pub no_match : (f : Sym) (n : ℕ) → get_or ps 0 d ≡ App f n → (get_or ns p d ≡ App f n → ⊥) → HasNoMatch (tree_of ps) (subterm (tree_of ns) p)
  no_match f n e k =
      let ss : List Node = take (to - p) (drop p ns) in
      let wide : 0 < to - p = omega (arith, (split ns p to (whole_one ns w) h refl).within.0) in
      subst (λ t. HasNoMatch (tree_of ps) t) (part_tree ns p to w h refl) (at_clash ps ss v (part_whole ns p to w h refl) 0 0 d some f n e (λ e'. k (sym (first_of ns p (to - p) d h wide) ∙ e')) (at_start ps ss v (part_whole ns p to w h refl)))

  -- a part with fewer nodes than the pattern
  pub too_short : length ns - p < length ps → HasNoMatch (tree_of ps) (subterm (tree_of ns) p)
  too_short k σ e =
      let ss : List Node = take (to - p) (drop p ns) in
      let whole : IsWhole ss = part_whole ns p to w h refl in
      omega (arith, k, nodes-instance σ (tree_of ps), ap nodes e, ap nodes (part_tree ns p to w h refl), nodes_whole ps v, nodes_whole ss whole, length-take (to - p) (drop p ns), length-drop p ns, (split ns p to (whole_one ns w) h refl).within.0, (split ns p to (whole_one ns w) h refl).within.1)

pub refuted : {A : Type 0} (b : Bool) → b ≡ false → (A → IsTrue b) → A → ⊥
refuted false h k a = (let t = k a in cc)
refuted true h k a = cc

root : (u : Tree) → subterm u 0 ≡ u
root (var x) = refl
root (app f ts) = refl

-- the place of a step
module _ {R : Tree → Tree → Type 0} {P : Tree → Type 0} (f : (u v : Tree) → R u v → P u) where
  mutual
    place_of : (u v : Tree) → Within R u v → (p : ℕ) × (p < nodes u) × P (subterm u p)
    place_of u v (at_root r) = (0, nodes_pos u, subst P (sym (root u)) (f u v r))
    place_of (app g us) (app h vs) (under w) = let q = place_of_one us vs w in (suc q.0, omega (arith, q.1), q.2 (app g us))

    place_of_one : (us vs : Trees) → WithinOne R us vs → (p : ℕ) × (p < nodes_all us) × ((d : Tree) → P (get_or (subterms_all us) p d))
    place_of_one none vs w = elim w [ ]
    place_of_one (more u ts) none w = elim w [ ]
    place_of_one (more u ts) (more v rest) (at_first w) =
        let q = place_of u v w in
        (q.0, omega (arith, q.1), λ d. subst P (get_or_default (subterms u) q.0 u d (omega (arith, q.1, length-subterms u)) ∙ sym (get_or-append (subterms u) (subterms_all ts) d q.0 (omega (arith, q.1, length-subterms u)))) q.2)
    place_of_one (more t us) (more first vs) (at_later w) =
        let q = place_of_one us vs w in
        (q.0 + nodes t, omega (arith, q.1), λ d. subst P (sym (get_or-append_right (subterms t) (subterms_all us) (q.0 + nodes t) d (omega (arith, length-subterms t)) ∙ ap (λ n. get_or (subterms_all us) n d) (omega (arith, length-subterms t)))) (q.2 d))

only : (e f : Equation) (n : ℕ) → slice_get (e ∷ []) n ≡ Some f → f ≡ e
only e f zero h = cc
only e f (suc n) h = absurd cc

module _ (m : Meaning) (laws : Laws m) (e : Equation) where
  -- the sides of which two terms are instances
  record Fallen (s v : Tree) : Type 0 where
    pub side : Side
    pub σ : ℕ → Tree
    pub s_is : s ≡ apply σ (side_of side e)
    pub v_is : v ≡ apply σ (other_side_of side e)
    pub greater : m.greater s v

  fallen : (s v : Tree) → Falls m.greater m.least (e ∷ []) s v → Fallen s v
  fallen s v f =
      let t = f.turn in
      let one = only e t.sides.equation t.number t.sides.equation_is in
      record {
        side = t.side;
        σ = t.σ;
        s_is = t.u_is ∙ ap (apply t.σ) (t.sides.left_is ∙ ap (side_of t.side) one);
        v_is = t.v_is ∙ ap (apply t.σ) (t.sides.right_is ∙ ap (other_side_of t.side) one);
        greater = f.greater;
      }

  never_up : (l r : Tree) (σ : ℕ → Tree) → m.greater l r → m.greater (apply σ r) (apply σ l) → ⊥
  never_up l r σ g h = laws.irreflexive (apply σ l) (laws.transitive (apply σ l) (apply σ r) (apply σ l) (laws.instances σ l r g) h)

  falls_by : {s v a b : Tree} → s ≡ a → v ≡ b → m.greater s v → m.greater a b
  falls_by {v = v} {a = a} p q h = subst (λ y. m.greater a y) q (subst (λ x. m.greater x v) p h)

  abbrev IsInstance : Tree → Tree → Type 0
  IsInstance l s = (σ : ℕ → Tree) × (apply σ l ≡ s)

  by_left : m.greater e.left e.right → (s v : Tree) → Falls m.greater m.least (e ∷ []) s v → IsInstance e.left s
  by_left g s v f = let d = fallen s v f in go d.side d.σ d.s_is d.v_is d.greater
    where
      go : (side : Side) (σ : ℕ → Tree) → s ≡ apply σ (side_of side e) → v ≡ apply σ (other_side_of side e) → m.greater s v → IsInstance e.left s
      go Left σ p q h = (σ, sym p)
      go Right σ p q h = absurd (never_up e.left e.right σ g (falls_by p q h))

  by_right : m.greater e.right e.left → (s v : Tree) → Falls m.greater m.least (e ∷ []) s v → IsInstance e.right s
  by_right g s v f = let d = fallen s v f in go d.side d.σ d.s_is d.v_is d.greater
    where
      go : (side : Side) (σ : ℕ → Tree) → s ≡ apply σ (side_of side e) → v ≡ apply σ (other_side_of side e) → m.greater s v → IsInstance e.right s
      go Left σ p q h = absurd (never_up e.right e.left σ g (falls_by p q h))
      go Right σ p q h = (σ, sym p)

  by_neither : e.left ≡ e.right → (s v : Tree) → Falls m.greater m.least (e ∷ []) s v → ⊥
  by_neither same s v f = let d = fallen s v f in go d.side d.σ d.s_is d.v_is d.greater
    where
      go : (side : Side) (σ : ℕ → Tree) → s ≡ apply σ (side_of side e) → v ≡ apply σ (other_side_of side e) → m.greater s v → ⊥
      go Left σ p q h = laws.irreflexive (apply σ e.left) (falls_by p (q ∙ ap (apply σ) (sym same)) h)
      go Right σ p q h = laws.irreflexive (apply σ e.right) (falls_by p (q ∙ ap (apply σ) same) h)

  by_either : (s v : Tree) → Falls m.greater m.least (e ∷ []) s v → IsInstance e.left s ⊎ IsInstance e.right s
  by_either s v f = let d = fallen s v f in go d.side d.σ d.s_is
    where
      go : (side : Side) (σ : ℕ → Tree) → s ≡ apply σ (side_of side e) → IsInstance e.left s ⊎ IsInstance e.right s
      go Left σ p = inl (σ, sym p)
      go Right σ p = inr (σ, sym p)

  pub none_by_left : (u : Tree) → m.greater e.left e.right → HasNoPart e.left u → StepsIn m e u → ⊥
  none_by_left u g n s = let q = place_of (by_left g) u s.v s.step in n q.0 q.1 q.2.0 q.2.1

  pub none_by_right : (u : Tree) → m.greater e.right e.left → HasNoPart e.right u → StepsIn m e u → ⊥
  none_by_right u g n s = let q = place_of (by_right g) u s.v s.step in n q.0 q.1 q.2.0 q.2.1

  pub none_by_neither : (u : Tree) → e.left ≡ e.right → StepsIn m e u → ⊥
  none_by_neither u same s = let q = place_of {P = λ _. ⊥} (by_neither same) u s.v s.step in q.2

  pub none_by_either : (u : Tree) → HasNoPart e.left u → HasNoPart e.right u → StepsIn m e u → ⊥
  none_by_either u a b s = let q = place_of by_either u s.v s.step in go q.0 q.1 q.2
    where
      go : (p : ℕ) → p < nodes u → IsInstance e.left (subterm u p) ⊎ IsInstance e.right (subterm u p) → ⊥
      go p h (inl i) = a p h i.0 i.1
      go p h (inr i) = b p h i.0 i.1
