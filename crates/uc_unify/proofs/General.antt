-- Where all classes are sized, the solution is a most general unifier.
use Rattle.std.proofs.Common.{◌≡◌, ℕ, zero, suc, ◌+◌, ◌-◌, ◌<◌, ◌≤◌, ◌==◌, Bool, true, false, List, [], ◌∷◌, length, get_or, slice_get, Some, refl, sym, ap, ap₂, ◌∙◌, subst, arith, ◌⊎◌, inl, inr}
use Rattle.std.proofs.lemmas.Bool.{eqb-true, eq-eqb}
use Rattle.std.proofs.lemmas.Option.{slice_get_within, slice_get-get_or}
use Rattle.uc_term.specs.declared.node.Sym.{Sym}
use Rattle.uc_term.specs.declared.node.Node.{Node}
use Rattle.uc_term.specs.declared.node.Node.TheVariants.{Var, App}
use Rattle.uc_term.specs.Tree.{Tree, var, app, Trees, more, nodes, nodes_all, apply, apply_all}
use Rattle.uc_term.specs.Flat.{AreWhole}
use Rattle.uc_term.proofs.Terms.{nodes_pos}
use Rattle.uc_unify.specs.Unifiers.{IsMostGeneral}
use Rattle.uc_unify.specs.Closure.{at, next, values, IsMadeAt, class, Respects, AreMade, instances, AreClasses, IsClosed}
use Rattle.uc_unify.specs.Solutions.{Solves, is_free, is_made, SolvesAll, no_more, one_more, AreSized, IsOneOf, AreStuck}
use Rattle.uc_unify.proofs.Fitting.{Fits, fits_place, fits_next, fits_args, instance_made, term_made, variable_at}
use Rattle.uc_unify.proofs.Sizing.{solves_class}
use Rattle.uc_unify.proofs.Writing.{solves_once, at_made}

-- a variable stands at a place, or nowhere
pub stands_or_not : (ns : List Node) (x : ℕ) → ((p : ℕ) × (slice_get ns p ≡ Some (Var x))) ⊎ ((p : ℕ) → slice_get ns p ≡ Some (Var x) → ⊥)
stands_or_not [] x = inr (λ p e. cc)
stands_or_not (App f n ∷ ns) x = elim (stands_or_not ns x) [ inl h ↦ inl (suc h.0, h.1) | inr h ↦ inr (later ns x f n h) ]
  where
    later : (ns : List Node) (x : ℕ) (f : Sym) (n : ℕ) → ((p : ℕ) → slice_get ns p ≡ Some (Var x) → ⊥) → (p : ℕ) → slice_get (App f n ∷ ns) p ≡ Some (Var x) → ⊥
    later ns x f n h zero e = cc
    later ns x f n h (suc p) e = h p e
stands_or_not (Var y ∷ ns) x = go (y == x) refl (stands_or_not ns x)
  where
    later : ((p : ℕ) → slice_get ns p ≡ Some (Var x) → ⊥) → (y ≡ x → ⊥) → (p : ℕ) → slice_get (Var y ∷ ns) p ≡ Some (Var x) → ⊥
    later h n zero e = n cc
    later h n (suc p) e = h p e

    go : (b : Bool) → (y == x) ≡ b → ((p : ℕ) × (slice_get ns p ≡ Some (Var x))) ⊎ ((p : ℕ) → slice_get ns p ≡ Some (Var x) → ⊥) → ((p : ℕ) × (slice_get (Var y ∷ ns) p ≡ Some (Var x))) ⊎ ((p : ℕ) → slice_get (Var y ∷ ns) p ≡ Some (Var x) → ⊥)
    go true e h = inl (zero, ap (λ z. Some (Var z)) (eqb-true y x e))
    go false e (inl h) = inl (suc h.0, h.1)
    go false e (inr h) = inr (later h (λ q. let both : true ≡ false = sym (eq-eqb y x q) ∙ e in cc))

node_at : (ns : List Node) (p : ℕ) → p < length ns → (n : Node) × (slice_get ns p ≡ Some n)
node_at ns p h = (get_or ns p (Var 0), slice_get-get_or ns p (Var 0) h)

module _ (ns : List Node) (w : AreWhole ns) (second : ℕ) (classes : List ℕ) (closed : IsClosed ns second classes) where
  abbrev k : AreClasses ns classes
  k = closed.are_classes

  -- a term at each place
  module _ (solved : (p : ℕ) → p < length ns → (t : Tree) × Solves ns classes p t) where
    choose : (p : ℕ) → (p < length ns) ⊎ (length ns ≤ p) → (t : Tree) × (p < length ns → Solves ns classes p t)
    choose p (inl h) = let s = solved p h in (s.0, λ _. s.1)
    choose p (inr h) = (var 0, λ l. absurd (omega arith))

    split_at : (p : ℕ) → (p < length ns) ⊎ (length ns ≤ p)
    split_at p = grind arith

    pub V : ℕ → Tree
    V p = (choose p (split_at p)).0

    pub V_solves : (p : ℕ) → p < length ns → Solves ns classes p (V p)
    unfolding V
    V_solves p h = (choose p (split_at p)).1 h

    pub V_is : (p : ℕ) (t : Tree) → p < length ns → Solves ns classes p t → V p ≡ t
    V_is p t h s = solves_once ns classes p (V p) t (V_solves p h) s

    respects : Respects classes V
    respects p h =
        let i : p < length ns = let l = k.long in omega arith in
        sym (V_is (class classes p) (V p) (k.within p i) (solves_class ns classes p (class classes p) (V p) (k.stands p i) (V_solves p i)))

    all_values : (q n : ℕ) (ts : Trees) → Fits ns q n → SolvesAll ns classes q n ts → values V ns q n ≡ ts
    all_values q _ _ f no_more = refl
    all_values q _ _ f (one_more {n = n} {t = t} {ts = ts} s r) = ap₂ more (V_is q t (fits_place ns w q n f) s) (all_values (next ns q) n ts (fits_next ns w q n f) r)

    made : AreMade ns classes V
    made p h rep f n e =
        let i : p < length ns = let l = k.long in omega arith in
        let a = at_made ns classes p n f (V p) (V_solves p i) (ap (slice_get ns) rep ∙ e) in
        let all : SolvesAll ns classes (p + 1) n a.0 = subst (λ (c : ℕ). SolvesAll ns classes (c + 1) n a.0) rep a.1 in
        a.2 ∙ ap (app f) (sym (all_values (p + 1) n a.0 (fits_args ns w p n (f, e)) all))

    pub everywhere : (p : ℕ) → p < length ns → IsMadeAt ns V p
    everywhere = (closed.sound V respects made).0

    pub roots : V 0 ≡ V second
    roots = (closed.sound V respects made).1

    module _ (σ : ℕ → Tree) (solution : (p x : ℕ) → slice_get ns p ≡ Some (Var x) → σ x ≡ V p) where
      abbrev IsInstance : ℕ → Type 0
      IsInstance m = (p : ℕ) → length ns - p ≤ m → p < length ns → instances ns σ p ≡ V p

      instances_are : (m : ℕ) → IsInstance m → (n q : ℕ) → length ns - q ≤ m → Fits ns q n → values (instances ns σ) ns q n ≡ values V ns q n
      instances_are m ih zero q l f = refl
      instances_are m ih (suc n) q l f = ap₂ more (ih q l (fits_place ns w q n f)) (instances_are m ih n (next ns q) (let g = nodes_pos (at ns q) in omega arith) (fits_next ns w q n f))

      by_node : (m : ℕ) → IsInstance m → (p : ℕ) → length ns - p ≤ suc m → p < length ns → (n : Node) × (slice_get ns p ≡ Some n) → instances ns σ p ≡ V p
      by_node m ih p l h (Var x, e) = ap (apply σ) (variable_at ns p x e) ∙ solution p x e
      by_node m ih p l h (App f n, e) = instance_made ns w σ p f n e ∙ ap (app f) (instances_are m ih n (p + 1) (omega arith) (fits_args ns w p n (f, e))) ∙ sym (everywhere p h f n e)

      instance_is : (m : ℕ) → IsInstance m
      instance_is zero p l h = absurd (omega arith)
      instance_is (suc m) p l h = by_node m (instance_is m) p l h (node_at ns p h)

      pub V_instance : (p : ℕ) → p < length ns → instances ns σ p ≡ V p
      V_instance p h = instance_is (length ns - p) p (omega arith) h

    module _ (τ : ℕ → Tree) (unifies : instances ns τ 0 ≡ instances ns τ second) where
      same : (p : ℕ) → p < length ns → instances ns τ p ≡ instances ns τ (class classes p)
      same p h = closed.complete τ unifies p (let l = k.long in omega arith)

      mutual
        general_at : (p : ℕ) (t : Tree) → p < length ns → Solves ns classes p t → apply τ t ≡ instances ns τ p
        general_at p _ h (is_free {x = x} e) = ap (apply τ) (sym (variable_at ns (class classes p) x e)) ∙ sym (same p h)
        general_at p _ h (is_made {n = n} {f = f} {ts = ts} e s) = ap (app f) (general_all (class classes p + 1) n ts (fits_args ns w (class classes p) n (f, e)) s) ∙ sym (instance_made ns w τ (class classes p) f n e) ∙ sym (same p h)

        general_all : (q n : ℕ) (ts : Trees) → Fits ns q n → SolvesAll ns classes q n ts → apply_all τ ts ≡ values (instances ns τ) ns q n
        general_all q _ _ f no_more = refl
        general_all q _ _ f (one_more {n = n} {t = t} {ts = ts} s r) = ap₂ more (general_at q t (fits_place ns w q n f) s) (general_all (next ns q) n ts (fits_next ns w q n f) r)

      pub general : (p : ℕ) → p < length ns → apply τ (V p) ≡ instances ns τ p
      general p h = general_at p (V p) h (V_solves p h)

    pub most_general : (σ : ℕ → Tree) → ((p x : ℕ) → slice_get ns p ≡ Some (Var x) → σ x ≡ V p) → ((x : ℕ) → ((p : ℕ) → slice_get ns p ≡ Some (Var x) → ⊥) → σ x ≡ var x) → 0 < length ns → second < length ns → IsMostGeneral (at ns 0) (at ns second) σ
    most_general σ here others first inside = record {
      unifies = V_instance σ here 0 first ∙ roots ∙ sym (V_instance σ here second inside);
      general = λ τ u x. go τ u x (stands_or_not ns x);
    }
      where
        go : (τ : ℕ → Tree) → apply τ (at ns 0) ≡ apply τ (at ns second) → (x : ℕ) → ((p : ℕ) × (slice_get ns p ≡ Some (Var x))) ⊎ ((p : ℕ) → slice_get ns p ≡ Some (Var x) → ⊥) → apply τ (σ x) ≡ τ x
        go τ u x (inl h) = ap (apply τ) (here h.0 x h.1) ∙ general τ u h.0 (slice_get_within ns h.0 (Var x) h.1) ∙ ap (apply τ) (variable_at ns h.0 x h.1)
        go τ u x (inr h) = ap (apply τ) (others x h)

    -- the terms within a term are no larger
    abbrev IsBound : ℕ → Type 0
    IsBound m = (p : ℕ) → length ns - p ≤ m → p < length ns → (q : ℕ) → p ≤ q → q < next ns p → nodes (V q) ≤ nodes (V p)

    bound_all : (m : ℕ) → IsBound m → (n p : ℕ) → length ns - p ≤ m → Fits ns p n → (q : ℕ) → p ≤ q → q < p + nodes_all (values (at ns) ns p n) → nodes (V q) ≤ nodes_all (values V ns p n)
    bound_all m ih zero p l f q a b = absurd (omega arith)
    bound_all m ih (suc n) p l f q a b = go (bound_all m ih n (next ns p) (let g = nodes_pos (at ns p) in omega arith) (fits_next ns w p n f) q) (grind arith)
      where
        go : (next ns p ≤ q → q < next ns p + nodes_all (values (at ns) ns (next ns p) n) → nodes (V q) ≤ nodes_all (values V ns (next ns p) n)) → (q < next ns p) ⊎ (next ns p ≤ q) → nodes (V q) ≤ nodes (V p) + nodes_all (values V ns (next ns p) n)
        go later (inl i) = let s = ih p l (fits_place ns w p n f) q a i in omega arith
        go later (inr o) = let s = later o (omega arith) in omega arith

    bound_node : (m : ℕ) → IsBound m → (p : ℕ) → length ns - p ≤ suc m → p < length ns → (q : ℕ) → p ≤ q → q < next ns p → (n : Node) × (slice_get ns p ≡ Some n) → (q ≡ p) ⊎ (p < q) → nodes (V q) ≤ nodes (V p)
    bound_node m ih p l h q a b n (inl e) = let s = ap (λ r. nodes (V r)) e in omega arith
    bound_node m ih p l h q a b (Var x, e) (inr o) = let one = ap nodes (variable_at ns p x e) in absurd (omega arith)
    bound_node m ih p l h q a b (App f n, e) (inr o) =
        let whole = ap nodes (everywhere p h f n e) in
        let size = ap nodes (term_made ns w p f n e) in
        let s = bound_all m ih n (p + 1) (omega arith) (fits_args ns w p n (f, e)) q (omega arith) (omega arith) in
        omega arith

    bound : (m : ℕ) → IsBound m
    bound zero p l h q a b = absurd (omega arith)
    bound (suc m) p l h q a b = bound_node m (bound m) p l h q a b (node_at ns p h) (grind arith)

    pub all_bound : next ns 0 ≡ second → next ns second ≡ length ns → second < length ns → (q : ℕ) → q < length ns → nodes (V q) ≤ nodes (V 0)
    all_bound first last inside q h = go (grind arith)
      where
        go : (q < second) ⊎ (second ≤ q) → nodes (V q) ≤ nodes (V 0)
        go (inl a) = bound (length ns - 0) 0 (omega arith) (omega arith) q (omega arith) (omega arith)
        go (inr b) = let s = bound (length ns - second) second (omega arith) inside q b (omega arith) in let e = ap nodes roots in omega arith

  -- where a class has no size and is stuck, there is no unifier
  module _ (sizes : List ℕ) (are_stuck : AreStuck ns classes sizes) (τ : ℕ → Tree) (unifies : instances ns τ 0 ≡ instances ns τ second) where
    one_of : (n p r : ℕ) → Fits ns p n → IsOneOf ns classes p n r → (r < length ns) × (nodes (instances ns τ r) ≤ nodes_all (values (instances ns τ) ns p n))
    one_of zero p r f o = absurd o
    one_of (suc n) p r f (inl e) = (let h = fits_place ns w p n f in omega arith, let s = ap (λ q. nodes (instances ns τ q)) e in omega arith)
    one_of (suc n) p r f (inr o) = let s = one_of n (next ns p) r (fits_next ns w p n f) o in (s.0, let l = s.1 in omega arith)

    never : (m p : ℕ) → p < length ns → class classes p ≡ p → get_or sizes p 0 ≡ 0 → nodes (instances ns τ p) ≤ m → ⊥
    never zero p h rep z l = let g = nodes_pos (instances ns τ p) in omega arith
    never (suc m) p h rep z l =
        let s = are_stuck p h rep z in
        let o = one_of s.n (p + 1) s.r (fits_args ns w p s.n (s.f, s.symbol)) s.argument in
        let whole = ap nodes (instance_made ns w τ p s.f s.n s.symbol) in
        let same = ap nodes (closed.complete τ unifies s.r (let i = o.0 in let j = k.long in omega arith)) in
        never m (class classes s.r) (k.within s.r o.0) (k.stands s.r o.0) s.no_size (let i = o.1 in omega arith)

    pub no_unifier : (p : ℕ) → p < length ns → get_or sizes (class classes p) 0 ≡ 0 → ⊥
    no_unifier p h z = never (nodes (instances ns τ (class classes p))) (class classes p) (k.within p h) (k.stands p h) z (omega arith)

  -- where all classes are sized, each place has its term
  pub solved_of : (sizes : List ℕ) → AreSized ns classes sizes → ((p : ℕ) → p < length ns → get_or sizes (class classes p) 0 ≡ 0 → ⊥) → (p : ℕ) → p < length ns → (t : Tree) × Solves ns classes p t
  solved_of sizes sized all p h = elim (sized.sized (class classes p) (k.within p h)) [
    | inl z ↦ absurd (all p h z)
    | inr s ↦ (s.term, solves_class ns classes (class classes p) p s.term (sym (k.stands p h)) s.solves)
  ]
