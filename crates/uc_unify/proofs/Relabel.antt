-- What it comes to that another place stands for a class.
use Rattle.std.proofs.Common.{◌≡◌, ℕ, ◌+◌, ◌<◌, ◌==◌, Bool, true, false, List, [], ◌∷◌, ◌++◌, length, map, get_or, slice_get, Some, if◌then◌else◌, refl, sym, ap, ap₂, ◌∙◌, subst, arith, ◌⊎◌, inl, inr}
use Rattle.std.proofs.lemmas.List.{get_or-map, length-map}
use Rattle.std.proofs.lemmas.Bool.{eqb-true, eq-eqb}
use Rattle.std.proofs.lemmas.Option.{slice_get_within, slice_get-get_or}
use Rattle.uc_term.specs.declared.node.Sym.{Sym}
use Rattle.uc_term.specs.declared.node.Node.{Node}
use Rattle.uc_term.specs.declared.node.Node.TheVariants.{Var, App}
use Rattle.uc_term.specs.Tree.{Tree, app}
use Rattle.uc_term.specs.Flat.{AreWhole}
use Rattle.uc_unify.specs.Closure.{at, values, IsMadeAt, class, Respects, AreMade, AllSame, AllBelow, instances, pairs_from, AreClasses, Advances, HasNoInstances, HasArguments}
use Rattle.uc_unify.proofs.Fitting.{same_append, same_parts, same_values, values_same, instance_made, made_alike, below_append, pairs_below, fits_args}

abbrev pub relabel : ℕ → ℕ → ℕ → ℕ
relabel a b c = if c == a then b else c

pub relabel_same : (a b c : ℕ) → c ≡ a → relabel a b c ≡ b
relabel_same a b c e = let q : (c == a) ≡ true = eq-eqb c a e in rw q refl

pub relabel_other : (a b c : ℕ) → (c ≡ a → ⊥) → relabel a b c ≡ c
relabel_other a b c n = go (c == a) refl
  where
    go : (t : Bool) → (c == a) ≡ t → (if t then b else c) ≡ c
    go true q = absurd (n (eqb-true c a q))
    go false q = refl

abbrev Either : ℕ → ℕ → ℕ → Type 0
Either a b c = ((c ≡ a) × (relabel a b c ≡ b)) ⊎ ((c ≡ a → ⊥) × (relabel a b c ≡ c))

either : (a b c : ℕ) → Either a b c
either a b c = go (c == a) refl
  where
    not : (c == a) ≡ false → c ≡ a → ⊥
    not q e = let both : true ≡ false = sym (eq-eqb c a e) ∙ q in cc

    go : (t : Bool) → (c == a) ≡ t → Either a b c
    go true q = inl (eqb-true c a q, relabel_same a b c (eqb-true c a q))
    go false q = inr (not q, relabel_other a b c (not q))

module _ (ns : List Node) (classes : List ℕ) (k : AreClasses ns classes) (a b : ℕ) (a_in : a < length ns) (b_in : b < length ns) (a_rep : class classes a ≡ a) (b_rep : class classes b ≡ b) (differ : a ≡ b → ⊥) where
  abbrev pub merged : List ℕ
  merged = map (relabel a b) classes

  pub class_merged : (p : ℕ) → p < length ns → class merged p ≡ relabel a b (class classes p)
  class_merged p h = get_or-map (relabel a b) classes p 0 0 (let l = k.long in omega arith)

  long : length merged ≡ length ns
  long = length-map classes (relabel a b) ∙ k.long

  b_stays : relabel a b b ≡ b
  b_stays = relabel_other a b b (λ e. differ (sym e))

  pub are_merged : AreClasses ns merged
  are_merged = record {
    long = long;
    within = λ p h. subst (λ (c : ℕ). c < length ns) (sym (class_merged p h)) (bound p h (either a b (class classes p)));
    stands = λ p h. stands p h (either a b (class classes p));
    one = λ p q x e f. class_merged p (inside p x e) ∙ ap (relabel a b) (k.one p q x e f) ∙ sym (class_merged q (inside q x f));
  }
    where
      inside : (p x : ℕ) → slice_get ns p ≡ Some (Var x) → p < length ns
      inside p x e = slice_get_within ns p (Var x) e

      bound : (p : ℕ) → p < length ns → Either a b (class classes p) → relabel a b (class classes p) < length ns
      bound p h (inl e) = subst (λ (c : ℕ). c < length ns) (sym e.1) b_in
      bound p h (inr e) = subst (λ (c : ℕ). c < length ns) (sym e.1) (k.within p h)

      stands : (p : ℕ) (h : p < length ns) → Either a b (class classes p) → class merged (class merged p) ≡ class merged p
      stands p h (inl e) =
          let here : class merged p ≡ b = class_merged p h ∙ e.1 in
          ap (class merged) here ∙ class_merged b b_in ∙ ap (relabel a b) b_rep ∙ b_stays ∙ sym here
      stands p h (inr e) =
          let here : class merged p ≡ class classes p = class_merged p h ∙ e.1 in
          ap (class merged) here ∙ class_merged (class classes p) (k.within p h) ∙ ap (relabel a b) (k.stands p h) ∙ e.1 ∙ sym here

  module _ (V : ℕ → Tree) where
    -- the two have one value
    pub joined_value : Respects merged V → V a ≡ V b
    joined_value r = r a (omega (arith, long)) ∙ ap V (class_merged a a_in ∙ ap (relabel a b) a_rep ∙ relabel_same a b a refl)

    pub respects_back : Respects merged V → Respects classes V
    respects_back r p h = go (either a b (class classes p))
      where
        in_ns : p < length ns
        in_ns = let l = k.long in omega arith

        here : V p ≡ V (relabel a b (class classes p))
        here = r p (omega (arith, long)) ∙ ap V (class_merged p in_ns)

        go : Either a b (class classes p) → V p ≡ V (class classes p)
        go (inl e) = here ∙ ap V e.1 ∙ sym (joined_value r) ∙ ap V (sym e.0)
        go (inr e) = here ∙ ap V e.1

    pub respects_on : Respects classes V → V a ≡ V b → Respects merged V
    respects_on r same p h = go (either a b (class classes p))
      where
        in_ns : p < length ns
        in_ns = let l = k.long in (let m : length merged ≡ length ns = long in omega arith)

        here : V p ≡ V (class classes p)
        here = r p (let l = k.long in (let m : length merged ≡ length ns = long in omega arith))

        go : Either a b (class classes p) → V p ≡ V (class merged p)
        go (inl e) = here ∙ ap V e.0 ∙ same ∙ ap V (sym e.1) ∙ ap V (sym (class_merged p in_ns))
        go (inr e) = here ∙ ap V (sym e.1) ∙ ap V (sym (class_merged p in_ns))

    pub made_back : AreMade ns merged V → IsMadeAt ns V a → AreMade ns classes V
    made_back m here p h rep = go (either a b p)
      where
        in_ns : p < length ns
        in_ns = let l = k.long in omega arith

        go : Either a b p → IsMadeAt ns V p
        go (inl e) = subst (IsMadeAt ns V) (sym e.0) here
        go (inr e) = m p (omega (arith, long)) (class_merged p in_ns ∙ ap (relabel a b) rep ∙ e.1)

-- The two places of a pair have one class already.
pub advances_same : (ns : List Node) (classes : List ℕ) (pairs : List (ℕ × ℕ)) (p q : ℕ) → AreClasses ns classes → AllBelow (length ns) pairs → p < length ns → q < length ns → class classes p ≡ class classes q → Advances ns classes (pairs ++ (p, q) ∷ []) classes pairs
advances_same ns classes pairs p q k below hp hq e = record {
  are_classes = k;
  below = below;
  sound = λ V r s m. (r, same_append V pairs ((p, q) ∷ []) s (r p (let l = k.long in omega arith) ∙ ap V e ∙ sym (r q (let l = k.long in omega arith)), tt), m);
  complete = λ τ r s. (r, (same_parts (instances ns τ) pairs ((p, q) ∷ []) s).0);
}

-- the values of the places that stand for the two of a pair
rep_value : (ns : List Node) (classes : List ℕ) (V : ℕ → Tree) (pairs : List (ℕ × ℕ)) (p q : ℕ) → AreClasses ns classes → p < length ns → q < length ns → Respects classes V → AllSame (pairs ++ (p, q) ∷ []) V → V (class classes p) ≡ V (class classes q)
rep_value ns classes V pairs p q k hp hq r s = sym (r p (let l = k.long in omega arith)) ∙ (same_parts V pairs ((p, q) ∷ []) s).1.0 ∙ r q (let l = k.long in omega arith)

module _ (ns : List Node) (classes : List ℕ) (pairs : List (ℕ × ℕ)) (p q : ℕ) (k : AreClasses ns classes) (below : AllBelow (length ns) pairs) (hp : p < length ns) (hq : q < length ns) where
  abbrev A : ℕ
  A = class classes p

  abbrev B : ℕ
  B = class classes q

  pair_value : (V : ℕ → Tree) → Respects classes V → V A ≡ V B → V p ≡ V q
  pair_value V r e = r p (let l = k.long in omega arith) ∙ e ∙ sym (r q (let l = k.long in omega arith))

  -- a variable joins the class of the other place
  pub advances_left : (x : ℕ) → slice_get ns A ≡ Some (Var x) → (A ≡ B → ⊥) → Advances ns classes (pairs ++ (p, q) ∷ []) (map (relabel A B) classes) pairs
  advances_left x e ne = record {
    are_classes = are_merged ns classes k A B (k.within p hp) (k.within q hq) (k.stands p hp) (k.stands q hq) ne;
    below = below;
    sound = λ V r s m.
        (let back = respects_back ns classes k A B (k.within p hp) (k.within q hq) (k.stands p hp) (k.stands q hq) ne V r in
        (back, same_append V pairs ((p, q) ∷ []) s (pair_value V back (joined_value ns classes k A B (k.within p hp) (k.within q hq) (k.stands p hp) (k.stands q hq) ne V r), tt), made_back ns classes k A B (k.within p hp) (k.within q hq) (k.stands p hp) (k.stands q hq) ne V m (λ f n h. absurd (let both : Some (Var x) ≡ Some (App f n) = sym e ∙ h in cc))));
    complete = λ τ r s. (respects_on ns classes k A B (k.within p hp) (k.within q hq) (k.stands p hp) (k.stands q hq) ne (instances ns τ) r (rep_value ns classes (instances ns τ) pairs p q k hp hq r s), (same_parts (instances ns τ) pairs ((p, q) ∷ []) s).0);
  }

  pub advances_right : (x : ℕ) → slice_get ns B ≡ Some (Var x) → (A ≡ B → ⊥) → Advances ns classes (pairs ++ (p, q) ∷ []) (map (relabel B A) classes) pairs
  advances_right x e ne' = record {
    are_classes = are_merged ns classes k B A (k.within q hq) (k.within p hp) (k.stands q hq) (k.stands p hp) ne;
    below = below;
    sound = λ V r s m.
        (let back = respects_back ns classes k B A (k.within q hq) (k.within p hp) (k.stands q hq) (k.stands p hp) ne V r in
        (back, same_append V pairs ((p, q) ∷ []) s (pair_value V back (sym (joined_value ns classes k B A (k.within q hq) (k.within p hp) (k.stands q hq) (k.stands p hp) ne V r)), tt), made_back ns classes k B A (k.within q hq) (k.within p hp) (k.stands q hq) (k.stands p hp) ne V m (λ f n h. absurd (let both : Some (Var x) ≡ Some (App f n) = sym e ∙ h in cc))));
    complete = λ τ r s. (respects_on ns classes k B A (k.within q hq) (k.within p hp) (k.stands q hq) (k.stands p hp) ne (instances ns τ) r (sym (rep_value ns classes (instances ns τ) pairs p q k hp hq r s)), (same_parts (instances ns τ) pairs ((p, q) ∷ []) s).0);
  }
    where
      ne : class classes q ≡ class classes p → ⊥
      ne e = ne' (sym e)

  module _ (w : AreWhole ns) (f : Sym) (n : ℕ) (at_a : slice_get ns A ≡ Some (App f n)) where
    -- two terms with one symbol are joined with their arguments
    pub advances_both : slice_get ns B ≡ Some (App f n) → (A ≡ B → ⊥) → Advances ns classes (pairs ++ (p, q) ∷ []) (map (relabel A B) classes) (pairs ++ pairs_from ns (A + 1) (B + 1) n)
    advances_both at_b ne = record {
      are_classes = are_merged ns classes k A B (k.within p hp) (k.within q hq) (k.stands p hp) (k.stands q hq) ne;
      below = below_append (length ns) pairs (pairs_from ns (A + 1) (B + 1) n) below (pairs_below ns w n (A + 1) (B + 1) (fits_args ns w A n (f, at_a)) (fits_args ns w B n (f, at_b)));
      sound = λ V r s m. sound V r (same_parts V pairs (pairs_from ns (A + 1) (B + 1) n) s) m;
      complete = λ τ r s.
          (let e = rep_value ns classes (instances ns τ) pairs p q k hp hq r s in
          (respects_on ns classes k A B (k.within p hp) (k.within q hq) (k.stands p hp) (k.stands q hq) ne (instances ns τ) r e, same_append (instances ns τ) pairs (pairs_from ns (A + 1) (B + 1) n) (same_parts (instances ns τ) pairs ((p, q) ∷ []) s).0 (values_same (instances ns τ) ns n (A + 1) (B + 1) (arguments τ e))));
    }
      where
        arguments : (τ : ℕ → Tree) → instances ns τ (class classes p) ≡ instances ns τ (class classes q) → values (instances ns τ) ns (class classes p + 1) n ≡ values (instances ns τ) ns (class classes q + 1) n
        arguments τ e = let both : app f (values (instances ns τ) ns (class classes p + 1) n) ≡ app f (values (instances ns τ) ns (class classes q + 1) n) = sym (instance_made ns w τ (class classes p) f n at_a) ∙ e ∙ instance_made ns w τ (class classes q) f n at_b in cc

        made : (V : ℕ → Tree) → V (class classes p) ≡ V (class classes q) → AllSame (pairs_from ns (class classes p + 1) (class classes q + 1) n) V → IsMadeAt ns V (class classes q) → IsMadeAt ns V (class classes p)
        made V e s m g i h =
            let both : Some (App f n) ≡ Some (App g i) = sym at_a ∙ h in
            let head : f ≡ g = cc in
            let many : n ≡ i = cc in
            rw (← head, ← many) (e ∙ m f n at_b ∙ ap (app f) (sym (same_values V ns n (class classes p + 1) (class classes q + 1) s)))

        sound : (V : ℕ → Tree) → Respects (map (relabel (class classes p) (class classes q)) classes) V → AllSame pairs V × AllSame (pairs_from ns (class classes p + 1) (class classes q + 1) n) V → AreMade ns (map (relabel (class classes p) (class classes q)) classes) V → Respects classes V × AllSame (pairs ++ (p, q) ∷ []) V × AreMade ns classes V
        sound V r s m =
            let back = respects_back ns classes k (class classes p) (class classes q) (k.within p hp) (k.within q hq) (k.stands p hp) (k.stands q hq) ne V r in
            let e = joined_value ns classes k (class classes p) (class classes q) (k.within p hp) (k.within q hq) (k.stands p hp) (k.stands q hq) ne V r in
            let b_made : IsMadeAt ns V (class classes q) = m (class classes q) (let l = (are_merged ns classes k (class classes p) (class classes q) (k.within p hp) (k.within q hq) (k.stands p hp) (k.stands q hq) ne).long in let i = k.within q hq in omega arith) (class_merged ns classes k (class classes p) (class classes q) (k.within p hp) (k.within q hq) (k.stands p hp) (k.stands q hq) ne (class classes q) (k.within q hq) ∙ ap (relabel (class classes p) (class classes q)) (k.stands q hq) ∙ relabel_other (class classes p) (class classes q) (class classes q) (λ x. ne (sym x))) in
            (back, same_append V pairs ((p, q) ∷ []) s.0 (r_pair V back e, tt), made_back ns classes k (class classes p) (class classes q) (k.within p hp) (k.within q hq) (k.stands p hp) (k.stands q hq) ne V m (made V e s.1 b_made))
          where
            r_pair : (V : ℕ → Tree) → Respects classes V → V (class classes p) ≡ V (class classes q) → V p ≡ V q
            r_pair V r e = pair_value V r e

    -- two symbols clash
    pub no_instances : (g : Sym) (m : ℕ) → slice_get ns B ≡ Some (App g m) → ((f ≡ g) × (n ≡ m) → ⊥) → HasNoInstances ns classes (pairs ++ (p, q) ∷ [])
    no_instances g m at_b ne τ r s =
        let e = rep_value ns classes (instances ns τ) pairs p q k hp hq r s in
        ne (made_alike (instances ns τ) ns (A + 1) (B + 1) f g n m (sym (instance_made ns w τ A f n at_a) ∙ e ∙ instance_made ns w τ B g m at_b))

-- the same where the places that stand for the two are known
module _ (ns : List Node) (classes : List ℕ) (pairs : List (ℕ × ℕ)) (p q : ℕ) (k : AreClasses ns classes) (below : AllBelow (length ns) pairs) (hp : p < length ns) (hq : q < length ns) (a b : ℕ) (a_is : a ≡ class classes p) (b_is : b ≡ class classes q) where
  pub a_in : a < length ns
  a_in = subst (λ (c : ℕ). c < length ns) (sym a_is) (k.within p hp)

  pub b_in : b < length ns
  b_in = subst (λ (c : ℕ). c < length ns) (sym b_is) (k.within q hq)

  pub left_at : (a ≡ b → ⊥) → (x : ℕ) (d : Node) → get_or ns a d ≡ Var x → (new : List ℕ) → new ≡ map (relabel a b) classes → Advances ns classes (pairs ++ (p, q) ∷ []) new pairs
  left_at ne x d at new e = rw (e, a_is, b_is) (advances_left ns classes pairs p q k below hp hq x (ap (slice_get ns) (sym a_is) ∙ slice_get-get_or ns a d a_in ∙ ap Some at) (λ s. ne (a_is ∙ s ∙ sym b_is)))

  pub right_at : (a ≡ b → ⊥) → (x : ℕ) (d : Node) → get_or ns b d ≡ Var x → (new : List ℕ) → new ≡ map (relabel b a) classes → Advances ns classes (pairs ++ (p, q) ∷ []) new pairs
  right_at ne x d at new e = rw (e, a_is, b_is) (advances_right ns classes pairs p q k below hp hq x (ap (slice_get ns) (sym b_is) ∙ slice_get-get_or ns b d b_in ∙ ap Some at) (λ s. ne (a_is ∙ s ∙ sym b_is)))

  pub arguments_a : (f : Sym) (n : ℕ) (d : Node) → get_or ns a d ≡ App f n → HasArguments ns a n
  arguments_a f n d at = (f, slice_get-get_or ns a d a_in ∙ ap Some at)

  pub arguments_b : (f : Sym) (n : ℕ) (d : Node) → get_or ns b d ≡ App f n → HasArguments ns b n
  arguments_b f n d at = (f, slice_get-get_or ns b d b_in ∙ ap Some at)

  module _ (w : AreWhole ns) (f : Sym) (n : ℕ) (d : Node) (at : get_or ns a d ≡ App f n) where
    at_a : slice_get ns (class classes p) ≡ Some (App f n)
    at_a = ap (slice_get ns) (sym a_is) ∙ slice_get-get_or ns a d a_in ∙ ap Some at

    pub both_at : (a ≡ b → ⊥) → get_or ns b d ≡ App f n → (new : List ℕ) (new_pairs : List (ℕ × ℕ)) → new ≡ map (relabel a b) classes → new_pairs ≡ pairs ++ pairs_from ns (a + 1) (b + 1) n → Advances ns classes (pairs ++ (p, q) ∷ []) new new_pairs
    both_at ne at' new new_pairs e e' = rw (e, e', a_is, b_is) (advances_both ns classes pairs p q k below hp hq w f n at_a (ap (slice_get ns) (sym b_is) ∙ slice_get-get_or ns b d b_in ∙ ap Some at') (λ s. ne (a_is ∙ s ∙ sym b_is)))

    pub clash_at : ((x : ℕ) → get_or ns b d ≡ Var x → ⊥) → (get_or ns b d ≡ App f n → ⊥) → HasNoInstances ns classes (pairs ++ (p, q) ∷ [])
    clash_at not_var not_app = go (get_or ns b d) refl
      where
        go : (m : Node) → get_or ns b d ≡ m → HasNoInstances ns classes (pairs ++ (p, q) ∷ [])
        go (Var x) e = absurd (not_var x e)
        go (App g m) e = no_instances ns classes pairs p q k below hp hq w f n at_a g m (ap (slice_get ns) (sym b_is) ∙ slice_get-get_or ns b d b_in ∙ ap Some e) (λ s. not_app (e ∙ ap₂ App (sym s.0) (sym s.1)))
