-- What the closure keeps: the values that the classes and the pairs ask for make the two places equal, and the instances of
-- each unifier are such values.
use Rattle.std.proofs.Common.{◌≡◌, ℕ, ◌<◌, ◌≤◌, true, List, [], ◌∷◌, ◌++◌, length, slice_get, Some, sym, ap, ◌∙◌, subst, arith, ◌⊎◌, inl, inr}
use Rattle.std.proofs.lemmas.Option.{slice_get_within}
use Rattle.uc_term.specs.declared.node.Node.{Node}
use Rattle.uc_term.specs.declared.node.Node.TheVariants.{Var, App}
use Rattle.uc_term.specs.Tree.{Tree, apply}
use Rattle.uc_unify.specs.Closure.{IsMadeAt, class, Respects, AreMade, AllSame, AllBelow, instances, AreClasses, Advances, IsClosed, IsFirstPlace, AreFirst, HasNoInstances}
use Rattle.uc_unify.specs.Forest.{AreParents, IsForest, IsUnited}
use Rattle.uc_unify.proofs.Fitting.{below_parts, variable_at}
use Rattle.uc_unify.proofs.Linking.{forest_starts}

pub record Closing (ns : List Node) (second : ℕ) (classes : List ℕ) (pairs : List (ℕ × ℕ)) : Type 0 where
  pub are_classes : AreClasses ns classes
  pub below : AllBelow (length ns) pairs
  pub sound : (V : ℕ → Tree) → Respects classes V → AllSame pairs V → AreMade ns classes V → ((p : ℕ) → p < length ns → IsMadeAt ns V p) × (V 0 ≡ V second)
  pub complete : (τ : ℕ → Tree) → instances ns τ 0 ≡ instances ns τ second → Respects classes (instances ns τ) × AllSame pairs (instances ns τ)

-- the same of classes that are trees
pub record Joining (ns : List Node) (second : ℕ) (parents heads : List ℕ) (pairs : List (ℕ × ℕ)) : Type 0 where
  pub classes : List ℕ
  pub forest : IsForest parents heads classes
  pub closing : Closing ns second classes pairs

pub closing_goes_on : (ns : List Node) (second : ℕ) (classes new_classes : List ℕ) (pairs all new_pairs : List (ℕ × ℕ)) (p q : ℕ) → all ≡ pairs ++ (p, q) ∷ [] → Closing ns second classes all → Advances ns classes (pairs ++ (p, q) ∷ []) new_classes new_pairs → Closing ns second new_classes new_pairs
closing_goes_on ns second classes new_classes pairs all new_pairs p q e c a =
    let P : List (ℕ × ℕ) → Type 0 = Closing ns second classes in
    let b : Closing ns second classes (pairs ++ (p, q) ∷ []) = subst P e c in
    record {
      are_classes = a.are_classes;
      below = a.below;
      sound = λ V r s m. (let o = a.sound V r s m in b.sound V o.0 o.1 o.2);
      complete = λ τ u. (let o = b.complete τ u in a.complete τ o.0 o.1);
    }

pub closing_fails : (ns : List Node) (second : ℕ) (classes : List ℕ) (pairs all : List (ℕ × ℕ)) (p q : ℕ) → all ≡ pairs ++ (p, q) ∷ [] → Closing ns second classes all → HasNoInstances ns classes (pairs ++ (p, q) ∷ []) → (τ : ℕ → Tree) → instances ns τ 0 ≡ instances ns τ second → ⊥
closing_fails ns second classes pairs all p q e c n τ u =
    let P : List (ℕ × ℕ) → Type 0 = Closing ns second classes in
    let o = (subst P e c).complete τ u in
    n τ o.0 o.1

pub closing_ends : (ns : List Node) (second : ℕ) (classes : List ℕ) (pairs : List (ℕ × ℕ)) → pairs ≡ [] → Closing ns second classes pairs → IsClosed ns second classes
closing_ends ns second classes pairs e c =
    let P : List (ℕ × ℕ) → Type 0 = Closing ns second classes in
    let b : Closing ns second classes [] = subst P e c in
    record { are_classes = b.are_classes; sound = λ V r m. b.sound V r tt m; complete = λ τ u. (b.complete τ u).0 }

pub pair_in : (ns : List Node) (second : ℕ) (classes : List ℕ) (pairs all : List (ℕ × ℕ)) (p q : ℕ) → all ≡ pairs ++ (p, q) ∷ [] → Closing ns second classes all → AllBelow (length ns) pairs × ((p < length ns) × (q < length ns))
pair_in ns second classes pairs all p q e c =
    let P : List (ℕ × ℕ) → Type 0 = AllBelow (length ns) in
    let r = below_parts (length ns) pairs ((p, q) ∷ []) (subst P e c.below) in
    (r.0, (r.1.0, r.1.1))

module _ (ns : List Node) (classes : List ℕ) (f : AreFirst ns classes) where
  self : (p : ℕ) → IsFirstPlace ns p (class classes p) → (x : ℕ) → slice_get ns p ≡ Some (Var x) → slice_get ns (class classes p) ≡ Some (Var x)
  self p (inl a) x e = ap (slice_get ns) a.0 ∙ e
  self p (inr b) x e = let y = b.1.0 in let both : Some (Var y) ≡ Some (Var x) = sym b.1.1 ∙ e in let same : y ≡ x = cc in b.1.2 ∙ ap (λ z. Some (Var z)) same

  none_before : (p : ℕ) → IsFirstPlace ns p (class classes p) → (x : ℕ) → slice_get ns p ≡ Some (Var x) → (q : ℕ) → q < class classes p → slice_get ns q ≡ Some (Var x) → ⊥
  none_before p (inl a) x e q h k = a.1 x e q (let i = a.0 in omega arith) k
  none_before p (inr b) x e q h k = let y = b.1.0 in let both : Some (Var y) ≡ Some (Var x) = sym b.1.1 ∙ e in let same : y ≡ x = cc in b.1.3 q h (k ∙ ap (λ z. Some (Var z)) (sym same))

  within : (p : ℕ) → p < length ns → IsFirstPlace ns p (class classes p) → class classes p < length ns
  within p h (inl a) = let i = a.0 in omega arith
  within p h (inr b) = let i = b.0 in omega arith

  once : (p q x : ℕ) → slice_get ns p ≡ Some (Var x) → slice_get ns q ≡ Some (Var x) → class classes p ≡ class classes q
  once p q x e k =
      let hp = slice_get_within ns p (Var x) e in
      let hq = slice_get_within ns q (Var x) k in
      let a = f.first p hp in
      let b = f.first q hq in
      go (grind arith) (none_before p a x e) (none_before q b x k) (self p a x e) (self q b x k)
    where
      go : (class classes p < class classes q) ⊎ ((class classes p ≡ class classes q) ⊎ (class classes q < class classes p)) → ((r : ℕ) → r < class classes p → slice_get ns r ≡ Some (Var x) → ⊥) → ((r : ℕ) → r < class classes q → slice_get ns r ≡ Some (Var x) → ⊥) → slice_get ns (class classes p) ≡ Some (Var x) → slice_get ns (class classes q) ≡ Some (Var x) → class classes p ≡ class classes q
      go (inl h) m n i j = absurd (n (class classes p) h i)
      go (inr (inl e)) m n i j = e
      go (inr (inr h)) m n i j = absurd (m (class classes q) h j)

  stands : (p : ℕ) → p < length ns → IsFirstPlace ns p (class classes p) → class classes (class classes p) ≡ class classes p
  stands p h (inl a) = ap (class classes) a.0
  stands p h (inr b) = once (class classes p) p b.1.0 b.1.2 b.1.1

  pub first_classes : AreClasses ns classes
  first_classes = record { long = f.long; within = λ p h. within p h (f.first p h); stands = λ p h. stands p h (f.first p h); one = once }

  pub parents_before : AreParents classes
  parents_before p h = go (f.first p (let l = f.long in omega arith))
    where
      go : IsFirstPlace ns p (class classes p) → class classes p ≤ p
      go (inl a) = let e = a.0 in omega arith
      go (inr b) = let l = b.0 in omega arith

  -- the values of a variable's places are the same
  pub closing_starts : (second : ℕ) → second < length ns → Closing ns second classes ((second, 0) ∷ [])
  closing_starts second h = record {
    are_classes = first_classes;
    below = (h, omega arith, tt);
    sound = λ V r s m. (λ p i. made V r s m p i (f.first p i), sym s.0);
    complete = λ τ u. (λ p i. same τ p (f.first p (let l = f.long in omega arith)), (sym u, tt));
  }
    where
      made : (V : ℕ → Tree) → Respects classes V → AllSame ((second, 0) ∷ []) V → AreMade ns classes V → (p : ℕ) → p < length ns → IsFirstPlace ns p (class classes p) → IsMadeAt ns V p
      made V r s m p i (inl a) = m p (let l = f.long in omega arith) a.0
      made V r s m p i (inr b) = λ g n e. absurd (let both : Some (Var b.1.0) ≡ Some (App g n) = sym b.1.1 ∙ e in cc)

      same : (τ : ℕ → Tree) (p : ℕ) → IsFirstPlace ns p (class classes p) → instances ns τ p ≡ instances ns τ (class classes p)
      same τ p (inl a) = ap (instances ns τ) (sym a.0)
      same τ p (inr b) = ap (apply τ) (variable_at ns p b.1.0 b.1.1 ∙ sym (variable_at ns (class classes p) b.1.0 b.1.2))

  pub joining_starts : (second : ℕ) (heads : List ℕ) (pairs : List (ℕ × ℕ)) → second < length ns → heads ≡ classes → pairs ≡ (second, 0) ∷ [] → Joining ns second classes heads pairs
  joining_starts second heads pairs h e q = rw (e, q) (record {
    classes = classes;
    forest = forest_starts ns classes first_classes parents_before;
    closing = closing_starts second h;
  })

pub joining_goes_on : (ns : List Node) (second : ℕ) (parents heads new_parents new_heads : List ℕ) (pairs all new_pairs : List (ℕ × ℕ)) (p q : ℕ) → all ≡ pairs ++ (p, q) ∷ [] → (j : Joining ns second parents heads all) → IsUnited ns j.classes (pairs ++ (p, q) ∷ []) new_parents new_heads new_pairs true → Joining ns second new_parents new_heads new_pairs
joining_goes_on ns second parents heads new_parents new_heads pairs all new_pairs p q e j u = record {
  classes = u.0;
  forest = u.1;
  closing = closing_goes_on ns second j.classes u.0 pairs all new_pairs p q e j.closing u.2;
}

pub joining_ends : (ns : List Node) (second : ℕ) (parents heads new_heads : List ℕ) (pairs : List (ℕ × ℕ)) → pairs ≡ [] → (j : Joining ns second parents heads pairs) → new_heads ≡ j.classes → IsClosed ns second new_heads
joining_ends ns second parents heads new_heads pairs e j h = subst (IsClosed ns second) (sym h) (closing_ends ns second j.classes pairs e j.closing)
