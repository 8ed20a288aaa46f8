-- The pair of an overlap is determined, with its chain.
use Rattle.std.proofs.Common.{◌≡◌, ℕ, ◌+◌, ◌<◌, List, length, take, drop, get_or, refl, sym, ap, ◌∙◌, subst, arith, ◌⊎◌, inl, inr, ◌↔◌}
use Rattle.std.proofs.lemmas.Grind.{common_steps}
use Rattle.uc_term.specs.declared.node.Sym.{Sym}
use Rattle.uc_term.specs.declared.node.Node.{Node}
use Rattle.uc_term.specs.declared.node.Node.TheVariants.{Var, App}
use Rattle.uc_term.specs.Tree.{Tree, app, none, nodes, apply, put}
use Rattle.uc_term.specs.Flat.{flat, tree_of}
use Rattle.uc_term.specs.Positions.{IsPlaceOf}
use Rattle.uc_term.specs.Variables.{renumbered_by}
use Rattle.uc_term.proofs.Terms.{length-flat}
use Rattle.uc_term.proofs.Put.{flat-put}
use Rattle.uc_fact.specs.declared.chain.Chain.{Chain}
use Rattle.uc_fact.specs.Live.{Rule}
use Rattle.uc_pair.specs.declared.formed.Size.{Size}
use Rattle.uc_pair.specs.declared.formed.Size.TheVariants.{Large}
use Rattle.uc_pair.specs.declared.formation.Formation.{Formation}
use Rattle.uc_pair.specs.declared.formation.Formation.TheVariants.{Pair, TooLarge}
use Rattle.uc_pair.specs.Overlapping.{Overlapping, peak, left_of, right_of, IsTooLarge, HasSize, is_large, is_same, is_weight, overlap_at}
use Rattle.uc_pair.specs.Pairs.{names_of, chain_by, IsPairBy, IsFormation, forms_none, forms_pair}
use Rattle.uc_pair.proofs.Renaming.{Alike}
use Rattle.uc_pair.proofs.Judged.{large_alike, terms_of}
use Rattle.uc_pair.proofs.Replacing.{put_instance}
use Rattle.uc_pair.proofs.Renumbering.{numbered_alike, is_renamed}
use Rattle.uc_pair.proofs.Paired.{two_alike, place_renamed}
use Rattle.uc_pair.proofs.Uniqueness.{any_size, too_large_or_fits}

-- another symbol than that of a node
other_than : Node → Sym
other_than (Var x) = record { 0 = 0 }
other_than (App f n) = record { 0 = f.0 + 1 }

is_other : (o : Node) → o ≡ App (other_than o) 0 → ⊥
unfolding other_than
is_other (Var x) e = cc
is_other (App f n) e = let h : f.0 ≡ f.0 + 1 = cc in omega (arith, h)

constant : Sym → Tree
constant f = app f none

-- the node at a place at which a constant is put, and before it
put_at_place : (t : Tree) (p : ℕ) (f : Sym) (d : Node) → p < nodes t → get_or (flat (put t p (constant f))) p d ≡ App f 0
unfolding constant
put_at_place t p f d h =
    let e = flat-put t (app f none) p (p + nodes (tree_of (drop p (flat t)))) h refl in
    let l : length (take p (flat t)) ≡ p = grind (arith, common_steps, length-flat t, h) in
    ap (λ l. get_or l p d) (sym e) ∙ grind (arith, common_steps, l)

put_before : (t : Tree) (p q : ℕ) (f : Sym) (d : Node) → p < q → q < nodes t → get_or (flat (put t q (constant f))) p d ≡ get_or (flat t) p d
unfolding constant
put_before t p q f d h k =
    let e = flat-put t (app f none) q (q + nodes (tree_of (drop q (flat t)))) k refl in
    let l : length (take q (flat t)) ≡ q = grind (arith, common_steps, length-flat t, k) in
    ap (λ l. get_or l p d) (sym e) ∙ grind (arith, common_steps, l)

not_earlier : (t : Tree) (p q : ℕ) → p < q → q < nodes t → ((f : Sym) → put t p (constant f) ≡ put t q (constant f)) → ⊥
not_earlier t p q h k same =
    let d : Node = Var 0 in
    let o = get_or (flat t) p d in
    let f = other_than o in
    is_other o (sym (put_before t p q f d h k) ∙ ap (λ u. get_or (flat u) p d) (sym (same f)) ∙ put_at_place t p f d (omega arith))

-- places at which the same is put are one
one_place : (t : Tree) (p q : ℕ) → p < nodes t → q < nodes t → ((f : Sym) → put t p (constant f) ≡ put t q (constant f)) → p ≡ q
one_place t p q h k same = go (let d : (p < q) ⊎ ((p ≡ q) ⊎ (q < p)) = grind arith in d)
  where
    go : (p < q) ⊎ ((p ≡ q) ⊎ (q < p)) → p ≡ q
    go (inl l) = absurd (not_earlier t p q l k same)
    go (inr (inl e)) = e
    go (inr (inr l)) = absurd (not_earlier t q p l h (λ f. sym (same f)))

module _ (outer inner : Rule) (place : ℕ) (o p : Overlapping outer inner place) where
  abbrev al : Alike (terms_of o) (terms_of p)
  al = two_alike outer inner place o p

  peak_is : peak o ≡ apply al.α (peak p)
  peak_is = let f = al.forth in cc

  peak_back : peak p ≡ apply al.β (peak o)
  peak_back = let f = al.back in cc

  left_is : left_of o ≡ apply al.α (left_of p)
  left_is = let f = al.forth in cc

  left_back : left_of p ≡ apply al.β (left_of o)
  left_back = let f = al.back in cc

  right_is : right_of o ≡ apply al.α (right_of p)
  right_is = let f = al.forth in cc

  right_back : right_of p ≡ apply al.β (right_of o)
  right_back = let f = al.back in cc

  -- a place in the one peak is a place in the other
  moved_place : (path : List ℕ) (there : ℕ) → IsPlaceOf (peak p) path there → IsPlaceOf (peak o) path there
  moved_place path there a =
      let r = is_renamed (left_of p) (left_of p) (peak p) (left_of o) (left_of o) (peak o) al.β al.α left_back left_back peak_back left_is left_is peak_is (peak p) (peak o) peak_back peak_is in
      subst (λ t. IsPlaceOf t path there) (sym r.1) (place_renamed r.0 (peak p) path there a)

  pub one_there : (path path' : List ℕ) (there there' : ℕ) → IsPlaceOf outer.from path place → IsPlaceOf outer.from path' place → IsPlaceOf (peak o) path there → IsPlaceOf (peak p) path' there' → there ≡ there'
  unfolding constant
  one_there path path' there there' a b c d =
      let e = moved_place path' there' d in
      one_place (peak o) there there' c.inside e.inside (λ f. puts f e)
    where
      puts : (f : Sym) → IsPlaceOf (peak o) path' there' → put (peak o) there (constant f) ≡ put (peak o) there' (constant f)
      puts f e = put_instance o.σ outer.from (constant f) path place there a c ∙ sym (put_instance o.σ outer.from (constant f) path' place there' b e)

  pub same_pair : (left right left' right' : Tree) (chain chain' : Chain) → IsPairBy o left right chain → IsPairBy p left' right' chain' → Pair left right chain ≡ Pair left' right' chain'
  same_pair left right left' right' chain chain' x y =
      let n = numbered_alike (left_of o) (right_of o) (peak o) (left_of p) (right_of p) (peak p) al.α al.β left_is right_is peak_is left_back right_back peak_back (overlap_at outer inner place) y.there left' right' chain' y.numbered in
      let same_left : left ≡ left' = x.numbered.left_is ∙ sym n.left_is in
      let same_right : right ≡ right' = x.numbered.right_is ∙ sym n.right_is in
      let there = one_there x.path y.path x.there y.there x.path_is y.path_is x.there_is y.there_is in
      let top = renumbered_by (names_of (left_of o) (right_of o) (peak o)) (peak o) in
      let same_chain : chain ≡ chain' =
      x.numbered.chain_is
      ∙ ap (λ z. chain_by (overlap_at outer inner place) z left top right) there
      ∙ ap (λ l. chain_by (overlap_at outer inner place) y.there l top right) same_left
      ∙ ap (λ r. chain_by (overlap_at outer inner place) y.there left' top r) same_right
      ∙ sym n.chain_is in
      ap (λ l. Pair l right chain) same_left ∙ ap (λ r. Pair left' r chain) same_right ∙ ap (λ k. Pair left' right' k) same_chain

pub one_formation : (outer inner : Rule) (place : ℕ) (x y : Formation) → IsFormation outer inner place x → IsFormation outer inner place y → x ≡ y
one_formation outer inner place _ _ (forms_none o l) (forms_none p k) = refl
one_formation outer inner place _ _ (forms_none o l) (forms_pair p f x) = absurd (too_large_or_fits outer inner place p (large_alike p _ _ _ _ _ (two_alike outer inner place p o) l) f)
one_formation outer inner place _ _ (forms_pair o f x) (forms_none p l) = absurd (too_large_or_fits outer inner place o (large_alike o _ _ _ _ _ (two_alike outer inner place o p) l) f)
one_formation outer inner place _ _ (forms_pair {left = l} {right = r} {chain = c} o f x) (forms_pair {left = l'} {right = r'} {chain = c'} p g y) = same_pair outer inner place o p l r l' r' c c' x y

-- a pair is too large where its size is
large_size : (outer inner : Rule) (place : ℕ) (o : Overlapping outer inner place) (s : Size) → HasSize o s → s ≡ Large → IsTooLarge o
large_size outer inner place o _ (is_large l) e = l
large_size outer inner place o _ (is_same f q) e = absurd cc
large_size outer inner place o _ (is_weight f q) e = absurd cc

pub large_by_size : (outer inner : Rule) (place : ℕ) (o : Overlapping outer inner place) (s : Size) (x : Formation) → HasSize o s → IsFormation outer inner place x → (x ≡ TooLarge) ↔ (s ≡ Large)
large_by_size outer inner place o s _ h (forms_none p l) = ((λ e. any_size outer inner place o p s Large h (is_large l)), (λ e. refl))
large_by_size outer inner place o s _ h (forms_pair p f x) =
    ((λ e. absurd cc), (λ e. absurd (too_large_or_fits outer inner place p (large_alike p _ _ _ _ _ (two_alike outer inner place p o) (large_size outer inner place o s h e)) f)))
