-- Replacing a subterm of an instance, and how large it comes.
use Rattle.std.proofs.Common.{◌≡◌, ℕ, zero, suc, ◌+◌, ◌-◌, ◌<◌, ◌≤◌, nat_lt, true, false, List, [], ◌∷◌, get_or, Option, Some, None, option_and_then, refl, sym, ap, ◌∙◌, subst, arith, ◌⊎◌, inl, inr}
use Rattle.std.proofs.lemmas.Bool.Decides.{nat_tests}
use Rattle.std.proofs.Math.Seq.{get_or-append_right}
use Rattle.std.proofs.Math.ListN.{get_or-append}
use Rattle.uc_term.specs.Tree.{Tree, var, app, Trees, none, more, nodes, nodes_all, apply, apply_all, subterms, subterms_all, subterm, put, put_all}
use Rattle.uc_term.specs.Path.{argument, change, at, put_at, at_position, put_position}
use Rattle.uc_term.specs.Positions.{IsPlaceOf}
use Rattle.uc_term.proofs.Terms.{length-subterms, nodes_pos}
use Rattle.uc_term.proofs.Paths.{at-apply, apply-put}
use Rattle.uc_pair.specs.declared.instances.Placed.{Placed}
use Rattle.uc_pair.specs.Overlapping.{IsLarge, IsSmall}
use Rattle.uc_pair.specs.Judging.{IsInstance, IsPut, IsReplaced}

-- the numbers of a written position are counted from 1
abbrev IsWritten : List ℕ → Type 0
IsWritten [] = Unit {0}
IsWritten (zero ∷ p) = ⊥
IsWritten (suc i ∷ p) = IsWritten p

abbrev counted : List ℕ → List ℕ
counted [] = []
counted (zero ∷ p) = zero ∷ counted p
counted (suc i ∷ p) = i ∷ counted p

go_on : (p : List ℕ) (o : Option Tree) (u : Tree) → option_and_then (λ v. at_position v p) o ≡ Some u → (a : Tree) × (o ≡ Some a) × (at_position a p ≡ Some u)
go_on p None u e = cc
go_on p (Some a) u e = (a, refl, e)

written : (p : List ℕ) (t u : Tree) → at_position t p ≡ Some u → IsWritten p
written [] t u e = tt
written (zero ∷ p) t u e = absurd cc
written (suc i ∷ p) t u e = let s = go_on p (argument t i) u e in written p s.0 u s.2

at_counted : (p : List ℕ) → IsWritten p → (t : Tree) → at_position t p ≡ at t (counted p)
at_counted [] w t = refl
at_counted (zero ∷ p) w t = absurd w
at_counted (suc i ∷ p) w t = go (at_counted p w) (argument t i)
  where
    go : ((a : Tree) → at_position a p ≡ at a (counted p)) → (o : Option Tree) → option_and_then (λ u. at_position u p) o ≡ option_and_then (λ u. at u (counted p)) o
    go h None = refl
    go h (Some a) = h a

change-ext : (g h : Tree → Tree) (ts : Trees) (i : ℕ) → ((t : Tree) → g t ≡ h t) → change g ts i ≡ change h ts i
change-ext g h none i e = refl
change-ext g h (more t ts) zero e = ap (λ v. more v ts) (e t)
change-ext g h (more t ts) (suc i) e = ap (more t) (change-ext g h ts i e)

put_counted : (p : List ℕ) → IsWritten p → (t v : Tree) → put_position t p v ≡ put_at t (counted p) v
put_counted [] w t v = refl
put_counted (zero ∷ p) w t v = absurd w
put_counted (suc i ∷ p) w (var x) v = refl
put_counted (suc i ∷ p) w (app f ts) v = ap (app f) (change-ext (λ a. put_position a p v) (λ a. put_at a (counted p) v) ts i (λ a. put_counted p w a v))

-- a subterm of an instance, and a replacement in it
pub at_position-apply : (σ : ℕ → Tree) (p : List ℕ) (t u : Tree) → at_position t p ≡ Some u → at_position (apply σ t) p ≡ Some (apply σ u)
at_position-apply σ p t u e =
    let w = written p t u e in
    at_counted p w (apply σ t) ∙ at-apply σ (counted p) t u (sym (at_counted p w t) ∙ e)

pub apply-put_position : (σ : ℕ → Tree) (p : List ℕ) (t u v : Tree) → at_position t p ≡ Some u → apply σ (put_position t p v) ≡ put_position (apply σ t) p (apply σ v)
apply-put_position σ p t u v e =
    let w = written p t u e in
    ap (apply σ) (put_counted p w t v) ∙ apply-put σ (counted p) t u v (sym (at_counted p w t) ∙ e) ∙ sym (put_counted p w (apply σ t) (apply σ v))

-- what is put into an instance at the place of the same position
pub put_instance : (σ : ℕ → Tree) (t v : Tree) (path : List ℕ) (place there : ℕ) → IsPlaceOf t path place → IsPlaceOf (apply σ t) path there → put (apply σ t) there (apply σ v) ≡ apply σ (put t place v)
put_instance σ t v path place there a b =
    b.puts (apply σ v) ∙ sym (apply-put_position σ path t (subterm t place) v a.there) ∙ ap (apply σ) (sym (a.puts v))

pub put_here : (t : Tree) (ts : Trees) (p : ℕ) (w : Tree) → p < nodes t → put_all (more t ts) p w ≡ more (put t p w) ts
put_here t ts p w h = let e : nat_lt p (nodes t) ≡ true = grind (arith, nat_tests) in rw e refl

pub put_later : (t : Tree) (ts : Trees) (p : ℕ) (w : Tree) → nodes t ≤ p → put_all (more t ts) p w ≡ more t (put_all ts (p - nodes t) w)
put_later t ts p w h = let e : nat_lt p (nodes t) ≡ false = grind (arith, nat_tests) in rw e refl

pub where_is : (p n : ℕ) → (p < n) ⊎ (n ≤ p)
where_is p n = grind arith

-- what is put in is no larger than the whole
mutual
  pub nodes-put : (σ : ℕ → Tree) (t : Tree) (p : ℕ) (v : Tree) → p < nodes t → nodes (apply σ v) ≤ nodes (apply σ (put t p v))
  nodes-put σ (var x) p v h = omega arith
  nodes-put σ (app f ts) zero v h = omega arith
  nodes-put σ (app f ts) (suc p) v h = omega (arith, nodes-put_all σ ts p v (omega arith))

  pub nodes-put_all : (σ : ℕ → Tree) (ts : Trees) (p : ℕ) (v : Tree) → p < nodes_all ts → nodes (apply σ v) ≤ nodes_all (apply_all σ (put_all ts p v))
  nodes-put_all σ none p v h = absurd (omega arith)
  nodes-put_all σ (more t ts) p v h =
      elim (where_is p (nodes t)) [
        | inl here ↦ omega (arith, ap (λ us. nodes_all (apply_all σ us)) (put_here t ts p v here), nodes-put σ t p v here)
        | inr later ↦ omega (arith, ap (λ us. nodes_all (apply_all σ us)) (put_later t ts p v later), nodes-put_all σ ts (p - nodes t) v (omega arith))
      ]

-- what is put in takes the place of the part
mutual
  part_sum : (σ : ℕ → Tree) (t : Tree) (p : ℕ) (v d : Tree) → p < nodes t → nodes (apply σ (put t p v)) + nodes (apply σ (get_or (subterms t) p d)) ≡ nodes (apply σ t) + nodes (apply σ v)
  part_sum σ (var x) zero v d h = omega arith
  part_sum σ (var x) (suc p) v d h = absurd (omega arith)
  part_sum σ (app f ts) zero v d h = omega arith
  part_sum σ (app f ts) (suc p) v d h = omega (arith, part_sum_all σ ts p v d (omega arith))

  part_sum_all : (σ : ℕ → Tree) (ts : Trees) (p : ℕ) (v d : Tree) → p < nodes_all ts → nodes_all (apply_all σ (put_all ts p v)) + nodes (apply σ (get_or (subterms_all ts) p d)) ≡ nodes_all (apply_all σ ts) + nodes (apply σ v)
  part_sum_all σ none p v d h = absurd (omega arith)
  part_sum_all σ (more t ts) p v d h =
      elim (where_is p (nodes t)) [
        | inl here ↦ omega (arith, ap (λ us. nodes_all (apply_all σ us)) (put_here t ts p v here), ap (λ u. nodes (apply σ u)) (get_or-append (subterms t) (subterms_all ts) d p (omega (arith, length-subterms t))), part_sum σ t p v d here)
        | inr later ↦ omega (arith, ap (λ us. nodes_all (apply_all σ us)) (put_later t ts p v later), ap (λ u. nodes (apply σ u)) (get_or-append_right (subterms t) (subterms_all ts) p d (omega (arith, length-subterms t)) ∙ ap (λ n. get_or (subterms_all ts) (p - n) d) (length-subterms t)), part_sum_all σ ts (p - nodes t) v d (omega arith))
      ]

pub put_sum : (σ : ℕ → Tree) (t : Tree) (p : ℕ) (v : Tree) → p < nodes t → nodes (apply σ (put t p v)) + nodes (apply σ (subterm t p)) ≡ nodes (apply σ t) + nodes (apply σ v)
put_sum σ t p v h = part_sum σ t p v t h

-- the instance of a part is no larger than the whole
pub nodes-subterm : (σ : ℕ → Tree) (t : Tree) (p : ℕ) → p < nodes t → nodes (apply σ (subterm t p)) ≤ nodes (apply σ t)
nodes-subterm σ t p h = omega (arith, put_sum σ t p t h, nodes-put σ t p t h)

-- an instance is no smaller
mutual
  pub nodes-instance : (σ : ℕ → Tree) (t : Tree) → nodes t ≤ nodes (apply σ t)
  nodes-instance σ (var x) = omega (arith, nodes_pos (σ x))
  nodes-instance σ (app f ts) = omega (arith, nodes_all-instance σ ts)

  nodes_all-instance : (σ : ℕ → Tree) (ts : Trees) → nodes_all ts ≤ nodes_all (apply_all σ ts)
  nodes_all-instance σ none = omega arith
  nodes_all-instance σ (more t ts) = omega (arith, nodes-instance σ t, nodes_all-instance σ ts)

-- the answers of the call that replaces a part
pub part_is_large : (σ : ℕ → Tree) (t v : Tree) (place : ℕ) → place < nodes t → IsLarge (apply σ v) → IsReplaced σ t place v None
part_is_large σ t v place h large = inr (omega (arith, nodes-put σ t place v h))

pub is_replaced : (σ : ℕ → Tree) (t v whole part : Tree) (path : List ℕ) (place there : ℕ) → IsPlaceOf t path place → IsPlaceOf whole path there → whole ≡ apply σ t → IsSmall (apply σ t) → part ≡ apply σ v → (found : Option Placed) → IsPut whole there part found → IsReplaced σ t place v found
is_replaced σ t v whole part path place there a b e small h found = go found
  where
    at : IsPlaceOf (apply σ t) path there
    at = subst (λ u. IsPlaceOf u path there) e b

    same : put whole there part ≡ apply σ (put t place v)
    same = ap (λ u. put u there part) e ∙ ap (put (apply σ t) there) h ∙ put_instance σ t v path place there a at

    go : (found : Option Placed) → IsPut whole there part found → IsReplaced σ t place v found
    go None large = inr (subst IsLarge same large)
    go (Some placed) is = record {
      term_is = is.0 ∙ same;
      small = subst IsSmall same is.1;
      whole_small = small;
      path = path;
      path_is = a;
      there_is = subst (IsPlaceOf (apply σ t) path) (sym is.2) at;
    }

pub no_such_position : (σ : ℕ → Tree) (t whole : Tree) (path : List ℕ) (place : ℕ) → IsPlaceOf t path place → whole ≡ apply σ t → at_position whole path ≡ None → ⊥
no_such_position σ t whole path place a e n =
    let some = at_position-apply σ path t (subterm t place) a.there in
    let both : None ≡ Some (apply σ (subterm t place)) = sym n ∙ ap (λ u. at_position u path) e ∙ some in
    cc

pub instance_there : (σ : ℕ → Tree) (t : Tree) (o : Option Tree) (u : Tree) → o ≡ Some u → IsInstance σ t o → u ≡ apply σ t
instance_there σ t None u e i = absurd cc
instance_there σ t (Some w) u e i = (let same : u ≡ w = cc in same) ∙ i.0

pub instance_gone : (σ : ℕ → Tree) (t : Tree) (o : Option Tree) → ((u : Tree) → o ≡ Some u → ⊥) → IsInstance σ t o → IsLarge (apply σ t)
instance_gone σ t None n i = i
instance_gone σ t (Some u) n i = absurd (n u refl)

pub instance_small : (σ : ℕ → Tree) (t : Tree) (o : Option Tree) (u : Tree) → o ≡ Some u → IsInstance σ t o → IsSmall (apply σ t)
instance_small σ t None u e i = absurd cc
instance_small σ t (Some w) u e i = i.1
