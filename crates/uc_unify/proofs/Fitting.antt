-- Terms one behind the other from a place on.
use Rattle.std.proofs.Common.{◌≡◌, ℕ, zero, suc, ◌+◌, ◌-◌, ◌<◌, ◌≤◌, List, [], ◌∷◌, ◌++◌, length, drop, take, get_or, slice_get, Some, refl, sym, ap, ap₂, ◌∙◌, arith, length-drop}
use Rattle.std.proofs.lemmas.Option.{slice_get_within}
use Rattle.uc_term.specs.declared.node.Sym.{Sym}
use Rattle.uc_term.specs.declared.node.Node.{Node}
use Rattle.uc_term.specs.declared.node.Node.TheVariants.{Var, App}
use Rattle.uc_term.specs.Tree.{Tree, var, app, Trees, none, more, of_list, count, apply, apply_all}
use Rattle.uc_term.specs.Flat.{flat_all, spelled, tree_of, trees_of, first_of_trees, AreWhole}
use Rattle.uc_term.proofs.Terms.{whole-drop, length-flat_all}
use Rattle.uc_term.proofs.Ahead.{join, count-join, count-le-nodes_all}
use Rattle.uc_term.proofs.Joins.{opened_at, var_at, place_within}
use Rattle.uc_term.proofs.Parts.{split}
use Rattle.uc_unify.specs.Closure.{at, next, values, IsMadeAt, AllSame, AllBelow, instances, pairs_from, HasArguments}

-- at least so many terms stand from the place on
abbrev pub Fits : List Node → ℕ → ℕ → Type 0
Fits ns p n = n ≤ count (trees_of (drop p ns))

read_at : (ns : List Node) (p : ℕ) (n d : Node) → slice_get ns p ≡ Some n → get_or ns p d ≡ n
read_at [] p n d e = absurd cc
read_at (m ∷ ns) zero n d e = cc
read_at (m ∷ ns) (suc p) n d e = read_at ns p n d e

first_tree : (l : List Tree) (t : Tree) (r : Trees) → of_list l ≡ more t r → first_of_trees l ≡ t
first_tree [] t r e = absurd cc
first_tree (u ∷ l) t r e = cc

pub first_at : (ns : List Node) (p : ℕ) (t : Tree) (r : Trees) → trees_of (drop p ns) ≡ more t r → at ns p ≡ t
first_at ns p t r e = first_tree (spelled (drop p ns)) t r e

abbrev d0 : Node
d0 = Var 0

module _ (ns : List Node) (w : AreWhole ns) where
  pub fits_place : (p n : ℕ) → Fits ns p (suc n) → p < length ns
  fits_place p n h = place_within ns p (count (trees_of (drop p ns))) refl (omega arith)

  pub fits_some : (p n : ℕ) → Fits ns p n → 0 < n → p < length ns
  fits_some p n h k = place_within ns p (count (trees_of (drop p ns))) refl (omega arith)

  -- the terms at a place are the first and those behind it
  pub trees_at : (p : ℕ) → p < length ns → trees_of (drop p ns) ≡ more (at ns p) (trees_of (drop (next ns p) ns))
  trees_at p h =
      let s = split ns p (next ns p) w h refl in
      s.trees ∙ ap (λ t. more t (trees_of (drop (next ns p) ns))) (sym (first_at ns p (tree_of (take (next ns p - p) (drop p ns))) (trees_of (drop (next ns p) ns)) s.trees))

  pub fits_next : (p n : ℕ) → Fits ns p (suc n) → Fits ns (next ns p) n
  fits_next p n h = omega (arith, ap count (trees_at p (fits_place p n h)))

  pub fits_args : (p n : ℕ) → HasArguments ns p n → Fits ns (p + 1) n
  fits_args p n h =
      let o = opened_at ns p h.0 n d0 w (slice_get_within ns p (App h.0 n) h.1) (read_at ns p (App h.0 n) d0 h.1) in
      omega (arith, ap count o.0.behind, count-join o.0.args o.0.rest, o.0.counts)

  pub fits_few : (p n : ℕ) → Fits ns p n → n ≤ length ns
  fits_few p n h =
      let ms = drop p ns in
      let e : length (flat_all (trees_of ms)) ≡ length ms = ap length (whole-drop p ns w) in
      omega (arith, e, length-flat_all (trees_of ms), count-le-nodes_all (trees_of ms), length-drop p ns)

  values_at : (n p : ℕ) (args rest : Trees) → trees_of (drop p ns) ≡ join args rest → count args ≡ n → values (at ns) ns p n ≡ args
  values_at zero p none rest e c = refl
  values_at zero p (more t args) rest e c = absurd (omega arith)
  values_at (suc n) p none rest e c = absurd (omega arith)
  values_at (suc n) p (more t args) rest e c =
      let inside = fits_place p n (omega (arith, ap count e, count-join args rest)) in
      let both : more (at ns p) (trees_of (drop (next ns p) ns)) ≡ more t (join args rest) = sym (trees_at p inside) ∙ e in
      ap₂ more (first_at ns p t (join args rest) e) (values_at n (next ns p) args rest (let behind : trees_of (drop (next ns p) ns) ≡ join args rest = cc in behind) (omega arith))

  -- the terms are made of those of the arguments, and so are their instances
  pub term_made : (p : ℕ) → IsMadeAt ns (at ns) p
  term_made p f n h =
      let o = opened_at ns p f n d0 w (slice_get_within ns p (App f n) h) (read_at ns p (App f n) d0 h) in
      first_at ns p (app f o.0.args) o.0.rest o.1 ∙ ap (app f) (sym (values_at n (p + 1) o.0.args o.0.rest o.0.behind o.0.counts))

  apply-values : (τ : ℕ → Tree) (n p : ℕ) → apply_all τ (values (at ns) ns p n) ≡ values (instances ns τ) ns p n
  apply-values τ zero p = refl
  apply-values τ (suc n) p = ap (more (instances ns τ p)) (apply-values τ n (next ns p))

  pub instance_made : (τ : ℕ → Tree) (p : ℕ) → IsMadeAt ns (instances ns τ) p
  instance_made τ p f n h = ap (apply τ) (term_made p f n h) ∙ ap (app f) (apply-values τ n (p + 1))

  pub pairs_below : (n p q : ℕ) → Fits ns p n → Fits ns q n → AllBelow (length ns) (pairs_from ns p q n)
  pairs_below zero p q h k = tt
  pairs_below (suc n) p q h k = (fits_place p n h, fits_place q n k, pairs_below n (next ns p) (next ns q) (fits_next p n h) (fits_next q n k))

pub variable_at : (ns : List Node) (p x : ℕ) → slice_get ns p ≡ Some (Var x) → at ns p ≡ var x
variable_at ns p x h = first_at ns p (var x) (trees_of (drop (p + 1) ns)) (var_at ns p x d0 (slice_get_within ns p (Var x) h) (read_at ns p (Var x) d0 h))

count-values : (V : ℕ → Tree) (ns : List Node) (p n : ℕ) → count (values V ns p n) ≡ n
count-values V ns p zero = refl
count-values V ns p (suc n) = omega (arith, count-values V ns (next ns p) n)

pub made_alike : (V : ℕ → Tree) (ns : List Node) (p q : ℕ) (f g : Sym) (n m : ℕ) → app f (values V ns p n) ≡ app g (values V ns q m) → (f ≡ g) × (n ≡ m)
made_alike V ns p q f g n m e =
    let args : values V ns p n ≡ values V ns q m = cc in
    (cc, sym (count-values V ns p n) ∙ ap count args ∙ count-values V ns q m)

-- equal values at the places of pairs are equal lists of values, and the other way round
pub same_values : (V : ℕ → Tree) (ns : List Node) (n p q : ℕ) → AllSame (pairs_from ns p q n) V → values V ns p n ≡ values V ns q n
same_values V ns zero p q h = refl
same_values V ns (suc n) p q h = ap₂ more h.0 (same_values V ns n (next ns p) (next ns q) h.1)

pub values_same : (V : ℕ → Tree) (ns : List Node) (n p q : ℕ) → values V ns p n ≡ values V ns q n → AllSame (pairs_from ns p q n) V
values_same V ns zero p q e = tt
values_same V ns (suc n) p q e = (cc, values_same V ns n (next ns p) (next ns q) cc)

pub length-pairs_from : (ns : List Node) (n p q : ℕ) → length (pairs_from ns p q n) ≡ n
length-pairs_from ns zero p q = refl
length-pairs_from ns (suc n) p q = ap suc (length-pairs_from ns n (next ns p) (next ns q))

pub same_append : (V : ℕ → Tree) (xs ys : List (ℕ × ℕ)) → AllSame xs V → AllSame ys V → AllSame (xs ++ ys) V
same_append V [] ys h k = k
same_append V (x ∷ xs) ys h k = (h.0, same_append V xs ys h.1 k)

pub same_parts : (V : ℕ → Tree) (xs ys : List (ℕ × ℕ)) → AllSame (xs ++ ys) V → AllSame xs V × AllSame ys V
same_parts V [] ys h = (tt, h)
same_parts V (x ∷ xs) ys h = let r = same_parts V xs ys h.1 in ((h.0, r.0), r.1)

pub below_append : (n : ℕ) (xs ys : List (ℕ × ℕ)) → AllBelow n xs → AllBelow n ys → AllBelow n (xs ++ ys)
below_append n [] ys h k = k
below_append n (x ∷ xs) ys h k = (h.0, h.1, below_append n xs ys h.2 k)

pub below_parts : (n : ℕ) (xs ys : List (ℕ × ℕ)) → AllBelow n (xs ++ ys) → AllBelow n xs × AllBelow n ys
below_parts n [] ys h = (tt, h)
below_parts n (x ∷ xs) ys h = let r = below_parts n xs ys h.2 in ((h.0, h.1, r.0), r.1)
