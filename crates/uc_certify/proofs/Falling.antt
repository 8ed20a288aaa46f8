-- The subterms that a move replaces and puts in their place, as parts of flat lists.
use Rattle.std.proofs.Common.{◌≡◌, ℕ, zero, suc, ◌+◌, ◌-◌, ◌<◌, ◌≤◌, ◌⊎◌, inl, inr, List, [], ◌∷◌, ◌++◌, length, take, drop, get_or, refl, sym, ap, ap₂, ◌∙◌, subst, arith}
use Rattle.std.proofs.Math.Seq.{drop-append_seam}
use Rattle.std.proofs.lemmas.List.{length-take-le}
use Rattle.uc_term.specs.declared.node.Node.{Node}
use Rattle.uc_term.specs.Tree.{Tree, var, app, Trees, none, more, of_list, apply, nodes, put, subterm, subterms, subterms_all}
use Rattle.uc_term.specs.Flat.{flat, spelled, tree_of, first_of_trees, IsWhole}
use Rattle.uc_term.specs.Code.{spelled-flat, tree_of-flat}
use Rattle.uc_term.specs.Variables.{Occurs, in_args, OccursIn, in_first, in_later}
use Rattle.uc_term.proofs.Terms.{length-flat, whole_flat_list, whole_list}
use Rattle.uc_term.proofs.Parts.{split}
use Rattle.uc_term.proofs.Ahead.{at_place}
use Rattle.uc_term.proofs.Put.{flat-put}
use Rattle.uc_unify.specs.Replacing.{ReplacesAt}
use Rattle.uc_unify.proofs.Splicing.{not_within}
use Rattle.uc_order.specs.Members.{In, in_front, in_rest}
use Rattle.uc_certify.specs.Knowing.{HasKnown}
use Rattle.uc_certify.specs.Replacing.{FallsAt}

-- VARIABLES OF SUBTERMS

in_append : (xs ys : List Tree) (u : Tree) → In (xs ++ ys) u → In xs u ⊎ In ys u
in_append [] ys u i = inr i
in_append (x ∷ xs) ys _ in_front = inl in_front
in_append (x ∷ xs) ys u (in_rest i) = go (in_append xs ys u i)
  where
    go : In xs u ⊎ In ys u → In (x ∷ xs) u ⊎ In ys u
    go (inl j) = inl (in_rest j)
    go (inr j) = inr j

same_one : (x : ℕ) (t u : Tree) → In (t ∷ []) u → Occurs x u → Occurs x t
same_one x t _ in_front o = o
same_one x t u (in_rest i) o = elim i [ ]

either_in : (x : ℕ) (t : Tree) (ts : Trees) (u : Tree) → (In (subterms t) u → Occurs x t) → (In (subterms_all ts) u → OccursIn x ts) → In (subterms t) u ⊎ In (subterms_all ts) u → OccursIn x (more t ts)
either_in x t ts u f g (inl j) = in_first (f j)
either_in x t ts u f g (inr j) = in_later (g j)

mutual
  sub_occurs : (x : ℕ) (t u : Tree) → In (subterms t) u → Occurs x u → Occurs x t
  sub_occurs x (var y) u i o = same_one x (var y) u i o
  sub_occurs x (app f ts) _ in_front o = o
  sub_occurs x (app f ts) u (in_rest i) o = in_args (subs_occur x ts u i o)

  subs_occur : (x : ℕ) (ts : Trees) (u : Tree) → In (subterms_all ts) u → Occurs x u → OccursIn x ts
  subs_occur x none u i o = elim i [ ]
  subs_occur x (more t ts) u i o = either_in x t ts u (λ j. sub_occurs x t u j o) (λ j. subs_occur x ts u j o) (in_append (subterms t) (subterms_all ts) u i)

get_in : (xs : List Tree) (p : ℕ) (d : Tree) → In xs (get_or xs p d) ⊎ (get_or xs p d ≡ d)
get_in [] p d = inr refl
get_in (x ∷ xs) zero d = inl in_front
get_in (x ∷ xs) (suc p) d = go (get_in xs p d)
  where
    go : In xs (get_or xs p d) ⊎ (get_or xs p d ≡ d) → In (x ∷ xs) (get_or xs p d) ⊎ (get_or xs p d ≡ d)
    go (inl i) = inl (in_rest i)
    go (inr e) = inr e

known_part : (Known : ℕ → Type 0) (t : Tree) (p : ℕ) → HasKnown Known t → HasKnown Known (subterm t p)
known_part Known t p h x o = go (get_in (subterms t) p t)
  where
    go : In (subterms t) (subterm t p) ⊎ (subterm t p ≡ t) → Known x
    go (inl i) = h x (sub_occurs x t (subterm t p) i o)
    go (inr e) = h x (subst (Occurs x) e o)

-- PARTS OF FLAT LISTS

abbrev first : Trees → Tree
first none = var 0
first (more t ts) = t

first_of_list : (ts : List Tree) → first (of_list ts) ≡ first_of_trees ts
first_of_list [] = refl
first_of_list (t ∷ ts) = refl

module _ (t : Tree) (ns : List Node) (p e : ℕ) (ns_is : ns ≡ flat t) (inside : p < length ns) (e_is : e ≡ p + nodes (tree_of (drop p ns))) where
  pub part_whole : IsWhole (take (e - p) (drop p ns))
  part_whole = (split ns p e (whole_flat_list ns t ns_is) inside e_is).whole

  pub part_is : tree_of (take (e - p) (drop p ns)) ≡ subterm t p
  part_is =
      let l = whole_list ns t ns_is in
      ap tree_of (at_place ns ns t p e refl l.0 l.1 inside e_is).1 ∙ tree_of-flat (subterm t p)

  pub part_known : (Known : ℕ → Type 0) → HasKnown Known t → HasKnown Known (tree_of (take (e - p) (drop p ns)))
  part_known Known h = subst (HasKnown Known) (sym part_is) (known_part Known t p h)

module _ (t u : Tree) (ns ms : List Node) (p : ℕ) (ns_is : ns ≡ flat t) (ms_is : ms ≡ flat u) (inside : p < nodes t) where
  pub in_old : p < length ns
  in_old = omega (arith, ap length ns_is, length-flat t)

  -- the place is inside the term behind
  pub in_new : (from to : Tree) → ReplacesAt from to t p u → p < length ms
  in_new from to r = go (let d : (p < length ms) ⊎ (length ms ≤ p) = grind arith in d)
    where
      go : (p < length ms) ⊎ (length ms ≤ p) → p < length ms
      go (inl l) = l
      go (inr l) = absurd (not_within t u ns ms p ns_is ms_is in_old from to l r)

  -- what stands at the place behind is what was put there
  put_there : (w : Tree) → put t p w ≡ u → tree_of (drop p ms) ≡ w
  put_there w is =
      let e = p + nodes (tree_of (drop p ns)) in
      let q : e ≡ p + nodes (tree_of (drop p (flat t))) = ap (λ (l : List Node). p + nodes (tree_of (drop p l))) ns_is in
      let listed : flat (put t p w) ≡ take p ns ++ (flat w ++ drop e ns) = sym (flat-put t w p e inside q) ∙ ap₂ (λ x y. take p x ++ (flat w ++ drop e y)) (sym ns_is) (sym ns_is) in
      let whole : ms ≡ take p ns ++ (flat w ++ drop e ns) = ms_is ∙ ap flat (sym is) ∙ listed in
      let long : length (take p ns) ≡ p = length-take-le p ns (let h = in_old in omega arith) in
      let tail : drop p ms ≡ flat w ++ drop e ns = ap (drop p) whole ∙ ap (λ n. drop n (take p ns ++ (flat w ++ drop e ns))) (sym long) ∙ drop-append_seam (take p ns) (flat w ++ drop e ns) in
      ap tree_of tail ∙ ap first_of_trees (spelled-flat w (drop e ns))

  module _ (Greater : Tree → Tree → Type 0) (from to : Tree) (e f : ℕ) (e_is : e ≡ p + nodes (tree_of (drop p ns))) (r : ReplacesAt from to t p u) (f_is : f ≡ p + nodes (tree_of (drop p ms))) where
    old : List Node
    old = take (e - p) (drop p ns)

    new : List Node
    new = take (f - p) (drop p ms)

    new_is : (w : Tree) → put t p w ≡ u → tree_of (take (f - p) (drop p ms)) ≡ w
    new_is w is = sym (split_is) ∙ put_there w is
      where
        split_is : tree_of (drop p ms) ≡ tree_of (take (f - p) (drop p ms))
        split_is = sym (first_of_list (spelled (drop p ms))) ∙ ap first (split ms p f (whole_flat_list ms u ms_is) (in_new from to r) f_is).trees

    pub falls : Greater (tree_of (take (e - p) (drop p ns))) (tree_of (take (f - p) (drop p ms))) → FallsAt Greater from to t p u
    falls g = record {
      σ = r.σ;
      from_is = r.from_is;
      to_is = r.to_is;
      greater = subst (λ (x : Tree). Greater x (apply r.σ to)) (part_is t ns p e ns_is in_old e_is) (subst (Greater (tree_of (take (e - p) (drop p ns)))) (new_is (apply r.σ to) r.to_is) g);
    }

    pub greater_of : FallsAt Greater from to t p u → Greater (tree_of (take (e - p) (drop p ns))) (tree_of (take (f - p) (drop p ms)))
    greater_of h = subst (λ (x : Tree). Greater x (tree_of (take (f - p) (drop p ms)))) (sym (part_is t ns p e ns_is in_old e_is)) (subst (Greater (subterm t p)) (sym (new_is (apply h.σ to) h.to_is)) h.greater)

pub no_fall : (Greater : Tree → Tree → Type 0) (from to t u : Tree) (p : ℕ) → p < nodes t → (ReplacesAt from to t p u → ⊥) → FallsAt Greater from to t p u → ⊥
no_fall Greater from to t u p inside n h = n (record { inside = inside; σ = h.σ; from_is = h.from_is; to_is = h.to_is })
