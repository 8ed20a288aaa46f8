-- The flat lists of a term and of the term with a subterm replaced.
use Rattle.std.proofs.Common.{◌≡◌, ℕ, zero, suc, ◌+◌, ◌-◌, ◌<◌, ◌≤◌, List, [], ◌∷◌, ◌++◌, length, take, drop, refl, sym, ap, ap₂, ◌∙◌, subst, arith, length-append, drop-drop}
use Rattle.std.proofs.Math.Seq.{take-append_seam, drop-append_seam}
use Rattle.std.proofs.lemmas.List.{length-take-le}
use Rattle.uc_term.specs.declared.node.Node.{Node}
use Rattle.uc_term.specs.Tree.{Tree, apply, nodes, put, subterm}
use Rattle.uc_term.specs.Flat.{flat, tree_of, first_of_trees, IsWhole, AreWhole}
use Rattle.uc_term.specs.Code.{spelled-flat, tree_of-flat}
use Rattle.uc_term.specs.Subst.{image}
use Rattle.uc_term.proofs.Terms.{length-flat, nodes_pos, whole_flat_list, whole_list}
use Rattle.uc_term.proofs.Parts.{split}
use Rattle.uc_term.proofs.Ahead.{at_place}
use Rattle.uc_term.proofs.Put.{flat-put}
use Rattle.uc_unify.specs.Matching.{IsMatchOfBoth, HasNoMatchOfBoth}
use Rattle.uc_unify.specs.Replacing.{ReplacesAt}

seam : (a b : List Node) (p : ℕ) → length a ≡ p → (take p (a ++ b) ≡ a) × (drop p (a ++ b) ≡ b)
seam a b p e = subst (λ (n : ℕ). (take n (a ++ b) ≡ a) × (drop n (a ++ b) ≡ b)) e (take-append_seam a b, drop-append_seam a b)

take-drop_all : (n : ℕ) (l : List Node) → take n l ++ drop n l ≡ l
take-drop_all zero l = refl
take-drop_all (suc n) [] = refl
take-drop_all (suc n) (x ∷ l) = ap (λ r. x ∷ r) (take-drop_all n l)

three : (l : List Node) (p f : ℕ) → p ≤ f → take p l ++ (take (f - p) (drop p l) ++ drop f l) ≡ l
three l p f h =
    let at : p + (f - p) ≡ f = omega arith in
    let rest : drop (f - p) (drop p l) ≡ drop f l = drop-drop (f - p) p l ∙ ap (λ n. drop n l) at in
    ap (λ r. take p l ++ (take (f - p) (drop p l) ++ r)) (sym rest) ∙ ap (λ r. take p l ++ r) (take-drop_all (f - p) (drop p l)) ∙ take-drop_all p l

flat_same : (t u : Tree) → flat t ≡ flat u → t ≡ u
flat_same t u e = sym (tree_of-flat t) ∙ ap tree_of e ∙ tree_of-flat u

-- what the lists of the term before and of the one with w at the place p have in common
record Apart (ns ms : List Node) (p e f : ℕ) (w : Tree) : Type 0 where
  within : p < length ms
  front : take p ns ≡ take p ms
  behind : drop e ns ≡ drop f ms
  middle : take (f - p) (drop p ms) ≡ flat w

pub not_inside : (from to t u : Tree) (ns : List Node) (p : ℕ) → ns ≡ flat t → length ns ≤ p → ReplacesAt from to t p u → ⊥
not_inside from to t u ns p is out r = absurd (omega (arith, r.inside, ap length is, length-flat t))

module _ (t u : Tree) (ns ms : List Node) (p : ℕ) (ns_is : ns ≡ flat t) (ms_is : ms ≡ flat u) (in_first : p < length ns) where
  pub first_whole : AreWhole ns
  first_whole = whole_flat_list ns t ns_is

  pub second_whole : AreWhole ms
  second_whole = whole_flat_list ms u ms_is

  inside : p < nodes t
  inside = omega (arith, ap length ns_is, length-flat t)

  listed : (w : Tree) (e : ℕ) → e ≡ p + nodes (tree_of (drop p ns)) → flat (put t p w) ≡ take p ns ++ (flat w ++ drop e ns)
  listed w e q =
      let q' : e ≡ p + nodes (tree_of (drop p (flat t))) = rw ns_is at q in
      sym (flat-put t w p e inside q') ∙ ap₂ (λ x y. take p x ++ (flat w ++ drop e y)) (sym ns_is) (sym ns_is)

  apart : (w : Tree) (e : ℕ) → e ≡ p + nodes (tree_of (drop p ns)) → put t p w ≡ u → (p < length ms) × ((f : ℕ) → f ≡ p + nodes (tree_of (drop p ms)) → Apart ns ms p e f w)
  apart w e q is =
      let a = take p ns in
      let b = flat w ++ drop e ns in
      let whole : ms ≡ a ++ b = ms_is ∙ ap flat (sym is) ∙ listed w e q in
      let long : length a ≡ p = length-take-le p ns (let h = in_first in omega arith) in
      let s = seam a b p long in
      let tail : drop p ms ≡ b = ap (drop p) whole ∙ s.1 in
      let size : tree_of (drop p ms) ≡ w = ap tree_of tail ∙ ap first_of_trees (spelled-flat w (drop e ns)) in
      let within : p < length ms = omega (arith, ap length whole, length-append a b, length-append (flat w) (drop e ns), length-flat w, nodes_pos w) in (
        within,
        λ f g.
            let f_is : f ≡ p + nodes w = g ∙ ap (λ x. p + nodes x) size in
            let m = seam (flat w) (drop e ns) (nodes w) (length-flat w) in
            let span : f - p ≡ nodes w = omega arith in
            record {
              within = within;
              front = sym (ap (take p) whole ∙ s.0);
              behind = sym (ap (λ n. drop n ms) f_is ∙ sym (drop-drop (nodes w) p ms) ∙ ap (drop (nodes w)) tail ∙ m.1);
              middle = ap₂ (λ n l. take n l) span tail ∙ m.0;
            },
      )

  rebuilt : (w : Tree) (e f : ℕ) → e ≡ p + nodes (tree_of (drop p ns)) → p ≤ f → take p ns ≡ take p ms → drop e ns ≡ drop f ms → take (f - p) (drop p ms) ≡ flat w → put t p w ≡ u
  rebuilt w e f q le front behind middle =
      flat_same (put t p w) u (listed w e q ∙ ap₂ (λ x y. x ++ (flat w ++ y)) front behind ∙ ap (λ x. take p ms ++ (x ++ drop f ms)) (sym middle) ∙ three ms p f le ∙ ms_is)

  pub not_within : (from to : Tree) → length ms ≤ p → ReplacesAt from to t p u → ⊥
  not_within from to out r = let h = (apart (apply r.σ to) (p + nodes (tree_of (drop p ns))) refl r.to_is).0 in absurd (omega arith)

  module _ (e : ℕ) (e_is : e ≡ p + nodes (tree_of (drop p ns))) where
    pub old_whole : IsWhole (take (e - p) (drop p ns))
    old_whole = (split ns p e first_whole in_first e_is).whole

    old_is : tree_of (take (e - p) (drop p ns)) ≡ subterm t p
    old_is =
        let l = whole_list ns t ns_is in
        ap tree_of (at_place ns ns t p e refl l.0 l.1 in_first e_is).1 ∙ tree_of-flat (subterm t p)

    module _ (from to : Tree) where
      module _ (f : ℕ) (within : p < length ms) (f_is : f ≡ p + nodes (tree_of (drop p ms))) where
        pub new_whole : IsWhole (take (f - p) (drop p ms))
        new_whole = (split ms p f second_whole within f_is).whole

        parts : (r : ReplacesAt from to t p u) → Apart ns ms p e f (apply r.σ to)
        parts r = (apart (apply r.σ to) e e_is r.to_is).1 f f_is

        pub not_front : (take p ns ≡ take p ms → ⊥) → ReplacesAt from to t p u → ⊥
        not_front n r = n (parts r).front

        pub not_behind : (drop e ns ≡ drop f ms → ⊥) → ReplacesAt from to t p u → ⊥
        not_behind n r = n (parts r).behind

        module _ (fr tl : List Node) (fr_is : fr ≡ flat from) (tl_is : tl ≡ flat to) where
          pub no_match : HasNoMatchOfBoth (tree_of fr) (tree_of (take (e - p) (drop p ns))) (tree_of tl) (tree_of (take (f - p) (drop p ms))) → ReplacesAt from to t p u → ⊥
          no_match n r = n r.σ
              (ap (apply r.σ) (ap tree_of fr_is ∙ tree_of-flat from) ∙ r.from_is ∙ sym old_is)
              (ap (apply r.σ) (ap tree_of tl_is ∙ tree_of-flat to) ∙ sym (ap tree_of (parts r).middle ∙ tree_of-flat (apply r.σ to)))

          pub matched : (pairs : List (ℕ × Tree)) → take p ns ≡ take p ms → drop e ns ≡ drop f ms → IsMatchOfBoth (tree_of fr) (tree_of (take (e - p) (drop p ns))) (tree_of tl) (tree_of (take (f - p) (drop p ms))) pairs → ReplacesAt from to t p u
          matched pairs front behind m =
              let σ = image pairs in
              let w : apply σ to ≡ tree_of (take (f - p) (drop p ms)) = ap (apply σ) (sym (ap tree_of tl_is ∙ tree_of-flat to)) ∙ m.right_gives in
              record {
                inside = inside;
                σ = σ;
                from_is = ap (apply σ) (sym (ap tree_of fr_is ∙ tree_of-flat from)) ∙ m.left_gives ∙ old_is;
                to_is = rebuilt (apply σ to) e f e_is (omega arith) front behind (sym (ap flat w ∙ new_whole));
              }
