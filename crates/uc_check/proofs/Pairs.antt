-- The flat list of a symbol with two arguments.
use Rattle.std.proofs.Common.{◌≡◌, ℕ, ◌+◌, ◌-◌, List, [], ◌∷◌, ◌++◌, length, take, drop, refl, sym, ap, ◌∙◌, arith, append-nil, drop-drop}
use Rattle.std.proofs.Math.Seq.{take-append_seam, drop-append_seam}
use Rattle.uc_term.specs.declared.node.Sym.{Sym}
use Rattle.uc_term.specs.declared.node.Node.{Node}
use Rattle.uc_term.specs.declared.node.Node.TheVariants.{App}
use Rattle.uc_term.specs.Tree.{Tree, var, app, Trees, none, more, count, nodes}
use Rattle.uc_term.specs.Flat.{flat, tree_of, first_of_trees}
use Rattle.uc_term.specs.Code.{spelled-flat}
use Rattle.uc_term.proofs.Terms.{length-flat}

abbrev pub IsPair : Sym → Tree → Tree → Tree → Type 0
IsPair eq t u v = t ≡ app eq (more u (more v none))

pub record Paired (eq : Sym) (t : Tree) (ns : List Node) (e : ℕ) : Type 0 where
  pub u : Tree
  pub v : Tree
  pub is : IsPair eq t u v
  pub first : take (e - 1) (drop 1 ns) ≡ flat u
  pub second : drop e ns ≡ flat v

two : (ts : Trees) → count ts ≡ 2 → (u : Tree) × (v : Tree) × (ts ≡ more u (more v none))
two (more u (more v none)) e = (u, v, refl)
two v e = absurd (omega arith)

is_pair : (eq : Sym) (t : Tree) → take 1 (flat t) ≡ App eq 2 ∷ [] → (u : Tree) × (v : Tree) × IsPair eq t u v
is_pair eq (var x) e = absurd cc
is_pair eq (app f ts) e =
    let head : f ≡ eq = cc in
    let many : count ts ≡ 2 = cc in
    let p = two ts many in
    (p.0, p.1, cc)

pub paired : (eq : Sym) (t : Tree) (ns : List Node) (e : ℕ) → ns ≡ flat t → take 1 ns ≡ App eq 2 ∷ [] → e ≡ 1 + nodes (tree_of (drop 1 ns)) → Paired eq t ns e
paired eq t ns e is head q =
    let p = is_pair eq t (ap (take 1) (sym is) ∙ head) in
    let u = p.0 in
    let v = p.1 in
    let tail : drop 1 ns ≡ flat u ++ flat v = ap (drop 1) (is ∙ ap flat p.2) ∙ ap (λ l. flat u ++ l) (append-nil (flat v)) in
    let first : tree_of (drop 1 ns) ≡ u = ap tree_of tail ∙ ap first_of_trees (spelled-flat u (flat v)) in
    let size : e ≡ 1 + nodes u = q ∙ ap (λ x. 1 + nodes x) first in
    let span : e - 1 ≡ length (flat u) = omega (arith, length-flat u) in
    let at : e ≡ 1 + length (flat u) = omega (arith, length-flat u) in
    record {
      u = u;
      v = v;
      is = p.2;
      first = ap (λ n. take n (drop 1 ns)) span ∙ ap (take (length (flat u))) tail ∙ take-append_seam (flat u) (flat v);
      second = ap (λ n. drop n ns) at ∙ sym (drop-drop (length (flat u)) 1 ns) ∙ ap (drop (length (flat u))) tail ∙ drop-append_seam (flat u) (flat v);
    }

pub pair_head : (eq : Sym) (t u v : Tree) (ns : List Node) → ns ≡ flat t → IsPair eq t u v → take 1 ns ≡ App eq 2 ∷ []
pair_head eq t u v ns is p = ap (take 1) (is ∙ ap flat p)

pub same_parts : (eq : Sym) (t u v x y : Tree) → IsPair eq t u v → IsPair eq t x y → (u ≡ x) × (v ≡ y)
same_parts eq t u v x y p q = (cc, cc)
