-- Terms that are equal up to brackets and order have as many nodes, and the same first node.
use Rattle.std.proofs.Common.{◌≡◌, ℕ, ◌+◌, List, [], ◌∷◌, ◌++◌, get_or, refl, ap, arith}
use Rattle.uc_term.specs.declared.node.Sym.{Sym}
use Rattle.uc_term.specs.declared.node.Node.{Node}
use Rattle.uc_term.specs.declared.node.Node.TheVariants.{App}
use Rattle.uc_term.specs.Tree.{Tree, Trees, none, more, list_of, count, nodes, nodes_all}
use Rattle.uc_term.specs.Flat.{flat}
use Rattle.uc_order.specs.Laws.{pair_of}
use Rattle.uc_ac.specs.Reordered.{IsTaken, taken_first, taken_later, IsReordered, no_element, one_element}
use Rattle.uc_ac.specs.AcEqual.{parts, AcEqual, same_variable, same_head, same_parts, AreAcEqual, no_terms, and_terms}
use Rattle.uc_ac.proofs.Parts.{parts_are}
use Rattle.uc_ac.proofs.Equal.{counts}

-- the nodes of the terms, and how many terms there are
abbrev weight : List Tree → ℕ
weight [] = 0
weight (t ∷ ts) = (nodes t + 1) + weight ts

weight-append : (ss ts : List Tree) → weight (ss ++ ts) ≡ weight ss + weight ts
weight-append [] ts = omega arith
weight-append (s ∷ ss) ts = omega (arith, weight-append ss ts)

weight-taken : {t : Tree} {ss ts : List Tree} → IsTaken t ss ts → weight ss ≡ (nodes t + 1) + weight ts
weight-taken taken_first = refl
weight-taken (taken_later {xs = xs} {ys = ys} p) = omega (arith, weight-taken p)

weight-reordered : {ss ts : List Tree} → IsReordered ss ts → weight ss ≡ weight ts
weight-reordered no_element = refl
weight-reordered (one_element p r) = omega (arith, weight-taken p, weight-reordered r)

weight-list_of : (ts : Trees) → weight (list_of ts) ≡ nodes_all ts + count ts
weight-list_of none = refl
weight-list_of (more t ts) = omega (arith, weight-list_of ts)

weight-parts : (f : Sym) (t : Tree) → nodes t + 1 ≡ weight (parts f t)
weight-parts f = parts_are f (λ t ts. nodes t + 1 ≡ weight ts) (λ t e. omega arith) (λ s t p q. omega (arith, weight-append (parts f s) (parts f t)))

module _ (symbols : List Sym) where
  mutual
    pub same_nodes : (s t : Tree) → AcEqual symbols s t → nodes s ≡ nodes t
    same_nodes _ _ same_variable = refl
    same_nodes _ _ (same_head {f = f} {ss = ss} {ts = ts} n h) = omega (arith, same_weight (list_of ss) (list_of ts) h, weight-list_of ss, weight-list_of ts, counts symbols ss ts h)
    same_nodes _ _ (same_parts {f = f} {a = a} {b = b} {c = c} {d = d} {us = us} i p h) =
        let l : nodes (pair_of f a b) + 1 ≡ weight (parts f (pair_of f a b)) = weight-parts f (pair_of f a b) in
        let r : nodes (pair_of f c d) + 1 ≡ weight (parts f (pair_of f c d)) = weight-parts f (pair_of f c d) in
        let e : weight (parts f (pair_of f a b)) ≡ weight us = same_weight (parts f (pair_of f a b)) us h in
        let k : weight (parts f (pair_of f c d)) ≡ weight us = weight-reordered p in
        omega (arith, l, e, k, r)

    same_weight : (ss ts : List Tree) → AreAcEqual symbols ss ts → weight ss ≡ weight ts
    same_weight _ _ no_terms = refl
    same_weight _ _ (and_terms {s = s} {t = t} {ss = ss} {ts = ts} e h) = omega (arith, same_nodes s t e, same_weight ss ts h)

  pub same_first : (d : Node) (s t : Tree) → AcEqual symbols s t → get_or (flat s) 0 d ≡ get_or (flat t) 0 d
  same_first d _ _ same_variable = refl
  same_first d _ _ (same_head {f = f} {ss = ss} {ts = ts} n h) = ap (App f) (counts symbols ss ts h)
  same_first d _ _ (same_parts i p h) = refl
