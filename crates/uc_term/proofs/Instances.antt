-- The flat list of an instance.
use Rattle.std.proofs.Common.{◌≡◌, ℕ, ◌+◌, List, [], ◌∷◌, ◌++◌, refl, sym, ap, ap₂, ◌∙◌, append-nil}
use Rattle.std.specs.List.{flat_map}
use Rattle.std.proofs.lemmas.Grind.{flat_map-append}
use Rattle.uc_term.specs.declared.node.Node.{Node}
use Rattle.uc_term.specs.declared.node.Node.TheVariants.{Var, App}
use Rattle.uc_term.specs.Tree.{Tree, var, app, Trees, none, more, count, nodes, nodes_all, apply, apply_all}
use Rattle.uc_term.specs.Flat.{flat, flat_all, tree_of, IsWhole}
use Rattle.uc_term.proofs.Terms.{take_of_length-le}
use Rattle.std.proofs.Common.{take, length, ◌≤◌, sum_by, arith}
use Rattle.std.proofs.lemmas.List.Sums.{sum_by-append, sum_by-cons}
use Rattle.uc_term.specs.Subst.{image_nodes}

-- what a node becomes
abbrev pub node_image : (ℕ → Tree) → Node → List Node
node_image σ (Var x) = flat (σ x)
node_image σ (App f n) = App f n ∷ []

count-apply_all : (σ : ℕ → Tree) (ts : Trees) → count (apply_all σ ts) ≡ count ts
count-apply_all σ none = refl
count-apply_all σ (more t ts) = ap (λ n. n + 1) (count-apply_all σ ts)

mutual
  pub flat-apply : (σ : ℕ → Tree) (t : Tree) → flat (apply σ t) ≡ flat_map (node_image σ) (flat t)
  flat-apply σ (var x) = sym (append-nil (flat (σ x)))
  flat-apply σ (app f ts) = ap₂ (λ n l. App f n ∷ l) (count-apply_all σ ts) (flat_all-apply_all σ ts)

  pub flat_all-apply_all : (σ : ℕ → Tree) (ts : Trees) → flat_all (apply_all σ ts) ≡ flat_map (node_image σ) (flat_all ts)
  flat_all-apply_all σ none = refl
  flat_all-apply_all σ (more t ts) = ap₂ (λ x y. x ++ y) (flat-apply σ t) (flat_all-apply_all σ ts) ∙ sym (flat_map-append (node_image σ) (flat t) (flat_all ts))

pub instance_list : (σ : ℕ → Tree) (ns all : List Node) (i : ℕ) → IsWhole ns → length ns ≤ i → all ≡ flat_map (node_image σ) (take i ns) → all ≡ flat (apply σ (tree_of ns))
instance_list σ ns all i w h e = e ∙ ap (flat_map (node_image σ)) (take_of_length-le ns i h ∙ sym w) ∙ sym (flat-apply σ (tree_of ns))

-- how many nodes an instance has, node by node
mutual
  pub nodes-apply : (σ : ℕ → Tree) (t : Tree) → nodes (apply σ t) ≡ sum_by (image_nodes σ) (flat t)
  nodes-apply σ (var x) = omega arith
  nodes-apply σ (app f ts) = let e : sum_by (image_nodes σ) (flat (app f ts)) ≡ 1 + sum_by (image_nodes σ) (flat_all ts) = sum_by-cons (image_nodes σ) (App f (count ts)) (flat_all ts) in omega (arith, nodes_all-apply_all σ ts)

  pub nodes_all-apply_all : (σ : ℕ → Tree) (ts : Trees) → nodes_all (apply_all σ ts) ≡ sum_by (image_nodes σ) (flat_all ts)
  nodes_all-apply_all σ none = refl
  nodes_all-apply_all σ (more t ts) = omega (arith, sum_by-append (image_nodes σ) (flat t) (flat_all ts), nodes-apply σ t, nodes_all-apply_all σ ts)

pub instance_nodes : (σ : ℕ → Tree) (ns : List Node) (i n : ℕ) → IsWhole ns → length ns ≤ i → n ≡ sum_by (image_nodes σ) (take i ns) → n ≡ nodes (apply σ (tree_of ns))
instance_nodes σ ns i n w h e = e ∙ ap (sum_by (image_nodes σ)) (take_of_length-le ns i h ∙ sym w) ∙ sym (nodes-apply σ (tree_of ns))
