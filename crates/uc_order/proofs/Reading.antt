-- Lists of nodes with renamed variables, part by part.
use Rattle.std.proofs.Common.{◌≡◌, ℕ, zero, suc, ◌<◌, List, [], ◌∷◌, length, take, drop, get_or, map, refl, ap, ap₂, ◌∙◌, arith}
use Rattle.uc_term.specs.declared.node.Node.{Node}
use Rattle.uc_term.specs.declared.node.Node.TheVariants.{Var, App}
use Rattle.uc_term.specs.Tree.{Tree, var, app, Trees, none, more, of_list, apply, apply_all, nodes, nodes_all}
use Rattle.uc_term.specs.Flat.{spelled, tree_of, first_of_trees}
use Rattle.uc_order.specs.Renamed.{renamed_node, renamed_nodes}
use Rattle.uc_order.proofs.Renaming.{renaming}

module _ (r : ℕ → ℕ) where
  pub take-renamed : (n : ℕ) (ns : List Node) → take n (renamed_nodes r ns) ≡ renamed_nodes r (take n ns)
  take-renamed zero ns = refl
  take-renamed (suc n) [] = refl
  take-renamed (suc n) (m ∷ ns) = ap (λ l. renamed_node r m ∷ l) (take-renamed n ns)

  pub drop-renamed : (n : ℕ) (ns : List Node) → drop n (renamed_nodes r ns) ≡ renamed_nodes r (drop n ns)
  drop-renamed zero ns = refl
  drop-renamed (suc n) [] = refl
  drop-renamed (suc n) (m ∷ ns) = drop-renamed n ns

  pub get_or-renamed : (ns : List Node) (i : ℕ) (d e : Node) → i < length ns → get_or (renamed_nodes r ns) i e ≡ renamed_node r (get_or ns i d)
  get_or-renamed [] i d e h = absurd (omega arith)
  get_or-renamed (n ∷ ns) zero d e h = refl
  get_or-renamed (n ∷ ns) (suc i) d e h = get_or-renamed ns i d e (omega arith)

  image_tree : Tree → Tree
  image_tree t = apply (renaming r) t

  -- the terms that renamed nodes spell
  pub renamed_of_list : (ts : List Tree) → of_list (map (apply (renaming r)) ts) ≡ apply_all (renaming r) (of_list ts)
  renamed_of_list [] = refl
  renamed_of_list (t ∷ ts) = ap (more (apply (renaming r) t)) (renamed_of_list ts)

  pub take-map : (n : ℕ) (ts : List Tree) → take n (map (apply (renaming r)) ts) ≡ map (apply (renaming r)) (take n ts)
  take-map zero ts = refl
  take-map (suc n) [] = refl
  take-map (suc n) (t ∷ ts) = ap (λ l. apply (renaming r) t ∷ l) (take-map n ts)

  drop-map : (n : ℕ) (ts : List Tree) → drop n (map (apply (renaming r)) ts) ≡ map (apply (renaming r)) (drop n ts)
  drop-map zero ts = refl
  drop-map (suc n) [] = refl
  drop-map (suc n) (t ∷ ts) = drop-map n ts

  pub spelled-renamed : (ns : List Node) → spelled (renamed_nodes r ns) ≡ map (apply (renaming r)) (spelled ns)
  spelled-renamed [] = refl
  spelled-renamed (Var x ∷ ns) = ap (λ l. var (r x) ∷ l) (spelled-renamed ns)
  spelled-renamed (App f n ∷ ns) =
      let e = spelled-renamed ns in
      ap₂ (λ us vs. app f (of_list us) ∷ vs) (ap (take n) e ∙ take-map n (spelled ns)) (ap (drop n) e ∙ drop-map n (spelled ns))
      ∙ ap (λ us. app f us ∷ map (apply (renaming r)) (drop n (spelled ns))) (renamed_of_list (take n (spelled ns)))

  mutual
    nodes-apply : (t : Tree) → nodes (apply (renaming r) t) ≡ nodes t
    nodes-apply (var x) = refl
    nodes-apply (app f ts) = omega (arith, nodes_all-apply ts)

    nodes_all-apply : (ts : Trees) → nodes_all (apply_all (renaming r) ts) ≡ nodes_all ts
    nodes_all-apply none = refl
    nodes_all-apply (more t ts) = omega (arith, nodes-apply t, nodes_all-apply ts)

  length-map : (ts : List Tree) → length (map (apply (renaming r)) ts) ≡ length ts
  length-map [] = refl
  length-map (t ∷ ts) = omega (arith, length-map ts)

  pub length-spelled : (ns : List Node) → length (spelled (renamed_nodes r ns)) ≡ length (spelled ns)
  length-spelled ns = ap length (spelled-renamed ns) ∙ length-map (spelled ns)

  first-nodes : (ts : List Tree) → nodes (first_of_trees (map (apply (renaming r)) ts)) ≡ nodes (first_of_trees ts)
  first-nodes [] = refl
  first-nodes (t ∷ ts) = nodes-apply t

  -- what begins at a place has as many nodes
  pub nodes-renamed : (ns : List Node) (p : ℕ) → nodes (tree_of (drop p (renamed_nodes r ns))) ≡ nodes (tree_of (drop p ns))
  nodes-renamed ns p = ap (λ l. nodes (tree_of l)) (drop-renamed p ns) ∙ ap (λ ts. nodes (first_of_trees ts)) (spelled-renamed (drop p ns)) ∙ first-nodes (spelled (drop p ns))

  pub nodes_all-renamed : (ns : List Node) (p k : ℕ) → nodes_all (of_list (take k (spelled (drop p (renamed_nodes r ns))))) ≡ nodes_all (of_list (take k (spelled (drop p ns))))
  nodes_all-renamed ns p k =
      ap (λ l. nodes_all (of_list (take k (spelled l)))) (drop-renamed p ns)
      ∙ ap (λ ts. nodes_all (of_list (take k ts))) (spelled-renamed (drop p ns))
      ∙ ap (λ ts. nodes_all (of_list ts)) (take-map k (spelled (drop p ns)))
      ∙ ap nodes_all (renamed_of_list (take k (spelled (drop p ns))))
      ∙ nodes_all-apply (of_list (take k (spelled (drop p ns))))

  pub length_spelled_at : (ns : List Node) (p : ℕ) → length (spelled (drop p (renamed_nodes r ns))) ≡ length (spelled (drop p ns))
  length_spelled_at ns p = ap (λ l. length (spelled l)) (drop-renamed p ns) ∙ length-spelled (drop p ns)
