-- The flat list of a term with other variables is its flat list with other variables.
use Rattle.std.proofs.Common.{◌≡◌, ℕ, List, [], ◌∷◌, map, length, refl, sym, ap, ◌∙◌, arith}
use Rattle.uc_term.specs.declared.node.Node.{Node}
use Rattle.uc_term.specs.Tree.{of_list}
use Rattle.uc_term.specs.Flat.{flat, spelled, tree_of, trees_of, IsWhole}
use Rattle.uc_term.specs.Code.{tree_of-flat}
use Rattle.uc_order.specs.Renamed.{renamed_node, renamed_nodes}
use Rattle.uc_order.proofs.Renaming.{renamed_whole}
use Rattle.uc_order.proofs.Reading.{spelled-renamed, renamed_of_list}
use Rattle.uc_lpo.specs.Shown.{shown, shown_all}

module _ (represent : ℕ → ℕ) where
  at_list : (ns : List Node) → IsWhole ns → flat (shown represent (tree_of ns)) ≡ map (renamed_node represent) ns
  at_list ns w = sym (renamed_whole represent ns w)

  -- two whole lists look alike exactly where their trees do
  pub same_shown : (ns ms : List Node) → IsWhole ns → IsWhole ms → shown represent (tree_of ns) ≡ shown represent (tree_of ms) → map (renamed_node represent) ns ≡ map (renamed_node represent) ms
  same_shown ns ms w v e = sym (at_list ns w) ∙ ap flat e ∙ at_list ms v

  pub shown_same : (ns ms : List Node) → IsWhole ns → IsWhole ms → map (renamed_node represent) ns ≡ map (renamed_node represent) ms → shown represent (tree_of ns) ≡ shown represent (tree_of ms)
  shown_same ns ms w v e = sym (tree_of-flat (shown represent (tree_of ns))) ∙ ap tree_of (at_list ns w ∙ e ∙ sym (at_list ms v)) ∙ tree_of-flat (shown represent (tree_of ms))

  shown_trees : (ns : List Node) → shown_all represent (trees_of ns) ≡ trees_of (renamed_nodes represent ns)
  shown_trees ns = sym (renamed_of_list represent (spelled ns)) ∙ ap of_list (sym (spelled-renamed represent ns))

  -- lists that look alike have terms that do
  pub shown_all_same : (ns ms : List Node) → map (renamed_node represent) ns ≡ map (renamed_node represent) ms → shown_all represent (trees_of ns) ≡ shown_all represent (trees_of ms)
  shown_all_same ns ms e = shown_trees ns ∙ ap trees_of e ∙ sym (shown_trees ms)

  pub alike_length : (ns ms : List Node) → map (renamed_node represent) ns ≡ map (renamed_node represent) ms → length ns ≡ length ms
  alike_length [] [] e = refl
  alike_length [] (m ∷ ms) e = cc
  alike_length (n ∷ ns) [] e = cc
  alike_length (n ∷ ns) (m ∷ ms) e = let tails : map (renamed_node represent) ns ≡ map (renamed_node represent) ms = cc in omega (arith, alike_length ns ms tails)
