-- Where two lists first differ, and where the last arguments of a level end.
use Rattle.std.proofs.Common.{◌≡◌, ◌≢◌, ℕ, zero, suc, ◌+◌, ◌-◌, ◌<◌, ◌≤◌, List, [], ◌∷◌, ◌++◌, length, take, drop, get_or, sym, ap, ap₂, ◌∙◌, arith, ◌⊎◌, inl, inr}
use Rattle.std.proofs.lemmas.Grind.{take_at_read}
use Rattle.uc_term.specs.declared.node.Node.{Node}
use Rattle.uc_term.specs.declared.node.Node.TheVariants.{Var}
use Rattle.uc_term.specs.Tree.{of_list, nodes, nodes_all}
use Rattle.uc_term.specs.Flat.{spelled, tree_of, AreWhole}
use Rattle.uc_order.specs.Renamed.{renamed_node, renamed_nodes}
use Rattle.uc_order.proofs.Renaming.{length-renamed}
use Rattle.uc_order.proofs.Reading.{get_or-renamed}
use Rattle.uc_order.proofs.Climbing.{begins}
use Rattle.uc_lpo.proofs.Steps.{nothing_left}

module _ (r : ℕ → ℕ) where
  pub more_common : (s t : List Node) (at : ℕ) (d e : Node) → at < length s → at < length t → renamed_node r (get_or s at d) ≡ renamed_node r (get_or t at e) → take at (renamed_nodes r s) ≡ take at (renamed_nodes r t) → take (at + 1) (renamed_nodes r s) ≡ take (at + 1) (renamed_nodes r t)
  more_common s t at d e h k same common =
      (take_at_read (renamed_nodes r s) at (Var 0) (omega (arith, length-renamed r s))).1
      ∙ ap₂ (λ l x. l ++ x ∷ []) common (get_or-renamed r s at d (Var 0) h ∙ same ∙ sym (get_or-renamed r t at e (Var 0) k))
      ∙ sym (take_at_read (renamed_nodes r t) at (Var 0) (omega (arith, length-renamed r t))).1

  pub differ_here : (s t : List Node) (at : ℕ) (d e f : Node) → at < length s → at < length t → renamed_node r (get_or s at d) ≢ renamed_node r (get_or t at e) → get_or (renamed_nodes r s) at f ≢ get_or (renamed_nodes r t) at f
  differ_here s t at d e f h k ne same = ne (sym (get_or-renamed r s at d f h) ∙ same ∙ get_or-renamed r t at e f k)

-- whole terms are still to come
pub some_left : (ns : List Node) (p k : ℕ) → 0 < k → k ≤ length (spelled (drop p ns)) → p ≤ length ns → p < length ns
some_left ns p k some enough h = go (grind arith)
  where
    go : (p < length ns) ⊎ (length ns ≤ p) → p < length ns
    go (inl l) = l
    go (inr l) = absurd (omega (arith, some, enough, ap (λ ms. length (spelled ms)) (nothing_left ns p l)))

-- how the way over some terms stands
pub record Over (ns : List Node) (to count end left : ℕ) : Type 0 where
  pub within : end ≤ length ns
  pub enough : left ≤ length (spelled (drop end ns))
  pub sum : end + nodes_all (of_list (take left (spelled (drop end ns)))) ≡ to + nodes_all (of_list (take count (spelled (drop to ns))))

pub over_one : (ns : List Node) (to count end left next : ℕ) → AreWhole ns → 0 < left → end < length ns → next ≡ end + nodes (tree_of (drop end ns)) → Over ns to count end left → Over ns to count next (left - 1)
over_one ns to count end left next w some h q o = go left some o.enough o.sum
  where
    go : (left : ℕ) → 0 < left → left ≤ length (spelled (drop end ns)) → end + nodes_all (of_list (take left (spelled (drop end ns)))) ≡ to + nodes_all (of_list (take count (spelled (drop to ns)))) → Over ns to count next (left - 1)
    go zero some enough sum = absurd (omega (arith, some))
    go (suc n) some enough sum =
        let b = begins ns end next w h q in
        let long = ap length b.spells in
        let size = ap (λ ts. nodes_all (of_list (take (suc n) ts))) b.spells in
        let less : suc n - 1 ≡ n = omega arith in
        let rest = ap (λ k. nodes_all (of_list (take k (spelled (drop next ns))))) less in
        record { within = b.within; enough = omega (arith, long, enough); sum = omega (arith, size, rest, sum, q) }

pub over_none : (ns : List Node) (to count end left : ℕ) → left ≡ 0 → Over ns to count end left → end ≡ to + nodes_all (of_list (take count (spelled (drop to ns))))
over_none ns to count end left z o = omega (arith, o.sum, ap (λ k. nodes_all (of_list (take k (spelled (drop end ns))))) z)
