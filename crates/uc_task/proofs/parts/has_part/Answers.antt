use Rattle.std.proofs.Common.{◌≡◌, ◌+◌, ◌-◌, ◌<◌, ◌⊎◌, ℕ, length, arith, ap, subst, inl, inr}
use Rattle.uc_term.specs.declared.node.Node.TheVariants.{Var}
use Rattle.uc_term.specs.Tree.{Tree, nodes, subterm}
use Rattle.uc_term.specs.Flat.{flat, tree_of}
use Rattle.uc_term.specs.Code.{tree_of-flat}
use Rattle.uc_term.proofs.Terms.{length-flat, nodes_pos}
use Rattle.uc_unify.specs.Matching.{HasNoMatch}
use Rattle.uc_task.proofs.Parting.{too_short}
use Rattle.uc_task.proofs.parts.has_part.Goals as goal

-- at no place where enough nodes are left, so at none
nowhere : (t pattern : Tree) (places : ℕ) → places ≡ nodes t + 1 - nodes pattern → ((p : ℕ) → p < places → HasNoMatch pattern (subterm t p)) → (p : ℕ) → p < nodes t → HasNoMatch pattern (subterm t p)
nowhere t pattern places e none p h = go (let z : (p < places) ⊎ (nodes t - p < nodes pattern) = grind arith in z)
  where
    go : (p < places) ⊎ (nodes t - p < nodes pattern) → HasNoMatch pattern (subterm t p)
    go (inl l) = none p l
    go (inr l) =
        let n = length-flat t in
        let m = length-flat pattern in
        subst (λ z. HasNoMatch z (subterm t p)) (tree_of-flat pattern) (subst (λ z. HasNoMatch (tree_of (flat pattern)) (subterm z p)) (tree_of-flat t) (too_short (flat t) (flat pattern) p (Var 0) (ap flat (tree_of-flat t)) (ap flat (tree_of-flat pattern)) (omega arith) (omega arith)))

pub is_part-requires-clause-within : goal.is_part-requires-clause-within
is_part-requires-clause-within c = omega (arith, c.loop-place-test.true, c.nodes.ensures.value, c.nodes-2.ensures.value, c.saturating_sub-places.ensures, nodes_pos c.args.pattern.now, ap length c.as_nodes.ensures.value, ap length c.as_nodes-in-loop-place.ensures.value, length-flat c.args.term.now)

pub returns : goal.returns
returns c = λ _. nowhere c.args.term.now c.args.pattern.now c.loop-place.place (omega (arith, c.loop-place-test.false)) c.loop-place.invariant
