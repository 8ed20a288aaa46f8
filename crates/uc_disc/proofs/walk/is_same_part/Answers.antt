use Rattle.std.proofs.Common.{◌≡◌, ◌↔◌, IsTrue, ◌+◌, ◌-◌, ◌<◌, ℕ, length, Bool, List, sym, ap, ◌∙◌, take, drop, arith}
use Rattle.uc_term.specs.declared.node.Node.{Node}
use Rattle.uc_term.specs.Tree.{nodes}
use Rattle.uc_term.specs.Flat.{IsWhole, flat, tree_of}
use Rattle.uc_term.specs.Code.{tree_of-flat}
use Rattle.uc_term.proofs.Terms.{whole_one}
use Rattle.uc_disc.specs.Standing.{part}
use Rattle.uc_disc.proofs.Walks.{part_front}
use Rattle.uc_disc.proofs.walk.is_same_part.Goals as goal

same : (ns : List Node) → IsWhole ns → (p q d e : ℕ) → p < length ns → q < length ns → d ≡ p + nodes (part ns p) → e ≡ q + nodes (part ns q) → (b : Bool) → (IsTrue b ↔ (take (d - p) (drop p ns) ≡ take (e - q) (drop q ns))) → IsTrue b ↔ (p < length ns) × (part ns p ≡ part ns q)
same ns w p q d e h k dp eq b r =
    let a : take (d - p) (drop p ns) ≡ flat (part ns p) = ap (λ z. take z (drop p ns)) (let z : d - p ≡ nodes (part ns p) = omega arith in z) ∙ part_front ns w p h in
    let c : take (e - q) (drop q ns) ≡ flat (part ns q) = ap (λ z. take z (drop q ns)) (let z : e - q ≡ nodes (part ns q) = omega arith in z) ∙ part_front ns w q k in
    (λ t. (h, sym (tree_of-flat (part ns p)) ∙ ap tree_of (sym a ∙ r.0 t ∙ c) ∙ tree_of-flat (part ns q)), λ s. r.1 (a ∙ ap flat s.1 ∙ sym c))

pub end_of-requires-clause-whole : goal.end_of-requires-clause-whole
end_of-requires-clause-whole c = whole_one c.args.term.now c.requires.whole

pub slice_bounds-same_nodes-end : goal.slice_bounds-same_nodes-end
slice_bounds-same_nodes-end c = omega (arith, c.end_of.ensures.end)

pub end_of-requires-2-clause-whole : goal.end_of-requires-2-clause-whole
end_of-requires-2-clause-whole c = whole_one c.args.term.now c.requires.whole

pub slice_bounds-same_nodes-end-2 : goal.slice_bounds-same_nodes-end-2
slice_bounds-same_nodes-end-2 c = omega (arith, c.end_of-2.ensures.end)

pub returns : goal.returns
returns c = same c.args.term.now c.requires.whole c.args.first c.args.here _ _ c.if-first-term.false c.requires.within c.end_of.ensures.end c.end_of-2.ensures.end c.same_nodes.result c.same_nodes.ensures
