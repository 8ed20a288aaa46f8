use Rattle.std.proofs.Common.{◌≡◌, ◌-◌, length, take, drop, ap, sym, ◌∙◌, subst}
use Rattle.uc_term.specs.Flat.{tree_of, IsWhole}
use Rattle.uc_term.specs.Code.{tree_of-flat}
use Rattle.uc_term.proofs.Terms.{whole_flat_list, whole-flat}
use Rattle.uc_check.proofs.Renaming.{moved}
use Rattle.uc_check.proofs.Pairs.{paired, pair_head, same_parts}
use Rattle.uc_unify.proofs.Decided.{never, not_of, of, to_end, same_test}
use Rattle.uc_check.proofs.encode.is_pair.Goals as goal

pub returns-then-not-same_nodes : goal.returns-then-not-same_nodes
returns-then-not-same_nodes c =
    let differ = not_of c.same_nodes.result c.if-not-same_nodes.true c.same_nodes.ensures in
    never (λ p. differ (pair_head c.args.eq c.args.term.now p.0 p.1 c.as_nodes-nodes.result.now c.as_nodes-nodes.ensures.value p.2))

pub end_of-second-requires-clause-whole : goal.end_of-second-requires-clause-whole
end_of-second-requires-clause-whole c = whole_flat_list _ _ c.as_nodes-nodes.ensures.value

pub are_variants-requires-clause-whole_other_left : goal.are_variants-requires-clause-whole_other_left
are_variants-requires-clause-whole_other_left c =
    let p = paired c.args.eq c.args.term.now c.as_nodes-nodes.result.now c.end_of-second.result c.as_nodes-nodes.ensures.value (of c.same_nodes.result c.if-not-same_nodes.false c.same_nodes.ensures) c.end_of-second.ensures.end in
    subst IsWhole (sym p.first) (whole-flat p.u)

pub are_variants-requires-clause-whole_other_right : goal.are_variants-requires-clause-whole_other_right
are_variants-requires-clause-whole_other_right c =
    let p = paired c.args.eq c.args.term.now c.as_nodes-nodes.result.now c.end_of-second.result c.as_nodes-nodes.ensures.value (of c.same_nodes.result c.if-not-same_nodes.false c.same_nodes.ensures) c.end_of-second.ensures.end in
    subst IsWhole (sym (to_end c.as_nodes-nodes.result.now c.end_of-second.result ∙ p.second)) (whole-flat p.v)

pub returns : goal.returns
returns c =
    let ns = c.as_nodes-nodes.result.now in
    let e = c.end_of-second.result in
    let p = paired c.args.eq c.args.term.now ns e c.as_nodes-nodes.ensures.value (of c.same_nodes.result c.if-not-same_nodes.false c.same_nodes.ensures) c.end_of-second.ensures.end in
    let l : tree_of c.as_nodes.result.now ≡ c.args.goal.now.left = ap tree_of c.as_nodes.ensures.value ∙ tree_of-flat c.args.goal.now.left in
    let r : tree_of c.as_nodes-2.result.now ≡ c.args.goal.now.right = ap tree_of c.as_nodes-2.ensures.value ∙ tree_of-flat c.args.goal.now.right in
    let u : tree_of (take (e - 1) (drop 1 ns)) ≡ p.u = ap tree_of p.first ∙ tree_of-flat p.u in
    let v : tree_of (take (length ns - e) (drop e ns)) ≡ p.v = ap tree_of (to_end ns e ∙ p.second) ∙ tree_of-flat p.v in
    same_test c.are_variants.result
    (λ w. (p.u, p.v, p.is, moved _ _ _ _ _ _ _ _ l r u v w))
    (λ w. let s = same_parts c.args.eq c.args.term.now w.0 w.1 p.u p.v w.2 p.is in moved _ _ _ _ _ _ _ _ (sym l) (sym r) (s.0 ∙ sym u) (s.1 ∙ sym v) w.3)
    c.are_variants.ensures
