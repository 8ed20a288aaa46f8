use Rattle.std.proofs.Common.{◌≡◌, length, arith, ap}
use Rattle.uc_term.specs.Tree.{put}
use Rattle.uc_term.specs.Flat.{flat}
use Rattle.uc_term.proofs.Terms.{length-flat, whole_flat_list, whole_list}
use Rattle.uc_term.proofs.Put.{put_list, put_size, three_parts}
use Rattle.uc_term.proofs.term.Term.put.Goals as goal

pub returns-then-from-list-clause-err : goal.returns-then-from-list-clause-err
returns-then-from-list-clause-err c = omega (arith, ap length c.as_nodes-list.ensures.value, length-flat c.args.self.now)

pub end_of-to-requires-clause-whole : goal.end_of-to-requires-clause-whole
end_of-to-requires-clause-whole c = whole_flat_list _ _ c.as_nodes-list.ensures.value

pub end_of-to-requires-clause-small : goal.end_of-to-requires-clause-small
end_of-to-requires-clause-small c = omega (arith, ap length c.as_nodes-list.ensures.value, length-flat c.args.self.now)

pub returns-then-from-middle-gt-MAX_NODES-clause-err : goal.returns-then-from-middle-gt-MAX_NODES-clause-err
returns-then-from-middle-gt-MAX_NODES-clause-err c =
    let size = put_size c.as_nodes-list.result.now c.as_nodes-middle.result.now c.args.self.now c.args.part.now c.args.pos.0 c.end_of-to.result c.as_nodes-list.ensures.value c.as_nodes-middle.ensures.value c.if-from-list.false c.end_of-to.ensures.end in
    let n = ap length c.as_nodes-list.ensures.value in
    let m = length-flat c.args.self.now in
    (omega arith, omega arith)

made : (c : goal.In_ok-extend_from_slice-3) → c.extend_from_slice-3.new.self.items ≡ flat (put c.args.self.now c.args.pos.0 c.args.part.now)
made c = put_list c.as_nodes-list.result.now c.as_nodes-middle.result.now _ c.args.self.now c.args.part.now c.args.pos.0 c.end_of-to.result c.as_nodes-list.ensures.value c.as_nodes-middle.ensures.value c.if-from-list.false c.end_of-to.ensures.end
    (three_parts _ _ _ _ _ _ _ _ c.new-all.ensures.items c.in_ok-extend_from_slice.ensures.items c.in_ok-extend_from_slice-2.ensures.items c.in_ok-extend_from_slice-3.ensures.items)

pub invariant_of-result : goal.invariant_of-result
invariant_of-result c =
    let size = put_size c.as_nodes-list.result.now c.as_nodes-middle.result.now c.args.self.now c.args.part.now c.args.pos.0 c.end_of-to.result c.as_nodes-list.ensures.value c.as_nodes-middle.ensures.value c.if-from-list.false c.end_of-to.ensures.end in
    let w = whole_list c.extend_from_slice-3.new.self.items (put c.args.self.now c.args.pos.0 c.args.part.now) (made c) in
    (w.0, omega arith)

pub returns-clause-ok : goal.returns-clause-ok
returns-clause-ok c = (whole_list c.extend_from_slice-3.new.self.items (put c.args.self.now c.args.pos.0 c.args.part.now) (made c)).1

pub returns-clause-within : goal.returns-clause-within
returns-clause-within c = omega (arith, ap length c.as_nodes-list.ensures.value, length-flat c.args.self.now)

pub returns-clause-small : goal.returns-clause-small
returns-clause-small c =
    let size = put_size c.as_nodes-list.result.now c.as_nodes-middle.result.now c.args.self.now c.args.part.now c.args.pos.0 c.end_of-to.result c.as_nodes-list.ensures.value c.as_nodes-middle.ensures.value c.if-from-list.false c.end_of-to.ensures.end in
    omega arith
