use Rattle.std.proofs.Common.{◌≡◌, arith}
use Rattle.uc_term.specs.Flat.{flat}
use Rattle.uc_term.proofs.Terms.{copied, whole_list}
use Rattle.uc_term.proofs.term.Term.copy.Goals as goal

made : (c : goal.In_ok-extend_from_slice) → c.extend_from_slice.new.self.items ≡ flat c.args.self.now
made c = copied c.new-list.result.items c.extend_from_slice.new.self.items c.as_nodes.result.now c.args.self.now c.new-list.ensures.items c.in_ok-extend_from_slice.ensures.items c.as_nodes.ensures.value

pub invariant_of-result : goal.invariant_of-result
invariant_of-result c =
    let w = whole_list c.extend_from_slice.new.self.items c.args.self.now (made c) in
    let small = c.as_nodes.ensures.small in
    (w.0, omega (arith, w.2))

pub returns : goal.returns
returns c = (whole_list c.extend_from_slice.new.self.items c.args.self.now (made c)).1
