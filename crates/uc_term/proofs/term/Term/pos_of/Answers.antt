use Rattle.std.proofs.Common.{ap, arith, length}
use Rattle.std.proofs.lemmas.List.{drop_more}
use Rattle.uc_term.proofs.Terms.{whole_flat_list, length-flat}
use Rattle.uc_term.proofs.Written.{walk_begins, walk_goes_on, walk_stops, walk_ends}
use Rattle.uc_term.proofs.term.Term.pos_of.Goals as goal

pub loop-number-init : goal.loop-number-init
loop-number-init c = walk_begins c.args.self.now c.args.path.now c.as_nodes-list.result.now c.as_nodes-list.ensures.value

pub argument_place-requires-clause-whole : goal.argument_place-requires-clause-whole
argument_place-requires-clause-whole c = whole_flat_list _ _ c.as_nodes-list.ensures.value

pub argument_place-requires-clause-small : goal.argument_place-requires-clause-small
argument_place-requires-clause-small c = omega (arith, ap length c.as_nodes-list.ensures.value, length-flat c.args.self.now)

pub loop-number-preserved : goal.loop-number-preserved
loop-number-preserved c = walk_goes_on _ _ _ _ _ _ _ c.loop-number.invariant (drop_more c.args.path.now c.loop-number.number-index 0 c.loop-number-test.true) c.in-Some.ensures

pub returns-in-None : goal.returns-in-None
returns-in-None c = walk_stops _ _ _ _ _ _ c.loop-number.invariant (drop_more c.args.path.now c.loop-number.number-index 0 c.loop-number-test.true) c.in-None.ensures

pub overflow_cast-result : goal.overflow_cast-result
overflow_cast-result c =
    let inside = c.loop-number.invariant.inside in
    omega (arith, ap length c.as_nodes-list.ensures.value, length-flat c.args.self.now)

pub returns : goal.returns
returns c = walk_ends _ _ _ _ _ c.loop-number.invariant c.loop-number-test.false
