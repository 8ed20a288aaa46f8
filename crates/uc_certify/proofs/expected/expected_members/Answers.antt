use Rattle.uc_certify.proofs.Gathered.{has_none, has_next, known_axioms}
use Rattle.uc_certify.proofs.expected.expected_members.Goals as goal

pub loop-k-init : goal.loop-k-init
loop-k-init g c = (has_none (g.O.Order.meaning c.args.order.now).greater c.args.facts.now c.args.axioms.now c.in_ok-members.members.items c.in_ok-members.ensures, known_axioms c.args.facts.now c.args.axioms.now c.in_ok-members.members.items c.in_ok-members.ensures)

pub loop-k-preserved : goal.loop-k-preserved
loop-k-preserved g c = (has_next (g.O.Order.meaning c.args.order.now).greater c.args.facts.now c.args.axioms.now c.loop-k.k c.loop-k.members.items c.add_overlaps.new.members.items c.loop-k-test.true c.in_ok-add_overlaps.ensures.added c.loop-k.invariant.0, c.in_ok-add_overlaps.ensures.known c.args.axioms.now c.loop-k.invariant.1)
