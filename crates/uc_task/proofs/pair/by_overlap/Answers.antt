use Rattle.uc_task.proofs.Paired.{within_born, is_overlap, not_large, overlap_pair, pair_short}
use Rattle.uc_task.proofs.pair.by_overlap.Goals as goal

pub fact-a-requires-clause-born : goal.fact-a-requires-clause-born
fact-a-requires-clause-born g c = within_born c.args.front.now.entries c.args.overlap.now.outer c.requires.listed.outer c.requires.listed.outer_is

pub fact-b-requires-clause-born : goal.fact-b-requires-clause-born
fact-b-requires-clause-born g c = within_born c.args.front.now.entries c.args.overlap.now.inner c.requires.listed.inner c.requires.listed.inner_is

pub pair_of-requires : goal.pair_of-requires
pair_of-requires g c = is_overlap (g.O.Order.meaning c.args.order.now) c.args.front.now.entries c.args.overlap.now c.requires.listed c.fact-a.result.now c.fact-b.result.now c.in_ok-outer.outer c.in_ok-inner.inner c.fact-a.ensures c.fact-b.ensures c.in_ok-outer.ensures c.in_ok-inner.ensures

pub returns-clause-pair : goal.returns-clause-pair
returns-clause-pair g c axioms = overlap_pair (g.O.Order.meaning c.args.order.now) c.args.front.now.entries c.args.overlap.now c.requires.listed c.fact-a.result.now c.fact-b.result.now c.in_ok-outer.outer c.in_ok-inner.inner c.fact-a.ensures c.fact-b.ensures c.in_ok-outer.ensures c.in_ok-inner.ensures axioms c.in_ok-left.field-0 c.in-Pair.left c.in-Pair.right c.in-Pair.chain c.in-Pair.is c.in_ok-left.ensures.pair

pub returns-clause-short : goal.returns-clause-short
returns-clause-short g c = pair_short c.in_ok-outer.outer c.in_ok-inner.inner c.args.overlap.now c.in_ok-left.field-0 c.in-Pair.left c.in-Pair.right c.in-Pair.chain c.in-Pair.is c.in_ok-left.ensures.pair

pub unreachable-requires : goal.unreachable-requires
unreachable-requires g c = not_large (g.O.Order.meaning c.args.order.now) c.args.front.now.entries c.args.overlap.now c.requires.listed c.fact-a.result.now c.fact-b.result.now c.in_ok-outer.outer c.in_ok-inner.inner c.fact-a.ensures c.fact-b.ensures c.in_ok-outer.ensures c.in_ok-inner.ensures c.in_ok-left.field-0 c.in-TooLarge.is c.in_ok-left.ensures.pair
