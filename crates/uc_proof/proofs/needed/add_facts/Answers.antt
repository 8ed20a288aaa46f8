use Rattle.std.proofs.lemmas.List.{drop_more}
use Rattle.uc_proof.proofs.Among.{one_more, none_left, fact_split, fact_none, nothing_behind}
use Rattle.uc_proof.proofs.needed.add_facts.Goals as goal

pub loop-number-preserved : goal.loop-number-preserved
loop-number-preserved c = λ p. one_more (c.loop-number.invariant p) (c.in_ok-add.ensures p) (fact_split c.args.live.now c.loop-number.number-index _ p (drop_more c.args.live.now c.loop-number.number-index _ c.loop-number-test.true))

pub returns : goal.returns
returns c = λ p. none_left (c.loop-number.invariant p) (fact_none c.args.live.now c.loop-number.number-index p (nothing_behind c.args.live.now c.loop-number.number-index c.loop-number-test.false))
