use Rattle.std.proofs.Common.{arith}
use Rattle.uc_term.proofs.Written.{passed_none, passed_within, passed_more}
use Rattle.uc_term.proofs.position.behind.Goals as goal

pub loop-i-init : goal.loop-i-init
loop-i-init c = passed_none c.args.list.now c.args.from c.requires.within

pub end_of-place-requires-clause-within : goal.end_of-place-requires-clause-within
end_of-place-requires-clause-within c =
    let many = c.requires.many in
    passed_within c.args.list.now c.args.from c.loop-i._i c.loop-i.place c.loop-i.invariant (omega (arith, c.loop-i-test.true))

pub loop-i-preserved : goal.loop-i-preserved
loop-i-preserved c =
    let many = c.requires.many in
    passed_more c.args.list.now c.args.from c.loop-i._i c.loop-i.place c.end_of-place.result c.requires.whole c.loop-i.invariant (omega (arith, c.loop-i-test.true)) c.end_of-place.ensures.end c.end_of-place.ensures.in_list
