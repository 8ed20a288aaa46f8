use Rattle.std.proofs.Common.{◌-◌, arith}
use Rattle.uc_certificate.proofs.LinesDown.{down_none, down_more, down_all}
use Rattle.uc_certificate.proofs.parts.lines_down.Goals as goal

pub loop-init : goal.loop-init
loop-init c = down_none c.args.count c.args.text.now

pub loop-preserved : goal.loop-preserved
loop-preserved c = down_more c.args.count c.loop.counter c.args.text.now c.loop.rest.now c.behind_line-rest.result.now (let h = c.loop-test.true in omega arith) c.behind_line-rest.ensures c.loop.invariant

pub returns : goal.returns
returns c = down_all (c.args.count - c.loop.counter) c.args.count c.args.text.now c.loop.rest.now (let h = c.loop-test.false in omega arith) c.loop.invariant
