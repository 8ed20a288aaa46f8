use Rattle.std.proofs.Common.{arith, ◌<◌}
use Rattle.uc_fof.proofs.Frees.{bound_none, bound_more, bound_all}
use Rattle.uc_fof.proofs.terms.free_in.Goals as goal

pub tokens-init : goal.tokens-init
tokens-init c = record { ahead = omega arith; all = bound_none c.args.bytes.now c.args.tokens.now c.args.bound.now c.args.from }

pub returns-then-is_free : goal.returns-then-is_free
returns-then-is_free c = record { ahead = c.tokens.invariant.ahead; within = c.tokens-test.true; free = c.if-is_free.ensures; others = c.tokens.invariant.all }

pub tokens-preserved : goal.tokens-preserved
tokens-preserved c = let h = c.tokens.invariant.ahead in record { ahead = omega (arith, h); all = bound_more c.args.bytes.now c.args.tokens.now c.args.bound.now c.args.from c.tokens.at c.tokens.invariant.all c.if-is_free.ensures }

pub returns : goal.returns
returns c = bound_all c.args.bytes.now c.args.tokens.now c.args.bound.now c.args.from c.args.to c.tokens.at (omega (arith, c.tokens-test.false)) c.tokens.invariant.all
