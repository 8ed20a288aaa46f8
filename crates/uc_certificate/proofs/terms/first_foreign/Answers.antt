use Rattle.std.proofs.Common.{sym, ◌∙◌, arith}
use Rattle.uc_certificate.proofs.Foreign.{foreign_step, foreign_found, foreign_none}
use Rattle.uc_certificate.proofs.terms.first_foreign.Goals as goal

pub returns-then-is_foreign : goal.returns-then-is_foreign
returns-then-is_foreign c = sym (c.loop-at.invariant.same ∙ foreign_found c.args.bytes.now c.args.tokens.now c.args.to c.loop-at.at c.loop-at-test.true (sym c.if-is_foreign.ensures))

pub loop-at-preserved : goal.loop-at-preserved
loop-at-preserved c = record {
  low = omega (arith, c.loop-at.invariant.low);
  same = c.loop-at.invariant.same ∙ foreign_step c.args.bytes.now c.args.tokens.now c.args.to c.loop-at.at c.loop-at-test.true (sym c.if-is_foreign.ensures);
}

pub returns : goal.returns
returns c = sym (c.loop-at.invariant.same ∙ foreign_none c.args.bytes.now c.args.tokens.now c.args.to c.loop-at.at c.loop-at-test.false)
