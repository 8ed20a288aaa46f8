use Rattle.std.proofs.Common.{arith}
use Rattle.uc_certificate.proofs.VariableNames.{all_of}
use Rattle.uc_certificate.proofs.terms.variables_in.Goals as goal

pub returns-clause-all : goal.returns-clause-all
returns-clause-all c = all_of c.args.bytes.now c.args.tokens.now c.loop-at.most (λ k n h e. c.loop-at.invariant.all k n (omega (arith, h, c.loop-at-test.false)) e)
