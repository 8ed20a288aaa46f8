use Rattle.std.proofs.Common.{drop, arith}
use Rattle.std.proofs.lemmas.List.{drop_all}
use Rattle.uc_tstp.proofs.Resolved.{next_parent_at, all_parents}
use Rattle.uc_tstp.proofs.resolving.parents_of.Goals as goal

pub loop-token-preserved : goal.loop-token-preserved
loop-token-preserved c =
    rw c.in_ok-push.ensures.ok (next_parent_at c.args.bytes.now c.args.tokens.now c.args.names.now c.args.parents.now c.loop-token.numbers c.loop-token.token-index c.in_ok-number.number c.loop-token-test.true c.loop-token.invariant c.in_ok-number.ensures.named)

pub returns-clause-named : goal.returns-clause-named
returns-clause-named c = all_parents c.args.bytes.now c.args.tokens.now c.args.names.now c.args.parents.now c.loop-token.numbers (drop c.loop-token.token-index c.args.parents.now) (drop_all c.loop-token.token-index c.args.parents.now (omega (arith, c.loop-token-test.false))) c.loop-token.invariant
