use Rattle.std.proofs.Common.{arith}
use Rattle.std.proofs.lemmas.Result.{err_from_is_err_and}
use Rattle.uc_tstp.proofs.Members.{ahead_on, ahead_more, ahead_stops, ahead_behind, next_within}
use Rattle.uc_certificate.specs.JoinLines as rules
use Rattle.uc_certificate.proofs.JoinEnds.{triple_ends}
use Rattle.uc_certificate.proofs.triples.triples.Goals as goal

pub returns-in_err-member-clause-stops : goal.returns-in_err-member-clause-stops
returns-in_err-member-clause-stops c =
    let p = err_from_is_err_and c.from_residual.result c.from_residual.ensures.1 in
    rw (p.1, p.2) (ahead_stops c.args.bytes.now c.args.tokens.now (rules.triple c.args.bytes.now c.args.tokens.now) c.args.from c.members.list c.members.at c.in_err-member.field-0.0 (ahead_on c.args.bytes.now c.args.tokens.now (rules.triple c.args.bytes.now c.args.tokens.now) c.args.from c.members.list c.members.more c.members.at c.members-test.true c.members.invariant) c.in_err-member.ensures.stops)

pub returns-in_err-more-clause-stops : goal.returns-in_err-more-clause-stops
returns-in_err-more-clause-stops c =
    let p = err_from_is_err_and c.from_residual-in_err-more.result c.from_residual-in_err-more.ensures.1 in
    rw (p.1, p.2) (ahead_behind c.args.bytes.now c.args.tokens.now (rules.triple c.args.bytes.now c.args.tokens.now) c.args.from c.members.list c.in_ok-member.member.0 c.members.at c.in_ok-member.member.1 c.in_err-more.field-0.0 (ahead_on c.args.bytes.now c.args.tokens.now (rules.triple c.args.bytes.now c.args.tokens.now) c.args.from c.members.list c.members.more c.members.at c.members-test.true c.members.invariant) c.in_ok-member.ensures.reads c.in_err-more.ensures.stops)

pub overflow_add-at : goal.overflow_add-at
overflow_add-at c = omega (arith, next_within c.args.bytes.now c.args.tokens.now c.in_ok-member.member.1 c.in_ok-more.more c.in_ok-more.ensures.next)

pub members-smaller : goal.members-smaller
members-smaller c =
    omega (arith, next_within c.args.bytes.now c.args.tokens.now c.in_ok-member.member.1 c.in_ok-more.more c.in_ok-more.ensures.next, triple_ends c.args.bytes.now c.args.tokens.now c.members.at c.in_ok-member.member.1 c.in_ok-member.member.0 c.in_ok-member.ensures.reads)

pub members-preserved : goal.members-preserved
members-preserved c =
    rw c.in_ok-push.ensures.ok (ahead_more c.args.bytes.now c.args.tokens.now (rules.triple c.args.bytes.now c.args.tokens.now) c.args.from c.members.list c.in_ok-member.member.0 c.members.at c.in_ok-member.member.1 c.in_ok-more.more (ahead_on c.args.bytes.now c.args.tokens.now (rules.triple c.args.bytes.now c.args.tokens.now) c.args.from c.members.list c.members.more c.members.at c.members-test.true c.members.invariant) c.in_ok-member.ensures.reads c.in_ok-more.ensures.next)
