use Rattle.std.proofs.Common.{arith}
use Rattle.std.proofs.lemmas.Result.{err_from_is_err_and}
use Rattle.uc_clause.proofs.Tables.{grows_not, grows_twice}
use Rattle.uc_tstp.proofs.Members.{next_within}
use Rattle.uc_tstp.proofs.StepReading.{kept_none, kept_stops, kept_behind, kept_more}
use Rattle.uc_tstp.proofs.StepEnds.{step_ends}
use Rattle.uc_tstp.proofs.steps.more_steps.Goals as goal

pub members-init : goal.members-init
members-init c = record {
  keeps = rw c.new-list.ensures (kept_none c.args.bytes.now c.args.tokens.now c.args.from c.args.variables.now c.args.symbols.now);
  grows = grows_not c.args.symbols.now;
}

pub returns-in_err-member-clause-stops : goal.returns-in_err-member-clause-stops
returns-in_err-member-clause-stops c =
    let p = err_from_is_err_and c.from_residual.result c.from_residual.ensures.1 in
    rw (p.1, p.2) (kept_stops c.args.bytes.now c.args.tokens.now c.args.from c.args.variables.now c.args.symbols.now c.members.more c.members.at c.members.variables c.members.symbols c.members.list c.members.invariant.keeps c.members-test.true c.in_err-member.field-0.0 c.in_err-member.ensures.stops)

pub returns-in_err-more-clause-stops : goal.returns-in_err-more-clause-stops
returns-in_err-more-clause-stops c =
    let p = err_from_is_err_and c.from_residual-in_err-more.result c.from_residual-in_err-more.ensures.1 in
    rw (p.1, p.2) (kept_behind c.args.bytes.now c.args.tokens.now c.args.from c.args.variables.now c.args.symbols.now c.members.more c.members.at c.members.variables c.members.symbols c.members.list c.members.invariant.keeps c.members-test.true c.in_ok-member.member.1 c.step.new.variables c.step.new.symbols c.in_ok-member.member.0 c.in_ok-member.ensures.reads c.in_err-more.field-0.0 c.in_err-more.ensures.stops)

pub overflow_add-at : goal.overflow_add-at
overflow_add-at c = omega (arith, next_within c.args.bytes.now c.args.tokens.now c.in_ok-member.member.1 c.in_ok-more.more c.in_ok-more.ensures.next)

pub members-smaller : goal.members-smaller
members-smaller c =
    omega (arith, next_within c.args.bytes.now c.args.tokens.now c.in_ok-member.member.1 c.in_ok-more.more c.in_ok-more.ensures.next, step_ends c.args.bytes.now c.args.tokens.now c.members.at c.in_ok-member.member.1 c.in_ok-member.ensures.reads.step c.in_ok-member.ensures.reads.reads)

pub members-preserved : goal.members-preserved
members-preserved c = record {
  keeps = rw c.in_ok-push.ensures.ok (kept_more c.args.bytes.now c.args.tokens.now c.args.from c.args.variables.now c.args.symbols.now c.members.more c.members.at c.members.variables c.members.symbols c.members.list c.members.invariant.keeps c.members-test.true c.in_ok-member.member.1 c.step.new.variables c.step.new.symbols c.in_ok-member.member.0 c.in_ok-member.ensures.reads c.in_ok-more.more c.in_ok-more.ensures.next c.in_ok-member.ensures.grows);
  grows = grows_twice c.args.symbols.now c.members.symbols c.step.new.symbols c.members.invariant.grows c.in_ok-member.ensures.grows;
}

pub returns-in_err-member-clause-grows : goal.returns-in_err-member-clause-grows
returns-in_err-member-clause-grows c = grows_twice c.args.symbols.now c.members.symbols c.step.new.symbols c.members.invariant.grows c.in_err-member.ensures.grows

pub returns-in_err-push-clause-grows : goal.returns-in_err-push-clause-grows
returns-in_err-push-clause-grows c = grows_twice c.args.symbols.now c.members.symbols c.step.new.symbols c.members.invariant.grows c.in_ok-member.ensures.grows

pub returns-in_err-more-clause-grows : goal.returns-in_err-more-clause-grows
returns-in_err-more-clause-grows c = grows_twice c.args.symbols.now c.members.symbols c.step.new.symbols c.members.invariant.grows c.in_ok-member.ensures.grows
