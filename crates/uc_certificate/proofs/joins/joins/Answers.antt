use Rattle.std.proofs.Common.{sym, ap, subst, arith, ◌∷◌, [], length, length-append}
use Rattle.std.proofs.lemmas.Result.{err_from_is_err_and}
use Rattle.uc_clause.proofs.Ends.{some_token}
use Rattle.uc_clause.proofs.Tables.{grows_not, grows_twice}
use Rattle.uc_certificate.specs.Reads.{AreVariables}
use Rattle.uc_certificate.proofs.JoinEnds.{join_ahead}
use Rattle.uc_certificate.proofs.JoinGathered.{gathered_none, gathered_all, gathered_more, join_stops}
use Rattle.uc_certificate.proofs.joins.joins.Goals as goal

pub joins-init : goal.joins-init
joins-init c = record {
  gathered = rw c.new-list.ensures (gathered_none c.args.bytes.now c.args.tokens.now c.args.symbols.now);
  grows = grows_not c.args.symbols.now;
  seen = c.in_ok-variables.ensures;
  behind = omega (arith, ap length c.new-list.ensures);
  few = omega (arith, ap length c.new-list.ensures);
}

pub returns-in_err-member-clause-stops : goal.returns-in_err-member-clause-stops
returns-in_err-member-clause-stops c =
    let p = err_from_is_err_and c.from_residual-in_err-member.result c.from_residual-in_err-member.ensures.1 in
    rw (p.1, p.2) (join_stops c.args.bytes.now c.args.tokens.now c.args.symbols.now c.joins.symbols c.joins.list c.joins.at c.joins.invariant.gathered c.joins-test.ensures c.in_err-member.field-0.0 c.in_err-member.ensures.stops)

pub joins-smaller : goal.joins-smaller
joins-smaller c = omega (arith, some_token c.args.bytes.now c.args.tokens.now c.joins.at c.joins-test.ensures, join_ahead c.args.bytes.now c.args.tokens.now c.joins.at c.in_ok-member.member.1 c.in_ok-member.ensures.reads.parse c.in_ok-member.ensures.reads.reads)

pub joins-preserved : goal.joins-preserved
joins-preserved c = record {
  gathered = rw c.in_ok-push.ensures.ok (gathered_more c.args.bytes.now c.args.tokens.now c.args.symbols.now c.joins.symbols c.joins.list c.joins.at c.joins.invariant.gathered c.joins-test.ensures c.join.new.symbols c.in_ok-member.member.0 c.in_ok-member.member.1 c.in_ok-member.ensures.grows c.in_ok-member.ensures.reads);
  grows = grows_twice c.args.symbols.now c.joins.symbols c.join.new.symbols c.joins.invariant.grows c.in_ok-member.ensures.grows;
  seen = subst (AreVariables c.args.bytes.now c.args.tokens.now) (sym c.in_ok-member.ensures.same) c.joins.invariant.seen;
  behind = omega (arith, ap length c.in_ok-push.ensures.ok, length-append c.joins.list (c.in_ok-member.member.0 ∷ []), c.joins.invariant.behind, join_ahead c.args.bytes.now c.args.tokens.now c.joins.at c.in_ok-member.member.1 c.in_ok-member.ensures.reads.parse c.in_ok-member.ensures.reads.reads);
  few = omega (arith, ap length c.in_ok-push.ensures.ok, length-append c.joins.list (c.in_ok-member.member.0 ∷ []), c.joins.invariant.behind, some_token c.args.bytes.now c.args.tokens.now c.joins.at c.joins-test.ensures);
}

pub returns-clause-reads : goal.returns-clause-reads
returns-clause-reads c = gathered_all c.args.bytes.now c.args.tokens.now c.args.symbols.now c.joins.symbols c.joins.list c.joins.at c.joins.invariant.gathered c.joins-test.ensures
