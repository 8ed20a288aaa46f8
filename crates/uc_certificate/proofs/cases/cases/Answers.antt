use Rattle.std.proofs.Common.{arith, refl, sym, subst, ◌∙◌, codes}
use Rattle.std.proofs.lemmas.Result.{err_from_is_err_and}
use Rattle.uc_clause.specs.declared.terminal.Terminal.TheVariants.{Open, Close, OpenSquare, CloseSquare, Comma, Dot, End}
use Rattle.uc_clause.specs.Rules.{read, goes_on, stops_first}
use Rattle.uc_clause.proofs.Sequences.{exits_err, if_ok, if_err}
use Rattle.uc_clause.proofs.Tables.{grows_not, grows_twice}
use Rattle.uc_clause.proofs.Ends.{some_other}
use Rattle.uc_tstp.specs.Lines as lines
use Rattle.uc_tstp.proofs.Members.{Ahead, ahead_on, ahead_more, ahead_stops, ahead_behind, list_none, list_some, list_stops, list_unopened, next_within, picked_ahead}
use Rattle.uc_certificate.specs.JoinLines as rules
use Rattle.uc_certificate.specs.JoinMeaning.{MeansMove, MeansCase, MeansJoin, none_mean}
use Rattle.uc_certificate.specs.Interning.{with_case}
use Rattle.uc_certificate.specs.Reads.{AreVariables}
use Rattle.uc_certificate.proofs.JoinLoops.{Kept, kept_none, kept_stops, kept_behind, kept_more, kept_all}
use Rattle.uc_certificate.proofs.JoinEnds.{move_ends, class_ends, case_ends, variable_ends}
use Rattle.uc_certificate.proofs.cases.cases.Goals as goal

pub members-init : goal.members-init
members-init c = record {
  keeps = rw c.new-list.ensures (kept_none c.args.bytes.now c.args.tokens.now (rules.case c.args.bytes.now c.args.tokens.now) (MeansCase c.args.bytes.now c.args.tokens.now) (with_case c.args.bytes.now c.args.tokens.now) c.args.from c.args.symbols.now);
  grows = grows_not c.args.symbols.now;
  same = refl;
}

pub case-requires-clause-seen : goal.case-requires-clause-seen
case-requires-clause-seen c = subst (AreVariables c.args.bytes.now c.args.tokens.now) (sym c.members.invariant.same) c.requires.seen

pub returns-in_err-member-clause-stops : goal.returns-in_err-member-clause-stops
returns-in_err-member-clause-stops c =
    let p = err_from_is_err_and c.from_residual.result c.from_residual.ensures.1 in
    rw (p.1, p.2) (kept_stops c.args.bytes.now c.args.tokens.now (rules.case c.args.bytes.now c.args.tokens.now) (MeansCase c.args.bytes.now c.args.tokens.now) (with_case c.args.bytes.now c.args.tokens.now) c.args.from c.args.symbols.now c.members.more c.members.at c.members.symbols c.members.list c.members.invariant.keeps c.members-test.true c.in_err-member.field-0.0 c.in_err-member.ensures.stops)

pub returns-in_err-more-clause-stops : goal.returns-in_err-more-clause-stops
returns-in_err-more-clause-stops c =
    let p = err_from_is_err_and c.from_residual-in_err-more.result c.from_residual-in_err-more.ensures.1 in
    rw (p.1, p.2) (kept_behind c.args.bytes.now c.args.tokens.now (rules.case c.args.bytes.now c.args.tokens.now) (MeansCase c.args.bytes.now c.args.tokens.now) (with_case c.args.bytes.now c.args.tokens.now) c.args.from c.args.symbols.now c.members.more c.members.at c.members.symbols c.members.list c.members.invariant.keeps c.members-test.true c.in_ok-member.member.1 c.case.new.symbols c.in_ok-member.member.0 c.in_ok-member.ensures.reads c.in_err-more.field-0.0 c.in_err-more.ensures.stops)

pub overflow_add-at : goal.overflow_add-at
overflow_add-at c = omega (arith, next_within c.args.bytes.now c.args.tokens.now c.in_ok-member.member.1 c.in_ok-more.more c.in_ok-more.ensures.next)

pub members-smaller : goal.members-smaller
members-smaller c =
    omega (arith, next_within c.args.bytes.now c.args.tokens.now c.in_ok-member.member.1 c.in_ok-more.more c.in_ok-more.ensures.next, case_ends c.args.bytes.now c.args.tokens.now c.members.at c.in_ok-member.member.1 c.in_ok-member.ensures.reads.parse c.in_ok-member.ensures.reads.reads)

pub members-preserved : goal.members-preserved
members-preserved c = record {
  keeps = rw c.in_ok-push.ensures.ok (kept_more c.args.bytes.now c.args.tokens.now (rules.case c.args.bytes.now c.args.tokens.now) (MeansCase c.args.bytes.now c.args.tokens.now) (with_case c.args.bytes.now c.args.tokens.now) c.args.from c.args.symbols.now c.members.more c.members.at c.members.symbols c.members.list c.members.invariant.keeps c.members-test.true c.in_ok-member.member.1 c.case.new.symbols c.in_ok-member.member.0 c.in_ok-member.ensures.reads c.in_ok-more.more c.in_ok-more.ensures.next c.in_ok-member.ensures.grows);
  grows = grows_twice c.args.symbols.now c.members.symbols c.case.new.symbols c.members.invariant.grows c.in_ok-member.ensures.grows;
  same = c.in_ok-member.ensures.same ∙ c.members.invariant.same;
}

pub returns-clause-reads : goal.returns-clause-reads
returns-clause-reads c = kept_all c.args.bytes.now c.args.tokens.now (rules.case c.args.bytes.now c.args.tokens.now) (MeansCase c.args.bytes.now c.args.tokens.now) (with_case c.args.bytes.now c.args.tokens.now) c.args.from c.args.symbols.now c.members.more c.members.at c.members.symbols c.members.list c.members.invariant.keeps c.members-test.false
