use Rattle.std.proofs.Common.{◌≡◌, ◌^◌, length, arith, ap, subst, ◌∙◌}
use Rattle.uc_check.specs.Clauses.{equation_of}
use Rattle.uc_table.specs.Algebras.{given}
use Rattle.uc_table.specs.Tables.{IsRow}
use Rattle.uc_table.specs.Checks.{variable_count, assignment_count}
use Rattle.uc_table.proofs.Assignments.{hold_more, hold_all, against_at, holds_from, fails_from}
use Rattle.uc_table.proofs.checking.assignment_against.Goals as goal

pub loop-place-preserved : goal.loop-place-preserved
loop-place-preserved c =
    let row : IsRow c.args.table.now.size (variable_count (equation_of c.args.clause.now)) c.write_place.new.values = subst (λ n. IsRow c.args.table.now.size n c.write_place.new.values) (c.loop-place.invariant.0 ∙ c.requires.values) c.write_place.ensures.row in (
      c.write_place.ensures.row.as_many ∙ c.loop-place.invariant.0,
      c.agree_under.ensures.long ∙ c.loop-place.invariant.1,
      hold_more c.args.table.now c.args.clause.now.positive (equation_of c.args.clause.now) c.loop-place.place c.write_place.new.values row c.write_place.ensures.place c.loop-place.invariant.2
          (holds_from c.args.table.now (equation_of c.args.clause.now) (given c.write_place.new.values) c.args.clause.now.positive c.agree_under.result c.agree_under.ensures.agree c.if-agree_under-clause.false),
    )

pub returns-then-agree_under-clause : goal.returns-then-agree_under-clause
returns-then-agree_under-clause c =
    let row : IsRow c.args.table.now.size (variable_count (equation_of c.args.clause.now)) c.write_place.new.values = subst (λ n. IsRow c.args.table.now.size n c.write_place.new.values) (c.loop-place.invariant.0 ∙ c.requires.values) c.write_place.ensures.row in
    record {
      against = against_at c.args.table.now c.args.clause.now.positive (equation_of c.args.clause.now) c.loop-place.place c.write_place.new.values row c.write_place.ensures.place c.loop-place.invariant.2
          (fails_from c.args.table.now (equation_of c.args.clause.now) (given c.write_place.new.values) c.args.clause.now.positive c.agree_under.result c.agree_under.ensures.agree c.if-agree_under-clause.true);
    }

pub returns : goal.returns
returns c =
    let lists : c.in-Some.lists ≡ c.args.table.now.size ^ length c.args.values.now = c.in-Some.ensures.0 in
    let all : c.in-Some.lists ≡ assignment_count c.args.table.now.size (equation_of c.args.clause.now) = lists ∙ ap (λ n. c.args.table.now.size ^ n) c.requires.values in
    record { against = hold_all c.args.table.now c.args.clause.now.positive (equation_of c.args.clause.now) c.loop-place.place (omega arith) c.loop-place.invariant.2 }
