use Rattle.std.proofs.Common.{Ok, Err, refl, sym, ◌∙◌}
use Rattle.uc_check.specs.Replacements.{chain_end}
use Rattle.uc_check.specs.Tests.{passes, fails}
use Rattle.uc_unify.proofs.Decided.{not_of, of}
use Rattle.uc_check.proofs.chain.test_chain.Goals as goal

pub returns-then-not-same : goal.returns-then-not-same
returns-then-not-same c clauses fresh = fails (not_of c.same.result c.if-not-same.true c.same.ensures)

pub returns-then-not-same-2 : goal.returns-then-not-same-2
returns-then-not-same-2 c clauses fresh =
    let starts = of c.same.result c.if-not-same.false c.same.ensures in
    let ends = not_of c.same-in-None.result c.if-not-same-2.true c.same-in-None.ensures in
    passes starts (record { end = Ok (chain_end c.args.start.now c.args.steps.now); leads = rw c.in-None.is at c.in_ok-cause.ensures; ends = fails (λ e. ends (c.last_term.ensures ∙ e)) })

pub returns-then-not-are_named_by : goal.returns-then-not-are_named_by
returns-then-not-are_named_by c clauses fresh =
    let starts = of c.same.result c.if-not-same.false c.same.ensures in
    let ends = of c.same-in-None.result c.if-not-same-2.false c.same-in-None.ensures in
    passes starts (record { end = Ok (chain_end c.args.start.now c.args.steps.now); leads = rw c.in-None.is at c.in_ok-cause.ensures; ends = passes (sym c.last_term.ensures ∙ ends) (fails (not_of c.are_named_by.result c.if-not-are_named_by.true c.are_named_by.ensures)) })

pub returns-in-Some : goal.returns-in-Some
returns-in-Some c clauses fresh = passes (of c.same.result c.if-not-same.false c.same.ensures) (record { end = Err c.in-Some.cause; leads = rw c.in-Some.is at c.in_ok-cause.ensures; ends = refl })

pub returns-else-not-are_named_by : goal.returns-else-not-are_named_by
returns-else-not-are_named_by c clauses fresh =
    let starts = of c.same.result c.if-not-same.false c.same.ensures in
    let ends = of c.same-in-None.result c.if-not-same-2.false c.same-in-None.ensures in
    passes starts (record { end = Ok (chain_end c.args.start.now c.args.steps.now); leads = rw c.in-None.is at c.in_ok-cause.ensures; ends = passes (sym c.last_term.ensures ∙ ends) (passes (of c.are_named_by.result c.if-not-are_named_by.false c.are_named_by.ensures) refl) })
