use Rattle.std.proofs.Common.{sym, subst, arith, length}
use Rattle.std.proofs.lemmas.Result.{err_from_is_err_and}
use Rattle.uc_tstp.specs.Printing.{names_in}
use Rattle.uc_certificate.specs.FactNames.{HasNames}
use Rattle.uc_certificate.proofs.FactsRead.{no_line_here, no_facts_line, other_many, names_fail, names_give}
use Rattle.uc_certificate.proofs.fact_names.facts.Goals as goal

pub returns-in_default-clause-reads : goal.returns-in_default-clause-reads
returns-in_default-clause-reads c = rw c.departs.ensures (no_line_here c.args.text.now c.args.at (names_in c.args.lines.now) c.args.count c.in_default.ensures)

pub returns-in_default-count_names-clause-reads : goal.returns-in_default-count_names-clause-reads
returns-in_default-count_names-clause-reads c = rw c.departs-in_default-count_names.ensures (no_facts_line c.args.text.now c.args.at (names_in c.args.lines.now) c.args.count c.in-Some.line.now c.in-Some.ensures c.in_default-count_names.ensures)

pub returns-then-many-count-clause-reads : goal.returns-then-many-count-clause-reads
returns-then-many-count-clause-reads c = rw c.departs-then-many-count.ensures (other_many c.args.text.now c.args.at (names_in c.args.lines.now) c.args.count c.in-Some.line.now c.in-Some.ensures c.in-Some-count_names.many c.in-Some-count_names.ensures c.if-many-count.true)

pub returns-in_err-numbers-clause-reads : goal.returns-in_err-numbers-clause-reads
returns-in_err-numbers-clause-reads c =
    let p = err_from_is_err_and c.from_residual-in_err-numbers.result c.from_residual-in_err-numbers.ensures.1 in
    rw (p.1, p.2) (names_fail c.args.text.now c.args.at (names_in c.args.lines.now) c.args.count c.in-Some.line.now c.in-Some.ensures (subst (λ n. HasNames c.in-Some.line.now n) c.if-many-count.false c.in-Some-count_names.ensures) c.in_err-numbers.field-0.0 (rw c.in_ok-names.ensures at c.in_err-numbers.ensures.unknown))

pub returns-clause-reads : goal.returns-clause-reads
returns-clause-reads c = names_give c.args.text.now c.args.at (names_in c.args.lines.now) c.args.count c.in-Some.line.now c.in-Some.ensures (subst (λ n. HasNames c.in-Some.line.now n) c.if-many-count.false c.in-Some-count_names.ensures) c.in_ok-numbers.numbers (rw c.in_ok-names.ensures at c.in_ok-numbers.ensures.numbers)
