use Rattle.std.proofs.Common.{refl, length, Err}
use Rattle.std.proofs.lemmas.Result.{err_from_is_err_and}
use Rattle.uc_clause.proofs.Tables.{grows_not, grows_twice}
use Rattle.uc_tstp.specs.Printing.{names_in}
use Rattle.uc_certificate.specs.Headings.{joins_line, facts}
use Rattle.uc_certificate.specs.Parts.{goes_on, fails_first}
use Rattle.uc_certificate.specs.Reading as rules
use Rattle.uc_certificate.proofs.Assembled.{facts_moved, rest_refused, rest_fails, rest_fails_in}
use Rattle.uc_certificate.proofs.CertificateInterned.{interns_rest}
use Rattle.uc_certificate.proofs.reading.rest_of_certificate.Goals as goal

pub returns-in_err-at-clause-reads : goal.returns-in_err-at-clause-reads
returns-in_err-at-clause-reads c =
    let p = err_from_is_err_and c.from_residual.result c.from_residual.ensures.1 in
    rw (p.1, p.2) (rest_refused c.args.symbols.now c.args.bytes.now c.args.text c.args.at c.in_err-at.field-0.0 (fails_first c.in_err-at.ensures.goes))

pub returns-in_err-lines-clause-reads : goal.returns-in_err-lines-clause-reads
returns-in_err-lines-clause-reads c =
    let p = err_from_is_err_and c.from_residual-in_err-lines.result c.from_residual-in_err-lines.ensures.1 in
    rw (p.1, p.2) (rest_fails_in c.derivation.new.symbols c.args.bytes.now c.args.text c.args.at (λ t. rules.derivation t c.args.bytes.now) c.in_ok-at.at (λ f h. goes_on {v = tt} c.in_ok-at.ensures.goes.0 (fails_first h)) c.in_err-lines.field-0.0 c.in_err-lines.ensures.reads)

pub returns-in_err-facts-clause-reads : goal.returns-in_err-facts-clause-reads
returns-in_err-facts-clause-reads c =
    let p = err_from_is_err_and c.from_residual-in_err-facts.result c.from_residual-in_err-facts.ensures.1 in
    rw (p.1, p.2) (rest_fails c.derivation.new.symbols c.args.bytes.now c.args.text c.args.at (facts c.args.bytes.now (names_in c.in_ok-lines.lines.lines) (length c.args.text.system.facts)) c.in_ok-lines.at (λ f h. goes_on {v = tt} c.in_ok-at.ensures.goes.0 (goes_on (c.in_ok-lines.ensures.reads.0 c.derivation.new.symbols (grows_not c.derivation.new.symbols)) (fails_first h))) c.in_err-facts.field-0.0 (facts_moved c.args.bytes.now c.as_slice.result.now c.in_ok-lines.lines.lines c.len-count.result (length c.args.text.system.facts) c.in_ok-lines.at (Err c.in_err-facts.field-0.0) c.as_slice.ensures c.len-count.ensures c.in_err-facts.ensures.reads))

pub returns-in_err-at-2-clause-reads : goal.returns-in_err-at-2-clause-reads
returns-in_err-at-2-clause-reads c =
    let p = err_from_is_err_and c.from_residual-in_err-at-2.result c.from_residual-in_err-at-2.ensures.1 in
    rw (p.1, p.2) (rest_refused c.derivation.new.symbols c.args.bytes.now c.args.text c.args.at c.in_err-at-2.field-0.0 (goes_on {v = tt} c.in_ok-at.ensures.goes.0 (goes_on (c.in_ok-lines.ensures.reads.0 c.derivation.new.symbols (grows_not c.derivation.new.symbols)) (goes_on (rw (c.as_slice.ensures, c.len-count.ensures) at c.in_ok-facts.ensures.reads).0 (fails_first c.in_err-at-2.ensures.goes)))))

pub returns-in_err-joins-clause-reads : goal.returns-in_err-joins-clause-reads
returns-in_err-joins-clause-reads c =
    let p = err_from_is_err_and c.from_residual-in_err-joins.result c.from_residual-in_err-joins.ensures.1 in
    rw (p.1, p.2) (rest_fails_in c.join_lines.new.symbols c.args.bytes.now c.args.text c.args.at (λ t. rules.join_lines t c.args.bytes.now) c.in_ok-at-2.at (λ f h. goes_on {v = tt} c.in_ok-at.ensures.goes.0 (goes_on (c.in_ok-lines.ensures.reads.0 c.join_lines.new.symbols c.in_err-joins.ensures.grows) (goes_on (rw (c.as_slice.ensures, c.len-count.ensures) at c.in_ok-facts.ensures.reads).0 (goes_on {v = tt} c.in_ok-at-2.ensures.goes.0 (fails_first h))))) c.in_err-joins.field-0.0 c.in_err-joins.ensures.reads)

pub returns-in_err-the_line-clause-reads : goal.returns-in_err-the_line-clause-reads
returns-in_err-the_line-clause-reads c =
    let p = err_from_is_err_and c.from_residual-in_err-the_line.result c.from_residual-in_err-the_line.ensures.1 in
    rw (p.1, p.2) (rest_refused c.join_lines.new.symbols c.args.bytes.now c.args.text c.args.at c.in_err-the_line.field-0.0 (goes_on {v = tt} c.in_ok-at.ensures.goes.0 (goes_on (c.in_ok-lines.ensures.reads.0 c.join_lines.new.symbols c.in_ok-joins.ensures.grows) (goes_on (rw (c.as_slice.ensures, c.len-count.ensures) at c.in_ok-facts.ensures.reads).0 (goes_on {v = tt} c.in_ok-at-2.ensures.goes.0 (goes_on (c.in_ok-joins.ensures.reads.0 c.join_lines.new.symbols (grows_not c.join_lines.new.symbols)) (fails_first c.in_err-the_line.ensures.goes)))))))

pub returns-clause-reads : goal.returns-clause-reads
returns-clause-reads c = (_, goes_on {v = tt} c.in_ok-at.ensures.goes.0 (goes_on (c.in_ok-lines.ensures.reads.0 c.join_lines.new.symbols c.in_ok-joins.ensures.grows) (goes_on (rw (c.as_slice.ensures, c.len-count.ensures) at c.in_ok-facts.ensures.reads).0 (goes_on {v = tt} c.in_ok-at-2.ensures.goes.0 (goes_on (c.in_ok-joins.ensures.reads.0 c.join_lines.new.symbols (grows_not c.join_lines.new.symbols)) (goes_on {v = tt} c.in_ok-the_line.ensures.goes.0 refl))))))

pub returns-clause-few : goal.returns-clause-few
returns-clause-few c = record { lines = c.in_ok-lines.ensures.few; facts = c.in_ok-facts.ensures.few; joins = c.in_ok-joins.ensures.few }

pub returns-clause-interns : goal.returns-clause-interns
returns-clause-interns c = interns_rest c.args.bytes.now c.args.at c.in_ok-at.at c.in_ok-lines.at c.in_ok-facts.at c.in_ok-at-2.at c.in_ok-joins.at c.args.symbols.now c.derivation.new.symbols c.join_lines.new.symbols c.in_ok-at.ensures.goes.0 (c.in_ok-lines.ensures.reads.0 c.join_lines.new.symbols c.in_ok-joins.ensures.grows) c.in_ok-lines.ensures.interns c.in_ok-facts.ensures.reads.0 joins_line c.in_ok-at-2.ensures.goes.0 (c.in_ok-joins.ensures.reads.0 c.join_lines.new.symbols (grows_not c.join_lines.new.symbols)) c.in_ok-joins.ensures.interns
