use Rattle.std.proofs.Common.{sym, subst, arith}
use Rattle.std.proofs.lemmas.Result.{err_from_is_err_and}
use Rattle.uc_clause.proofs.Tables.{grows_twice}
use Rattle.uc_certificate.specs.Parts.{fails_first}
use Rattle.uc_certificate.proofs.Assembled.{is_refused, no_system, is_read, text_is}
use Rattle.uc_certificate.proofs.CertificateInterned.{interns_all}
use Rattle.uc_certificate.proofs.reading.read_certificate.Goals as goal

pub returns-in_err-at-clause-reading : goal.returns-in_err-at-clause-reading
returns-in_err-at-clause-reading c =
    let p = err_from_is_err_and c.from_residual.result c.from_residual.ensures.1 in
    rw (p.1, p.2) (is_refused c.args.symbols.now c.args.bytes.now (omega (arith, c.if-bytes-gt-MAX_PROOF.false)) c.in_err-at.field-0.0 (fails_first c.in_err-at.ensures))

pub returns-in_err-text-clause-reading : goal.returns-in_err-text-clause-reading
returns-in_err-text-clause-reading c =
    let p = err_from_is_err_and c.from_residual-in_err-text.result c.from_residual-in_err-text.ensures.1 in
    rw (p.1, p.2) (no_system c.system.new.symbols c.args.bytes.now (omega (arith, c.if-bytes-gt-MAX_PROOF.false)) c.in_ok-at.at c.in_ok-at.ensures.0 c.in_err-text.field-0.0 c.in_err-text.ensures.reads)

pub returns-clause-reading : goal.returns-clause-reading
returns-clause-reading c = is_read c.rest_of_certificate.new.symbols c.args.bytes.now (omega (arith, c.if-bytes-gt-MAX_PROOF.false)) c.in_ok-at.at c.in_ok-at.ensures.0 c.in_ok-text.text c.in_ok-text.at (c.in_ok-text.ensures.reads.0 c.rest_of_certificate.new.symbols c.rest_of_certificate.ensures.grows) c.rest_of_certificate.result c.rest_of_certificate.ensures.reads

pub returns-clause-system : goal.returns-clause-system
returns-clause-system c = text_is c.rest_of_certificate.new.symbols c.args.bytes.now c.in_ok-at.at c.in_ok-text.at c.in_ok-text.text c.rest_of_certificate.result (c.in_ok-text.ensures.reads.0 c.rest_of_certificate.new.symbols c.rest_of_certificate.ensures.grows) c.rest_of_certificate.ensures.text

pub returns-clause-interns : goal.returns-clause-interns
returns-clause-interns c = interns_all c.args.bytes.now c.rest_of_certificate.new.symbols c.in_ok-at.at c.in_ok-text.at c.in_ok-text.text c.in_ok-at.ensures.0 c.in_ok-at.ensures.1 (c.in_ok-text.ensures.reads.0 c.rest_of_certificate.new.symbols c.rest_of_certificate.ensures.grows) c.args.symbols.now c.system.new.symbols c.rest_of_certificate.new.symbols c.in_ok-text.ensures.interns c.rest_of_certificate.new.symbols c.rest_of_certificate.result c.rest_of_certificate.ensures.reads c.rest_of_certificate.ensures.interns
