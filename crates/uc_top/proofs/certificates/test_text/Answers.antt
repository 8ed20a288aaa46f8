use Rattle.std.proofs.Common.{◌≡◌, length, arith}
use Rattle.uc_ordering.specs.Meaning.{meaning_of}
use Rattle.uc_top.proofs.CertificateTexts.{read_many}
use Rattle.uc_top.proofs.CertifiedAnswers.{large_outer, read_tested, unread_tested}
use Rattle.uc_top.proofs.certificates.test_text.Goals as goal

pub outcome_of-requires-clause-system : goal.outcome_of-requires-clause-system
outcome_of-requires-clause-system c = rw c.in-Ok.is at c.read_certificate-read.ensures.system

pub outcome_of-requires-clause-terms : goal.outcome_of-requires-clause-terms
outcome_of-requires-clause-terms c = rw c.in-Ok.is at c.read_certificate-read.ensures.terms

pub outcome_of-requires-clause-few : goal.outcome_of-requires-clause-few
outcome_of-requires-clause-few c = rw c.in-Ok.is at c.read_certificate-read.ensures.few

pub outcome_of-requires-clause-few_facts : goal.outcome_of-requires-clause-few_facts
outcome_of-requires-clause-few_facts c =
    let few = rw c.in-Ok.is at c.read_certificate-read.ensures.few in
    let reading = rw c.in-Ok.is at c.read_certificate-read.ensures.reading in
    let many : length c.in-Ok.certificate.facts ≡ length c.in-Ok.certificate.text.system.facts = read_many c.read_certificate-read.new.symbols c.args.text.now c.in-Ok.certificate reading.1 in
    let low = few.facts in
    omega (arith, many, low)

pub tested_as-requires : goal.tested_as-requires
tested_as-requires c = record { large = large_outer (meaning_of c.read_certificate-read.new.symbols c.in-Ok.certificate.text.spec) c.args.clauses.now c.args.encoded.now c.in-Ok.certificate c.in_ok-outcome-in-Ok.outcome c.in_ok-outcome-in-Ok.ensures }

pub returns-in_ok-outcome-in-Ok : goal.returns-in_ok-outcome-in-Ok
returns-in_ok-outcome-in-Ok c = read_tested c.args.symbols.now c.args.clauses.now c.args.encoded.now c.args.file.now c.args.text.now c.read_certificate-read.new.symbols c.in-Ok.certificate c.in_ok-outcome-in-Ok.outcome c.tested_as.result c.len.ensures.distinct c.read_certificate-read.ensures.grows (rw c.in-Ok.is at c.read_certificate-read.ensures.interns) (rw c.in-Ok.is at c.read_certificate-read.ensures.reading) c.in_ok-outcome-in-Ok.ensures c.tested_as.ensures

pub returns-in_ok-answer-in-Err : goal.returns-in_ok-answer-in-Err
returns-in_ok-answer-in-Err c = unread_tested c.args.symbols.now c.args.clauses.now c.args.encoded.now c.args.file.now c.args.text.now c.read_certificate-read.new.symbols c.in-Err.fault c.in_ok-answer-in-Err.answer c.len.ensures.distinct (rw c.in-Err.is at c.read_certificate-read.ensures.reading) c.in_ok-answer-in-Err.ensures.answer c.in_ok-answer-in-Err.ensures.not_memory
