use Rattle.uc_ordering.specs.Chosen.{meaning_is}
use Rattle.uc_answer.proofs.SaturatedCertificates.{few_axioms, given_facts_over, given_axioms_over, given_found, made_for, many_files, of_table, told_text}
use Rattle.uc_answer.proofs.certificate_lines.certificate_text.Goals as goal

pub make_certificate-requires-clause-few_axioms : goal.make_certificate-requires-clause-few_axioms
make_certificate-requires-clause-few_axioms g c = few_axioms c.args.closed.now.symbols.now c.args.closed.now.command.now c.args.closed.now.problem.now c.args.closed.now.encoded.now c.args.closed.now.spec.now c.args.book.now.state c.requires.ended c.as_slice-axioms.result.now _ _ c.as_slice-axioms.ensures c.in_ok-derivation.ensures.few

pub make_certificate-requires-clause-facts_over : goal.make_certificate-requires-clause-facts_over
make_certificate-requires-clause-facts_over g c = rw (meaning_is c.args.closed.now.symbols.now c.args.closed.now.spec.now c.args.order.now c.requires.order) (given_facts_over c.args.closed.now.symbols.now c.args.closed.now.command.now c.args.closed.now.problem.now c.args.closed.now.encoded.now c.args.closed.now.spec.now c.args.book.now.state c.requires.ended c.in_ok-system.system.facts c.as_slice-axioms.result.now (rw c.front.ensures.entries at c.in_ok-system.ensures) c.as_slice-axioms.ensures)

pub make_certificate-requires-clause-axioms_over : goal.make_certificate-requires-clause-axioms_over
make_certificate-requires-clause-axioms_over g c = rw (meaning_is c.args.closed.now.symbols.now c.args.closed.now.spec.now c.args.order.now c.requires.order) (given_axioms_over c.args.closed.now.symbols.now c.args.closed.now.command.now c.args.closed.now.problem.now c.args.closed.now.encoded.now c.args.closed.now.spec.now c.args.book.now.state c.requires.ended c.in_ok-system.system.facts c.as_slice-axioms.result.now (rw c.front.ensures.entries at c.in_ok-system.ensures) c.as_slice-axioms.ensures)

pub make_certificate-requires-clause-joined : goal.make_certificate-requires-clause-joined
make_certificate-requires-clause-joined g c = rw (meaning_is c.args.closed.now.symbols.now c.args.closed.now.spec.now c.args.order.now c.requires.order) (given_found c.args.closed.now.symbols.now c.args.closed.now.command.now c.args.closed.now.problem.now c.args.closed.now.encoded.now c.args.closed.now.spec.now c.args.book.now.state c.requires.ended c.in_ok-system.system.facts c.as_slice-axioms.result.now (rw c.front.ensures.entries at c.in_ok-system.ensures) c.as_slice-axioms.ensures)

pub print_certificate-requires-clause-files : goal.print_certificate-requires-clause-files
print_certificate-requires-clause-files g c = rw c.as_slice.ensures (many_files c.args.closed.now.symbols.now c.args.closed.now.command.now c.args.closed.now.problem.now c.args.closed.now.encoded.now c.args.closed.now.spec.now c.args.book.now.state c.requires.ended c.in_ok-derivation.derivation.files c.in_ok-certificate.certificate (made_for c.args.closed.now.symbols.now c.args.closed.now.command.now c.args.closed.now.problem.now c.args.closed.now.encoded.now c.args.closed.now.spec.now c.args.book.now.state c.requires.ended c.in_ok-system.system.facts c.as_slice-axioms.result.now (rw c.front.ensures.entries at c.in_ok-system.ensures) c.as_slice-axioms.ensures c.in_ok-derivation.derivation.files c.in_ok-derivation.derivation.proof.lines c.in_ok-derivation.numbers c.in_ok-certificate.certificate c.in_ok-certificate.ensures.text c.in_ok-certificate.ensures.derivation.0 c.in_ok-certificate.ensures.derivation.1 (rw (meaning_is c.args.closed.now.symbols.now c.args.closed.now.spec.now c.args.order.now c.requires.order) at c.in_ok-certificate.ensures.joins) c.in_ok-derivation.ensures.derived))

pub print_certificate-requires-clause-of_table : goal.print_certificate-requires-clause-of_table
print_certificate-requires-clause-of_table g c = of_table c.args.closed.now.symbols.now c.args.closed.now.command.now c.args.closed.now.problem.now c.args.closed.now.encoded.now c.args.closed.now.spec.now c.args.book.now.state c.requires.ended c.in_ok-derivation.derivation.files c.in_ok-certificate.certificate (made_for c.args.closed.now.symbols.now c.args.closed.now.command.now c.args.closed.now.problem.now c.args.closed.now.encoded.now c.args.closed.now.spec.now c.args.book.now.state c.requires.ended c.in_ok-system.system.facts c.as_slice-axioms.result.now (rw c.front.ensures.entries at c.in_ok-system.ensures) c.as_slice-axioms.ensures c.in_ok-derivation.derivation.files c.in_ok-derivation.derivation.proof.lines c.in_ok-derivation.numbers c.in_ok-certificate.certificate c.in_ok-certificate.ensures.text c.in_ok-certificate.ensures.derivation.0 c.in_ok-certificate.ensures.derivation.1 (rw (meaning_is c.args.closed.now.symbols.now c.args.closed.now.spec.now c.args.order.now c.requires.order) at c.in_ok-certificate.ensures.joins) c.in_ok-derivation.ensures.derived)

pub returns-clause-read_back : goal.returns-clause-read_back
returns-clause-read_back g c = told_text c.args.closed.now.symbols.now c.args.closed.now.command.now c.args.closed.now.problem.now c.args.closed.now.encoded.now c.args.closed.now.spec.now c.args.book.now.state c.requires.ended c.in_ok-derivation.derivation.files c.in_ok-certificate.certificate (made_for c.args.closed.now.symbols.now c.args.closed.now.command.now c.args.closed.now.problem.now c.args.closed.now.encoded.now c.args.closed.now.spec.now c.args.book.now.state c.requires.ended c.in_ok-system.system.facts c.as_slice-axioms.result.now (rw c.front.ensures.entries at c.in_ok-system.ensures) c.as_slice-axioms.ensures c.in_ok-derivation.derivation.files c.in_ok-derivation.derivation.proof.lines c.in_ok-derivation.numbers c.in_ok-certificate.certificate c.in_ok-certificate.ensures.text c.in_ok-certificate.ensures.derivation.0 c.in_ok-certificate.ensures.derivation.1 (rw (meaning_is c.args.closed.now.symbols.now c.args.closed.now.spec.now c.args.order.now c.requires.order) at c.in_ok-certificate.ensures.joins) c.in_ok-derivation.ensures.derived) c.print_certificate.result (rw c.as_slice.ensures at c.print_certificate.ensures.text) (rw c.as_slice.ensures at c.print_certificate.ensures.read_back)
