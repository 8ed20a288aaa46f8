use Rattle.std.proofs.Common.{◌++◌, ap, sym, subst, ◌∙◌, Ok}
use Rattle.uc_certificate.specs.Printing.{system_part, derivation_part, joins_part}
use Rattle.uc_certificate.specs.Reading.{ReadsCertificate}
use Rattle.uc_certificate.proofs.CertificateAgain.{certificate_again}
use Rattle.uc_certificate.proofs.printing.print_certificate.Goals as goal

pub returns-clause-text : goal.returns-clause-text
returns-clause-text c =
    c.in_ok-write_join_lines.ensures ∙ ap (λ l. l ++ joins_part c.args.symbols.now c.args.certificate.now.joins)
    (c.in_ok-write_derivation.ensures ∙ ap (λ l. l ++ derivation_part c.args.symbols.now c.args.file_of.now c.args.certificate.now.lines.lines c.args.certificate.now.facts)
    (c.in_ok-write_system.ensures ∙ ap (λ l. l ++ system_part c.args.symbols.now c.args.certificate.now.text) c.new-out.ensures))

pub returns-clause-read_back : goal.returns-clause-read_back
returns-clause-read_back c = λ printable before behind other.
    subst (λ x. ReadsCertificate c.args.symbols.now (before ++ x ++ behind) (Ok c.args.certificate.now)) (sym (returns-clause-text c))
    (certificate_again c.args.symbols.now c.args.file_of.now c.args.certificate.now before behind c.requires.of_table c.see_bounds.ensures printable other)
