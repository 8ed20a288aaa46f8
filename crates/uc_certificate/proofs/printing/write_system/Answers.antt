use Rattle.std.proofs.Common.{◌++◌, ap, ◌∙◌, codes}
use Rattle.uc_system.specs.Printing.{system_text}
use Rattle.uc_certificate.specs.Headings.{certificate_line}
use Rattle.uc_certificate.proofs.Written.{on_ok, line_first}
use Rattle.uc_certificate.proofs.printing.write_system.Goals as goal

pub returns : goal.returns
returns c = on_ok c.write_facts_of.result (λ h. h ∙ ap (λ l. l ++ system_text c.args.symbols.now c.args.said.now.spec c.args.said.now.system.facts) c.in_ok-write_line.ensures ∙ line_first c.args.out.now certificate_line (codes "\n") (system_text c.args.symbols.now c.args.said.now.spec c.args.said.now.system.facts)) c.write_facts_of.ensures
