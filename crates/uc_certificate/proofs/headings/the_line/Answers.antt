use Rattle.uc_certificate.proofs.Begins.{line_start}
use Rattle.uc_certificate.proofs.headings.the_line.Goals as goal

pub returns-then-eq-clause-start : goal.returns-then-eq-clause-start
returns-then-eq-clause-start c = line_start c.args.text.now c.args.at c.in-Some.line.now c.in-Some.ensures
