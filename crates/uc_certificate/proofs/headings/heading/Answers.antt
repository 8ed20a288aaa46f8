use Rattle.uc_certificate.proofs.HeadingParts.{heading_goes}
use Rattle.uc_certificate.proofs.headings.heading.Goals as goal

pub returns : goal.returns
returns c = heading_goes c.args.text.now c.find-start.result c.find-start.ensures.found c.version_at.result c.version_at.ensures
