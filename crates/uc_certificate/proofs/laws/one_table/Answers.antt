use Rattle.uc_certificate.proofs.CertificateInterned.{certificate_interns_once}
use Rattle.uc_certificate.proofs.laws.one_table.Goals as goal

pub returns : goal.returns
returns c text old new other x y = certificate_interns_once text old new other x y
