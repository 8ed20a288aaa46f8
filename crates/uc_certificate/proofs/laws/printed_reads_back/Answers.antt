use Rattle.uc_certificate.proofs.CertificateAgain.{certificate_again}
use Rattle.uc_certificate.proofs.laws.printed_reads_back.Goals as goal

pub returns : goal.returns
returns c table files certificate before behind of bounded printable other = certificate_again table files certificate before behind of bounded printable other
