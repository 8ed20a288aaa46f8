-- What `certify` answers for a certificate that is read.
use Rattle.std.specs.Prelude.{ℕ, List}
use Rattle.uc_term.specs.Table.{Table}
use Rattle.uc_certificate.specs.declared.certificate.Certificate.{Certificate}
use Rattle.uc_certify.specs.declared.certified.Certified.{Certified}
use Rattle.uc_answer.specs.CertifyLines.{IsCertifiedLine, certified_status}

-- the line of what it is to the problem: that all its tests are passed, or the first that fails
pub data IsCertifiedAnswer (read : Table) (certificate : Certificate) (outcome : Certified) : ℕ → List ℕ → Type 0 where
  tells_outcome : {line : List ℕ} → IsCertifiedLine certificate.lines.lines certificate.text.system.facts outcome line → IsCertifiedAnswer read certificate outcome (certified_status outcome) line
