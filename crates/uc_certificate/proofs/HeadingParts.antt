-- The first line of a certificate, from where it stands.
use Rattle.std.proofs.Common.{◌≡◌, ℕ, ◌≤◌, List, length, Result, Ok, Err}
use Rattle.uc_certificate.specs.declared.fault.CertFault.{CertFault}
use Rattle.uc_certificate.specs.declared.border.Border.TheVariants.{Start}
use Rattle.uc_certificate.specs.Headings.{is_border, FirstLine, pick, version_by, heading, heading_at}
use Rattle.uc_certificate.specs.Reads.{Goes}

pub heading_goes : (text : List ℕ) (start : ℕ) → FirstLine text (is_border Start) 0 start → (r : Result ℕ CertFault) → Goes (pick text (version_by text)) text start r → Goes (heading text) text 0 r
heading_goes text start f (Ok next) h = (heading_at f h.0, h.1)
heading_goes text start f (Err fault) h = heading_at f h
