-- The lines of what a certificate is to a problem, and of a text that isn't read as one.
use Rattle.std.specs.Prelude.{ℕ, ◌≡◌, List, [], ◌++◌, codes, decimal, slice_get, Some}
use Rattle.uc_term.specs.declared.equation.Equation.{Equation}
use Rattle.uc_term.specs.Equations.{side_of}
use Rattle.uc_term.specs.Positions.{IsPlaceOf}
use Rattle.uc_check.specs.declared.proof.Line.{Line}
use Rattle.uc_check.specs.declared.checker.Cause.{Cause}
use Rattle.uc_fact.specs.declared.fact.Overlap.{Overlap}
use Rattle.uc_certify.specs.declared.certified.Certified.{Certified}
use Rattle.uc_certify.specs.declared.certified.Certified.TheVariants as certified
use Rattle.uc_certificate.specs.declared.fault.CertFault.{CertFault}
use Rattle.uc_certificate.specs.declared.fault.CertFault.TheVariants.{Syntax, Version, Limit, UnknownRule, UnknownName, RepeatedName, NoMemory}
use Rattle.uc_answer.specs.Lines.{located, spaced, what_word, cause_word, name_or_dash}
use Rattle.uc_answer.specs.PairLines.{overlap_words}

-- a certificate is refused for this
abbrev pub refused_line : List ℕ → List ℕ
refused_line why = codes "refused " ++ why ++ codes "\n"

-- the line of a derivation, by its name, and the first test that it fails
abbrev pub wrong_line : List Line → ℕ → Cause → List ℕ
wrong_line lines k why = codes "line " ++ name_or_dash (slice_get lines k) ++ spaced (cause_word why)

-- The line of what a certificate with this derivation and these facts is: all its tests are passed; or the first of them that fails. An
-- overlap whose pair is too large is named with the position of its outer fact.
pub data IsCertifiedLine (lines : List Line) (facts : List Equation) : Certified → List ℕ → Type 0 where
  is_right : IsCertifiedLine lines facts certified.Yes (codes "certified\n")
  has_other_symbols : IsCertifiedLine lines facts certified.Symbols (refused_line (codes "symbols"))
  has_wrong_line : {k : ℕ} {why : Cause} → IsCertifiedLine lines facts (certified.Line k why) (refused_line (wrong_line lines k why))
  has_wrong_fact : {k : ℕ} → IsCertifiedLine lines facts (certified.Fact k) (refused_line (codes "fact " ++ decimal k))
  has_wrong_join : {n : ℕ} → IsCertifiedLine lines facts (certified.Join n) (refused_line (codes "join " ++ decimal n))
  has_large_overlap : {o : Overlap} (outer : Equation) (path : List ℕ) → slice_get facts o.outer ≡ Some outer → IsPlaceOf (side_of o.outer_side outer) path o.position.0 → IsCertifiedLine lines facts (certified.Large o) (refused_line (codes "large " ++ overlap_words o path))

abbrev pub certified_status : Certified → ℕ
certified_status certified.Yes = 0
certified_status other = 1

-- the line of a refusal of a certificate's text; none for want of memory, which has a line of its own
abbrev pub cert_fault_line : List ℕ → CertFault → List ℕ
cert_fault_line file (Syntax place) = located file place (codes "Syntax") []
cert_fault_line file (Version place) = located file place (codes "Version") []
cert_fault_line file (Limit what place) = located file place (codes "Limit") (spaced (what_word what))
cert_fault_line file (UnknownRule place) = located file place (codes "UnknownRule") []
cert_fault_line file (UnknownName place) = located file place (codes "UnknownName") []
cert_fault_line file (RepeatedName place) = located file place (codes "RepeatedName") []
cert_fault_line file NoMemory = []
