-- What a certificate file is to a problem, as it is handed on: an answer that refuses it, or a certificate that passes all tests.
use Rattle.std.specs.Prelude.{ℕ, ◌≡◌, List, [], Option, Some, None, Result, Ok, Err}
use Rattle.uc_term.specs.Table.{Table, Grows, IsDistinct}
use Rattle.uc_edge.specs.Files.{Files}
use Rattle.uc_edge.specs.Faults.{IsCounted}
use Rattle.uc_clause.specs.declared.clause.Sourced.{Sourced}
use Rattle.uc_problem.specs.declared.problem.Problem.{Problem}
use Rattle.uc_problem.specs.declared.problem.Encoded.{Encoded}
use Rattle.uc_problem.specs.Encodes.{Encodes}
use Rattle.uc_problem.specs.Filling.{WhereTold, AddsMarks}
use Rattle.uc_problem.specs.Loading.{held}
use Rattle.uc_ordering.specs.Meaning.{meaning_of}
use Rattle.uc_certificate.specs.declared.certificate.Certificate.{Certificate}
use Rattle.uc_certificate.specs.Interning.{InternsCertificate}
use Rattle.uc_certificate.specs.Reading.{IsReading}
use Rattle.uc_certify.specs.declared.certified.Certified.{Certified}
use Rattle.uc_certify.specs.declared.certified.Certified.TheVariants.{Yes}
use Rattle.uc_certify.specs.Certifying.{IsCertified}
use Rattle.uc_answer.specs.Lines.{joined}
use Rattle.uc_answer.specs.CertifyLines.{IsCertifiedLine}
use Rattle.uc_top.specs.declared.certificates.Tested.{Tested}
use Rattle.uc_top.specs.declared.certificates.Tested.TheVariants.{Refused, Passed}
use Rattle.uc_top.specs.FileAnswers.{FileAnswers}
use Rattle.uc_top.specs.CertificateAnswers.{CertificateTextAnswers, CertificateAnswers}
use Rattle.uc_top.specs.Faulting.{TellsFault}

-- a certificate that fails a test is refused, with the line of the first that fails
pub data IsRefusal (read : Table) (certificate : Certificate) (outcome : Certified) : ℕ → List ℕ → Type 0 where
  fails_so : {line : List ℕ} → (outcome ≡ Yes → ⊥) → IsCertifiedLine certificate.lines.lines certificate.text.system.facts outcome line → IsRefusal read certificate outcome 1 line

-- a certificate that is this to a problem is handed on, or refused
abbrev pub IsTestedAs : Certificate → Certified → Tested → Type 0
IsTestedAs certificate outcome (Refused answer) = (outcome ≡ Yes → ⊥) × (answer.status ≡ 1) × IsCertifiedLine certificate.lines.lines certificate.text.system.facts outcome (joined answer.lines)
IsTestedAs certificate outcome (Passed passed) = (passed ≡ certificate) × (outcome ≡ Yes)

-- THE TEXT

-- Of a problem of these clauses, which is encoded in this table.
module _ (table : Table) (clauses : List Sourced) (encoded : Encoded) where
  -- the text is read as this certificate in this table, which it makes, and passes all tests by the order of its own symbol lines
  pub record PassesText (text : List ℕ) (read : Table) (certificate : Certificate) : Type 0 where
    pub distinct : IsDistinct read
    pub grows : Grows table read
    pub interns : InternsCertificate text table read
    pub reads : IsReading read text (Ok certificate)
    pub passes : IsCertified (meaning_of read certificate.text.spec) clauses encoded certificate Yes

  abbrev pub IsTestedText : List ℕ → List ℕ → Table → Tested → Type 0
  IsTestedText file text read (Refused answer) = CertificateTextAnswers IsRefusal table clauses encoded file text answer.status (joined answer.lines)
  IsTestedText file text read (Passed certificate) = PassesText text read certificate

  -- the file of this name has such a text
  pub record PassesFile (holds : Option Files) (file : List ℕ) (read : Table) (certificate : Certificate) : Type 0 where
    pub text : List ℕ
    pub has_text : WhereTold holds (λ files. held files file ≡ Some text)
    pub passes_text : PassesText text read certificate

  abbrev pub IsTestedFile : Option Files → ℕ → ℕ → List ℕ → Table → Tested → Type 0
  IsTestedFile holds before now file read (Refused answer) = FileAnswers holds before now (CertificateTextAnswers IsRefusal table clauses encoded file) file answer.status (joined answer.lines)
  IsTestedFile holds before now file read (Passed certificate) = PassesFile holds file read certificate

-- THE PROBLEM

-- Symbols are those of the table that loading the problem leaves.
module _ (loaded : Table) (problem : Problem) where
  -- the file of this name has such a text for the problem, encoded in the table that encoding it makes
  pub record PassesTests (holds : Option Files) (file : List ℕ) (read : Table) (certificate : Certificate) : Type 0 where
    pub table : Table
    pub distinct : IsDistinct table
    pub encoded : Encoded
    pub adds : AddsMarks loaded table encoded.fresh
    pub encodes : Encodes table problem (Ok encoded)
    pub passes_file : PassesFile table problem.clauses encoded holds file read certificate

  abbrev pub IsTested : Option Files → ℕ → ℕ → List ℕ → Table → Tested → Type 0
  IsTested holds before now file read (Refused answer) = CertificateAnswers IsRefusal holds before now file loaded problem answer.status (joined answer.lines)
  IsTested holds before now file read (Passed certificate) = PassesTests holds file read certificate

-- FAILED FETCHES

-- The library's count of faults was and is this, and the names at which it had and has failed are these.
module _ (before now : ℕ) (old new : List (List ℕ)) where
  -- a refusal tells of the fetch that failed, if one did; where a certificate is handed on, none did
  abbrev pub TestsFault : Tested → Type 0
  TestsFault (Refused answer) = TellsFault before now old new [] answer.status (joined answer.lines)
  TestsFault (Passed certificate) = IsCounted None before now old new

  -- so it is, or memory is wanted, which comes either way
  abbrev pub IsTestFaulted : {E : Type 0} → Result Tested E → Type 0
  IsTestFaulted (Ok tested) = TestsFault tested
  IsTestFaulted (Err e) = (file : Option (List ℕ)) × IsCounted file before now old new
