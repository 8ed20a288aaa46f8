-- What is answered for a problem and a certificate file beside it.
use Rattle.std.specs.Prelude.{ℕ, ◌≡◌, List, slice_get, Option, Some, Ok, Err}
use Rattle.uc_term.specs.Table.{Table, Grows, IsDistinct}
use Rattle.uc_edge.specs.Files.{Files}
use Rattle.uc_clause.specs.declared.clause.Sourced.{Sourced}
use Rattle.uc_problem.specs.declared.problem.Problem.{Problem}
use Rattle.uc_problem.specs.declared.problem.Encoded.{Encoded}
use Rattle.uc_problem.specs.declared.fault.EncodeFault.TheVariants.{GoalTooLarge}
use Rattle.uc_problem.specs.Marks.{Marks}
use Rattle.uc_problem.specs.Encodes.{Encodes}
use Rattle.uc_problem.specs.Filling.{AddsMarks}
use Rattle.uc_ordering.specs.Meaning.{meaning_of}
use Rattle.uc_certificate.specs.declared.certificate.Certificate.{Certificate}
use Rattle.uc_certificate.specs.declared.fault.CertFault.{CertFault}
use Rattle.uc_certificate.specs.declared.fault.CertFault.TheVariants.{NoMemory}
use Rattle.uc_certificate.specs.Interning.{InternsCertificate}
use Rattle.uc_certificate.specs.Reading.{IsReading}
use Rattle.uc_certify.specs.declared.certified.Certified.{Certified}
use Rattle.uc_certify.specs.Certifying.{IsCertified}
use Rattle.uc_answer.specs.Refusals.{large_line}
use Rattle.uc_answer.specs.CertifyLines.{cert_fault_line}
use Rattle.uc_top.specs.FileAnswers.{FileAnswers}

-- By what is answered for a certificate that is read in this table and is this to the problem.
module _ (AnswersFor : Table → Certificate → Certified → ℕ → List ℕ → Type 0) where
  -- The file of this name has this text: it isn't read as a certificate, or all its tests are passed by the order of its own symbol
  -- lines, or a first one fails. A certificate is read in the table of symbols that its text makes of this one, with which it
  -- begins, and whose entries are all different; why a text is none doesn't depend on the table.
  pub data CertificateTextAnswers (table : Table) (clauses : List Sourced) (encoded : Encoded) (file text : List ℕ) : ℕ → List ℕ → Type 0 where
    isnt_certificate : (read : Table) {why : CertFault} → IsDistinct read → IsReading read text (Err why) → (why ≡ NoMemory → ⊥) → CertificateTextAnswers table clauses encoded file text 3 (cert_fault_line file why)
    is_certificate : {read : Table} {certificate : Certificate} {outcome : Certified} {status : ℕ} {answer : List ℕ} → IsDistinct read → Grows table read → InternsCertificate text table read → IsReading read text (Ok certificate) → IsCertified (meaning_of read certificate.text.spec) clauses encoded certificate outcome → AnswersFor read certificate outcome status answer → CertificateTextAnswers table clauses encoded file text status answer

  -- The answer for a certificate file of this name and a problem, whose symbols are those of the table that loading it leaves. Encoding
  -- makes a table of that; where a goal is too large to be encoded, the file isn't fetched. The library's files are these, where it tells
  -- them, and its count of faults was and is this.
  pub data CertificateAnswers (holds : Option Files) (before now : ℕ) (file : List ℕ) (loaded : Table) (problem : Problem) : ℕ → List ℕ → Type 0 where
    has_large_goal : {number : ℕ} {goal : Sourced} → Marks loaded problem (Err (GoalTooLarge number)) → slice_get problem.clauses number ≡ Some goal → CertificateAnswers holds before now file loaded problem 3 (large_line goal)
    is_encoded : {table : Table} {encoded : Encoded} {status : ℕ} {answer : List ℕ} → IsDistinct table → AddsMarks loaded table encoded.fresh → Encodes table problem (Ok encoded) → FileAnswers holds before now (CertificateTextAnswers table problem.clauses encoded file) file status answer → CertificateAnswers holds before now file loaded problem status answer
