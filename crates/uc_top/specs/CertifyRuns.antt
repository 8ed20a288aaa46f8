-- How a run of `certify` ends, and what its answers promise.
use Rattle.std.specs.Prelude.{ℕ, ◌≡◌, ◌↔◌, false, List, [], ◌∷◌, slice_get, codes, Option, Some, None, Ok, Err}
use Rattle.std.specs.List.{list_any}
use Rattle.uc_term.specs.Conversion.{Conv}
use Rattle.uc_term.specs.Table.{Table, Grows, IsDistinct}
use Rattle.uc_term.specs.Tree.{Tree}
use Rattle.uc_edge.specs.Files.{Files}
use Rattle.uc_clause.specs.declared.clause.Sourced.{Sourced}
use Rattle.uc_problem.specs.declared.problem.Problem.{Problem}
use Rattle.uc_problem.specs.declared.problem.Encoded.{Encoded}
use Rattle.uc_problem.specs.declared.fault.EncodeFault.TheVariants.{GoalTooLarge}
use Rattle.uc_problem.specs.Loading.{held}
use Rattle.uc_problem.specs.Marks.{Marks, is_too_large}
use Rattle.uc_problem.specs.Encodes.{Encodes}
use Rattle.uc_problem.specs.Filling.{AddsMarks}
use Rattle.uc_check.specs.Clauses.{axioms_of}
use Rattle.uc_decide.specs.Deciding.{Decides}
use Rattle.uc_decide.specs.NormalForms.{HasNormalForm, HasOneNormalForm}
use Rattle.uc_ordering.specs.Meaning.{meaning_of}
use Rattle.uc_certificate.specs.declared.certificate.Certificate.{Certificate}
use Rattle.uc_certificate.specs.declared.fault.CertFault.{CertFault}
use Rattle.uc_certificate.specs.declared.fault.CertFault.TheVariants.{NoMemory}
use Rattle.uc_certificate.specs.Interning.{InternsCertificate}
use Rattle.uc_certificate.specs.Reading.{IsReading, ReadsCertificate}
use Rattle.uc_certify.specs.declared.certified.Certified.{Certified}
use Rattle.uc_certify.specs.declared.certified.Certified.TheVariants.{Yes}
use Rattle.uc_certify.specs.Certifying.{IsCertified}
use Rattle.uc_words.specs.declared.command.Command.{Command}
use Rattle.uc_words.specs.declared.command.Verb.TheVariants as verb
use Rattle.uc_words.specs.Reads.{Reads}
use Rattle.uc_answer.specs.Lines.{about_file}
use Rattle.uc_answer.specs.Promises.{IsOwnGround}
use Rattle.uc_answer.specs.Refusals.{large_line}
use Rattle.uc_answer.specs.CertifyLines.{IsCertifiedLine, certified_status, cert_fault_line}
use Rattle.uc_top.specs.Loaded.{IsLoaded}
use Rattle.uc_top.specs.Runs.{EndsWith}

-- These files have a problem under this name, and under the other a certificate, which the tests for the problem's encoding find to be
-- this. Loading leaves a table of symbols, of which the encoding's symbols make another and the certificate a third.
pub record HasTested (files : Files) (root : Option (List ℕ)) (name file : List ℕ) (outcome : Certified) : Type 0 where
  pub loaded : Table
  pub loaded_distinct : IsDistinct loaded
  pub problem : Problem
  pub is_loaded : IsLoaded files root name loaded problem
  pub table : Table
  pub distinct : IsDistinct table
  pub encoded : Encoded
  pub adds : AddsMarks loaded table encoded.fresh
  pub encodes : Encodes table problem (Ok encoded)
  pub text : List ℕ
  pub has_text : held files file ≡ Some text
  pub read : Table
  pub read_distinct : IsDistinct read
  pub grows : Grows table read
  pub interns : InternsCertificate text table read
  pub certificate : Certificate
  pub reads : ReadsCertificate read text (Ok certificate)
  pub is_tested : IsCertified (meaning_of read certificate.text.spec) problem.clauses encoded certificate outcome

-- They have one that passes all tests. So by the order of its symbol lines its facts decide what follows from the encoded axioms. And of
-- the ground terms over the problem's own symbols, its fresh constant among them, each has exactly one normal form, and two share it
-- exactly if their equation follows from the problem's own axioms.
pub record HasCertificate (files : Files) (root : Option (List ℕ)) (name file : List ℕ) : Type 0 where
  pub passed : HasTested files root name file Yes
  pub decides : Decides (meaning_of passed.read passed.certificate.text.spec) passed.certificate.text.system.facts passed.encoded.axioms
  pub own_form : (u : Tree) → IsOwnGround passed.read passed.problem u → HasOneNormalForm (meaning_of passed.read passed.certificate.text.spec) passed.certificate.text.system.facts u
  pub own : (u v n k : Tree) → IsOwnGround passed.read passed.problem u → IsOwnGround passed.read passed.problem v → HasNormalForm (meaning_of passed.read passed.certificate.text.spec) passed.certificate.text.system.facts u n → HasNormalForm (meaning_of passed.read passed.certificate.text.spec) passed.certificate.text.system.facts v k → (n ≡ k) ↔ Conv (axioms_of passed.problem.clauses) u v

-- Where the words are those of `certify` and the status is 0, the files have such a problem and such a certificate.
abbrev pub KeepsCertifyWord : Files → List (List ℕ) → ℕ → Type 0
KeepsCertifyWord files words result = (command : Command) (name file : List ℕ) → Reads words command → command.verb ≡ verb.Certify → command.positionals ≡ name ∷ file ∷ [] → result ≡ 0 → HasCertificate files command.root name file

-- How a command ends for a problem, with its symbols in the table that loading it leaves, and for the certificate file of this name, by
-- how it ends for a certificate that is read in this table and is this to the problem.
pub record CertificateCompletes (EndsFor : Table → Certificate → Certified → Type 0) (loaded : Table) (files : Files) (problem : Problem) (file : List ℕ) (old new : Option (List ℕ)) (result : ℕ) : Type 0 where
  -- a goal is too large to be encoded
  pub large : (number : ℕ) (goal : Sourced) → Marks loaded problem (Err (GoalTooLarge number)) → slice_get problem.clauses number ≡ Some goal → EndsWith 3 (large_line goal) old new result
  -- none is, and there is no certificate file
  pub absent : list_any is_too_large problem.clauses ≡ false → held files file ≡ None → EndsWith 3 (about_file file (codes "Absent")) old new result
  -- none is, and the file's text isn't read as a certificate
  pub unread : list_any is_too_large problem.clauses ≡ false → (read : Table) (text : List ℕ) (why : CertFault) → IsDistinct read → held files file ≡ Some text → IsReading read text (Err why) → (why ≡ NoMemory → ⊥) → EndsWith 3 (cert_fault_line file why) old new result
  -- it is read as a certificate, in the table that encoding and the certificate make, and is this to the problem
  pub read : (table read : Table) (encoded : Encoded) → IsDistinct table → AddsMarks loaded table encoded.fresh → Encodes table problem (Ok encoded) → (text : List ℕ) (certificate : Certificate) (outcome : Certified) → IsDistinct read → held files file ≡ Some text → InternsCertificate text table read → IsReading read text (Ok certificate) → IsCertified (meaning_of read certificate.text.spec) problem.clauses encoded certificate outcome → EndsFor read certificate outcome

-- how `certify` ends for a certificate: all its tests are passed, or the first that fails is told
abbrev pub CertifiedEnds : Option (List ℕ) → Option (List ℕ) → ℕ → Table → Certificate → Certified → Type 0
CertifiedEnds old new result read certificate outcome = (line : List ℕ) → IsCertifiedLine certificate.lines.lines certificate.text.system.facts outcome line → EndsWith (certified_status outcome) line old new result

-- Where the words are those of `certify` and the files hold the problem, `certify` ends so.
abbrev pub CompletesCertify : Files → List (List ℕ) → Option (List ℕ) → Option (List ℕ) → ℕ → Type 0
CompletesCertify files words old new result = (command : Command) (name file : List ℕ) (loaded : Table) (problem : Problem) → Reads words command → command.verb ≡ verb.Certify → command.positionals ≡ name ∷ file ∷ [] → IsDistinct loaded → IsLoaded files command.root name loaded problem → CertificateCompletes (CertifiedEnds old new result) loaded files problem file old new result
