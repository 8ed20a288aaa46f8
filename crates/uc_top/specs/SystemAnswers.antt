-- What `decide` answers by a certificate, where nothing is searched.
use Rattle.std.specs.Prelude.{ℕ, ◌≡◌, List}
use Rattle.uc_term.specs.Tree.{Tree}
use Rattle.uc_term.specs.Table.{Table}
use Rattle.uc_problem.specs.declared.problem.Problem.{Problem}
use Rattle.uc_fact.specs.Live.{numbered}
use Rattle.uc_decide.specs.declared.reply.Reply.{Reply}
use Rattle.uc_ordering.specs.Meaning.{meaning_of}
use Rattle.uc_certificate.specs.declared.certificate.Certificate.{Certificate}
use Rattle.uc_certify.specs.declared.certified.Certified.{Certified}
use Rattle.uc_certify.specs.declared.certified.Certified.TheVariants.{Yes}
use Rattle.uc_answer.specs.declared.term_word.WordFault.{WordFault}
use Rattle.uc_answer.specs.declared.term_word.WordFault.TheVariants.{NoMemory}
use Rattle.uc_answer.specs.WordLines.{word_line}
use Rattle.uc_answer.specs.QuestionWords.{AreQuestions, IsFirstFault}
use Rattle.uc_answer.specs.ReplyLines.{AreReplies, replies_status, reply_lines}
use Rattle.uc_answer.specs.CertifyLines.{IsCertifiedLine}

-- A certificate that is read in this table and fails a test is refused, as by `certify`. Where all its tests are passed, the words are
-- read as questions over the problem's own signature, and each has its reply by the certificate's facts and the order of its symbol
-- lines, with at most so many steps.
pub data IsAskedCertificate (steps : ℕ) (words : List (List ℕ)) (problem : Problem) (read : Table) (certificate : Certificate) : Certified → ℕ → List ℕ → Type 0 where
  fails_test : {outcome : Certified} {line : List ℕ} → (outcome ≡ Yes → ⊥) → IsCertifiedLine certificate.lines.lines certificate.text.system.facts outcome line → IsAskedCertificate steps words problem read certificate outcome 1 line
  asks_no_question : {number : ℕ} {why : WordFault} → IsFirstFault read problem.signature.symbols words number why → (why ≡ NoMemory → ⊥) → IsAskedCertificate steps words problem read certificate Yes 3 (word_line number why)
  has_replies : {questions : List (Tree × Tree)} {replies : List Reply} → AreQuestions read problem.signature.symbols words questions → AreReplies (meaning_of read certificate.text.spec) (numbered certificate.text.system.facts) steps questions replies → IsAskedCertificate steps words problem read certificate Yes (replies_status replies) (reply_lines read replies)
