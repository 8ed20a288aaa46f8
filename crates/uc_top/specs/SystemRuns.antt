-- How a run of `decide` by a certificate ends, and what its answers promise.
use Rattle.std.specs.Prelude.{ℕ, ◌≡◌, ◌≤◌, ◌⊎◌, List, [], ◌∷◌, slice_get, Option, Some}
use Rattle.std.specs.Io.KnownBytes.{Appends}
use Rattle.uc_term.specs.declared.equation.Equation.{Equation}
use Rattle.uc_term.specs.Tree.{Tree}
use Rattle.uc_term.specs.Table.{Table, IsDistinct}
use Rattle.uc_term.specs.Conversion.{Conv}
use Rattle.uc_edge.specs.Files.{Files}
use Rattle.uc_check.specs.Clauses.{axioms_of}
use Rattle.uc_problem.specs.declared.problem.Problem.{Problem}
use Rattle.uc_fact.specs.Live.{numbered}
use Rattle.uc_decide.specs.declared.reply.Reply.{Reply}
use Rattle.uc_decide.specs.declared.reply.Reply.TheVariants.{Equal, Different, Spent, Grown}
use Rattle.uc_decide.specs.Asking.{IsVerdict}
use Rattle.uc_ordering.specs.Meaning.{meaning_of}
use Rattle.uc_certificate.specs.declared.certificate.Certificate.{Certificate}
use Rattle.uc_certify.specs.declared.certified.Certified.{Certified}
use Rattle.uc_certify.specs.declared.certified.Certified.TheVariants.{Yes}
use Rattle.uc_words.specs.declared.command.Command.{Command}
use Rattle.uc_words.specs.declared.command.Verb.TheVariants.{Decide}
use Rattle.uc_words.specs.Reads.{Reads}
use Rattle.uc_answer.specs.declared.term_word.WordFault.{WordFault}
use Rattle.uc_answer.specs.declared.term_word.WordFault.TheVariants.{NoMemory}
use Rattle.uc_answer.specs.Lines.{memory_line}
use Rattle.uc_answer.specs.WordLines.{word_line}
use Rattle.uc_answer.specs.QuestionWords.{AreQuestions, IsFirstFault}
use Rattle.uc_answer.specs.ReplyLines.{AreReplies, replies_status, reply_line, reply_lines}
use Rattle.uc_answer.specs.RightReplies.{AreRight}
use Rattle.uc_answer.specs.CertifyLines.{IsCertifiedLine}
use Rattle.uc_answer.specs.Promises.{IsOwnGround}
use Rattle.uc_top.specs.Loaded.{IsLoaded}
use Rattle.uc_top.specs.Runs.{EndsWith}
use Rattle.uc_top.specs.CertifyRuns.{HasTested, HasCertificate, CertificateCompletes}

-- the questions are of ground terms over the problem's own symbols, its fresh constant among them, without those of the encoding
abbrev pub AreOwnQuestions : Table → Problem → List (Tree × Tree) → Type 0
AreOwnQuestions table problem [] = Unit {0}
AreOwnQuestions table problem (sides ∷ others) = (IsOwnGround table problem sides.0 × IsOwnGround table problem sides.1) × AreOwnQuestions table problem others

-- the axioms make two terms equal where the reply says so, and don't where it says that
abbrev pub IsTrueBy : List Equation → Tree → Tree → Reply → Type 0
IsTrueBy axioms s t (Equal n) = Conv axioms s t
IsTrueBy axioms s t (Different left right) = Conv axioms s t → ⊥
IsTrueBy axioms s t (Spent n) = Unit {0}
IsTrueBy axioms s t Grown = Unit {0}

-- so is each reply to questions
pub data AreTrueBy (axioms : List Equation) : List (Tree × Tree) → List Reply → Type 0 where
  none_is_false : AreTrueBy axioms [] []
  one_is_true : {sides : Tree × Tree} {others : List (Tree × Tree)} {reply : Reply} {replies : List Reply} → IsTrueBy axioms sides.0 sides.1 reply → AreTrueBy axioms others replies → AreTrueBy axioms (sides ∷ others) (reply ∷ replies)

-- THE PROMISE

module _ (files : Files) (command : Command) (name file : List ℕ) where
  -- The files have a problem and a certificate that passes all tests. The answer has a line for each question, of its reply by the
  -- certificate's facts and the order of its symbol lines. What a reply says follows from the problem's own axioms, or doesn't. Its
  -- terms are the least to which the encoded axioms make the sides equal. It is `spent` or `grown` only where so many steps, or so
  -- large a term, came before a normal form.
  pub record IsAnsweredByCertificate (words : List (List ℕ)) (status : ℕ) (answer : List ℕ) : Type 0 where
    pub has : HasCertificate files command.root name file
    pub questions : List (Tree × Tree)
    pub are_questions : AreQuestions has.passed.read has.passed.problem.signature.symbols words questions
    pub are_own : AreOwnQuestions has.passed.read has.passed.problem questions
    pub replies : List Reply
    pub are_replies : AreReplies (meaning_of has.passed.read has.passed.certificate.text.spec) (numbered has.passed.certificate.text.system.facts) command.steps questions replies
    pub are_right : AreRight (meaning_of has.passed.read has.passed.certificate.text.spec) has.passed.encoded.axioms questions replies
    pub are_true : AreTrueBy (axioms_of has.passed.problem.clauses) questions replies
    pub status_is : status ≡ replies_status replies
    pub answer_is : answer ≡ reply_lines has.passed.read replies

  -- They have a certificate that fails a test. The answer is the line of the first that fails, and no question is answered.
  pub record IsRefusedCertificate (status : ℕ) (answer : List ℕ) : Type 0 where
    pub outcome : Certified
    pub isnt_passed : outcome ≡ Yes → ⊥
    pub tested : HasTested files command.root name file outcome
    pub line_is : IsCertifiedLine tested.certificate.lines.lines tested.certificate.text.system.facts outcome answer
    pub status_is : status ≡ 1

  abbrev pub KeepsSystem : List (List ℕ) → ℕ → List ℕ → Type 0
  KeepsSystem words status answer = IsAnsweredByCertificate words status answer ⊎ IsRefusedCertificate status answer

-- So it is of a run whose words are those of `decide` with a certificate, and that ends with status 0, 1 or 2: the sink was given such an
-- answer.
abbrev pub KeepsSystemWord : Files → List (List ℕ) → Option (List ℕ) → Option (List ℕ) → ℕ → Type 0
KeepsSystemWord files all old new result = (command : Command) (name file : List ℕ) (words : List (List ℕ)) → Reads all command → command.verb ≡ Decide → command.system ≡ Some file → command.positionals ≡ name ∷ words → result ≤ 2 → (answer : List ℕ) × KeepsSystem files command name file words result answer × Appends old new answer

-- the answer has this line for the question of this number, from 0 on, and the line says whether its equation follows
abbrev pub TellsByCertificate : {files : Files} {command : Command} {name file : List ℕ} {words : List (List ℕ)} {status : ℕ} {answer : List ℕ} → IsAnsweredByCertificate files command name file words status answer → ℕ → List ℕ → Type 0
TellsByCertificate answered number line = (reply : Reply) × (slice_get answered.replies number ≡ Some reply) × IsVerdict reply × (line ≡ reply_line answered.has.passed.read reply)

-- COMPLETENESS

module _ (steps : ℕ) (words : List (List ℕ)) (problem : Problem) (old new : Option (List ℕ)) where
  -- How it ends for questions and a certificate that passes all tests: with a reply to each, or for want of memory, which is free.
  pub data AskedEnds (read : Table) (certificate : Certificate) (questions : List (Tree × Tree)) : ℕ → Type 0 where
    tells_replies : {replies : List Reply} → AreReplies (meaning_of read certificate.text.spec) (numbered certificate.text.system.facts) steps questions replies → Appends old new (reply_lines read replies) → AskedEnds read certificate questions (replies_status replies)
    asks_in_want : Appends old new memory_line → AskedEnds read certificate questions 7

  -- How it ends for a certificate, by what it is to the problem, and by what the words are.
  pub record AskedCertificateEnds (result : ℕ) (read : Table) (certificate : Certificate) (outcome : Certified) : Type 0 where
    -- it fails a test
    pub refused : (line : List ℕ) → (outcome ≡ Yes → ⊥) → IsCertifiedLine certificate.lines.lines certificate.text.system.facts outcome line → EndsWith 1 line old new result
    -- it passes all, and a word is no question over the problem's signature
    pub no_question : outcome ≡ Yes → (number : ℕ) (why : WordFault) → IsFirstFault read problem.signature.symbols words number why → (why ≡ NoMemory → ⊥) → EndsWith 3 (word_line number why) old new result
    -- it passes all, and all words are
    pub asked : outcome ≡ Yes → (questions : List (Tree × Tree)) → AreQuestions read problem.signature.symbols words questions → AskedEnds read certificate questions result

-- Where the words are those of `decide` with a certificate and the files hold the problem, `decide` ends so.
abbrev pub CompletesSystem : Files → List (List ℕ) → Option (List ℕ) → Option (List ℕ) → ℕ → Type 0
CompletesSystem files all old new result = (command : Command) (name file : List ℕ) (words : List (List ℕ)) (loaded : Table) (problem : Problem) → Reads all command → command.verb ≡ Decide → command.system ≡ Some file → command.positionals ≡ name ∷ words → IsDistinct loaded → IsLoaded files command.root name loaded problem → CertificateCompletes (AskedCertificateEnds command.steps words problem old new result) loaded files problem file old new result
