-- What a run of `decide` by a certificate keeps.
use Rattle.std.proofs.Common.{inl, inr, ℕ, ◌≡◌, ◌≤◌, List, ◌∷◌, Option, Some, Ok, refl, subst, arith}
use Rattle.uc_term.specs.Tree.{Tree}
use Rattle.uc_term.specs.Table.{Table, Grows, IsDistinct}
use Rattle.uc_edge.specs.Files.{Files}
use Rattle.uc_check.specs.Clauses.{axioms_of}
use Rattle.uc_problem.specs.declared.problem.Problem.{Problem}
use Rattle.uc_problem.specs.declared.problem.Encoded.{Encoded}
use Rattle.uc_problem.specs.Encodes.{Encodes}
use Rattle.uc_problem.specs.Filling.{AddsMarks}
use Rattle.uc_problem.specs.Loading.{held}
use Rattle.uc_order.specs.Laws.{Meaning}
use Rattle.uc_fact.specs.Live.{numbered}
use Rattle.uc_decide.specs.declared.reply.Reply.{Reply}
use Rattle.uc_ordering.specs.Meaning.{meaning_of}
use Rattle.uc_system.specs.Reading.{precedence_of, IsSystem}
use Rattle.uc_certificate.specs.declared.certificate.Certificate.{Certificate}
use Rattle.uc_certificate.specs.Interning.{InternsCertificate}
use Rattle.uc_certificate.specs.Reading.{ReadsCertificate}
use Rattle.uc_certify.specs.declared.certified.Certified.{Certified}
use Rattle.uc_certify.specs.declared.certified.Certified.TheVariants.{Yes}
use Rattle.uc_certify.specs.Certifying.{IsCertified}
use Rattle.uc_words.specs.declared.command.Command.{Command}
use Rattle.uc_words.specs.declared.command.Verb.TheVariants as verb
use Rattle.uc_words.specs.Reads.{Reads}
use Rattle.uc_answer.specs.QuestionWords.{AreQuestions}
use Rattle.uc_answer.specs.ReplyLines.{AreReplies, replies_status, reply_lines}
use Rattle.uc_answer.proofs.OrderLaws.{spec_laws}
use Rattle.uc_top.specs.FileAnswers.{FileAnswers, is_absent, isnt_fetched, is_found}
use Rattle.uc_top.specs.CertificateAnswers.{CertificateTextAnswers, isnt_certificate, is_certificate, CertificateAnswers, has_large_goal, is_encoded}
use Rattle.uc_top.specs.SystemAnswers.{IsAskedCertificate, fails_test, asks_no_question, has_replies}
use Rattle.uc_top.specs.Loaded.{IsLoaded}
use Rattle.uc_top.specs.Answers.{SystemAnswers, fetch_fails, is_refused, is_loaded}
use Rattle.uc_top.specs.Told.{IsTold, told, cut_short}
use Rattle.uc_top.specs.Runs.{MayAnswer, is_answer, wants_memory, IsRun}
use Rattle.uc_top.specs.SystemRuns.{KeepsSystem, KeepsSystemWord}
use Rattle.uc_top.proofs.CertificatesHad.{encoded_agrees, has_tested, has_certificate}
use Rattle.uc_top.proofs.CertificateOrders.{decides, facts_over, own_ground, own_same}
use Rattle.uc_top.proofs.CertificateTexts.{read_system}
use Rattle.uc_top.proofs.OwnReplies.{own_questions, ground_questions, right_replies, true_replies}
use Rattle.uc_top.proofs.SystemCompleting.{answered}

module _ (files : Files) (before now : ℕ) (command : Command) (name file : List ℕ) (words : List (List ℕ)) where
  abbrev Keeps : ℕ → List ℕ → Type 0
  Keeps = KeepsSystem files command name file words

  module _ (loaded : Table) (loaded_distinct : IsDistinct loaded) (problem : Problem) (is_held : IsLoaded files command.root name loaded problem) where
    module _ (table : Table) (distinct : IsDistinct table) (encoded : Encoded) (adds : AddsMarks loaded table encoded.fresh) (encodes : Encodes table problem (Ok encoded)) where
      module _ (text : List ℕ) (has_text : held files file ≡ Some text) (read : Table) (read_distinct : IsDistinct read) (grows : Grows table read) (interns : InternsCertificate text table read) (certificate : Certificate) (reads : ReadsCertificate read text (Ok certificate)) where
        abbrev m : Meaning
        m = meaning_of read certificate.text.spec

        system : IsSystem read certificate.text
        system = read_system read text certificate reads

        -- a certificate that passes all tests, and replies by it
        replies_keep : IsCertified m problem.clauses encoded certificate Yes → (questions : List (Tree × Tree)) (replies : List Reply) → AreQuestions read problem.signature.symbols words questions → AreReplies m (numbered certificate.text.system.facts) command.steps questions replies → Keeps (replies_status replies) (reply_lines read replies)
        replies_keep passes questions replies q r =
            let agrees = encoded_agrees files command.root name file loaded loaded_distinct problem is_held table distinct encoded adds encodes in
            let d = decides table read grows problem agrees encoded encodes certificate system passes in
            let own = own_ground table read grows problem agrees encoded encodes certificate system passes in
            let over = facts_over read certificate.text.spec system.fits certificate.text.system.facts system.facts in
            let laws = spec_laws read (precedence_of certificate.text.spec) certificate.text.spec system.fits in
            let are_own = own_questions read problem q in
            let right = right_replies m laws certificate.text.system.facts encoded.axioms command.steps d over (ground_questions read problem m own questions are_own) r in
            inl (record {
              has = has_certificate files command.root name file loaded loaded_distinct problem is_held table distinct encoded adds encodes text has_text read read_distinct grows interns certificate reads passes;
              questions = questions;
              are_questions = q;
              are_own = are_own;
              replies = replies;
              are_replies = r;
              are_right = right;
              are_true = true_replies read problem m encoded.axioms (axioms_of problem.clauses) (own_same table read grows problem agrees encoded encodes certificate system passes) are_own right;
              status_is = refl;
              answer_is = refl;
            })

        asked_keep : (outcome : Certified) → IsCertified m problem.clauses encoded certificate outcome → {status : ℕ} {answer : List ℕ} → status ≤ 2 → IsAskedCertificate command.steps words problem read certificate outcome status answer → Keeps status answer
        asked_keep outcome c few (fails_test n l) = inr (record {
          outcome = outcome;
          isnt_passed = n;
          tested = has_tested files command.root name file loaded loaded_distinct problem is_held table distinct encoded adds encodes text has_text read read_distinct grows interns certificate reads outcome c;
          line_is = l;
          status_is = refl;
        })
        asked_keep outcome c few (asks_no_question f n) = absurd (omega (arith, few))
        asked_keep outcome c few (has_replies {questions = questions} {replies = replies} q r) = replies_keep c questions replies q r

      text_keeps : (text : List ℕ) → held files file ≡ Some text → {status : ℕ} {answer : List ℕ} → status ≤ 2 → CertificateTextAnswers (IsAskedCertificate command.steps words problem) table problem.clauses encoded file text status answer → Keeps status answer
      text_keeps text h few (isnt_certificate read d r n) = absurd (omega (arith, few))
      text_keeps text h few (is_certificate {read = read} {certificate = certificate} {outcome = outcome} d g i r c a) = asked_keep text h read d g i certificate r.1 outcome c few a

      file_keeps : {status : ℕ} {answer : List ℕ} → status ≤ 2 → FileAnswers (Some files) before now (CertificateTextAnswers (IsAskedCertificate command.steps words problem) table problem.clauses encoded file) file status answer → Keeps status answer
      file_keeps few (is_absent a) = absurd (omega (arith, few))
      file_keeps few (isnt_fetched r) = absurd (omega (arith, few))
      file_keeps few (is_found {text = text} h x) = text_keeps text h few x

    problem_keeps : {status : ℕ} {answer : List ℕ} → status ≤ 2 → CertificateAnswers (IsAskedCertificate command.steps words problem) (Some files) before now file loaded problem status answer → Keeps status answer
    problem_keeps few (has_large_goal m g) = absurd (omega (arith, few))
    problem_keeps few (is_encoded {table = table} {encoded = encoded} d i k a) = file_keeps table d encoded i k few a

  system_keeps : {status : ℕ} {answer : List ℕ} → status ≤ 2 → SystemAnswers (Some files) before now command.steps words file command.root name status answer → Keeps status answer
  system_keeps few (fetch_fails other rose stops) = absurd (omega (arith, few))
  system_keeps few (is_refused why r refused) = absurd (omega (arith, few))
  system_keeps few (is_loaded {table = loaded} {problem = problem} d l a) = problem_keeps loaded d problem l few a

may_keep : (files : Files) (before now : ℕ) (all : List (List ℕ)) {status : ℕ} {text : List ℕ} → status ≤ 2 → MayAnswer (Some files) before now all status text → (command : Command) (name file : List ℕ) (words : List (List ℕ)) → Reads all command → command.verb ≡ verb.Decide → command.system ≡ Some file → command.positionals ≡ name ∷ words → KeepsSystem files command name file words status text
may_keep files before now all few wants_memory command name file words reads is_decide given names = absurd (omega (arith, few))
may_keep files before now all few (is_answer a) command name file words reads is_decide given names = system_keeps files before now command name file words few (answered (Some files) before now all command name file words reads is_decide given names a)

module _ (files : Files) (before now : ℕ) (all : List (List ℕ)) (old new : Option (List ℕ)) where
  told_keeps : {write_before write_now status result : ℕ} {text : List ℕ} → MayAnswer (Some files) before now all status text → IsTold old new write_before write_now text status result → KeepsSystemWord files all old new result
  told_keeps {text = text} a (told written) command name file words reads is_decide given names few = (text, may_keep files before now all few a command name file words reads is_decide given names, written)
  told_keeps a (cut_short short part rose) command name file words reads is_decide given names few = absurd (omega (arith, few))

pub keeps_system_word : (holds : Option Files) (before now : ℕ) (all : List (List ℕ)) (old new : Option (List ℕ)) (write_before write_now result : ℕ) → IsRun holds before now all old new write_before write_now result → (files : Files) → holds ≡ Some files → KeepsSystemWord files all old new result
keeps_system_word holds before now all old new write_before write_now result run files tells =
    let here = subst (λ (o : Option Files). IsRun o before now all old new write_before write_now result) tells run in
    told_keeps files before now all old new here.answer here.told
