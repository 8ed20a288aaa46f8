-- How `decide` ends by a search.
use Rattle.std.proofs.Common.{ℕ, ◌≡◌, List, ◌∷◌, Option, Some, None, sym, ◌∙◌, subst}
use Rattle.std.specs.Io.KnownBytes.{Appends}
use Rattle.uc_term.specs.Tree.{Tree}
use Rattle.uc_term.specs.Table.{Table, IsDistinct}
use Rattle.uc_edge.specs.Files.{Files}
use Rattle.uc_edge.specs.Faults.{Rose}
use Rattle.uc_problem.specs.declared.problem.Problem.{Problem}
use Rattle.uc_problem.proofs.FreshMarks.{signature_has}
use Rattle.uc_order.specs.declared.spec.OrderSpec.{OrderSpec}
use Rattle.uc_machine.specs.declared.event.Verdict.TheVariants.{Saturated}
use Rattle.uc_words.specs.declared.command.Command.{Command}
use Rattle.uc_words.specs.declared.command.Verb.TheVariants as verb
use Rattle.uc_ordering.specs.Choice.{IsChosen}
use Rattle.uc_ordering.proofs.Once.{chosen_or_refused}
use Rattle.uc_answer.specs.declared.term_word.WordFault.{WordFault}
use Rattle.uc_answer.specs.declared.term_word.WordFault.TheVariants.{NoMemory}
use Rattle.uc_answer.specs.WordLines.{word_line}
use Rattle.uc_answer.specs.QuestionWords.{AreQuestions, IsFirstFault}
use Rattle.uc_answer.proofs.OneQuestion.{questions_or_fault, first_fault_once}
use Rattle.uc_top.specs.Loaded.{IsLoaded}
use Rattle.uc_top.specs.DecideAnswers.{IsDecided, is_unordered, is_no_question, is_answered, is_out}
use Rattle.uc_top.specs.Answers.{DecideAnswers}
use Rattle.uc_top.specs.Runs.{MayAnswer, is_answer, wants_memory, IsRun, EndsWith, tells_all, tells_want}
use Rattle.uc_top.specs.DecideRuns.{tells_replies, tells_limit, QuestionsEnd, tells_answer, lacks_memory, DecideEnds, CompletesDecide}
use Rattle.uc_top.proofs.Positionals.{head_name, tail_names}
use Rattle.uc_top.proofs.ByVerb.{OfSearch, by_search, of_verb}
use Rattle.uc_top.proofs.Completing.{told_whole}
use Rattle.uc_top.proofs.LoadedOnce.{answers_for}

module _ (table : Table) (distinct : IsDistinct table) (files : Files) (command : Command) (name : List ℕ) (words : List (List ℕ)) (problem : Problem) (held : IsLoaded files command.root name table problem) (spec : OrderSpec) (chosen : IsChosen table problem.signature command.order None spec) where
  isnt_both : (number : ℕ) (why : WordFault) (questions : List (Tree × Tree)) → (why ≡ NoMemory → ⊥) → AreQuestions table problem.signature.symbols words questions → IsFirstFault table problem.signature.symbols words number why → ⊥
  isnt_both number why questions some q f = questions_or_fault table distinct problem.signature.symbols (signature_has table problem held.holds.agrees) words number why questions some q f

  asked_ends : {status result : ℕ} {text : List ℕ} {old new : Option (List ℕ)} (questions : List (Tree × Tree)) → AreQuestions table problem.signature.symbols words questions → IsDecided table command name words problem status text → Appends old new text → result ≡ status → QuestionsEnd files command name words old new result
  asked_ends questions q (is_unordered {why = why} x n) written e = absurd (chosen_or_refused table problem.signature command.order None spec why n chosen x)
  asked_ends questions q (is_no_question {number = number} {why = why} c f n) written e = absurd (isnt_both number why questions n q f)
  asked_ends questions q (is_answered {spec = own_spec} {questions = asked} {s = s} c p x r) written e = rw e (tells_answer (record {
    table = table;
    distinct = distinct;
    problem = problem;
    filled = held.filled;
    holds = held.holds;
    spec = own_spec;
    chosen = c;
    questions = asked;
    are_questions = p;
    verdict = Saturated;
    state = s;
    searched = x;
    answers = tells_replies r;
  }) written)
  asked_ends questions q (is_out {spec = own_spec} {questions = asked} {v = v} {s = s} c p x l) written e = rw e (tells_answer (record {
    table = table;
    distinct = distinct;
    problem = problem;
    filled = held.filled;
    holds = held.holds;
    spec = own_spec;
    chosen = c;
    questions = asked;
    are_questions = p;
    verdict = v;
    state = s;
    searched = x;
    answers = tells_limit l;
  }) written)

  fault_ends : {status result : ℕ} {text : List ℕ} {old new : Option (List ℕ)} (number : ℕ) (why : WordFault) → IsFirstFault table problem.signature.symbols words number why → (why ≡ NoMemory → ⊥) → IsDecided table command name words problem status text → Appends old new text → result ≡ status → EndsWith 3 (word_line number why) old new result
  fault_ends number why f some (is_unordered {why = fault} x n) written e = absurd (chosen_or_refused table problem.signature command.order None spec fault n chosen x)
  fault_ends {old = old} {new = new} number why f some (is_no_question {number = place} {why = other} c g n) written e =
      let one = first_fault_once table distinct problem.signature.symbols (signature_has table problem held.holds.agrees) words place number other why n some g f in
      rw e (subst (λ (w : WordFault). EndsWith 3 (word_line number w) old new 3) one.1 (subst (λ k. EndsWith 3 (word_line k other) old new 3) one.0 (tells_all written)))
  fault_ends number why f some (is_answered {questions = questions} c p x r) written e = absurd (isnt_both number why questions some p f)
  fault_ends number why f some (is_out {questions = questions} c p x l) written e = absurd (isnt_both number why questions some p f)

module _ (files : Files) (before now : ℕ) (well : Rose before now → ⊥) (all : List (List ℕ)) (old new : Option (List ℕ)) where
  whole : {status result : ℕ} {text : List ℕ} → MayAnswer (Some files) before now all status text → Appends old new text → result ≡ status → CompletesDecide files all old new result
  whole wants_memory written e command name words table problem spec reads is_decide none names distinct held chosen = subst (DecideEnds table files command name problem words old new) (sym e) (record { asked = λ questions q. lacks_memory written; no_question = λ number why f some. tells_want written })
  whole {status} {result} {text} (is_answer a) written e command name words table problem spec reads is_decide none names distinct held chosen = go (by_search (Some files) before now command none (of_verb (Some files) before now all verb.Decide is_decide reads a))
    where
      go : OfSearch (Some files) before now command status text → DecideEnds table files command name problem words old new result
      go p =
          let names_are : p.0 ∷ p.1 ≡ name ∷ words = sym p.2 ∙ names in
          let answer : DecideAnswers (Some files) before now command name words status text = subst (λ n. DecideAnswers (Some files) before now command n words status text) (head_name names_are) (subst (λ ws. DecideAnswers (Some files) before now command p.0 ws status text) (tail_names names_are) p.3) in
          let decided = answers_for files command.root name table distinct problem held (λ t. IsDecided t command name words) before now (λ five rose. well rose) answer in
          record {
            asked = λ questions q. asked_ends table distinct files command name words problem held spec chosen questions q decided written e;
            no_question = λ number why f some. fault_ends table distinct files command name words problem held spec chosen number why f some decided written e;
          }

pub decide_completes : (holds : Option Files) (before now : ℕ) (all : List (List ℕ)) (old new : Option (List ℕ)) (write_before write_now result : ℕ) → IsRun holds before now all old new write_before write_now result → (files : Files) → holds ≡ Some files → (Rose before now → ⊥) → (Rose write_before write_now → ⊥) → CompletesDecide files all old new result
decide_completes holds before now all old new write_before write_now result run files tells well told_well =
    let at = subst (λ (o : Option Files). IsRun o before now all old new write_before write_now result) tells run in
    let t = told_whole told_well at.told in
    whole files before now well all old new at.answer t.0 t.1
