-- How a run of `decide` ends, and what its answers promise.
use Rattle.std.specs.Prelude.{ℕ, ◌≡◌, ◌≤◌, ◌⊎◌, List, [], ◌∷◌, ◌++◌, codes, slice_get, Option, Some, None}
use Rattle.std.proofs.Common.{inl, inr}
use Rattle.std.specs.Io.KnownBytes.{Appends}
use Rattle.uc_term.specs.Tree.{Tree}
use Rattle.uc_term.specs.Table.{Table, IsDistinct}
use Rattle.uc_edge.specs.Files.{Files}
use Rattle.uc_check.specs.Clauses.{axioms_of}
use Rattle.uc_problem.specs.declared.problem.Problem.{Problem}
use Rattle.uc_problem.specs.Holds.{Holds}
use Rattle.uc_problem.specs.Filling.{IsFilled}
use Rattle.uc_order.specs.declared.spec.OrderSpec.{OrderSpec}
use Rattle.uc_fact.specs.Live.{equations_of}
use Rattle.uc_shelf.specs.Entries.{live}
use Rattle.uc_machine.specs.declared.event.Verdict.{Verdict}
use Rattle.uc_machine.specs.declared.event.Verdict.TheVariants.{Saturated}
use Rattle.uc_machine.specs.State.{State}
use Rattle.uc_runs.specs.Causes.{Causes}
use Rattle.uc_worker.specs.Ends.{IsSearchedBy}
use Rattle.uc_decide.specs.declared.reply.Reply.{Reply}
use Rattle.uc_decide.specs.Deciding.{Decides}
use Rattle.uc_decide.specs.Asking.{IsVerdict}
use Rattle.uc_words.specs.declared.command.Command.{Command}
use Rattle.uc_words.specs.declared.command.Verb.TheVariants.{Decide}
use Rattle.uc_words.specs.Reads.{Reads}
use Rattle.uc_ordering.specs.Choice.{IsChosen}
use Rattle.uc_ordering.specs.Meaning.{meaning_of}
use Rattle.uc_answer.specs.declared.term_word.WordFault.{WordFault}
use Rattle.uc_answer.specs.declared.term_word.WordFault.TheVariants.{NoMemory}
use Rattle.uc_answer.specs.Lines.{memory_line}
use Rattle.uc_answer.specs.WordLines.{word_line}
use Rattle.uc_answer.specs.QuestionWords.{AreQuestions, IsFirstFault}
use Rattle.uc_answer.specs.StatusLines.{status_line}
use Rattle.uc_answer.specs.LimitLines.{IsLimitLine}
use Rattle.uc_answer.specs.ReplyLines.{AreReplies, replies_status, reply_line, reply_lines}
use Rattle.uc_answer.specs.RightReplies.{AreRight}
use Rattle.uc_top.specs.Loaded.{IsLoaded}
use Rattle.uc_top.specs.DecideAnswers.{opening_of_axioms, facts_of}
use Rattle.uc_top.specs.Runs.{EndsWith}

-- The system that the search ended with, saturated, decides what follows from the problem's axioms and answers the questions: the
-- answer has one line for each, and each line is right. A line is `spent` or `grown` only where so many steps, or so large a term,
-- came before a normal form.
pub record IsAnswered (table : Table) (command : Command) (problem : Problem) (spec : OrderSpec) (questions : List (Tree × Tree)) (status : ℕ) (answer : List ℕ) : Type 0 where
  pub state : State
  pub searched : IsSearchedBy (meaning_of table spec) (opening_of_axioms command problem) command.workers Saturated state
  pub decides : Decides (meaning_of table spec) (equations_of (live state.entries)) (axioms_of problem.clauses)
  pub replies : List Reply
  pub are_replies : AreReplies (meaning_of table spec) (facts_of state) command.steps questions replies
  pub are_right : AreRight (meaning_of table spec) (axioms_of problem.clauses) questions replies
  pub status_is : status ≡ replies_status replies
  pub answer_is : answer ≡ reply_lines table replies

-- The answer names the limit that ended the search. The verdict came in a state of the run that has its cause.
pub record IsOut (table : Table) (command : Command) (name : List ℕ) (problem : Problem) (spec : OrderSpec) (status : ℕ) (answer : List ℕ) : Type 0 where
  pub verdict : Verdict
  pub state : State
  pub searched : IsSearchedBy (meaning_of table spec) (opening_of_axioms command problem) command.workers verdict state
  pub cause : Causes (meaning_of table spec) (opening_of_axioms command problem) searched.ended.came.then_ verdict
  pub line : List ℕ
  pub line_is : IsLimitLine command state verdict line
  pub status_is : status ≡ 2
  pub answer_is : answer ≡ status_line (codes "ResourceOut") name ++ line

-- THE PROMISE

-- For a problem, questions and the order that the command names: each question has its line, and each line is right; or a limit
-- ended the search, with its cause.
pub record Decided (table : Table) (command : Command) (name : List ℕ) (words : List (List ℕ)) (problem : Problem) (status : ℕ) (answer : List ℕ) : Type 0 where
  pub spec : OrderSpec
  pub chosen : IsChosen table problem.signature command.order None spec
  pub questions : List (Tree × Tree)
  pub are_questions : AreQuestions table problem.signature.symbols words questions
  pub told : IsAnswered table command problem spec questions status answer ⊎ IsOut table command name problem spec status answer

-- so it is for the problem of this name that the files have, with its symbols in this table, which loading it leaves
pub record IsDecidedBy (table : Table) (files : Files) (command : Command) (name : List ℕ) (words : List (List ℕ)) (status : ℕ) (answer : List ℕ) : Type 0 where
  pub problem : Problem
  pub filled : IsFilled files command.root name [] table problem
  pub holds : Holds table files command.root name problem
  pub decided : Decided table command name words problem status answer

-- and the entries of that table are all different
pub record KeepsDecision (files : Files) (command : Command) (name : List ℕ) (words : List (List ℕ)) (status : ℕ) (answer : List ℕ) : Type 0 where
  pub table : Table
  pub distinct : IsDistinct table
  pub is_decided : IsDecidedBy table files command name words status answer

-- So it is where the command is `decide` and is given no certificate.
abbrev pub KeepsDecideCommand : Files → Command → ℕ → List ℕ → Type 0
KeepsDecideCommand files command status answer = (name : List ℕ) (words : List (List ℕ)) → command.system ≡ None → command.positionals ≡ name ∷ words → KeepsDecision files command name words status answer

-- So it is of a run whose words are those of `decide` without a certificate, and that ends with status 0, 1 or 2: the sink was given such
-- an answer.
abbrev pub KeepsDecideWord : Files → List (List ℕ) → Option (List ℕ) → Option (List ℕ) → ℕ → Type 0
KeepsDecideWord files all old new result = (command : Command) (name : List ℕ) (words : List (List ℕ)) → Reads all command → command.verb ≡ Decide → command.system ≡ None → command.positionals ≡ name ∷ words → result ≤ 2 → (answer : List ℕ) × KeepsDecision files command name words result answer × Appends old new answer

-- ONE LINE FOR A QUESTION

-- the answer has this line for the question of this number, from 0 on, and the line says whether its equation follows
abbrev pub TellsLine : {table : Table} {command : Command} {name : List ℕ} {problem : Problem} {spec : OrderSpec} {questions : List (Tree × Tree)} {status : ℕ} {answer : List ℕ} → IsAnswered table command problem spec questions status answer ⊎ IsOut table command name problem spec status answer → ℕ → List ℕ → Type 0
TellsLine {table} (inl answered) number line = (reply : Reply) × (slice_get answered.replies number ≡ Some reply) × IsVerdict reply × (line ≡ reply_line table reply)
TellsLine (inr out) number line = ⊥

-- so a decision has it
abbrev pub Tells : {files : Files} {command : Command} {name : List ℕ} {words : List (List ℕ)} {status : ℕ} {answer : List ℕ} → KeepsDecision files command name words status answer → ℕ → List ℕ → Type 0
Tells decision number line = TellsLine decision.is_decided.decided.told number line

-- COMPLETENESS

-- What is answered for the end of a search in this state: a reply to each question by the saturated system, or the limit that
-- ended the search.
pub data EndAnswers (table : Table) (command : Command) (name : List ℕ) (spec : OrderSpec) (questions : List (Tree × Tree)) (s : State) : Verdict → ℕ → List ℕ → Type 0 where
  tells_replies : {replies : List Reply} → AreReplies (meaning_of table spec) (facts_of s) command.steps questions replies → EndAnswers table command name spec questions s Saturated (replies_status replies) (reply_lines table replies)
  tells_limit : {v : Verdict} {line : List ℕ} → IsLimitLine command s v line → EndAnswers table command name spec questions s v 2 (status_line (codes "ResourceOut") name ++ line)

-- The status and the answer are those of a search by the command's workers, for the problem of this name that the files have, the order
-- that the words name for it and the questions that they ask, with the symbols in the table that loading it leaves, whose entries are
-- all different.
pub record IsHeldDecision (files : Files) (command : Command) (name : List ℕ) (words : List (List ℕ)) (status : ℕ) (answer : List ℕ) : Type 0 where
  pub table : Table
  pub distinct : IsDistinct table
  pub problem : Problem
  pub filled : IsFilled files command.root name [] table problem
  pub holds : Holds table files command.root name problem
  pub spec : OrderSpec
  pub chosen : IsChosen table problem.signature command.order None spec
  pub questions : List (Tree × Tree)
  pub are_questions : AreQuestions table problem.signature.symbols words questions
  pub verdict : Verdict
  pub state : State
  pub searched : IsSearchedBy (meaning_of table spec) (opening_of_axioms command problem) command.workers verdict state
  pub answers : EndAnswers table command name spec questions state verdict status answer

-- How `decide` ends for questions: with this answer, or for want of memory, which is free.
pub data QuestionsEnd (files : Files) (command : Command) (name : List ℕ) (words : List (List ℕ)) (old new : Option (List ℕ)) : ℕ → Type 0 where
  tells_answer : {status : ℕ} {answer : List ℕ} → IsHeldDecision files command name words status answer → Appends old new answer → QuestionsEnd files command name words old new status
  lacks_memory : Appends old new memory_line → QuestionsEnd files command name words old new 7

-- How `decide` ends for a problem and words, by what the words are.
pub record DecideEnds (table : Table) (files : Files) (command : Command) (name : List ℕ) (problem : Problem) (words : List (List ℕ)) (old new : Option (List ℕ)) (result : ℕ) : Type 0 where
  -- they are questions over the problem's signature
  pub asked : (questions : List (Tree × Tree)) → AreQuestions table problem.signature.symbols words questions → QuestionsEnd files command name words old new result
  -- one is none
  pub no_question : (number : ℕ) (why : WordFault) → IsFirstFault table problem.signature.symbols words number why → (why ≡ NoMemory → ⊥) → EndsWith 3 (word_line number why) old new result

-- Where the words of `decide` give no certificate and name an order for a problem that the files hold, `decide` ends so, with the
-- problem's symbols in the table that loading it leaves.
abbrev pub CompletesDecide : Files → List (List ℕ) → Option (List ℕ) → Option (List ℕ) → ℕ → Type 0
CompletesDecide files all old new result = (command : Command) (name : List ℕ) (words : List (List ℕ)) (table : Table) (problem : Problem) (spec : OrderSpec) → Reads all command → command.verb ≡ Decide → command.system ≡ None → command.positionals ≡ name ∷ words → IsDistinct table → IsLoaded files command.root name table problem → IsChosen table problem.signature command.order None spec → DecideEnds table files command name problem words old new result
