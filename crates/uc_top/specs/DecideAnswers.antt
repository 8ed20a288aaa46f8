-- What `decide` answers for a problem and questions.
use Rattle.std.specs.Prelude.{ℕ, ◌≡◌, List, [], ◌++◌, codes, None}
use Rattle.uc_term.specs.Tree.{Tree}
use Rattle.uc_term.specs.Table.{Table}
use Rattle.uc_check.specs.Clauses.{axioms_of}
use Rattle.uc_problem.specs.declared.problem.Problem.{Problem}
use Rattle.uc_order.specs.declared.spec.OrderSpec.{OrderSpec}
use Rattle.uc_fact.specs.Live.{Live, equations_of, numbered}
use Rattle.uc_shelf.specs.Entries.{live}
use Rattle.uc_machine.specs.declared.event.Verdict.{Verdict}
use Rattle.uc_machine.specs.declared.event.Verdict.TheVariants.{Saturated}
use Rattle.uc_machine.specs.State.{Opening, State}
use Rattle.uc_worker.specs.Ends.{IsSearchedBy}
use Rattle.uc_decide.specs.declared.reply.Reply.{Reply}
use Rattle.uc_words.specs.declared.command.Command.{Command}
use Rattle.uc_ordering.specs.declared.fault.ChoiceFault.{ChoiceFault}
use Rattle.uc_ordering.specs.declared.fault.ChoiceFault.TheVariants as choice
use Rattle.uc_ordering.specs.Choice.{IsChosen, IsChoiceFault}
use Rattle.uc_ordering.specs.Meaning.{meaning_of}
use Rattle.uc_answer.specs.declared.term_word.WordFault.{WordFault}
use Rattle.uc_answer.specs.declared.term_word.WordFault.TheVariants.{NoMemory}
use Rattle.uc_answer.specs.ChoiceLines.{choice_line}
use Rattle.uc_answer.specs.WordLines.{word_line}
use Rattle.uc_answer.specs.QuestionWords.{AreQuestions, IsFirstFault}
use Rattle.uc_answer.specs.StatusLines.{status_line}
use Rattle.uc_answer.specs.LimitLines.{IsLimitLine}
use Rattle.uc_answer.specs.ReplyLines.{AreReplies, replies_status, reply_lines}

-- THE SEARCH

-- what a book is opened with to decide: the axioms of the problem and none of its goals
abbrev pub opening_of_axioms : Command → Problem → Opening
opening_of_axioms command problem = record { axioms = axioms_of problem.clauses; goals = []; budget = command.budget; limit = command.pairs }

-- the facts that live, numbered by their order, as in a system
abbrev pub facts_of : State → List Live
facts_of s = numbered (equations_of (live s.entries))

-- THE PROBLEM

-- Symbols are those of the table that loading the problem leaves, and the problem file has this name.
module _ (table : Table) (command : Command) (name : List ℕ) (words : List (List ℕ)) where
  -- The order is chosen first, for the problem's own signature, in which the symbols of its goals count. Then the words are
  -- read as questions over this signature. Since questions have known symbols alone, they leave the table as it is. Then
  -- the command's workers search from the axioms. Where their system is saturated, each question has its reply by the facts
  -- that live; else a limit ended the search.
  pub data IsDecided (problem : Problem) : ℕ → List ℕ → Type 0 where
    is_unordered : {why : ChoiceFault} → IsChoiceFault table problem.signature command.order why → (why ≡ choice.NoMemory → ⊥) → IsDecided problem 4 (choice_line why)
    is_no_question : {spec : OrderSpec} {number : ℕ} {why : WordFault} → IsChosen table problem.signature command.order None spec → IsFirstFault table problem.signature.symbols words number why → (why ≡ NoMemory → ⊥) → IsDecided problem 3 (word_line number why)
    is_answered : {spec : OrderSpec} {questions : List (Tree × Tree)} {s : State} {replies : List Reply} → IsChosen table problem.signature command.order None spec → AreQuestions table problem.signature.symbols words questions → IsSearchedBy (meaning_of table spec) (opening_of_axioms command problem) command.workers Saturated s → AreReplies (meaning_of table spec) (facts_of s) command.steps questions replies → IsDecided problem (replies_status replies) (reply_lines table replies)
    is_out : {spec : OrderSpec} {questions : List (Tree × Tree)} {v : Verdict} {s : State} {line : List ℕ} → IsChosen table problem.signature command.order None spec → AreQuestions table problem.signature.symbols words questions → IsSearchedBy (meaning_of table spec) (opening_of_axioms command problem) command.workers v s → IsLimitLine command s v line → IsDecided problem 2 (status_line (codes "ResourceOut") name ++ line)
