use Rattle.std.proofs.Common.{◌≡◌, take}
use Rattle.uc_term.specs.Table.{Grows}
use Rattle.uc_term.specs.Gathering.{HasAll}
use Rattle.uc_answer.specs.QuestionWords.{AreQuestions}
use Rattle.uc_answer.proofs.question_word.read_questions.Given as goal

abbrev pub invariant-loop-number : goal.invariant-loop-number
invariant-loop-number l = record {
  so_far : AreQuestions l.symbols l.known (take l.number l.words) l.questions;
  grows : Grows l.fn.symbols l.symbols;
  kept : HasAll l.fn.symbols l.known → l.symbols ≡ l.fn.symbols;
}
