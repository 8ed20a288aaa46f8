use Rattle.std.proofs.Common.{take, refl, sym, subst, ◌∙◌, arith}
use Rattle.uc_term.specs.Table.{Table}
use Rattle.uc_term.specs.Gathering.{HasAll}
use Rattle.uc_clause.proofs.Tables.{grows_not, grows_twice}
use Rattle.uc_answer.specs.QuestionWords.{IsQuestionFault, AreQuestions}
use Rattle.uc_answer.proofs.Questions.{short_at, one_question_more, none_yet, first_fault, all_read}
use Rattle.uc_answer.proofs.question_word.read_questions.Goals as goal

pub loop-number-init : goal.loop-number-init
loop-number-init c = record {
  so_far = rw c.new-questions.ensures (none_yet c.args.symbols.now c.args.known.now);
  grows = grows_not c.args.symbols.now;
  kept = λ has. refl;
}

pub read_next-requires : goal.read_next-requires
read_next-requires c = rw c.as_bytes.ensures (short_at c.args.words.now c.loop-number.number c.index-words-number.result c.loop-number-test.true c.index-words-number.is c.requires)

pub returns-in-Err-clause-refused : goal.returns-in-Err-clause-refused
returns-in-Err-clause-refused c = λ has.
    let same = c.loop-number.invariant.kept has in
    first_fault c.args.known.now c.args.words.now c.loop-number.number c.index-words-number.result c.loop-number.questions c.args.symbols.now c.in-Err.fault c.loop-number-test.true c.index-words-number.is (subst (λ (t : Table). AreQuestions t c.args.known.now (take c.loop-number.number c.args.words.now) c.loop-number.questions) same c.loop-number.invariant.so_far) (subst (λ (t : Table). IsQuestionFault t c.args.known.now c.index-words-number.result c.in-Err.fault) same (rw c.as_bytes.ensures at c.in-Err.ensures.refused))

pub loop-number-preserved : goal.loop-number-preserved
loop-number-preserved c =
    let read = c.in_default.ensures.reads in
    record {
      so_far = rw read.2 (one_question_more c.args.known.now c.args.words.now c.loop-number.number c.index-words-number.result c.loop-number.questions c.loop-number.symbols c.read_next.new.symbols read.0 c.loop-number-test.true c.index-words-number.is c.read_next.ensures.grows c.loop-number.invariant.so_far (rw c.as_bytes.ensures at read.1));
      grows = grows_twice c.args.symbols.now c.loop-number.symbols c.read_next.new.symbols c.loop-number.invariant.grows c.read_next.ensures.grows;
      kept = λ has. (
          let same = c.loop-number.invariant.kept has in
          c.in_default.ensures.kept (subst (λ (t : Table). HasAll t c.args.known.now) (sym same) has) ∙ same);
    }

pub returns-clause-reads : goal.returns-clause-reads
returns-clause-reads c = all_read c.loop-number.symbols c.args.known.now c.args.words.now c.loop-number.number c.loop-number.questions (omega (arith, c.loop-number-test.false)) c.loop-number.invariant.so_far
