use Rattle.std.proofs.Common.{sym, ◌∙◌}
use Rattle.std.proofs.lemmas.Result.{err_from_is_err_and}
use Rattle.uc_answer.proofs.GroundQuestions.{word_keeps}
use Rattle.uc_answer.proofs.TermWords.{the_node, foreign}
use Rattle.uc_answer.proofs.term_word.read_word.Goals as goal

pub returns-in_err-term-clause-refused : goal.returns-in_err-term-clause-refused
returns-in_err-term-clause-refused c =
    let p = err_from_is_err_and c.from_residual.result c.from_residual.ensures.1 in
    rw (p.1, p.2) (c.in_err-term.ensures.refused c.args.known.now)

pub name_at-requires : goal.name_at-requires
name_at-requires c = the_node c.whole_term.new.symbols c.args.known.now c.args.word.now c.in_ok-term.term c.in_ok-term.ensures.reads c.in-Some.number (sym c.first_foreign.ensures ∙ c.in-Some.is)

pub returns-in_ok-name-in-Some-clause-refused : goal.returns-in_ok-name-in-Some-clause-refused
returns-in_ok-name-in-Some-clause-refused c = (c.whole_term.new.symbols, c.in_ok-term.ensures.interns, foreign c.whole_term.new.symbols c.args.known.now c.args.word.now c.in_ok-term.term c.in_ok-term.ensures.reads c.in-Some.number (sym c.first_foreign.ensures ∙ c.in-Some.is) c.in_ok-place-in-Some.place c.in_ok-name-in-Some.name (c.in_ok-place-in-Some.ensures c.in_ok-term.ensures.reads.tokens c.in_ok-term.ensures.reads.are_tokens) c.in_ok-name-in-Some.ensures)

pub returns-in-None-clause-kept : goal.returns-in-None-clause-kept
returns-in-None-clause-kept c = λ has. word_keeps c.args.symbols.now c.whole_term.new.symbols c.args.known.now c.in_ok-term.ensures.grows has c.args.word.now c.in_ok-term.term c.whole_term.new.symbols c.in_ok-term.ensures.interns (record { reads = c.in_ok-term.ensures.reads; is_known = sym c.first_foreign.ensures ∙ c.in-None.is })
