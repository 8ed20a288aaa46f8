use Rattle.uc_top.proofs.ModelledAnswers.{found_symbols, found_rows, modelled}
use Rattle.uc_top.proofs.modelling.modelled_answer.Goals as goal

pub searched_answer-requires-clause-symbols : goal.searched_answer-requires-clause-symbols
searched_answer-requires-clause-symbols c = found_symbols c.args.symbols.now c.args.problem.now c.args.command.now.size c.in_ok-searched.searched c.in_ok-searched.ensures.shows c.requires.agrees

pub searched_answer-requires-clause-rows : goal.searched_answer-requires-clause-rows
searched_answer-requires-clause-rows c = found_rows c.args.symbols.now c.args.problem.now c.args.command.now.size c.in_ok-searched.searched c.in_ok-searched.ensures.shows

pub returns : goal.returns
returns c = modelled c.args.symbols.now c.args.command.now c.args.name.now c.args.problem.now c.in_ok-searched.searched c.searched_answer.result c.in_ok-searched.ensures.searches c.searched_answer.ensures
