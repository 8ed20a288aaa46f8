use Rattle.uc_top.proofs.ListedAnswers.{listed, unlisted}
use Rattle.uc_top.proofs.listing.listed_answer.Goals as goal

pub returns-in-Ok : goal.returns-in-Ok
returns-in-Ok c = listed c.args.listing c.args.symbols.now c.args.words.now c.args.problem.now c.in-Ok.spec c.lines_answer.result c.in-Ok.ensures.ok c.lines_answer.ensures

pub returns-in-Err : goal.returns-in-Err
returns-in-Err c = unlisted c.args.listing c.args.symbols.now c.args.words.now c.args.problem.now c.in-Err.fault c.choice_answer.result c.in-Err.ensures.err c.choice_answer.ensures.answer c.choice_answer.ensures.not_memory
