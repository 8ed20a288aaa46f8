use Rattle.std.proofs.Common.{refl, ◌∙◌}
use Rattle.uc_book.specs.Openings.{opening_of}
use Rattle.uc_search.specs.Working.{task_out, is_committed}
use Rattle.uc_search.proofs.Passes.{counts_nothing, counts_as}
use Rattle.uc_search.proofs.Moved.{book_state}
use Rattle.uc_search.proofs.Finishing.{ends_back}
use Rattle.uc_search.proofs.working.end_task.Goals as goal

pub returns-in-Ok-clause-turned : goal.returns-in-Ok-clause-turned
returns-in-Ok-clause-turned g c = is_committed c.in-Ok.ensures.commits

pub returns-in-Err-clause-turned : goal.returns-in-Err-clause-turned
returns-in-Err-clause-turned g c =
    let b = c.args.book.now in
    (ends_back (g.O.Order.meaning b.order) (opening_of b.opening) (task_out c.args.pass.now.worker c.args.task.now) b.state c.finish.new.book.state c.put_back.new.book.state (book_state b c.finish.new.book c.in-Err.ensures.err.0) c.requires.out c.put_back.ensures.back).ends

pub returns-in-Err-clause-none_out : goal.returns-in-Err-clause-none_out
returns-in-Err-clause-none_out g c =
    let b = c.args.book.now in
    (ends_back (g.O.Order.meaning b.order) (opening_of b.opening) (task_out c.args.pass.now.worker c.args.task.now) b.state c.finish.new.book.state c.put_back.new.book.state (book_state b c.finish.new.book c.in-Err.ensures.err.0) c.requires.out c.put_back.ensures.back).none_out

pub returns-in-Err-clause-count : goal.returns-in-Err-clause-count
returns-in-Err-clause-count g c =
    let b = c.args.book.now in
    let back = ends_back (g.O.Order.meaning b.order) (opening_of b.opening) (task_out c.args.pass.now.worker c.args.task.now) b.state c.finish.new.book.state c.put_back.new.book.state (book_state b c.finish.new.book c.in-Err.ensures.err.0) c.requires.out c.put_back.ensures.back in
    counts_as c.args.pass.now c.args.pass.now c.args.pass.now c.put_back.new.pass b.state b.state b.state c.put_back.new.book.state refl (c.put_back.ensures.pass ∙ c.in-Err.ensures.err.1) (λ v. refl) back.commits
    (counts_nothing c.args.pass.now b.state c.has_few_commits.ensures.pass c.has_few_commits.ensures.history)
