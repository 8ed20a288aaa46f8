use Rattle.std.proofs.lemmas.Result.{IfOk-weaker}
use Rattle.uc_book.specs.Openings.{opening_of}
use Rattle.uc_search.specs.Searching.{Searches}
use Rattle.uc_search.specs.Bounds.{CountedSearch}
use Rattle.uc_search.proofs.rounds.search_alone.Goals as goal

pub returns-clause-searched : goal.returns-clause-searched
returns-clause-searched g c =
    let a = c.args.book.now in
    let u = c.search_counting.new.book.state in
    let w = c.args.pass.now.worker in
    IfOk-weaker c.search_counting.result (λ v. CountedSearch (g.O.Order.meaning a.order) (opening_of a.opening) w a.state v u c.none-passes.result c.search_counting.new.passes) (λ v. Searches (g.O.Order.meaning a.order) (opening_of a.opening) w a.state v u)
    (λ v s. s.searches) c.search_counting.ensures.searched
