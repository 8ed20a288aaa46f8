use Rattle.std.proofs.Common.{◌≡◌, arith}
use Rattle.std.proofs.lemmas.Bool.Decides.{nat_tests}
use Rattle.uc_book.specs.Openings.{opening_of}
use Rattle.uc_worker.proofs.OneWorker.{by_many}
use Rattle.uc_worker.proofs.searched.search.Goals as goal

pub returns-clause-searched : goal.returns-clause-searched
returns-clause-searched g c =
    let many : c.args.workers ≡ 1 → ⊥ = (λ e. (let b = c.if-workers-eq1.false in absurd (grind (arith, nat_tests)))) in
    rw c.with_verdict.ensures.book (by_many (g.O.Order.meaning c.args.order.now) (opening_of c.in_ok-book.book.opening) c.args.workers c.with_verdict.result.verdict c.in_ok-book.book.state c.in_ok-book.shares.items many c.in_ok-book.ensures.ended c.with_verdict.ensures.verdict c.in_ok-book.ensures.shares c.in_ok-book.ensures.sum)
