use Rattle.std.proofs.Common.{sym, ap, ◌∙◌, [], ◌∷◌}
use Rattle.uc_book.specs.Openings.{BookView, opening_of}
use Rattle.uc_worker.proofs.OneWorker.{by_worker, one_share}
use Rattle.uc_worker.proofs.Starting.{starts_none_out}
use Rattle.uc_worker.proofs.searched.search_by_one.Goals as goal

pub search_alone-requires-clause-none_out : goal.search_alone-requires-clause-none_out
search_alone-requires-clause-none_out g c κs within = rw c.in_ok-pass.ensures.book (starts_none_out (opening_of c.in_ok-book.book.opening) c.in_ok-book.book.state c.in_ok-book.ensures.starts)

pub returns-clause-searched : goal.returns-clause-searched
returns-clause-searched g c = by_worker (g.O.Order.meaning c.in_ok-book.book.order) (g.O.Order.meaning c.args.order.now) (opening_of c.in_ok-book.book.opening) (opening_of c.search_alone.new.book.opening) c.in_ok-pass.pass.worker c.in_ok-book.book.state c.search_alone.new.book.state c.in_ok-verdict.verdict (ap g.O.Order.meaning c.in_ok-book.ensures.order) (ap opening_of (sym (rw c.in_ok-pass.ensures.book at c.in_ok-verdict.ensures.book.opening))) c.in_ok-pass.ensures.worker c.in_ok-book.ensures.starts (rw c.in_ok-pass.ensures.book at c.in_ok-verdict.ensures.searched)

pub returns-clause-shares : goal.returns-clause-shares
returns-clause-shares g c =
    let share = one_share c.in_ok-pass.pass c.search_alone.new.pass c.in_ok-book.book.state c.enroll.new.self.state c.search_alone.new.book.state (opening_of c.in_ok-book.book.opening) c.in_ok-pass.ensures.worker c.in_ok-pass.ensures.commits c.in_ok-verdict.ensures.pass.worker (ap (λ (b : BookView _). b.state) c.in_ok-pass.ensures.book) c.in_ok-book.ensures.starts c.in_ok-verdict.ensures.count in
    rw (c.in_ok-push.ensures.items, c.new-shares.ensures.items) (ap (λ n. n ∷ []) (c.commits.ensures ∙ share))
