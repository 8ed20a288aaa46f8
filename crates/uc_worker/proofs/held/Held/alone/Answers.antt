use Rattle.std.proofs.Common.{◌≡◌, ◌+◌, ◌≤◌, Some, sym, ap, ◌∙◌, arith}
use Rattle.uc_book.specs.Openings.{opening_of}
use Rattle.uc_worker.specs.Commits.{commits_of}
use Rattle.uc_search.proofs.Units.{alone_counted}
use Rattle.uc_worker.proofs.Totals.{first_more}
use Rattle.uc_worker.proofs.Others.{rises}
use Rattle.uc_worker.proofs.Kept.{units_stay}
use Rattle.uc_worker.proofs.held.Held.alone.Goals as goal

pub invariant_of-self : goal.invariant_of-self
invariant_of-self g c =
    let b = c.self.inside.book in
    let n = c.work_alone-ended.new.book in
    let p = c.hand.inside.pass in
    let low : p.commits ≤ commits_of b.state.history = (let a = c.hand.invariant.1 in let t = c.self.invariant.2 in let l = c.audit.ensures.bound in omega arith) in
    let r = rises (g.O.Order.meaning b.order) (opening_of b.opening) p c.work_alone-ended.new.pass b.state c.work_alone-ended.result n.state c.work_alone-ended.ensures.ended c.work_alone-ended.ensures.count low c.has_few_commits.ensures in
    let more = r.more in
    let hand : c.work_alone-ended.new.pass.commits ≡ p.commits + more = r.hand in
    let book : commits_of n.state.history ≡ commits_of b.state.history + more = r.all in
    let before = c.commits-before.ensures in
    let after = c.commits.ensures in
    let t = c.self.invariant.2 in
    let same = c.audit.ensures.total in
    let plus = c.add.ensures.total in (
      c.work_alone-ended.ensures.book.opening ∙ c.self.invariant.0,
      ap Some c.work_alone-ended.ensures.book.order ∙ c.self.invariant.1,
      omega arith,
      first_more g.K.Ledger.parts p.worker more b.state.history n.state.history r.one c.hand.invariant.3 c.self.invariant.3,
      units_stay c.self.inside.rounds.total b.state n.state c.self.invariant.4 (alone_counted (g.O.Order.meaning b.order) (opening_of b.opening) p.worker b.state c.work_alone-ended.result n.state c.work_alone-ended.ensures.ended),
    )

pub returns-clause-commits : goal.returns-clause-commits
returns-clause-commits g c =
    let b = c.self.inside.book in
    let n = c.work_alone-ended.new.book in
    let p = c.hand.inside.pass in
    let low : p.commits ≤ commits_of b.state.history = (let a = c.hand.invariant.1 in let t = c.self.invariant.2 in let l = c.audit.ensures.bound in omega arith) in
    let r = rises (g.O.Order.meaning b.order) (opening_of b.opening) p c.work_alone-ended.new.pass b.state c.work_alone-ended.result n.state c.work_alone-ended.ensures.ended c.work_alone-ended.ensures.count low c.has_few_commits.ensures in
    let more = r.more in
    let hand : c.work_alone-ended.new.pass.commits ≡ p.commits + more = r.hand in
    let book : commits_of n.state.history ≡ commits_of b.state.history + more = r.all in
    rw (sym c.self.view_is, sym c.hand.view_is) (omega arith)

pub returns-clause-counted : goal.returns-clause-counted
returns-clause-counted g c =
    let b = c.self.inside.book in
    let n = c.work_alone-ended.new.book in
    rw (sym c.self.view_is) (alone_counted (g.O.Order.meaning b.order) (opening_of b.opening) c.hand.inside.pass.worker b.state c.work_alone-ended.result n.state c.work_alone-ended.ensures.ended)
