use Rattle.std.proofs.Common.{◌≡◌, ℕ, ◌+◌, ◌<◌, Some, sym, ap, ◌∙◌, arith}
use Rattle.uc_worker.specs.Commits.{commits_of}
use Rattle.uc_machine.specs.Events.{commits_by}
use Rattle.uc_book.specs.Openings.{BookView, opening_of}
use Rattle.uc_worker.proofs.Totals.{commits_same, commits_more, first_same, first_more}
use Rattle.uc_search.proofs.Units.{commits_counted}
use Rattle.uc_worker.proofs.Others.{one_commits}
use Rattle.uc_worker.proofs.Kept.{units_stay}
use Rattle.uc_worker.proofs.held.Held.commit.Goals as goal

pub invariant_of-self-2 : goal.invariant_of-self-2
invariant_of-self-2 g c =
    let b = c.self.inside.book in
    let n = c.commit.new.self in
    let d = c.in_ok-receipt.ensures.committed in
    let m = one_commits (opening_of b.opening) d.task c.args.done.found b.state n.state d.commits in
    let more : commits_of n.state.history ≡ commits_of b.state.history + 1 = commits_more d.task.worker 1 b.state.history n.state.history m in
    let few : d.task.worker < g.K.Ledger.parts = rw d.out.worker c.hand.invariant.3 in
    let before = c.self.invariant.2 in
    let one = c.add.ensures.total in
    let same = c.audit.ensures.total in (
      c.in_ok-receipt.ensures.book.opening ∙ c.self.invariant.0,
      ap Some c.in_ok-receipt.ensures.book.order ∙ c.self.invariant.1,
      omega arith,
      first_more g.K.Ledger.parts d.task.worker 1 b.state.history n.state.history m few c.self.invariant.3,
      units_stay c.self.inside.rounds.total b.state n.state c.self.invariant.4 (commits_counted (opening_of b.opening) d.task c.args.done.found b.state n.state d.commits),
    )

pub returns-clause-commits : goal.returns-clause-commits
returns-clause-commits g c =
    let b = c.self.inside.book in
    let n = c.commit.new.self in
    let d = c.in_ok-receipt.ensures.committed in
    rw (sym c.self.view_is) (commits_more d.task.worker 1 b.state.history n.state.history (one_commits (opening_of b.opening) d.task c.args.done.found b.state n.state d.commits))

pub invariant_of-self : goal.invariant_of-self
invariant_of-self g c =
    let b = c.self.inside.book in
    let n = c.commit.new.self in
    let e : (w : ℕ) → commits_by w n.state.history ≡ commits_by w b.state.history = λ w. ap (λ (v : BookView _). commits_by w v.state.history) c.in_err-receipt.ensures.err.0 in (
      c.in_err-receipt.ensures.book.opening ∙ c.self.invariant.0,
      ap Some c.in_err-receipt.ensures.book.order ∙ c.self.invariant.1,
      c.audit.ensures.total ∙ c.self.invariant.2 ∙ sym (commits_same n.state.history b.state.history e),
      first_same g.K.Ledger.parts b.state.history n.state.history e c.self.invariant.3,
      units_stay c.self.inside.rounds.total b.state n.state c.self.invariant.4 (let f : n.state.counted ≡ b.state.counted = ap (λ (v : BookView _). v.state.counted) c.in_err-receipt.ensures.err.0 in omega arith),
    )
