use Rattle.std.proofs.Common.{Some, sym, ap, ◌∙◌}
use Rattle.uc_search.proofs.Counting.{close_commits}
use Rattle.uc_search.proofs.Units.{close_counted}
use Rattle.uc_worker.proofs.Totals.{commits_same, first_same}
use Rattle.uc_worker.proofs.Kept.{units_stay}
use Rattle.uc_worker.proofs.held.Held.close.Goals as goal

pub invariant_of-self : goal.invariant_of-self
invariant_of-self g c =
    let b = c.self.inside.book in
    let n = c.close.new.self in
    let e = close_commits b.state c.args.outcome.now c.close.result n.state c.close.ensures.closed in (
      c.close.ensures.book.opening ∙ c.self.invariant.0,
      ap Some c.close.ensures.book.order ∙ c.self.invariant.1,
      c.self.invariant.2 ∙ sym (commits_same n.state.history b.state.history e),
      first_same g.K.Ledger.parts b.state.history n.state.history e c.self.invariant.3,
      units_stay c.self.inside.rounds.total b.state n.state c.self.invariant.4 (close_counted b.state c.args.outcome.now c.close.result n.state c.close.ensures.closed),
    )
