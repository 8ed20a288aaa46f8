use Rattle.std.proofs.Common.{Some, sym, ap, ◌∙◌}
use Rattle.uc_worker.proofs.Totals.{commits_same, first_same}
use Rattle.uc_worker.proofs.Kept.{reclaimed_commits, reclaim_keeps_units, units_stay}
use Rattle.uc_worker.proofs.held.Held.reclaim.Goals as goal

pub invariant_of-self : goal.invariant_of-self
invariant_of-self g c =
    let b = c.self.inside.book in
    let n = c.reclaim.new.self in
    let e = reclaimed_commits c.hand.inside.pass.worker c.args.ticket b n c.reclaim.result c.reclaim.ensures.reclaimed c.reclaim.ensures.err in (
      c.reclaim.ensures.book.opening ∙ c.self.invariant.0,
      ap Some c.reclaim.ensures.book.order ∙ c.self.invariant.1,
      c.self.invariant.2 ∙ sym (commits_same n.state.history b.state.history e),
      first_same g.K.Ledger.parts b.state.history n.state.history e c.self.invariant.3,
      units_stay c.self.inside.rounds.total b.state n.state c.self.invariant.4 (reclaim_keeps_units c.hand.inside.pass.worker c.args.ticket b n c.reclaim.result c.reclaim.ensures.reclaimed c.reclaim.ensures.err),
    )
