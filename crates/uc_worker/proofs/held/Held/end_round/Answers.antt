use Rattle.std.proofs.Common.{Some, sym, ap, ◌∙◌}
use Rattle.uc_book.specs.Openings.{opening_of}
use Rattle.uc_worker.proofs.Totals.{commits_same, first_same}
use Rattle.uc_worker.proofs.Kept.{round_end_keeps_units, round_counts, units_stay}
use Rattle.uc_worker.proofs.held.Held.end_round.Goals as goal

pub invariant_of-self : goal.invariant_of-self
invariant_of-self g c =
    let b = c.self.inside.book in
    let n = c.end_round.new.book in (
      c.end_round.ensures.book.opening ∙ c.self.invariant.0,
      ap Some c.end_round.ensures.book.order ∙ c.self.invariant.1,
      c.self.invariant.2 ∙ sym (commits_same n.state.history b.state.history c.end_round.ensures.commits),
      first_same g.K.Ledger.parts b.state.history n.state.history c.end_round.ensures.commits c.self.invariant.3,
      units_stay c.self.inside.rounds.total b.state n.state c.self.invariant.4 (round_end_keeps_units (g.O.Order.meaning b.order) (opening_of b.opening) b.state n.state c.end_round.result c.end_round.ensures.ends c.end_round.ensures.err),
    )

pub returns-clause-counted : goal.returns-clause-counted
returns-clause-counted g c =
    let b = c.self.inside.book in
    let n = c.end_round.new.book in
    rw (sym c.self.view_is) (round_counts (g.O.Order.meaning b.order) (opening_of b.opening) b.state n.state c.end_round.result c.end_round.ensures.ends)
