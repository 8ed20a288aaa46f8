use Rattle.std.proofs.Common.{Some, sym, ap, ◌∙◌}
use Rattle.uc_book.specs.Openings.{opening_of}
use Rattle.uc_worker.proofs.Totals.{commits_same, first_same}
use Rattle.uc_worker.proofs.Kept.{audited_commits, audit_keeps_units, units_stay}
use Rattle.uc_worker.proofs.held.Held.audit.Goals as goal

pub invariant_of-self : goal.invariant_of-self
invariant_of-self g c =
    let b = c.self.inside.book in
    let n = c.audit.new.self in
    let e = audited_commits (opening_of b.opening) c.args.missing b n c.audit.result c.audit.ensures.audited c.audit.ensures.err in (
      c.audit.ensures.book.opening ∙ c.self.invariant.0,
      ap Some c.audit.ensures.book.order ∙ c.self.invariant.1,
      c.self.invariant.2 ∙ sym (commits_same n.state.history b.state.history e),
      first_same g.K.Ledger.parts b.state.history n.state.history e c.self.invariant.3,
      units_stay c.self.inside.rounds.total b.state n.state c.self.invariant.4 (audit_keeps_units (opening_of b.opening) c.args.missing b n c.audit.result c.audit.ensures.audited c.audit.ensures.err),
    )
