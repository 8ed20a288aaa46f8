use Rattle.std.proofs.Common.{◌≡◌, ℕ, Some, sym, ap, ◌∙◌, arith}
use Rattle.uc_machine.specs.State.{State}
use Rattle.uc_machine.specs.Events.{commits_by}
use Rattle.uc_worker.proofs.Totals.{commits_same, first_same}
use Rattle.uc_worker.proofs.Others.{recall_commits}
use Rattle.uc_worker.proofs.Kept.{recall_keeps_units, units_stay}
use Rattle.uc_worker.proofs.held.Held.recall.Goals as goal

pub invariant_of-self : goal.invariant_of-self
invariant_of-self g c =
    let b = c.self.inside.book in
    let n = c.recall.new.self in
    let e : (w : ℕ) → commits_by w n.state.history ≡ commits_by w b.state.history = λ w. ap (λ (s : State). commits_by w s.history) c.recall.ensures.state ∙ recall_commits b.state w in (
      c.recall.ensures.book.opening ∙ c.self.invariant.0,
      ap Some c.recall.ensures.book.order ∙ c.self.invariant.1,
      c.self.invariant.2 ∙ sym (commits_same n.state.history b.state.history e),
      first_same g.K.Ledger.parts b.state.history n.state.history e c.self.invariant.3,
      units_stay c.self.inside.rounds.total b.state n.state c.self.invariant.4 (let f : n.state.counted ≡ b.state.counted = ap (λ (s : State). s.counted) c.recall.ensures.state ∙ recall_keeps_units b.state in omega arith),
    )
