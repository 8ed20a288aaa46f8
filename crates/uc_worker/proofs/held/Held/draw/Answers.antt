use Rattle.std.proofs.Common.{Some, IfOk, IfSome, sym, ap, ◌∙◌, subst}
use Rattle.uc_machine.specs.Runs.{Run}
use Rattle.uc_book.specs.Openings.{opening_of}
use Rattle.uc_book.specs.Answers.{reply_of}
use Rattle.uc_worker.specs.Hands.{HandView}
use Rattle.uc_worker.specs.Works.{WasAnswered}
use Rattle.uc_worker.proofs.Totals.{commits_same, first_same}
use Rattle.uc_worker.proofs.Kept.{drawn_commits, draw_keeps_units, units_stay}
use Rattle.uc_worker.proofs.Answered.{answered}
use Rattle.uc_worker.proofs.held.Held.draw.Goals as goal

pub returns-clause-answered : goal.returns-clause-answered
returns-clause-answered g c =
    let b = c.self.inside.book in
    let m = g.O.Order.meaning b.order in
    let run = subst (λ h. Run m (opening_of b.opening) h b.state) c.history.ensures.events c.history.ensures.run in
    subst (λ w. IfOk c.draw.result (λ d. IfSome g.K.NamesOrder.order (λ o. WasAnswered (g.O.Order.meaning o) (opening_of g.K.Naming.opening) w (reply_of w d)))) (ap (λ (h : HandView). h.worker) c.hand.view_is)
    (answered g.O.Order.meaning g.K.NamesOrder.order g.K.Naming.opening b c.draw.new.self c.hand.inside.pass.worker c.draw.result c.self.invariant.0 c.self.invariant.1 run c.draw.ensures.drawn)

pub invariant_of-self : goal.invariant_of-self
invariant_of-self g c =
    let b = c.self.inside.book in
    let n = c.draw.new.self in
    let e = drawn_commits (opening_of b.opening) c.hand.inside.pass.worker b n c.draw.result c.draw.ensures.drawn c.draw.ensures.err in (
      c.draw.ensures.book.opening ∙ c.self.invariant.0,
      ap Some c.draw.ensures.book.order ∙ c.self.invariant.1,
      c.self.invariant.2 ∙ sym (commits_same n.state.history b.state.history e),
      first_same g.K.Ledger.parts b.state.history n.state.history e c.self.invariant.3,
      units_stay c.self.inside.rounds.total b.state n.state c.self.invariant.4 (draw_keeps_units (opening_of b.opening) c.hand.inside.pass.worker b n c.draw.result c.draw.ensures.drawn c.draw.ensures.err),
    )
