use Rattle.std.proofs.Common.{subst}
use Rattle.uc_machine.specs.Runs.{Run}
use Rattle.uc_book.specs.Openings.{opening_of}
use Rattle.uc_worker.specs.Commits.{AreOfFirst}
use Rattle.uc_worker.proofs.Ending.{ended}
use Rattle.uc_worker.proofs.searching.has_ended.Goals as goal

pub returns-clause-ended : goal.returns-clause-ended
returns-clause-ended g c =
    let h = c.args.held.now in
    let m = g.O.Order.meaning h.order in
    ended m (opening_of h.opening) h.state c.requires.verdict c.requires.none_out (subst (λ e. Run m (opening_of h.opening) e h.state) c.history.ensures.events c.history.ensures.run)

pub returns-clause-first : goal.returns-clause-first
returns-clause-first g c = subst (AreOfFirst g.K.Ledger.parts) c.history.ensures.events c.history.ensures.first
