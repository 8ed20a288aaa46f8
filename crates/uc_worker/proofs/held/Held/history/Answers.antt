use Rattle.std.proofs.Common.{ap, ◌∙◌}
use Rattle.uc_machine.specs.Events.{commits_by}
use Rattle.uc_worker.proofs.held.Held.history.Goals as goal

pub returns-clause-first : goal.returns-clause-first
returns-clause-first g c = λ w l. ap (commits_by w) c.history.ensures.events ∙ c.self.invariant.3 w l
