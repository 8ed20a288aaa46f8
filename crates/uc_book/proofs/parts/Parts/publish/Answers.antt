use Rattle.std.proofs.Common.{◌∙◌, ap}
use Rattle.uc_shelf.specs.Sights.{Sight}
use Rattle.uc_book.proofs.Publishing.{published}
use Rattle.uc_book.proofs.parts.Parts.publish.Goals as goal

pub returns-clause-state : goal.returns-clause-state
returns-clause-state c = λ f e. published c.args.self.now c.adopt.new.self c.wake.new.self f (ap (λ (x : Sight). x.entries) c.adopt.ensures.front ∙ e) c.adopt.ensures.meetings c.wake.ensures
