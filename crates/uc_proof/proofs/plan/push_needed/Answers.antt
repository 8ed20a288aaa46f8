use Rattle.std.proofs.Common.{◌≡◌, true, false, sym, ◌∙◌}
use Rattle.uc_proof.specs.Making.{IsAmong}
use Rattle.uc_proof.proofs.Adding.{adds_one, adds_not}
use Rattle.uc_proof.proofs.plan.push_needed.Goals as goal

pub returns-in_ok-push : goal.returns-in_ok-push
returns-in_ok-push c = adds_one (λ p. IsAmong p c.args.needed.now) c.args.part c.args.plan.now.items c.push.new.self.items (c.has.ensures.0 c.if-has.true) c.in_ok-push.ensures.items

pub returns-else-has : goal.returns-else-has
returns-else-has c = adds_not (λ p. IsAmong p c.args.needed.now) c.args.part c.args.plan.now.items (λ h. let t : true ≡ false = sym (c.has.ensures.1 h) ∙ c.if-has.false in cc)
