use Rattle.uc_order.specs.Remembered.{Compares}
use Rattle.uc_order.proofs.Remembered.{all_more}
use Rattle.uc_order.proofs.remembering.Remembering.remember.Goals as goal

pub invariant_of-self-2 : goal.invariant_of-self-2
invariant_of-self-2 g c = all_more (λ p. Compares (g.O.Order.meaning c.self.inside.order.now) p.left p.right p.cmp) c.self.inside.pairs.items c.push.new.self.items c.in_ok-comparison_of.field-0 c.in_ok-push.ensures.items c.self.invariant c.in_ok-comparison_of.ensures
