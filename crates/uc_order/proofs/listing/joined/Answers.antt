use Rattle.std.proofs.Common.{◌∙◌}
use Rattle.uc_order.proofs.Places.{joined_made}
use Rattle.uc_order.proofs.listing.joined.Goals as goal

pub returns : goal.returns
returns c = c.from_classes.ensures ∙ c.from_vec.ensures ∙ joined_made c.args.order.now c.args.i c.args.v c.index-order-i.result c.as_slice.result.now c.in_ok-with.field-0 c.new-classes.result.items c.copy_classes.new.to.items c.push.new.self.items c.copy_classes-2.new.to.items c.requires c.new-classes.ensures.items c.in_ok-copy_classes.ensures (c.as_slice.ensures ∙ c.index-order-i.is) c.in_ok-with.ensures c.in_ok-push.ensures.items c.in_ok-copy_classes-2.ensures
