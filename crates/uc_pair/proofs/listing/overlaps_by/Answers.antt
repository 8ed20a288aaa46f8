use Rattle.std.proofs.Common.{sym, subst}
use Rattle.uc_pair.specs.Listing.{AreOverlaps}
use Rattle.uc_pair.specs.Reading.{rule_read}
use Rattle.uc_pair.proofs.Listed.{are_overlaps, all_are_formed}
use Rattle.uc_pair.proofs.listing.overlaps_by.Goals as goal

pub returns-clause-list : goal.returns-clause-list
returns-clause-list g c =
    subst (AreOverlaps (g.O.Order.meaning c.args.order.now).greater c.args.outer c.args.a.now c.args.inner c.args.b.now) (sym c.from_vec.ensures)
    (are_overlaps (g.O.Order.meaning c.args.order.now) c.args.outer c.args.inner c.args.a.now c.args.b.now (rule_read c.told-left.result) (rule_read c.told-right.result) c.new-list.result.items c.add_outer.new.list.items c.add_outer-2.new.list.items c.told-left.ensures.rule c.told-right.ensures.rule c.new-list.ensures.items c.in_ok-add_outer.ensures c.in_ok-add_outer-2.ensures)

pub returns-clause-formed : goal.returns-clause-formed
returns-clause-formed g c =
    all_are_formed (g.O.Order.meaning c.args.order.now).greater c.args.outer c.args.inner c.args.a.now c.args.b.now c.from_vec.result
    (subst (AreOverlaps (g.O.Order.meaning c.args.order.now).greater c.args.outer c.args.a.now c.args.inner c.args.b.now) (sym c.from_vec.ensures)
    (are_overlaps (g.O.Order.meaning c.args.order.now) c.args.outer c.args.inner c.args.a.now c.args.b.now (rule_read c.told-left.result) (rule_read c.told-right.result) c.new-list.result.items c.add_outer.new.list.items c.add_outer-2.new.list.items c.told-left.ensures.rule c.told-right.ensures.rule c.new-list.ensures.items c.in_ok-add_outer.ensures c.in_ok-add_outer-2.ensures))
