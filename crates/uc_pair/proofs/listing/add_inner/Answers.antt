use Rattle.std.proofs.Common.{◌+◌, arith, inr}
use Rattle.uc_pair.specs.Reading.{rule_read}
use Rattle.uc_pair.specs.Listing.{Lists}
use Rattle.uc_pair.proofs.Listed.{adds_none, none_listed, nowhere_listed, listing_starts, listing_goes_on, listing_passes, listing_ends, listed_here, fewer_left}
use Rattle.uc_pair.proofs.listing.add_inner.Goals as goal

pub returns-then-inner : goal.returns-then-inner
returns-then-inner g c =
    adds_none (Lists (g.O.Order.meaning c.args.order.now).greater (rule_read c.args.outer.now) (rule_read c.args.inner.now) 0) c.args.list.now.items
    (none_listed (g.O.Order.meaning c.args.order.now) (rule_read c.args.outer.now) (rule_read c.args.inner.now) (g.met.O.Order.laws c.args.order.now) (inr (c.requires.told.never.0 c.if-inner.true)))

pub returns-in_default : goal.returns-in_default
returns-in_default g c =
    adds_none (Lists (g.O.Order.meaning c.args.order.now).greater (rule_read c.args.outer.now) (rule_read c.args.inner.now) 0) c.args.list.now.items
    (nowhere_listed (g.O.Order.meaning c.args.order.now) (rule_read c.args.outer.now) (rule_read c.args.inner.now) c.in_default.ensures)

pub loop-next-init : goal.loop-next-init
loop-next-init g c = listing_starts (g.O.Order.meaning c.args.order.now) (rule_read c.args.outer.now) (rule_read c.args.inner.now) c.args.list.now.items c.in-Some.first c.in-Some.ensures

pub size_at-requires-clause-fit : goal.size_at-requires-clause-fit
size_at-requires-clause-fit g c = c.loop-next.invariant.fits c.in-Some-next.there c.in-Some-next.is

pub overflow_add-there : goal.overflow_add-there
overflow_add-there g c = let part = (c.loop-next.invariant.fits c.in-Some-next.there c.in-Some-next.is).is_part in omega (arith, part.end_is, part.short)

pub loop-next-smaller : goal.loop-next-smaller
loop-next-smaller g c = fewer_left (g.O.Order.meaning c.args.order.now) (rule_read c.args.outer.now) (rule_read c.args.inner.now) c.in-Some-next.there c.loop-next.next c.next_fit-next.result c.in-Some-next.is (c.loop-next.invariant.fits c.in-Some-next.there c.in-Some-next.is) c.next_fit-next.ensures

pub loop-next-preserved : goal.loop-next-preserved
loop-next-preserved g c =
    let m = g.O.Order.meaning c.args.order.now in
    let outer = rule_read c.args.outer.now in
    let inner = rule_read c.args.inner.now in
    let there = c.in-Some-next.there in
    let old = c.args.list.now.items in
    let fit = c.loop-next.invariant.fits there c.in-Some-next.is in
    listing_passes m outer inner (there.place + 1) old c.add.new.list.items c.next_fit-next.result (omega (arith, fit.is_part.inside)) c.next_fit-next.ensures
    (listing_goes_on m outer inner there.place old c.loop-next.list.items c.add.new.list.items c.in_ok-size.size (listed_here m outer inner there c.loop-next.next old c.loop-next.list.items c.in-Some-next.is c.loop-next.invariant) c.in_ok-size.ensures c.in_ok-add.ensures)

pub returns : goal.returns
returns g c = listing_ends (g.O.Order.meaning c.args.order.now) (rule_read c.args.outer.now) (rule_read c.args.inner.now) c.loop-next.next c.args.list.now.items c.loop-next.list.items c.in_default-next.not-Some c.loop-next.invariant
