use Rattle.std.proofs.Common.{Result, Ok, Err, OnOk, subst}
use Rattle.uc_term.specs.declared.equation.Side.TheVariants.{Left, Right}
use Rattle.uc_fact.specs.Live.{Rule}
use Rattle.uc_pair.specs.Overlapping.{read_from}
use Rattle.uc_pair.specs.Listing.{Lists}
use Rattle.uc_pair.specs.Reading.{rule_read}
use Rattle.uc_pair.specs.Adding.{Adds}
use Rattle.uc_pair.proofs.Listed.{adds_each, none_each}
use Rattle.uc_pair.proofs.listing.add_outer.Goals as goal

on_ok : {A E : Type 0} (P Q : Type 0) → (P → Q) → (r : Result A E) → OnOk r P → OnOk r Q
on_ok P Q f (Ok a) p = f p
on_ok P Q f (Err e) p = tt

pub returns-then-outer : goal.returns-then-outer
returns-then-outer g c = none_each (g.O.Order.meaning c.args.order.now) (g.met.O.Order.laws c.args.order.now) (rule_read c.args.outer.now) (read_from c.args.inner Left c.args.b.now) (read_from c.args.inner Right c.args.b.now) c.args.list.now.items (c.requires.told.never.0 c.if-outer.true)

pub returns : goal.returns
returns g c =
    let G = (g.O.Order.meaning c.args.order.now).greater in
    let old = c.args.list.now.items in
    let mid = c.add_inner.new.list.items in
    let new = c.add_inner-2.new.list.items in
    let outer = rule_read c.args.outer.now in
    let left = read_from c.args.inner Left c.args.b.now in
    let right = read_from c.args.inner Right c.args.b.now in
    on_ok (Adds (Lists G outer (rule_read c.told-right.result) 0) mid new) _
    (λ second. adds_each (g.O.Order.meaning c.args.order.now) outer left right old mid new
    (subst (λ (r : Rule). Adds (Lists G outer r 0) old mid) c.told-left.ensures.rule c.in_ok-add_inner.ensures)
    (subst (λ (r : Rule). Adds (Lists G outer r 0) mid new) c.told-right.ensures.rule second))
    c.add_inner-2.result c.add_inner-2.ensures
