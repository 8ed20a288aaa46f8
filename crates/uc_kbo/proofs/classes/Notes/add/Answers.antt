use Rattle.std.proofs.Common.{◌∙◌, ◌-◌, ◌==◌, slice_index, if◌then◌else◌, sym, ap, arith}
use Rattle.uc_order.specs.VarOrders.{first_or}
use Rattle.uc_kbo.proofs.Noting.{one_more, first_is}
use Rattle.uc_kbo.proofs.classes.Notes.add.Goals as goal

pub loop-place-preserved : goal.loop-place-preserved
loop-place-preserved c =
    let class = c.args.class.now in
    let place = c.loop-place.place in
    let some = c.loop-place-test.true in (
      omega arith,
      c.set.ensures.firsts_long,
      c.set.ensures.numbers_long,
      λ x h. one_more class place x (first_or x class) (slice_index c.args.self.now.firsts x) (slice_index c.set.new.self.firsts x) (slice_index c.loop-place.self.firsts x) some c.loop-place.invariant.0 (c.set.ensures.first x h ∙ ap (λ f. if x == slice_index class (place - 1) then f else slice_index c.loop-place.self.firsts x) (sym (first_is x class (omega (arith, c.loop-place.invariant.0, some))))) (c.loop-place.invariant.3 x h),
      λ x h. one_more class place x c.args.number (slice_index c.args.self.now.numbers x) (slice_index c.set.new.self.numbers x) (slice_index c.loop-place.self.numbers x) some c.loop-place.invariant.0 (c.set.ensures.number x h) (c.loop-place.invariant.4 x h),
    )
