use Rattle.std.proofs.Common.{◌≡◌, arith, sym, subst}
use Rattle.std.specs.Vec.{with_items}
use Rattle.std.proofs.lemmas.List.{with_items_is}
use Rattle.uc_queue.specs.Trees.{AreRight}
use Rattle.uc_queue.proofs.Members.{IsDistinct}
use Rattle.uc_queue.proofs.Queues.{both_right}
use Rattle.uc_queue.proofs.passive.Passive.reserve.Goals as goal

pub invariant_of-self : goal.invariant_of-self
invariant_of-self c = record {
  right = subst (λ es. AreRight es c.self.inside.lightest.items c.self.inside.earliest.items) (sym c.reserve.ensures.items) c.self.invariant.right;
  room = omega arith;
  distinct = subst IsDistinct (sym c.reserve.ensures.items) c.self.invariant.distinct;
  few_draws = c.self.invariant.few_draws;
}

pub invariant_of-self-2 : goal.invariant_of-self-2
invariant_of-self-2 c =
    let l : (with_items c.in_ok-lightest.lightest c.build.new.winners).items ≡ c.build.new.winners = with_items_is c.in_ok-lightest.lightest c.build.new.winners (omega arith) in
    let m : (with_items c.in_ok-earliest.earliest c.build-2.new.winners).items ≡ c.build-2.new.winners = with_items_is c.in_ok-earliest.earliest c.build-2.new.winners (omega arith) in
    record {
      right = both_right c.reserve.new.self.items c.as_slice.result.now c.as_slice-2.result.now (with_items c.in_ok-lightest.lightest c.build.new.winners).items c.build.new.winners (with_items c.in_ok-earliest.earliest c.build-2.new.winners).items c.build-2.new.winners
          c.as_slice.ensures.value c.as_slice-2.ensures.value l m
          (omega (arith, c.in_ok-lightest.ensures.len, c.in_ok-room.ensures.few))
          (omega (arith, c.in_ok-lightest.ensures.len, c.in_ok-earliest.ensures.len))
          (omega (arith, c.in_ok-lightest.ensures.len, c.in_ok-room.ensures.wanted))
          c.build.ensures.right c.build-2.ensures.right;
      room = rw l (omega (arith, c.in_ok-lightest.ensures.len, c.in_ok-reserve.ensures.ok, c.in_ok-room.ensures.wanted));
      distinct = subst IsDistinct (sym c.reserve.ensures.items) c.self.invariant.distinct;
      few_draws = c.self.invariant.few_draws;
    }
