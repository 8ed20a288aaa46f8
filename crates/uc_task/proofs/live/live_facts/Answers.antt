use Rattle.std.proofs.Common.{◌≡◌, ◌+◌, ◌≤◌, sym, ap, subst, arith}
use Rattle.uc_shelf.specs.Entries.{is_dead}
use Rattle.uc_task.proofs.Fronts.{listed_starts, listed_goes_on, listed_all}
use Rattle.uc_task.proofs.live.live_facts.Goals as goal

pub loop-k-init : goal.loop-k-init
loop-k-init c = listed_starts c.args.front.now.entries c.new-list.result.items c.new-list.ensures.items

pub loop-k-preserved : goal.loop-k-preserved
loop-k-preserved c =
    let es = c.args.front.now.entries in
    let dead : is_dead es c.loop-k.number ≡ c.is_dead.result = sym c.is_dead.ensures in
    listed_goes_on c.args.front.now.entries c.loop-k.k c.loop-k.number (c.loop-k.number + c.births-number.result) c.read-entry.result.now c.loop-k.list.items c.add_living.new.list.items c.read-entry.ensures (ap (λ n. c.loop-k.number + n) c.births-number.ensures.value) (subst (λ n. n ≤ 1) c.births-number.ensures.value c.births-number.ensures.few)
    (c.in_ok-add_living.ensures c.args.front.now.entries dead) c.loop-k.invariant

pub returns : goal.returns
returns c = listed_all c.args.front.now.entries c.loop-k.k c.loop-k.number c.loop-k.list.items (omega (arith, c.loop-k-test.false, c.len-k-end.ensures.value)) c.loop-k.invariant
