use Rattle.std.proofs.Common.{arith, rules, ◌≤◌, ◌≡◌, length}
use Rattle.uc_order.proofs.Counts.{counted_below}
use Rattle.uc_order.proofs.precedence.count_symbols.Goals as goal

pub overflow_add-index_mut : goal.overflow_add-index_mut
overflow_add-index_mut c =
    let x = c.index_mut.result.now in
    let long : length c.loop-i.counts.items ≡ c.bound_of.result = search rules in
    let le : x ≤ c.loop-i.i = counted_below c.args.list.now c.loop-i.i c.bound_of.result x c.loop-i.counts.items (record { 0 = 0 }) c.loop-i-test.true c.bound_of.ensures long c.loop-i.invariant.1 (search (rules, c.index_mut.ensures.value)) in
    omega arith
