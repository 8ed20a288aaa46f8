use Rattle.std.proofs.Common.{rules, refl, ◌≡◌, ◌<◌, length, arith, ◌∙◌, get_or, length-set, ◌+◌}
use Rattle.uc_kbo.specs.declared.weights.Weighed.{Weighed}
use Rattle.uc_order.proofs.Counts.{each_at}
use Rattle.uc_kbo.proofs.Tables.{tied_more}
use Rattle.uc_kbo.proofs.table.slots_of.Goals as goal

pub loop-i-preserved : goal.loop-i-preserved
loop-i-preserved c =
    let d : Weighed = record { symbol = record { 0 = 0 }; arity = 0; weight = 0 } in
    let e = get_or c.args.entries.now c.loop-i.i d in
    let below = each_at (λ (x : Weighed). x.symbol.0 < c.bound_of.result) c.args.entries.now c.loop-i.i d c.loop-i-test.true c.bound_of.ensures in
    let long_set = length-set c.loop-i.table.items e.symbol.0 (record { arity = e.arity; weight = e.weight; rank = c.loop-i.i + 1 }) in
    let long : length c.loop-i.table.items ≡ c.bound_of.result = search rules in
    (long_set ∙ c.loop-i.invariant.0, tied_more c.args.w0 c.args.entries.now c.loop-i.i e d c.loop-i.table.items c.requires c.loop-i-test.true refl (omega arith) c.loop-i.invariant.1)
