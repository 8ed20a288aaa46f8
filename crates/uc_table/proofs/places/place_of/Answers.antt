use Rattle.std.proofs.Common.{◌≡◌, ◌<◌, ◌^◌, take, length, arith, sym}
use Rattle.std.proofs.lemmas.List.{take_all}
use Rattle.uc_table.specs.Algebras.{place_of}
use Rattle.uc_table.proofs.Lists.{place_more, place_below, front_fits}
use Rattle.uc_table.proofs.places.place_of.Goals as goal

pub overflow_mul-place : goal.overflow_mul-place
overflow_mul-place c = let h = front_fits c.args.size c.args.values.now c.loop-value.value-index 0 c.requires.values (omega arith) in rw c.loop-value.invariant (omega (arith, c.requires.small))

pub overflow_add-place : goal.overflow_add-place
overflow_add-place c = let h = front_fits c.args.size c.args.values.now c.loop-value.value-index 0 c.requires.values (omega arith) in rw c.loop-value.invariant (omega (arith, c.requires.small))

pub loop-value-preserved : goal.loop-value-preserved
loop-value-preserved c =
    rw c.loop-value.invariant (sym (place_more c.args.size c.args.values.now c.loop-value.value-index 0 (omega arith)))

pub returns-clause-within : goal.returns-clause-within
returns-clause-within c =
    let whole : take c.loop-value.value-index c.args.values.now ≡ c.args.values.now = take_all c.loop-value.value-index c.args.values.now (omega arith) in
    let below : place_of c.args.size c.args.values.now < c.args.size ^ length c.args.values.now = place_below c.args.size c.args.values.now c.requires.values in
    let e : c.loop-value.place ≡ place_of c.args.size c.args.values.now = rw whole at c.loop-value.invariant in
    omega arith
