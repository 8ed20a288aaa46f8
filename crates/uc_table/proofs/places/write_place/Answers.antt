use Rattle.std.proofs.Common.{◌≡◌, ◌+◌, ◌-◌, ◌*◌, ◌<◌, ◌^◌, length, drop, arith, subst}
use Rattle.uc_table.specs.Algebras.{place_of}
use Rattle.uc_table.proofs.Lists.{value_written, all_written}
use Rattle.uc_table.proofs.places.write_place.Goals as goal

pub loop-at-preserved : goal.loop-at-preserved
loop-at-preserved c =
    value_written c.args.size (omega (arith, c.requires.some)) c.loop-at.left (c.loop-at.at - 1) c.loop-at.at c.args.place (length c.args.values.now) c.loop-at.values (omega arith) c.loop-at.invariant.0 c.loop-at.invariant.1 c.loop-at.invariant.2 c.loop-at.invariant.3

pub returns-clause-place : goal.returns-clause-place
returns-clause-place c =
    let zero_is : c.loop-at.at ≡ 0 = omega arith in
    let e : c.loop-at.left * c.args.size ^ length c.loop-at.values + place_of c.args.size c.loop-at.values ≡ c.args.place = subst (λ k. c.loop-at.left * c.args.size ^ length (drop k c.loop-at.values) + place_of c.args.size (drop k c.loop-at.values) ≡ c.args.place) zero_is c.loop-at.invariant.2 in
    all_written c.args.size c.loop-at.left c.args.place c.loop-at.values e (subst (λ n. c.args.place < c.args.size ^ n) (omega (arith, c.loop-at.invariant.3)) c.requires.within)
