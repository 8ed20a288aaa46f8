use Rattle.std.proofs.Common.{refl}
use Rattle.std.proofs.lemmas.Option.{slice_get-get_or}
use Rattle.uc_proof.proofs.Same.{same, decides}
use Rattle.uc_proof.proofs.Numbers.{numbered_more}
use Rattle.uc_proof.proofs.plan.numbers.Goals as goal

pub loop-number-preserved : goal.loop-number-preserved
loop-number-preserved c =
    numbered_more same decides c.args.parts.now c.loop-number.number _ _ c.loop-number.numbers.entries c.insert.new.self.entries c.loop-number-test.true refl
    (slice_get-get_or c.args.parts.now c.loop-number.number _ c.loop-number-test.true) c.in_ok-insert.ensures.entries c.loop-number.invariant
