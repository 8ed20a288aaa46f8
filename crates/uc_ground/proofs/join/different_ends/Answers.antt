use Rattle.std.proofs.Common.{refl}
use Rattle.uc_ground.proofs.join.different_ends.Goals as goal

pub returns-then-same : goal.returns-then-same
returns-then-same g c = record {
  end = c.in_ok-right.field-0.term;
  left_comes = record { normal = c.in_ok-left.field-0; normal_is = c.in_ok-left.ensures.normal; end_is = c.same.ensures.0 c.if-same.true };
  right_comes = record { normal = c.in_ok-right.field-0; normal_is = c.in_ok-right.ensures.normal; end_is = refl };
}
