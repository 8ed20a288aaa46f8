use Rattle.std.proofs.Common.{rules, ◌-◌, ◌∙◌, arith}
use Rattle.uc_disc.proofs.Bare.{set_bare}
use Rattle.uc_disc.proofs.Marking.{marks_more}
use Rattle.uc_disc.proofs.build.set_marks.Goals as goal

pub loop-i-preserved : goal.loop-i-preserved
loop-i-preserved c = (search rules, set_bare c.loop-i.places (c.loop-i.i - 1) c.marked-place.result c.marked-place.ensures.same ∙ c.loop-i.invariant.1, marks_more c.loop-i.places (c.loop-i.i - 1) c.marked-place.result c.marked-place.ensures.same (λ j m h e. c.loop-i.invariant.2 j m (omega (arith, h)) e) c.marked-place.ensures.mark)
