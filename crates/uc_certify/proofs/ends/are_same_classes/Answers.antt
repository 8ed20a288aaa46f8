use Rattle.std.proofs.Common.{◌≡◌, ◌<◌, length, arith, sym, ◌∙◌}
use Rattle.std.proofs.lemmas.Slice.Eq.{slice_eq-Decides}
use Rattle.std.proofs.lemmas.Bool.Decides.{Decides-eqb}
use Rattle.uc_certify.proofs.Lists.{of}
use Rattle.uc_certify.proofs.EndsTested.{equal_next}
use Rattle.uc_certify.proofs.ends.are_same_classes.Goals as goal

pub loop-k-preserved : goal.loop-k-preserved
loop-k-preserved c =
    let inside : c.loop-k.k < length c.args.b.now = omega (arith, c.loop-k-test.true, c.if-a-b.false) in
    let same : c.index-a-k.result ≡ c.index-b-k.result = sym c.as_slice.ensures ∙ of c.eq-same.result c.if-not-same.false (slice_eq-Decides Decides-eqb _ _ _ c.eq-same.ensures) ∙ c.as_slice-in-loop-k.ensures in
    equal_next c.args.a.now c.args.b.now c.loop-k.k c.index-a-k.result c.index-b-k.result c.loop-k-test.true inside c.index-a-k.is c.index-b-k.is same c.loop-k.invariant
