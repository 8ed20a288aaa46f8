use Rattle.std.proofs.Common.{◌+◌, ◌<◌, length, sym, ◌∙◌, subst, arith}
use Rattle.uc_gen.proofs.NormalConstants.{CountedSoFar, one_more, no_more, all_counted, in_get, stays_normal, isnt_normal, constant_ground, has_forms}
use Rattle.uc_gen.proofs.forms.count_forms.Goals.{then-branch, else-branch}
use Rattle.uc_gen.proofs.forms.count_forms.Goals as goal

pub loop-k-preserved : goal.loop-k-preserved
loop-k-preserved g c =
    let m = g.O.Order.meaning c.args.order.now in
    let laws = g.met.O.Order.laws c.args.order.now in
    let es = c.args.system.now.facts in
    let cs = c.args.constants.now in
    let k = c.loop-k.k in
    let so_far = c.loop-k.invariant.counted in
    let inside : k < length cs = omega arith in
    let same = c.new-index.ensures ∙ c.as_slice.ensures in
    elim c.if-branch.branch [
      | then-branch w ↦ record {
        counted = subst (CountedSoFar m es cs (k + 1)) (sym w.count-is) (one_more m es cs k c.loop-k.count _ inside (stays_normal m laws es c.new-index.result.facts.now same _ (c.in_ok-is_normal.ensures.yes w.if-branch.true)) so_far);
        few = omega (arith, w.count-is, c.loop-k.invariant.few);
      }
      | else-branch w ↦ record {
        counted = subst (CountedSoFar m es cs (k + 1)) (sym w.count-is) (no_more m es cs k c.loop-k.count _ inside (isnt_normal m laws es c.new-index.result.facts.now same c.requires.over _ (constant_ground m laws es cs c.requires.lowest _ (in_get cs k _ inside)) (c.in_ok-is_normal.ensures.no w.if-branch.false)) so_far);
        few = omega (arith, w.count-is, c.loop-k.invariant.few);
      }
    ]

pub returns : goal.returns
returns g c = record { forms = has_forms (g.O.Order.meaning c.args.order.now) (g.met.O.Order.laws c.args.order.now) c.args.system.now.facts c.args.constants.now c.requires.lowest c.loop-k.count (all_counted (g.O.Order.meaning c.args.order.now) c.args.system.now.facts c.args.constants.now c.loop-k.k c.loop-k.count c.loop-k-test.false c.loop-k.invariant.counted) }
