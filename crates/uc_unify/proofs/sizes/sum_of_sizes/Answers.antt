use Rattle.std.proofs.Common.{get_or, refl, sym, arith, subst}
use Rattle.uc_unify.specs.Closure.{class}
use Rattle.uc_unify.specs.Solutions.{IsSizeAt}
use Rattle.uc_unify.proofs.Sizing.{summing_start, summing_end, summing_more, stuck, known_size, part_small, place_in, many}
use Rattle.uc_unify.proofs.sizes.sum_of_sizes.Goals as goal

pub loop-init : goal.loop-init
loop-init c = summing_start c.args.nodes.now c.args.classes.now c.requires.whole c.requires.small c.requires.classes c.args.sizes.now c.requires.sized c.args.place c.args.count c.requires.symbol c.requires.stands

pub returns-then-part-eq0 : goal.returns-then-part-eq0
returns-then-part-eq0 c = stuck c.args.nodes.now c.args.classes.now c.requires.whole c.requires.small c.requires.classes c.args.sizes.now c.requires.sized c.args.place c.args.count c.requires.symbol c.requires.stands c.loop.counter c.loop.size c.loop.place c.loop.invariant c.loop-test.true c.if-part-eq0.true

pub overflow_add-size : goal.overflow_add-size
overflow_add-size c =
    let s = known_size c.args.nodes.now c.args.classes.now c.requires.whole c.requires.small c.requires.classes c.args.sizes.now c.requires.sized c.args.place c.args.count c.requires.symbol c.requires.stands c.loop.counter c.loop.size c.loop.place c.loop.invariant c.loop-test.true (get_or c.args.sizes.now (class c.args.classes.now c.loop.place) 0) refl c.if-part-eq0.false in
    let p = part_small c.args.nodes.now c.args.classes.now c.requires.whole c.requires.small c.requires.classes c.args.sizes.now c.requires.sized c.args.place c.args.count c.requires.symbol c.requires.stands c.loop.counter c.loop.size c.loop.place c.loop.invariant c.loop-test.true (get_or c.args.sizes.now (class c.args.classes.now c.loop.place) 0) s in
    let m = many c.args.nodes.now c.args.classes.now c.requires.whole c.requires.small c.requires.classes c.args.sizes.now c.requires.sized c.args.place c.args.count c.requires.symbol c.requires.stands in
    omega (arith, c.loop.invariant.small.1)

pub bounds-ends-place : goal.bounds-ends-place
bounds-ends-place c = let h = place_in c.args.nodes.now c.args.classes.now c.requires.whole c.requires.small c.requires.classes c.args.sizes.now c.requires.sized c.args.place c.args.count c.requires.symbol c.requires.stands c.loop.counter c.loop.size c.loop.place c.loop.invariant c.loop-test.true in omega (arith, c.requires.ends.long)

pub loop-preserved : goal.loop-preserved
loop-preserved c =
    let s = known_size c.args.nodes.now c.args.classes.now c.requires.whole c.requires.small c.requires.classes c.args.sizes.now c.requires.sized c.args.place c.args.count c.requires.symbol c.requires.stands c.loop.counter c.loop.size c.loop.place c.loop.invariant c.loop-test.true (get_or c.args.sizes.now (class c.args.classes.now c.loop.place) 0) refl c.if-part-eq0.false in
    summing_more c.args.nodes.now c.args.classes.now c.requires.whole c.requires.small c.requires.classes c.args.sizes.now c.requires.sized c.args.place c.args.count c.requires.symbol c.requires.stands c.loop.counter c.loop.size c.loop.place c.loop.invariant c.loop-test.true (get_or c.args.sizes.now (class c.args.classes.now c.loop.place) 0) (get_or c.args.ends.now c.loop.place 0) s (c.requires.ends.ends_are c.loop.place (omega arith) (place_in c.args.nodes.now c.args.classes.now c.requires.whole c.requires.small c.requires.classes c.args.sizes.now c.requires.sized c.args.place c.args.count c.requires.symbol c.requires.stands c.loop.counter c.loop.size c.loop.place c.loop.invariant c.loop-test.true))

pub returns : goal.returns
returns c = subst (IsSizeAt c.args.nodes.now c.args.classes.now c.args.sizes.now c.args.place) (sym c.min.ensures) (summing_end c.args.nodes.now c.args.classes.now c.requires.whole c.requires.small c.requires.classes c.args.sizes.now c.requires.sized c.args.place c.args.count c.requires.symbol c.requires.stands c.loop.counter c.loop.size c.loop.place c.loop.invariant c.loop-test.false)
