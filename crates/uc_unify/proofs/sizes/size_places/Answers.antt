use Rattle.std.proofs.Common.{◌≡◌, ℕ, ◌+◌, ◌-◌, ◌<◌, ◌||◌, Bool, false, List, subst, arith}
use Rattle.uc_term.specs.declared.node.Node.{Node}
use Rattle.uc_unify.specs.Solutions.{IsSizing}
use Rattle.uc_unify.proofs.Passing.{Passing, pass_one}
use Rattle.uc_unify.proofs.sizes.size_places.Goals as goal

on : (ns : List Node) (classes old now new : List ℕ) (any one : Bool) (place : ℕ) → 0 < place → Passing ns classes old now any place → IsSizing ns classes (place - 1) now new one → Passing ns classes old new (one || any) (place - 1)
on ns classes old now new any one place h g s = pass_one ns classes old now new any one (place - 1) (subst (Passing ns classes old now any) (let e : place ≡ place - 1 + 1 = omega arith in e) g) s

pub loop-place-preserved : goal.loop-place-preserved
loop-place-preserved c = record {
  within = let i = c.loop-place.invariant.within in omega arith;
  sized = c.size_place.ensures.sized;
  passing = on c.args.nodes.now c.args.classes.now c.args.sizes.now.items c.loop-place.sizes.items c.size_place.new.sizes.items c.loop-place.any false c.loop-place.place c.loop-place-test.true c.loop-place.invariant.passing c.if-size_place.ensures.outcome;
}
