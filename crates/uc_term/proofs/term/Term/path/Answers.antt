use Rattle.std.proofs.Common.{◌≡◌, ℕ, ◌+◌, ◌-◌, ◌<◌, ◌≤◌, List, length, ap, ◌∙◌, subst, arith}
use Rattle.uc_term.specs.declared.node.Node.{Node}
use Rattle.uc_term.specs.declared.node.Node.TheVariants.{Var}
use Rattle.uc_term.proofs.Terms.{whole_one, length-flat}
use Rattle.uc_term.proofs.Upwards.{Climbing, climbing_starts, climbing_goes_on, climbed, between_small, here}
use Rattle.uc_term.proofs.term.Term.path.Goals as goal

-- the node that is read stands before where the walk is
before : (ns : List Node) (pos place between : ℕ) (noted : List ℕ) → 0 < place → Climbing ns pos place between noted → Climbing ns pos (place - 1 + 1) between noted
before ns pos place between noted h g = subst (λ (k : ℕ). Climbing ns pos k between noted) (let e : place ≡ place - 1 + 1 = omega arith in e) g

pub loop-place-init : goal.loop-place-init
loop-place-init c = climbing_starts c.as_nodes-list.result.now (whole_one c.as_nodes-list.result.now c.as_nodes-list.ensures.whole) c.args.pos.0 (omega (arith, ap length c.as_nodes-list.ensures.value, length-flat c.args.self.now, c.requires)) c.new-upwards.result.items c.new-upwards.ensures.items

pub bounds-list-place : goal.bounds-list-place
bounds-list-place c =
    here c.as_nodes-list.result.now (whole_one c.as_nodes-list.result.now c.as_nodes-list.ensures.whole) c.args.pos.0 (omega (arith, ap length c.as_nodes-list.ensures.value, length-flat c.args.self.now, c.requires)) (c.loop-place.place - 1) c.loop-place.between c.loop-place.upwards.items c.loop-place.upwards.items 0 (Var 0) (before c.as_nodes-list.result.now c.args.pos.0 c.loop-place.place c.loop-place.between c.loop-place.upwards.items c.loop-place-test.true c.loop-place.invariant)

pub offset_bounds-list-place : goal.offset_bounds-list-place
offset_bounds-list-place c = let h = bounds-list-place c in omega (arith, c.as_nodes-list.ensures.short)

pub step_up-requires : goal.step_up-requires
step_up-requires c =
    let h = between_small c.as_nodes-list.result.now (whole_one c.as_nodes-list.result.now c.as_nodes-list.ensures.whole) c.args.pos.0 (omega (arith, ap length c.as_nodes-list.ensures.value, length-flat c.args.self.now, c.requires)) (c.loop-place.place - 1) c.loop-place.between c.loop-place.upwards.items c.loop-place.upwards.items 0 (Var 0) (before c.as_nodes-list.result.now c.args.pos.0 c.loop-place.place c.loop-place.between c.loop-place.upwards.items c.loop-place-test.true c.loop-place.invariant) in
    omega (arith, c.as_nodes-list.ensures.short)

pub loop-place-preserved : goal.loop-place-preserved
loop-place-preserved c =
    climbing_goes_on c.as_nodes-list.result.now (whole_one c.as_nodes-list.result.now c.as_nodes-list.ensures.whole) c.args.pos.0 (omega (arith, ap length c.as_nodes-list.ensures.value, length-flat c.args.self.now, c.requires)) (c.loop-place.place - 1) c.loop-place.between c.loop-place.upwards.items c.step_up.new.upwards.items c.in_ok-between.between _ (before c.as_nodes-list.result.now c.args.pos.0 c.loop-place.place c.loop-place.between c.loop-place.upwards.items c.loop-place-test.true c.loop-place.invariant) c.in_ok-between.ensures

at_start : (ns : List Node) (pos place between : ℕ) (noted : List ℕ) → place ≤ 0 → Climbing ns pos place between noted → Climbing ns pos 0 between noted
at_start ns pos place between noted h g = subst (λ (k : ℕ). Climbing ns pos k between noted) (let e : place ≡ 0 = omega arith in e) g

pub returns : goal.returns
returns c = climbed c.as_nodes-list.result.now c.args.self.now c.args.pos.0 c.loop-place.between c.loop-place.upwards.items c.from_vec.result c.as_nodes-list.ensures.value (c.from_vec.ensures ∙ c.reverse.ensures.items) (at_start c.as_nodes-list.result.now c.args.pos.0 c.loop-place.place c.loop-place.between c.loop-place.upwards.items c.loop-place-test.false c.loop-place.invariant)
