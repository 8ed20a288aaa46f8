use Rattle.std.proofs.Common.{◌≡◌, length, sym, subst, arith}
use Rattle.std.proofs.lemmas.Bool.Decides.{nat_tests}
use Rattle.uc_machine.specs.Lists.{Each}
use Rattle.uc_machine.specs.Origins.{IsKnownOrigin}
use Rattle.uc_final.proofs.Gathered.{no_items, each_take, each_drop, phases_begin, phase_on, phases_end}
use Rattle.uc_final.proofs.testing.missing_among.Goals as goal

pub phases-init : goal.phases-init
phases-init g c = record {
  known = c.requires.known;
  continues = phases_begin (g.O.Order.meaning c.args.order.now) c.args.axioms.now c.args.front.now.entries c.args.origins.now c.new-list.result c.new-list.ensures;
}

pub phase_missing-requires-clause-known : goal.phase_missing-requires-clause-known
phase_missing-requires-clause-known g c =
    let P = IsKnownOrigin (g.O.Order.meaning c.args.order.now) c.args.axioms.now c.args.front.now.entries in
    λ κs within. subst (Each P) (sym c.split_at.ensures.front) (each_take P c.min.result c.phases.rest.now c.phases.invariant.known)

pub phases-preserved : goal.phases-preserved
phases-preserved g c =
    let P = IsKnownOrigin (g.O.Order.meaning c.args.order.now) c.args.axioms.now c.args.front.now.entries in
    record {
      known = subst (Each P) (sym c.split_at.ensures.back) (each_drop P c.min.result c.phases.rest.now c.phases.invariant.known);
      continues = phase_on (g.O.Order.meaning c.args.order.now) c.args.axioms.now c.args.front.now.entries c.args.origins.now c.phases.rest.now c.split_at.result.0.now c.split_at.result.1.now c.phases.list c.in_ok-phase_missing.field-0 c.append.new.self (sym c.split_at.ensures.by_index.0) c.in_ok-append.ensures.ok c.in_ok-phase_missing.ensures c.phases.invariant.continues;
    }

pub returns : goal.returns
returns g c =
    let none : length c.phases.rest.now ≡ 0 = (let a = c.is_empty.ensures in let b = c.phases-test.false in grind (arith, nat_tests)) in
    phases_end (g.O.Order.meaning c.args.order.now) c.args.axioms.now c.args.front.now.entries c.args.origins.now c.phases.rest.now c.phases.list (no_items c.phases.rest.now none) c.phases.invariant.continues
