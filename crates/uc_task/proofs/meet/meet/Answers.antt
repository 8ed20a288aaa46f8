use Rattle.std.proofs.Common.{map, ap, ◌∙◌}
use Rattle.uc_shelf.specs.Entries.{live}
use Rattle.uc_shelf.specs.Lending.{lent_of}
use Rattle.uc_task.proofs.Results.{stale_result, met_result}
use Rattle.uc_task.proofs.meet.meet.Goals as goal

pub returns-in-Some : goal.returns-in-Some
returns-in-Some g c axioms =
    let seen = ap (map lent_of) c.as_slice.ensures.value ∙ c.in_ok-facts.ensures ∙ ap live c.view.ensures in
    stale_result (g.O.Order.meaning c.args.order.now) axioms c.args.front.now.entries c.args.number c.fact-fact.result.now c.in_ok-own.own c.fact-fact.ensures c.in_ok-own.ensures (map lent_of c.as_slice.result.now) c.in_ok-other.field-0 c.in-Some.other seen c.in-Some.is c.in_ok-other.ensures

pub returns : goal.returns
returns g c axioms =
    let one = ap (map lent_of) c.as_slice.ensures.value ∙ c.in_ok-facts.ensures ∙ ap live c.view.ensures in
    let two = ap (map lent_of) c.as_slice-2.ensures.value ∙ c.in_ok-facts.ensures ∙ ap live c.view.ensures in
    let three = ap (map lent_of) c.as_slice-3.ensures.value ∙ c.in_ok-facts.ensures ∙ ap live c.view.ensures in
    met_result (g.O.Order.meaning c.args.order.now) axioms c.args.front.now.entries c.args.number c.fact-fact.result.now c.in_ok-own.own c.fact-fact.ensures c.in_ok-own.ensures (map lent_of c.as_slice.result.now) (map lent_of c.as_slice-2.result.now) (map lent_of c.as_slice-3.result.now) c.in_ok-other.field-0 c.in_ok-kills.kills c.in_ok-overlaps.overlaps one two three c.in_default.is c.in_ok-other.ensures (c.in_ok-kills.ensures c.args.front.now.entries) (c.in_ok-overlaps.ensures c.args.front.now.entries)
