use Rattle.std.proofs.Common.{◌<◌, ◌^◌, List, length, sym, ap₂, subst}
use Rattle.uc_term.specs.declared.equation.Equation.{Equation}
use Rattle.uc_fact.specs.declared.fact.System.{System}
use Rattle.uc_order.specs.declared.spec.OrderSpec.{OrderSpec}
use Rattle.uc_certify.specs.declared.certified.Certified.TheVariants.{Yes}
use Rattle.uc_certify.specs.Certifying.{IsCertified}
use Rattle.uc_certify.specs.Making.{AllAreFoundJoined, AreAllMade}
use Rattle.uc_certify.proofs.MadeJoins.{certified_made}
use Rattle.uc_certify.proofs.making.make_certificate.Goals as goal

pub joins_of-requires-clause-few_facts : goal.joins_of-requires-clause-few_facts
joins_of-requires-clause-few_facts g c = subst (λ (es : List Equation). length es < 2 ^ 31) (sym c.as_slice.ensures) c.requires.few_facts

pub joins_of-requires-clause-joined : goal.joins_of-requires-clause-joined
joins_of-requires-clause-joined g c = subst (λ (es : List Equation). AllAreFoundJoined (g.O.Order.meaning c.args.order.now) es c.args.axioms.now) (sym c.as_slice.ensures) c.requires.joined

pub returns-clause-text : goal.returns-clause-text
returns-clause-text g c = ap₂ (λ (x : OrderSpec) (y : System). record { spec = x; system = y }) c.in_ok-copy_spec.ensures c.in_ok-copy_system.ensures

pub returns-clause-joins : goal.returns-clause-joins
returns-clause-joins g c = subst (λ (es : List Equation). AreAllMade (g.O.Order.meaning c.args.order.now) es c.args.axioms.now c.in_ok-joins.joins) c.as_slice.ensures c.in_ok-joins.ensures

pub returns-clause-certified : goal.returns-clause-certified
returns-clause-certified g c clauses encoded ax same right derived =
    let m = g.O.Order.meaning c.args.order.now in
    let made = subst (λ (es : List Equation). AreAllMade m es c.args.axioms.now c.in_ok-joins.joins) c.as_slice.ensures c.in_ok-joins.ensures in
    let own = certified_made m (g.met.O.Order.laws c.args.order.now) c.args.system.now.facts c.args.axioms.now c.requires.facts_over c.requires.axioms_over c.args.spec.now c.args.lines.lines c.args.facts c.in_ok-joins.joins made c.requires.joined clauses encoded ax same right derived in
    subst (λ (x : OrderSpec). IsCertified m clauses encoded (record { text = record { spec = x; system = c.in_ok-copy_system.field-0 }; lines = c.args.lines; facts = c.args.facts; joins = c.in_ok-joins.joins }) Yes) (sym c.in_ok-copy_spec.ensures)
    (subst (λ (y : System). IsCertified m clauses encoded (record { text = record { spec = c.args.spec.now; system = y }; lines = c.args.lines; facts = c.args.facts; joins = c.in_ok-joins.joins }) Yes) (sym c.in_ok-copy_system.ensures) own)
