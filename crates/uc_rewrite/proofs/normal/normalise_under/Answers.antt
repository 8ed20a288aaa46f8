use Rattle.std.proofs.Common.{◌≡◌, IfOk, subst}
use Rattle.std.proofs.lemmas.Result.{IfOk-weaker}
use Rattle.uc_term.specs.Variables.{Occurs}
use Rattle.uc_fact.specs.declared.fact.Stop.TheVariants.{Full}
use Rattle.uc_fact.specs.Live.{equations_of}
use Rattle.uc_fact.specs.Ordered.{OStep, IsIrreducible}
use Rattle.uc_fact.specs.Chains.{Links}
use Rattle.uc_order.specs.VarOrders.{represented}
use Rattle.uc_order.proofs.Respected.{HasOnly-represented}
use Rattle.uc_rewrite.specs.Normalising.{IsNormalOf}
use Rattle.uc_rewrite.proofs.Chaining.{steps_linked, full_irreducible}
use Rattle.uc_rewrite.proofs.normal.normalise_under.Goals as goal

pub normalise_by-requires : goal.normalise_by-requires
normalise_by-requires g c x o = HasOnly-represented c.args.cases.now c.args.term.now c.requires x (subst (Occurs x) c.in_ok-start.ensures o)

pub returns-clause-steps : goal.returns-clause-steps
returns-clause-steps g c = IfOk-weaker c.normalise_by.result (IsNormalOf ((g.O.Order.meaning c.args.order.now).under c.args.cases.now) (g.O.Order.meaning c.args.order.now).least (g.I.Index.live c.args.index.now) c.args.limit (represented c.args.cases.now c.args.term.now)) (λ normal. Links (OStep ((g.O.Order.meaning c.args.order.now).under c.args.cases.now) (g.O.Order.meaning c.args.order.now).least (equations_of (g.I.Index.live c.args.index.now))) (represented c.args.cases.now c.args.term.now) normal.chain.steps normal.term) (λ normal is. steps_linked ((g.O.Order.meaning c.args.order.now).under c.args.cases.now) (g.O.Order.meaning c.args.order.now).least (g.I.Index.live c.args.index.now) c.args.limit (represented c.args.cases.now c.args.term.now) normal is) (subst (λ t. IfOk c.normalise_by.result (IsNormalOf ((g.O.Order.meaning c.args.order.now).under c.args.cases.now) (g.O.Order.meaning c.args.order.now).least (g.I.Index.live c.args.index.now) c.args.limit t)) c.in_ok-start.ensures c.normalise_by.ensures)

pub returns-clause-full : goal.returns-clause-full
returns-clause-full g c = IfOk-weaker c.normalise_by.result (IsNormalOf ((g.O.Order.meaning c.args.order.now).under c.args.cases.now) (g.O.Order.meaning c.args.order.now).least (g.I.Index.live c.args.index.now) c.args.limit (represented c.args.cases.now c.args.term.now)) (λ normal. normal.stop ≡ Full → IsIrreducible ((g.O.Order.meaning c.args.order.now).under c.args.cases.now) (g.O.Order.meaning c.args.order.now).least (equations_of (g.I.Index.live c.args.index.now)) normal.term) (λ normal is. full_irreducible ((g.O.Order.meaning c.args.order.now).under c.args.cases.now) (g.O.Order.meaning c.args.order.now).least (g.I.Index.live c.args.index.now) c.args.limit (represented c.args.cases.now c.args.term.now) normal is) (subst (λ t. IfOk c.normalise_by.result (IsNormalOf ((g.O.Order.meaning c.args.order.now).under c.args.cases.now) (g.O.Order.meaning c.args.order.now).least (g.I.Index.live c.args.index.now) c.args.limit t)) c.in_ok-start.ensures c.normalise_by.ensures)
