use Rattle.std.proofs.Common.{◌≡◌}
use Rattle.std.proofs.lemmas.Result.{IfOk-weaker}
use Rattle.uc_fact.specs.declared.fact.Stop.TheVariants.{Full}
use Rattle.uc_fact.specs.Live.{equations_of}
use Rattle.uc_fact.specs.Ordered.{OStep, IsIrreducible}
use Rattle.uc_fact.specs.Chains.{Links}
use Rattle.uc_rewrite.specs.Normalising.{IsNormalOf}
use Rattle.uc_rewrite.proofs.Chaining.{steps_linked, full_irreducible}
use Rattle.uc_rewrite.proofs.normal.normalise.Goals as goal

pub returns-clause-steps : goal.returns-clause-steps
returns-clause-steps g c = IfOk-weaker c.normalise_by.result (IsNormalOf (g.O.Order.meaning c.args.order.now).greater (g.O.Order.meaning c.args.order.now).least (g.I.Index.live c.args.index.now) c.args.limit c.args.term.now) (λ normal. Links (OStep (g.O.Order.meaning c.args.order.now).greater (g.O.Order.meaning c.args.order.now).least (equations_of (g.I.Index.live c.args.index.now))) c.args.term.now normal.chain.steps normal.term) (λ normal is. steps_linked (g.O.Order.meaning c.args.order.now).greater (g.O.Order.meaning c.args.order.now).least (g.I.Index.live c.args.index.now) c.args.limit c.args.term.now normal is) c.normalise_by.ensures

pub returns-clause-full : goal.returns-clause-full
returns-clause-full g c = IfOk-weaker c.normalise_by.result (IsNormalOf (g.O.Order.meaning c.args.order.now).greater (g.O.Order.meaning c.args.order.now).least (g.I.Index.live c.args.index.now) c.args.limit c.args.term.now) (λ normal. normal.stop ≡ Full → IsIrreducible (g.O.Order.meaning c.args.order.now).greater (g.O.Order.meaning c.args.order.now).least (equations_of (g.I.Index.live c.args.index.now)) normal.term) (λ normal is. full_irreducible (g.O.Order.meaning c.args.order.now).greater (g.O.Order.meaning c.args.order.now).least (g.I.Index.live c.args.index.now) c.args.limit c.args.term.now normal is) c.normalise_by.ensures
