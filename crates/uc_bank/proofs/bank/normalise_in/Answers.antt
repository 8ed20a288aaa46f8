use Rattle.std.proofs.Common.{◌≡◌}
use Rattle.std.proofs.lemmas.Result.{IfOk-weaker}
use Rattle.uc_fact.specs.declared.fact.Stop.TheVariants.{Full}
use Rattle.uc_fact.specs.Live.{equations_of}
use Rattle.uc_fact.specs.Ordered.{OStep, IsIrreducible}
use Rattle.uc_fact.specs.Chains.{Links}
use Rattle.uc_shelf.specs.Entries.{live}
use Rattle.uc_rewrite.specs.Normalising.{IsNormalOf}
use Rattle.uc_rewrite.proofs.Chaining.{steps_linked, full_irreducible}
use Rattle.uc_bank.proofs.bank.normalise_in.Goals as goal

pub returns-clause-steps : goal.returns-clause-steps
returns-clause-steps g c = IfOk-weaker c.remembered_or_made.result (IsNormalOf (g.O.Order.meaning c.args.bank.now.order).greater (g.O.Order.meaning c.args.bank.now.order).least (live c.args.front.now.entries) c.args.limit c.args.term.now) (λ normal. Links (OStep (g.O.Order.meaning c.args.bank.now.order).greater (g.O.Order.meaning c.args.bank.now.order).least (equations_of (live c.args.front.now.entries))) c.args.term.now normal.chain.steps normal.term) (λ normal is. steps_linked (g.O.Order.meaning c.args.bank.now.order).greater (g.O.Order.meaning c.args.bank.now.order).least (live c.args.front.now.entries) c.args.limit c.args.term.now normal is) c.remembered_or_made.ensures.normal

pub returns-clause-full : goal.returns-clause-full
returns-clause-full g c = IfOk-weaker c.remembered_or_made.result (IsNormalOf (g.O.Order.meaning c.args.bank.now.order).greater (g.O.Order.meaning c.args.bank.now.order).least (live c.args.front.now.entries) c.args.limit c.args.term.now) (λ normal. normal.stop ≡ Full → IsIrreducible (g.O.Order.meaning c.args.bank.now.order).greater (g.O.Order.meaning c.args.bank.now.order).least (equations_of (live c.args.front.now.entries)) normal.term) (λ normal is. full_irreducible (g.O.Order.meaning c.args.bank.now.order).greater (g.O.Order.meaning c.args.bank.now.order).least (live c.args.front.now.entries) c.args.limit c.args.term.now normal is) c.remembered_or_made.ensures.normal
