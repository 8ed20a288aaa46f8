use Rattle.uc_certify.proofs.Lists.{of}
use Rattle.uc_certify.proofs.JoinsTested.{overlap_right}
use Rattle.uc_certify.proofs.joining.is_right_join.Goals as goal

pub returns-in-Overlap : goal.returns-in-Overlap
returns-in-Overlap g c = overlap_right (g.O.Order.meaning c.args.order.now) c.args.rules.now.facts.now c.args.axioms.now c.joins_overlap.result c.args.member c.in-Overlap.formed c.args.join.now c.in-Overlap.is (of c.names.result c.if-not-names.false c.names.ensures) c.joins_overlap.ensures
