use Rattle.uc_order.proofs.Exactly.{respected}
use Rattle.uc_order.proofs.completeness.exactly_one.Goals as goal

pub returns : goal.returns
returns c d = let laws = c.met.O.Order.laws d.args._order.now in λ σ vs g. respected (c.O.Order.meaning d.args._order.now).greater laws.irreflexive laws.transitive σ vs (λ x y i j. laws.total (σ x) (σ y) (g x i) (g y j))
