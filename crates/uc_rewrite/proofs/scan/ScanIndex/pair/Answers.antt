use Rattle.std.proofs.Common.{◌∙◌, ap, Some}
use Rattle.uc_rewrite.proofs.Scanned.{fact_there, no_fact}
use Rattle.uc_rewrite.proofs.scan.ScanIndex.pair.Goals as goal

pub returns : goal.returns
returns c = fact_there c.args.self.now.facts.now c.args.fact c.index-self-place.result c.if-place-self.false c.index-self-place.is ∙ ap Some c.index-self-place.is

pub returns-then-place-self : goal.returns-then-place-self
returns-then-place-self c = no_fact c.args.self.now.facts.now c.args.fact c.if-place-self.true
