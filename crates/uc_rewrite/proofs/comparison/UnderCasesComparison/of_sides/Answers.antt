use Rattle.uc_rewrite.proofs.comparison.UnderCasesComparison.of_sides.Goals as goal

pub returns : goal.returns
returns g c = c.told_by_sides.ensures.1 c.args.self.now.cases.now
