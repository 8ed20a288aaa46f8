use Rattle.uc_system.proofs.Compared.{between}
use Rattle.uc_system.proofs.facts.equation_in.Goals as goal

pub returns : goal.returns
returns c = between c.args.front.now c.args.line.now c.in_ok-behind.field-0.now c.in_ok-behind.ensures c.before-2.result c.before-2.ensures
