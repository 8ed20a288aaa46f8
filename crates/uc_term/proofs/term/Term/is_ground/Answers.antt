use Rattle.std.proofs.Common.{sym, ap, ◌∙◌}
use Rattle.uc_term.proofs.Ground.{has_var, has_var-flat}
use Rattle.uc_term.proofs.term.Term.is_ground.Goals as goal

pub loop-node-init : goal.loop-node-init
loop-node-init c = sym (ap has_var c.as_nodes-node-items.ensures.value ∙ has_var-flat c.args.self.now)
