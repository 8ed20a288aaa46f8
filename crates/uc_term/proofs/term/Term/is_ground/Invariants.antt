use Rattle.std.proofs.Common.{◌≡◌, drop}
use Rattle.uc_term.specs.Variables.{has_variable}
use Rattle.uc_term.proofs.Ground.{has_var}
use Rattle.uc_term.proofs.term.Term.is_ground.Given as goal

abbrev pub invariant-loop-node : goal.invariant-loop-node
invariant-loop-node l = has_variable l.fn.self ≡ has_var (drop l.node-index l.node-items)
