use Rattle.std.proofs.Common.{◌≡◌, take}
use Rattle.uc_term.specs.Variables.{firsts}
use Rattle.uc_term.proofs.NodeVars.{node_vars}
use Rattle.uc_term.proofs.term.Term.vars.Given as goal

abbrev pub invariant-loop-n : goal.invariant-loop-n
invariant-loop-n l = l.seen.keys ≡ firsts (node_vars (take l.n-index l.nodes))
