use Rattle.std.proofs.Common.{◌≡◌, drop}
use Rattle.uc_term.specs.Subst.{found}
use Rattle.uc_term.specs.Bindings.{pairs_of}
use Rattle.uc_term.proofs.subst.Subst.get.Given as goal

abbrev pub invariant-loop-binding : goal.invariant-loop-binding
invariant-loop-binding l = found l.self l.x ≡ found (pairs_of l.self-inside.nodes.items (drop l.binding-index l.binding-items)) l.x
