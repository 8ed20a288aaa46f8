use Rattle.std.proofs.Common.{◌≡◌, take}
use Rattle.uc_machine.specs.Finals.{axioms_from}
use Rattle.uc_final.proofs.selecting.axiom_origins.Given as goal

abbrev pub invariant-loop-k : goal.invariant-loop-k
invariant-loop-k l = l.list.items ≡ axioms_from 0 (take l.k l.axioms)
