use Rattle.std.proofs.Common.{◌≡◌, take}
use Rattle.uc_certify.specs.Expecting.{axioms_from}
use Rattle.uc_certify.proofs.expected.axiom_members.Given as goal

abbrev pub invariant-loop-k : goal.invariant-loop-k
invariant-loop-k l = l.members.items ≡ axioms_from 0 (take l.k l.axioms)
