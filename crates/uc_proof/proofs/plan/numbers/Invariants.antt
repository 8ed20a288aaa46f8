use Rattle.std.proofs.Common.{take}
use Rattle.uc_proof.proofs.Same.{same, decides}
use Rattle.uc_proof.proofs.Numbers.{HaveNumbers}
use Rattle.uc_proof.proofs.plan.numbers.Given as goal

abbrev pub invariant-loop-number : goal.invariant-loop-number
invariant-loop-number l = HaveNumbers same decides l.parts (take l.number l.parts) l.numbers.entries
