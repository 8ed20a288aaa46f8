use Rattle.std.proofs.Common.{◌≡◌, take}
use Rattle.uc_certify.proofs.making.copy_system.Given as goal

abbrev pub invariant-loop-equation : goal.invariant-loop-equation
invariant-loop-equation l = l.facts.items ≡ take l.equation-index l.equations
