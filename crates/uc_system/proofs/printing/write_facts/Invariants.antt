use Rattle.std.proofs.Common.{◌≡◌, ◌+◌, ◌++◌, drop}
use Rattle.uc_system.specs.Printing.{facts_text}
use Rattle.uc_system.proofs.printing.write_facts.Given as goal

abbrev pub invariant-loop-number : goal.invariant-loop-number
invariant-loop-number l = (l.out ++ facts_text l.symbols (l.number + 1) (drop l.number l.facts) ≡ l.initial.out ++ facts_text l.symbols 1 l.facts)
