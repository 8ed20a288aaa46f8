use Rattle.std.proofs.Common.{take}
use Rattle.uc_order.specs.Members.{Each}
use Rattle.tests_rewriting.specs.Known.{IsKnown}
use Rattle.tests_rewriting.proofs.cases.has_only.Given as goal

abbrev pub invariant-loop-n : goal.invariant-loop-n
invariant-loop-n l = Each (IsKnown l.cases) (take l.n-index l.nodes)
