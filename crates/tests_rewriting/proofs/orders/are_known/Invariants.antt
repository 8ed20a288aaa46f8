use Rattle.std.proofs.Common.{take}
use Rattle.uc_term.specs.Table.{Has}
use Rattle.uc_order.specs.Members.{Each}
use Rattle.tests_rewriting.proofs.orders.are_known.Given as goal

abbrev pub invariant-loop-f : goal.invariant-loop-f
invariant-loop-f l = Each (Has l.symbols) (take l.f-index l.list)
