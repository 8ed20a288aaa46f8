use Rattle.std.proofs.Common.{take}
use Rattle.uc_order.specs.Members.{Each}
use Rattle.uc_certify.specs.Joining.{IsRightCase}
use Rattle.uc_certify.proofs.ends.are_right_cases.Given as goal

abbrev pub invariant-loop-case : goal.invariant-loop-case
invariant-loop-case g l = Each (IsRightCase (g.O.Order.meaning l.order) l.rules.facts.now l.s l.t) (take l.case-index l.cases)
