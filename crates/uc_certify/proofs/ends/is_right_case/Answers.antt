use Rattle.std.proofs.Common.{subst, sym}
use Rattle.uc_order.specs.VarOrders.{Among}
use Rattle.uc_order.proofs.Respected.{HasOnly-represented}
use Rattle.uc_certify.specs.Knowing.{HasKnown}
use Rattle.uc_certify.proofs.ends.is_right_case.Goals as goal

pub end_of_moves-requires-clause-known : goal.end_of_moves-requires-clause-known
end_of_moves-requires-clause-known g c = subst (HasKnown (Among c.args.case.now.cases)) (sym c.in_ok-left.ensures) (HasOnly-represented c.args.case.now.cases c.args.s.now c.requires.s_known)

pub end_of_moves-requires-2-clause-known : goal.end_of_moves-requires-2-clause-known
end_of_moves-requires-2-clause-known g c = subst (HasKnown (Among c.args.case.now.cases)) (sym c.in_ok-right.ensures) (HasOnly-represented c.args.case.now.cases c.args.t.now c.requires.t_known)
