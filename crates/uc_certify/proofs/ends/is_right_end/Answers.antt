use Rattle.std.proofs.Common.{IfOk, IsTrue, ◌↔◌, List, subst}
use Rattle.uc_certificate.specs.declared.certificate.Case.{Case}
use Rattle.uc_certificate.specs.declared.certificate.AcTriple.{AcTriple}
use Rattle.uc_certify.specs.Joining.{AreRightCases, AreRightTriples}
use Rattle.uc_certify.proofs.ends.is_right_end.Goals as goal

pub returns-in-Instance : goal.returns-in-Instance
returns-in-Instance g c = rw c.in-Instance.is c.is_instance.ensures

pub returns-in-Orders : goal.returns-in-Orders
returns-in-Orders g c = rw c.in-Orders.is (subst (λ (cs : List Case). IfOk c.are_right_cases.result (λ right. IsTrue right ↔ AreRightCases (g.O.Order.meaning c.args.order.now) c.args.rules.now.facts.now c.args.s.now c.args.t.now cs)) c.as_slice.ensures c.are_right_cases.ensures)

pub returns-in-Ac : goal.returns-in-Ac
returns-in-Ac g c = rw c.in-Ac.is (subst (λ (ts : List AcTriple). IfOk c.are_right_triples.result (λ right. IsTrue right ↔ AreRightTriples c.args.rules.now.facts.now c.args.s.now c.args.t.now ts)) c.as_slice-in-Ac.ensures c.are_right_triples.ensures)
