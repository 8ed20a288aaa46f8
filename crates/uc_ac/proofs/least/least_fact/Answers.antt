use Rattle.std.proofs.Common.{sym, subst}
use Rattle.uc_term.specs.Tree.{var}
use Rattle.uc_order.specs.Laws.{pair_of}
use Rattle.uc_ac.specs.declared.ac_law.AcLaw.{AcLaw}
use Rattle.uc_ac.specs.Found.{IsInstanceOf}
use Rattle.uc_ac.proofs.LeastFacts.{assoc_found, comm_found, extended_found}
use Rattle.uc_ac.proofs.least.least_fact.Goals as goal

pub first_fact-requires-clause-found : goal.first_fact-requires-clause-found
first_fact-requires-clause-found g c = subst (λ (law : AcLaw). IsInstanceOf law c.args.f (pair_of c.args.f (pair_of c.args.f (var 0) (var 1)) (var 2))) (sym c.in-Assoc.is) (assoc_found c.args.f)

pub first_fact-requires-in-Comm-clause-found : goal.first_fact-requires-in-Comm-clause-found
first_fact-requires-in-Comm-clause-found g c = subst (λ (law : AcLaw). IsInstanceOf law c.args.f (pair_of c.args.f (var 0) (var 1))) (sym c.in-Comm.is) (comm_found c.args.f)

pub first_fact-requires-in-Extended-clause-found : goal.first_fact-requires-in-Extended-clause-found
first_fact-requires-in-Extended-clause-found g c = subst (λ (law : AcLaw). IsInstanceOf law c.args.f (pair_of c.args.f (var 0) (pair_of c.args.f (var 1) (var 2)))) (sym c.in-Extended.is) (extended_found c.args.f)
