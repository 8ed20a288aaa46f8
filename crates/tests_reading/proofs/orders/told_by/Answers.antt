use Rattle.std.specs.Prelude.{Option, Some, None, Ok}
use Rattle.uc_term.specs.Table.{Table}
use Rattle.uc_term.specs.declared.fresh.Fresh.{Fresh}
use Rattle.uc_problem.specs.declared.problem.Problem.{Problem}
use Rattle.uc_problem.specs.Holds.{terms_of}
use Rattle.uc_problem.specs.Marks.{Marks}
use Rattle.uc_problem.proofs.Later.{Grows-refl}
use Rattle.uc_problem.proofs.Growth.{agrees_later}
use Rattle.uc_ordering.specs.Premises.{AreMarks}
use Rattle.tests_reading.proofs.orders.told_by.Goals as goal

marks_are : (table : Table) (problem : Problem) (fresh : Option Fresh) → Marks table problem (Ok fresh) → AreMarks table problem.signature fresh
marks_are table problem None m = tt
marks_are table problem (Some marks) m = (m.2.eq, m.2.yes, m.2.no)

pub told_choice-requires-clause-signature : goal.told_choice-requires-clause-signature
told_choice-requires-clause-signature c =
    let agrees = agrees_later c.args.symbols.now c.marks.new.symbols c.in-Ok.ensures.grows c.args.problem.now c.requires in
    record { terms = terms_of c.args.problem.now.clauses; over = agrees.over; signature_is = agrees.signature }

pub told_choice-requires-clause-marks : goal.told_choice-requires-clause-marks
told_choice-requires-clause-marks c = marks_are c.marks.new.symbols c.args.problem.now c.in-Ok.fresh (c.in-Ok.ensures.marked c.marks.new.symbols (Grows-refl c.marks.new.symbols))
