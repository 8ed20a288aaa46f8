use Rattle.std.specs.Option.{option_copied}
use Rattle.std.proofs.lemmas.Result.{err_from_is_err_and}
use Rattle.uc_problem.proofs.Problems.{answered_by, refused_by, unclosed}
use Rattle.uc_problem.proofs.Fillings.{told_closed, filled_by}
use Rattle.uc_problem.proofs.AddedOnce.{distinct_earlier}
use Rattle.uc_problem.proofs.Faulting.{assembled_faulted}
use Rattle.uc_problem.proofs.Stopping.{unclosed_stops, unsigned_by}
use Rattle.uc_problem.proofs.loading.load.Goals as goal

pub returns-clause-problem : goal.returns-clause-problem
returns-clause-problem g c =
    answered_by (option_copied c.args.root) c.args.name.now c.flat_clauses.new.symbols c.close.new.symbols c.assemble-problem.new.symbols c.in_ok-closed.ensures.grows c.assemble-problem.ensures.grows c.in_ok-flats.flats c.in_ok-flats.ensures.sound c.in_ok-closed.closed.clauses c.in_ok-closed.ensures.sound c.in_ok-closed.closed.conjecture c.in_ok-closed.ensures.closed
    (g.L.Library.holds c.args.library.now) (g.L.Library.faults c.args.library.now) (g.L.Library.faults c.flat_clauses.new.library) c.assemble-problem.result c.in_ok-flats.ensures.flat c.assemble-problem.ensures.clauses c.assemble-problem.ensures.conjecture c.assemble-problem.ensures.agrees

pub returns-clause-refused : goal.returns-clause-refused
returns-clause-refused g c =
    refused_by (option_copied c.args.root) c.args.name.now c.flat_clauses.new.symbols c.close.new.symbols c.assemble-problem.new.symbols c.in_ok-closed.ensures.grows c.assemble-problem.ensures.grows c.in_ok-flats.flats c.in_ok-flats.ensures.sound c.in_ok-closed.closed.clauses c.in_ok-closed.ensures.sound c.in_ok-closed.closed.conjecture c.in_ok-closed.ensures.closed
    (g.L.Library.holds c.args.library.now) (g.L.Library.faults c.args.library.now) (g.L.Library.faults c.flat_clauses.new.library) (g.L.Library.faults c.args.library.now) (g.L.Library.faults c.flat_clauses.new.library) c.assemble-problem.result c.in_ok-flats.ensures.flat c.assemble-problem.ensures.refused

pub returns-clause-filled : goal.returns-clause-filled
returns-clause-filled g c =
    filled_by (option_copied c.args.root) c.args.name.now c.args.symbols.now c.close.new.symbols c.assemble-problem.new.symbols c.in_ok-closed.closed.clauses c.in_ok-closed.closed.conjecture (g.L.Library.holds c.args.library.now) c.assemble-problem.result
    (told_closed (option_copied c.args.root) c.args.name.now c.args.symbols.now c.flat_clauses.new.symbols c.in_ok-flats.flats c.in_ok-flats.ensures.sound (g.L.Library.holds c.args.library.now) (g.L.Library.faults c.args.library.now) (g.L.Library.faults c.flat_clauses.new.library) c.close.new.symbols c.in_ok-closed.closed.clauses c.in_ok-closed.closed.conjecture c.in_ok-flats.ensures.flat c.in_ok-flats.ensures.fills c.in_ok-closed.ensures.closed)
    c.assemble-problem.ensures.clauses c.assemble-problem.ensures.conjecture c.assemble-problem.ensures.agrees c.assemble-problem.ensures.least

pub returns-clause-stopped : goal.returns-clause-stopped
returns-clause-stopped g c =
    unsigned_by (option_copied c.args.root) c.args.name.now c.args.symbols.now c.close.new.symbols (distinct_earlier c.close.new.symbols c.assemble-problem.new.symbols c.assemble-problem.ensures.grows c.len.ensures.distinct) c.in_ok-closed.closed.clauses c.in_ok-closed.closed.conjecture (g.L.Library.holds c.args.library.now) c.assemble-problem.result
    (told_closed (option_copied c.args.root) c.args.name.now c.args.symbols.now c.flat_clauses.new.symbols c.in_ok-flats.flats c.in_ok-flats.ensures.sound (g.L.Library.holds c.args.library.now) (g.L.Library.faults c.args.library.now) (g.L.Library.faults c.flat_clauses.new.library) c.close.new.symbols c.in_ok-closed.closed.clauses c.in_ok-closed.closed.conjecture c.in_ok-flats.ensures.flat c.in_ok-flats.ensures.fills c.in_ok-closed.ensures.closed)
    c.assemble-problem.ensures.refused

pub returns-in_err-closed-clause-refused : goal.returns-in_err-closed-clause-refused
returns-in_err-closed-clause-refused g c =
    let p = err_from_is_err_and c.from_residual-in_err-closed.result c.from_residual-in_err-closed.ensures.1 in
    rw (p.1, p.2) (unclosed (option_copied c.args.root) c.args.name.now c.flat_clauses.new.symbols c.close.new.symbols c.in_err-closed.ensures.grows c.in_ok-flats.flats (g.L.Library.holds c.args.library.now) (g.L.Library.faults c.args.library.now) (g.L.Library.faults c.flat_clauses.new.library) (g.L.Library.faults c.args.library.now) (g.L.Library.faults c.flat_clauses.new.library) c.in_err-closed.field-0.0 c.in_ok-flats.ensures.flat c.in_err-closed.ensures.refused)

pub returns-in_err-closed-clause-stopped : goal.returns-in_err-closed-clause-stopped
returns-in_err-closed-clause-stopped g c =
    let p = err_from_is_err_and c.from_residual-in_err-closed.result c.from_residual-in_err-closed.ensures.1 in
    rw (p.1, p.2) (unclosed_stops (option_copied c.args.root) c.args.name.now c.args.symbols.now c.flat_clauses.new.symbols c.in_ok-flats.flats (g.L.Library.holds c.args.library.now) (g.L.Library.faults c.args.library.now) (g.L.Library.faults c.flat_clauses.new.library) c.in_err-closed.field-0.0 c.in_ok-flats.ensures.flat c.in_err-closed.ensures.refused)

pub returns-clause-counted : goal.returns-clause-counted
returns-clause-counted g c = assembled_faulted c.close.new.symbols c.in_ok-closed.closed.clauses c.assemble-problem.result c.assemble-problem.ensures.refused c.in_ok-flats.ensures.counted
