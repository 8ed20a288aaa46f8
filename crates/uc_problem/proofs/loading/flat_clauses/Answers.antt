use Rattle.std.proofs.Common.{refl}
use Rattle.std.specs.Option.{option_copied}
use Rattle.std.proofs.lemmas.Result.{err_from_is_err_and}
use Rattle.uc_problem.proofs.Faulting.{same_refusal, faulted_after}
use Rattle.uc_problem.proofs.Problems.{no_fetch_of, no_file, of_fetched}
use Rattle.uc_problem.proofs.Fillings.{fetched_filled}
use Rattle.uc_problem.proofs.Stopping.{memory_stops, no_file_stops, no_fetch_stops, fetched_stops}
use Rattle.uc_problem.proofs.loading.flat_clauses.Goals as goal

pub returns-in_err-bytes-clause-flat : goal.returns-in_err-bytes-clause-flat
returns-in_err-bytes-clause-flat g c =
    let p = err_from_is_err_and c.from_residual-in_err-bytes.result c.from_residual-in_err-bytes.ensures.1 in
    rw (p.1, p.2) (no_fetch_of (option_copied c.args.root) c.args.name.now (g.L.Library.holds c.args.library.now) c.args.symbols.now (g.L.Library.faults c.args.library.now) (g.L.Library.faults c.fetch_text.new.library) c.in_ok-file.file c.in_err-bytes.field-0.0 c.in_ok-file.ensures c.in_err-bytes.ensures.answer)

pub returns-in_default-clause-flat : goal.returns-in_default-clause-flat
returns-in_default-clause-flat g c =
    no_file (option_copied c.args.root) c.args.name.now (g.L.Library.holds c.args.library.now) c.args.symbols.now (g.L.Library.faults c.args.library.now) (g.L.Library.faults c.fetch_text.new.library) c.in_ok-file.file c.in_ok-bytes.field-0 c.in_ok-file.ensures c.in_default.is c.in_ok-bytes.ensures.answer

pub returns-clause-flat : goal.returns-clause-flat
returns-clause-flat g c =
    of_fetched (option_copied c.args.root) c.args.name.now (g.L.Library.holds c.args.library.now) (g.L.Library.faults c.args.library.now) (g.L.Library.faults c.fetch_text.new.library) (g.L.Library.faults c.load_file.new.library) c.load_file.new.symbols c.in_ok-file.file c.folder_of.result.now c.in-Some.bytes c.as_bytes.result.now c.in_ok-bytes.field-0 c.load_file.new.counts c.load_file.result
    c.in_ok-bytes.ensures.later c.in_ok-file.ensures c.folder_of.ensures c.as_bytes.ensures c.in-Some.is c.in_ok-bytes.ensures.answer (rw c.in_ok-bytes.ensures.same at c.load_file.ensures.part)

pub returns-clause-fills : goal.returns-clause-fills
returns-clause-fills g c =
    fetched_filled (option_copied c.args.root) c.args.name.now (g.L.Library.faults c.args.library.now) (g.L.Library.faults c.fetch_text.new.library) c.args.symbols.now c.load_file.new.symbols (g.L.Library.holds c.args.library.now) c.in_ok-file.file c.in-Some.bytes c.in_ok-bytes.field-0 c.load_file.result
    c.in_ok-file.ensures c.in-Some.is c.in_ok-bytes.ensures.answer (rw (c.in_ok-bytes.ensures.same, c.folder_of.ensures, c.as_bytes.ensures) at c.load_file.ensures.fills)

pub returns-in_err-bytes-clause-stopped : goal.returns-in_err-bytes-clause-stopped
returns-in_err-bytes-clause-stopped g c =
    let p = err_from_is_err_and c.from_residual-in_err-bytes.result c.from_residual-in_err-bytes.ensures.1 in
    rw (p.1, p.2) (no_fetch_stops (option_copied c.args.root) c.args.name.now c.args.symbols.now (g.L.Library.holds c.args.library.now) (g.L.Library.faults c.args.library.now) (g.L.Library.faults c.fetch_text.new.library) c.in_ok-file.file c.in_err-bytes.field-0.0 c.in_ok-file.ensures c.in_err-bytes.ensures.answer)

pub returns-in_default-clause-stopped : goal.returns-in_default-clause-stopped
returns-in_default-clause-stopped g c =
    no_file_stops (option_copied c.args.root) c.args.name.now c.args.symbols.now (g.L.Library.holds c.args.library.now) (g.L.Library.faults c.args.library.now) (g.L.Library.faults c.fetch_text.new.library) c.in_ok-file.file c.in_ok-bytes.field-0 c.in_ok-file.ensures c.in_default.is c.in_ok-bytes.ensures.answer

pub returns-clause-stopped : goal.returns-clause-stopped
returns-clause-stopped g c =
    fetched_stops (option_copied c.args.root) c.args.name.now c.args.symbols.now (g.L.Library.holds c.args.library.now) (g.L.Library.faults c.args.library.now) (g.L.Library.faults c.fetch_text.new.library) (g.L.Library.faults c.load_file.new.library) c.load_file.new.symbols c.in_ok-file.file c.folder_of.result.now c.in-Some.bytes c.as_bytes.result.now c.in_ok-bytes.field-0 c.load_file.new.counts c.load_file.result
    c.in_ok-file.ensures c.folder_of.ensures c.as_bytes.ensures c.in-Some.is c.in_ok-bytes.ensures.answer (rw c.in_ok-bytes.ensures.same at c.load_file.ensures.part)

pub returns-in_err-file-clause-stopped : goal.returns-in_err-file-clause-stopped
returns-in_err-file-clause-stopped g c =
    let p = err_from_is_err_and c.from_residual.result c.from_residual.ensures.1 in
    rw (p.1, p.2) (memory_stops (option_copied c.args.root) c.args.name.now c.args.symbols.now (g.L.Library.holds c.args.library.now))

pub returns-in_err-bytes-clause-counted : goal.returns-in_err-bytes-clause-counted
returns-in_err-bytes-clause-counted g c =
    let p = err_from_is_err_and c.from_residual-in_err-bytes.result c.from_residual-in_err-bytes.ensures.1 in
    rw (p.1, p.2) (same_refusal c.in_err-bytes.field-0.0 _ _ (refl, refl) c.in_err-bytes.ensures.counted)

pub returns-clause-counted : goal.returns-clause-counted
returns-clause-counted g c = faulted_after c.load_file.result _ _ c.in_ok-bytes.ensures.counted c.load_file.ensures.counted
