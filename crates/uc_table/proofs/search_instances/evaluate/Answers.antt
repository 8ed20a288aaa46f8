use Rattle.std.proofs.Common.{◌+◌, ◌<◌, ◌≤◌, sym, subst, List, length, arith}
use Rattle.std.proofs.lemmas.List.{length-take-le}
use Rattle.uc_table.specs.declared.search_reads.Link.{Link}
use Rattle.uc_table.specs.SearchSteps.{IsOutcome}
use Rattle.uc_table.specs.SearchReads.{filled, Fits}
use Rattle.uc_table.proofs.SearchReads.{row_short, row_fits, row_ran}
use Rattle.uc_table.proofs.search_instances.evaluate.Goals as goal

pub slice_bounds-places-end : goal.slice_bounds-places-end
slice_bounds-places-end c =
    let f = c.args.form.now in
    let short : c.args.size < 4294967296 = omega (arith, c.ranges.size.fits) in
    let h : length c.in-Some.row.now ≤ length f.steps.items + 2 = row_short c.args.size c.args.assignment c.requires.size short c.args.prefix.now c.requires.prefix f.steps.items f.reads c.requires.form.steps c.requires.form.reads c.in-Some.row.now c.in-Some.ensures.0 c.in-Some.ensures.1 in
    omega (arith, h, c.requires.form.short)

pub slice_bounds-places-end-in-Some : goal.slice_bounds-places-end-in-Some
slice_bounds-places-end-in-Some c =
    let f = c.args.form.now in
    let short : c.args.size < 4294967296 = omega (arith, c.ranges.size.fits) in
    let h : length c.in-Some.row.now ≤ length f.steps.items + 2 = row_short c.args.size c.args.assignment c.requires.size short c.args.prefix.now c.requires.prefix f.steps.items f.reads c.requires.form.steps c.requires.form.reads c.in-Some.row.now c.in-Some.ensures.0 c.in-Some.ensures.1 in
    sym (length-take-le (length c.in-Some.row.now) c.args.stack.now (omega (arith, h, c.requires.form.short)))

pub read_row-requires-clause-fits : goal.read_row-requires-clause-fits
read_row-requires-clause-fits c =
    let f = c.args.form.now in
    let short : c.args.size < 4294967296 = omega (arith, c.ranges.size.fits) in
    let h : Fits c.args.prefix.now c.in-Some.row.now f.reads.links.items = row_fits c.args.size c.args.assignment c.requires.size short c.args.prefix.now c.requires.prefix f.steps.items f.reads c.requires.form.steps c.requires.form.reads c.in-Some.row.now c.in-Some.ensures.0 c.in-Some.ensures.1 in
    subst (λ (z : List Link). Fits c.args.prefix.now c.in-Some.row.now z) (sym c.deref.ensures.value) h

pub read_row-requires-clause-room : goal.read_row-requires-clause-room
read_row-requires-clause-room c =
    let f = c.args.form.now in
    let short : c.args.size < 4294967296 = omega (arith, c.ranges.size.fits) in
    let h : length c.in-Some.row.now ≤ length f.steps.items + 2 = row_short c.args.size c.args.assignment c.requires.size short c.args.prefix.now c.requires.prefix f.steps.items f.reads c.requires.form.steps c.requires.form.reads c.in-Some.row.now c.in-Some.ensures.0 c.in-Some.ensures.1 in
    sym (length-take-le (length c.in-Some.row.now) c.args.stack.now (omega (arith, h, c.requires.form.short)))

pub returns-in-Some : goal.returns-in-Some
returns-in-Some c =
    let f = c.args.form.now in
    let short : c.args.size < 4294967296 = omega (arith, c.ranges.size.fits) in
    let e = row_ran c.args.size c.args.assignment c.requires.size short c.args.prefix.now c.requires.prefix f.steps.items f.reads c.requires.form.steps c.requires.form.reads c.in-Some.row.now c.in-Some.ensures.0 c.in-Some.ensures.1 in
    let o : IsOutcome (filled c.args.prefix.now c.in-Some.row.now f.reads.links.items) c.read_row.result = subst (λ (z : List Link). IsOutcome (filled c.args.prefix.now c.in-Some.row.now z) c.read_row.result) c.deref.ensures.value c.read_row.ensures in
    subst (λ z. IsOutcome z c.read_row.result) (sym e) o
