use Rattle.std.proofs.Common.{◌∙◌, arith, length-set}
use Rattle.uc_table.specs.declared.search_reads.Link.{Link}
use Rattle.uc_table.proofs.SearchReads.{waits_here, target_in, sum_in, next_fits, next_filled}
use Rattle.uc_table.proofs.search_reads.read_row.Goals as goal

pub returns-then-cell-prefix : goal.returns-then-cell-prefix
returns-then-cell-prefix c =
    let i = c.loop-at.invariant in
    let dl : Link = record { target = 0; stride = 0 } in
    let w = waits_here c.args.prefix.now c.args.links.now c.loop-at.places c.loop-at.at dl c.loop-at-test.true i.long i.fits c.if-cell-prefix.true in
    (i.filled_is ∙ w.0, w.1)

pub overflow_mul-places : goal.overflow_mul-places
overflow_mul-places c =
    let i = c.loop-at.invariant in
    let dl : Link = record { target = 0; stride = 0 } in
    let s = sum_in c.args.prefix.now c.args.links.now c.loop-at.places c.loop-at.at dl c.loop-at-test.true i.long i.fits c.if-cell-prefix.false in
    omega (arith, s)

pub bounds-places-target : goal.bounds-places-target
bounds-places-target c =
    let i = c.loop-at.invariant in
    let dl : Link = record { target = 0; stride = 0 } in
    target_in c.args.prefix.now c.args.links.now c.loop-at.places c.loop-at.at dl c.loop-at-test.true i.long i.fits c.if-cell-prefix.false

pub overflow_add-places : goal.overflow_add-places
overflow_add-places c =
    let i = c.loop-at.invariant in
    let dl : Link = record { target = 0; stride = 0 } in
    let s = sum_in c.args.prefix.now c.args.links.now c.loop-at.places c.loop-at.at dl c.loop-at-test.true i.long i.fits c.if-cell-prefix.false in
    omega (arith, s)

pub bounds-places-target-in-loop-at : goal.bounds-places-target-in-loop-at
bounds-places-target-in-loop-at c =
    let i = c.loop-at.invariant in
    let dl : Link = record { target = 0; stride = 0 } in
    target_in c.args.prefix.now c.args.links.now c.loop-at.places c.loop-at.at dl c.loop-at-test.true i.long i.fits c.if-cell-prefix.false

pub loop-at-preserved : goal.loop-at-preserved
loop-at-preserved c =
    let i = c.loop-at.invariant in
    let dl : Link = record { target = 0; stride = 0 } in
    let own = c.loop-at.places in
    record {
      filled_is = i.filled_is ∙ next_filled c.args.prefix.now c.args.links.now own c.loop-at.at dl c.loop-at-test.true i.long i.fits c.if-cell-prefix.false;
      fits = next_fits c.args.prefix.now c.args.links.now own c.loop-at.at dl c.loop-at-test.true i.long i.fits c.if-cell-prefix.false;
      long = length-set own _ _ ∙ i.long;
      within = omega arith;
    }
