use Rattle.uc_ordering.proofs.Made.{kbo_memory, lpo_memory, kbo_says, lpo_says}
use Rattle.uc_ordering.proofs.chosen.Chosen.new.Goals as goal

pub kbo-requires : goal.kbo-requires
kbo-requires c =
    let t = rw c.in-Kbo.is at c.requires.total in
    kbo_memory c.args.symbols.now c.args.signature.now c.in-Kbo.precedence c.in-Kbo.w0 c.in-Kbo.weights c.new.result t.0 t.1.none_bad (rw (c.as_slice-weights.ensures, c.as_slice-precedence.ensures) at c.new.ensures.err)

pub lpo-requires : goal.lpo-requires
lpo-requires c =
    let t = rw c.in-Lpo.is at c.requires.total in
    lpo_memory c.args.signature.now c.in-Lpo.precedence c.new-in-Lpo.result t (rw c.as_slice.ensures at c.new-in-Lpo.ensures.err)

pub returns-in-Kbo-clause-says : goal.returns-in-Kbo-clause-says
returns-in-Kbo-clause-says c = rw c.in-Kbo.is (kbo_says c.args.symbols.now c.in-Kbo.w0 c.in-Kbo.weights c.in-Kbo.precedence c.new.result c.kbo.result (rw (c.as_slice-weights.ensures, c.as_slice-precedence.ensures) at c.new.ensures.ok) c.kbo.ensures)

pub returns-in-Lpo-clause-says : goal.returns-in-Lpo-clause-says
returns-in-Lpo-clause-says c = rw c.in-Lpo.is (lpo_says c.args.symbols.now c.in-Lpo.precedence c.new-in-Lpo.result c.lpo.result (rw c.as_slice.ensures at c.new-in-Lpo.ensures.ok) c.lpo.ensures)
