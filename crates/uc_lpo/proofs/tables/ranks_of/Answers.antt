use Rattle.std.proofs.Common.{◌+◌, ◌∙◌, ◌<◌, get_or, length-set, arith}
use Rattle.uc_term.specs.declared.node.Sym.{Sym}
use Rattle.uc_lpo.proofs.Precedences.{Each-get, ranked_more}
use Rattle.uc_lpo.proofs.tables.ranks_of.Goals as goal

pub loop-i-preserved : goal.loop-i-preserved
loop-i-preserved c =
    let d : Sym = record { 0 = 0 } in
    let below = Each-get (λ (f : Sym). f.0 < c.args.bound) c.args.precedence.now c.loop-i.i d c.requires.bounded c.loop-i-test.true in
    let long = c.loop-i.invariant.long in
    record {
      long = length-set c.loop-i.ranks.items (get_or c.args.precedence.now c.loop-i.i d).0 (c.loop-i.i + 1) ∙ long;
      ranked = ranked_more c.args.precedence.now c.loop-i.i d c.loop-i.ranks.items c.requires.distinct c.loop-i-test.true (omega (arith, below, long)) c.loop-i.invariant.ranked;
    }
