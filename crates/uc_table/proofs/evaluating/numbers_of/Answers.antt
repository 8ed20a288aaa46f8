use Rattle.std.proofs.Common.{◌-◌, ◌<◌, length, get_or, arith, ◌∙◌}
use Rattle.std.proofs.lemmas.List.{length-set}
use Rattle.std.proofs.lemmas.Option.{slice_get-get_or}
use Rattle.uc_term.specs.declared.node.Sym.{Sym}
use Rattle.uc_table.proofs.Numbering.{numbered_more}
use Rattle.uc_table.proofs.evaluating.numbers_of.Goals as goal

pub loop-at-preserved : goal.loop-at-preserved
loop-at-preserved c =
    let f : Sym = get_or c.args.among.now (c.loop-at.at - 1) (record { 0 = 0 }) in
    let has : f.0 < length c.args.symbols.now = c.requires.has (c.loop-at.at - 1) f (slice_get-get_or c.args.among.now (c.loop-at.at - 1) (record { 0 = 0 }) (omega arith)) in (
      omega arith,
      numbered_more c.args.among.now c.loop-at.numbers.items (c.loop-at.at - 1) c.loop-at.at (record { 0 = 0 }) (omega arith) c.loop-at.invariant.0 c.loop-at.invariant.1 (omega (arith, has, c.loop-at.invariant.2)),
      length-set c.loop-at.numbers.items f.0 (c.loop-at.at - 1) ∙ c.loop-at.invariant.2,
    )
