use Rattle.std.proofs.Common.{◌≡◌, ◌+◌, ◌-◌, get_or, drop, [], ◌∷◌, ◌++◌, arith, sym, ap, ◌∙◌}
use Rattle.uc_table.specs.Reading.{values_of}
use Rattle.uc_table.proofs.Values.{no_value_here, value_here, behind}
use Rattle.uc_table.proofs.reading.values_of.Goals as goal

pub returns-then-not-is_spaced : goal.returns-then-not-is_spaced
returns-then-not-is_spaced c = no_value_here c.args.size c.args.line.now c.loop-at.values c.loop-at.at (omega arith) (sym c.if-not-is_spaced.ensures) c.loop-at.invariant.1

pub loop-at-preserved : goal.loop-at-preserved
loop-at-preserved c =
    let here : behind (c.loop-at.values ++ (get_or c.args.line.now c.loop-at.at 0 - 48) ∷ []) (values_of c.args.size (drop (c.loop-at.at + 2) c.args.line.now)) ≡ values_of c.args.size c.args.line.now = value_here c.args.size c.args.line.now c.loop-at.values c.loop-at.at (omega arith) (sym c.if-not-is_spaced.ensures) c.loop-at.invariant.1 in
    (omega arith, ap (λ vs. behind vs (values_of c.args.size (drop (c.loop-at.at + 2) c.args.line.now))) (c.in_ok-push.ensures.ok ∙ ap (λ v. c.loop-at.values ++ v ∷ []) c.from.ensures) ∙ here)
