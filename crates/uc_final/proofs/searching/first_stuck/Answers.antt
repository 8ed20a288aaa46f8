use Rattle.std.proofs.Common.{◌≡◌, ◌∙◌, ◌<◌, length, sym, ap, arith}
use Rattle.std.proofs.lemmas.List.{get_or_default}
use Rattle.uc_machine.specs.Finals.{is_stuck}
use Rattle.uc_final.proofs.Firsts.{stuck_at, stuck_nowhere}
use Rattle.uc_final.proofs.searching.first_stuck.Goals as goal

pub returns-then-is_stuck : goal.returns-then-is_stuck
returns-then-is_stuck c =
    let stages = c.args.stages.now in
    let k = c.loop-k.k in
    let within : k < length stages = omega arith in
    sym (stuck_at stages k within (λ d. ap is_stuck (get_or_default stages k d _ within) ∙ sym c.is_stuck.ensures ∙ c.if-is_stuck.true) c.loop-k.invariant)

pub returns : goal.returns
returns c =
    let all : length c.args.stages.now ≡ c.loop-k.k = omega arith in
    sym (stuck_nowhere c.args.stages.now (λ j d h. c.loop-k.invariant j d (omega arith)))
