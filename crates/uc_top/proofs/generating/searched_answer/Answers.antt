use Rattle.std.proofs.Common.{◌∙◌}
use Rattle.uc_ordering.specs.Chosen.{chosen_meaning, meaning_is}
use Rattle.uc_top.proofs.GenPosed.{symbols_are, behind_first}
use Rattle.uc_top.proofs.GenTelling.{over_by, lowest_by, completed_by}
use Rattle.uc_top.proofs.generating.searched_answer.Goals as goal

pub told_answer-requires-clause-over : goal.told_answer-requires-clause-over
told_answer-requires-clause-over g c κs within =
    let p = c.requires.posed in
    over_by c.args.command.now p.0 p.1 c.args.symbols.now c.args.problem.now c.args.spec.now p.2 (chosen_meaning c.in_ok-order.order) c.in_ok-encoded.encoded (meaning_is c.args.symbols.now c.args.spec.now c.in_ok-order.order c.in_ok-order.ensures.order) c.in_ok-encoded.ensures

pub told_answer-requires-clause-lowest : goal.told_answer-requires-clause-lowest
told_answer-requires-clause-lowest g c κs within =
    let p = c.requires.posed in
    lowest_by c.args.command.now p.0 p.1 c.args.symbols.now c.args.problem.now c.args.spec.now p.2 (chosen_meaning c.in_ok-order.order) _ (meaning_is c.args.symbols.now c.args.spec.now c.in_ok-order.order c.in_ok-order.ensures.order) (behind_first c.as_slice-2.result.now p.2.generated.f p.2.generated.constants (c.as_slice-2.ensures ∙ symbols_are p.0 p.1 c.args.symbols.now c.args.problem.now c.args.spec.now p.2))

pub returns : goal.returns
returns g c n start posed = completed_by c.args.command.now n start c.args.symbols.now c.args.problem.now c.args.spec.now posed (chosen_meaning c.in_ok-order.order) _ c.in_ok-encoded.encoded c.told_answer.result (meaning_is c.args.symbols.now c.args.spec.now c.in_ok-order.order c.in_ok-order.ensures.order) (behind_first c.as_slice-2.result.now posed.generated.f posed.generated.constants (c.as_slice-2.ensures ∙ symbols_are n start c.args.symbols.now c.args.problem.now c.args.spec.now posed)) c.in_ok-encoded.ensures c.told_answer.ensures
