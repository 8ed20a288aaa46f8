use Rattle.std.proofs.Common.{◌-◌, arith}
use Rattle.uc_proof.proofs.Writing.{before_last}
use Rattle.uc_proof.proofs.conclusion.term_before.Goals as goal

pub returns-else-number-eq0 : goal.returns-else-number-eq0
returns-else-number-eq0 c =
    let some = c.if-number-eq0.false in
    let fits = c.requires in
    before_last c.args.start.now c.args.steps.now c.args.number (c.args.number - 1) c.index-steps-number.result (omega arith) (omega arith)
