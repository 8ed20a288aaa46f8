use Rattle.std.proofs.Common.{subst}
use Rattle.uc_proof.specs.Making.{IsConclusionReady}
use Rattle.uc_proof.proofs.Saying.{conclusion_said}
use Rattle.uc_proof.proofs.lines.conclusion_line.Goals as goal

pub returns : goal.returns
returns c = λ problem facts.
    let ready = subst (IsConclusionReady c.args.encoded.now c.args.plan.now) c.in-Goal.is c.requires in
    conclusion_said problem c.args.encoded.now facts c.args.aim.now c.args.plan.now c.goal_line.result c.args.name c.in-Goal.chain c.in-Goal.goal ready.0 c.in-Goal.is ready.1 (c.goal_line.ensures ready.0 ready.1)
