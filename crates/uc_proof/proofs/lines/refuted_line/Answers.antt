use Rattle.std.proofs.Common.{◌∷◌, [], Some, None, refl}
use Rattle.uc_proof.specs.declared.aim.Aim.TheVariants as aim
use Rattle.uc_proof.proofs.Saying.{goal_at, as_refutation, denied_said, encoded_said}
use Rattle.uc_proof.proofs.lines.refuted_line.Goals as goal

pub returns-in_ok-parents-in-Some : goal.returns-in_ok-parents-in-Some
returns-in_ok-parents-in-Some c = λ problem facts way.
    let at = goal_at c.args.plan.now c.args.encoded.now.goal_clauses c.as_slice.result.now c.args.goal _ (Some c.in-Some.clause) c.as_slice.ensures c.requires.1 c.in-Some.is in
    denied_said problem c.args.encoded.now facts (aim.Goal way c.args.goal) c.args.plan.now c.refute_line.result c.args.name way c.args.goal c.in-Some.clause c.number.result c.number-chain.result refl at c.number.ensures c.number-chain.ensures
    (as_refutation c.refute_line.result c.args.name c.in_ok-parents-in-Some.parents (c.number.result ∷ c.number-chain.result ∷ []) c.in_ok-parents-in-Some.ensures c.refute_line.ensures)

pub returns-in_ok-parents-in-None : goal.returns-in_ok-parents-in-None
returns-in_ok-parents-in-None c = λ problem facts way.
    let at = goal_at c.args.plan.now c.args.encoded.now.goal_clauses c.as_slice.result.now c.args.goal _ None c.as_slice.ensures c.requires.1 c.in-None.is in
    encoded_said problem c.args.encoded.now facts (aim.Goal way c.args.goal) c.args.plan.now c.refute_line-in-None.result c.args.name way c.args.goal c.number-chain.result refl at c.number-chain.ensures
    (as_refutation c.refute_line-in-None.result c.args.name c.in_ok-parents-in-None.parents (c.number-chain.result ∷ []) c.in_ok-parents-in-None.ensures c.refute_line-in-None.ensures)
