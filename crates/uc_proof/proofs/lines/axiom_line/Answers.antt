use Rattle.std.proofs.Common.{◌∷◌, [], ap, ◌∙◌, subst}
use Rattle.uc_check.specs.declared.proof.LineSource.TheVariants.{Reflexive, EncodeGoal}
use Rattle.uc_problem.specs.declared.problem.Source.TheVariants as source
use Rattle.uc_proof.specs.Making.{IsSourceReady}
use Rattle.uc_proof.proofs.Saying.{source_at, item_is, as_equation, clause_said, reflexive_said, goal_said}
use Rattle.uc_proof.proofs.lines.axiom_line.Goals as goal

pub returns-in-Clause : goal.returns-in-Clause
returns-in-Clause c = λ facts aimed.
    let at = source_at c.args.problem.now c.args.plan.now c.args.encoded.now.sources c.as_slice-2.result.now c.args.number _ (source.Clause c.in-Clause.clause) c.as_slice-2.ensures c.requires.2 c.in-Clause.is in
    clause_said c.args.problem.now c.args.encoded.now facts aimed c.args.plan.now c.denial_line.result c.args.name c.args.number c.in-Clause.clause at (subst (IsSourceReady c.args.problem.now c.args.plan.now) at c.requires.2) c.denial_line.ensures

pub returns-in-Reflexive : goal.returns-in-Reflexive
returns-in-Reflexive c = λ facts aimed.
    let at = source_at c.args.problem.now c.args.plan.now c.args.encoded.now.sources c.as_slice-2.result.now c.args.number _ source.Reflexive c.as_slice-2.ensures c.requires.2 c.in-Reflexive.is in
    reflexive_said c.args.problem.now c.args.encoded.now facts aimed c.args.plan.now c.equation_line.result c.args.name c.args.number c.requires.0 at c.requires.1
    (as_equation c.equation_line.result c.args.name (Reflexive c.new-parents.result) (Reflexive []) c.index-as_slice-number.result c.requires.0 (ap Reflexive c.new-parents.ensures) (c.index-as_slice-number.is ∙ item_is c.args.encoded.now.axioms c.as_slice.result.now c.args.number c.requires.0 c.index-as_slice-number.result c.as_slice.ensures c.requires.1) c.equation_line.ensures)

pub returns-in_ok-parents-in-Goal : goal.returns-in_ok-parents-in-Goal
returns-in_ok-parents-in-Goal c = λ facts aimed.
    let at = source_at c.args.problem.now c.args.plan.now c.args.encoded.now.sources c.as_slice-2.result.now c.args.number _ (source.Goal c.in-Goal.clause) c.as_slice-2.ensures c.requires.2 c.in-Goal.is in
    goal_said c.args.problem.now c.args.encoded.now facts aimed c.args.plan.now c.equation_line-in-Goal.result c.args.name c.args.number c.in-Goal.clause c.number.result c.requires.0 at c.requires.1 c.number.ensures
    (as_equation c.equation_line-in-Goal.result c.args.name (EncodeGoal c.in_ok-parents-in-Goal.parents) (EncodeGoal (c.number.result ∷ [])) c.index-as_slice-number.result c.requires.0 (ap EncodeGoal c.in_ok-parents-in-Goal.ensures) (c.index-as_slice-number.is ∙ item_is c.args.encoded.now.axioms c.as_slice.result.now c.args.number c.requires.0 c.index-as_slice-number.result c.as_slice.ensures c.requires.1) c.equation_line-in-Goal.ensures)
