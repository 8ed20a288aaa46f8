use Rattle.std.proofs.Common.{◌≡◌, ◌∙◌, ap, sym, subst, List, ◌++◌, arith}
use Rattle.uc_check.specs.Clauses.{equation_of}
use Rattle.uc_table.specs.declared.search_steps.Step.{Step}
use Rattle.uc_table.specs.SearchSteps.{AreSteps}
use Rattle.uc_table.specs.SearchForms.{steps_of}
use Rattle.uc_table.specs.Tables.{MOST_ASSIGNMENTS}
use Rattle.uc_table.specs.Checks.{variables_in, variable_count}
use Rattle.uc_table.specs.Against.{nodes_variables}
use Rattle.uc_table.proofs.Assignments.{whole_variables}
use Rattle.uc_table.proofs.SearchLayouts.{fewer_powers}
use Rattle.uc_table.proofs.SearchEnds.{steps_both, steps_fit}
use Rattle.uc_table.proofs.search_layout.Layout.form_of.Goals as goal

pub add_steps-requires-clause-few : goal.add_steps-requires-clause-few
add_steps-requires-clause-few c =
    let v : nodes_variables c.as_nodes.result.now ≡ variables_in c.args.clause.now.left = ap nodes_variables c.as_nodes.ensures.value ∙ whole_variables c.args.clause.now.left in
    fewer_powers c.args.self.now.size (nodes_variables c.as_nodes.result.now) (variable_count (equation_of c.args.clause.now)) MOST_ASSIGNMENTS c.requires.laid_out.some (omega arith) c.requires.few

pub add_steps-requires-2-clause-few : goal.add_steps-requires-2-clause-few
add_steps-requires-2-clause-few c =
    let v : nodes_variables c.as_nodes-2.result.now ≡ variables_in c.args.clause.now.right = ap nodes_variables c.as_nodes-2.ensures.value ∙ whole_variables c.args.clause.now.right in
    fewer_powers c.args.self.now.size (nodes_variables c.as_nodes-2.result.now) (variable_count (equation_of c.args.clause.now)) MOST_ASSIGNMENTS c.requires.laid_out.some (omega arith) c.requires.few

pub reads_of-requires-clause-steps : goal.reads_of-requires-clause-steps
reads_of-requires-clause-steps c =
    let sy = c.args.symbols.now in
    let size = c.args.self.now.size in
    let sg = c.args.signature.now in
    let lay = c.requires.laid_out in
    let left : AreSteps size (steps_of sy size sg c.as_nodes.result.now) = steps_fit sy size sg lay.some lay.few c.as_nodes.result.now in
    let right : AreSteps size (steps_of sy size sg c.as_nodes-2.result.now) = steps_fit sy size sg lay.some lay.few c.as_nodes-2.result.now in
    let first : AreSteps size (c.new-steps.result.items ++ steps_of sy size sg c.as_nodes.result.now) = subst (λ (z : List Step). AreSteps size (z ++ steps_of sy size sg c.as_nodes.result.now)) (sym c.new-steps.ensures.items) left in
    let one : AreSteps size c.add_steps.new.steps.items = subst (λ (z : List Step). AreSteps size z) (sym c.in_ok-add_steps.ensures) first in
    let both : AreSteps size (c.add_steps.new.steps.items ++ steps_of sy size sg c.as_nodes-2.result.now) = steps_both size c.add_steps.new.steps.items (steps_of sy size sg c.as_nodes-2.result.now) one right in
    let all : AreSteps size c.add_steps-2.new.steps.items = subst (λ (z : List Step). AreSteps size z) (sym c.in_ok-add_steps-2.ensures) both in
    subst (λ (z : List Step). AreSteps size z) (sym c.deref.ensures.value) all
