use Rattle.uc_proof.specs.declared.aim.Aim.TheVariants as aim
use Rattle.uc_proof.specs.Chains.{conclusion_of}
use Rattle.uc_proof.proofs.Reversal.{goal_reached}
use Rattle.uc_proof.proofs.Right.{all_right, refutes_last}
use Rattle.uc_proof.proofs.InOrder.{derivation_in_order}
use Rattle.uc_proof.proofs.Printing.{printable_lines, conclusion_printable}
use Rattle.uc_proof.proofs.laws.extraction_is_right.Goals as goal

pub returns-clause-right : goal.returns-clause-right
returns-clause-right c problem encoded facts left right goal lines files is replay proves x = (
  all_right problem encoded facts (aim.Goal (conclusion_of left right) goal) lines files is x replay (goal_reached encoded facts left right goal proves),
  refutes_last problem encoded facts (aim.Goal (conclusion_of left right) goal) lines files is x tt,
)

pub returns-clause-in_order : goal.returns-clause-in_order
returns-clause-in_order c problem encoded facts left right goal lines files x = derivation_in_order problem encoded facts (aim.Goal (conclusion_of left right) goal) lines files x

pub returns-clause-printable : goal.returns-clause-printable
returns-clause-printable c table problem encoded facts left right goal lines files x can = printable_lines table problem encoded facts (aim.Goal (conclusion_of left right) goal) lines files x can.parts (conclusion_printable table left right can.left_chain can.right_chain)
