use Rattle.uc_proof.specs.declared.aim.Aim.TheVariants as aim
use Rattle.uc_proof.specs.Chains.{conclusion_of}
use Rattle.uc_proof.proofs.Once.{derived_once}
use Rattle.uc_proof.proofs.laws.one_extraction.Goals as goal

pub returns : goal.returns
returns c problem encoded facts left right goal xs ys fs gs is a b = derived_once problem encoded facts (aim.Goal (conclusion_of left right) goal) is xs ys fs gs a b
