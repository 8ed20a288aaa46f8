use Rattle.std.proofs.Common.{List, map, sym, subst}
use Rattle.uc_fact.specs.declared.chain.Chain.{Chain}
use Rattle.uc_fact.specs.declared.fact.Fact.{Fact}
use Rattle.uc_proof.specs.declared.aim.Aim.TheVariants as aim
use Rattle.uc_proof.specs.Chains.{conclusion_of}
use Rattle.uc_proof.specs.Making.{IsReached}
use Rattle.uc_proof.specs.Extracted.{IsDerivation}
use Rattle.uc_proof.proofs.Reversal.{goal_reached}
use Rattle.uc_proof.proofs.Right.{all_right, refutes_last}
use Rattle.uc_proof.proofs.InOrder.{derivation_in_order}
use Rattle.uc_proof.proofs.extraction.extract_from.Goals as goal

pub derivation-requires-clause-reached : goal.derivation-requires-clause-reached
derivation-requires-clause-reached c =
    let facts : List Fact = map (λ f. f.now) c.args.facts.now in
    subst (λ (way : Chain). IsReached c.args.encoded.now facts (aim.Goal way c.args.goal)) (sym c.in_ok-chain.ensures) (goal_reached c.args.encoded.now facts c.args.left.now c.args.right.now c.args.goal c.requires.goal)

pub returns-clause-extracted : goal.returns-clause-extracted
returns-clause-extracted c =
    let facts : List Fact = map (λ f. f.now) c.args.facts.now in
    subst (λ (way : Chain). IsDerivation c.args.problem.now c.args.encoded.now facts (aim.Goal way c.args.goal) c.in_ok-extracted.extracted.proof.lines c.in_ok-extracted.extracted.files) c.in_ok-chain.ensures c.in_ok-extracted.ensures.0

pub returns-clause-right : goal.returns-clause-right
returns-clause-right c =
    let facts : List Fact = map (λ f. f.now) c.args.facts.now in
    all_right c.args.problem.now c.args.encoded.now facts (aim.Goal (conclusion_of c.args.left.now c.args.right.now) c.args.goal) c.in_ok-extracted.extracted.proof.lines c.in_ok-extracted.extracted.files c.requires.encoding (returns-clause-extracted c) c.requires.facts
    (goal_reached c.args.encoded.now facts c.args.left.now c.args.right.now c.args.goal c.requires.goal)

pub returns-clause-refutes : goal.returns-clause-refutes
returns-clause-refutes c =
    let facts : List Fact = map (λ f. f.now) c.args.facts.now in
    refutes_last c.args.problem.now c.args.encoded.now facts (aim.Goal (conclusion_of c.args.left.now c.args.right.now) c.args.goal) c.in_ok-extracted.extracted.proof.lines c.in_ok-extracted.extracted.files c.requires.encoding (returns-clause-extracted c) tt

pub returns-clause-in_order : goal.returns-clause-in_order
returns-clause-in_order c =
    let facts : List Fact = map (λ f. f.now) c.args.facts.now in
    derivation_in_order c.args.problem.now c.args.encoded.now facts (aim.Goal (conclusion_of c.args.left.now c.args.right.now) c.args.goal) c.in_ok-extracted.extracted.proof.lines c.in_ok-extracted.extracted.files (returns-clause-extracted c)
