use Rattle.std.proofs.Common.{◌↔◌, ◌⊎◌, sym, subst}
use Rattle.uc_problem.specs.declared.problem.Source.{Source}
use Rattle.uc_proof.specs.declared.part.Part.TheVariants as part
use Rattle.uc_proof.specs.Making.{IsAmong, IsGoalOf}
use Rattle.uc_proof.proofs.Among.{turn, beside}
use Rattle.uc_proof.proofs.needed.add_source.Goals as goal

pub returns-in_ok-add-in-Goal : goal.returns-in_ok-add-in-Goal
returns-in_ok-add-in-Goal c = λ p.
    subst (λ (s : Source). IsAmong p c.add.new.self ↔ (IsAmong p c.args.needed.now ⊎ (IsAmong (part.Axiom c.args.number) c.args.needed.now × IsGoalOf s p))) (sym c.in-Goal.is)
    (beside (c.has.ensures.0 c.if-has.true) (turn (c.in_ok-add-in-Goal.ensures p)))
