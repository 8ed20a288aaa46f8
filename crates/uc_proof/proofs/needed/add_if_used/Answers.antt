use Rattle.std.proofs.Common.{◌↔◌, ◌⊎◌, List, subst}
use Rattle.uc_fact.specs.declared.chain.Step.{Step}
use Rattle.uc_proof.specs.declared.part.Part.TheVariants as part
use Rattle.uc_proof.specs.Making.{IsAmong, IsNamedPart}
use Rattle.uc_proof.proofs.Among.{beside}
use Rattle.uc_proof.proofs.needed.add_if_used.Goals as goal

pub returns-in_ok-add_named : goal.returns-in_ok-add_named
returns-in_ok-add_named c = λ p.
    subst (λ (ss : List Step). IsAmong p c.add_named.new.needed ↔ (IsAmong p c.args.needed.now ⊎ (IsAmong (part.Fact c.args.number) c.args.needed.now × IsNamedPart ss p))) c.as_slice.ensures
    (beside (c.has.ensures.0 c.if-has.true) (c.in_ok-add_named.ensures p))
