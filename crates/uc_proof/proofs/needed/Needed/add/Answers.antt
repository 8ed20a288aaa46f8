use Rattle.std.proofs.Common.{◌≡◌, ◌↔◌, ◌⊎◌, List, subst}
use Rattle.uc_proof.specs.declared.part.Part.{Part}
use Rattle.uc_proof.specs.Making.{IsAmong}
use Rattle.uc_proof.proofs.Same.{same, decides}
use Rattle.uc_proof.proofs.Among.{inserted}
use Rattle.uc_proof.proofs.needed.Needed.add.Goals as goal

pub returns : goal.returns
returns c = λ p. subst (λ (old : List Part). IsAmong p c.insert.new.self.keys ↔ ((c.args.part ≡ p) ⊎ IsAmong p old)) c.self.view_is (inserted same decides c.args.part c.self.inside.parts.keys c.insert.new.self.keys c.in_ok-insert.ensures.keys p)
