use Rattle.std.proofs.Common.{sym, ◌∙◌, subst}
use Rattle.uc_proof.specs.Making.{IsAmong}
use Rattle.uc_proof.proofs.Same.{same, decides}
use Rattle.uc_proof.proofs.Among.{any_among}
use Rattle.uc_proof.proofs.needed.Needed.has.Goals as goal

pub returns : goal.returns
returns c =
    let m = any_among same decides c.args.part c.self.inside.parts.keys in
    (λ t. subst (IsAmong c.args.part) c.self.view_is (m.0 (sym c.contains.ensures ∙ t)), λ h. c.contains.ensures ∙ m.1 (subst (IsAmong c.args.part) (sym c.self.view_is) h))
