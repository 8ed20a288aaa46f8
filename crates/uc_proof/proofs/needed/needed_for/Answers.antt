use Rattle.std.proofs.Common.{◌↔◌, ◌⊎◌, List, map, subst}
use Rattle.uc_problem.specs.declared.problem.Source.{Source}
use Rattle.uc_proof.specs.declared.part.Part.{Part}
use Rattle.uc_proof.specs.Making.{IsAmong, IsAimedPart, IsDeniedFrom}
use Rattle.uc_proof.proofs.Among.{only_right}
use Rattle.uc_proof.proofs.Using.{needs}
use Rattle.uc_proof.proofs.needed.needed_for.Goals as goal

pub returns : goal.returns
returns c p =
    let first : (q : Part) → IsAmong q c.add_aimed.new.needed ↔ IsAimedPart c.args.aim.now q = λ q. only_right (c.in_ok-add_aimed.ensures q) (λ h. subst (IsAmong q) c.new-needed.ensures h) in
    needs c.args.encoded.now (map (λ f. f.now) c.args.facts.now) c.args.aim.now c.add_used.new.needed c.add_denied.new.needed c.add_goal.new.needed
    (c.in_ok-add_used.ensures c.args.aim.now first) (λ q. subst (λ (ss : List Source). IsAmong q c.add_denied.new.needed ↔ (IsAmong q c.add_used.new.needed ⊎ IsDeniedFrom 0 ss c.add_used.new.needed q)) c.as_slice.ensures (c.in_ok-add_denied.ensures q)) c.in_ok-add_goal.ensures p
