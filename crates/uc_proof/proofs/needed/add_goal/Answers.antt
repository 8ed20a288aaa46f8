use Rattle.std.proofs.Common.{◌↔◌, ◌⊎◌, ◌<◌, ℕ, List, Option, length, slice_get, sym, ap, ◌∙◌, subst}
use Rattle.std.specs.Result.{OnOk}
use Rattle.std.proofs.lemmas.Result.{on_ok_weaker}
use Rattle.std.proofs.lemmas.Option.{slice_get-get_or}
use Rattle.uc_proof.specs.declared.aim.Aim.{Aim}
use Rattle.uc_proof.specs.declared.part.Part.{Part}
use Rattle.uc_proof.specs.Making.{IsAmong, IsGoalPart, IsWithin}
use Rattle.uc_proof.proofs.Using.{goal_added}
use Rattle.uc_proof.proofs.needed.add_goal.Goals as goal

pub returns-in_ok-add-in-Goal : goal.returns-in_ok-add-in-Goal
returns-in_ok-add-in-Goal c =
    let within : c.in-Goal.goal < length c.args.encoded.now.goal_clauses = subst (IsWithin c.args.encoded.now) c.in-Goal.is c.requires in
    subst (λ (a : Aim). OnOk c.add-in-Goal.result ((p : Part) → IsAmong p c.add-in-Goal.new.self ↔ (IsAmong p c.args.needed.now ⊎ IsGoalPart c.args.encoded.now a p))) (sym c.in-Goal.is)
    (on_ok_weaker c.add-in-Goal.result (λ last. goal_added c.args.encoded.now c.in-Goal.chain c.in-Goal.goal _ (ap (λ (l : List (Option ℕ)). slice_get l c.in-Goal.goal) (sym c.as_slice.ensures) ∙ slice_get-get_or c.as_slice.result.now c.in-Goal.goal _ (subst (λ (l : List (Option ℕ)). c.in-Goal.goal < length l) (sym c.as_slice.ensures) within))
    c.args.needed.now c.add_clause.new.needed c.add.new.self c.add-in-Goal.new.self c.in_ok-add_clause-in-Goal.ensures c.in_ok-add-in-Goal.ensures last) c.add-in-Goal.ensures)
