use Rattle.std.proofs.Common.{◌↔◌, ◌⊎◌, ℕ, List, sym, subst}
use Rattle.std.specs.Result.{OnOk}
use Rattle.uc_fact.specs.declared.chain.Step.{Step}
use Rattle.uc_proof.specs.declared.aim.Aim.{Aim}
use Rattle.uc_proof.specs.declared.part.Part.{Part}
use Rattle.uc_proof.specs.Making.{IsAmong, IsNamedPart, IsFactPart, IsAimedPart}
use Rattle.uc_proof.proofs.needed.add_aimed.Goals as goal

pub returns-in-Goal : goal.returns-in-Goal
returns-in-Goal c =
    subst (λ (a : Aim). OnOk c.add_named.result ((p : Part) → IsAmong p c.add_named.new.needed ↔ (IsAmong p c.args.needed.now ⊎ IsAimedPart a p))) (sym c.in-Goal.is)
    (subst (λ (ss : List Step). OnOk c.add_named.result ((p : Part) → IsAmong p c.add_named.new.needed ↔ (IsAmong p c.args.needed.now ⊎ IsNamedPart ss p))) c.as_slice.ensures c.add_named.ensures)

pub returns-in-Facts : goal.returns-in-Facts
returns-in-Facts c =
    subst (λ (a : Aim). OnOk c.add_facts.result ((p : Part) → IsAmong p c.add_facts.new.needed ↔ (IsAmong p c.args.needed.now ⊎ IsAimedPart a p))) (sym c.in-Facts.is)
    (subst (λ (ns : List ℕ). OnOk c.add_facts.result ((p : Part) → IsAmong p c.add_facts.new.needed ↔ (IsAmong p c.args.needed.now ⊎ IsFactPart ns p))) c.as_slice-in-Facts.ensures c.add_facts.ensures)
