-- What is made of the chains is the derivation that they determine.
use Rattle.std.proofs.Common.{◌≡◌, ℕ, ◌≤◌, ◌↔◌, List, length, map, take, slice_get, Some, refl, subst}
use Rattle.uc_term.proofs.Terms.{take_of_length-le}
use Rattle.uc_check.specs.declared.proof.Line.{Line}
use Rattle.uc_fact.specs.declared.fact.Fact.{Fact}
use Rattle.uc_problem.specs.declared.problem.Problem.{Problem}
use Rattle.uc_problem.specs.declared.problem.Encoded.{Encoded}
use Rattle.uc_proof.specs.declared.aim.Aim.{Aim}
use Rattle.uc_proof.specs.declared.part.Part.{Part}
use Rattle.uc_rewrite.specs.Replay.{FactsReplay}
use Rattle.uc_proof.specs.Needed.{IsNeeded}
use Rattle.uc_proof.specs.Parts.{all_parts, Selects}
use Rattle.uc_proof.specs.Files.{part_file}
use Rattle.uc_proof.specs.Written.{AreWritten}
use Rattle.uc_proof.specs.Making.{IsAmong, IsPartReady, IsReached}
use Rattle.uc_proof.specs.Extracted.{IsEncodingOf, IsDerivation}
use Rattle.uc_proof.proofs.Among.{selected_alike, among_get}
use Rattle.uc_proof.proofs.Ready.{plan_ready}

module _ (problem : Problem) (enc : Encoded) (facts : List Fact) (aimed : Aim) (needed plan : List Part) (count : ℕ) (all_facts : count ≡ length facts) (is_needed : (p : Part) → IsAmong p needed ↔ IsNeeded enc facts aimed p) (planned : Selects (λ p. IsAmong p needed) (all_parts problem enc count) plan) where
  selected : Selects (IsNeeded enc facts aimed) (all_parts problem enc (length facts)) plan
  selected = subst (λ (n : ℕ). Selects (IsNeeded enc facts aimed) (all_parts problem enc n) plan) all_facts (selected_alike (λ p. IsAmong p needed) (IsNeeded enc facts aimed) is_needed (all_parts problem enc count) plan planned)

  -- the line of each part can be written
  pub part_ready : IsEncodingOf problem enc → FactsReplay enc.axioms facts → IsReached enc facts aimed → (i : ℕ) (p : Part) → slice_get plan i ≡ Some p → IsPartReady problem enc facts aimed plan p
  part_ready is replay reached i p at = plan_ready problem enc facts aimed plan is replay reached selected p (among_get plan i p at)

  -- the lines that are made
  pub made : (i : ℕ) (lines : List Line) (files : List (List ℕ)) → length plan ≤ i → AreWritten problem enc facts aimed plan 0 (take i plan) lines → files ≡ map (part_file problem enc) plan → (d : IsDerivation problem enc facts aimed lines files) × (d.plan ≡ plan)
  made i lines files all w f = (
    record {
      plan = plan;
      selected = selected;
      written = subst (λ (ps : List Part). AreWritten problem enc facts aimed plan 0 ps lines) (take_of_length-le plan i all) w;
      files_are = f;
    },
    refl,
  )
