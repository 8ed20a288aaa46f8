-- What a search decides that ended saturated, by whatever order and from whatever opening over its signature.
use Rattle.std.proofs.Common.{ℕ, ◌≡◌, List, [], ◌∷◌, slice_get, Some, sym, ap, ◌∙◌, subst}
use Rattle.uc_term.specs.declared.equation.Equation.{Equation}
use Rattle.uc_order.specs.Laws.{Meaning, Laws, HasSym}
use Rattle.uc_fact.specs.declared.fact.System.{System}
use Rattle.uc_fact.specs.Ground.{AreOfSignature}
use Rattle.uc_fact.specs.Live.{equations_of}
use Rattle.uc_rewrite.specs.Replay.{FactsReplay}
use Rattle.uc_shelf.specs.Entries.{live, born}
use Rattle.uc_machine.specs.declared.event.Verdict.{Verdict}
use Rattle.uc_machine.specs.declared.event.Verdict.TheVariants.{Proved, Saturated}
use Rattle.uc_machine.specs.State.{Opening, State}
use Rattle.uc_machine.specs.Runs.{Reaches}
use Rattle.uc_runs.specs.Proved.{IsProved}
use Rattle.uc_runs.specs.Saturated.{IsSaturated}
use Rattle.uc_runs.specs.Signatures.{OpensOver}
use Rattle.uc_runs.proofs.OverRuns.{facts_stay_over}
use Rattle.uc_runs.proofs.ProvedGoals.{proved}
use Rattle.uc_runs.proofs.Replaying.{chains_replay}
use Rattle.uc_runs.proofs.Saturating.{saturated}
use Rattle.uc_worker.specs.Ends.{IsSearchedBy}
use Rattle.uc_final.proofs.Decided.{convergent_decides}
use Rattle.uc_decide.specs.Deciding.{Decides}

-- an opening over a signature, without goals
none_over : (m : Meaning) (es : List Equation) → es ≡ [] → AreOfSignature (HasSym m) m.arity es
none_over m [] none number e at = absurd cc
none_over m (x ∷ es) none number e at = absurd (let bad : x ∷ es ≡ [] = none in cc)

pub opens_without : (m : Meaning) (o : Opening) → AreOfSignature (HasSym m) m.arity o.axioms → o.goals ≡ [] → OpensOver m o
opens_without m o over none = record { axioms = over; goals = none_over m o.goals none }

module _ (m : Meaning) (o : Opening) {workers : ℕ} (v : Verdict) (s : State) (searched : IsSearchedBy m o workers v s) where
  pub searched_reaches : Reaches m o s
  searched_reaches = searched.ended.run.reaches

  pub searched_verdict : s.verdict ≡ Some v
  searched_verdict = searched.ended.stands ∙ ap Some searched.verdict

  has_none : (es : List Equation) (n : ℕ) (e : Equation) → slice_get es n ≡ Some e → es ≡ [] → ⊥
  has_none [] n e at none = absurd cc
  has_none (x ∷ es) n e at none = absurd cc

  -- where there is no goal, none is proved
  pub none_proved : o.goals ≡ [] → (goal : ℕ) → v ≡ Proved goal → ⊥
  none_proved none goal is =
      let p : IsProved o s goal = proved m o goal s searched_reaches (searched_verdict ∙ ap Some is) in
      has_none o.goals goal p.equation p.equation_is none

module _ (m : Meaning) (laws : Laws m) (o : Opening) (opens : OpensOver m o) {workers : ℕ} (s : State) (searched : IsSearchedBy m o workers Saturated s) where
  abbrev facts : List Equation
  facts = equations_of (live s.entries)

  pub facts_over : AreOfSignature (HasSym m) m.arity facts
  facts_over = facts_stay_over m laws o opens s (searched_reaches m o Saturated s searched)

  ends : IsSaturated m o s
  ends = saturated m o s (searched_reaches m o Saturated s searched) (searched_verdict m o Saturated s searched)

  -- the facts that live decide what follows from the axioms
  pub decided : Decides m facts o.axioms
  decided =
      let same : s.entries ≡ ends.drained.entries = ap (λ (x : State). x.entries) ends.closed in
      let system : System = record { facts = equations_of (live ends.drained.entries) } in
      let replays = subst (λ es. FactsReplay o.axioms (born es)) same (chains_replay m o s (searched_reaches m o Saturated s searched)).facts in
      let over = subst (λ es. AreOfSignature (HasSym m) m.arity (equations_of (live es))) same facts_over in
      subst (λ es. Decides m (equations_of (live es)) o.axioms) (sym same) (convergent_decides m laws o.axioms ends.drained system ends.is_final replays over opens.axioms)
