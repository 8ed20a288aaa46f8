-- The final answer, from what the phases come to.
use Rattle.std.proofs.Common.{◌≡◌, List, Bool, true, false, sym, ap, ◌∙◌, subst}
use Rattle.std.specs.Prelude.{◌↔◌, IsTrue}
use Rattle.uc_term.specs.declared.equation.Equation.{Equation}
use Rattle.uc_order.specs.Laws.{Meaning}
use Rattle.uc_fact.specs.Live.{Live}
use Rattle.uc_pair.specs.declared.formed.Formed.{Formed}
use Rattle.uc_shelf.specs.declared.entry.Entry.{Entry}
use Rattle.uc_shelf.specs.Entries.{live}
use Rattle.uc_machine.specs.declared.state.Stage.{Stage}
use Rattle.uc_machine.specs.declared.task.Missing.{Missing}
use Rattle.uc_machine.specs.declared.task.Outcome.{Outcome}
use Rattle.uc_machine.specs.declared.task.Outcome.TheVariants.{GoalUnsettled}
use Rattle.uc_machine.specs.State.{State}
use Rattle.uc_machine.specs.Finals.{AllOverlaps, TestsAll, IsFinal, some_missing as is_lacking, some_large as is_large, some_stuck as is_stuck_at, all_converges}
use Rattle.uc_final.specs.Stages.{stages_of}
use Rattle.uc_final.specs.Phases.{ByCases, some_missing, some_large, some_stuck, none_left}
use Rattle.uc_final.proofs.Firsts.{stuck_goal, no_stuck_goal}

pub not_of : {P : Type 0} (b : Bool) → b ≡ false → (IsTrue b ↔ P) → P → ⊥
not_of b e h p = (let t : b ≡ true = h.1 p in absurd cc)

module _ (m : Meaning) (axioms : List Equation) (s : State) (fs : List Formed) (ms : List Missing) (stages : List Stage) where
  by_cases : AllOverlaps m (live s.entries) (live s.entries) fs → TestsAll m axioms s.entries fs ms → stages_of s.goals ≡ stages → (outcome : Outcome) → ByCases ms fs stages (live s.entries) outcome → IsFinal m axioms s outcome
  by_cases all tests e _ (some_missing ne) = is_lacking all tests ne
  by_cases all tests e _ (some_large em h) = is_large all (subst (TestsAll m axioms s.entries fs) em tests) h
  by_cases all tests e _ (some_stuck {g = g} em h k) =
      let at = stuck_goal s.goals stages g e k in
      subst (λ n. IsFinal m axioms s (GoalUnsettled n)) at.number_is (is_stuck_at at.goal all (subst (TestsAll m axioms s.entries fs) em tests) h at.is)
  by_cases all tests e _ (none_left em h k) = all_converges all (subst (TestsAll m axioms s.entries fs) em tests) h (no_stuck_goal s.goals stages e k)

  pub concluded : (entries : List Entry) (facts : List Live) (outcome : Outcome) → s.entries ≡ entries → facts ≡ live entries → AllOverlaps m facts facts fs → TestsAll m axioms entries fs ms → stages_of s.goals ≡ stages → ByCases ms fs stages facts outcome → IsFinal m axioms s outcome
  concluded entries facts outcome e l all tests g c =
      let now : facts ≡ live s.entries = l ∙ ap live (sym e) in
      by_cases (subst (λ js. AllOverlaps m js js fs) now all) (subst (λ es. TestsAll m axioms es fs ms) (sym e) tests) g outcome (subst (λ js. ByCases ms fs stages js outcome) now c)
