-- What the phases of the final pass come to: the test of one pair, and the answer by cases.
use Rattle.std.specs.Prelude.{ℕ, ◌≡◌, ◌≢◌, List, [], ◌∷◌, Option, Some, None, length}
use Rattle.uc_term.specs.declared.equation.Equation.{Equation}
use Rattle.uc_order.specs.Laws.{Meaning}
use Rattle.uc_fact.specs.declared.fact.Fact.{Fact}
use Rattle.uc_fact.specs.declared.fact.Overlap.{Overlap}
use Rattle.uc_fact.specs.declared.fact.Origin.{Origin}
use Rattle.uc_fact.specs.Live.{Live, equations_of}
use Rattle.uc_pair.specs.declared.formed.Formed.{Formed}
use Rattle.uc_ground.specs.Joining.{IsJoined}
use Rattle.uc_shelf.specs.declared.entry.Entry.{Entry}
use Rattle.uc_machine.specs.declared.state.Stage.{Stage}
use Rattle.uc_machine.specs.declared.task.Missing.{Missing}
use Rattle.uc_machine.specs.declared.task.Outcome.{Outcome}
use Rattle.uc_machine.specs.declared.task.Outcome.TheVariants.{Convergent, Missing as Lacks, Large, GoalUnsettled}
use Rattle.uc_machine.specs.Results.{Trial, IsTrial, GivesFact}
use Rattle.uc_machine.specs.Finals.{first_large}
use Rattle.uc_final.specs.Stages.{first_stuck_stage}

module _ (m : Meaning) (axioms : List Equation) (entries : List Entry) where
  -- the pair is joined, or it is missing, with the fact that its ends give
  pub data IsTested (o : Origin) : Option Missing → Type 0 where
    is_joined : (t : Trial) → IsTrial m axioms entries o t → IsJoined t.answer → IsTested o None
    is_missing : {f : Fact} (t : Trial) → IsTrial m axioms entries o t → (IsJoined t.answer → ⊥) → GivesFact m o (length entries) t f → IsTested o (Some (record { origin = o; fact = f; open_case = t.answer }))

-- the list of what there is
abbrev pub list_of : Option Missing → List Missing
list_of None = []
list_of (Some x) = x ∷ []

-- the answer by the missing equations, the overlaps, the goals' states and the facts that live, the first case that holds
pub data ByCases (ms : List Missing) (fs : List Formed) (stages : List Stage) (facts : List Live) : Outcome → Type 0 where
  some_missing : ms ≢ [] → ByCases ms fs stages facts (Lacks ms)
  some_large : {o : Overlap} → ms ≡ [] → first_large fs ≡ Some o → ByCases ms fs stages facts (Large o)
  some_stuck : {g : ℕ} → ms ≡ [] → first_large fs ≡ None → first_stuck_stage stages ≡ Some g → ByCases ms fs stages facts (GoalUnsettled g)
  none_left : ms ≡ [] → first_large fs ≡ None → first_stuck_stage stages ≡ None → ByCases ms fs stages facts (Convergent (record { facts = equations_of facts }))
