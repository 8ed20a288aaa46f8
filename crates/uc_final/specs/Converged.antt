-- What a convergent answer says of the facts that live, the axioms and the goals.
use Rattle.std.specs.Prelude.{◌≡◌, List, None}
use Rattle.uc_term.specs.declared.equation.Equation.{Equation}
use Rattle.uc_order.specs.Laws.{Meaning}
use Rattle.uc_fact.specs.declared.fact.System.{System}
use Rattle.uc_fact.specs.Live.{AreRising, equations_of}
use Rattle.uc_shelf.specs.Entries.{live}
use Rattle.uc_machine.specs.State.{State}
use Rattle.uc_machine.specs.Finals.{first_stuck}
use Rattle.uc_decide.specs.Converging.{AreJoinableOverlaps, AreJoinableAxioms}

-- The system has the facts that live, in order. By these each overlap of two of them that isn't left out is joinable, and each
-- axiom. No goal is Stuck.
pub record IsConverged (m : Meaning) (axioms : List Equation) (s : State) (system : System) : Type 0 where
  pub facts_are : system.facts ≡ equations_of (live s.entries)
  pub rising : AreRising (live s.entries)
  pub overlaps_join : AreJoinableOverlaps m (live s.entries)
  pub axioms_join : AreJoinableAxioms m (live s.entries) axioms
  pub none_stuck : first_stuck s.goals ≡ None
