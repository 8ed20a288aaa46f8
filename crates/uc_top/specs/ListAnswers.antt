-- What `order` and `pairs` answer for a problem.
use Rattle.std.specs.Prelude.{ℕ, ◌≡◌, List, None}
use Rattle.uc_term.specs.declared.equation.Equation.{Equation}
use Rattle.uc_term.specs.Table.{Table}
use Rattle.uc_check.specs.Clauses.{axioms_of}
use Rattle.uc_problem.specs.declared.problem.Problem.{Problem}
use Rattle.uc_order.specs.declared.spec.OrderSpec.{OrderSpec}
use Rattle.uc_order.specs.Laws.{Meaning}
use Rattle.uc_words.specs.declared.command.OrderWords.{OrderWords}
use Rattle.uc_ordering.specs.declared.fault.ChoiceFault.{ChoiceFault}
use Rattle.uc_ordering.specs.declared.fault.ChoiceFault.TheVariants.{NoMemory}
use Rattle.uc_ordering.specs.Choice.{IsChosen, IsChoiceFault}
use Rattle.uc_ordering.specs.Meaning.{meaning_of}
use Rattle.uc_answer.specs.ChoiceLines.{choice_line}
use Rattle.uc_answer.specs.Directions.{AreDirected}
use Rattle.uc_answer.specs.PairLines.{AreOuterLines}
use Rattle.uc_top.specs.declared.listing.Listing.{Listing}
use Rattle.uc_top.specs.declared.listing.Listing.TheVariants.{Directions, CriticalPairs}

-- The lines of axioms by an order: how it directs each; or their critical pairs, where it orients the overlaps of each outer axiom
-- with each inner one.
abbrev pub AreListed : Listing → Table → Meaning → List Equation → List ℕ → Type 0
AreListed Directions table meaning axioms lines = AreDirected table meaning 0 axioms lines
AreListed CriticalPairs table meaning axioms lines = AreOuterLines table meaning axioms 0 axioms lines

-- The order that the words and the defaults name for the problem as it is, without an encoding, lists its axioms; or it is refused.
-- The symbols are those of the table that loading the problem leaves.
pub data IsListed (listing : Listing) (table : Table) (words : OrderWords) (problem : Problem) : ℕ → List ℕ → Type 0 where
  is_unordered : {why : ChoiceFault} → IsChoiceFault table problem.signature words why → (why ≡ NoMemory → ⊥) → IsListed listing table words problem 4 (choice_line why)
  is_listed : {lines : List ℕ} (spec : OrderSpec) → IsChosen table problem.signature words None spec → AreListed listing table (meaning_of table spec) (axioms_of problem.clauses) lines → IsListed listing table words problem 0 lines
