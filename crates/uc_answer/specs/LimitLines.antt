-- The lines of a search that a limit ended.
use Rattle.std.specs.Prelude.{ℕ, ◌≡◌, List, ◌++◌, codes, decimal, slice_get, Some}
use Rattle.uc_term.specs.Equations.{side_of}
use Rattle.uc_term.specs.Positions.{IsPlaceOf}
use Rattle.uc_fact.specs.declared.fact.Fact.{Fact}
use Rattle.uc_fact.specs.declared.fact.Overlap.{Overlap}
use Rattle.uc_fact.specs.Live.{equation_of}
use Rattle.uc_shelf.specs.Entries.{born}
use Rattle.uc_machine.specs.declared.event.Verdict.{Verdict}
use Rattle.uc_machine.specs.declared.event.Verdict.TheVariants.{BudgetOut, PairsOut, LargeOverlap, LargeGoal}
use Rattle.uc_machine.specs.State.{State}
use Rattle.uc_words.specs.declared.command.Command.{Command}
use Rattle.uc_answer.specs.PairLines.{overlap_words}

abbrev pub budget_line : ℕ → ℕ → List ℕ
budget_line counted budget = codes "% budget " ++ decimal counted ++ codes " of " ++ decimal budget ++ codes "\n"

abbrev pub pairs_line : ℕ → ℕ → ℕ → List ℕ
pairs_line waiting more limit = codes "% pairs " ++ decimal waiting ++ codes " plus " ++ decimal more ++ codes " of " ++ decimal limit ++ codes "\n"

-- the overlap, at the position of this path
abbrev pub overlap_line : Overlap → List ℕ → List ℕ
overlap_line o path = codes "% size overlap " ++ overlap_words o path ++ codes "\n"

abbrev pub goal_line : ℕ → List ℕ
goal_line goal = codes "% size goal " ++ decimal goal ++ codes "\n"

-- the line of the limit that ended a search, whose book is in this state: the budget is spent, with so many units counted; the
-- limit on pairs is passed, by those that wait and so many new ones; the pair of an overlap is too large, at this position of its
-- outer fact; or a step from an end of a goal is too large
pub data IsLimitLine (command : Command) (s : State) : Verdict → List ℕ → Type 0 where
  budget_is_spent : {counted : ℕ} → IsLimitLine command s (BudgetOut counted) (budget_line counted command.budget)
  limit_is_passed : {waiting more : ℕ} → IsLimitLine command s (PairsOut waiting more) (pairs_line waiting more command.pairs)
  pair_is_large : {o : Overlap} (outer : Fact) (path : List ℕ) → slice_get (born s.entries) o.outer ≡ Some outer → IsPlaceOf (side_of o.outer_side (equation_of outer)) path o.position.0 → IsLimitLine command s (LargeOverlap o) (overlap_line o path)
  step_is_large : {goal : ℕ} → IsLimitLine command s (LargeGoal goal) (goal_line goal)
