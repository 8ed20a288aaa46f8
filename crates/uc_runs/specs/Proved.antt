-- What a run comes to whose verdict is that a goal is proved.
use Rattle.std.specs.Prelude.{ℕ, ◌≡◌, slice_get, Some}
use Rattle.uc_term.specs.declared.equation.Equation.{Equation}
use Rattle.uc_term.specs.Tree.{Tree}
use Rattle.uc_rewrite.specs.Replay.{LeadsFrom}
use Rattle.uc_shelf.specs.Entries.{born}
use Rattle.uc_machine.specs.State.{Opening, State, Target}

-- the goal of this number is one of the opening's, and its two chains lead from its sides to one term, over the axioms and the
-- facts that are born
pub record IsProved (o : Opening) (s : State) (goal : ℕ) : Type 0 where
  pub equation : Equation
  pub equation_is : slice_get o.goals goal ≡ Some equation
  pub target : Target
  pub target_is : slice_get s.goals goal ≡ Some target
  pub meeting : Tree
  pub left_leads : LeadsFrom o.axioms (born s.entries) target.left equation.left meeting
  pub right_leads : LeadsFrom o.axioms (born s.entries) target.right equation.right meeting
