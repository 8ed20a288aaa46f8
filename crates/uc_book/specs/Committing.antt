-- What a commit finds in the parts of a book.
use Rattle.std.specs.Prelude.{◌≡◌, ⊤, ℕ, ◌+◌, ◌≤◌, Bool, cond, length}
use Rattle.uc_fact.specs.declared.fact.Stop.{Stop}
use Rattle.uc_fact.specs.declared.fact.Stop.TheVariants.{Full, Steps, Size}
use Rattle.uc_machine.specs.declared.state.Stage.{Stage}
use Rattle.uc_machine.specs.declared.state.Stage.TheVariants.{Due, Continued, Settled, Stuck}
use Rattle.uc_machine.specs.declared.event.GoalEnd.{GoalEnd}
use Rattle.uc_machine.specs.declared.event.Happening.{Happening}
use Rattle.uc_machine.specs.declared.event.Happening.TheVariants.{CommitGoal, CommitMore}
use Rattle.uc_machine.specs.declared.task.Job.{Job}
use Rattle.uc_machine.specs.declared.task.Job.TheVariants.{Goal, More, Meet, Join}
use Rattle.uc_machine.specs.declared.task.Finding.{Finding}
use Rattle.uc_machine.specs.declared.task.Finding.TheVariants.{Ends, Joined, Kept, Stale, Met}
use Rattle.uc_rows.specs.Rising.{AreRising, AreBelow}

-- the state of a goal whose ends differ, where the entries have grown or not
abbrev pub stage_by : Stop → Bool → Stage
stage_by Steps grown = Continued
stage_by Full grown = cond grown Due Settled
stage_by Size grown = cond grown Due Stuck

-- the job is about this goal
abbrev pub IsGoalJob : Job → ℕ → Type 0
IsGoalJob (Goal g l r) n = g ≡ n
IsGoalJob (More g l r) n = g ≡ n
IsGoalJob (Meet i) n = ⊥
IsGoalJob (Join p o) n = ⊥

abbrev pub HasGoal : Job → Type 0
HasGoal (Goal g l r) = ⊤
HasGoal (More g l r) = ⊤
HasGoal (Meet i) = ⊥
HasGoal (Join p o) = ⊥

-- the job is about this pair
abbrev pub IsPairJob : Job → ℕ → Type 0
IsPairJob (Goal g l r) n = ⊥
IsPairJob (More g l r) n = ⊥
IsPairJob (Meet i) n = ⊥
IsPairJob (Join p o) n = p ≡ n

-- the event of its commit
abbrev pub commit_word : Job → ℕ → ℕ → GoalEnd → Happening
commit_word (Goal g l r) n steps end = CommitGoal n steps end
commit_word (More g l r) n steps end = CommitMore n steps end
commit_word (Meet i) n steps end = CommitGoal n steps end
commit_word (Join p o) n steps end = CommitGoal n steps end

-- What is known of a result by its job alone: of which kind it is, how many steps it has, and that the facts that a fact
-- replaces are earlier and rise.
abbrev pub IsFor : Job → Finding → Type 0
IsFor (Goal g l r) (Ends a b stop) = length a.steps + length b.steps ≤ 4096
IsFor (More g l r) (Ends a b stop) = length a.steps + length b.steps ≤ 4096
IsFor (Join p o) (Joined why) = ⊤
IsFor (Join p o) (Kept f) = ⊤
IsFor (Meet i) (Stale k) = ⊤
IsFor (Meet i) (Met ks fs) = AreRising 0 ks × AreBelow i ks
IsFor j f = ⊥

-- the result is that of a pair
abbrev pub IsForPair : Finding → Type 0
IsForPair (Ends a b stop) = ⊥
IsForPair (Joined why) = ⊤
IsForPair (Kept f) = ⊤
IsForPair (Stale k) = ⊥
IsForPair (Met ks fs) = ⊥

-- the result is that of a goal
abbrev pub HasEnds : Finding → Type 0
HasEnds (Ends a b stop) = ⊤
HasEnds (Joined why) = ⊥
HasEnds (Kept f) = ⊥
HasEnds (Stale k) = ⊥
HasEnds (Met ks fs) = ⊥

abbrev pub HasNoEnds : Finding → Type 0
HasNoEnds f = HasEnds f → ⊥
