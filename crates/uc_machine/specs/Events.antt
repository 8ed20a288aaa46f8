-- What is counted in a history.
use Rattle.std.specs.Prelude.{ℕ, ◌+◌, ◌==◌, ◌&&◌, List, [], ◌∷◌, ◌++◌, Bool, true, false, cond, Option, Some, None, slice_get, count_by}
use Rattle.uc_machine.specs.declared.state.Numbers.{Numbers}
use Rattle.uc_machine.specs.declared.event.Event.{Event}
use Rattle.uc_machine.specs.declared.event.GoalEnd.{GoalEnd}
use Rattle.uc_machine.specs.declared.event.Happening.{Happening}
use Rattle.uc_machine.specs.declared.event.Happening.TheVariants.{DrawMore, DrawJoin, CommitGoal, CommitMore, CommitMeet, CommitJoined, CommitKept, CommitLate, ReclaimGoal, ReclaimMore, ReclaimMeet, ReclaimJoin, AuditKept}
use Rattle.uc_machine.specs.State.{Out, is_draw}

abbrev pub is_unit_draw : Happening → Bool
is_unit_draw (DrawMore g n) = true
is_unit_draw (DrawJoin p n) = true
is_unit_draw h = false

abbrev pub unit_draw : Option Event → ℕ
unit_draw None = 0
unit_draw (Some e) = cond (is_unit_draw e.what) 1 0

-- A counted unit: the commit of a Join or of a More, or an audit that keeps a fact. A late commit tells its ticket alone, so
-- its task is that of the draw of this number.
abbrev pub unit_in : List Event → Happening → ℕ
unit_in ds (CommitMore g n e) = 1
unit_in ds (CommitJoined p) = 1
unit_in ds (CommitKept p f) = 1
unit_in ds (CommitLate t) = unit_draw (slice_get ds t)
unit_in ds (AuditKept f) = 1
unit_in ds h = 0

abbrev pub draw_in : Event → List Event
draw_in e = cond (is_draw e) (e ∷ []) []

-- the units among some events, after these draws
abbrev pub units_after : List Event → List Event → ℕ
units_after ds [] = 0
units_after ds (e ∷ es) = unit_in ds e.what + units_after (ds ++ draw_in e) es

-- how many counted units a history has
abbrev pub units : List Event → ℕ
units h = units_after [] h

abbrev pub is_commit_what : Happening → Bool
is_commit_what (CommitGoal g n e) = true
is_commit_what (CommitMore g n e) = true
is_commit_what (CommitMeet i p k) = true
is_commit_what (CommitJoined p) = true
is_commit_what (CommitKept p f) = true
is_commit_what (CommitLate t) = true
is_commit_what h = false

abbrev pub is_reclaim_what : Happening → Bool
is_reclaim_what (ReclaimGoal g) = true
is_reclaim_what (ReclaimMore g) = true
is_reclaim_what (ReclaimMeet i) = true
is_reclaim_what (ReclaimJoin p) = true
is_reclaim_what h = false

-- how many tasks a worker drew, how many commit events it has, late ones too, and how many of its tasks were put back
abbrev pub draws_by : ℕ → List Event → ℕ
draws_by w h = count_by (λ (e : Event). is_draw e && (e.worker == w)) h

abbrev pub commits_by : ℕ → List Event → ℕ
commits_by w h = count_by (λ (e : Event). is_commit_what e.what && (e.worker == w)) h

abbrev pub reclaims_by : ℕ → List Event → ℕ
reclaims_by w h = count_by (λ (e : Event). is_reclaim_what e.what && (e.worker == w)) h

abbrev pub numbers_of : List Event → ℕ → Numbers
numbers_of h w = record { drawn = draws_by w h; commits = commits_by w h; reclaims = reclaims_by w h }

-- how many tasks are out to a worker
abbrev pub out_to : ℕ → List Out → ℕ
out_to w out = count_by (λ (t : Out). t.worker == w) out

-- the draw is that of this pair's Join
abbrev pub draws_pair : ℕ → Happening → Bool
draws_pair p (DrawJoin q n) = q == p
draws_pair p h = false

abbrev pub drew_pair : ℕ → Option Event → ℕ
drew_pair p None = 0
drew_pair p (Some e) = cond (draws_pair p e.what) 1 0

-- The commit of a pair's Join. A late one tells its ticket alone, so its pair is that of the draw of this number.
abbrev pub ending_in : List Event → ℕ → Happening → ℕ
ending_in ds p (CommitJoined q) = cond (q == p) 1 0
ending_in ds p (CommitKept q f) = cond (q == p) 1 0
ending_in ds p (CommitLate t) = drew_pair p (slice_get ds t)
ending_in ds p h = 0

-- the commits of the pair among some events, after these draws
abbrev pub ended_after : List Event → ℕ → List Event → ℕ
ended_after ds p [] = 0
ended_after ds p (e ∷ es) = ending_in ds p e.what + ended_after (ds ++ draw_in e) p es

-- by how many commits a pair was ended, late ones too
abbrev pub ended_by : ℕ → List Event → ℕ
ended_by p h = ended_after [] p h

-- the commit of a goal: how many steps it made, and how it ended
pub record GoalCommit : Type 0 where
  pub steps : ℕ
  pub end : GoalEnd

abbrev pub goal_commit : ℕ → Happening → Option GoalCommit
goal_commit g (CommitGoal h n e) = cond (h == g) (Some (record { steps = n; end = e })) None
goal_commit g (CommitMore h n e) = cond (h == g) (Some (record { steps = n; end = e })) None
goal_commit g h = None

abbrev pub else_this : Option GoalCommit → Option GoalCommit → Option GoalCommit
else_this None this = this
else_this (Some later) this = Some later

-- the last commit of a goal among some events
abbrev pub last_commit : ℕ → List Event → Option GoalCommit
last_commit g [] = None
last_commit g (e ∷ es) = else_this (last_commit g es) (goal_commit g e.what)
