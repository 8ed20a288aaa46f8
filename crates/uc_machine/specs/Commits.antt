-- A commit: what the result of a task changes.
use Rattle.std.specs.Prelude.{◌≡◌, ◌≢◌, ℕ, ◌+◌, ◌<◌, ◌≤◌, List, true, false, Some, None, length, count_by, take}
use Rattle.uc_term.specs.Tree.{Tree}
use Rattle.uc_fact.specs.declared.chain.Chain.{Chain}
use Rattle.uc_fact.specs.declared.fact.Fact.{Fact}
use Rattle.uc_fact.specs.declared.fact.Origin.{Origin}
use Rattle.uc_fact.specs.declared.fact.Stop.{Stop}
use Rattle.uc_fact.specs.declared.fact.Stop.TheVariants.{Full, Steps, Size}
use Rattle.uc_fact.specs.declared.joinable.Reason.{Reason}
use Rattle.uc_pair.specs.declared.formed.Formed.{Formed}
use Rattle.uc_shelf.specs.declared.entry.Entry.{Entry}
use Rattle.uc_shelf.specs.Entries.{born, is_dead}
use Rattle.uc_machine.specs.declared.state.Stage.{Stage}
use Rattle.uc_machine.specs.declared.state.Stage.TheVariants.{Due, Continued, Settled, Stuck}
use Rattle.uc_ledger.specs.declared.ledger.State.TheVariants.{Done}
use Rattle.uc_machine.specs.declared.event.Verdict.{Verdict}
use Rattle.uc_machine.specs.declared.event.Verdict.TheVariants.{Proved, PairsOut}
use Rattle.uc_machine.specs.declared.event.GoalEnd.{GoalEnd}
use Rattle.uc_machine.specs.declared.event.GoalEnd.TheVariants.{Met as EndsMet, Full as EndsFull, Steps as EndsSteps, Size as EndsSize}
use Rattle.uc_machine.specs.declared.event.Happening.{Happening}
use Rattle.uc_machine.specs.declared.event.Happening.TheVariants.{CommitGoal, CommitMore, CommitMeet, CommitJoined, CommitKept, CommitLate}
use Rattle.uc_machine.specs.declared.task.Job.{Job}
use Rattle.uc_machine.specs.declared.task.Job.TheVariants.{Goal, More, Meet, Join}
use Rattle.uc_machine.specs.declared.task.Finding.{Finding}
use Rattle.uc_machine.specs.declared.task.Finding.TheVariants.{Ends, Joined, Kept, Stale, Met}
use Rattle.uc_machine.specs.Lists.{each}
use Rattle.uc_fact.specs.Chains.{end_of}
use Rattle.uc_machine.specs.State.{Opening, State, Out, dead_of, is_waiting, waiting, out_at}
use Rattle.uc_machine.specs.Effects.{accepts, closes, takes_ends, stages, turns, publishes, kills, visits, is_met, pair_by}

-- the number of the event that is recorded next; the first is 1
abbrev pub next_event : State → ℕ
next_event s = length s.history + 1

-- a task with this ticket, this job and this list of entries is out to this worker
pub record IsOutTo (s : State) (w ticket : ℕ) (job : Job) (front : List Entry) (t : Out) : Type 0 where
  pub at : out_at ticket s.out ≡ Some t
  pub worker : t.worker ≡ w
  pub job_is : t.job ≡ job
  pub front_is : take t.front s.entries ≡ front

abbrev pub end_word : Stop → GoalEnd
end_word Full = EndsFull
end_word Steps = EndsSteps
end_word Size = EndsSize

abbrev pub steps_of : Chain → Chain → ℕ
steps_of l r = length l.steps + length r.steps

-- the entries have grown since the task's front
abbrev pub HasGrown : Out → State → Type 0
HasGrown t s = t.front < length s.entries

abbrev pub HasNotGrown : Out → State → Type 0
HasNotGrown t s = length s.entries ≤ t.front

-- the state of a goal whose ends differ: after Steps it is Continued; else, where the entries have grown since the task's
-- front, it is Due; else it is Settled after Full and Stuck after Size
pub data StageAfter (t : Out) (s : State) : Stop → Stage → Type 0 where
  after_steps : StageAfter t s Steps Continued
  full_but_grown : HasGrown t s → StageAfter t s Full Due
  size_but_grown : HasGrown t s → StageAfter t s Size Due
  after_full : HasNotGrown t s → StageAfter t s Full Settled
  after_size : HasNotGrown t s → StageAfter t s Size Stuck

-- Goal, More: the ends and chains are taken over. If the ends are equal, the verdict is Proved, with an event `close`; else
-- the goal gets its state.
pub data GoalEnds (kind : ℕ → ℕ → GoalEnd → Happening) (t : Out) (g : ℕ) (l r : Chain) (stop : Stop) (s : State) : State → Type 0 where
  ends_meet : end_of l ≡ end_of r → GoalEnds kind t g l r stop s (closes t.worker (Proved g) (takes_ends g l r (accepts t (kind g (steps_of l r) EndsMet) s)))
  ends_differ : (c : Stage) → end_of l ≢ end_of r → StageAfter t s stop c → GoalEnds kind t g l r stop s (stages c g (takes_ends g l r (accepts t (kind g (steps_of l r) (end_word stop)) s)))

-- how many facts died
abbrev pub deaths : State → ℕ
deaths s = length (dead_of s.entries)

-- Meet: the meeting is Met, and what it does is kept where the pairs that then wait are within the limit; `pairs` newly wait
-- without the revived ones, and so many facts die. Else the verdict is PairsOut with both numbers and an event `close`; the
-- meeting is Met and nothing else of the commit is kept.
pub data Meets (o : Opening) (t : Out) (i pairs : ℕ) (does : State → State) (s : State) : State → Type 0 where
  within_limit : (died : ℕ) → waiting (does s) ≤ o.limit → deaths (does s) ≡ deaths s + died → Meets o t i pairs does s (does (is_met i (accepts t (CommitMeet i pairs died) s)))
  past_limit : (more : ℕ) → waiting (does s) ≡ waiting s + more → o.limit < waiting s + more → Meets o t i pairs does s (closes t.worker (PairsOut (waiting s) more) (is_met i (accepts t (CommitMeet i 0 0) s)))

-- how many of these overlaps newly wait
abbrev pub newly_waiting : List Formed → State → ℕ
newly_waiting fs s = count_by (λ (f : Formed). is_waiting (pair_by s.entries f).condition) fs

abbrev pub stays : State → State
stays s = s

-- What the commit of this result leaves.
pub data Commits (o : Opening) (t : Out) : Finding → State → State → Type 0 where
  -- If a verdict stands, the task ends and nothing more happens.
  is_late : {s : State} {f : Finding} (v : Verdict) → s.verdict ≡ Some v → Commits o t f s (accepts t (CommitLate t.ticket) s)
  -- Goal, More
  goal_ends : {s u : State} {l r : Chain} {stop : Stop} (g : ℕ) (a b : Tree) → s.verdict ≡ None → t.job ≡ Goal g a b → GoalEnds CommitGoal t g l r stop s u → Commits o t (Ends l r stop) s u
  more_ends : {s u : State} {l r : Chain} {stop : Stop} (g : ℕ) (a b : Tree) → s.verdict ≡ None → t.job ≡ More g a b → GoalEnds CommitMore t g l r stop s u → Commits o t (Ends l r stop) s u
  -- Join: the pair is Done.
  pair_joins : {s : State} {why : Reason} (p : ℕ) (a : Origin) → s.verdict ≡ None → t.job ≡ Join p a → Commits o t (Joined why) s (turns Done p (accepts t (CommitJoined p) s))
  -- Kept publishes a Born entry, whose fact is Unmet.
  fact_is_kept : {s : State} {f : Fact} (p : ℕ) (a : Origin) → s.verdict ≡ None → t.job ≡ Join p a → Commits o t (Kept f) s (publishes f (turns Done p (accepts t (CommitKept p (length (born s.entries))) s)))
  -- Meet with Stale(k): fact i dies with killer k, whether k still lives or not.
  fact_is_stale : {s u : State} {k : ℕ} (i : ℕ) → s.verdict ≡ None → t.job ≡ Meet i → Meets o t i 0 (kills k i) s u → Commits o t (Stale k) s u
  -- Meet otherwise: if i is dead, all overlaps with i as the later fact are Orphan, without numbers.
  fact_is_dead : {s u : State} {ks : List ℕ} {fs : List Formed} (i : ℕ) → s.verdict ≡ None → t.job ≡ Meet i → is_dead s.entries i ≡ true → Meets o t i 0 stays s u → Commits o t (Met ks fs) s u
  -- If not, each listed fact that isn't dead yet dies with killer i; then the overlaps get pair numbers in order.
  fact_meets : {s u : State} {ks : List ℕ} {fs : List Formed} (i : ℕ) → s.verdict ≡ None → t.job ≡ Meet i → is_dead s.entries i ≡ false → Meets o t i (newly_waiting fs (each (kills i) ks s)) (visits i ks fs) s u → Commits o t (Met ks fs) s u
