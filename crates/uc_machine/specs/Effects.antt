-- What changes the state of the book: each sentence of its rules by itself. What happens is recorded in the order in which the
-- changes are made.
use Rattle.std.specs.Prelude.{ℕ, ◌+◌, ◌-◌, List, [], ◌∷◌, ◌++◌, cond, Option, Some, None, slice_get, length, map}
use Rattle.uc_term.specs.Tree.{nodes}
use Rattle.uc_fact.specs.declared.chain.Chain.{Chain}
use Rattle.uc_fact.specs.declared.fact.Fact.{Fact}
use Rattle.uc_fact.specs.declared.fact.Overlap.{Overlap}
use Rattle.uc_fact.specs.declared.fact.Origin.TheVariants.{Overlap as OfOverlap, Revived}
use Rattle.uc_pair.specs.declared.formed.Formed.{Formed}
use Rattle.uc_pair.specs.declared.formed.Size.{Size}
use Rattle.uc_pair.specs.declared.formed.Size.TheVariants.{Weight, Same, Large as TooLarge}
use Rattle.uc_ledger.specs.declared.ledger.State.{State as Condition}
use Rattle.uc_ledger.specs.declared.ledger.State.TheVariants.{Waiting, Out as OutTo, Done, Orphan, Large}
use Rattle.uc_shelf.specs.declared.entry.Entry.{Entry}
use Rattle.uc_shelf.specs.declared.entry.Entry.TheVariants.{Born, Dies}
use Rattle.uc_shelf.specs.Entries.{born, is_dead}
use Rattle.uc_machine.specs.declared.state.Meeting.{Meeting}
use Rattle.uc_machine.specs.declared.state.Meeting.TheVariants.{Unmet, Visiting, Met}
use Rattle.uc_machine.specs.declared.state.Stage.{Stage}
use Rattle.uc_machine.specs.declared.state.Stage.TheVariants.{Due, Busy, Continued, Settled, Stuck}
use Rattle.uc_machine.specs.declared.state.Numbers.{Numbers}
use Rattle.uc_machine.specs.declared.event.Verdict.{Verdict}
use Rattle.uc_machine.specs.declared.event.Verdict.TheVariants.{Proved, Saturated, BudgetOut, PairsOut, LargeOverlap, LargeGoal}
use Rattle.uc_machine.specs.declared.event.Ending.{Ending}
use Rattle.uc_machine.specs.declared.event.Ending.TheVariants.{Proved as ByProof, Saturated as BySaturation, Budget as ByBudget, Pairs as ByPairs, Size as BySize}
use Rattle.uc_machine.specs.declared.event.Happening.{Happening}
use Rattle.uc_machine.specs.declared.event.Happening.TheVariants.{DrawGoal, DrawMore, DrawMeet, DrawJoin, Dropped, ReclaimGoal, ReclaimMore, ReclaimMeet, ReclaimJoin, Close}
use Rattle.uc_machine.specs.declared.task.Job.{Job}
use Rattle.uc_machine.specs.declared.task.Job.TheVariants.{Goal, More, Meet, Join}
use Rattle.uc_machine.specs.Lists.{change, each}
use Rattle.uc_fact.specs.Chains.{followed_by}
use Rattle.uc_machine.specs.State.{State, Pair, Target, Out, draws_in, is_unit, next_draws, without, has_dead_parent}

-- one event more
abbrev pub records : ℕ → Happening → State → State
records w h s = record s { history = s.history ++ record { worker = w; what = h } ∷ [] }

abbrev pub ending_of : Verdict → Ending
ending_of (Proved g) = ByProof
ending_of Saturated = BySaturation
ending_of (BudgetOut n) = ByBudget
ending_of (PairsOut n m) = ByPairs
ending_of (LargeOverlap o) = BySize
ending_of (LargeGoal g) = BySize

-- a verdict, recorded in the same step as an event `close`
abbrev pub closes : ℕ → Verdict → State → State
closes w v s = records w (Close (ending_of v)) (record s { verdict = Some v })

abbrev pub wakes_stage : Stage → Stage
wakes_stage Due = Due
wakes_stage Busy = Busy
wakes_stage Continued = Continued
wakes_stage Settled = Due
wakes_stage Stuck = Due

-- with each new entry every goal that is Settled or Stuck becomes Due
abbrev pub wakes : Target → Target
wakes g = record g { stage = wakes_stage g.stage }

abbrev pub enters : Entry → State → State
enters e s = record s { entries = s.entries ++ e ∷ []; goals = map wakes s.goals }

-- a fact is published, and is Unmet
abbrev pub publishes : Fact → State → State
publishes f s = record (enters (Born f) s) { meetings = s.meetings ++ Unmet ∷ [] }

-- a pair gets the next number
abbrev pub appends : Pair → State → State
appends p s = record s { pairs = s.pairs ++ p ∷ [] }

-- the meeting of a fact, the state of a pair, the state of a goal
abbrev pub settles : (Meeting → Meeting) → ℕ → State → State
settles f i s = record s { meetings = change f s.meetings i }

abbrev pub turns : Condition → ℕ → State → State
turns c p s = record s { pairs = change (λ (x : Pair). record x { condition = c }) s.pairs p }

abbrev pub stages : Stage → ℕ → State → State
stages c g s = record s { goals = change (λ (x : Target). record x { stage = c }) s.goals g }

-- a fact that was Unmet becomes Met; a meeting that is out stays out
abbrev pub meets_unmet : Meeting → Meeting
meets_unmet Unmet = Met
meets_unmet Visiting = Visiting
meets_unmet Met = Met

abbrev pub sides_weight : Option Fact → ℕ
sides_weight None = 0
sides_weight (Some f) = nodes f.left + nodes f.right

-- a fact that dies gets a Dies entry, and a pair of its own sides, Waiting; if it was Unmet it becomes Met
abbrev pub dies : ℕ → ℕ → State → State
dies killer i s = settles meets_unmet i (appends (record { origin = Revived i; weight = sides_weight (slice_get (born s.entries) i); condition = Waiting }) (enters (Dies i killer) s))

-- a fact that is already dead doesn't die again
abbrev pub kills : ℕ → ℕ → State → State
kills killer i s = cond (is_dead s.entries i) s (dies killer i s)

abbrev pub one_drawn : Numbers → Numbers
one_drawn n = record n { drawn = n.drawn + 1 }

abbrev pub one_commit : Numbers → Numbers
one_commit n = record n { commits = n.commits + 1 }

abbrev pub one_reclaim : Numbers → Numbers
one_reclaim n = record n { reclaims = n.reclaims + 1 }

abbrev pub numbers_rise : (Numbers → Numbers) → ℕ → State → State
numbers_rise f w s = record s { numbers = change f s.numbers w }

-- the number of draws of tasks before
abbrev pub next_ticket : State → ℕ
next_ticket s = length (draws_in s.history)

abbrev pub unit_of : Job → ℕ
unit_of j = cond (is_unit j) 1 0

-- what the task is about is out
abbrev pub takes : ℕ → Job → State → State
takes w (Goal g l r) s = stages Busy g s
takes w (More g l r) s = stages Busy g s
takes w (Meet i) s = settles (λ m. Visiting) i s
takes w (Join p o) s = turns (OutTo w) p (record s { draws = next_draws s.draws })

abbrev pub draw_event : Job → ℕ → Happening
draw_event (Goal g l r) n = DrawGoal g n
draw_event (More g l r) n = DrawMore g n
draw_event (Meet i) n = DrawMeet i n
draw_event (Join p o) n = DrawJoin p n

-- the task that is drawn next
abbrev pub task_for : ℕ → Job → State → Out
task_for w j s = record { ticket = next_ticket s; worker = w; job = j; front = length s.entries }

-- a task is drawn, with a copy of the front; the worker's tasks drawn rise by one, and a Join or a continued goal is reserved
abbrev pub hands_out : ℕ → Job → State → State
hands_out w j s = records w (draw_event j (length s.entries)) (numbers_rise one_drawn w (takes w j (record s {
  out = s.out ++ task_for w j s ∷ [];
  reserved = s.reserved + unit_of j;
})))

-- the pair at the queue's head leaves it, and is an Orphan
abbrev pub drops : ℕ → ℕ → State → State
drops w p s = records w (Dropped p) (turns Orphan p (record s { draws = next_draws s.draws }))

-- the task ends, and its unit is no longer reserved
abbrev pub ends : Out → State → State
ends t s = record s { out = without t.ticket s.out; reserved = s.reserved - unit_of t.job }

-- the task's pair is Waiting again, its goal Due or Continued, its fact Unmet; a fact that died meanwhile becomes Met
abbrev pub restores : Job → State → State
restores (Goal g l r) s = stages Due g s
restores (More g l r) s = stages Continued g s
restores (Meet i) s = settles (λ m. cond (is_dead s.entries i) Met Unmet) i s
restores (Join p o) s = turns Waiting p s

abbrev pub reclaim_event : Job → Happening
reclaim_event (Goal g l r) = ReclaimGoal g
reclaim_event (More g l r) = ReclaimMore g
reclaim_event (Meet i) = ReclaimMeet i
reclaim_event (Join p o) = ReclaimJoin p

-- the task waits again, `reserved` falls, and the worker's reclaims rise by one
abbrev pub reclaims : Out → State → State
reclaims t s = records t.worker (reclaim_event t.job) (numbers_rise one_reclaim t.worker (restores t.job (ends t s)))

-- each task that is out, by ticket, is put back
abbrev pub recalls : State → State
recalls s = each reclaims s.out s

-- The task ends, the worker's commits rise by one, a reserved unit becomes counted, and the event is recorded.
abbrev pub accepts : Out → Happening → State → State
accepts t h s = records t.worker h (numbers_rise one_commit t.worker (record (ends t s) { counted = s.counted + unit_of t.job }))

abbrev pub goes_on : Chain → Chain → Target → Target
goes_on l r g = record g { left = followed_by g.left l; right = followed_by g.right r }

-- the ends and chains are taken over
abbrev pub takes_ends : ℕ → Chain → Chain → State → State
takes_ends g l r s = record s { goals = change (goes_on l r) s.goals g }

-- the meeting of the fact is Met
abbrev pub is_met : ℕ → State → State
is_met i s = settles (λ m. Met) i s

-- an overlap's pair is Done where Same, Large where Large, Orphan where a parent is dead, else Waiting
abbrev pub condition_by : List Entry → Overlap → Size → Condition
condition_by es o (Weight n) = cond (has_dead_parent es (OfOverlap o)) Orphan Waiting
condition_by es o Same = Done
condition_by es o TooLarge = Large

abbrev pub weight_by : Size → ℕ
weight_by (Weight n) = n
weight_by Same = 0
weight_by TooLarge = 0

abbrev pub pair_by : List Entry → Formed → Pair
pair_by es f = record { origin = OfOverlap f.overlap; weight = weight_by f.size; condition = condition_by es f.overlap f.size }

-- the overlaps get pair numbers in order
abbrev pub forms : List Formed → State → State
forms fs s = record s { pairs = s.pairs ++ map (pair_by s.entries) fs }

-- each listed fact that isn't dead yet dies, then the overlaps get their numbers
abbrev pub visits : ℕ → List ℕ → List Formed → State → State
visits i ks fs s = forms fs (each (kills i) ks s)

-- an audit that keeps a fact: it is published as by a Join, `counted` rises, and the event is recorded for worker 0
abbrev pub keeps : Fact → Happening → State → State
keeps f h s = records 0 h (record (publishes f s) { counted = s.counted + 1 })
