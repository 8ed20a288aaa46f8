-- The state of the book, and what is read off it.
use Rattle.std.specs.Prelude.{ℕ, suc, ◌+◌, ◌%◌, ◌==◌, ◌||◌, List, [], ◌∷◌, Bool, true, false, cond, Option, Some, None, slice_get, length}
use Rattle.uc_term.specs.declared.equation.Equation.{Equation}
use Rattle.uc_fact.specs.declared.chain.Chain.{Chain}
use Rattle.uc_fact.specs.declared.fact.Origin.{Origin}
use Rattle.uc_fact.specs.declared.fact.Origin.TheVariants.{Axiom, Overlap as OfOverlap, Revived}
use Rattle.uc_queue.specs.declared.entry.Entry.{Entry as Place}
use Rattle.uc_queue.specs.Queue.{next}
use Rattle.uc_ledger.specs.declared.ledger.State.{State as Condition}
use Rattle.uc_ledger.specs.declared.ledger.State.TheVariants.{Waiting, Out as OutTo, Done, Orphan, Large}
use Rattle.uc_shelf.specs.declared.entry.Entry.{Entry}
use Rattle.uc_shelf.specs.declared.entry.Entry.TheVariants.{Born, Dies}
use Rattle.uc_shelf.specs.Entries.{is_dead}
use Rattle.uc_machine.specs.declared.state.Meeting.{Meeting}
use Rattle.uc_machine.specs.declared.state.Meeting.TheVariants.{Unmet, Visiting, Met}
use Rattle.uc_machine.specs.declared.state.Stage.{Stage}
use Rattle.uc_machine.specs.declared.state.Stage.TheVariants.{Due, Busy, Continued, Settled, Stuck}
use Rattle.uc_machine.specs.declared.state.Numbers.{Numbers}
use Rattle.uc_machine.specs.declared.event.Verdict.{Verdict}
use Rattle.uc_machine.specs.declared.event.Event.{Event}
use Rattle.uc_machine.specs.declared.event.Happening.{Happening}
use Rattle.uc_machine.specs.declared.event.Happening.TheVariants.{DrawGoal, DrawMore, DrawMeet, DrawJoin}
use Rattle.uc_machine.specs.declared.task.Job.{Job}
use Rattle.uc_machine.specs.declared.task.Job.TheVariants.{Goal, More, Meet, Join}
use Rattle.uc_machine.specs.Lists.{At, first}

-- What a book is opened with: the axioms and the goals of its problem, the budget of counted units, and the limit on pairs
-- that wait.
pub record Opening : Type 0 where
  pub axioms : List Equation
  pub goals : List Equation
  pub budget : ℕ
  pub limit : ℕ

-- a pair, with its state
pub record Pair : Type 0 where
  pub origin : Origin
  pub weight : ℕ
  pub condition : Condition

-- a goal: the chains that lead from its two sides to its present ends, and its state
pub record Target : Type 0 where
  pub left : Chain
  pub right : Chain
  pub stage : Stage

-- a task that is out: its ticket, the worker that drew it, what it is about, and how many entries its front has
pub record Out : Type 0 where
  pub ticket : ℕ
  pub worker : ℕ
  pub job : Job
  pub front : ℕ

pub record State : Type 0 where
  pub entries : List Entry
  -- of each fact, by number
  pub meetings : List Meeting
  -- by number
  pub pairs : List Pair
  -- how many draws of the queue gave a pair, modulo 5; what the queue holds are the pairs that are Waiting
  pub draws : ℕ
  pub goals : List Target
  -- the tasks out, by ticket
  pub out : List Out
  pub counted : ℕ
  pub reserved : ℕ
  pub verdict : Option Verdict
  -- of each worker, from 0 to 64
  pub numbers : List Numbers
  pub history : List Event

-- the numbers of the facts that died, in order
abbrev pub dead_of : List Entry → List ℕ
dead_of [] = []
dead_of (Born f ∷ es) = dead_of es
dead_of (Dies f k ∷ es) = f ∷ dead_of es

-- one of the facts that the pair comes from is dead
abbrev pub has_dead_parent : List Entry → Origin → Bool
has_dead_parent es (Axiom k) = false
has_dead_parent es (OfOverlap o) = is_dead es o.outer || is_dead es o.inner
has_dead_parent es (Revived f) = false

abbrev pub is_waiting : Condition → Bool
is_waiting Waiting = true
is_waiting (OutTo w) = false
is_waiting Done = false
is_waiting Orphan = false
is_waiting Large = false

abbrev pub is_due : Stage → Bool
is_due Due = true
is_due Busy = false
is_due Continued = false
is_due Settled = false
is_due Stuck = false

abbrev pub is_continued : Stage → Bool
is_continued Due = false
is_continued Busy = false
is_continued Continued = true
is_continued Settled = false
is_continued Stuck = false

abbrev pub is_unmet : Meeting → Bool
is_unmet Unmet = true
is_unmet Visiting = false
is_unmet Met = false

-- the queue: the pairs that are Waiting, by number, each with its weight
abbrev pub queue_from : ℕ → List Pair → List Place
queue_from n [] = []
queue_from n (p ∷ ps) = cond (is_waiting p.condition) (record { weight = p.weight; number = n } ∷ queue_from (suc n) ps) (queue_from (suc n) ps)

abbrev pub queue : State → List Place
queue s = queue_from 0 s.pairs

-- what the next draw of the queue would take: each fifth takes the least number, the others the least by weight and number
abbrev pub peek : State → Option Place
peek s = next (record { waiting = queue s; draws = s.draws; spare = 0 })

abbrev pub next_draws : ℕ → ℕ
next_draws n = (n + 1) % 5

-- the least goal that is Due, the least that is Continued, and the least fact that is Unmet
abbrev pub first_due : State → Option (At Target)
first_due s = first (λ (g : Target). is_due g.stage) s.goals

abbrev pub first_continued : State → Option (At Target)
first_continued s = first (λ (g : Target). is_continued g.stage) s.goals

abbrev pub first_unmet : State → Option (At Meeting)
first_unmet s = first is_unmet s.meetings

-- the pair of this number has a dead parent
abbrev pub orphan_of : List Entry → Option Pair → Bool
orphan_of es None = false
orphan_of es (Some p) = has_dead_parent es p.origin

abbrev pub is_orphan : State → ℕ → Bool
is_orphan s n = orphan_of s.entries (slice_get s.pairs n)

-- the pair at the queue's head has a dead parent
abbrev pub orphan_at : State → Option Place → Bool
orphan_at s None = false
orphan_at s (Some p) = is_orphan s p.number

abbrev pub head_is_orphan : State → Bool
head_is_orphan s = orphan_at s (peek s)

-- how many pairs wait
abbrev pub waiting : State → ℕ
waiting s = length (queue s)

abbrev pub is_draw_what : Happening → Bool
is_draw_what (DrawGoal g f) = true
is_draw_what (DrawMore g f) = true
is_draw_what (DrawMeet i f) = true
is_draw_what (DrawJoin p f) = true
is_draw_what h = false

abbrev pub is_draw : Event → Bool
is_draw e = is_draw_what e.what

-- the draws of tasks, in order
abbrev pub draws_in : List Event → List Event
draws_in [] = []
draws_in (e ∷ es) = cond (is_draw e) (e ∷ draws_in es) (draws_in es)

-- a Join or a continued goal
abbrev pub is_unit : Job → Bool
is_unit (Goal g l r) = false
is_unit (More g l r) = true
is_unit (Meet i) = false
is_unit (Join p o) = true

-- the task out of a ticket
abbrev pub out_at : ℕ → List Out → Option Out
out_at n [] = None
out_at n (t ∷ ts) = cond (t.ticket == n) (Some t) (out_at n ts)

-- the tasks out without it
abbrev pub without : ℕ → List Out → List Out
without n [] = []
without n (t ∷ ts) = cond (t.ticket == n) ts (t ∷ without n ts)
