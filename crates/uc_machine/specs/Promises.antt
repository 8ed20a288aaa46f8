-- What holds in every state that a run reaches, sentence by sentence.
use Rattle.std.specs.Prelude.{◌≡◌, ℕ, suc, ◌+◌, ◌<◌, ◌≤◌, ◌==◌, ◌↔◌, ◌⊎◌, nat_lt, List, [], ◌∷◌, ◌++◌, Bool, true, false, cond, Some, None, length, count_by, take, slice_get}
use Rattle.uc_term.specs.Tree.{Tree, nodes}
use Rattle.uc_term.specs.declared.equation.Equation.{Equation}
use Rattle.uc_order.specs.Laws.{Meaning}
use Rattle.uc_fact.specs.declared.fact.Fact.{Fact}
use Rattle.uc_fact.specs.declared.fact.Overlap.{Overlap}
use Rattle.uc_fact.specs.declared.fact.Origin.TheVariants.{Overlap as OfOverlap}
use Rattle.uc_fact.specs.declared.fact.Stop.{Stop}
use Rattle.uc_fact.specs.declared.fact.Stop.TheVariants.{Full, Steps as Spent, Size as TooLarge}
use Rattle.uc_fact.specs.Live.{Rule, equation_of, equations_of}
use Rattle.uc_fact.specs.Ordered.{IsIrreducible}
use Rattle.uc_rewrite.specs.Normalising.{FirstStep}
use Rattle.uc_rewrite.specs.Replay.{LeadsFrom, FactsReplay}
use Rattle.uc_pair.specs.declared.formed.Formed.{Formed}
use Rattle.uc_pair.specs.Listing.{AreOverlaps}
use Rattle.uc_ledger.specs.declared.ledger.State.{State as Condition}
use Rattle.uc_ledger.specs.declared.ledger.State.TheVariants.{Waiting}
use Rattle.uc_queue.specs.declared.entry.Entry.{Entry as Place}
use Rattle.uc_shelf.specs.declared.entry.Entry.{Entry}
use Rattle.uc_shelf.specs.declared.entry.Entry.TheVariants.{Born, Dies}
use Rattle.uc_shelf.specs.Entries.{born, is_dead, live}
use Rattle.uc_machine.specs.declared.state.Meeting.TheVariants.{Unmet, Visiting, Met}
use Rattle.uc_machine.specs.declared.state.Stage.TheVariants.{Continued, Settled, Stuck}
use Rattle.uc_machine.specs.declared.event.Event.{Event}
use Rattle.uc_machine.specs.declared.event.GoalEnd.TheVariants.{Steps}
use Rattle.uc_machine.specs.declared.task.Job.{Job}
use Rattle.uc_machine.specs.declared.task.Job.TheVariants.{Goal, More, Meet, Join}
use Rattle.uc_machine.specs.Lists.{Each, map_option}
use Rattle.uc_fact.specs.Chains.{end_of}
use Rattle.uc_machine.specs.State.{Opening, State, Target, Pair, Out, draws_in, is_unit, queue}
use Rattle.uc_machine.specs.Effects.{draw_event}
use Rattle.uc_machine.specs.Events.{units, numbers_of, out_to, draws_by, commits_by, reclaims_by, ended_by, last_commit}

-- THE ENTRIES

-- more entries stand behind the old ones
pub record Grew (es fs : List Entry) : Type 0 where
  pub more : List Entry
  pub is : fs ≡ es ++ more

-- the front of each task out names a prefix of the entries
abbrev pub FrontsArePrefixes : State → Type 0
FrontsArePrefixes s = Each (λ (t : Out). t.front ≤ length s.entries) s.out

-- THE TICKETS

-- the tickets rise, from n on; so they differ
abbrev pub Rising : ℕ → List Out → Type 0
Rising n [] = Unit {0}
Rising n (t ∷ ts) = (n ≤ t.ticket) × Rising (suc t.ticket) ts

-- the draw of its number is that of this task, by this worker, over its front
abbrev pub WasDrawn : List Event → Out → Type 0
WasDrawn h t = slice_get (draws_in h) t.ticket ≡ Some (record { worker = t.worker; what = draw_event t.job t.front })

-- tickets differ, and each ticket out belongs to the one worker that drew it
pub record TicketsDiffer (s : State) : Type 0 where
  pub rising : Rising 0 s.out
  pub drawn : Each (WasDrawn s.history) s.out

-- THE CHAINS

-- each goal's chains replay from its sides to its present ends
pub record GoalReplays (o : Opening) (s : State) (goal : Equation) (g : Target) : Type 0 where
  pub left : LeadsFrom o.axioms (born s.entries) g.left goal.left (end_of g.left)
  pub right : LeadsFrom o.axioms (born s.entries) g.right goal.right (end_of g.right)

pub record ChainsReplay (o : Opening) (s : State) : Type 0 where
  pub facts : FactsReplay o.axioms (born s.entries)
  pub as_many : length s.goals ≡ length o.goals
  pub goals : (n : ℕ) (g : Target) → slice_get s.goals n ≡ Some g → (goal : Equation) → slice_get o.goals n ≡ Some goal → GoalReplays o s goal g

-- HOW TERMS STAND

module _ (m : Meaning) where
  -- no ordered step leads on from the term, by the facts that live in these entries
  abbrev pub IsNormalIn : List Entry → Tree → Type 0
  IsNormalIn es t = IsIrreducible m.greater m.least (equations_of (live es)) t

  -- a further step is possible
  pub record CanGoOnIn (es : List Entry) (t : Tree) : Type 0 where
    pub place : ℕ
    pub rule : Rule
    pub v : Tree
    pub first : FirstStep m.greater m.least (live es) t place rule v

  -- the next ordered step from a term, by the facts that live in these entries, leads to a term that is too large
  pub record IsStuckIn (es : List Entry) (t : Tree) : Type 0 where
    pub place : ℕ
    pub rule : Rule
    pub v : Tree
    pub first : FirstStep m.greater m.least (live es) t place rule v
    pub large : 4096 < nodes v

  -- so the term stands by the stop of its normalising
  abbrev pub StandsBy : List Entry → Stop → Tree → Type 0
  StandsBy es Full t = IsNormalIn es t
  StandsBy es Spent t = CanGoOnIn es t
  StandsBy es TooLarge t = IsStuckIn es t

-- THE FRONTS OF KEPT FACTS

module _ (m : Meaning) where
  -- the fact's front names a prefix of the entries before its birth, and each side stands by its stop there: Full, no ordered
  -- step by the facts that live there; else one is possible, or leads to a term that is too large
  pub record IsKeptOver (before : List Entry) (f : Fact) : Type 0 where
    pub front : f.front ≤ length before
    pub left : StandsBy m (take f.front before) f.stops.0 f.left
    pub right : StandsBy m (take f.front before) f.stops.1 f.right

  -- it is so for each kept fact
  abbrev pub FrontsAreEarlier : State → Type 0
  FrontsAreEarlier s = (n : ℕ) (f : Fact) → slice_get s.entries n ≡ Some (Born f) → IsKeptOver (take n s.entries) f

-- THE STATES OF OVERLAPS AND PAIRS

-- the one of two facts that was born later
abbrev pub later_fact : Overlap → ℕ
later_fact o = cond (nat_lt o.outer o.inner) o.inner o.outer

-- the pair of this number is that of the overlap
abbrev pub IsOf : List Pair → ℕ → Overlap → Type 0
IsOf ps p o = map_option (λ (x : Pair). x.origin) (slice_get ps p) ≡ Some (OfOverlap o)

-- the states of an overlap: Unmet; that of its pair, which has this number; or Orphan without a number
pub data OverlapState : Type 0 where
  NotMet : OverlapState
  Numbered : ℕ → Condition → OverlapState
  NoNumber : OverlapState

-- an overlap is Unmet until the meeting of its later fact is over; then it has the state of its pair, of which there is one, or
-- is an Orphan without a number
pub data StandsAs (s : State) (o : Overlap) : OverlapState → Type 0 where
  not_met : slice_get s.meetings (later_fact o) ≡ Some Unmet → StandsAs s o NotMet
  meeting : slice_get s.meetings (later_fact o) ≡ Some Visiting → StandsAs s o NotMet
  numbered : (p : ℕ) (x : Pair) → slice_get s.pairs p ≡ Some x → IsOf s.pairs p o → StandsAs s o (Numbered p x.condition)
  no_number : slice_get s.meetings (later_fact o) ≡ Some Met → ((p : ℕ) → IsOf s.pairs p o → ⊥) → StandsAs s o NoNumber

-- some state
pub record HasState (s : State) (o : Overlap) : Type 0 where
  pub state : OverlapState
  pub stands : StandsAs s o state

-- an entry of the queue is the pair of its number, which waits, with its weight
pub record IsQueued (s : State) (q : Place) : Type 0 where
  pub pair : Pair
  pub at : slice_get s.pairs q.number ≡ Some pair
  pub waits : pair.condition ≡ Waiting
  pub weight : pair.weight ≡ q.weight

-- each overlap of two facts that are born is in exactly one state, and the queue holds exactly the pairs that are Waiting
pub record OneState (s : State) : Type 0 where
  pub some : (o : Overlap) → later_fact o < length (born s.entries) → HasState s o
  pub once : (o : Overlap) (a b : OverlapState) → StandsAs s o a → StandsAs s o b → a ≡ b
  pub queued : Each (IsQueued s) (queue s)
  pub all_queued : (p : ℕ) (x : Pair) → slice_get s.pairs p ≡ Some x → x.condition ≡ Waiting → count_by (λ (q : Place). q.number == p) (queue s) ≡ 1

-- THE OVERLAPS OF MEETINGS

-- some pair is that of the overlap
pub record HasNumber (ps : List Pair) (o : Overlap) : Type 0 where
  pub number : ℕ
  pub is : IsOf ps number o

module _ (m : Meaning) where
  -- each overlap of an outer with an inner fact has its pair
  pub record AreNumbered (ps : List Pair) (j : ℕ) (a : Equation) (i : ℕ) (b : Equation) : Type 0 where
    pub overlaps : List Formed
    pub are : AreOverlaps m.greater j a i b overlaps
    pub numbered : Each (λ (f : Formed). HasNumber ps f.overlap) overlaps

  -- each overlap of two facts, whichever of them is the outer one
  pub record BothAreNumbered (ps : List Pair) (j : ℕ) (a : Equation) (i : ℕ) (b : Equation) : Type 0 where
    pub inside : AreNumbered ps j a i b
    pub round : AreNumbered ps i b j a

  -- While no verdict stands, no meeting loses an overlap: of two facts that live, the meeting of the later one being over, each
  -- overlap has its pair. So an Orphan without a number has a parent that is dead.
  abbrev pub MeetingsAreWhole : State → Type 0
  MeetingsAreWhole s = s.verdict ≡ None → (j i : ℕ) (a b : Fact) → j ≤ i → slice_get (born s.entries) j ≡ Some a → slice_get (born s.entries) i ≡ Some b
      → is_dead s.entries j ≡ false → is_dead s.entries i ≡ false → slice_get s.meetings i ≡ Some Met → BothAreNumbered s.pairs j (equation_of a) i (equation_of b)

-- THE COMMITS OF PAIRS

-- each pair is ended by at most one commit, and so is in at most one counted unit
abbrev pub EndsPairsOnce : State → Type 0
EndsPairsOnce s = (p : ℕ) → ended_by p s.history ≤ 1

-- THE COUNTS

-- `counted` is the number of counted units in the history, `reserved` the number of Joins and Mores out, and their sum is at
-- most the budget
pub record CountsUnits (o : Opening) (s : State) : Type 0 where
  pub counted : s.counted ≡ units s.history
  pub reserved : s.reserved ≡ count_by (λ (t : Out). is_unit t.job) s.out
  pub within : s.counted + s.reserved ≤ o.budget

-- the numbers of each worker are those of its events, and its tasks out are the first less the other two
pub record CountsWorkers (s : State) : Type 0 where
  pub numbers : (w : ℕ) → w < 65 → slice_get s.numbers w ≡ Some (numbers_of s.history w)
  pub out_are : (w : ℕ) → out_to w s.out + (commits_by w s.history + reclaims_by w s.history) ≡ draws_by w s.history

-- THE GOALS

module _ (m : Meaning) where
  -- a Settled goal's ends have no ordered step by the facts that live now, and a Stuck goal has an end whose next ordered step
  -- by these facts leads to a term that is too large
  pub record StaysAtRest (es : List Entry) (g : Target) : Type 0 where
    pub settled : g.stage ≡ Settled → IsNormalIn m es (end_of g.left) × IsNormalIn m es (end_of g.right)
    pub stuck : g.stage ≡ Stuck → IsStuckIn m es (end_of g.left) ⊎ IsStuckIn m es (end_of g.right)

  abbrev pub GoalsAtRest : State → Type 0
  GoalsAtRest s = Each (StaysAtRest s.entries) s.goals

-- the last commit of the goal made exactly 4,096 steps and stopped for them
abbrev pub WasSpent : ℕ → List Event → Type 0
WasSpent g h = last_commit g h ≡ Some (record { steps = 4096; end = Steps })

abbrev pub GoesOn : List Event → Job → Type 0
GoesOn h (Goal g l r) = Unit {0}
GoesOn h (More g l r) = WasSpent g h
GoesOn h (Meet i) = Unit {0}
GoesOn h (Join p o) = Unit {0}

-- so it is of each goal that is Continued, and of the goal of each More that is out
pub record MoresGoOn (s : State) : Type 0 where
  pub continued : (g : ℕ) (x : Target) → slice_get s.goals g ≡ Some x → x.stage ≡ Continued → WasSpent g s.history
  pub out : Each (λ (t : Out). GoesOn s.history t.job) s.out

-- THE DEAD

abbrev pub names : ℕ → Entry → Bool
names i (Born f) = false
names i (Dies f k) = f == i

-- each Dies entry names a fact that is born before it; so many are born before these entries
abbrev pub DieLater : ℕ → List Entry → Type 0
DieLater n [] = Unit {0}
DieLater n (Born f ∷ es) = DieLater (suc n) es
DieLater n (Dies i k ∷ es) = (i < n) × DieLater n es

-- a fact is dead exactly if a Dies entry names it, at most one does, and that one stands behind its birth
pub record DiesOnce (s : State) : Type 0 where
  pub dead : (i : ℕ) → (is_dead s.entries i ≡ true) ↔ (0 < count_by (names i) s.entries)
  pub once : (i : ℕ) → count_by (names i) s.entries ≤ 1
  pub later : DieLater 0 s.entries
