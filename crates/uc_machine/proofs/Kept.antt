-- What every state of a run keeps, in the form in which it is kept: blocks over plain fields.
use Rattle.std.proofs.Common.{◌≡◌, ℕ, ◌+◌, ◌<◌, ◌≤◌, List, [], ◌∷◌, length, Bool, false, cond, ◌==◌, Option, Some, None, refl, ap, slice_get}
use Rattle.std.specs.Prelude.{◌||◌}
use Rattle.std.specs.List.{sum_by}
use Rattle.uc_fact.specs.declared.fact.Overlap.{Overlap}
use Rattle.uc_ledger.specs.declared.ledger.State.{State as Condition}
use Rattle.uc_ledger.specs.declared.ledger.State.TheVariants.{Waiting, Out as OutTo, Done, Orphan, Large}
use Rattle.uc_shelf.specs.declared.entry.Entry.{Entry}
use Rattle.uc_shelf.specs.declared.entry.Entry.TheVariants.{Born, Dies}
use Rattle.uc_shelf.specs.Entries.{born, is_dead}
use Rattle.uc_machine.specs.declared.state.Meeting.{Meeting}
use Rattle.uc_machine.specs.declared.state.Meeting.TheVariants.{Visiting, Met}
use Rattle.uc_machine.specs.declared.state.Stage.TheVariants.{Busy}
use Rattle.uc_machine.specs.declared.state.Numbers.{Numbers}
use Rattle.uc_machine.specs.declared.event.Event.{Event}
use Rattle.uc_machine.specs.declared.task.Job.{Job}
use Rattle.uc_machine.specs.declared.task.Job.TheVariants.{Goal, More, Meet, Join}
use Rattle.uc_machine.specs.Lists.{Each, map_option}
use Rattle.uc_machine.specs.State.{Opening, State, Pair, Target, Out, dead_of}
use Rattle.uc_machine.specs.Effects.{unit_of}
use Rattle.uc_machine.specs.Events.{units, draws_by, commits_by, reclaims_by, out_to, numbers_of, ended_by}
use Rattle.uc_machine.specs.Promises.{Rising, WasDrawn, DieLater, later_fact, IsOf}

-- its draw is the one of its ticket, and its front names a prefix of the n entries
pub record IsKnown (n : ℕ) (h : List Event) (t : Out) : Type 0 where
  pub drawn : WasDrawn h t
  pub front : t.front ≤ n

-- The accounts: n entries, the tasks out, counted, reserved, the workers' numbers, the history.
pub record Accounts (o : Opening) (n : ℕ) (out : List Out) (counted reserved : ℕ) (numbers : List Numbers) (h : List Event) : Type 0 where
  pub counted_is : counted ≡ units h
  pub reserved_is : reserved ≡ sum_by (λ (t : Out). unit_of t.job) out
  pub within : counted + reserved ≤ o.budget
  pub numbers_are : (w : ℕ) → w < 65 → slice_get numbers w ≡ Some (numbers_of h w)
  pub balance : (w : ℕ) → out_to w out + (commits_by w h + reclaims_by w h) ≡ draws_by w h
  pub rising : Rising 0 out
  pub known : Each (IsKnown n h) out

abbrev pub is_among : ℕ → List ℕ → Bool
is_among n [] = false
is_among n (m ∷ ms) = (m == n) || is_among n ms

pub dead_is : (es : List Entry) (i : ℕ) → is_dead es i ≡ is_among i (dead_of es)
dead_is [] i = refl
dead_is (Born f ∷ es) i = dead_is es i
dead_is (Dies f k ∷ es) i = ap (λ b. (f == i) || b) (dead_is es i)

abbrev pub NotIn : ℕ → List ℕ → Type 0
NotIn n [] = Unit {0}
NotIn n (m ∷ ms) = (m ≡ n → ⊥) × NotIn n ms

abbrev pub Distinct : List ℕ → Type 0
Distinct [] = Unit {0}
Distinct (m ∷ ms) = NotIn m ms × Distinct ms

-- The facts: at most one Dies entry names a fact, each that does stands behind the birth of the one that it names, and each fact
-- has its meeting.
pub record Facts (entries : List Entry) (meetings : List Meeting) : Type 0 where
  pub once : Distinct (dead_of entries)
  pub later : DieLater 0 entries
  pub are_born : Each (λ i. i < length (born entries)) (dead_of entries)
  pub each_meets : length meetings ≡ length (born entries)

-- what the task is about is out
abbrev pub IsBusy : List Pair → List Target → List Meeting → ℕ → Job → Type 0
IsBusy ps gs ms w (Goal g l r) = map_option (λ (x : Target). x.stage) (slice_get gs g) ≡ Some Busy
IsBusy ps gs ms w (More g l r) = map_option (λ (x : Target). x.stage) (slice_get gs g) ≡ Some Busy
IsBusy ps gs ms w (Meet i) = slice_get ms i ≡ Some Visiting
IsBusy ps gs ms w (Join p a) = map_option (λ (x : Pair). x.condition) (slice_get ps p) ≡ Some (OutTo w)

-- the jobs are about one goal, one fact or one pair
abbrev pub is_same : Job → Job → Bool
is_same (Goal g l r) (Goal h l2 r2) = g == h
is_same (Goal g l r) (More h l2 r2) = g == h
is_same (More g l r) (Goal h l2 r2) = g == h
is_same (More g l r) (More h l2 r2) = g == h
is_same (Meet i) (Meet j) = i == j
is_same (Join p a) (Join q b) = p == q
is_same j k = false

abbrev pub Apart : Job → List Out → Type 0
Apart j out = Each (λ (t : Out). is_same j t.job ≡ false) out

abbrev pub AllApart : List Out → Type 0
AllApart [] = Unit {0}
AllApart (t ∷ ts) = Apart t.job ts × AllApart ts

-- The tasks out are about different things, each of which is out.
pub record Tasks (pairs : List Pair) (goals : List Target) (meetings : List Meeting) (out : List Out) : Type 0 where
  pub busy : Each (λ (t : Out). IsBusy pairs goals meetings t.worker t.job) out
  pub apart : AllApart out

abbrev pub may_draw : Condition → ℕ
may_draw Waiting = 1
may_draw (OutTo w) = 0
may_draw Done = 0
may_draw Orphan = 0
may_draw Large = 0

-- a pair that may still be drawn: it waits, or has no number yet
abbrev pub to_draw : Option Pair → ℕ
to_draw None = 1
to_draw (Some p) = may_draw p.condition

-- the task is the Join of this pair
abbrev pub is_join : ℕ → Job → Bool
is_join p (Goal g l r) = false
is_join p (More g l r) = false
is_join p (Meet i) = false
is_join p (Join q a) = q == p

-- how many Joins of a pair are out
abbrev pub joins : ℕ → List Out → ℕ
joins p out = sum_by (λ (t : Out). cond (is_join p t.job) 1 0) out

-- Each pair is ended by at most one commit, and by none where it may still be drawn or is out.
abbrev pub EndsOnce : List Pair → List Out → List Event → Type 0
EndsOnce ps out h = (p : ℕ) → ended_by p h + (to_draw (slice_get ps p) + joins p out) ≤ 1

-- An overlap has at most one number, and has one only where the meeting of its later fact was held.
pub record Numbered (pairs : List Pair) (meetings : List Meeting) : Type 0 where
  pub once : (p q : ℕ) (o : Overlap) → IsOf pairs p o → IsOf pairs q o → p ≡ q
  pub met : (p : ℕ) (o : Overlap) → IsOf pairs p o → slice_get meetings (later_fact o) ≡ Some Met

pub record Kept (o : Opening) (s : State) : Type 0 where
  pub accounts : Accounts o (length s.entries) s.out s.counted s.reserved s.numbers s.history
  pub facts : Facts s.entries s.meetings
  pub tasks : Tasks s.pairs s.goals s.meetings s.out
  pub ends_once : EndsOnce s.pairs s.out s.history
  pub numbered : Numbered s.pairs s.meetings
