-- How one worker searches alone: round after round, until the book has a verdict.
use Rattle.std.specs.Prelude.{◌≡◌, ℕ, List, [], Option, Some, None}
use Rattle.uc_order.specs.Laws.{Meaning}
use Rattle.uc_machine.specs.declared.event.Verdict.{Verdict}
use Rattle.uc_machine.specs.declared.task.Missing.{Missing}
use Rattle.uc_machine.specs.declared.task.Outcome.{Outcome}
use Rattle.uc_machine.specs.declared.task.Outcome.TheVariants.{Missing as Lacks}
use Rattle.uc_machine.specs.State.{Opening, State}
use Rattle.uc_machine.specs.Draws.{Drained, Closed}
use Rattle.uc_machine.specs.Finals.{IsFinal}
use Rattle.uc_machine.specs.Runs.{Starts, AreAudited, Closes}
use Rattle.uc_search.specs.Working.{WorksUntil}

-- These equations, which were missing when the book was drained, are audited in order: all of them, or until the book has a verdict.
pub record AuditsMissing (o : Opening) (all : List Missing) (drained : State) (v : Option Verdict) (new : State) : Type 0 where
  pub open_ : drained.verdict ≡ None
  pub left : List Missing
  pub audited : AreAudited o all drained left new
  pub verdict : new.verdict ≡ v
  pub whole : v ≡ None → left ≡ []

-- The first of these equations were audited in order since the book was drained, if any were.
pub record AuditsSome (o : Opening) (all : List Missing) (drained new : State) : Type 0 where
  pub left : List Missing
  pub audited : AreAudited o all drained left new

-- By this order, in a book with this opening.
module _ (m : Meaning) (o : Opening) where
  -- The end of a round over a drained book, where the final pass is made. What is missing is audited; where anything else is the
  -- answer, the book is closed by it.
  pub data EndsRound (drained : State) : Option Verdict → State → Type 0 where
    is_closed_by : {outcome : Outcome} {v : Verdict} {new : State} → IsFinal m o.axioms drained outcome → Closes drained outcome v new → EndsRound drained (Some v) new
    audits_missing : {missing : List Missing} {v : Option Verdict} {new : State} → IsFinal m o.axioms drained (Lacks missing) → AuditsMissing o missing drained v new → EndsRound drained v new

  -- What the end of a round leaves where memory is refused: before the final pass has answered, nothing changed; after that, the
  -- first equations of those that are missing were audited.
  pub data CutsRound (drained : State) : State → Type 0 where
    before_answer : CutsRound drained drained
    while_auditing : {missing : List Missing} {new : State} → IsFinal m o.axioms drained (Lacks missing) → AuditsSome o missing drained new → CutsRound drained new

-- By this order, in a book with this opening, the worker of this number.
module _ (m : Meaning) (o : Opening) (w : ℕ) where
  -- A round: the worker works until the book has a verdict, or until it is drained, and then the round is ended.
  pub data Rounds (old : State) : Option Verdict → State → Type 0 where
    gets_verdict : {v : Verdict} {new : State} → WorksUntil m o w old (Closed v) new → Rounds old (Some v) new
    gets_drained : {drained new : State} {v : Option Verdict} → WorksUntil m o w old Drained drained → EndsRound m o drained v new → Rounds old v new

  -- Rounds are made until one ends with a verdict.
  pub data Searches : State → Verdict → State → Type 0 where
    last_round : {s u : State} {v : Verdict} → Rounds s (Some v) u → Searches s v u
    next_round : {s u t : State} {v : Verdict} → Rounds s None u → Searches u v t → Searches s v t

  -- The search of a whole book, from its start to its verdict.
  pub record IsSearched (v : Verdict) (s : State) : Type 0 where
    pub start : State
    pub starts : Starts o start
    pub searches : Searches start v s
