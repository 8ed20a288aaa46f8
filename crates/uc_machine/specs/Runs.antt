-- The start, the calls that aren't draws or commits, and the runs.
use Rattle.std.specs.Prelude.{◌≡◌, ◌≢◌, ℕ, ◌+◌, ◌<◌, ◌≤◌, List, [], ◌∷◌, Some, None, length, map, take, replicate}
use Rattle.uc_term.specs.Tree.{nodes}
use Rattle.uc_term.specs.declared.equation.Equation.{Equation}
use Rattle.uc_order.specs.Laws.{Meaning}
use Rattle.uc_fact.specs.declared.fact.Fact.{Fact}
use Rattle.uc_fact.specs.declared.fact.Origin.TheVariants.{Axiom}
use Rattle.uc_ledger.specs.declared.ledger.State.TheVariants.{Waiting}
use Rattle.uc_shelf.specs.Entries.{born}
use Rattle.uc_machine.specs.declared.state.Stage.TheVariants.{Due}
use Rattle.uc_machine.specs.declared.event.Verdict.{Verdict}
use Rattle.uc_machine.specs.declared.event.Verdict.TheVariants.{PairsOut, BudgetOut, Saturated, LargeOverlap, LargeGoal}
use Rattle.uc_machine.specs.declared.event.Event.{Event}
use Rattle.uc_machine.specs.declared.event.Happening.TheVariants.{AuditKept}
use Rattle.uc_machine.specs.declared.task.Finding.{Finding}
use Rattle.uc_machine.specs.declared.task.Missing.{Missing}
use Rattle.uc_machine.specs.declared.task.Outcome.{Outcome}
use Rattle.uc_machine.specs.declared.task.Outcome.TheVariants.{Convergent, Missing as Lacks, Large, GoalUnsettled}
use Rattle.uc_fact.specs.declared.fact.System.{System}
use Rattle.uc_fact.specs.declared.fact.Overlap.{Overlap}
use Rattle.uc_machine.specs.State.{Opening, State, Target, Pair, Out, out_at}
use Rattle.uc_machine.specs.Effects.{closes, keeps, reclaims, recalls}
use Rattle.uc_machine.specs.Draws.{Reply, NoneUnmet, NothingWaits, Draws}
use Rattle.uc_machine.specs.Commits.{Commits}
use Rattle.uc_machine.specs.Results.{IsResult}
use Rattle.uc_machine.specs.Finals.{IsFinal}

-- axiom k is pair k, Waiting, of the weight of its two sides
abbrev pub axiom_pairs : ℕ → List Equation → List Pair
axiom_pairs k [] = []
axiom_pairs k (e ∷ es) = record { origin = Axiom k; weight = nodes e.left + nodes e.right; condition = Waiting } ∷ axiom_pairs (k + 1) es

-- every goal is Due
abbrev pub goal_of : Equation → Target
goal_of e = record { left = record { start = e.left; steps = [] }; right = record { start = e.right; steps = [] }; stage = Due }

-- a book in which nothing happened yet, with these pairs
abbrev pub opened : Opening → List Pair → State
opened o pairs = record {
  entries = [];
  meetings = [];
  pairs = pairs;
  draws = 0;
  goals = map goal_of o.goals;
  out = [];
  counted = 0;
  reserved = 0;
  verdict = None;
  numbers = replicate 65 (record { drawn = 0; commits = 0; reclaims = 0 });
  history = [];
}

-- The start. If there are more axioms than the limit on pairs, the book closes at once, and none waits.
pub data Starts (o : Opening) : State → Type 0 where
  axioms_wait : length o.axioms ≤ o.limit → Starts o (opened o (axiom_pairs 0 o.axioms))
  too_many_axioms : o.limit < length o.axioms → Starts o (closes 0 (PairsOut 0 (length o.axioms)) (opened o []))

-- what an audit answers: the number of the fact that was kept, or the verdict
pub data AuditReply : Type 0 where
  KeptAs : ℕ → AuditReply
  ClosedBy : Verdict → AuditReply

-- An audit of a missing fact. Where a verdict stands, it is the answer and nothing changes; where none stands and `counted` is
-- the budget, the verdict is BudgetOut; otherwise the fact is published as by a Join, `counted` rises, and the event is
-- recorded for worker 0.
pub data Audits (o : Opening) (f : Fact) (s : State) : AuditReply → State → Type 0 where
  is_closed : (v : Verdict) → s.verdict ≡ Some v → Audits o f s (ClosedBy v) s
  is_spent : s.verdict ≡ None → s.counted ≡ o.budget → Audits o f s (ClosedBy (BudgetOut s.counted)) (closes 0 (BudgetOut s.counted) s)
  is_kept : s.verdict ≡ None → s.counted ≢ o.budget → Audits o f s (KeptAs (length (born s.entries))) (keeps f (AuditKept (length (born s.entries))) s)

-- A close and the verdict that it answers: Convergent gives Saturated, Large gives LargeOverlap, GoalUnsettled gives LargeGoal.
pub data Closes (s : State) : Outcome → Verdict → State → Type 0 where
  converges : {facts : System} → Closes s (Convergent facts) Saturated (closes 0 Saturated s)
  has_large : {o : Overlap} → Closes s (Large o) (LargeOverlap o) (closes 0 (LargeOverlap o) s)
  has_stuck : {g : ℕ} → Closes s (GoalUnsettled g) (LargeGoal g) (closes 0 (LargeGoal g) s)

-- a draw would answer Drained: no verdict stands, nothing waits and no task is out
pub record IsDrained (s : State) : Type 0 where
  pub none_unmet : NoneUnmet s
  pub nothing_waits : NothingWaits s
  pub none_out : s.out ≡ []

-- Of all these equations, which were missing when the book was drained, the first ones were audited since, each once and in order;
-- these are left.
pub data AreAudited (o : Opening) (all : List Missing) (drained : State) : List Missing → State → Type 0 where
  none_yet : AreAudited o all drained all drained
  one_more : {missing : Missing} {left : List Missing} {s u : State} {answer : AuditReply} → AreAudited o all drained (missing ∷ left) s → Audits o missing.fact s answer u → AreAudited o all drained left u

mutual
  -- the equation is the first that is left to audit of those that the final pass found missing over the drained book of a run
  pub data MayAudit (m : Meaning) (o : Opening) : State → Missing → Type 0 where
    is_next : {drained s : State} {all left : List Missing} {missing : Missing} → Reaches m o drained → IsDrained drained → IsFinal m o.axioms drained (Lacks all) → AreAudited o all drained (missing ∷ left) s → MayAudit m o s missing

  -- The events lead, one by one, from the start to the state. Each call makes its events in a row.
  pub data Reaches (m : Meaning) (o : Opening) : State → Type 0 where
    starts : {s : State} → Starts o s → Reaches m o s
    draws_on : {s u : State} {r : Reply} (w : ℕ) → w < 65 → Reaches m o s → Draws o w s r u → Reaches m o u
    commits_on : {s u : State} {f : Finding} (t : Out) → out_at t.ticket s.out ≡ Some t → IsResult m o.axioms (take t.front s.entries) t.job f → Reaches m o s → Commits o t f s u → Reaches m o u
    reclaims_on : {s : State} (t : Out) → out_at t.ticket s.out ≡ Some t → Reaches m o s → Reaches m o (reclaims t s)
    recalls_on : {s : State} → Reaches m o s → Reaches m o (recalls s)
    audits_on : {s u : State} {answer : AuditReply} (missing : Missing) → MayAudit m o s missing → Reaches m o s → Audits o missing.fact s answer u → Reaches m o u
    closes_on : {s u : State} {outcome : Outcome} {v : Verdict} → IsDrained s → IsFinal m o.axioms s outcome → Reaches m o s → Closes s outcome v u → Reaches m o u

-- a run with this history
pub record Run (m : Meaning) (o : Opening) (history : List Event) (s : State) : Type 0 where
  pub reaches : Reaches m o s
  pub history_is : s.history ≡ history
