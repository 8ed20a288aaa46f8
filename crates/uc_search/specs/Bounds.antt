-- How long a search by one worker is.
use Rattle.std.specs.Prelude.{ℕ, suc, ◌≡◌, ◌+◌, ◌-◌, ◌*◌, ◌^◌, ◌≤◌, length, min, count_by, Bool, true, false, Option}
use Rattle.uc_order.specs.Laws.{Meaning}
use Rattle.uc_machine.specs.declared.event.Verdict.{Verdict}
use Rattle.uc_machine.specs.declared.event.Event.{Event}
use Rattle.uc_machine.specs.declared.event.Happening.{Happening}
use Rattle.uc_machine.specs.declared.event.Happening.TheVariants.{AuditKept}
use Rattle.uc_machine.specs.State.{Opening, State, draws_in}
use Rattle.uc_search.specs.Searching.{Rounds, gets_verdict, gets_drained, Searches, last_round, next_round}

abbrev pub is_audit_what : Happening → Bool
is_audit_what (AuditKept i) = true
is_audit_what other = false

abbrev pub is_audit : Event → Bool
is_audit e = is_audit_what e.what

-- how many rounds a search makes
abbrev pub rounds_in : {m : Meaning} {o : Opening} {w : ℕ} {s u : State} {v : Verdict} → Searches m o w s v u → ℕ
rounds_in (last_round r) = 1
rounds_in (next_round r rest) = suc (rounds_in rest)

-- how many final passes a round makes, and a search: none in a round in which the verdict comes while the worker works, else one
abbrev pub passes_of : {m : Meaning} {o : Opening} {w : ℕ} {s u : State} {v : Option Verdict} → Rounds m o w s v u → ℕ
passes_of (gets_verdict a) = 0
passes_of (gets_drained a b) = 1

abbrev pub passes_in : {m : Meaning} {o : Opening} {w : ℕ} {s u : State} {v : Verdict} → Searches m o w s v u → ℕ
passes_in (last_round r) = passes_of r
passes_in (next_round r rest) = passes_of r + passes_in rest

-- the count after so many passes more; it stands still at the greatest u64
abbrev pub counted_on : ℕ → ℕ → ℕ
counted_on count more = min (count + more) (2 ^ 64 - 1)

-- the round was made, with its final passes counted
pub record CountedRound (m : Meaning) (o : Opening) (w : ℕ) (s : State) (v : Option Verdict) (u : State) (old new : ℕ) : Type 0 where
  pub round : Rounds m o w s v u
  pub passes : new ≡ counted_on old (passes_of round)

-- the search was made, with its final passes counted
pub record CountedSearch (m : Meaning) (o : Opening) (w : ℕ) (s : State) (v : Verdict) (u : State) (old new : ℕ) : Type 0 where
  pub searches : Searches m o w s v u
  pub passes : new ≡ counted_on old (passes_in searches)

-- With a budget B and g goals, at most g * (2B + 1) + 2B tasks are drawn, and at most B audits are kept.
pub record IsBounded (o : Opening) (s : State) : Type 0 where
  pub tasks : length (draws_in s.history) ≤ length o.goals * (2 * o.budget + 1) + 2 * o.budget
  pub audits : count_by is_audit s.history ≤ o.budget
