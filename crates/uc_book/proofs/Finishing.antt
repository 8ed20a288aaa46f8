-- The commits of goals and pairs, in the machine's words.
use Rattle.std.proofs.Common.{◌≡◌, ℕ, ◌<◌, ◌≤◌, List, length, Bool, true, false, Option, Some, None, refl, ap, sym, ◌∙◌, subst}
use Rattle.std.specs.Prelude.{nat_lt, ◌↔◌, is_some, slice_get}
use Rattle.std.proofs.lemmas.Bool.{ltb-true, ltb-false, false≢true}
use Rattle.uc_fact.specs.declared.chain.Chain.{Chain}
use Rattle.uc_fact.specs.declared.fact.Fact.{Fact}
use Rattle.uc_fact.specs.declared.fact.Stop.{Stop}
use Rattle.uc_fact.specs.declared.fact.Stop.TheVariants.{Full, Steps, Size}
use Rattle.uc_fact.specs.declared.joinable.Reason.{Reason}
use Rattle.uc_fact.specs.Chains.{end_of}
use Rattle.uc_ledger.specs.declared.ledger.State.TheVariants.{Done, Out as OutTo}
use Rattle.uc_shelf.specs.Entries.{born}
use Rattle.uc_machine.specs.declared.event.GoalEnd.{GoalEnd}
use Rattle.uc_machine.specs.declared.event.GoalEnd.TheVariants.{Met as EndsMet}
use Rattle.uc_machine.specs.declared.event.Happening.{Happening}
use Rattle.uc_machine.specs.declared.event.Happening.TheVariants.{CommitGoal, CommitMore, CommitJoined, CommitKept, CommitLate}
use Rattle.uc_machine.specs.declared.event.Verdict.{Verdict}
use Rattle.uc_machine.specs.declared.event.Verdict.TheVariants.{Proved}
use Rattle.uc_machine.specs.declared.task.Finding.{Finding}
use Rattle.uc_machine.specs.declared.task.Job.{Job}
use Rattle.uc_machine.specs.declared.task.Job.TheVariants.{Goal, More, Meet, Join}
use Rattle.uc_machine.specs.declared.task.Finding.TheVariants.{Ends, Joined, Kept}
use Rattle.uc_machine.specs.Lists.{map_option}
use Rattle.uc_machine.specs.State.{Opening, State, Pair, Out, is_draw_what}
use Rattle.uc_machine.specs.Effects.{accepts, closes, takes_ends, stages, turns, publishes}
use Rattle.uc_machine.specs.Commits.{Commits, is_late, GoalEnds, ends_meet, ends_differ, StageAfter, after_steps, full_but_grown, size_but_grown, after_full, after_size, goal_ends, more_ends, pair_joins, fact_is_kept, end_word, steps_of}
use Rattle.uc_rows.specs.declared.tasks.TaskRow.{TaskRow}
use Rattle.uc_book.specs.declared.parts.Parts.{Parts}
use Rattle.uc_rows.specs.TaskRows.{StandsAt}
use Rattle.uc_rows.proofs.PutBack.{one_at}
use Rattle.uc_book.specs.Parts.{IsSubjectOut}
use Rattle.uc_book.specs.Committing.{stage_by, commit_word, IsGoalJob, IsPairJob, HasGoal, IsFor}

stage_after : (t : Out) (s : State) (stop : Stop) (b : Bool) → nat_lt t.front (length s.entries) ≡ b → StageAfter t s stop (stage_by stop b)
stage_after t s Steps b e = after_steps
stage_after t s Full true e = full_but_grown (ltb-true t.front (length s.entries) e)
stage_after t s Full false e = after_full (ltb-false t.front (length s.entries) e)
stage_after t s Size true e = size_but_grown (ltb-true t.front (length s.entries) e)
stage_after t s Size false e = after_size (ltb-false t.front (length s.entries) e)

ends_by : (kind : ℕ → ℕ → GoalEnd → Happening) (t : Out) (g : ℕ) (l r : Chain) (stop : Stop) (s u : State) (met : Bool) → (met ≡ true ↔ end_of l ≡ end_of r)
    → (met ≡ true → u ≡ closes t.worker (Proved g) (takes_ends g l r (accepts t (kind g (steps_of l r) EndsMet) s)))
    → (met ≡ false → u ≡ stages (stage_by stop (nat_lt t.front (length s.entries))) g (takes_ends g l r (accepts t (kind g (steps_of l r) (end_word stop)) s)))
    → GoalEnds kind t g l r stop s u
ends_by kind t g l r stop s u true e m n = subst (GoalEnds kind t g l r stop s) (sym (m refl)) (ends_meet (e.0 refl))
ends_by kind t g l r stop s u false e m n = subst (GoalEnds kind t g l r stop s) (sym (n refl)) (ends_differ (stage_by stop (nat_lt t.front (length s.entries))) (λ q. false≢true (e.1 q)) (stage_after t s stop (nat_lt t.front (length s.entries)) refl))

-- the ends of a goal went on first
pub ends_taken : (o : Opening) (t : Out) (j : Job) (g n : ℕ) (l r : Chain) (stop : Stop) (s v u : State) (met : Bool) → s.verdict ≡ None → t.job ≡ j → IsGoalJob j g → (met ≡ true ↔ end_of l ≡ end_of r) → n ≡ steps_of l r → v ≡ takes_ends g l r s
    → (met ≡ true → u ≡ closes t.worker (Proved g) (accepts t (commit_word j g n EndsMet) v))
    → (met ≡ false → u ≡ stages (stage_by stop (nat_lt t.front (length s.entries))) g (accepts t (commit_word j g n (end_word stop)) v))
    → Commits o t (Ends l r stop) s u
ends_taken o t (Goal h a b) g n l r stop s v u met open_ job is same steps before m d =
    let back : t.job ≡ Goal g a b = job ∙ ap (λ k. Goal k a b) is in
    goal_ends g a b open_ back (ends_by CommitGoal t g l r stop s u met same
    (λ e. (m e ∙ ap (λ k. closes t.worker (Proved g) (accepts t (CommitGoal g k EndsMet) v)) steps ∙ ap (λ (x : State). closes t.worker (Proved g) (accepts t (CommitGoal g (steps_of l r) EndsMet) x)) before))
    (λ e. (d e ∙ ap (λ k. stages (stage_by stop (nat_lt t.front (length s.entries))) g (accepts t (CommitGoal g k (end_word stop)) v)) steps ∙ ap (λ (x : State). stages (stage_by stop (nat_lt t.front (length s.entries))) g (accepts t (CommitGoal g (steps_of l r) (end_word stop)) x)) before)))
ends_taken o t (More h a b) g n l r stop s v u met open_ job is same steps before m d =
    let back : t.job ≡ More g a b = job ∙ ap (λ k. More k a b) is in
    more_ends g a b open_ back (ends_by CommitMore t g l r stop s u met same
    (λ e. (m e ∙ ap (λ k. closes t.worker (Proved g) (accepts t (CommitMore g k EndsMet) v)) steps ∙ ap (λ (x : State). closes t.worker (Proved g) (accepts t (CommitMore g (steps_of l r) EndsMet) x)) before))
    (λ e. (d e ∙ ap (λ k. stages (stage_by stop (nat_lt t.front (length s.entries))) g (accepts t (CommitMore g k (end_word stop)) v)) steps ∙ ap (λ (x : State). stages (stage_by stop (nat_lt t.front (length s.entries))) g (accepts t (CommitMore g (steps_of l r) (end_word stop)) x)) before)))
ends_taken o t (Meet i) g n l r stop s v u met open_ job is same steps before m d = absurd is
ends_taken o t (Join p a) g n l r stop s v u met open_ job is same steps before m d = absurd is

pub pair_joined : (o : Opening) (t : Out) (j : Job) (p : ℕ) (why : Reason) (s u : State) → s.verdict ≡ None → t.job ≡ j → IsPairJob j p → u ≡ turns Done p (accepts t (CommitJoined p) s) → Commits o t (Joined why) s u
pair_joined o t (Goal g a b) p why s u open_ job is e = absurd is
pair_joined o t (More g a b) p why s u open_ job is e = absurd is
pair_joined o t (Meet i) p why s u open_ job is e = absurd is
pair_joined o t (Join q a) p why s u open_ job is e = subst (Commits o t (Joined why) s) (sym e) (pair_joins p a open_ (job ∙ ap (λ k. Join k a) is))

pub pair_kept : (o : Opening) (t : Out) (j : Job) (p n : ℕ) (f : Fact) (s u : State) → s.verdict ≡ None → t.job ≡ j → IsPairJob j p → n ≡ length (born s.entries) → u ≡ publishes f (turns Done p (accepts t (CommitKept p n) s)) → Commits o t (Kept f) s u
pair_kept o t (Goal g a b) p n f s u open_ job is k e = absurd is
pair_kept o t (More g a b) p n f s u open_ job is k e = absurd is
pair_kept o t (Meet i) p n f s u open_ job is k e = absurd is
pair_kept o t (Join q a) p n f s u open_ job is k e = subst (Commits o t (Kept f) s) (sym (e ∙ ap (λ m. publishes f (turns Done p (accepts t (CommitKept p m) s))) k)) (fact_is_kept p a open_ (job ∙ ap (λ k. Join k a) is))

-- a result that is right for a job with ends is that of a goal
pub has_goal : (j : Job) (l r : Chain) (stop : Stop) → IsFor j (Ends l r stop) → HasGoal j
has_goal (Goal g a b) l r stop h = tt
has_goal (More g a b) l r stop h = tt
has_goal (Meet i) l r stop h = absurd h
has_goal (Join p a) l r stop h = absurd h

pub few_steps : (j : Job) (l r : Chain) (stop : Stop) → IsFor j (Ends l r stop) → steps_of l r ≤ 4096
few_steps (Goal g a b) l r stop h = h
few_steps (More g a b) l r stop h = h
few_steps (Meet i) l r stop h = absurd h
few_steps (Join p a) l r stop h = absurd h

-- the events of commits are no draws
pub no_draw_of_goal : (j : Job) (g n : ℕ) (end : GoalEnd) → is_draw_what (commit_word j g n end) ≡ false
no_draw_of_goal (Goal h a b) g n end = refl
no_draw_of_goal (More h a b) g n end = refl
no_draw_of_goal (Meet i) g n end = refl
no_draw_of_goal (Join p a) g n end = refl

-- the commit of a task that came after the verdict
pub late : (o : Opening) (t : Out) (n : ℕ) (f : Finding) (s u : State) → is_some s.verdict ≡ true → t.ticket ≡ n → u ≡ accepts t (CommitLate n) s → Commits o t f s u
late o t n f s u b e is = by_verdict s.verdict refl b
  where
    by_verdict : (v : Option Verdict) → s.verdict ≡ v → is_some v ≡ true → Commits o t f s u
    by_verdict None q b = absurd (false≢true b)
    by_verdict (Some v) q b = subst (Commits o t f s) (sym (is ∙ ap (λ k. accepts t (CommitLate k) s) (sym e))) (is_late v q)

-- what a job is about, where it is out
pub pair_out : (p : Parts) (w : ℕ) (j : Job) (n : ℕ) → IsPairJob j n → IsSubjectOut p w j → map_option (λ (x : Pair). x.condition) (slice_get p.pairs.pairs n) ≡ Some (OutTo w)
pair_out p w (Goal g a b) n is h = absurd is
pair_out p w (More g a b) n is h = absurd is
pair_out p w (Meet i) n is h = absurd is
pair_out p w (Join q a) n is h = subst (λ k. map_option (λ (x : Pair). x.condition) (slice_get p.pairs.pairs k) ≡ Some (OutTo w)) is h

pub goal_out : (p : Parts) (w : ℕ) (j : Job) (n : ℕ) → IsGoalJob j n → IsSubjectOut p w j → n < length p.goals
goal_out p w (Goal g a b) n is h = subst (λ k. k < length p.goals) is h
goal_out p w (More g a b) n is h = subst (λ k. k < length p.goals) is h
goal_out p w (Meet i) n is h = absurd is
goal_out p w (Join q a) n is h = absurd is

-- one place has one task, and so one job
pub same_place_job : (ts : List TaskRow) (at : ℕ) (t u : Out) (j : Job) → StandsAt ts at t → StandsAt ts at u → t.job ≡ j → u.job ≡ j
same_place_job ts at t u j a b e = ap (λ (x : Out). x.job) (one_at ts at u t b a) ∙ e
