-- There are always as many goals as the problem has.
use Rattle.std.proofs.Common.{◌≡◌, ℕ, List, [], ◌∷◌, ◌<◌, ◌^◌, length, refl, ap, ◌∙◌, map, inl, inr, arith}
use Rattle.std.specs.Prelude.{Result, Ok, Err, IfOk, Vec}
use Rattle.std.specs.declared.alloc.Global.{Global}
use Rattle.std.proofs.lemmas.Bool.{cases_Bool}
use Rattle.std.proofs.lemmas.List.{length-map}
use Rattle.uc_order.specs.Laws.{Meaning}
use Rattle.uc_fact.specs.declared.chain.Chain.{Chain}
use Rattle.uc_fact.specs.declared.fact.Fact.{Fact}
use Rattle.uc_fact.specs.declared.fact.Stop.{Stop}
use Rattle.uc_shelf.specs.Entries.{is_dead}
use Rattle.uc_machine.specs.declared.event.GoalEnd.{GoalEnd}
use Rattle.uc_machine.specs.declared.event.Happening.{Happening}
use Rattle.uc_machine.specs.declared.event.Verdict.{Verdict}
use Rattle.uc_machine.specs.declared.state.Stage.{Stage}
use Rattle.uc_machine.specs.declared.task.Finding.{Finding}
use Rattle.uc_machine.specs.declared.task.Outcome.{Outcome}
use Rattle.uc_machine.specs.declared.task.Job.{Job}
use Rattle.uc_machine.specs.declared.task.Job.TheVariants.{Goal, More, Meet, Join}
use Rattle.uc_machine.specs.Lists.{each, change}
use Rattle.uc_machine.specs.State.{Opening, State, Target, Out}
use Rattle.uc_machine.specs.Effects.{hands_out, drops, reclaims, kills, visits, goes_on}
use Rattle.uc_machine.specs.Draws.{Reply, Draws, verdict_stands, goal_is_due, fact_is_unmet, orphan_is_dropped, goal_is_continued, pair_is_drawn, budget_is_out, budget_is_spent, all_is_out, all_is_done, with_ends}
use Rattle.uc_machine.specs.Commits.{Commits, GoalEnds, ends_meet, ends_differ, Meets, within_limit, past_limit, is_late, goal_ends, more_ends, pair_joins, fact_is_kept, fact_is_stale, fact_is_dead, fact_meets}
use Rattle.uc_machine.specs.Runs.{Reaches, starts, draws_on, commits_on, reclaims_on, recalls_on, audits_on, closes_on, Starts, axioms_wait, too_many_axioms, Audits, AuditReply, is_closed, is_spent, is_kept, Closes, converges, has_large, has_stuck, goal_of}
use Rattle.uc_machine.proofs.Lists.{length-change}

handed : (w : ℕ) (j : Job) (s : State) → length ((hands_out w j s).goals) ≡ length s.goals
handed w (Goal g l r) s = length-change _ s.goals g
handed w (More g l r) s = length-change _ s.goals g
handed w (Meet i) s = refl
handed w (Join p o) s = refl

draws_keep : (o : Opening) (w : ℕ) (s : State) (r : Reply) (u : State) → Draws o w s r u → length u.goals ≡ length s.goals
draws_keep o w s _ _ (verdict_stands v e) = refl
draws_keep o w s _ _ (goal_is_due g a b) = handed w (with_ends Goal g) s
draws_keep o w s _ _ (fact_is_unmet i a b) = handed w (Meet i.number) s
draws_keep o w s r u (orphan_is_dropped p a b c d) = draws_keep o w (drops w p.number s) r u d
draws_keep o w s _ _ (goal_is_continued g a b c) = handed w (with_ends More g) s
draws_keep o w s _ _ (pair_is_drawn p x a b c d e) = handed w (Join p.number x.origin) s
draws_keep o w s _ _ (budget_is_out a b c d) = refl
draws_keep o w s _ _ (budget_is_spent a b c d) = refl
draws_keep o w s _ _ (all_is_out a b c) = refl
draws_keep o w s _ _ (all_is_done a b c) = refl

killed : (k i : ℕ) (s : State) → length ((kills k i s).goals) ≡ length s.goals
killed k i s = elim (cases_Bool (is_dead s.entries i)) as (λ _. length ((kills k i s).goals) ≡ length s.goals) [ inl b ↦ rw b refl | inr b ↦ rw b (length-map s.goals _) ]

all_killed : (k : ℕ) (is : List ℕ) (s : State) → length ((each (kills k) is s).goals) ≡ length s.goals
all_killed k [] s = refl
all_killed k (i ∷ is) s = all_killed k is (kills k i s) ∙ killed k i s

ends_keep : (kind : ℕ → ℕ → GoalEnd → Happening) (t : Out) (g : ℕ) (l r : Chain) (stop : Stop) (s u : State) → GoalEnds kind t g l r stop s u → length u.goals ≡ length s.goals
ends_keep kind t g l r stop s _ (ends_meet e) = length-change (goes_on l r) s.goals g
ends_keep kind t g l r stop s _ (ends_differ c e a) = length-change _ (change (goes_on l r) s.goals g) g ∙ length-change (goes_on l r) s.goals g

meets_keep : (o : Opening) (t : Out) (i n : ℕ) (does : State → State) (s u : State) → ((v : State) → length ((does v).goals) ≡ length v.goals) → Meets o t i n does s u → length u.goals ≡ length s.goals
meets_keep o t i n does s _ f (within_limit died a b) = f _
meets_keep o t i n does s _ f (past_limit more a b) = refl

commits_keep : (o : Opening) (t : Out) (f : Finding) (s u : State) → Commits o t f s u → length u.goals ≡ length s.goals
commits_keep o t f s _ (is_late v e) = refl
commits_keep o t _ s u (goal_ends {l = l} {r = r} {stop = stop} g a b e j m) = ends_keep _ t g l r stop s u m
commits_keep o t _ s u (more_ends {l = l} {r = r} {stop = stop} g a b e j m) = ends_keep _ t g l r stop s u m
commits_keep o t _ s _ (pair_joins p a e j) = refl
commits_keep o t _ s _ (fact_is_kept p a e j) = length-map s.goals _
commits_keep o t _ s u (fact_is_stale {k = k} i e j m) = meets_keep o t i 0 (kills k i) s u (killed k i) m
commits_keep o t _ s u (fact_is_dead i e j d m) = meets_keep o t i 0 _ s u (λ v. refl) m
commits_keep o t _ s u (fact_meets {ks = ks} {fs = fs} i e j d m) = meets_keep o t i _ (visits i ks fs) s u (all_killed i ks) m

put_back : (t : Out) (s : State) → length ((reclaims t s).goals) ≡ length s.goals
put_back t s = by_job t.job t.ticket t.worker t.front s
  where
    by_job : (j : Job) (n w f : ℕ) (s : State) → length ((reclaims (record { ticket = n; worker = w; job = j; front = f }) s).goals) ≡ length s.goals
    by_job (Goal g l r) n w f s = length-change _ s.goals g
    by_job (More g l r) n w f s = length-change _ s.goals g
    by_job (Meet i) n w f s = refl
    by_job (Join p o) n w f s = refl

all_put_back : (ts : List Out) (s : State) → length ((each reclaims ts s).goals) ≡ length s.goals
all_put_back [] s = refl
all_put_back (t ∷ ts) s = all_put_back ts (reclaims t s) ∙ put_back t s

audits_keep : (o : Opening) (f : Fact) (s : State) (r : AuditReply) (u : State) → Audits o f s r u → length u.goals ≡ length s.goals
audits_keep o f s _ _ (is_closed v e) = refl
audits_keep o f s _ _ (is_spent a b) = refl
audits_keep o f s _ _ (is_kept a b) = length-map s.goals _

closes_keep : (s : State) (outcome : Outcome) (v : Verdict) (u : State) → Closes s outcome v u → length u.goals ≡ length s.goals
closes_keep s _ _ _ converges = refl
closes_keep s _ _ _ has_large = refl
closes_keep s _ _ _ has_stuck = refl

starts_with : (o : Opening) (s : State) → Starts o s → length s.goals ≡ length o.goals
starts_with o _ (axioms_wait l) = length-map o.goals goal_of
starts_with o _ (too_many_axioms l) = length-map o.goals goal_of

pub as_many_goals : (m : Meaning) (o : Opening) (s : State) → Reaches m o s → length s.goals ≡ length o.goals
as_many_goals m o s (starts a) = starts_with o s a
as_many_goals m o u (draws_on {s = s} {r = r} w l a d) = draws_keep o w s r u d ∙ as_many_goals m o s a
as_many_goals m o u (commits_on {s = s} {f = f} t at right a c) = commits_keep o t f s u c ∙ as_many_goals m o s a
as_many_goals m o _ (reclaims_on {s = s} t at a) = put_back t s ∙ as_many_goals m o s a
as_many_goals m o _ (recalls_on {s = s} a) = all_put_back s.out s ∙ as_many_goals m o s a
as_many_goals m o u (audits_on {s = s} {answer = r} x may a b) = audits_keep o x.fact s r u b ∙ as_many_goals m o s a
as_many_goals m o u (closes_on {s = s} {outcome = outcome} {v = v} d f a c) = closes_keep s outcome v u c ∙ as_many_goals m o s a

-- as many stages as goals
pub few_stages : {E : Type 0} (r : Result (Vec Stage Global) E) (gs : List Target) → IfOk r (λ (v : Vec Stage Global). v.items ≡ map (λ (g : Target). g.stage) gs) → length gs < 2 ^ 31 → IfOk r (λ (v : Vec Stage Global). length v.items < 2 ^ 31)
few_stages (Ok v) gs e l = (let n : length v.items ≡ length gs = ap length e ∙ length-map gs (λ (g : Target). g.stage) in omega arith)
few_stages (Err x) gs e l = tt
