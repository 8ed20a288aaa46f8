-- What each call keeps.
use Rattle.std.proofs.Common.{◌≡◌, ℕ, zero, suc, ◌+◌, ◌<◌, ◌≤◌, List, [], ◌∷◌, ◌++◌, length, true, false, cond, ◌==◌, Some, refl, ap, sym, ◌∙◌, arith, inl, inr, append_assoc, subst, map, take, slice_get}
use Rattle.std.specs.Prelude.{◌⊎◌, replicate}
use Rattle.std.proofs.lemmas.Bool.{cases_Bool, eq-eqb, cases_eq, false≢true}
use Rattle.std.proofs.lemmas.List.{append-nil}
use Rattle.std.specs.List.{sum_by}
use Rattle.uc_term.specs.declared.equation.Equation.{Equation}
use Rattle.uc_fact.specs.declared.chain.Chain.{Chain}
use Rattle.uc_fact.specs.declared.fact.Fact.{Fact}
use Rattle.uc_fact.specs.declared.fact.Overlap.{Overlap}
use Rattle.uc_fact.specs.declared.fact.Origin.{Origin}
use Rattle.uc_fact.specs.declared.fact.Origin.TheVariants.{Overlap as OfOverlap}
use Rattle.uc_fact.specs.declared.fact.Stop.{Stop}
use Rattle.uc_pair.specs.declared.formed.Formed.{Formed}
use Rattle.uc_queue.specs.declared.entry.Entry.{Entry as Place}
use Rattle.uc_ledger.specs.declared.ledger.State.{State as Condition}
use Rattle.uc_ledger.specs.declared.ledger.State.TheVariants.{Waiting, Out as OutTo, Done, Orphan, Large}
use Rattle.uc_shelf.specs.declared.entry.Entry.{Entry}
use Rattle.uc_shelf.specs.declared.entry.Entry.TheVariants.{Born, Dies}
use Rattle.uc_shelf.specs.Entries.{born, is_dead}
use Rattle.uc_machine.specs.declared.state.Meeting.{Meeting}
use Rattle.uc_machine.specs.declared.state.Meeting.TheVariants.{Unmet, Visiting, Met}
use Rattle.uc_machine.specs.declared.state.Stage.{Stage}
use Rattle.uc_machine.specs.declared.event.Verdict.{Verdict}
use Rattle.uc_machine.specs.declared.event.GoalEnd.{GoalEnd}
use Rattle.uc_machine.specs.declared.event.Happening.{Happening}
use Rattle.uc_machine.specs.declared.event.Happening.TheVariants.{CommitGoal, CommitMore, CommitMeet, CommitJoined, CommitKept}
use Rattle.uc_machine.specs.declared.task.Job.{Job}
use Rattle.uc_machine.specs.declared.task.Job.TheVariants.{Goal, More, Meet, Join}
use Rattle.uc_machine.specs.Lists.{change, each, Each}
use Rattle.uc_machine.specs.State.{Opening, State, Pair, Target, Out, draws_in, out_at, without, is_waiting, queue, is_due, is_continued, is_unmet}
use Rattle.uc_machine.specs.Effects.{dies, kills, turns, stages, reclaims, recalls, meets_unmet, unit_of, drops, accepts, takes_ends, goes_on, is_met, pair_by, forms, visits}
use Rattle.uc_machine.specs.Events.{ending_in}
use Rattle.uc_machine.specs.Promises.{later_fact, IsOf}
use Rattle.std.proofs.lemmas.Bool.{cases_order}
use Rattle.uc_order.specs.Laws.{Meaning}
use Rattle.uc_machine.specs.declared.event.Verdict.TheVariants.{Proved, PairsOut, BudgetOut}
use Rattle.uc_machine.specs.declared.event.GoalEnd.TheVariants.{Met as EndsMet}
use Rattle.uc_machine.specs.declared.task.Finding.{Finding}
use Rattle.uc_machine.specs.declared.task.Finding.TheVariants.{Met as Visited}
use Rattle.uc_machine.specs.declared.task.Missing.{Missing}
use Rattle.uc_machine.specs.declared.task.Outcome.{Outcome}
use Rattle.uc_machine.specs.Draws.{Reply, Draws, verdict_stands, goal_is_due, fact_is_unmet, orphan_is_dropped, goal_is_continued, pair_is_drawn, budget_is_out, budget_is_spent, all_is_out, all_is_done}
use Rattle.uc_machine.specs.Commits.{GoalEnds, ends_meet, ends_differ, Meets, within_limit, past_limit, newly_waiting, stays, steps_of, end_word, Commits, is_late, goal_ends, more_ends, pair_joins, fact_is_kept, fact_is_stale, fact_is_dead, fact_meets}
use Rattle.uc_machine.specs.Runs.{AuditReply, axiom_pairs, opened, Starts, axioms_wait, too_many_axioms, Audits, is_closed, is_spent, is_kept, Closes, converges, has_large, has_stuck, AreAudited, none_yet, one_more, MayAudit}
use Rattle.uc_machine.proofs.Audited.{was_missing}
use Rattle.uc_machine.proofs.Kept.{IsBusy, is_same, Numbered, Kept}
use Rattle.uc_machine.proofs.Lists.{below, get-change_same, get-change_other, Each-map}
use Rattle.uc_machine.proofs.Found.{first_is, IsPlace, peek_is}
use Rattle.uc_machine.proofs.Blocks.{busy-goal, busy-more, busy-append, ends-append, origin-append, born-dies}
use Rattle.uc_machine.proofs.Steps.{tasks_stay, kept_goal, kept_more, kept_meet, kept_join, kept_drop, kept_close, kept_publish, kept_kills, IsCommitOf, kept_late, at_task, kept_done, kept_met, kept_ends, kept_reclaim, kept_audit}

-- draw

pub waits_is : (c : Condition) → is_waiting c ≡ true → c ≡ Waiting
waits_is Waiting e = refl
waits_is (OutTo w) e = absurd (false≢true e)
waits_is Done e = absurd (false≢true e)
waits_is Orphan e = absurd (false≢true e)
waits_is Large e = absurd (false≢true e)

unmet_is : (m : Meeting) → is_unmet m ≡ true → m ≡ Unmet
unmet_is Unmet e = refl
unmet_is Visiting e = absurd (false≢true e)
unmet_is Met e = absurd (false≢true e)

pub record WaitsAt (ps : List Pair) (n : ℕ) : Type 0 where
  pub pair : Pair
  pub at : slice_get ps n ≡ Some pair
  pub is : pair.condition ≡ Waiting

pub place_waits : (ps : List Pair) (q : Place) → IsPlace 0 ps q → WaitsAt ps q.number
place_waits ps q i = let e : i.place ≡ q.number = (let f : q.number ≡ 0 + i.place = i.number in omega arith) in
    record { pair = i.pair; at = subst (λ n. slice_get ps n ≡ Some i.pair) e i.at; is = waits_is i.pair.condition i.waits }

pub kept_draws : (o : Opening) (w : ℕ) (s : State) (r : Reply) (u : State) → Draws o w s r u → Kept o s → Kept o u
kept_draws o w s _ _ (verdict_stands v e) k = k
kept_draws o w s _ _ (goal_is_due g e f) k = let h = first_is (λ (y : Target). is_due y.stage) s.goals g f in kept_goal o s w g.number _ _ g.here k h.at (λ q. false≢true (sym (ap is_due q) ∙ h.passes))
kept_draws o w s _ _ (fact_is_unmet i n f) k = let h = first_is is_unmet s.meetings i f in kept_meet o s w i.number k (h.at ∙ ap (λ z. Some z) (unmet_is i.here h.passes))
kept_draws o w s r u (orphan_is_dropped p n e f d) k = let x = place_waits s.pairs p (peek_is s p e) in kept_draws o w (drops w p.number s) r u d (kept_drop o s w p.number x.pair k x.at x.is)
kept_draws o w s _ _ (goal_is_continued g l f room) k = let h = first_is (λ (y : Target). is_continued y.stage) s.goals g f in kept_more o s w g.number _ _ g.here k h.at (λ q. false≢true (sym (ap is_continued q) ∙ h.passes)) room
kept_draws o w s _ _ (pair_is_drawn p x l f e at room) k = let y = place_waits s.pairs p (peek_is s p e) in kept_join o s w p.number x.origin y.pair k y.at y.is room
kept_draws o w s _ _ (budget_is_out l a b c) k = k
kept_draws o w s _ _ (budget_is_spent l a b c) k = kept_close o s w _ k
kept_draws o w s _ _ (all_is_out l a b) k = k
kept_draws o w s _ _ (all_is_done l a b) k = k

-- commit

abbrev pub AllDiffer : List Formed → Type 0
AllDiffer [] = Unit {0}
AllDiffer (f ∷ fs) = Each (λ (g : Formed). f.overlap ≡ g.overlap → ⊥) fs × AllDiffer fs

-- a place past the old pairs has the new one
append_cases : (ps : List Pair) (x : Pair) (p : ℕ) (o : Overlap) → IsOf (ps ++ x ∷ []) p o → (IsOf ps p o ⊎ ((p ≡ length ps) × (x.origin ≡ OfOverlap o)))
append_cases [] x zero o e = inr (refl, (cc))
append_cases [] x (suc p) o e = absurd (cc)
append_cases (y ∷ ps) x zero o e = inl e
append_cases (y ∷ ps) x (suc p) o e = elim (append_cases ps x p o e) [ inl a ↦ inl a | inr b ↦ inr (ap suc b.0, b.1) ]

abbrev NewFor : List Pair → List Formed → Type 0
NewFor ps fs = Each (λ (f : Formed). (p : ℕ) → IsOf ps p f.overlap → ⊥) fs

numbered_one : (ps : List Pair) (ms : List Meeting) (x : Pair) (v : Overlap) → x.origin ≡ OfOverlap v → slice_get ms (later_fact v) ≡ Some Met → ((p : ℕ) → IsOf ps p v → ⊥) → Numbered ps ms → Numbered (ps ++ x ∷ []) ms
numbered_one ps ms x v is met new n = record { once = one; met = metting }
  where
    same : (o : Overlap) → x.origin ≡ OfOverlap o → v ≡ o
    same o e = cc

    one : (p r : ℕ) (o : Overlap) → IsOf (ps ++ x ∷ []) p o → IsOf (ps ++ x ∷ []) r o → p ≡ r
    one p r o a b = elim (append_cases ps x p o a) [
      | inl c ↦ elim (append_cases ps x r o b) [ inl d ↦ n.once p r o c d | inr d ↦ absurd (new p (subst (λ z. IsOf ps p z) (sym (same o d.1)) c)) ]
      | inr c ↦ elim (append_cases ps x r o b) [ inl d ↦ absurd (new r (subst (λ z. IsOf ps r z) (sym (same o c.1)) d)) | inr d ↦ c.0 ∙ sym d.0 ]
    ]

    metting : (p : ℕ) (o : Overlap) → IsOf (ps ++ x ∷ []) p o → slice_get ms (later_fact o) ≡ Some Met
    metting p o a = elim (append_cases ps x p o a) [ inl c ↦ n.met p o c | inr c ↦ subst (λ z. slice_get ms (later_fact z) ≡ Some Met) (same o c.1) met ]

new_more : (ps : List Pair) (es : List Entry) (f : Formed) (fs : List Formed) → Each (λ (g : Formed). f.overlap ≡ g.overlap → ⊥) fs → NewFor ps fs → NewFor (ps ++ pair_by es f ∷ []) fs
new_more ps es f [] d n = tt
new_more ps es f (g ∷ fs) d n = ((λ p a. n.0 p (origin-append ps (pair_by es f) p g.overlap (λ e. d.0 (cc)) a)), new_more ps es f fs d.1 n.1)

numbered_forms : (i : ℕ) (es : List Entry) (ms : List Meeting) → slice_get ms i ≡ Some Met → (fs : List Formed) (ps : List Pair) → Each (λ (f : Formed). later_fact f.overlap ≡ i) fs → AllDiffer fs → NewFor ps fs → Numbered ps ms → Numbered (ps ++ map (pair_by es) fs) ms
numbered_forms i es ms met [] ps l d n k = rw append-nil k
numbered_forms i es ms met (f ∷ fs) ps l d n k =
    let one : Numbered (ps ++ pair_by es f ∷ []) ms = numbered_one ps ms (pair_by es f) f.overlap refl (subst (λ z. slice_get ms z ≡ Some Met) (sym l.0) met) n.0 k in
    subst (λ z. Numbered z ms) (append_assoc ps (pair_by es f ∷ []) (map (pair_by es) fs))
    (numbered_forms i es ms met fs (ps ++ pair_by es f ∷ []) l.1 d.1 (new_more ps es f fs d.0 n.1) one)

-- the state in the midst of a meeting
record Midst (o : Opening) (i : ℕ) (fs : List Formed) (n : ℕ) (u : State) : Type 0 where
  kept : Kept o u
  met : slice_get u.meetings i ≡ Some Met
  new : NewFor u.pairs fs
  born : length (born u.entries) ≡ n

new_dies : (ps : List Pair) (x : Pair) (fs : List Formed) → ((o : Overlap) → x.origin ≡ OfOverlap o → ⊥) → NewFor ps fs → NewFor (ps ++ x ∷ []) fs
new_dies ps x [] k n = tt
new_dies ps x (g ∷ fs) k n = ((λ p a. n.0 p (origin-append ps x p g.overlap (k g.overlap) a)), new_dies ps x fs k n.1)

midst_kill : (o : Opening) (i : ℕ) (fs : List Formed) (n : ℕ) (u : State) (k : ℕ) → k < n → Midst o i fs n u → Midst o i fs n (kills i k u)
midst_kill o i fs n u k l m = elim (cases_Bool (is_dead u.entries k)) as (λ _. Midst o i fs n (cond (is_dead u.entries k) u (dies i k u))) [
  | inl e ↦ rw e m
  | inr e ↦ rw e (record {
    kept = subst (λ b. Kept o (cond b u (dies i k u))) e (kept_kills o u i k (rw m.born l) m.kept);
    met = met_stays (cases_eq k i);
    new = new_dies u.pairs _ fs (λ v q. cc) m.new;
    born = ap length (born-dies u.entries k i) ∙ m.born;
  })
]
  where
    met_stays : ((k ≡ i) ⊎ (k ≡ i → ⊥)) → slice_get (change meets_unmet u.meetings k) i ≡ Some Met
    met_stays (inl q) = subst (λ z. slice_get (change meets_unmet u.meetings z) i ≡ Some Met) (sym q) (get-change_same meets_unmet u.meetings i Met m.met)
    met_stays (inr ne) = get-change_other meets_unmet u.meetings k i ne ∙ m.met

midst_kills : (o : Opening) (i : ℕ) (fs : List Formed) (n : ℕ) (ks : List ℕ) (u : State) → Each (λ k. k < n) ks → Midst o i fs n u → Midst o i fs n (each (kills i) ks u)
midst_kills o i fs n [] u l m = m
midst_kills o i fs n (k ∷ ks) u l m = midst_kills o i fs n ks (kills i k u) l.1 (midst_kill o i fs n u k l.0 m)

kept_forms : (o : Opening) (i : ℕ) (fs : List Formed) (n : ℕ) (u : State) → Each (λ (f : Formed). later_fact f.overlap ≡ i) fs → AllDiffer fs → Midst o i fs n u → Kept o (forms fs u)
kept_forms o i fs n u l d m = record {
  accounts = m.kept.accounts;
  facts = m.kept.facts;
  tasks = tasks_stay u.pairs _ u.goals u.goals u.meetings u.meetings u.out (λ v j b. subst (λ z. IsBusy (u.pairs ++ map (pair_by u.entries) fs) u.goals z v j) (append-nil u.meetings) (busy-append u.pairs (map (pair_by u.entries) fs) u.goals u.meetings [] v j b)) m.kept.tasks;
  ends_once = ends-append u.pairs (map (pair_by u.entries) fs) u.out u.history m.kept.ends_once;
  numbered = numbered_forms i u.entries u.meetings m.met fs u.pairs l d m.new m.kept.numbered;
}

kept_visits : (o : Opening) (i : ℕ) (ks : List ℕ) (fs : List Formed) (n : ℕ) (u : State) → Each (λ k. k < n) ks → Each (λ (f : Formed). later_fact f.overlap ≡ i) fs → AllDiffer fs → Midst o i fs n u → Kept o (visits i ks fs u)
kept_visits o i ks fs n u b l d m = kept_forms o i fs n (each (kills i) ks u) l d (midst_kills o i fs n ks u b m)

-- no pair has an overlap of a fact whose meeting is out
new_for : (ps : List Pair) (ms : List Meeting) (i : ℕ) (fs : List Formed) → Numbered ps ms → slice_get ms i ≡ Some Visiting → Each (λ (f : Formed). later_fact f.overlap ≡ i) fs → NewFor ps fs
new_for ps ms i [] n at l = tt
new_for ps ms i (f ∷ fs) n at l = ((λ p a. (let b : slice_get ms (later_fact f.overlap) ≡ Some Met = n.met p f.overlap a in let c : slice_get ms i ≡ Some Met = subst (λ z. slice_get ms z ≡ Some Met) l.0 b in absurd (cc))), new_for ps ms i fs n at l.1)

born-take : (n : ℕ) (es : List Entry) → length (born (take n es)) ≤ length (born es)
born-take zero es = omega arith
born-take (suc n) [] = omega arith
born-take (suc n) (Born f ∷ es) = let h : length (born (take n es)) ≤ length (born es) = born-take n es in omega arith
born-take (suc n) (Dies f k ∷ es) = born-take n es

-- what the results of meetings owe: the kills are born in the front, and the overlaps differ, the fact that meets being the later
-- one of each
pub record MeetsRightly (i n : ℕ) (ks : List ℕ) (fs : List Formed) : Type 0 where
  pub kills_born : Each (λ k. k < n) ks
  pub later_is : Each (λ (f : Formed). later_fact f.overlap ≡ i) fs
  pub differ : AllDiffer fs

kept_meets : (o : Opening) (s : State) (t : Out) (i pairs : ℕ) (does : State → State) (u : State) → ((c d : ℕ) → Kept o (is_met i (accepts t (CommitMeet i c d) s)))
    → ((c d : ℕ) → Kept o (is_met i (accepts t (CommitMeet i c d) s)) → Kept o (does (is_met i (accepts t (CommitMeet i c d) s)))) → Meets o t i pairs does s u → Kept o u
kept_meets o s t i pairs does _ m g (within_limit died a b) = g pairs died (m pairs died)
kept_meets o s t i pairs does _ m g (past_limit more a b) = kept_close o (is_met i (accepts t (CommitMeet i 0 0) s)) t.worker (PairsOut (length (queue s)) more) (m 0 0)

kept_goal_ends : (o : Opening) (s : State) (t : Out) (g : ℕ) (kind : ℕ → ℕ → GoalEnd → Happening) (c d : Chain) (stop : Stop) (u : State)
    → Kept o (takes_ends g c d (accepts t (kind g (steps_of c d) EndsMet) s)) → ((x : Stage) → Kept o (stages x g (takes_ends g c d (accepts t (kind g (steps_of c d) (end_word stop)) s))))
    → GoalEnds kind t g c d stop s u → Kept o u
kept_goal_ends o s t g kind c d stop _ met differ (ends_meet e) = kept_close o (takes_ends g c d (accepts t (kind g (steps_of c d) EndsMet) s)) t.worker (Proved g) met
kept_goal_ends o s t g kind c d stop _ met differ (ends_differ x e a) = differ x

-- a task with another job of the same value
abbrev with_job : Out → Job → Out
with_job t j = record { ticket = t.ticket; worker = t.worker; job = j; front = t.front }

at_job : (t : Out) (out : List Out) (j : Job) → t.job ≡ j → out_at t.ticket out ≡ Some t → out_at t.ticket out ≡ Some (with_job t j)
at_job t out j is at = subst (λ x. out_at t.ticket out ≡ Some (with_job t x)) is at

met_by_job : (o : Opening) (s : State) (t : Out) (i : ℕ) → Kept o s → out_at t.ticket s.out ≡ Some t → t.job ≡ Meet i → (c d : ℕ) → Kept o (is_met i (accepts t (CommitMeet i c d) s))
met_by_job o s t i k at is c d = subst (λ x. Kept o (is_met i (accepts (with_job t x) (CommitMeet i c d) s))) (sym is)
    (kept_met o s t.ticket t.worker i t.front (CommitMeet i c d) k (at_job t s.out (Meet i) is at) (record { no_draw = refl; commit = refl; no_reclaim = refl; unit = refl }) (λ q. refl))

done_by_job : (o : Opening) (s : State) (t : Out) (p : ℕ) (a : Origin) (h : Happening) → Kept o s → out_at t.ticket s.out ≡ Some t → t.job ≡ Join p a → IsCommitOf (draws_in s.history) (with_job t (Join p a)) h → ((q : ℕ) → ending_in (draws_in s.history) q h ≡ cond {A = ℕ} (p == q) 1 0) → Kept o (turns Done p (accepts t h s))
done_by_job o s t p a h k at is of never = subst (λ x. Kept o (turns Done p (accepts (with_job t x) h s))) (sym is) (kept_done o s t.ticket t.worker p t.front a h k (at_job t s.out (Join p a) is at) of never)

goal_by_job : (o : Opening) (s : State) (t : Out) (j : Job) (gs : List Target) (h : Happening) → Kept o s → out_at t.ticket s.out ≡ Some t → t.job ≡ j → IsCommitOf (draws_in s.history) (with_job t j) h → ((q : ℕ) → ending_in (draws_in s.history) q h ≡ 0)
    → ((v : ℕ) (i : Job) → is_same j i ≡ false → IsBusy s.pairs s.goals s.meetings v i → IsBusy s.pairs gs s.meetings v i) → Kept o (record (accepts t h s) { goals = gs })
goal_by_job o s t j gs h k at is of never stay = subst (λ x. Kept o (record (accepts (with_job t x) h s) { goals = gs })) (sym is) (kept_ends o s t.ticket t.worker t.front j gs h k (at_job t s.out j is at) of never stay)

pub kept_commits : (o : Opening) (s : State) (t : Out) (f : Finding) (u : State) → Kept o s → out_at t.ticket s.out ≡ Some t
    → ((i : ℕ) (ks : List ℕ) (fs : List Formed) → t.job ≡ Meet i → f ≡ Visited ks fs → MeetsRightly i (length (born (take t.front s.entries))) ks fs) → Commits o t f s u → Kept o u
kept_commits o s t f _ k at right (is_late v e) = kept_late o s t k at
kept_commits o s t _ u k at right (goal_ends {l = c} {r = d} {stop = stop} g a b e is ends_) =
    kept_goal_ends o s t g CommitGoal c d stop u
    (goal_by_job o s t (Goal g a b) (change (goes_on c d) s.goals g) (CommitGoal g (steps_of c d) EndsMet) k at is (record { no_draw = refl; commit = refl; no_reclaim = refl; unit = refl }) (λ q. refl) (λ v i x y. busy-goal s.pairs s.goals s.meetings (goes_on c d) g a b v i x y))
    (λ z. goal_by_job o s t (Goal g a b) (change (λ (x : Target). record x { stage = z }) (change (goes_on c d) s.goals g) g) (CommitGoal g (steps_of c d) (end_word stop)) k at is (record { no_draw = refl; commit = refl; no_reclaim = refl; unit = refl }) (λ q. refl)
    (λ v i x y. busy-goal s.pairs (change (goes_on c d) s.goals g) s.meetings (λ (w : Target). record w { stage = z }) g a b v i x (busy-goal s.pairs s.goals s.meetings (goes_on c d) g a b v i x y)))
    ends_
kept_commits o s t _ u k at right (more_ends {l = c} {r = d} {stop = stop} g a b e is ends_) =
    kept_goal_ends o s t g CommitMore c d stop u
    (goal_by_job o s t (More g a b) (change (goes_on c d) s.goals g) (CommitMore g (steps_of c d) EndsMet) k at is (record { no_draw = refl; commit = refl; no_reclaim = refl; unit = refl }) (λ q. refl) (λ v i x y. busy-more s.pairs s.goals s.meetings (goes_on c d) g a b v i x y))
    (λ z. goal_by_job o s t (More g a b) (change (λ (x : Target). record x { stage = z }) (change (goes_on c d) s.goals g) g) (CommitMore g (steps_of c d) (end_word stop)) k at is (record { no_draw = refl; commit = refl; no_reclaim = refl; unit = refl }) (λ q. refl)
    (λ v i x y. busy-more s.pairs (change (goes_on c d) s.goals g) s.meetings (λ (w : Target). record w { stage = z }) g a b v i x (busy-more s.pairs s.goals s.meetings (goes_on c d) g a b v i x y)))
    ends_
kept_commits o s t _ _ k at right (pair_joins p a e is) = done_by_job o s t p a (CommitJoined p) k at is (record { no_draw = refl; commit = refl; no_reclaim = refl; unit = refl }) (λ q. refl)
kept_commits o s t _ _ k at right (fact_is_kept {f = f} p a e is) =
    kept_publish o (turns Done p (accepts t (CommitKept p (length (born s.entries))) s)) f (done_by_job o s t p a (CommitKept p (length (born s.entries))) k at is (record { no_draw = refl; commit = refl; no_reclaim = refl; unit = refl }) (λ q. refl))
kept_commits o s t _ u k at right (fact_is_stale {k = c} i e is m) =
    let b : i < length s.meetings = below s.meetings i Visiting (at_task o s (with_job t (Meet i)) k (at_job t s.out (Meet i) is at)) in
    let q : length s.meetings ≡ length (born s.entries) = k.facts.each_meets in
    kept_meets o s t i 0 (λ v. kills c i v) u (met_by_job o s t i k at is) (λ x y h. kept_kills o (is_met i (accepts t (CommitMeet i x y) s)) c i (omega arith) h) m
kept_commits o s t _ u k at right (fact_is_dead i e is dead m) = kept_meets o s t i 0 stays u (met_by_job o s t i k at is) (λ x y h. h) m
kept_commits o s t _ u k at right (fact_meets {ks = ks} {fs = fs} i e is alive m) =
    let v : slice_get s.meetings i ≡ Some Visiting = at_task o s (with_job t (Meet i)) k (at_job t s.out (Meet i) is at) in
    let r = right i ks fs is refl in
    let low : Each (λ c. c < length (born s.entries)) ks = Each-map (λ (c : ℕ) (l : c < length (born (take t.front s.entries))). (let b = born-take t.front s.entries in let q : c < length (born s.entries) = omega arith in q)) ks r.kills_born in
    kept_meets o s t i (newly_waiting fs (each (λ c. kills i c) ks s)) (λ x. visits i ks fs x) u (met_by_job o s t i k at is)
    (λ x y h. kept_visits o i ks fs (length (born s.entries)) (is_met i (accepts t (CommitMeet i x y) s)) low r.later_is r.differ
    (record { kept = h; met = get-change_same (λ (z : Meeting). Met) s.meetings i Visiting v; new = new_for s.pairs s.meetings i fs k.numbered v r.later_is; born = refl })) m

-- recall

pub out_restored : (n w fr : ℕ) (j : Job) (s : State) → (let t : Out = record { ticket = n; worker = w; job = j; front = fr } in (reclaims t s).out ≡ without n s.out)
out_restored n w fr (Goal g l r) s = refl
out_restored n w fr (More g l r) s = refl
out_restored n w fr (Meet i) s = refl
out_restored n w fr (Join p a) s = refl

kept_each : (o : Opening) (ts : List Out) (s : State) → s.out ≡ ts → Kept o s → Kept o (each reclaims ts s)
kept_each o [] s e k = k
kept_each o (t ∷ ts) s e k =
    let same : (t.ticket == t.ticket) ≡ true = eq-eqb t.ticket t.ticket refl in
    let at : out_at t.ticket s.out ≡ Some t = rw (e, same) refl in
    let less : without t.ticket (t ∷ ts) ≡ ts = rw same refl in
    kept_each o ts (reclaims t s) (out_restored t.ticket t.worker t.front t.job s ∙ ap (without t.ticket) e ∙ less) (kept_reclaim o s t k at)

pub kept_recalls : (o : Opening) (s : State) → Kept o s → Kept o (recalls s)
kept_recalls o s k = kept_each o s.out s refl k

-- audit and close

out_audited : (o : Opening) (f : Fact) (s : State) (r : AuditReply) (u : State) → Audits o f s r u → u.out ≡ s.out
out_audited o f s _ _ (is_closed v e) = refl
out_audited o f s _ _ (is_spent e c) = refl
out_audited o f s _ _ (is_kept e c) = refl

pub audits_out : (o : Opening) (all : List Missing) (d : State) (left : List Missing) (s : State) → AreAudited o all d left s → s.out ≡ d.out
audits_out o all d _ _ none_yet = refl
audits_out o all d left u (one_more {missing = x} {s = s} {answer = r} a b) = out_audited o x.fact s r u b ∙ audits_out o all d (x ∷ left) s a

below_budget : (c r b : ℕ) → r ≡ 0 → c + r ≤ b → (c ≡ b → ⊥) → c + r < b
below_budget c r b z l ne = elim (cases_order c b) [ inl q ↦ absurd (ne q) | inr h ↦ elim h [ inl l2 ↦ omega arith | inr g ↦ absurd (omega arith) ] ]

kept_audits : (o : Opening) (f : Fact) (s : State) (r : AuditReply) (u : State) → s.out ≡ [] → Kept o s → Audits o f s r u → Kept o u
kept_audits o f s _ _ e k (is_closed v c) = k
kept_audits o f s _ _ e k (is_spent c b) = kept_close o s 0 (BudgetOut s.counted) k
kept_audits o f s _ _ e k (is_kept c ne) =
    let zero_out : s.reserved ≡ 0 = k.accounts.reserved_is ∙ ap (λ ts. sum_by (λ (t : Out). unit_of t.job) ts) e in
    let w : s.counted + s.reserved ≤ o.budget = k.accounts.within in
    kept_audit o s f k (below_budget s.counted s.reserved o.budget zero_out w ne)

pub kept_audited : (m : Meaning) (o : Opening) (s u : State) (x : Missing) (r : AuditReply) → MayAudit m o s x → Kept o s → Audits o x.fact s r u → Kept o u
kept_audited m o s u x r may k b = let a = was_missing m o s x may in kept_audits o x.fact s r u (audits_out o a.all a.drained (x ∷ a.left) s a.audited ∙ a.is_drained.none_out) k b

pub kept_closes : (o : Opening) (s u : State) (outcome : Outcome) (v : Verdict) → Kept o s → Closes s outcome v u → Kept o u
kept_closes o s _ _ _ k converges = kept_close o s 0 _ k
kept_closes o s _ _ _ k has_large = kept_close o s 0 _ k
kept_closes o s _ _ _ k has_stuck = kept_close o s 0 _ k

-- the start

get-replicate : {A : Type 0} (n : ℕ) (x : A) (w : ℕ) → w < n → slice_get (replicate n x) w ≡ Some x
get-replicate zero x w l = absurd (omega arith)
get-replicate (suc n) x zero l = refl
get-replicate (suc n) x (suc w) l = get-replicate n x w (omega arith)

no_overlap : (k : ℕ) (es : List Equation) (p : ℕ) (v : Overlap) → IsOf (axiom_pairs k es) p v → ⊥
no_overlap k [] p v e = cc
no_overlap k (x ∷ es) zero v e = cc
no_overlap k (x ∷ es) (suc p) v e = no_overlap ((k + 1)) es p v e

kept_opened : (o : Opening) (ps : List Pair) → ((p : ℕ) (v : Overlap) → IsOf ps p v → ⊥) → Kept o (opened o ps)
kept_opened o ps none_of = record {
  accounts = record {
    counted_is = refl;
    reserved_is = refl;
    within = omega arith;
    numbers_are = λ w l. get-replicate 65 _ w l;
    balance = λ w. refl;
    rising = tt;
    known = tt;
  };
  facts = record { once = tt; later = tt; are_born = tt; each_meets = refl };
  tasks = record { busy = tt; apart = tt };
  ends_once = ends-append [] ps [] [] (λ p. omega arith);
  numbered = record { once = λ p q v a c. absurd (none_of p v a); met = λ p v a. absurd (none_of p v a) };
}

pub kept_starts : (o : Opening) (s : State) → Starts o s → Kept o s
kept_starts o _ (too_many_axioms l) = kept_close o (opened o []) 0 (PairsOut 0 (length o.axioms)) (kept_opened o [] (λ p v a. cc))
kept_starts o _ (axioms_wait l) = kept_opened o (axiom_pairs 0 o.axioms) (λ p v a. no_overlap 0 o.axioms p v a)
