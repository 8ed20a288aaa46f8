-- The parts of a book after each of its calls are those of a book.
use Rattle.std.proofs.Common.{◌≡◌, ℕ, ◌<◌, List, [], ◌∷◌, length, take, Some, refl, ap, sym, ◌∙◌, arith, inl, inr, subst}
use Rattle.std.specs.Prelude.{Result, Ok, Err, IfOk, OnErr, ◌==◌}
use Rattle.std.proofs.lemmas.Bool.{cases_Bool, eqb-true}
use Rattle.uc_order.specs.Laws.{Meaning}
use Rattle.uc_book.specs.declared.parts.Parts.{Parts}
use Rattle.uc_book.specs.declared.answer.Drawn.{Drawn}
use Rattle.uc_book.specs.declared.answer.Receipt.{Receipt}
use Rattle.uc_machine.specs.declared.task.Job.{Job}
use Rattle.uc_book.specs.declared.token.Done.{Done}
use Rattle.uc_machine.specs.State.{Opening, State, Out, out_at}
use Rattle.uc_machine.specs.Draws.{Draws}
use Rattle.uc_machine.specs.Effects.{closes}
use Rattle.uc_machine.specs.Results.{IsResult}
use Rattle.uc_machine.specs.Runs.{Reaches, draws_on, commits_on, reclaims_on, audits_on, Audits, MayAudit, Closes, converges, has_large, has_stuck}
use Rattle.uc_machine.specs.declared.task.Missing.{Missing}
use Rattle.uc_machine.specs.declared.task.Outcome.{Outcome}
use Rattle.uc_machine.specs.declared.task.Outcome.TheVariants.{Convergent, Missing as Lacks, Large, GoalUnsettled}
use Rattle.uc_machine.specs.declared.event.Verdict.{Verdict}
use Rattle.uc_machine.specs.declared.event.Verdict.TheVariants.{Saturated, LargeOverlap, LargeGoal}
use Rattle.uc_book.specs.declared.answer.Audited.{Audited}
use Rattle.uc_book.specs.Openings.{Opened, BookView, opening_of}
use Rattle.uc_shelf.specs.Fronts.{IsOf}
use Rattle.uc_shelf.specs.Sights.{Sight}
use Rattle.uc_book.specs.declared.answer.Drawn.TheVariants.{Task as DrawnTask, Idle as DrawnIdle, Drained as DrawnDrained, Closed as DrawnClosed}
use Rattle.uc_book.specs.Answers.{reply_of, IfTask, IsTaskOf, IsReclaimed, IsCommitted, IsRight, audit_reply_of, verdict_by}
use Rattle.uc_machine.specs.Origins.{OriginsAreKnown, CanCompute}
use Rattle.uc_book.proofs.GoalCount.{as_many_goals}
use Rattle.uc_machine.proofs.Runs.{kept_reaches}
use Rattle.uc_book.proofs.Drawable.{can_drawn}
use Rattle.uc_book.specs.Parts.{state_of, Fit, HasRoom, IsBook}

pub at_ticket : (n : ℕ) (ts : List Out) (t : Out) → out_at n ts ≡ Some t → t.ticket ≡ n
at_ticket n [] t e = absurd (cc)
at_ticket n (u ∷ ts) t e = elim (cases_Bool (u.ticket == n)) [
  | inl b ↦ let f : Some u ≡ Some t = rw b at e in let same : u ≡ t = cc in ap (λ (z : Out). z.ticket) (sym same) ∙ eqb-true u.ticket n b
  | inr b ↦ at_ticket n ts t (rw b at e)
]

-- the same ticket finds it again
pub at_own : (n : ℕ) (ts : List Out) (t : Out) → out_at n ts ≡ Some t → out_at t.ticket ts ≡ Some t
at_own n ts t e = subst (λ k. out_at k ts ≡ Some t) (sym (at_ticket n ts t e)) e

-- the parts of a book are those of a book again where they fit together, have room and a run leads to their state
pub next_book : (m : Meaning) (o : Opened) (p q : Parts) → IsBook m o p → Fit o.shelf q → HasRoom q → Reaches m (opening_of o) (state_of q) → IsBook m o q
next_book m o p q b f r reaches = record { fit = f; room = r; reaches = reaches; budget = b.budget; few_axioms = b.few_axioms; few_goals = b.few_goals }

pub same_book : (m : Meaning) (o : Opened) (p q : Parts) → IsBook m o p → state_of q ≡ state_of p → Fit o.shelf q → HasRoom q → IsBook m o q
same_book m o p q b e f r = next_book m o p q b f r (subst (Reaches m (opening_of o)) (sym e) b.reaches)

pub drawn_book : {E : Type 0} (m : Meaning) (o : Opened) (w : ℕ) (p q : Parts) (r : Result Drawn E) → w < 65 → IsBook m o p → IfOk r (λ d. Draws (opening_of o) w (state_of p) (reply_of w d) (state_of q)) → OnErr r (state_of q ≡ state_of p) → Fit o.shelf q → HasRoom q → IsBook m o q
drawn_book m o w p q (Ok d) l b a e f r = next_book m o p q b f r (draws_on w l b.reaches a)
drawn_book m o w p q (Err x) l b a e f r = same_book m o p q b e f r

pub reclaimed_reaches : (m : Meaning) (o : Opening) (w n : ℕ) (s u : State) → Reaches m o s → IsReclaimed s w n u → Reaches m o u
reclaimed_reaches m o w n s u r c = subst (Reaches m o) (sym c.is) (reclaims_on c.task (at_own n s.out c.task c.at) r)

pub committed_reaches : (m : Meaning) (o : Opened) (w : ℕ) (d : Done) (receipt : Receipt) (s u : State) → Reaches m (opening_of o) s → IsRight m d → d.opening ≡ o → IsCommitted (opening_of o) s w d receipt u → Reaches m (opening_of o) u
committed_reaches m o w d receipt s u r right of c = commits_on c.task (at_own d.ticket s.out c.task c.out.at) (for_task c.task.job c.task.front c.out.job_is c.out.front_is) r c.commits
  where
    for_task : (j : Job) (n : ℕ) → j ≡ d.job → take n s.entries ≡ d.front.entries → IsResult m o.problem.axioms (take n s.entries) j d.found
    for_task j n a b = rw (a, b) (rw (← of) right)

-- a drawn task is of its book, and can be computed
pub task_known : {E O : Type 0} (m : Meaning) (b : BookView O) (w : ℕ) (u : State) (r : Result Drawn E) → Reaches m (opening_of b.opening) b.state → OriginsAreKnown m (opening_of b.opening) b.state → IsOf b.opening.shelf b.front → b.front.entries ≡ b.state.entries
    → IfOk r (λ d. Draws (opening_of b.opening) w b.state (reply_of w d) u) → IfOk r (λ d. IfTask d (λ t. (t.opening ≡ b.opening) × (t.front ≡ b.front))) → IfOk r (λ d. IfTask d (IsTaskOf m b))
task_known m b w u (Err e) reaches known of same a h = tt
task_known m b w u (Ok (DrawnTask t)) reaches known of same a h =
    let o = opening_of b.opening in
    let es : t.front.entries ≡ b.state.entries = ap (λ (f : Sight). f.entries) h.1 ∙ same in
    let can : CanCompute m o b.state.entries t.job = can_drawn m o w b.state (reply_of w (DrawnTask t)) u (as_many_goals m o b.state reaches) ((kept_reaches m o b.state reaches).facts.each_meets) known a in
    record { opening = h.0; front = h.1; of = subst (IsOf b.opening.shelf) (sym h.1) of; can = subst (λ x. CanCompute m o x t.job) (sym es) can }
task_known m b w u (Ok (DrawnIdle n)) reaches known of same a h = tt
task_known m b w u (Ok DrawnDrained) reaches known of same a h = tt
task_known m b w u (Ok (DrawnClosed v)) reaches known of same a h = tt

pub reclaimed_book : {E : Type 0} (m : Meaning) (o : Opened) (w n : ℕ) (p q : Parts) (r : Result (Unit {0}) E) → IsBook m o p → IfOk r (λ _. IsReclaimed (state_of p) w n (state_of q)) → OnErr r (q ≡ p) → Fit o.shelf q → HasRoom q → IsBook m o q
reclaimed_book m o w n p q (Ok x) b a e f r = next_book m o p q b f r (reclaimed_reaches m (opening_of o) w n (state_of p) (state_of q) b.reaches a)
reclaimed_book m o w n p q (Err x) b a e f r = same_book m o p q b (ap state_of e) f r

pub committed_book : {E : Type 0} (m : Meaning) (o : Opened) (w : ℕ) (d : Done) (p q : Parts) (r : Result Receipt E) → IsBook m o p → IsRight m d → d.opening ≡ o → IfOk r (λ receipt. IsCommitted (opening_of o) (state_of p) w d receipt (state_of q)) → OnErr r ((state_of q ≡ state_of p) × (q.facts.front ≡ p.facts.front)) → Fit o.shelf q → HasRoom q → IsBook m o q
committed_book m o w d p q (Ok x) b right of a e f r = next_book m o p q b f r (committed_reaches m o w d x (state_of p) (state_of q) b.reaches right of a)
committed_book m o w d p q (Err x) b right of a e f r = same_book m o p q b e.0 f r

pub audited_book : {E : Type 0} (m : Meaning) (o : Opened) (missing : Missing) (p q : Parts) (r : Result Audited E) → IsBook m o p → MayAudit m (opening_of o) (state_of p) missing → IfOk r (λ a. Audits (opening_of o) missing.fact (state_of p) (audit_reply_of a) (state_of q)) → OnErr r ((state_of q ≡ state_of p) × (q.facts.front ≡ p.facts.front)) → Fit o.shelf q → HasRoom q → IsBook m o q
audited_book m o missing p q (Ok x) b may a e f r = next_book m o p q b f r (audits_on missing may b.reaches a)
audited_book m o missing p q (Err x) b may a e f r = same_book m o p q b e.0 f r

-- the verdict of a close is that of its outcome
pub closed_by : (s u : State) (outcome : Outcome) (v : Verdict) → verdict_by outcome ≡ Some v → u ≡ closes 0 v s → Closes s outcome v u
closed_by s u (Convergent facts) v e c = (let same : Saturated ≡ v = cc in subst (λ x. Closes s (Convergent facts) x u) same (subst (Closes s (Convergent facts) Saturated) (sym (c ∙ ap (λ x. closes 0 x s) (sym same))) converges))
closed_by s u (Lacks all) v e c = absurd (cc)
closed_by s u (Large a) v e c = (let same : LargeOverlap a ≡ v = cc in subst (λ x. Closes s (Large a) x u) same (subst (Closes s (Large a) (LargeOverlap a)) (sym (c ∙ ap (λ x. closes 0 x s) (sym same))) has_large))
closed_by s u (GoalUnsettled g) v e c = (let same : LargeGoal g ≡ v = cc in subst (λ x. Closes s (GoalUnsettled g) x u) same (subst (Closes s (GoalUnsettled g) (LargeGoal g)) (sym (c ∙ ap (λ x. closes 0 x s) (sym same))) has_stuck))

pub none_left : (ts : List Out) → ((0 < length ts) → ⊥) → ts ≡ []
none_left [] h = refl
none_left (t ∷ ts) h = absurd (h (omega arith))
