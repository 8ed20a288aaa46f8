-- From one state one draw has one answer and leaves one state.
use Rattle.std.proofs.Common.{◌≡◌, ℕ, ◌+◌, ◌<◌, ◌≤◌, true, false, Some, None, slice_get, refl, ap, sym, ◌∙◌, arith, subst}
use Rattle.std.proofs.lemmas.Bool.{false≢true}
use Rattle.uc_queue.specs.declared.entry.Entry.{Entry as Place}
use Rattle.uc_machine.specs.declared.state.Meeting.{Meeting}
use Rattle.uc_machine.specs.declared.event.Verdict.{Verdict}
use Rattle.uc_machine.specs.declared.task.Job.TheVariants.{Goal, More, Meet, Join}
use Rattle.uc_machine.specs.Lists.{At}
use Rattle.uc_machine.specs.Draws.{Reply, Drew, Closed, with_ends, NoneUnmet, Waits, goal_waits, pair_waits, NothingWaits, HasBudget, IsSpent, Draws, verdict_stands, goal_is_due, fact_is_unmet, orphan_is_dropped, goal_is_continued, pair_is_drawn, budget_is_out, budget_is_spent, all_is_out, all_is_done}
use Rattle.uc_machine.specs.Effects.{hands_out, task_for, drops}
use Rattle.uc_machine.specs.State.{Opening, State, Target, Pair, first_due, first_unmet, first_continued, peek, is_orphan, orphan_at, head_is_orphan}

-- the answer and the state
abbrev pub Same : Reply → State → Reply → State → Type 0
Same a u b v = (a ≡ b) × (u ≡ v)

-- what no rule allows at once
two_verdicts : {A : Type 0} (s : State) (v : Verdict) → s.verdict ≡ Some v → s.verdict ≡ None → A
two_verdicts s v e o = absurd (cc)

two_due : {A : Type 0} (s : State) (g : At Target) → first_due s ≡ Some g → first_due s ≡ None → A
two_due s g e o = absurd (cc)

two_unmet : {A : Type 0} (s : State) (i : At Meeting) → first_unmet s ≡ Some i → first_unmet s ≡ None → A
two_unmet s i e o = absurd (cc)

two_heads : {A : Type 0} (s : State) (p : Place) → peek s ≡ Some p → is_orphan s p.number ≡ true → head_is_orphan s ≡ false → A
two_heads s p e f n = absurd (false≢true (sym n ∙ ap (orphan_at s) e ∙ f))

two_continued : {A : Type 0} (s : State) (g : At Target) → first_continued s ≡ Some g → first_continued s ≡ None → A
two_continued s g e o = absurd (cc)

two_budgets : {A : Type 0} (o : Opening) (s : State) → HasBudget o s → IsSpent o s → A
two_budgets o s a b = absurd (let x : s.counted + s.reserved < o.budget = a in let y : o.budget ≤ s.counted + s.reserved = b in omega arith)

two_waits : {A : Type 0} (s : State) → Waits s → NothingWaits s → A
two_waits s (goal_waits g e) n = let q : first_continued s ≡ None = n.no_goal in absurd (cc)
two_waits s (pair_waits p e) n = let q : peek s ≡ None = n.no_pair in absurd (cc)

two_places : {A : Type 0} (s : State) (p : Place) → peek s ≡ Some p → NothingWaits s → A
two_places s p e n = two_waits s (pair_waits p e) n

two_goals : {A : Type 0} (s : State) (g : At Target) → first_continued s ≡ Some g → NothingWaits s → A
two_goals s g e n = two_waits s (goal_waits g e) n

one_pair : (o : Opening) (w : ℕ) (s : State) (p q : Place) (x y : Pair) → peek s ≡ Some p → peek s ≡ Some q → slice_get s.pairs p.number ≡ Some x → slice_get s.pairs q.number ≡ Some y
    → Same (Drew (task_for w (Join p.number x.origin) s)) (hands_out w (Join p.number x.origin) s) (Drew (task_for w (Join q.number y.origin) s)) (hands_out w (Join q.number y.origin) s)
one_pair o w s p q x y a b c d =
    let e : p ≡ q = cc in
    let c2 : slice_get s.pairs q.number ≡ Some x = subst (λ (z : Place). slice_get s.pairs z.number ≡ Some x) e c in
    let f : x ≡ y = cc in
    (ap (λ (z : Place). Drew (task_for w (Join z.number x.origin) s)) e ∙ ap (λ (z : Pair). Drew (task_for w (Join q.number z.origin) s)) f, ap (λ (z : Place). hands_out w (Join z.number x.origin) s) e ∙ ap (λ (z : Pair). hands_out w (Join q.number z.origin) s) f)

-- a draw at whose head an orphan stands drops it and goes on
dropped : (o : Opening) (w : ℕ) (s : State) (r : Reply) (u : State) (pa : Place) → NoneUnmet s → peek s ≡ Some pa → is_orphan s pa.number ≡ true → Draws o w s r u → Draws o w (drops w pa.number s) r u
dropped o w s _ _ pa na ea fa (verdict_stands vb eb) = two_verdicts s vb eb na.none_due.open_
dropped o w s _ _ pa na ea fa (goal_is_due gb eb fb) = two_due s gb fb na.none_due.none_due
dropped o w s _ _ pa na ea fa (fact_is_unmet ib nb fb) = two_unmet s ib fb na.none_unmet
dropped o w s r u pa na ea fa (orphan_is_dropped pb nb eb fb db) = let q : pb ≡ pa = cc in subst (λ (z : Place). Draws o w (drops w z.number s) r u) q db
dropped o w s _ _ pa na ea fa (goal_is_continued gb lb fb roomb) = two_heads s pa ea fa lb.no_orphan
dropped o w s _ _ pa na ea fa (pair_is_drawn pb xb lb fb eb atb roomb) = two_heads s pa ea fa lb.no_orphan
dropped o w s _ _ pa na ea fa (budget_is_out lb wb spentb someb) = two_heads s pa ea fa lb.no_orphan
dropped o w s _ _ pa na ea fa (budget_is_spent lb wb spentb noneb) = two_heads s pa ea fa lb.no_orphan
dropped o w s _ _ pa na ea fa (all_is_out lb nob someb) = two_heads s pa ea fa lb.no_orphan
dropped o w s _ _ pa na ea fa (all_is_done lb nob noneb) = two_heads s pa ea fa lb.no_orphan

pub one_draw : (o : Opening) (w : ℕ) (s : State) (a b : Reply) (u v : State) → Draws o w s a u → Draws o w s b v → Same a u b v
one_draw o w s _ _ _ _ (verdict_stands va ea) (verdict_stands vb eb) = let q : va ≡ vb = cc in (ap Closed q, refl)
one_draw o w s _ _ _ _ (verdict_stands va ea) (goal_is_due gb eb fb) = two_verdicts s va ea (eb)
one_draw o w s _ _ _ _ (verdict_stands va ea) (fact_is_unmet ib nb fb) = two_verdicts s va ea (nb.open_)
one_draw o w s _ b _ v (verdict_stands va ea) (orphan_is_dropped pb nb eb fb db) = two_verdicts s va ea (nb.none_due.open_)
one_draw o w s _ _ _ _ (verdict_stands va ea) (goal_is_continued gb lb fb roomb) = two_verdicts s va ea (lb.none_unmet.none_due.open_)
one_draw o w s _ _ _ _ (verdict_stands va ea) (pair_is_drawn pb xb lb fb eb atb roomb) = two_verdicts s va ea (lb.none_unmet.none_due.open_)
one_draw o w s _ _ _ _ (verdict_stands va ea) (budget_is_out lb wb spentb someb) = two_verdicts s va ea (lb.none_unmet.none_due.open_)
one_draw o w s _ _ _ _ (verdict_stands va ea) (budget_is_spent lb wb spentb noneb) = two_verdicts s va ea (lb.none_unmet.none_due.open_)
one_draw o w s _ _ _ _ (verdict_stands va ea) (all_is_out lb nob someb) = two_verdicts s va ea (lb.none_unmet.none_due.open_)
one_draw o w s _ _ _ _ (verdict_stands va ea) (all_is_done lb nob noneb) = two_verdicts s va ea (lb.none_unmet.none_due.open_)
one_draw o w s _ _ _ _ (goal_is_due ga ea fa) (verdict_stands vb eb) = two_verdicts s vb eb (ea)
one_draw o w s _ _ _ _ (goal_is_due ga ea fa) (goal_is_due gb eb fb) = let q : ga ≡ gb = cc in (ap (λ (z : At Target). Drew (task_for w (with_ends Goal z) s)) q, ap (λ (z : At Target). hands_out w (with_ends Goal z) s) q)
one_draw o w s _ _ _ _ (goal_is_due ga ea fa) (fact_is_unmet ib nb fb) = two_due s ga fa (nb.none_due)
one_draw o w s _ b _ v (goal_is_due ga ea fa) (orphan_is_dropped pb nb eb fb db) = two_due s ga fa (nb.none_due.none_due)
one_draw o w s _ _ _ _ (goal_is_due ga ea fa) (goal_is_continued gb lb fb roomb) = two_due s ga fa (lb.none_unmet.none_due.none_due)
one_draw o w s _ _ _ _ (goal_is_due ga ea fa) (pair_is_drawn pb xb lb fb eb atb roomb) = two_due s ga fa (lb.none_unmet.none_due.none_due)
one_draw o w s _ _ _ _ (goal_is_due ga ea fa) (budget_is_out lb wb spentb someb) = two_due s ga fa (lb.none_unmet.none_due.none_due)
one_draw o w s _ _ _ _ (goal_is_due ga ea fa) (budget_is_spent lb wb spentb noneb) = two_due s ga fa (lb.none_unmet.none_due.none_due)
one_draw o w s _ _ _ _ (goal_is_due ga ea fa) (all_is_out lb nob someb) = two_due s ga fa (lb.none_unmet.none_due.none_due)
one_draw o w s _ _ _ _ (goal_is_due ga ea fa) (all_is_done lb nob noneb) = two_due s ga fa (lb.none_unmet.none_due.none_due)
one_draw o w s _ _ _ _ (fact_is_unmet ia na fa) (verdict_stands vb eb) = two_verdicts s vb eb (na.open_)
one_draw o w s _ _ _ _ (fact_is_unmet ia na fa) (goal_is_due gb eb fb) = two_due s gb fb (na.none_due)
one_draw o w s _ _ _ _ (fact_is_unmet ia na fa) (fact_is_unmet ib nb fb) = let q : ia ≡ ib = cc in (ap (λ (z : At Meeting). Drew (task_for w (Meet z.number) s)) q, ap (λ (z : At Meeting). hands_out w (Meet z.number) s) q)
one_draw o w s _ b _ v (fact_is_unmet ia na fa) (orphan_is_dropped pb nb eb fb db) = two_unmet s ia fa (nb.none_unmet)
one_draw o w s _ _ _ _ (fact_is_unmet ia na fa) (goal_is_continued gb lb fb roomb) = two_unmet s ia fa (lb.none_unmet.none_unmet)
one_draw o w s _ _ _ _ (fact_is_unmet ia na fa) (pair_is_drawn pb xb lb fb eb atb roomb) = two_unmet s ia fa (lb.none_unmet.none_unmet)
one_draw o w s _ _ _ _ (fact_is_unmet ia na fa) (budget_is_out lb wb spentb someb) = two_unmet s ia fa (lb.none_unmet.none_unmet)
one_draw o w s _ _ _ _ (fact_is_unmet ia na fa) (budget_is_spent lb wb spentb noneb) = two_unmet s ia fa (lb.none_unmet.none_unmet)
one_draw o w s _ _ _ _ (fact_is_unmet ia na fa) (all_is_out lb nob someb) = two_unmet s ia fa (lb.none_unmet.none_unmet)
one_draw o w s _ _ _ _ (fact_is_unmet ia na fa) (all_is_done lb nob noneb) = two_unmet s ia fa (lb.none_unmet.none_unmet)
one_draw o w s a b u v (orphan_is_dropped pa na ea fa da) d = one_draw o w (drops w pa.number s) a b u v da (dropped o w s b v pa na ea fa d)
one_draw o w s _ _ _ _ (goal_is_continued ga la fa rooma) (verdict_stands vb eb) = two_verdicts s vb eb (la.none_unmet.none_due.open_)
one_draw o w s _ _ _ _ (goal_is_continued ga la fa rooma) (goal_is_due gb eb fb) = two_due s gb fb (la.none_unmet.none_due.none_due)
one_draw o w s _ _ _ _ (goal_is_continued ga la fa rooma) (fact_is_unmet ib nb fb) = two_unmet s ib fb (la.none_unmet.none_unmet)
one_draw o w s _ b _ v (goal_is_continued ga la fa rooma) (orphan_is_dropped pb nb eb fb db) = two_heads s pb eb fb la.no_orphan
one_draw o w s _ _ _ _ (goal_is_continued ga la fa rooma) (goal_is_continued gb lb fb roomb) = let q : ga ≡ gb = cc in (ap (λ (z : At Target). Drew (task_for w (with_ends More z) s)) q, ap (λ (z : At Target). hands_out w (with_ends More z) s) q)
one_draw o w s _ _ _ _ (goal_is_continued ga la fa rooma) (pair_is_drawn pb xb lb fb eb atb roomb) = two_continued s ga fa fb
one_draw o w s _ _ _ _ (goal_is_continued ga la fa rooma) (budget_is_out lb wb spentb someb) = two_budgets o s rooma spentb
one_draw o w s _ _ _ _ (goal_is_continued ga la fa rooma) (budget_is_spent lb wb spentb noneb) = two_budgets o s rooma spentb
one_draw o w s _ _ _ _ (goal_is_continued ga la fa rooma) (all_is_out lb nob someb) = two_goals s ga fa nob
one_draw o w s _ _ _ _ (goal_is_continued ga la fa rooma) (all_is_done lb nob noneb) = two_goals s ga fa nob
one_draw o w s _ _ _ _ (pair_is_drawn pa xa la fa ea ata rooma) (verdict_stands vb eb) = two_verdicts s vb eb (la.none_unmet.none_due.open_)
one_draw o w s _ _ _ _ (pair_is_drawn pa xa la fa ea ata rooma) (goal_is_due gb eb fb) = two_due s gb fb (la.none_unmet.none_due.none_due)
one_draw o w s _ _ _ _ (pair_is_drawn pa xa la fa ea ata rooma) (fact_is_unmet ib nb fb) = two_unmet s ib fb (la.none_unmet.none_unmet)
one_draw o w s _ b _ v (pair_is_drawn pa xa la fa ea ata rooma) (orphan_is_dropped pb nb eb fb db) = two_heads s pb eb fb la.no_orphan
one_draw o w s _ _ _ _ (pair_is_drawn pa xa la fa ea ata rooma) (goal_is_continued gb lb fb roomb) = two_continued s gb fb fa
one_draw o w s _ _ _ _ (pair_is_drawn pa xa la fa ea ata rooma) (pair_is_drawn pb xb lb fb eb atb roomb) = one_pair o w s pa pb xa xb ea eb ata atb
one_draw o w s _ _ _ _ (pair_is_drawn pa xa la fa ea ata rooma) (budget_is_out lb wb spentb someb) = two_budgets o s rooma spentb
one_draw o w s _ _ _ _ (pair_is_drawn pa xa la fa ea ata rooma) (budget_is_spent lb wb spentb noneb) = two_budgets o s rooma spentb
one_draw o w s _ _ _ _ (pair_is_drawn pa xa la fa ea ata rooma) (all_is_out lb nob someb) = two_places s pa ea nob
one_draw o w s _ _ _ _ (pair_is_drawn pa xa la fa ea ata rooma) (all_is_done lb nob noneb) = two_places s pa ea nob
one_draw o w s _ _ _ _ (budget_is_out la wa spenta somea) (verdict_stands vb eb) = two_verdicts s vb eb (la.none_unmet.none_due.open_)
one_draw o w s _ _ _ _ (budget_is_out la wa spenta somea) (goal_is_due gb eb fb) = two_due s gb fb (la.none_unmet.none_due.none_due)
one_draw o w s _ _ _ _ (budget_is_out la wa spenta somea) (fact_is_unmet ib nb fb) = two_unmet s ib fb (la.none_unmet.none_unmet)
one_draw o w s _ b _ v (budget_is_out la wa spenta somea) (orphan_is_dropped pb nb eb fb db) = two_heads s pb eb fb la.no_orphan
one_draw o w s _ _ _ _ (budget_is_out la wa spenta somea) (goal_is_continued gb lb fb roomb) = two_budgets o s roomb spenta
one_draw o w s _ _ _ _ (budget_is_out la wa spenta somea) (pair_is_drawn pb xb lb fb eb atb roomb) = two_budgets o s roomb spenta
one_draw o w s _ _ _ _ (budget_is_out la wa spenta somea) (budget_is_out lb wb spentb someb) = (refl, refl)
one_draw o w s _ _ _ _ (budget_is_out la wa spenta somea) (budget_is_spent lb wb spentb noneb) = absurd (somea noneb)
one_draw o w s _ _ _ _ (budget_is_out la wa spenta somea) (all_is_out lb nob someb) = two_waits s wa nob
one_draw o w s _ _ _ _ (budget_is_out la wa spenta somea) (all_is_done lb nob noneb) = two_waits s wa nob
one_draw o w s _ _ _ _ (budget_is_spent la wa spenta nonea) (verdict_stands vb eb) = two_verdicts s vb eb (la.none_unmet.none_due.open_)
one_draw o w s _ _ _ _ (budget_is_spent la wa spenta nonea) (goal_is_due gb eb fb) = two_due s gb fb (la.none_unmet.none_due.none_due)
one_draw o w s _ _ _ _ (budget_is_spent la wa spenta nonea) (fact_is_unmet ib nb fb) = two_unmet s ib fb (la.none_unmet.none_unmet)
one_draw o w s _ b _ v (budget_is_spent la wa spenta nonea) (orphan_is_dropped pb nb eb fb db) = two_heads s pb eb fb la.no_orphan
one_draw o w s _ _ _ _ (budget_is_spent la wa spenta nonea) (goal_is_continued gb lb fb roomb) = two_budgets o s roomb spenta
one_draw o w s _ _ _ _ (budget_is_spent la wa spenta nonea) (pair_is_drawn pb xb lb fb eb atb roomb) = two_budgets o s roomb spenta
one_draw o w s _ _ _ _ (budget_is_spent la wa spenta nonea) (budget_is_out lb wb spentb someb) = absurd (someb nonea)
one_draw o w s _ _ _ _ (budget_is_spent la wa spenta nonea) (budget_is_spent lb wb spentb noneb) = (refl, refl)
one_draw o w s _ _ _ _ (budget_is_spent la wa spenta nonea) (all_is_out lb nob someb) = two_waits s wa nob
one_draw o w s _ _ _ _ (budget_is_spent la wa spenta nonea) (all_is_done lb nob noneb) = two_waits s wa nob
one_draw o w s _ _ _ _ (all_is_out la noa somea) (verdict_stands vb eb) = two_verdicts s vb eb (la.none_unmet.none_due.open_)
one_draw o w s _ _ _ _ (all_is_out la noa somea) (goal_is_due gb eb fb) = two_due s gb fb (la.none_unmet.none_due.none_due)
one_draw o w s _ _ _ _ (all_is_out la noa somea) (fact_is_unmet ib nb fb) = two_unmet s ib fb (la.none_unmet.none_unmet)
one_draw o w s _ b _ v (all_is_out la noa somea) (orphan_is_dropped pb nb eb fb db) = two_heads s pb eb fb la.no_orphan
one_draw o w s _ _ _ _ (all_is_out la noa somea) (goal_is_continued gb lb fb roomb) = two_goals s gb fb noa
one_draw o w s _ _ _ _ (all_is_out la noa somea) (pair_is_drawn pb xb lb fb eb atb roomb) = two_places s pb eb noa
one_draw o w s _ _ _ _ (all_is_out la noa somea) (budget_is_out lb wb spentb someb) = two_waits s wb noa
one_draw o w s _ _ _ _ (all_is_out la noa somea) (budget_is_spent lb wb spentb noneb) = two_waits s wb noa
one_draw o w s _ _ _ _ (all_is_out la noa somea) (all_is_out lb nob someb) = (refl, refl)
one_draw o w s _ _ _ _ (all_is_out la noa somea) (all_is_done lb nob noneb) = absurd (somea noneb)
one_draw o w s _ _ _ _ (all_is_done la noa nonea) (verdict_stands vb eb) = two_verdicts s vb eb (la.none_unmet.none_due.open_)
one_draw o w s _ _ _ _ (all_is_done la noa nonea) (goal_is_due gb eb fb) = two_due s gb fb (la.none_unmet.none_due.none_due)
one_draw o w s _ _ _ _ (all_is_done la noa nonea) (fact_is_unmet ib nb fb) = two_unmet s ib fb (la.none_unmet.none_unmet)
one_draw o w s _ b _ v (all_is_done la noa nonea) (orphan_is_dropped pb nb eb fb db) = two_heads s pb eb fb la.no_orphan
one_draw o w s _ _ _ _ (all_is_done la noa nonea) (goal_is_continued gb lb fb roomb) = two_goals s gb fb noa
one_draw o w s _ _ _ _ (all_is_done la noa nonea) (pair_is_drawn pb xb lb fb eb atb roomb) = two_places s pb eb noa
one_draw o w s _ _ _ _ (all_is_done la noa nonea) (budget_is_out lb wb spentb someb) = two_waits s wb noa
one_draw o w s _ _ _ _ (all_is_done la noa nonea) (budget_is_spent lb wb spentb noneb) = two_waits s wb noa
one_draw o w s _ _ _ _ (all_is_done la noa nonea) (all_is_out lb nob someb) = absurd (someb nonea)
one_draw o w s _ _ _ _ (all_is_done la noa nonea) (all_is_done lb nob noneb) = (refl, refl)
