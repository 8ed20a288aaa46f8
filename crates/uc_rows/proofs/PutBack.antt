-- Tasks that are put back: at a place, by ticket, and all of them.
use Rattle.std.proofs.Common.{◌≡◌, ℕ, zero, suc, ◌+◌, ◌<◌, List, [], ◌∷◌, length, get_or, map, true, false, cond, ◌==◌, None, refl, ap, sym, ◌∙◌, arith}
use Rattle.std.specs.Prelude.{remove, count_by}
use Rattle.std.proofs.lemmas.Bool.{eq-eqb, ne_eqb}
use Rattle.std.proofs.lemmas.List.Sums.{sum_by-remove}
use Rattle.uc_rows.specs.declared.tasks.TaskRow.{TaskRow}
use Rattle.uc_machine.specs.declared.task.Job.{Job}
use Rattle.uc_machine.specs.declared.task.Job.TheVariants.{Goal, More, Meet, Join}
use Rattle.uc_machine.specs.Lists.{each}
use Rattle.uc_machine.specs.State.{State, Out, out_at, without}
use Rattle.uc_machine.specs.Effects.{reclaims, recalls}
use Rattle.uc_rows.specs.TaskRows.{out_of, is_join, unit_if_join, StandsAt}

-- the task of a ticket, by index
pub stands-at : (ts : List TaskRow) (n i : ℕ) (d : TaskRow) → i < length ts → ((e : TaskRow) → (get_or ts i e).ticket ≡ n) → ((k : ℕ) (e : TaskRow) → k < i → (get_or ts k e).ticket ≡ n → ⊥) → StandsAt ts i (out_of (get_or ts i d))
stands-at [] n i d l q h = absurd (omega arith)
stands-at (t ∷ ts) n zero d l q h = (let same : (t.ticket == t.ticket) ≡ true = eq-eqb t.ticket t.ticket refl in record { inside = l; is = λ e. refl; found = rw same refl; others = rw same refl })
stands-at (t ∷ ts) n (suc i) d l q h =
    let r : StandsAt ts i (out_of (get_or ts i d)) = stands-at ts n i d (omega arith) q (λ k e b. h (suc k) e (omega arith)) in
    let e : (get_or ts i d).ticket ≡ n = q d in
    let other : (t.ticket == (get_or ts i d).ticket) ≡ false = ne_eqb t.ticket (get_or ts i d).ticket (λ f. h 0 t (omega arith) (f ∙ e)) in
    record { inside = l; is = r.is; found = rw other r.found; others = rw other (ap (λ z. out_of t ∷ z) r.others) }

pub out-none : (ts : List TaskRow) (n : ℕ) → ((k : ℕ) (d : TaskRow) → k < length ts → (get_or ts k d).ticket ≡ n → ⊥) → out_at n (map out_of ts) ≡ None
out-none [] n h = refl
out-none (t ∷ ts) n h = let other : (t.ticket == n) ≡ false = ne_eqb t.ticket n (h 0 t (omega arith)) in rw other (out-none ts n (λ k d b. h (suc k) d (omega arith)))

-- one place has one task
pub one_at : (ts : List TaskRow) (i : ℕ) (t u : Out) → StandsAt ts i t → StandsAt ts i u → t ≡ u
one_at [] i t u a b = (let l : i < 0 = a.inside in absurd (omega arith))
one_at (r ∷ ts) i t u a b = sym (a.is r) ∙ b.is r

-- the first task
pub first_stands : (r : TaskRow) (ts : List TaskRow) → StandsAt (r ∷ ts) 0 (out_of r)
first_stands r ts = stands-at (r ∷ ts) r.ticket 0 r (omega arith) (λ e. refl) (λ k e l. absurd (omega arith))

pub some_first : (ts : List TaskRow) → 0 < length ts → (t : Out) × StandsAt ts 0 t
some_first [] l = absurd (omega arith)
some_first (r ∷ ts) l = (out_of r, first_stands r ts)

-- how many of the tasks out are Joins, where one is gone
pub joins_left : (ts : List TaskRow) (i : ℕ) (t : Out) → StandsAt ts i t → count_by (λ (r : TaskRow). is_join r.job) (remove ts i) + unit_if_join t.job ≡ count_by (λ (r : TaskRow). is_join r.job) ts
joins_left [] i t a = (let l : i < 0 = a.inside in absurd (omega arith))
joins_left (r ∷ ts) i t a = (let e : out_of (get_or (r ∷ ts) i r) ≡ t = a.is r in let f : unit_if_join (get_or (r ∷ ts) i r).job ≡ unit_if_join t.job = ap (λ (u : Out). unit_if_join u.job) e in rw (← f) (sum_by-remove (λ (q : TaskRow). cond (is_join q.job) 1 0) (r ∷ ts) i r a.inside))

-- what a reclaim leaves out
pub reclaims-out : (t : Out) (s : State) → (reclaims t s).out ≡ without t.ticket s.out
reclaims-out t s = by_job t.job t.ticket t.worker t.front s
  where
    by_job : (j : Job) (n w f : ℕ) (s : State) → (let t : Out = record { ticket = n; worker = w; job = j; front = f } in (reclaims t s).out ≡ without n s.out)
    by_job (Goal g l r) n w f s = refl
    by_job (More g l r) n w f s = refl
    by_job (Meet i) n w f s = refl
    by_job (Join p o) n w f s = refl

-- the least ticket first, then the others
pub recall_first : (t : Out) (ts : List Out) (s : State) → s.out ≡ t ∷ ts → recalls (reclaims t s) ≡ recalls s
recall_first t ts s e =
    let same : (t.ticket == t.ticket) ≡ true = eq-eqb t.ticket t.ticket refl in
    let gone : without t.ticket (t ∷ ts) ≡ ts = rw same refl in
    let out : (reclaims t s).out ≡ ts = reclaims-out t s ∙ ap (without t.ticket) e ∙ gone in
    ap (λ o. each reclaims o (reclaims t s)) out ∙ sym (ap (λ o. each reclaims o s) e)

pub recall_none : (s : State) → s.out ≡ [] → recalls s ≡ s
recall_none s e = ap (λ o. each reclaims o s) e

-- the first of the tasks out is put back
pub recall_stands : (ts : List TaskRow) (t : Out) (s u : State) → StandsAt ts 0 t → s.out ≡ map out_of ts → u ≡ reclaims t s → recalls u ≡ recalls s
recall_stands [] t s u a e h = (let l : 0 < 0 = a.inside in absurd (omega arith))
recall_stands (r ∷ ts) t s u a e h = ap recalls h ∙ recall_first t (map out_of ts) s (e ∙ ap (λ x. x ∷ map out_of ts) (a.is r))
