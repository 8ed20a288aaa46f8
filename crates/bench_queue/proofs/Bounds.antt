-- Numbers below a bound, through the queue's calls.
use Rattle.std.proofs.Common.{ℕ, ◌+◌, ◌<◌, List, [], ◌∷◌, cond, ◌==◌, arith, inl, inr}
use Rattle.std.proofs.lemmas.Bool.{cases_Bool}
use Rattle.uc_queue.specs.declared.entry.Entry.{Entry}
use Rattle.uc_queue.specs.Queue.{IsNew, is_earlier, with_entry, without}
use Rattle.bench_queue.specs.Below.{IsBelow}

pub new_above : (n : ℕ) (es : List Entry) → IsBelow n es → IsNew n es
new_above n [] b = tt
new_above n (e ∷ es) b = let l : e.number < n = b.0 in ((λ x. absurd (omega arith)), new_above n es b.1)

pub below_more : (n : ℕ) (es : List Entry) → IsBelow n es → IsBelow (n + 1) es
below_more n [] b = tt
below_more n (e ∷ es) b = let l : e.number < n = b.0 in (omega arith, below_more n es b.1)

pub below_with : (n : ℕ) (a : Entry) (es : List Entry) → a.number < n → IsBelow n es → IsBelow n (with_entry a es)
below_with n a [] l b = (l, tt)
below_with n a (e ∷ es) l b = elim (cases_Bool (is_earlier a e)) as (λ _. IsBelow n (cond (is_earlier a e) (a ∷ e ∷ es) (e ∷ with_entry a es))) [ inl h ↦ rw h (l, b) | inr h ↦ rw h (b.0, below_with n a es l b.1) ]

pub below_without : (n k : ℕ) (es : List Entry) → IsBelow n es → IsBelow n (without k es)
below_without n k [] b = tt
below_without n k (e ∷ es) b = elim (cases_Bool (e.number == k)) as (λ _. IsBelow n (cond (e.number == k) es (e ∷ without k es))) [ inl h ↦ rw h b.1 | inr h ↦ rw h (b.0, below_without n k es b.1) ]
