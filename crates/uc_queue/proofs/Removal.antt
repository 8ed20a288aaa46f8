-- An entry taken out of a list, and the last one put in its place.
use Rattle.std.proofs.Common.{◌≡◌, ◌≢◌, ℕ, zero, suc, ◌-◌, ◌≤◌, ◌<◌, List, [], ◌∷◌, length, Some, refl, ap, sym, arith, subst, take, get_or, slice_set}
use Rattle.std.specs.List.{slice_get, swap_remove}
use Rattle.std.specs.List.Sorted.{IsPermutation}
use Rattle.std.proofs.lemmas.List.{set-get_or}
use Rattle.std.proofs.lemmas.List.Sorted.{IsPermutation-swap_remove}
use Rattle.std.proofs.lemmas.Option.{get_or_from_slice_get, slice_get_within}
use Rattle.std.proofs.Math.Seq.{take-set-lt}
use Rattle.uc_queue.specs.declared.entry.Entry.{Entry}
use Rattle.uc_queue.specs.declared.entry.Key.{Key}
use Rattle.uc_queue.specs.Trees.{IsRight, WasRight}

get_set_other : (es : List Entry) (slot k : ℕ) (m : Entry) → k ≢ slot → slice_get (slice_set es slot m) k ≡ slice_get es k
get_set_other [] slot k m h = refl
get_set_other (e ∷ es) zero zero m h = absurd (h refl)
get_set_other (e ∷ es) zero (suc k) m h = refl
get_set_other (e ∷ es) (suc slot) zero m h = refl
get_set_other (e ∷ es) (suc slot) (suc k) m h = get_set_other es slot k m (λ x. h (ap suc x))

-- a tree that was right, after one entry is replaced
pub replaced : (key : Key) (es xs ys : List Entry) (ws : List ℕ) (slot : ℕ) (m : Entry) → IsRight key es ws → es ≡ xs → ys ≡ slice_set xs slot m → WasRight key ys ws slot
replaced key es xs ys ws slot m r e f = record {
  former = xs;
  right = subst (λ z. IsRight key z ws) e r;
  others = λ k h. rw f (get_set_other xs slot k m h);
}

-- the last entry in the place of one that is taken out
pub filled : (es xs : List Entry) (slot last : ℕ) (m e : Entry) → last ≡ length es - 1 → slot < last → xs ≡ take last es → m ≡ get_or es last m → slice_get es slot ≡ Some e → IsPermutation es (e ∷ slice_set xs slot m)
filled es xs slot last m e n l t is got =
    let h : slot < length es = omega arith in
    let v : e ≡ get_or es slot e = sym (get_or_from_slice_get es slot e e got) in
    let w : get_or es last e ≡ m = get_or_last es last m e (omega arith) is in
    let s : slice_set xs slot m ≡ swap_remove es slot e = rw (t, ← n, w, take-set-lt last es slot m l) refl in
    rw s (IsPermutation-swap_remove es slot e h v)
  where
    get_or_last : (es : List Entry) (i : ℕ) (m d : Entry) → i < length es → m ≡ get_or es i m → get_or es i d ≡ m
    get_or_last [] i m d l e = absurd (omega arith)
    get_or_last (x ∷ xs) zero m d l e = sym e
    get_or_last (x ∷ xs) (suc i) m d l e = get_or_last xs i m d (omega arith) e

-- the last entry taken out
pub cut : (es xs : List Entry) (slot last : ℕ) (e : Entry) → last ≡ length es - 1 → last ≤ slot → xs ≡ take last es → slice_get es slot ≡ Some e → IsPermutation es (e ∷ xs)
cut es xs slot last e n l t got =
    let h : slot < length es = slice_get_within es slot e got in
    let same : slot ≡ last = omega arith in
    let v : e ≡ get_or es slot e = sym (get_or_from_slice_get es slot e e got) in
    let s : slice_set es slot (get_or es last e) ≡ es = subst (λ k. slice_set es slot (get_or es k e) ≡ es) same (set-get_or es slot e) in
    let r : swap_remove es slot e ≡ xs = rw (← n, s, t) refl in
    rw (← r) (IsPermutation-swap_remove es slot e h v)
