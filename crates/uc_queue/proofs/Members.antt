-- Entries in any order, and the one list of them that rises by number.
use Rattle.std.proofs.Common.{◌≡◌, ◌≢◌, ℕ, zero, suc, ◌+◌, ◌≤◌, ◌<◌, List, [], ◌∷◌, ◌++◌, length, Bool, true, false, cond, ◌==◌, refl, ap, sym, ◌∙◌, arith, inl, inr, subst, get_or}
use Rattle.std.specs.Prelude.{nat_lt, ◌⊎◌}
use Rattle.std.specs.List.{Contains}
use Rattle.std.specs.List.Sorted.{IsPermutation}
use Rattle.std.proofs.lemmas.List.Sorted.{Contains-permutation, IsPermutation-sym, sum_by-IsPermutation}
use Rattle.std.proofs.lemmas.List.Sums.{sum_by-append}
use Rattle.std.proofs.lemmas.Bool.{cases_Bool, ltb-true, ltb-false, cases_order}
use Rattle.std.proofs.lemmas.Bool.Decides.{nat_tests}
use Rattle.uc_queue.specs.declared.entry.Entry.{Entry}
use Rattle.uc_queue.specs.Queue.{RisesFrom, IsNew, times, with_entry, without, by_number}

pub data In (x : Entry) : List Entry → Type 0 where
  here : {ps : List Entry} → In x (x ∷ ps)
  there : {p : Entry} {ps : List Entry} → In x ps → In x (p ∷ ps)

at_least : (n : ℕ) (ps : List Entry) (x : Entry) → RisesFrom n ps → In x ps → n ≤ x.number
at_least n (p ∷ ps) x r here = r.0
at_least n (p ∷ ps) x r (there i) = let a : n ≤ p.number = r.0 in let b : p.number + 1 ≤ x.number = at_least (p.number + 1) ps x r.1 i in omega arith
at_least n [] x r i = elim i [ ]

not_none : (x : Entry) → In x [] → ⊥
not_none x i = elim i [ ]

pub split : (x p : Entry) (ps : List Entry) → In x (p ∷ ps) → (x ≡ p) ⊎ In x ps
split x p ps here = inl refl
split x p ps (there i) = inr i

-- two lists that rise and have the same members are one
pub one_list : (n m : ℕ) (ps qs : List Entry) → RisesFrom n ps → RisesFrom m qs → ((x : Entry) → In x ps → In x qs) → ((x : Entry) → In x qs → In x ps) → ps ≡ qs
one_list n m [] [] r t f g = refl
one_list n m [] (q ∷ qs) r t f g = absurd (not_none q (g q here))
one_list n m (p ∷ ps) [] r t f g = absurd (not_none p (f p here))
one_list n m (p ∷ ps) (q ∷ qs) r t f g =
    let same : p ≡ q = heads (split p q qs (f p here)) (split q p ps (g q here)) in
    ap (λ z. z ∷ ps) same ∙ ap (λ zs. q ∷ zs) (one_list (p.number + 1) (q.number + 1) ps qs r.1 t.1
    (λ x i. (elim (split x q qs (f x (there i))) [
      | inl e ↦ (let a : p.number + 1 ≤ x.number = at_least (p.number + 1) ps x r.1 i in let b : x.number ≡ q.number = ap (λ (z : Entry). z.number) e in let c : p.number ≡ q.number = ap (λ (z : Entry). z.number) same in absurd (omega arith))
      | inr j ↦ j
    ]))
    (λ x i. (elim (split x p ps (g x (there i))) [
      | inl e ↦ (let a : q.number + 1 ≤ x.number = at_least (q.number + 1) qs x t.1 i in let b : x.number ≡ p.number = ap (λ (z : Entry). z.number) e in let c : p.number ≡ q.number = ap (λ (z : Entry). z.number) same in absurd (omega arith))
      | inr j ↦ j
    ])))
  where
    heads : ((p ≡ q) ⊎ In p qs) → ((q ≡ p) ⊎ In q ps) → p ≡ q
    heads (inl e) b = e
    heads (inr i) (inl e) = sym e
    heads (inr i) (inr j) = let a : q.number + 1 ≤ p.number = at_least (q.number + 1) qs p t.1 i in let b : p.number + 1 ≤ q.number = at_least (p.number + 1) ps q r.1 j in absurd (omega arith)

in_with : (x p : Entry) (ps : List Entry) → In x (p ∷ ps) → In x (with_entry p ps)
in_with x p [] i = i
in_with x p (q ∷ ps) i = elim (cases_Bool (nat_lt p.number q.number)) as (λ _. In x (cond (nat_lt p.number q.number) (p ∷ q ∷ ps) (q ∷ with_entry p ps))) [
  | inl b ↦ rw b i
  | inr b ↦ rw b (after (split x p (q ∷ ps) i) (λ h. in_with x p ps h))
]
  where
    after : ((x ≡ p) ⊎ In x (q ∷ ps)) → ((In x (p ∷ ps) → In x (with_entry p ps)) → In x (q ∷ with_entry p ps))
    after (inl e) k = there (k (subst (λ z. In z (p ∷ ps)) (sym e) here))
    after (inr j) k = elim (split x q ps j) [ inl e ↦ subst (λ z. In z (q ∷ with_entry p ps)) (sym e) here | inr h ↦ there (k (there h)) ]

out_with : (x p : Entry) (ps : List Entry) → In x (with_entry p ps) → In x (p ∷ ps)
out_with x p [] i = i
out_with x p (q ∷ ps) i = before (nat_lt p.number q.number) i (λ h. out_with x p ps h)
  where
    before : (b : Bool) → In x (cond b (p ∷ q ∷ ps) (q ∷ with_entry p ps)) → (In x (with_entry p ps) → In x (p ∷ ps)) → In x (p ∷ q ∷ ps)
    before true h k = h
    before false h k = elim (split x q (with_entry p ps) h) [
      | inl e ↦ there (subst (λ z. In z (q ∷ ps)) (sym e) here)
      | inr j ↦ elim (split x p ps (k j)) [ inl e ↦ subst (λ z. In z (p ∷ q ∷ ps)) (sym e) here | inr l ↦ there (there l) ]
    ]

pub in_by_number : (x : Entry) (ps : List Entry) → In x ps → In x (by_number ps)
in_by_number x [] i = i
in_by_number x (p ∷ ps) i = in_with x p (by_number ps) (elim (split x p ps i) [ inl e ↦ subst (λ z. In z (p ∷ by_number ps)) (sym e) here | inr j ↦ there (in_by_number x ps j) ])

pub out_by_number : (x : Entry) (ps : List Entry) → In x (by_number ps) → In x ps
out_by_number x [] i = i
out_by_number x (p ∷ ps) i = elim (split x p (by_number ps) (out_with x p (by_number ps) i)) [ inl e ↦ subst (λ z. In z (p ∷ ps)) (sym e) here | inr j ↦ there (out_by_number x ps j) ]

-- the numbers differ
abbrev pub Apart : List Entry → Type 0
Apart [] = Unit {0}
Apart (p ∷ ps) = ((q : Entry) → In q ps → p.number ≡ q.number → ⊥) × Apart ps

rises_with : (n : ℕ) (p : Entry) (ps : List Entry) → n ≤ p.number → RisesFrom n ps → ((q : Entry) → In q ps → p.number ≡ q.number → ⊥) → RisesFrom n (with_entry p ps)
rises_with n p [] l r d = (l, tt)
rises_with n p (q ∷ ps) l r d = elim (cases_Bool (nat_lt p.number q.number)) as (λ _. RisesFrom n (cond (nat_lt p.number q.number) (p ∷ q ∷ ps) (q ∷ with_entry p ps))) [
  | inl b ↦ let a : p.number < q.number = ltb-true p.number q.number b in let a' : p.number + 1 ≤ q.number = omega arith in rw b (l, (a', r.1))
  | inr b ↦
      let a : q.number ≤ p.number = ltb-false p.number q.number b in
      let ne : p.number ≡ q.number → ⊥ = d q here in
      rw b (r.0, rises_with (q.number + 1) p ps (above p.number q.number a ne) r.1 (λ x i. d x (there i)))
]
  where
    above : (a b : ℕ) → b ≤ a → (a ≡ b → ⊥) → b + 1 ≤ a
    above a b l2 ne = elim (cases_order a b) [ inl e ↦ absurd (ne e) | inr h ↦ elim h [ inl x ↦ absurd (omega arith) | inr y ↦ omega arith ] ]

pub rises_by_number : (ps : List Entry) → Apart ps → RisesFrom 0 (by_number ps)
rises_by_number [] d = tt
rises_by_number (p ∷ ps) d = rises_with 0 p (by_number ps) (omega arith) (rises_by_number ps d.1) (λ q i. d.0 q (out_by_number q ps i))

-- lists with the same members, numbers differing, have one list that rises: so a heap's moves don't show
pub same_sorted : (ps qs : List Entry) → Apart ps → Apart qs → ((x : Entry) → In x ps → In x qs) → ((x : Entry) → In x qs → In x ps) → by_number ps ≡ by_number qs
same_sorted ps qs d e f g = one_list 0 0 (by_number ps) (by_number qs) (rises_by_number ps d) (rises_by_number qs e)
    (λ x i. in_by_number x qs (f x (out_by_number x ps i))) (λ x i. in_by_number x ps (g x (out_by_number x qs i)))

-- std's membership by a place, and ours by recursion
pub contains_in : (x : Entry) (es : List Entry) (k : ℕ) → k < length es → get_or es k x ≡ x → In x es
contains_in x [] k l e = absurd (omega arith)
contains_in x (p ∷ ps) zero l e = subst (λ z. In x (z ∷ ps)) (sym e) here
contains_in x (p ∷ ps) (suc k) l e = there (contains_in x ps k (omega arith) e)

pub in_contains : (x : Entry) (es : List Entry) → In x es → Contains es x
in_contains x (p ∷ ps) here = (0, omega arith, refl)
in_contains x (p ∷ ps) (there i) = let c : Contains ps x = in_contains x ps i in (suc c.0, let l : c.0 < length ps = c.1 in omega arith, c.2)
in_contains x [] i = elim i [ ]

pub in_permuted : (x : Entry) (es fs : List Entry) → IsPermutation es fs → In x es → In x fs
in_permuted x es fs h i = let c : Contains fs x = Contains-permutation es fs x h (in_contains x es i) in contains_in x fs c.0 c.1 c.2

abbrev one_at : ℕ → Entry → ℕ
one_at n e = cond (e.number == n) 1 0

times_more : (n : ℕ) (p : Entry) (ps : List Entry) → times n (p ∷ ps) ≡ one_at n p + times n ps
times_more n p ps = let s : times n (p ∷ ps) ≡ (0 + one_at n p) + times n ps = sum_by-append (one_at n) (p ∷ []) ps in omega arith

once : (n : ℕ) (p : Entry) → p.number ≡ n → one_at n p ≡ 1
once n p e = grind (arith, nat_tests)

never : (n : ℕ) (p : Entry) → p.number ≢ n → one_at n p ≡ 0
never n p e = grind (arith, nat_tests)

found_in : (x : Entry) (es : List Entry) → In x es → 1 ≤ times x.number es
found_in x (_ ∷ ps) here = let o : one_at x.number x ≡ 1 = once x.number x refl in let m : times x.number (x ∷ ps) ≡ one_at x.number x + times x.number ps = times_more x.number x ps in omega arith
found_in x (p ∷ ps) (there i) = let h : 1 ≤ times x.number ps = found_in x ps i in let m : times x.number (p ∷ ps) ≡ one_at x.number p + times x.number ps = times_more x.number p ps in omega arith
found_in x [] i = elim i [ ]

abbrev pub IsDistinct : List Entry → Type 0
IsDistinct es = (n : ℕ) → times n es ≤ 1

fewer : (p : Entry) (ps : List Entry) → IsDistinct (p ∷ ps) → IsDistinct ps
fewer p ps d n = let h : times n (p ∷ ps) ≤ 1 = d n in let m : times n (p ∷ ps) ≡ one_at n p + times n ps = times_more n p ps in omega arith

pub apart : (es : List Entry) → IsDistinct es → Apart es
apart [] d = tt
apart (p ∷ ps) d = (λ q i e. (let h : times p.number (p ∷ ps) ≤ 1 = d p.number in let more : times p.number (p ∷ ps) ≡ one_at p.number p + times p.number ps = times_more p.number p ps in let o : one_at p.number p ≡ 1 = once p.number p refl in let k : 1 ≤ times q.number ps = found_in q ps i in let m : 1 ≤ times p.number ps = subst (λ n. 1 ≤ times n ps) (sym e) k in absurd (omega arith)), apart ps (fewer p ps d))

pub permuted_times : (n : ℕ) (es fs : List Entry) → IsPermutation es fs → times n fs ≡ times n es
permuted_times n es fs h = sum_by-IsPermutation (one_at n) es fs h

pub permuted_distinct : (es fs : List Entry) → IsPermutation es fs → IsDistinct es → IsDistinct fs
permuted_distinct es fs h d n = let e : times n fs ≡ times n es = permuted_times n es fs h in let l : times n es ≤ 1 = d n in omega arith

-- in whatever order, one list by number
pub resorted : (es fs : List Entry) → IsPermutation es fs → IsDistinct es → by_number es ≡ by_number fs
resorted es fs h d = same_sorted es fs (apart es d) (apart fs (permuted_distinct es fs h d)) (λ x i. in_permuted x es fs h i) (λ x i. in_permuted x fs es (IsPermutation-sym es fs h) i)

-- no entry has a number
pub none_new : (n : ℕ) (es : List Entry) → ((x : Entry) → In x es → x.number ≢ n) → IsNew n es
none_new n [] h = tt
none_new n (p ∷ ps) h = (h p here, none_new n ps (λ x i. h x (there i)))

pub new_none : (n : ℕ) (es : List Entry) → IsNew n es → (x : Entry) → In x es → x.number ≢ n
new_none n (p ∷ ps) h x here = h.0
new_none n (p ∷ ps) h x (there i) = new_none n ps h.1 x i
new_none n [] h x i = elim i [ ]

pub no_times : (n : ℕ) (es : List Entry) → IsNew n es → times n es ≡ 0
no_times n [] h = refl
no_times n (p ∷ ps) h = let e : times n ps ≡ 0 = no_times n ps h.1 in let z : one_at n p ≡ 0 = never n p h.0 in let m : times n (p ∷ ps) ≡ one_at n p + times n ps = times_more n p ps in omega arith

-- new among the entries by number, and so among the entries
pub new_any_order : (n : ℕ) (es : List Entry) → IsNew n (by_number es) → IsNew n es
new_any_order n es h = none_new n es (λ x i. new_none n (by_number es) h x (in_by_number x es i))

-- one more entry, whose number is new
pub pushed_distinct : (es : List Entry) (e : Entry) → IsDistinct es → IsNew e.number es → IsDistinct (es ++ e ∷ [])
pushed_distinct es e d new n =
    let s : times n (es ++ e ∷ []) ≡ times n es + (0 + one_at n e) = sum_by-append (one_at n) es (e ∷ []) in
    let z : times e.number es ≡ 0 = no_times e.number es new in
    let l : times n es ≤ 1 = d n in
    elim (cases_order e.number n) as (λ _. times n (es ++ e ∷ []) ≤ 1) [
      | inl x ↦ (let o : times n es ≡ 0 = subst (λ m. times m es ≡ 0) x z in let c : one_at n e ≡ 1 = once n e x in omega arith)
      | inr x ↦ (let ne : e.number ≢ n = (λ y. elim x [ inl a ↦ absurd (omega arith) | inr a ↦ absurd (omega arith) ]) in let c : one_at n e ≡ 0 = never n e ne in omega arith)
    ]

-- an entry taken out was there once
taken_new : (e : Entry) (es fs : List Entry) → IsPermutation es (e ∷ fs) → IsDistinct es → IsNew e.number fs
taken_new e es fs h d = none_new e.number fs (λ x i y. (apart (e ∷ fs) (permuted_distinct es (e ∷ fs) h d)).0 x i (sym y))

without_it : (e : Entry) (es : List Entry) → IsNew e.number es → without e.number (with_entry e es) ≡ es
without_it e [] h = let t : (e.number == e.number) ≡ true = grind (arith, nat_tests) in rw t refl
without_it e (p ∷ ps) h = elim (cases_Bool (nat_lt e.number p.number)) as (λ _. without e.number (cond (nat_lt e.number p.number) (e ∷ p ∷ ps) (p ∷ with_entry e ps)) ≡ p ∷ ps) [
  | inl b ↦ let t : (e.number == e.number) ≡ true = grind (arith, nat_tests) in rw (b, t) refl
  | inr b ↦ let ne : p.number ≢ e.number = h.0 in let f : (p.number == e.number) ≡ false = grind (arith, nat_tests) in rw (b, f) (ap (λ zs. p ∷ zs) (without_it e ps h.1))
]

pub taken_away : (e : Entry) (es fs : List Entry) → IsPermutation es (e ∷ fs) → IsDistinct es → IsNew e.number (by_number fs)
taken_away e es fs h d = none_new e.number (by_number fs) (λ x i. new_none e.number fs (taken_new e es fs h d) x (out_by_number x fs i))

pub taken_out : (e : Entry) (es fs : List Entry) → IsPermutation es (e ∷ fs) → IsDistinct es → by_number fs ≡ without e.number (by_number es)
taken_out e es fs h d =
    let s : by_number es ≡ with_entry e (by_number fs) = resorted es (e ∷ fs) h d in
    rw s (sym (without_it e (by_number fs) (taken_away e es fs h d)))

pub rest_distinct : (e : Entry) (es fs : List Entry) → IsPermutation es (e ∷ fs) → IsDistinct es → IsDistinct fs
rest_distinct e es fs h d = fewer e fs (permuted_distinct es (e ∷ fs) h d)

pub one_entry : (es : List Entry) (a b : Entry) → Apart es → In a es → In b es → a.number ≡ b.number → a ≡ b
one_entry (p ∷ ps) a b d here here e = refl
one_entry (p ∷ ps) a b d here (there j) e = absurd (d.0 b j e)
one_entry (p ∷ ps) a b d (there i) here e = absurd (d.0 a i (sym e))
one_entry (p ∷ ps) a b d (there i) (there j) e = one_entry ps a b d.1 i j e
one_entry [] a b d i j e = elim i [ ]

length_with : (e : Entry) (es : List Entry) → length (with_entry e es) ≡ length es + 1
length_with e [] = omega arith
length_with e (p ∷ ps) = elim (cases_Bool (nat_lt e.number p.number)) as (λ _. length (cond (nat_lt e.number p.number) (e ∷ p ∷ ps) (p ∷ with_entry e ps)) ≡ length (p ∷ ps) + 1) [
  | inl b ↦ rw b (omega arith)
  | inr b ↦ rw b (let h : length (with_entry e ps) ≡ length ps + 1 = length_with e ps in omega arith)
]

pub length_by_number : (es : List Entry) → length (by_number es) ≡ length es
length_by_number [] = refl
length_by_number (e ∷ es) = let h : length (by_number es) ≡ length es = length_by_number es in let k : length (with_entry e (by_number es)) ≡ length (by_number es) + 1 = length_with e (by_number es) in omega arith
