-- The number of all commits is the sum of those of each worker. So what is known of each is known of all.
use Rattle.std.proofs.Common.{◌≡◌, ◌≢◌, ℕ, zero, suc, ◌+◌, ◌<◌, ◌≤◌, ◌==◌, ◌&&◌, List, [], ◌∷◌, ◌++◌, true, false, cond, sum, refl, sym, ap, ◌∙◌, arith, inl, inr}
use Rattle.std.proofs.lemmas.Bool.{cases_Bool}
use Rattle.std.proofs.lemmas.List.Sums.{sum_by-cons, sum_by_push}
use Rattle.std.proofs.lemmas.Bool.Decides.{nat_tests}
use Rattle.uc_machine.specs.declared.event.Event.{Event}
use Rattle.uc_machine.specs.Events.{commits_by, is_commit_what}
use Rattle.uc_worker.specs.Commits.{commits_of, shares_of, AreOfFirst}

-- the commits of the workers below n
abbrev total : ℕ → List Event → ℕ
total zero h = 0
total (suc n) h = total n h + commits_by n h

abbrev one : Event → ℕ → ℕ
one e n = cond (is_commit_what e.what && (e.worker == n)) 1 0

abbrev ones : ℕ → Event → ℕ
ones zero e = 0
ones (suc n) e = ones n e + one e n

total_cons : (n : ℕ) (e : Event) (es : List Event) → total n (e ∷ es) ≡ ones n e + total n es
total_cons zero e es = refl
total_cons (suc n) e es =
    let h : total n (e ∷ es) ≡ ones n e + total n es = total_cons n e es in
    let k : commits_by n (e ∷ es) ≡ one e n + commits_by n es = sum_by-cons (λ (x : Event). one x n) e es in
    omega arith

one_not : (e : Event) (n : ℕ) → (e.worker == n) ≡ false → one e n ≡ 0
one_not e n q = elim (cases_Bool (is_commit_what e.what)) [
  | inl b ↦ rw (b, q) refl
  | inr b ↦ rw b refl
]

one_here : (e : Event) (n : ℕ) → (e.worker == n) ≡ true → one e n ≡ cond (is_commit_what e.what) 1 0
one_here e n q = elim (cases_Bool (is_commit_what e.what)) [
  | inl b ↦ rw (b, q) refl
  | inr b ↦ rw b refl
]

ones_none : (n : ℕ) (e : Event) → n ≤ e.worker → ones n e ≡ 0
ones_none zero e l = refl
ones_none (suc n) e l =
    let h : ones n e ≡ 0 = ones_none n e (omega arith) in
    let q : (e.worker == n) ≡ false = grind (arith, nat_tests) in
    let k : one e n ≡ 0 = one_not e n q in
    omega arith

ones_is : (n : ℕ) (e : Event) → e.worker < n → ones n e ≡ cond (is_commit_what e.what) 1 0
ones_is zero e l = absurd (omega arith)
ones_is (suc n) e l = elim (cases_Bool (e.worker == n)) [
  | inl b ↦
      let at : e.worker ≡ n = grind (arith, nat_tests) in
      let h : ones n e ≡ 0 = ones_none n e (omega arith) in
      let k : one e n ≡ cond (is_commit_what e.what) 1 0 = one_here e n b in
      omega arith
  | inr b ↦
      let below : e.worker < n = grind (arith, nat_tests) in
      let h : ones n e ≡ cond (is_commit_what e.what) 1 0 = ones_is n e below in
      let k : one e n ≡ 0 = one_not e n b in
      omega arith
]

-- a number above each worker's
abbrev bound : List Event → ℕ
bound [] = 0
bound (e ∷ es) = suc e.worker + bound es

total_none : (n : ℕ) → total n [] ≡ 0
total_none zero = refl
total_none (suc n) = let h : total n [] ≡ 0 = total_none n in omega arith

total_is : (n : ℕ) (h : List Event) → bound h ≤ n → total n h ≡ commits_of h
total_is n [] l = total_none n
total_is n (e ∷ es) l =
    let a : total n (e ∷ es) ≡ ones n e + total n es = total_cons n e es in
    let b : ones n e ≡ cond (is_commit_what e.what) 1 0 = ones_is n e (omega arith) in
    let c : total n es ≡ commits_of es = total_is n es (omega arith) in
    a ∙ ap (λ k. k + total n es) b ∙ ap (λ k. cond (is_commit_what e.what) 1 0 + k) c ∙ sym (sum_by-cons (λ (x : Event). cond (is_commit_what x.what) 1 0) e es)

-- EACH WORKER HAS AS MANY

total_same : (n : ℕ) (h k : List Event) → ((w : ℕ) → commits_by w h ≡ commits_by w k) → total n h ≡ total n k
total_same zero h k e = refl
total_same (suc n) h k e =
    let a : total n h ≡ total n k = total_same n h k e in
    let b : commits_by n h ≡ commits_by n k = e n in
    omega arith

pub commits_same : (h k : List Event) → ((w : ℕ) → commits_by w h ≡ commits_by w k) → commits_of h ≡ commits_of k
commits_same h k e =
    sym (total_is (bound h + bound k) h (omega arith)) ∙ total_same (bound h + bound k) h k e ∙ total_is (bound h + bound k) k (omega arith)

-- ONE WORKER HAS MORE

-- one worker has so many more commits, and each other as many
pub record OneHasMore (w more : ℕ) (h k : List Event) : Type 0 where
  pub own : commits_by w k ≡ commits_by w h + more
  pub others : (v : ℕ) → v ≢ w → commits_by v k ≡ commits_by v h

total_before : (n w more : ℕ) (h k : List Event) → OneHasMore w more h k → n ≤ w → total n k ≡ total n h
total_before zero w more h k m l = refl
total_before (suc n) w more h k m l =
    let a : total n k ≡ total n h = total_before n w more h k m (omega arith) in
    let b : commits_by n k ≡ commits_by n h = m.others n (λ e. absurd (omega arith)) in
    omega arith

total_more : (n w more : ℕ) (h k : List Event) → OneHasMore w more h k → w < n → total n k ≡ total n h + more
total_more zero w more h k m l = absurd (omega arith)
total_more (suc n) w more h k m l = elim (cases_Bool (n == w)) [
  | inl b ↦
      let at : n ≡ w = grind (arith, nat_tests) in
      let a : total n k ≡ total n h = total_before n w more h k m (omega arith) in
      let c : commits_by n k ≡ commits_by n h + more = rw at m.own in
      omega arith
  | inr b ↦
      let apart : n ≢ w = grind (arith, nat_tests) in
      let a : total n k ≡ total n h + more = total_more n w more h k m (omega (arith, apart)) in
      let c : commits_by n k ≡ commits_by n h = m.others n apart in
      omega arith
]

pub commits_more : (w more : ℕ) (h k : List Event) → OneHasMore w more h k → commits_of k ≡ commits_of h + more
commits_more w more h k m =
    let n : ℕ = bound h + bound k + suc w in
    let a : total n k ≡ commits_of k = total_is n k (omega arith) in
    let b : total n h ≡ commits_of h = total_is n h (omega arith) in
    let c : total n k ≡ total n h + more = total_more n w more h k m (omega arith) in
    omega arith

-- THE FIRST WORKERS

one_few : (e : Event) (n : ℕ) → one e n ≤ cond (is_commit_what e.what) 1 0
one_few e n = elim (cases_Bool (e.worker == n)) [
  | inl b ↦ (let h : one e n ≡ cond (is_commit_what e.what) 1 0 = one_here e n b in omega arith)
  | inr b ↦ (let h : one e n ≡ 0 = one_not e n b in omega arith)
]

-- a worker has no more commits than all
by_few : (w : ℕ) (h : List Event) → commits_by w h ≤ commits_of h
by_few w [] = omega arith
by_few w (e ∷ es) =
    let a : commits_by w (e ∷ es) ≡ one e w + commits_by w es = sum_by-cons (λ (x : Event). one x w) e es in
    let b : commits_of (e ∷ es) ≡ cond (is_commit_what e.what) 1 0 + commits_of es = sum_by-cons (λ (x : Event). cond (is_commit_what x.what) 1 0) e es in
    let c : one e w ≤ cond (is_commit_what e.what) 1 0 = one_few e w in
    let d : commits_by w es ≤ commits_of es = by_few w es in
    omega arith

pub none_of_any : (n : ℕ) (h : List Event) → commits_of h ≡ 0 → AreOfFirst n h
none_of_any n h e w l = let f : commits_by w h ≤ commits_of h = by_few w h in omega arith

total_above : (k n : ℕ) (h : List Event) → AreOfFirst n h → n ≤ k → total k h ≡ total n h
total_above zero n h a l = let e : 0 ≡ n = omega arith in ap (λ i. total i h) e
total_above (suc k) n h a l = elim (cases_Bool (n == suc k)) [
  | inl b ↦ (let e : suc k ≡ n = grind (arith, nat_tests) in ap (λ i. total i h) e)
  | inr b ↦
      let below : n ≤ k = grind (arith, nat_tests) in
      let t : total k h ≡ total n h = total_above k n h a below in
      let z : commits_by k h ≡ 0 = a k below in
      omega arith
]

sum_push : (xs : List ℕ) (x : ℕ) → sum (xs ++ x ∷ []) ≡ sum xs + x
sum_push xs x = sum_by_push (λ (k : ℕ). k) xs x

shares_total : (n : ℕ) (h : List Event) → sum (shares_of n h) ≡ total n h
shares_total zero h = refl
shares_total (suc n) h =
    let a : sum (shares_of n h) ≡ total n h = shares_total n h in
    let b : sum (shares_of n h ++ commits_by n h ∷ []) ≡ sum (shares_of n h) + commits_by n h = sum_push (shares_of n h) (commits_by n h) in
    omega arith

-- their shares sum to all commits
pub shares_sum : (n : ℕ) (h : List Event) → AreOfFirst n h → sum (shares_of n h) ≡ commits_of h
shares_sum n h a =
    let b : sum (shares_of n h) ≡ total n h = shares_total n h in
    let c : total (bound h + n) h ≡ total n h = total_above (bound h + n) n h a (omega arith) in
    let d : total (bound h + n) h ≡ commits_of h = total_is (bound h + n) h (omega arith) in
    omega arith

-- WHAT LEAVES THE COMMITS

pub first_same : (n : ℕ) (h k : List Event) → ((w : ℕ) → commits_by w k ≡ commits_by w h) → AreOfFirst n h → AreOfFirst n k
first_same n h k e a w l = e w ∙ a w l

pub first_more : (n w more : ℕ) (h k : List Event) → OneHasMore w more h k → w < n → AreOfFirst n h → AreOfFirst n k
first_more n w more h k m few a v l = m.others v (λ e. absurd (omega arith)) ∙ a v l
