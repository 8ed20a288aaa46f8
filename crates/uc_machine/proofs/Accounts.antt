-- What each event does to the accounts.
use Rattle.std.proofs.Common.{◌≡◌, ℕ, ◌+◌, ◌-◌, ◌<◌, ◌≤◌, List, [], ◌∷◌, ◌++◌, length, Bool, true, false, cond, ◌==◌, Some, refl, ap, sym, ◌∙◌, arith, inl, inr, append_assoc, subst, slice_get}
use Rattle.std.specs.Prelude.{◌&&◌, count_by}
use Rattle.std.proofs.lemmas.Bool.{cases_Bool, eq-eqb, ne_eqb, cases_eq}
use Rattle.std.proofs.lemmas.List.Sums.{sum_by_push}
use Rattle.std.proofs.lemmas.List.{append-nil}
use Rattle.std.specs.List.{sum_by}
use Rattle.uc_machine.specs.declared.state.Numbers.{Numbers}
use Rattle.uc_machine.specs.declared.event.Event.{Event}
use Rattle.uc_machine.specs.declared.event.Happening.{Happening}
use Rattle.uc_machine.specs.declared.task.Job.{Job}
use Rattle.uc_machine.specs.declared.task.Job.TheVariants.{Goal, More, Meet, Join}
use Rattle.uc_machine.specs.Lists.{change}
use Rattle.uc_machine.specs.State.{Opening, Out, is_draw, draws_in, out_at, without}
use Rattle.uc_machine.specs.Effects.{draw_event, unit_of, one_drawn, one_commit, one_reclaim}
use Rattle.uc_machine.specs.Events.{units, units_after, unit_in, draw_in, draws_by, commits_by, reclaims_by, out_to, numbers_of, is_commit_what, is_reclaim_what, ending_in, ended_after, ended_by}
use Rattle.uc_machine.proofs.Kept.{Accounts, IsKnown}
use Rattle.uc_machine.proofs.Lists.{get-append, get-push, below, get-change_same, get-change_other, Each-map, Each-push, Each-without, sum-without, Rising-push, Rising-without}

pub draws_in-push : (h : List Event) (e : Event) → draws_in (h ++ e ∷ []) ≡ draws_in h ++ draw_in e
draws_in-push [] e = refl
draws_in-push (x ∷ h) e = elim (cases_Bool (is_draw x)) [
  | inl b ↦ rw b (ap (λ xs. x ∷ xs) (draws_in-push h e))
  | inr b ↦ rw b (draws_in-push h e)
]

pub draws_in-cons : (x : Event) (h : List Event) → draws_in (x ∷ h) ≡ draw_in x ++ draws_in h
draws_in-cons x h = elim (cases_Bool (is_draw x)) [ inl b ↦ rw b refl | inr b ↦ rw b refl ]

pub units_after-push : (ds h : List Event) (e : Event) → units_after ds (h ++ e ∷ []) ≡ units_after ds h + unit_in (ds ++ draws_in h) e.what
units_after-push ds [] e = rw append-nil (omega arith)
units_after-push ds (x ∷ h) e =
    let ih = units_after-push (ds ++ draw_in x) h e in
    let same : (ds ++ draw_in x) ++ draws_in h ≡ ds ++ draws_in (x ∷ h) = append_assoc ds (draw_in x) (draws_in h) ∙ ap (λ y. ds ++ y) (sym (draws_in-cons x h)) in
    let ih2 : units_after (ds ++ draw_in x) (h ++ e ∷ []) ≡ units_after (ds ++ draw_in x) h + unit_in (ds ++ draws_in (x ∷ h)) e.what = subst (λ y. units_after (ds ++ draw_in x) (h ++ e ∷ []) ≡ units_after (ds ++ draw_in x) h + unit_in y e.what) same ih in
    omega arith

pub units-push : (h : List Event) (e : Event) → units (h ++ e ∷ []) ≡ units h + unit_in (draws_in h) e.what
units-push h e = units_after-push [] h e

ended_after-push : (ds : List Event) (p : ℕ) (h : List Event) (e : Event) → ended_after ds p (h ++ e ∷ []) ≡ ended_after ds p h + ending_in (ds ++ draws_in h) p e.what
ended_after-push ds p [] e = rw append-nil (omega arith)
ended_after-push ds p (x ∷ h) e =
    let ih = ended_after-push (ds ++ draw_in x) p h e in
    let same : (ds ++ draw_in x) ++ draws_in h ≡ ds ++ draws_in (x ∷ h) = append_assoc ds (draw_in x) (draws_in h) ∙ ap (λ y. ds ++ y) (sym (draws_in-cons x h)) in
    let ih2 : ended_after (ds ++ draw_in x) p (h ++ e ∷ []) ≡ ended_after (ds ++ draw_in x) p h + ending_in (ds ++ draws_in (x ∷ h)) p e.what = subst (λ y. ended_after (ds ++ draw_in x) p (h ++ e ∷ []) ≡ ended_after (ds ++ draw_in x) p h + ending_in y p e.what) same ih in
    omega arith

pub ended-push : (p : ℕ) (h : List Event) (e : Event) → ended_by p (h ++ e ∷ []) ≡ ended_by p h + ending_in (draws_in h) p e.what
ended-push p h e = ended_after-push [] p h e

known_more : (n m : ℕ) (h : List Event) (e : Event) → n ≤ m → (t : Out) → IsKnown n h t → IsKnown m (h ++ e ∷ []) t
known_more n m h e l t k = let f : t.front ≤ n = k.front in record {
  drawn = rw (draws_in-push h e) (get-append (draws_in h) (draw_in e) t.ticket _ k.drawn);
  front = omega arith;
}

-- a count of one worker's events
module _ (p : Event → Bool) (h : List Event) (e : Event) where
  abbrev count_of : ℕ → List Event → ℕ
  count_of w es = count_by (λ (x : Event). p x && (x.worker == w)) es

  count_same : p e ≡ true → count_of e.worker (h ++ e ∷ []) ≡ count_of e.worker h + 1
  count_same y = sum_by_push (λ (x : Event). cond (p x && (x.worker == e.worker)) 1 0) h e ∙ rw (y, eq-eqb e.worker e.worker refl) refl

  count_no : p e ≡ false → (w : ℕ) → count_of w (h ++ e ∷ []) ≡ count_of w h
  count_no y w = sum_by_push (λ (x : Event). cond (p x && (x.worker == w)) 1 0) h e ∙ rw y (omega arith)

  count_other : (w : ℕ) → (e.worker ≡ w → ⊥) → count_of w (h ++ e ∷ []) ≡ count_of w h
  count_other w ne = sum_by_push (λ (x : Event). cond (p x && (x.worker == w)) 1 0) h e ∙ elim (cases_Bool (p e)) [
    | inl b ↦ rw (b, ne_eqb e.worker w ne) (omega arith)
    | inr b ↦ rw b (omega arith)
  ]

abbrev commit_test : Event → Bool
commit_test e = is_commit_what e.what

abbrev reclaim_test : Event → Bool
reclaim_test e = is_reclaim_what e.what

numbers_eq : (a b c a' b' c' : ℕ) → a ≡ a' → b ≡ b' → c ≡ c' → (let n : Numbers = record { drawn = a; commits = b; reclaims = c } in n) ≡ record { drawn = a'; commits = b'; reclaims = c' }
numbers_eq a b c a' b' c' p q r = cc

numbers_others : (h : List Event) (e : Event) (w : ℕ) → (e.worker ≡ w → ⊥) → numbers_of (h ++ e ∷ []) w ≡ numbers_of h w
numbers_others h e w ne = numbers_eq _ _ _ _ _ _ (count_other is_draw h e w ne) (count_other commit_test h e w ne) (count_other reclaim_test h e w ne)

numbers_rise_at : (f : Numbers → Numbers) (ns : List Numbers) (h : List Event) (e : Event) → ((w : ℕ) → w < 65 → slice_get ns w ≡ Some (numbers_of h w))
    → numbers_of (h ++ e ∷ []) e.worker ≡ f (numbers_of h e.worker) → (w : ℕ) → w < 65 → slice_get (change f ns e.worker) w ≡ Some (numbers_of (h ++ e ∷ []) w)
numbers_rise_at f ns h e old same w l = elim (cases_eq e.worker w) [
  | inl q ↦ let l2 : e.worker < 65 = omega arith in subst (λ v. slice_get (change f ns e.worker) v ≡ Some (numbers_of (h ++ e ∷ []) v)) q (get-change_same f ns e.worker (numbers_of h e.worker) (old e.worker l2) ∙ ap (λ n. Some n) (sym same))
  | inr ne ↦ get-change_other f ns e.worker w ne ∙ old w l ∙ ap (λ n. Some n) (sym (numbers_others h e w ne))
]

draw_is : (j : Job) (n : ℕ) → (let e : Happening = draw_event j n in (ds : List Event) → (is_commit_what e ≡ false) × (is_reclaim_what e ≡ false) × (unit_in ds e ≡ 0))
draw_is (Goal g l r) n ds = (refl, refl, refl)
draw_is (More g l r) n ds = (refl, refl, refl)
draw_is (Meet i) n ds = (refl, refl, refl)
draw_is (Join p a) n ds = (refl, refl, refl)

pub is_draw_event : (w : ℕ) (j : Job) (n : ℕ) → is_draw (record { worker = w; what = draw_event j n }) ≡ true
is_draw_event w (Goal g l r) n = refl
is_draw_event w (More g l r) n = refl
is_draw_event w (Meet i) n = refl
is_draw_event w (Join p a) n = refl

-- a task is drawn
pub accounts_draw : (o : Opening) (n : ℕ) (out : List Out) (c r : ℕ) (ns : List Numbers) (h : List Event) (w : ℕ) (j : Job)
    → Accounts o n out c r ns h → c + r + unit_of j ≤ o.budget
    → Accounts o n (out ++ record { ticket = length (draws_in h); worker = w; job = j; front = n } ∷ []) c (r + unit_of j) (change one_drawn ns w) (h ++ record { worker = w; what = draw_event j n } ∷ [])
accounts_draw o n out c r ns h w j a room =
    let e : Event = record { worker = w; what = draw_event j n } in
    let t : Out = record { ticket = length (draws_in h); worker = w; job = j; front = n } in
    let d : is_draw e ≡ true = is_draw_event w j n in
    let k : (is_commit_what e.what ≡ false) × (is_reclaim_what e.what ≡ false) × (unit_in (draws_in h) e.what ≡ 0) = draw_is j n (draws_in h) in
    let cs : c ≡ units h = a.counted_is in
    let rs : r ≡ sum_by (λ (u : Out). unit_of u.job) out = a.reserved_is in
    let up : units (h ++ e ∷ []) ≡ units h + unit_in (draws_in h) e.what = units-push h e in
    let k2 : unit_in (draws_in h) e.what ≡ 0 = k.2 in
    let sp : sum_by (λ (u : Out). unit_of u.job) (out ++ t ∷ []) ≡ sum_by (λ (u : Out). unit_of u.job) out + unit_of j = sum_by_push (λ (u : Out). unit_of u.job) out t in
    record {
      counted_is = omega arith;
      reserved_is = omega arith;
      within = omega arith;
      numbers_are = numbers_rise_at one_drawn ns h e a.numbers_are (numbers_eq _ _ _ _ _ _ (count_same is_draw h e d) (count_no commit_test h e k.0 w) (count_no reclaim_test h e k.1 w));
      balance = λ v.
          let b : out_to v out + (commits_by v h + reclaims_by v h) ≡ draws_by v h = a.balance v in
          let p : out_to v (out ++ t ∷ []) ≡ out_to v out + cond {A = ℕ} (w == v) 1 0 = sum_by_push (λ (u : Out). cond (u.worker == v) 1 0) out t in
          let cm : commits_by v (h ++ e ∷ []) ≡ commits_by v h = count_no commit_test h e k.0 v in
          let rc : reclaims_by v (h ++ e ∷ []) ≡ reclaims_by v h = count_no reclaim_test h e k.1 v in
          elim (cases_eq w v) [
            | inl q ↦
                let one : cond {A = ℕ} (w == v) 1 0 ≡ 1 = rw (eq-eqb w v q) refl in
                let dr : draws_by v (h ++ e ∷ []) ≡ draws_by v h + 1 = subst (λ x. draws_by x (h ++ e ∷ []) ≡ draws_by x h + 1) q (count_same is_draw h e d) in
                omega arith
            | inr ne ↦
                let no : cond {A = ℕ} (w == v) 1 0 ≡ 0 = rw (ne_eqb w v ne) refl in
                let dr : draws_by v (h ++ e ∷ []) ≡ draws_by v h = count_other is_draw h e v ne in
                omega arith
          ];
      rising = Rising-push 0 out t (omega arith) (Each-map (λ u k. below (draws_in h) u.ticket _ k.drawn) out a.known) a.rising;
      known = Each-push (IsKnown n (h ++ e ∷ [])) out t (Each-map (λ u k. known_more n n h e (omega arith) u k) out a.known)
          (record { drawn = rw (draws_in-push h e, d) (get-push (draws_in h) e); front = omega arith });
    }

-- a task ends by a commit, the entries growing
pub accounts_commit : (o : Opening) (n m : ℕ) (out : List Out) (c r : ℕ) (ns : List Numbers) (h : List Event) (t : Out) (e : Event)
    → Accounts o n out c r ns h → n ≤ m → out_at t.ticket out ≡ Some t → e.worker ≡ t.worker
    → is_draw e ≡ false → is_commit_what e.what ≡ true → is_reclaim_what e.what ≡ false → unit_in (draws_in h) e.what ≡ unit_of t.job
    → Accounts o m (without t.ticket out) (c + unit_of t.job) (r - unit_of t.job) (change one_commit ns t.worker) (h ++ e ∷ [])
accounts_commit o n m out c r ns h t e a grown at same nd ic nr unit =
    let cs : c ≡ units h = a.counted_is in
    let rs : r ≡ sum_by (λ (u : Out). unit_of u.job) out = a.reserved_is in
    let up : units (h ++ e ∷ []) ≡ units h + unit_in (draws_in h) e.what = units-push h e in
    let sw : sum_by (λ (u : Out). unit_of u.job) (without t.ticket out) + unit_of t.job ≡ sum_by (λ (u : Out). unit_of u.job) out = sum-without (λ (u : Out). unit_of u.job) t.ticket out t at in
    let wi : c + r ≤ o.budget = a.within in
    record {
      counted_is = omega arith;
      reserved_is = omega arith;
      within = omega arith;
      numbers_are = subst (λ v. (w : ℕ) → w < 65 → slice_get (change one_commit ns v) w ≡ Some (numbers_of (h ++ e ∷ []) w)) same
          (numbers_rise_at one_commit ns h e a.numbers_are (numbers_eq _ _ _ _ _ _ (count_no is_draw h e nd e.worker) (count_same commit_test h e ic) (count_no reclaim_test h e nr e.worker)));
      balance = λ v.
          let b : out_to v out + (commits_by v h + reclaims_by v h) ≡ draws_by v h = a.balance v in
          let p : out_to v (without t.ticket out) + cond {A = ℕ} (t.worker == v) 1 0 ≡ out_to v out = sum-without (λ (u : Out). cond (u.worker == v) 1 0) t.ticket out t at in
          let dr : draws_by v (h ++ e ∷ []) ≡ draws_by v h = count_no is_draw h e nd v in
          let rc : reclaims_by v (h ++ e ∷ []) ≡ reclaims_by v h = count_no reclaim_test h e nr v in
          elim (cases_eq e.worker v) [
            | inl q ↦
                let one : cond {A = ℕ} (t.worker == v) 1 0 ≡ 1 = rw (eq-eqb t.worker v (sym same ∙ q)) refl in
                let cm : commits_by v (h ++ e ∷ []) ≡ commits_by v h + 1 = subst (λ x. commits_by x (h ++ e ∷ []) ≡ commits_by x h + 1) q (count_same commit_test h e ic) in
                omega arith
            | inr ne ↦
                let no : cond {A = ℕ} (t.worker == v) 1 0 ≡ 0 = rw (ne_eqb t.worker v (λ q. ne (same ∙ q))) refl in
                let cm : commits_by v (h ++ e ∷ []) ≡ commits_by v h = count_other commit_test h e v ne in
                omega arith
          ];
      rising = Rising-without 0 t.ticket out a.rising;
      known = Each-without (IsKnown m (h ++ e ∷ [])) t.ticket out (Each-map (λ u k. known_more n m h e grown u k) out a.known);
    }

-- a task is put back
pub accounts_reclaim : (o : Opening) (n : ℕ) (out : List Out) (c r : ℕ) (ns : List Numbers) (h : List Event) (t : Out) (e : Event)
    → Accounts o n out c r ns h → out_at t.ticket out ≡ Some t → e.worker ≡ t.worker
    → is_draw e ≡ false → is_commit_what e.what ≡ false → is_reclaim_what e.what ≡ true → unit_in (draws_in h) e.what ≡ 0
    → Accounts o n (without t.ticket out) c (r - unit_of t.job) (change one_reclaim ns t.worker) (h ++ e ∷ [])
accounts_reclaim o n out c r ns h t e a at same nd nc ir unit =
    let cs : c ≡ units h = a.counted_is in
    let rs : r ≡ sum_by (λ (u : Out). unit_of u.job) out = a.reserved_is in
    let up : units (h ++ e ∷ []) ≡ units h + unit_in (draws_in h) e.what = units-push h e in
    let sw : sum_by (λ (u : Out). unit_of u.job) (without t.ticket out) + unit_of t.job ≡ sum_by (λ (u : Out). unit_of u.job) out = sum-without (λ (u : Out). unit_of u.job) t.ticket out t at in
    let wi : c + r ≤ o.budget = a.within in
    record {
      counted_is = omega arith;
      reserved_is = omega arith;
      within = omega arith;
      numbers_are = subst (λ v. (w : ℕ) → w < 65 → slice_get (change one_reclaim ns v) w ≡ Some (numbers_of (h ++ e ∷ []) w)) same
          (numbers_rise_at one_reclaim ns h e a.numbers_are (numbers_eq _ _ _ _ _ _ (count_no is_draw h e nd e.worker) (count_no commit_test h e nc e.worker) (count_same reclaim_test h e ir)));
      balance = λ v.
          let b : out_to v out + (commits_by v h + reclaims_by v h) ≡ draws_by v h = a.balance v in
          let p : out_to v (without t.ticket out) + cond {A = ℕ} (t.worker == v) 1 0 ≡ out_to v out = sum-without (λ (u : Out). cond (u.worker == v) 1 0) t.ticket out t at in
          let dr : draws_by v (h ++ e ∷ []) ≡ draws_by v h = count_no is_draw h e nd v in
          let cm : commits_by v (h ++ e ∷ []) ≡ commits_by v h = count_no commit_test h e nc v in
          elim (cases_eq e.worker v) [
            | inl q ↦
                let one : cond {A = ℕ} (t.worker == v) 1 0 ≡ 1 = rw (eq-eqb t.worker v (sym same ∙ q)) refl in
                let rc : reclaims_by v (h ++ e ∷ []) ≡ reclaims_by v h + 1 = subst (λ x. reclaims_by x (h ++ e ∷ []) ≡ reclaims_by x h + 1) q (count_same reclaim_test h e ir) in
                omega arith
            | inr ne ↦
                let no : cond {A = ℕ} (t.worker == v) 1 0 ≡ 0 = rw (ne_eqb t.worker v (λ q. ne (same ∙ q))) refl in
                let rc : reclaims_by v (h ++ e ∷ []) ≡ reclaims_by v h = count_other reclaim_test h e v ne in
                omega arith
          ];
      rising = Rising-without 0 t.ticket out a.rising;
      known = Each-without (IsKnown n (h ++ e ∷ [])) t.ticket out (Each-map (λ u k. known_more n n h e (omega arith) u k) out a.known);
    }

-- an event of no task: a drop, a close, or an audit, which counts one
pub accounts_other : (o : Opening) (n m : ℕ) (out : List Out) (c r : ℕ) (ns : List Numbers) (h : List Event) (e : Event) (more : ℕ)
    → Accounts o n out c r ns h → n ≤ m
    → is_draw e ≡ false → is_commit_what e.what ≡ false → is_reclaim_what e.what ≡ false → unit_in (draws_in h) e.what ≡ more → c + more + r ≤ o.budget
    → Accounts o m out (c + more) r ns (h ++ e ∷ [])
accounts_other o n m out c r ns h e more a grown nd nc nr unit room =
    let cs : c ≡ units h = a.counted_is in
    let up : units (h ++ e ∷ []) ≡ units h + unit_in (draws_in h) e.what = units-push h e in
    record {
      counted_is = omega arith;
      reserved_is = a.reserved_is;
      within = omega arith;
      numbers_are = λ w l. a.numbers_are w l ∙ ap (λ x. Some x) (sym (numbers_eq _ _ _ _ _ _ (count_no is_draw h e nd w) (count_no commit_test h e nc w) (count_no reclaim_test h e nr w)));
      balance = λ v.
          let b : out_to v out + (commits_by v h + reclaims_by v h) ≡ draws_by v h = a.balance v in
          let dr : draws_by v (h ++ e ∷ []) ≡ draws_by v h = count_no is_draw h e nd v in
          let cm : commits_by v (h ++ e ∷ []) ≡ commits_by v h = count_no commit_test h e nc v in
          let rc : reclaims_by v (h ++ e ∷ []) ≡ reclaims_by v h = count_no reclaim_test h e nr v in
          omega arith;
      rising = a.rising;
      known = Each-map (λ u k. known_more n m h e grown u k) out a.known;
    }

-- the entries grow
pub accounts_grow : (o : Opening) (n m : ℕ) (out : List Out) (c r : ℕ) (ns : List Numbers) (h : List Event) → Accounts o n out c r ns h → n ≤ m → Accounts o m out c r ns h
accounts_grow o n m out c r ns h a l = record {
  counted_is = a.counted_is;
  reserved_is = a.reserved_is;
  within = a.within;
  numbers_are = a.numbers_are;
  balance = a.balance;
  rising = a.rising;
  known = Each-map (λ (t : Out) (k : IsKnown n h t). (let f : t.front ≤ n = k.front in record { drawn = k.drawn; front = omega arith })) out a.known;
}
