-- What each change does to facts, tasks and pairs.
use Rattle.std.proofs.Common.{◌≡◌, ℕ, zero, suc, ◌+◌, ◌<◌, ◌≤◌, List, [], ◌∷◌, ◌++◌, length, true, false, cond, ◌==◌, Option, Some, None, refl, ap, sym, ◌∙◌, arith, inl, inr, subst, map, slice_get}
use Rattle.std.proofs.lemmas.Bool.{cases_Bool, eqb-true, eqb-false, eq-eqb, ne_eqb, cases_eq, false≢true, or_parts, false_from_ne_true}
use Rattle.std.proofs.lemmas.List.Sums.{sum_by_push}
use Rattle.std.proofs.lemmas.List.{append-nil, length_push}
use Rattle.uc_term.specs.Tree.{Tree}
use Rattle.uc_fact.specs.declared.fact.Fact.{Fact}
use Rattle.uc_fact.specs.declared.fact.Overlap.{Overlap}
use Rattle.uc_fact.specs.declared.fact.Origin.{Origin}
use Rattle.uc_fact.specs.declared.fact.Origin.TheVariants.{Overlap as OfOverlap}
use Rattle.uc_ledger.specs.declared.ledger.State.{State as Condition}
use Rattle.uc_ledger.specs.declared.ledger.State.TheVariants.{Waiting, Out as OutTo, Done, Orphan, Large}
use Rattle.uc_shelf.specs.declared.entry.Entry.{Entry}
use Rattle.uc_shelf.specs.declared.entry.Entry.TheVariants.{Born, Dies}
use Rattle.uc_shelf.specs.Entries.{born, is_dead}
use Rattle.uc_machine.specs.declared.state.Meeting.{Meeting}
use Rattle.uc_machine.specs.declared.state.Meeting.TheVariants.{Unmet, Visiting, Met}
use Rattle.uc_machine.specs.declared.state.Stage.TheVariants.{Busy}
use Rattle.uc_machine.specs.declared.event.Event.{Event}
use Rattle.uc_machine.specs.declared.task.Job.{Job}
use Rattle.uc_machine.specs.declared.task.Job.TheVariants.{Goal, More, Meet, Join}
use Rattle.uc_machine.specs.Lists.{change, Each, map_option}
use Rattle.uc_machine.specs.State.{Pair, Target, Out, dead_of, draws_in, out_at, without}
use Rattle.uc_machine.specs.Effects.{wakes, wakes_stage, meets_unmet}
use Rattle.uc_machine.specs.Events.{ending_in, ended_by}
use Rattle.uc_machine.specs.Promises.{DieLater, later_fact, IsOf}
use Rattle.uc_machine.proofs.Kept.{NotIn, Distinct, Facts, is_among, dead_is, IsBusy, is_same, Apart, AllApart, may_draw, to_draw, is_join, joins, EndsOnce, Numbered}
use Rattle.uc_machine.proofs.Lists.{get-append, get-change_same, get-change_other, length-change, Each-map, Each-push, Each-without, Each-at, sum-without}
use Rattle.uc_machine.proofs.Accounts.{ended-push}

-- facts

dead-append : (xs ys : List Entry) → dead_of (xs ++ ys) ≡ dead_of xs ++ dead_of ys
dead-append [] ys = refl
dead-append (Born f ∷ xs) ys = dead-append xs ys
dead-append (Dies f k ∷ xs) ys = ap (λ zs. f ∷ zs) (dead-append xs ys)

pub born-append : (xs ys : List Entry) → born (xs ++ ys) ≡ born xs ++ born ys
born-append [] ys = refl
born-append (Born f ∷ xs) ys = ap (λ zs. f ∷ zs) (born-append xs ys)
born-append (Dies f k ∷ xs) ys = born-append xs ys

pub born-dies : (es : List Entry) (i k : ℕ) → born (es ++ Dies i k ∷ []) ≡ born es
born-dies es i k = born-append es (Dies i k ∷ []) ∙ append-nil (born es)

NotIn-among : (n : ℕ) (ms : List ℕ) → is_among n ms ≡ false → NotIn n ms
NotIn-among n [] e = tt
NotIn-among n (m ∷ ms) e = let p = or_parts (m == n) (is_among n ms) e in ((λ q. eqb-false m n p.0 q), NotIn-among n ms p.1)

NotIn-push : (n m : ℕ) (ms : List ℕ) → NotIn n ms → (m ≡ n → ⊥) → NotIn n (ms ++ m ∷ [])
NotIn-push n m [] h ne = (ne, tt)
NotIn-push n m (k ∷ ms) h ne = (h.0, NotIn-push n m ms h.1 ne)

Distinct-push : (ms : List ℕ) (m : ℕ) → Distinct ms → NotIn m ms → Distinct (ms ++ m ∷ [])
Distinct-push [] m d n = (tt, tt)
Distinct-push (k ∷ ms) m d n = (NotIn-push k m ms d.0 (λ q. n.0 (sym q)), Distinct-push ms m d.1 n.1)

die-born : (n : ℕ) (es : List Entry) (f : Fact) → DieLater n es → DieLater n (es ++ Born f ∷ [])
die-born n [] f h = tt
die-born n (Born g ∷ es) f h = die-born (suc n) es f h
die-born n (Dies i k ∷ es) f h = (h.0, die-born n es f h.1)

die-dies : (n : ℕ) (es : List Entry) (i k : ℕ) → i < n + length (born es) → DieLater n es → DieLater n (es ++ Dies i k ∷ [])
die-dies n [] i k l h = (omega arith, tt)
die-dies n (Born g ∷ es) i k l h = die-dies (suc n) es i k (omega arith) h
die-dies n (Dies j c ∷ es) i k l h = (h.0, die-dies n es i k l h.1)

pub facts_born : (es : List Entry) (ms : List Meeting) (f : Fact) → Facts es ms → Facts (es ++ Born f ∷ []) (ms ++ Unmet ∷ [])
facts_born es ms f a =
    let d : dead_of (es ++ Born f ∷ []) ≡ dead_of es = dead-append es (Born f ∷ []) ∙ append-nil (dead_of es) in
    let b : born (es ++ Born f ∷ []) ≡ born es ++ f ∷ [] = born-append es (Born f ∷ []) in
    let l : length (born es ++ f ∷ []) ≡ length (born es) + 1 = length_push (born es) f in
    let m : length (ms ++ Unmet ∷ []) ≡ length ms + 1 = length_push ms Unmet in
    let e : length ms ≡ length (born es) = a.each_meets in
    record {
      once = rw d a.once;
      later = die-born 0 es f a.later;
      are_born = rw (d, b, l) (Each-map (λ (i : ℕ) (h : i < length (born es)). (let r : i < length (born es) + 1 = omega arith in r)) (dead_of es) a.are_born);
      each_meets = rw (b, l) (omega arith);
    }

pub facts_dies : (es : List Entry) (ms : List Meeting) (i k : ℕ) (g : Meeting → Meeting) → Facts es ms → i < length (born es) → is_dead es i ≡ false → Facts (es ++ Dies i k ∷ []) (change g ms i)
facts_dies es ms i k g a l alive =
    let d : dead_of (es ++ Dies i k ∷ []) ≡ dead_of es ++ i ∷ [] = dead-append es (Dies i k ∷ []) in
    let b : born (es ++ Dies i k ∷ []) ≡ born es = born-append es (Dies i k ∷ []) ∙ append-nil (born es) in
    let m : length (change g ms i) ≡ length ms = length-change g ms i in
    let e : length ms ≡ length (born es) = a.each_meets in
    record {
      once = rw d (Distinct-push (dead_of es) i a.once (NotIn-among i (dead_of es) (sym (dead_is es i) ∙ alive)));
      later = die-dies 0 es i k (omega arith) a.later;
      are_born = rw (d, b) (Each-push (λ (j : ℕ). j < length (born es)) (dead_of es) i a.are_born l);
      each_meets = rw b (omega arith);
    }

pub facts_meeting : (es : List Entry) (ms : List Meeting) (i : ℕ) (g : Meeting → Meeting) → Facts es ms → Facts es (change g ms i)
facts_meeting es ms i g a = record { once = a.once; later = a.later; are_born = a.are_born; each_meets = length-change g ms i ∙ a.each_meets }

-- tasks

pub apart_push : (out : List Out) (t : Out) → AllApart out → Each (λ (u : Out). is_same u.job t.job ≡ false) out → AllApart (out ++ t ∷ [])
apart_push [] t a h = (tt, tt)
apart_push (u ∷ out) t a h = (Each-push (λ (x : Out). is_same u.job x.job ≡ false) out t a.0 h.0, apart_push out t a.1 h.1)

pub apart_without : (n : ℕ) (out : List Out) → AllApart out → AllApart (without n out)
apart_without n [] a = tt
apart_without n (u ∷ out) a = elim (cases_Bool (u.ticket == n)) as (λ _. AllApart (cond (u.ticket == n) out (u ∷ without n out))) [
  | inl e ↦ rw e a.1
  | inr e ↦ rw e (Each-without (λ (x : Out). is_same u.job x.job ≡ false) n out a.0, apart_without n out a.1)
]

sym_eqb : (a b : ℕ) → (a == b) ≡ false → (b == a) ≡ false
sym_eqb a b e = ne_eqb b a (λ q. eqb-false a b e (sym q))

pub is_same-sym : (j k : Job) → is_same j k ≡ false → is_same k j ≡ false
is_same-sym (Goal g l r) (Goal h l2 r2) e = sym_eqb g h e
is_same-sym (Goal g l r) (More h l2 r2) e = sym_eqb g h e
is_same-sym (Goal g l r) (Meet i) e = refl
is_same-sym (Goal g l r) (Join p a) e = refl
is_same-sym (More g l r) (Goal h l2 r2) e = sym_eqb g h e
is_same-sym (More g l r) (More h l2 r2) e = sym_eqb g h e
is_same-sym (More g l r) (Meet i) e = refl
is_same-sym (More g l r) (Join p a) e = refl
is_same-sym (Meet i) (Goal g l r) e = refl
is_same-sym (Meet i) (More g l r) e = refl
is_same-sym (Meet i) (Meet j) e = sym_eqb i j e
is_same-sym (Meet i) (Join p a) e = refl
is_same-sym (Join p a) (Goal g l r) e = refl
is_same-sym (Join p a) (More g l r) e = refl
is_same-sym (Join p a) (Meet i) e = refl
is_same-sym (Join p a) (Join q b) e = sym_eqb p q e

-- the other tasks are apart from one that is out
pub apart_from : (n : ℕ) (out : List Out) (t : Out) → out_at n out ≡ Some t → AllApart out → Apart t.job (without n out)
apart_from n [] t e a = tt
apart_from n (u ∷ out) t e a = elim (cases_Bool (u.ticket == n)) as (λ _. Apart t.job (cond (u.ticket == n) out (u ∷ without n out))) [
  | inl b ↦ let same : u ≡ t = (let f : Some u ≡ Some t = rw b at e in cc) in rw b (rw (← same) a.0)
  | inr b ↦ let f : out_at n out ≡ Some t = rw b at e in rw b (is_same-sym u.job t.job (Each-at (λ (x : Out). is_same u.job x.job ≡ false) n out t f a.0), apart_from n out t f a.1)
]

-- a change at a goal, a fact or a pair leaves what is out of the others
pub busy-goal : (ps : List Pair) (gs : List Target) (ms : List Meeting) (f : Target → Target) (g : ℕ) (l r : Tree) (w : ℕ) (k : Job) → is_same (Goal g l r) k ≡ false → IsBusy ps gs ms w k → IsBusy ps (change f gs g) ms w k
busy-goal ps gs ms f g l r w (Goal h l2 r2) ne b = ap (map_option (λ (x : Target). x.stage)) (get-change_other f gs g h (eqb-false g h ne)) ∙ b
busy-goal ps gs ms f g l r w (More h l2 r2) ne b = ap (map_option (λ (x : Target). x.stage)) (get-change_other f gs g h (eqb-false g h ne)) ∙ b
busy-goal ps gs ms f g l r w (Meet i) ne b = b
busy-goal ps gs ms f g l r w (Join p a) ne b = b

pub busy-more : (ps : List Pair) (gs : List Target) (ms : List Meeting) (f : Target → Target) (g : ℕ) (l r : Tree) (w : ℕ) (k : Job) → is_same (More g l r) k ≡ false → IsBusy ps gs ms w k → IsBusy ps (change f gs g) ms w k
busy-more ps gs ms f g l r w (Goal h l2 r2) ne b = ap (map_option (λ (x : Target). x.stage)) (get-change_other f gs g h (eqb-false g h ne)) ∙ b
busy-more ps gs ms f g l r w (More h l2 r2) ne b = ap (map_option (λ (x : Target). x.stage)) (get-change_other f gs g h (eqb-false g h ne)) ∙ b
busy-more ps gs ms f g l r w (Meet i) ne b = b
busy-more ps gs ms f g l r w (Join p a) ne b = b

pub busy-meet : (ps : List Pair) (gs : List Target) (ms : List Meeting) (f : Meeting → Meeting) (i : ℕ) (w : ℕ) (k : Job) → is_same (Meet i) k ≡ false → IsBusy ps gs ms w k → IsBusy ps gs (change f ms i) w k
busy-meet ps gs ms f i w (Goal h l2 r2) ne b = b
busy-meet ps gs ms f i w (More h l2 r2) ne b = b
busy-meet ps gs ms f i w (Meet j) ne b = get-change_other f ms i j (eqb-false i j ne) ∙ b
busy-meet ps gs ms f i w (Join p a) ne b = b

pub busy-join : (ps : List Pair) (gs : List Target) (ms : List Meeting) (f : Pair → Pair) (p : ℕ) (a : Origin) (w : ℕ) (k : Job) → is_same (Join p a) k ≡ false → IsBusy ps gs ms w k → IsBusy (change f ps p) gs ms w k
busy-join ps gs ms f p a w (Goal h l2 r2) ne b = b
busy-join ps gs ms f p a w (More h l2 r2) ne b = b
busy-join ps gs ms f p a w (Meet j) ne b = b
busy-join ps gs ms f p a w (Join q c) ne b = ap (map_option (λ (x : Pair). x.condition)) (get-change_other f ps p q (eqb-false p q ne)) ∙ b

-- what is not out is apart from what is
pub record IsFree (ps : List Pair) (gs : List Target) (ms : List Meeting) (j : Job) : Type 0 where
  pub free : (w : ℕ) → IsBusy ps gs ms w j → ⊥

pub is_apart : (ps : List Pair) (gs : List Target) (ms : List Meeting) (j : Job) → IsFree ps gs ms j → (w : ℕ) (k : Job) → IsBusy ps gs ms w k → is_same k j ≡ false
is_apart ps gs ms j f w k b = false_from_ne_true (is_same k j) (λ e. f.free w (moved k j e b))
  where
    moved : (k j : Job) → is_same k j ≡ true → IsBusy ps gs ms w k → IsBusy ps gs ms w j
    moved (Goal g l r) (Goal h l2 r2) e b = subst (λ n. map_option (λ (x : Target). x.stage) (slice_get gs n) ≡ Some Busy) (eqb-true g h e) b
    moved (Goal g l r) (More h l2 r2) e b = subst (λ n. map_option (λ (x : Target). x.stage) (slice_get gs n) ≡ Some Busy) (eqb-true g h e) b
    moved (Goal g l r) (Meet i) e b = absurd (false≢true e)
    moved (Goal g l r) (Join p a) e b = absurd (false≢true e)
    moved (More g l r) (Goal h l2 r2) e b = subst (λ n. map_option (λ (x : Target). x.stage) (slice_get gs n) ≡ Some Busy) (eqb-true g h e) b
    moved (More g l r) (More h l2 r2) e b = subst (λ n. map_option (λ (x : Target). x.stage) (slice_get gs n) ≡ Some Busy) (eqb-true g h e) b
    moved (More g l r) (Meet i) e b = absurd (false≢true e)
    moved (More g l r) (Join p a) e b = absurd (false≢true e)
    moved (Meet i) (Goal g l r) e b = absurd (false≢true e)
    moved (Meet i) (More g l r) e b = absurd (false≢true e)
    moved (Meet i) (Meet j) e b = subst (λ n. slice_get ms n ≡ Some Visiting) (eqb-true i j e) b
    moved (Meet i) (Join p a) e b = absurd (false≢true e)
    moved (Join p a) (Goal g l r) e b = absurd (false≢true e)
    moved (Join p a) (More g l r) e b = absurd (false≢true e)
    moved (Join p a) (Meet i) e b = absurd (false≢true e)
    moved (Join p a) (Join q c) e b = subst (λ n. map_option (λ (x : Pair). x.condition) (slice_get ps n) ≡ Some (OutTo w)) (eqb-true p q e) b

woken : (gs : List Target) (g : ℕ) → map_option (λ (x : Target). x.stage) (slice_get gs g) ≡ Some Busy → map_option (λ (x : Target). x.stage) (slice_get (map wakes gs) g) ≡ Some Busy
woken [] g e = absurd (cc)
woken (x ∷ gs) zero e = let s : x.stage ≡ Busy = cc in ap (λ z. Some (wakes_stage z)) s
woken (x ∷ gs) (suc g) e = woken gs g e

-- what grows or wakes leaves what is out
pub busy-wakes : (ps : List Pair) (gs : List Target) (ms : List Meeting) (w : ℕ) (k : Job) → IsBusy ps gs ms w k → IsBusy ps (map wakes gs) ms w k
busy-wakes ps gs ms w (Goal g l r) b = woken gs g b
busy-wakes ps gs ms w (More g l r) b = woken gs g b
busy-wakes ps gs ms w (Meet i) b = b
busy-wakes ps gs ms w (Join p a) b = b

pub option-append : {A B : Type 0} (f : A → B) (xs ys : List A) (n : ℕ) (b : B) → map_option f (slice_get xs n) ≡ Some b → map_option f (slice_get (xs ++ ys) n) ≡ Some b
option-append f [] ys n b e = absurd (cc)
option-append f (x ∷ xs) ys zero b e = e
option-append f (x ∷ xs) ys (suc n) b e = option-append f xs ys n b e

pub busy-append : (ps qs : List Pair) (gs : List Target) (ms ns : List Meeting) (w : ℕ) (k : Job) → IsBusy ps gs ms w k → IsBusy (ps ++ qs) gs (ms ++ ns) w k
busy-append ps qs gs ms ns w (Goal g l r) b = b
busy-append ps qs gs ms ns w (More g l r) b = b
busy-append ps qs gs ms ns w (Meet i) b = get-append ms ns i Visiting b
busy-append ps qs gs ms ns w (Join p a) b = option-append (λ (x : Pair). x.condition) ps qs p (OutTo w) b

pub busy-dies : (ps qs : List Pair) (gs : List Target) (ms : List Meeting) (i w : ℕ) (k : Job) → IsBusy ps gs ms w k → IsBusy (ps ++ qs) gs (change meets_unmet ms i) w k
busy-dies ps qs gs ms i w (Goal g l r) b = b
busy-dies ps qs gs ms i w (More g l r) b = b
busy-dies ps qs gs ms i w (Meet j) b = elim (cases_eq i j) [
  | inl q ↦ subst (λ n. slice_get (change meets_unmet ms i) n ≡ Some Visiting) q (get-change_same meets_unmet ms i Visiting (subst (λ n. slice_get ms n ≡ Some Visiting) (sym q) b))
  | inr ne ↦ get-change_other meets_unmet ms i j ne ∙ b
]
busy-dies ps qs gs ms i w (Join p a) b = option-append (λ (x : Pair). x.condition) ps qs p (OutTo w) b

-- pairs: how they end

to_draw-small : (x : Option Pair) → to_draw x ≤ 1
to_draw-small None = omega arith
to_draw-small (Some p) = may_draw-small p.condition
  where
    may_draw-small : (c : Condition) → may_draw c ≤ 1
    may_draw-small Waiting = omega arith
    may_draw-small (OutTo w) = omega arith
    may_draw-small Done = omega arith
    may_draw-small Orphan = omega arith
    may_draw-small Large = omega arith

to_draw-append : (ps qs : List Pair) (p : ℕ) → to_draw (slice_get (ps ++ qs) p) ≤ to_draw (slice_get ps p)
to_draw-append [] qs p = to_draw-small (slice_get qs p)
to_draw-append (x ∷ ps) qs zero = omega arith
to_draw-append (x ∷ ps) qs (suc p) = to_draw-append ps qs p

-- a pair that won't be drawn again
pub to_draw-less : (f : Pair → Pair) → ((x : Pair) → may_draw (f x).condition ≡ 0) → (ps : List Pair) (q p : ℕ) → to_draw (slice_get (change f ps q) p) ≤ to_draw (slice_get ps p)
to_draw-less f none [] q p = omega arith
to_draw-less f none (x ∷ ps) zero zero = let z : may_draw (f x).condition ≡ 0 = none x in omega arith
to_draw-less f none (x ∷ ps) zero (suc p) = omega arith
to_draw-less f none (x ∷ ps) (suc q) zero = omega arith
to_draw-less f none (x ∷ ps) (suc q) (suc p) = to_draw-less f none ps q p

pub ends-append : (ps qs : List Pair) (out : List Out) (h : List Event) → EndsOnce ps out h → EndsOnce (ps ++ qs) out h
ends-append ps qs out h e p =
    let a : ended_by p h + (to_draw (slice_get ps p) + joins p out) ≤ 1 = e p in
    let b : to_draw (slice_get (ps ++ qs) p) ≤ to_draw (slice_get ps p) = to_draw-append ps qs p in
    omega arith

-- an event that ends no pair
pub ends-other : (ps : List Pair) (out : List Out) (h : List Event) (e : Event) → ((p : ℕ) → ending_in (draws_in h) p e.what ≡ 0) → EndsOnce ps out h → EndsOnce ps out (h ++ e ∷ [])
ends-other ps out h e never k p =
    let a : ended_by p h + (to_draw (slice_get ps p) + joins p out) ≤ 1 = k p in
    let c : ended_by p (h ++ e ∷ []) ≡ ended_by p h + ending_in (draws_in h) p e.what = ended-push p h e in
    let z : ending_in (draws_in h) p e.what ≡ 0 = never p in
    omega arith

-- a pair that waits may become anything
pub ends-change : (ps : List Pair) (out : List Out) (h : List Event) (f : Pair → Pair) (q : ℕ) → to_draw (slice_get ps q) ≡ 1 → EndsOnce ps out h → EndsOnce (change f ps q) out h
ends-change ps out h f q open_ k p =
    let a : ended_by p h + (to_draw (slice_get ps p) + joins p out) ≤ 1 = k p in
    let s : to_draw (slice_get (change f ps q) p) ≤ 1 = to_draw-small (slice_get (change f ps q) p) in
    elim (cases_eq q p) [
      | inl e ↦ let o2 : to_draw (slice_get ps p) ≡ 1 = subst (λ n. to_draw (slice_get ps n) ≡ 1) e open_ in omega arith
      | inr ne ↦ let o3 : to_draw (slice_get (change f ps q) p) ≡ to_draw (slice_get ps p) = ap to_draw (get-change_other f ps q p ne) in omega arith
    ]

joins-push : (p : ℕ) (out : List Out) (t : Out) → joins p (out ++ t ∷ []) ≡ joins p out + cond {A = ℕ} (is_join p t.job) 1 0
joins-push p out t = sum_by_push (λ (u : Out). cond (is_join p u.job) 1 0) out t

joins-without : (p n : ℕ) (out : List Out) (t : Out) → out_at n out ≡ Some t → joins p (without n out) + cond {A = ℕ} (is_join p t.job) 1 0 ≡ joins p out
joins-without p n out t at = sum-without (λ (u : Out). cond (is_join p u.job) 1 0) n out t at

-- a task that is no Join goes out
pub ends-out : (ps : List Pair) (out : List Out) (h : List Event) (t : Out) → ((p : ℕ) → is_join p t.job ≡ false) → EndsOnce ps out h → EndsOnce ps (out ++ t ∷ []) h
ends-out ps out h t never k p =
    let a : ended_by p h + (to_draw (slice_get ps p) + joins p out) ≤ 1 = k p in
    let c : joins p (out ++ t ∷ []) ≡ joins p out + cond {A = ℕ} (is_join p t.job) 1 0 = joins-push p out t in
    let z : cond {A = ℕ} (is_join p t.job) 1 0 ≡ 0 = rw (never p) refl in
    omega arith

-- the Join of a pair that waits goes out
pub ends-drawn : (ps : List Pair) (out : List Out) (h : List Event) (f : Pair → Pair) (q n w fr : ℕ) (o : Origin) → to_draw (slice_get ps q) ≡ 1 → to_draw (slice_get (change f ps q) q) ≡ 0
    → EndsOnce ps out h → EndsOnce (change f ps q) (out ++ record { ticket = n; worker = w; job = Join q o; front = fr } ∷ []) h
ends-drawn ps out h f q n w fr o open_ shut k p =
    let t : Out = record { ticket = n; worker = w; job = Join q o; front = fr } in
    let a : ended_by p h + (to_draw (slice_get ps p) + joins p out) ≤ 1 = k p in
    let c : joins p (out ++ t ∷ []) ≡ joins p out + cond {A = ℕ} (q == p) 1 0 = joins-push p out t in
    elim (cases_eq q p) [
      | inl e ↦
          let o2 : to_draw (slice_get ps p) ≡ 1 = subst (λ n. to_draw (slice_get ps n) ≡ 1) e open_ in
          let o3 : to_draw (slice_get (change f ps q) p) ≡ 0 = subst (λ n. to_draw (slice_get (change f ps q) n) ≡ 0) e shut in
          let z : cond {A = ℕ} (q == p) 1 0 ≡ 1 = rw (eq-eqb q p e) refl in
          omega arith
      | inr ne ↦
          let o3 : to_draw (slice_get (change f ps q) p) ≡ to_draw (slice_get ps p) = ap to_draw (get-change_other f ps q p ne) in
          let z : cond {A = ℕ} (q == p) 1 0 ≡ 0 = rw (ne_eqb q p ne) refl in
          omega arith
    ]

-- a task ends that is no Join, or whose pair isn't touched
pub ends-gone : (ps : List Pair) (out : List Out) (h : List Event) (t : Out) → out_at t.ticket out ≡ Some t → EndsOnce ps out h → EndsOnce ps (without t.ticket out) h
ends-gone ps out h t at k p =
    let a : ended_by p h + (to_draw (slice_get ps p) + joins p out) ≤ 1 = k p in
    let c : joins p (without t.ticket out) + cond {A = ℕ} (is_join p t.job) 1 0 ≡ joins p out = joins-without p t.ticket out t at in
    omega arith

-- a task ends by a commit
pub ends-commit : (ps qs : List Pair) (out : List Out) (h : List Event) (t : Out) (e : Event) → ((p : ℕ) → to_draw (slice_get qs p) ≤ to_draw (slice_get ps p)) → out_at t.ticket out ≡ Some t
    → ((p : ℕ) → ending_in (draws_in h) p e.what ≡ cond {A = ℕ} (is_join p t.job) 1 0) → EndsOnce ps out h → EndsOnce qs (without t.ticket out) (h ++ e ∷ [])
ends-commit ps qs out h t e less at is k p =
    let a : ended_by p h + (to_draw (slice_get ps p) + joins p out) ≤ 1 = k p in
    let b : to_draw (slice_get qs p) ≤ to_draw (slice_get ps p) = less p in
    let c : ended_by p (h ++ e ∷ []) ≡ ended_by p h + ending_in (draws_in h) p e.what = ended-push p h e in
    let d : joins p (without t.ticket out) + cond {A = ℕ} (is_join p t.job) 1 0 ≡ joins p out = joins-without p t.ticket out t at in
    let z : ending_in (draws_in h) p e.what ≡ cond {A = ℕ} (is_join p t.job) 1 0 = is p in
    omega arith

-- the Join of a pair is put back
pub ends-back : (ps : List Pair) (out : List Out) (h : List Event) (f : Pair → Pair) (q n w fr : ℕ) (o : Origin) → (let t : Out = record { ticket = n; worker = w; job = Join q o; front = fr } in out_at n out ≡ Some t
    → EndsOnce ps out h → EndsOnce (change f ps q) (without n out) h)
ends-back ps out h f q n w fr o at k p =
    let t : Out = record { ticket = n; worker = w; job = Join q o; front = fr } in
    let a : ended_by p h + (to_draw (slice_get ps p) + joins p out) ≤ 1 = k p in
    let s : to_draw (slice_get (change f ps q) p) ≤ 1 = to_draw-small (slice_get (change f ps q) p) in
    let d : joins p (without n out) + cond {A = ℕ} (q == p) 1 0 ≡ joins p out = joins-without p n out t at in
    elim (cases_eq q p) [
      | inl e ↦ let z : cond {A = ℕ} (q == p) 1 0 ≡ 1 = rw (eq-eqb q p e) refl in omega arith
      | inr ne ↦ let o3 : to_draw (slice_get (change f ps q) p) ≡ to_draw (slice_get ps p) = ap to_draw (get-change_other f ps q p ne) in omega arith
    ]

-- pairs: their numbers

pub same-origin : (f : Pair → Pair) → ((x : Pair) → (f x).origin ≡ x.origin) → (ps : List Pair) (q p : ℕ) → map_option (λ (x : Pair). x.origin) (slice_get (change f ps q) p) ≡ map_option (λ (x : Pair). x.origin) (slice_get ps p)
same-origin f k [] q p = refl
same-origin f k (x ∷ ps) zero zero = ap (λ o. Some o) (k x)
same-origin f k (x ∷ ps) zero (suc p) = refl
same-origin f k (x ∷ ps) (suc q) zero = refl
same-origin f k (x ∷ ps) (suc q) (suc p) = same-origin f k ps q p

pub numbered-change : (ps : List Pair) (ms : List Meeting) (f : Pair → Pair) (q : ℕ) → ((x : Pair) → (f x).origin ≡ x.origin) → Numbered ps ms → Numbered (change f ps q) ms
numbered-change ps ms f q k n = record {
  once = λ p r o a b. n.once p r o (sym (same-origin f k ps q p) ∙ a) (sym (same-origin f k ps q r) ∙ b);
  met = λ p o a. n.met p o (sym (same-origin f k ps q p) ∙ a);
}

-- what is Met stays so
pub numbered-meetings : (ps : List Pair) (ms ns : List Meeting) → ((i : ℕ) → slice_get ms i ≡ Some Met → slice_get ns i ≡ Some Met) → Numbered ps ms → Numbered ps ns
numbered-meetings ps ms ns k n = record { once = n.once; met = λ p o a. k (later_fact o) (n.met p o a) }

pub stays-met : (ms : List Meeting) (f : Meeting → Meeting) (i : ℕ) (m : Meeting) → slice_get ms i ≡ Some m → ((m ≡ Met) → f m ≡ Met) → (j : ℕ) → slice_get ms j ≡ Some Met → slice_get (change f ms i) j ≡ Some Met
stays-met ms f i m at keep j b = elim (cases_eq i j) [
  | inl q ↦
      let b2 : slice_get ms i ≡ Some Met = subst (λ n. slice_get ms n ≡ Some Met) (sym q) b in
      let s : m ≡ Met = cc in
      subst (λ n. slice_get (change f ms i) n ≡ Some Met) q (get-change_same f ms i m at ∙ ap (λ z. Some z) (keep s))
  | inr ne ↦ get-change_other f ms i j ne ∙ b
]

-- a pair that is of no overlap
pub origin-append : (ps : List Pair) (x : Pair) (p : ℕ) (o : Overlap) → (x.origin ≡ OfOverlap o → ⊥) → IsOf (ps ++ x ∷ []) p o → IsOf ps p o
origin-append [] x zero o never e = absurd (never (cc))
origin-append [] x (suc p) o never e = absurd (cc)
origin-append (y ∷ ps) x zero o never e = e
origin-append (y ∷ ps) x (suc p) o never e = origin-append ps x p o never e

pub numbered-append : (ps : List Pair) (ms : List Meeting) (x : Pair) → ((o : Overlap) → x.origin ≡ OfOverlap o → ⊥) → Numbered ps ms → Numbered (ps ++ x ∷ []) ms
numbered-append ps ms x never n = record {
  once = λ p r o a b. n.once p r o (origin-append ps x p o (never o) a) (origin-append ps x r o (never o) b);
  met = λ p o a. n.met p o (origin-append ps x p o (never o) a);
}
