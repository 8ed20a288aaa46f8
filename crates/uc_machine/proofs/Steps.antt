-- What each change keeps.
use Rattle.std.proofs.Common.{◌≡◌, ℕ, ◌+◌, ◌<◌, ◌≤◌, List, [], ◌∷◌, ◌++◌, length, true, false, cond, ◌==◌, Option, Some, None, refl, ap, sym, ◌∙◌, arith, inl, inr, subst, slice_get}
use Rattle.std.proofs.lemmas.Bool.{cases_Bool, cases_eq}
use Rattle.std.proofs.lemmas.List.{append-nil, length_push}
use Rattle.uc_term.specs.Tree.{Tree}
use Rattle.uc_fact.specs.declared.fact.Fact.{Fact}
use Rattle.uc_fact.specs.declared.fact.Origin.{Origin}
use Rattle.uc_fact.specs.declared.fact.Origin.TheVariants.{Revived}
use Rattle.uc_ledger.specs.declared.ledger.State.TheVariants.{Waiting, Out as OutTo, Done, Orphan}
use Rattle.uc_shelf.specs.declared.entry.Entry.TheVariants.{Born, Dies}
use Rattle.uc_shelf.specs.Entries.{born, is_dead}
use Rattle.uc_machine.specs.declared.state.Meeting.{Meeting}
use Rattle.uc_machine.specs.declared.state.Meeting.TheVariants.{Unmet, Visiting, Met}
use Rattle.uc_machine.specs.declared.state.Stage.TheVariants.{Busy}
use Rattle.uc_machine.specs.declared.event.Verdict.{Verdict}
use Rattle.uc_machine.specs.declared.event.Event.{Event}
use Rattle.uc_machine.specs.declared.event.Happening.{Happening}
use Rattle.uc_machine.specs.declared.event.Happening.TheVariants.{DrawGoal, DrawMore, DrawMeet, DrawJoin, CommitLate, Dropped, ReclaimGoal, ReclaimMore, ReclaimMeet, ReclaimJoin, AuditKept, Close}
use Rattle.uc_machine.specs.declared.task.Job.{Job}
use Rattle.uc_machine.specs.declared.task.Job.TheVariants.{Goal, More, Meet, Join}
use Rattle.uc_machine.specs.Lists.{change, Each, map_option}
use Rattle.uc_machine.specs.State.{Opening, State, Pair, Target, Out, is_draw, draws_in, out_at, without}
use Rattle.uc_machine.specs.Effects.{records, closes, ending_of, publishes, dies, kills, turns, hands_out, ends, reclaims, next_ticket, draw_event, meets_unmet, unit_of, one_reclaim, sides_weight, numbers_rise, task_for, drops, accepts, is_met, keeps}
use Rattle.uc_machine.specs.Events.{unit_in, unit_draw, is_unit_draw, is_commit_what, is_reclaim_what, ending_in, draws_pair, drew_pair}
use Rattle.uc_machine.proofs.Kept.{Facts, IsBusy, is_same, Tasks, may_draw, to_draw, is_join, EndsOnce, Numbered, Accounts, Kept, IsKnown}
use Rattle.uc_machine.proofs.Lists.{get-append, get-change_same, get-change_other, Each-map, Each-push, Each-without, Each-at}
use Rattle.uc_machine.proofs.Accounts.{accounts_draw, accounts_commit, accounts_reclaim, accounts_other, accounts_grow}
use Rattle.uc_machine.proofs.Blocks.{facts_born, facts_dies, facts_meeting, apart_push, apart_without, apart_from, is_same-sym, busy-goal, busy-more, busy-meet, busy-join, IsFree, is_apart, busy-wakes, busy-append, busy-dies, to_draw-less, ends-append, ends-other, ends-change, ends-out, ends-drawn, ends-gone, ends-commit, ends-back, numbered-change, numbered-meetings, stays-met, numbered-append}

pub tasks_stay : (ps ps2 : List Pair) (gs gs2 : List Target) (ms ms2 : List Meeting) (out : List Out) → ((w : ℕ) (k : Job) → IsBusy ps gs ms w k → IsBusy ps2 gs2 ms2 w k) → Tasks ps gs ms out → Tasks ps2 gs2 ms2 out
tasks_stay ps ps2 gs gs2 ms ms2 out f a = record { busy = Each-map (λ (t : Out) b. f t.worker t.job b) out a.busy; apart = a.apart }

tasks_draw : (ps ps2 : List Pair) (gs gs2 : List Target) (ms ms2 : List Meeting) (out : List Out) (t : Out) → IsFree ps gs ms t.job
    → ((w : ℕ) (k : Job) → is_same t.job k ≡ false → IsBusy ps gs ms w k → IsBusy ps2 gs2 ms2 w k) → IsBusy ps2 gs2 ms2 t.worker t.job → Tasks ps gs ms out → Tasks ps2 gs2 ms2 (out ++ t ∷ [])
tasks_draw ps ps2 gs gs2 ms ms2 out t free f new a = record {
  busy = Each-push (λ (u : Out). IsBusy ps2 gs2 ms2 u.worker u.job) out t (Each-map (λ (u : Out) (b : IsBusy ps gs ms u.worker u.job). f u.worker u.job (is_same-sym u.job t.job (is_apart ps gs ms t.job free u.worker u.job b)) b) out a.busy) new;
  apart = apart_push out t a.apart (Each-map (λ (u : Out) (b : IsBusy ps gs ms u.worker u.job). is_apart ps gs ms t.job free u.worker u.job b) out a.busy);
}

pub Each-both : {A : Type 0} {P Q R : A → Type 0} → ((x : A) → P x → Q x → R x) → (xs : List A) → Each P xs → Each Q xs → Each R xs
Each-both f [] a b = tt
Each-both f (x ∷ xs) a b = (f x a.0 b.0, Each-both f xs a.1 b.1)

tasks_end : (ps ps2 : List Pair) (gs gs2 : List Target) (ms ms2 : List Meeting) (out : List Out) (t : Out) → out_at t.ticket out ≡ Some t
    → ((w : ℕ) (k : Job) → is_same t.job k ≡ false → IsBusy ps gs ms w k → IsBusy ps2 gs2 ms2 w k) → Tasks ps gs ms out → Tasks ps2 gs2 ms2 (without t.ticket out)
tasks_end ps ps2 gs gs2 ms ms2 out t at f a = record {
  busy = Each-both (λ (u : Out) (b : IsBusy ps gs ms u.worker u.job) (c : is_same t.job u.job ≡ false). f u.worker u.job c b) (without t.ticket out) (Each-without (λ (u : Out). IsBusy ps gs ms u.worker u.job) t.ticket out a.busy) (apart_from t.ticket out t at a.apart);
  apart = apart_without t.ticket out a.apart;
}

free_goal : (ps : List Pair) (gs : List Target) (ms : List Meeting) (g : ℕ) (l r : Tree) (x : Target) → slice_get gs g ≡ Some x → (x.stage ≡ Busy → ⊥) → IsFree ps gs ms (Goal g l r)
free_goal ps gs ms g l r x at not_busy = record { free = λ w b. not_busy (let c : map_option (λ (y : Target). y.stage) (Some x) ≡ Some Busy = rw at at b in cc) }

free_more : (ps : List Pair) (gs : List Target) (ms : List Meeting) (g : ℕ) (l r : Tree) (x : Target) → slice_get gs g ≡ Some x → (x.stage ≡ Busy → ⊥) → IsFree ps gs ms (More g l r)
free_more ps gs ms g l r x at not_busy = record { free = λ w b. not_busy (let c : map_option (λ (y : Target). y.stage) (Some x) ≡ Some Busy = rw at at b in cc) }

free_meet : (ps : List Pair) (gs : List Target) (ms : List Meeting) (i : ℕ) (x : Meeting) → slice_get ms i ≡ Some x → (x ≡ Visiting → ⊥) → IsFree ps gs ms (Meet i)
free_meet ps gs ms i x at not_busy = record { free = λ w b. not_busy (cc) }

free_join : (ps : List Pair) (gs : List Target) (ms : List Meeting) (p : ℕ) (a : Origin) (x : Pair) → slice_get ps p ≡ Some x → ((w : ℕ) → x.condition ≡ OutTo w → ⊥) → IsFree ps gs ms (Join p a)
free_join ps gs ms p a x at not_busy = record { free = λ w b. not_busy w (let c : map_option (λ (y : Pair). y.condition) (Some x) ≡ Some (OutTo w) = rw at at b in cc) }

get-map_same : {A B : Type 0} (f : A → B) (h : A → A) (xs : List A) (n : ℕ) (x : A) (b : B) → slice_get xs n ≡ Some x → f (h x) ≡ b → map_option f (slice_get (change h xs n) n) ≡ Some b
get-map_same f h xs n x b at e = ap (map_option f) (get-change_same h xs n x at) ∙ ap (λ z. Some z) e

-- a task is drawn, by its kind

pub kept_goal : (o : Opening) (s : State) (w g : ℕ) (l r : Tree) (x : Target) → Kept o s → slice_get s.goals g ≡ Some x → (x.stage ≡ Busy → ⊥) → Kept o (hands_out w (Goal g l r) s)
kept_goal o s w g l r x k at free = let a : s.counted + s.reserved ≤ o.budget = k.accounts.within in record {
  accounts = accounts_draw o (length s.entries) s.out s.counted s.reserved s.numbers s.history w (Goal g l r) k.accounts (omega arith);
  facts = k.facts;
  tasks = tasks_draw s.pairs s.pairs s.goals _ s.meetings s.meetings s.out _ (free_goal s.pairs s.goals s.meetings g l r x at free)
      (λ v j c b. busy-goal s.pairs s.goals s.meetings _ g l r v j c b) (get-map_same (λ (y : Target). y.stage) (λ (y : Target). record y { stage = Busy }) s.goals g x Busy at refl) k.tasks;
  ends_once = ends-other s.pairs (s.out ++ task_for w (Goal g l r) s ∷ []) s.history (record { worker = w; what = DrawGoal g (length s.entries) }) (λ p. refl) (ends-out s.pairs s.out s.history (task_for w (Goal g l r) s) (λ p. refl) k.ends_once);
  numbered = k.numbered;
}

pub kept_more : (o : Opening) (s : State) (w g : ℕ) (l r : Tree) (x : Target) → Kept o s → slice_get s.goals g ≡ Some x → (x.stage ≡ Busy → ⊥) → s.counted + s.reserved < o.budget → Kept o (hands_out w (More g l r) s)
kept_more o s w g l r x k at free room = record {
  accounts = accounts_draw o (length s.entries) s.out s.counted s.reserved s.numbers s.history w (More g l r) k.accounts (omega arith);
  facts = k.facts;
  tasks = tasks_draw s.pairs s.pairs s.goals _ s.meetings s.meetings s.out _ (free_more s.pairs s.goals s.meetings g l r x at free)
      (λ v j c b. busy-more s.pairs s.goals s.meetings _ g l r v j c b) (get-map_same (λ (y : Target). y.stage) (λ (y : Target). record y { stage = Busy }) s.goals g x Busy at refl) k.tasks;
  ends_once = ends-other s.pairs (s.out ++ task_for w (More g l r) s ∷ []) s.history (record { worker = w; what = DrawMore g (length s.entries) }) (λ p. refl) (ends-out s.pairs s.out s.history (task_for w (More g l r) s) (λ p. refl) k.ends_once);
  numbered = k.numbered;
}

pub kept_meet : (o : Opening) (s : State) (w i : ℕ) → Kept o s → slice_get s.meetings i ≡ Some Unmet → Kept o (hands_out w (Meet i) s)
kept_meet o s w i k at = let a : s.counted + s.reserved ≤ o.budget = k.accounts.within in record {
  accounts = accounts_draw o (length s.entries) s.out s.counted s.reserved s.numbers s.history w (Meet i) k.accounts (omega arith);
  facts = facts_meeting s.entries s.meetings i _ k.facts;
  tasks = tasks_draw s.pairs s.pairs s.goals s.goals s.meetings _ s.out _ (free_meet s.pairs s.goals s.meetings i Unmet at (λ q. cc))
      (λ v j c b. busy-meet s.pairs s.goals s.meetings _ i v j c b) (get-change_same (λ (m : Meeting). Visiting) s.meetings i Unmet at) k.tasks;
  ends_once = ends-other s.pairs (s.out ++ task_for w (Meet i) s ∷ []) s.history (record { worker = w; what = DrawMeet i (length s.entries) }) (λ p. refl) (ends-out s.pairs s.out s.history (task_for w (Meet i) s) (λ p. refl) k.ends_once);
  numbered = numbered-meetings s.pairs s.meetings _ (stays-met s.meetings (λ (m : Meeting). Visiting) i Unmet at (λ q. cc)) k.numbered;
}

pub kept_join : (o : Opening) (s : State) (w p : ℕ) (a : Origin) (x : Pair) → Kept o s → slice_get s.pairs p ≡ Some x → x.condition ≡ Waiting → s.counted + s.reserved < o.budget → Kept o (hands_out w (Join p a) s)
kept_join o s w p a x k at waits room = record {
  accounts = accounts_draw o (length s.entries) s.out s.counted s.reserved s.numbers s.history w (Join p a) k.accounts (omega arith);
  facts = k.facts;
  tasks = tasks_draw s.pairs _ s.goals s.goals s.meetings s.meetings s.out _ (free_join s.pairs s.goals s.meetings p a x at (λ v q. cc))
      (λ v j c b. busy-join s.pairs s.goals s.meetings _ p a v j c b) (get-map_same (λ (y : Pair). y.condition) (λ (y : Pair). record y { condition = OutTo w }) s.pairs p x (OutTo w) at refl) k.tasks;
  ends_once = ends-other (change (λ (y : Pair). record y { condition = OutTo w }) s.pairs p) (s.out ++ task_for w (Join p a) s ∷ []) s.history (record { worker = w; what = DrawJoin p (length s.entries) }) (λ q. refl)
      (ends-drawn s.pairs s.out s.history (λ (y : Pair). record y { condition = OutTo w }) p (next_ticket s) w (length s.entries) a (ap to_draw at ∙ ap may_draw waits) (ap to_draw (get-change_same (λ (y : Pair). record y { condition = OutTo w }) s.pairs p x at)) k.ends_once);
  numbered = numbered-change s.pairs s.meetings _ p (λ y. refl) k.numbered;
}

-- a drop: the pair waits, so it is of no task
pub kept_drop : (o : Opening) (s : State) (w p : ℕ) (x : Pair) → Kept o s → slice_get s.pairs p ≡ Some x → x.condition ≡ Waiting → Kept o (drops w p s)
kept_drop o s w p x k at waits =
    let a : s.counted + s.reserved ≤ o.budget = k.accounts.within in
    let c : s.counted + 0 ≡ s.counted = omega arith in
    let free : IsFree s.pairs s.goals s.meetings (Join p x.origin) = free_join s.pairs s.goals s.meetings p x.origin x at (λ v e. cc) in
    record {
      accounts = subst (λ n. Accounts o (length s.entries) s.out n s.reserved s.numbers (s.history ++ record { worker = w; what = Dropped p } ∷ [])) c
          (accounts_other o (length s.entries) (length s.entries) s.out s.counted s.reserved s.numbers s.history _ 0 k.accounts (omega arith) refl refl refl refl (omega arith));
      facts = k.facts;
      tasks = tasks_stay s.pairs _ s.goals s.goals s.meetings s.meetings s.out (λ v j b. busy-join s.pairs s.goals s.meetings _ p x.origin v j (is_same-sym j (Join p x.origin) (is_apart s.pairs s.goals s.meetings (Join p x.origin) free v j b)) b) k.tasks;
      ends_once = ends-other (change (λ (y : Pair). record y { condition = Orphan }) s.pairs p) s.out s.history (record { worker = w; what = Dropped p }) (λ n. refl) (ends-change s.pairs s.out s.history (λ (y : Pair). record y { condition = Orphan }) p (ap to_draw at ∙ ap may_draw waits) k.ends_once);
      numbered = numbered-change s.pairs s.meetings _ p (λ y. refl) k.numbered;
    }

pub kept_close : (o : Opening) (s : State) (w : ℕ) (v : Verdict) → Kept o s → Kept o (closes w v s)
kept_close o s w v k =
    let a : s.counted + s.reserved ≤ o.budget = k.accounts.within in
    let c : s.counted + 0 ≡ s.counted = omega arith in
    record {
      accounts = subst (λ n. Accounts o (length s.entries) s.out n s.reserved s.numbers (s.history ++ record { worker = w; what = Close (ending_of v) } ∷ [])) c
          (accounts_other o (length s.entries) (length s.entries) s.out s.counted s.reserved s.numbers s.history _ 0 k.accounts (omega arith) refl refl refl refl (omega arith));
      facts = k.facts;
      tasks = k.tasks;
      ends_once = ends-other s.pairs s.out s.history (record { worker = w; what = Close (ending_of v) }) (λ p. refl) k.ends_once;
      numbered = k.numbered;
    }

pub kept_publish : (o : Opening) (s : State) (f : Fact) → Kept o s → Kept o (publishes f s)
kept_publish o s f k =
    let l : length (s.entries ++ Born f ∷ []) ≡ length s.entries + 1 = length_push s.entries (Born f) in
    record {
      accounts = accounts_grow o (length s.entries) _ s.out s.counted s.reserved s.numbers s.history k.accounts (omega arith);
      facts = facts_born s.entries s.meetings f k.facts;
      tasks = tasks_stay s.pairs s.pairs s.goals _ s.meetings _ s.out (λ v j b. busy-wakes s.pairs s.goals _ v j (subst (λ ps. IsBusy ps s.goals (s.meetings ++ Unmet ∷ []) v j) (append-nil s.pairs) (busy-append s.pairs [] s.goals s.meetings (Unmet ∷ []) v j b))) k.tasks;
      ends_once = k.ends_once;
      numbered = numbered-meetings s.pairs s.meetings _ (λ i e. get-append s.meetings (Unmet ∷ []) i Met e) k.numbered;
    }

pub kept_kills : (o : Opening) (s : State) (killer i : ℕ) → i < length (born s.entries) → Kept o s → Kept o (kills killer i s)
kept_kills o s killer i lt k = elim (cases_Bool (is_dead s.entries i)) as (λ _. Kept o (cond (is_dead s.entries i) s (dies killer i s))) [
  | inl e ↦ rw e k
  | inr e ↦ rw e (dying e)
]
  where
    dying : is_dead s.entries i ≡ false → Kept o (dies killer i s)
    dying e =
        let l : length (s.entries ++ Dies i killer ∷ []) ≡ length s.entries + 1 = length_push s.entries (Dies i killer) in
        record {
          accounts = accounts_grow o (length s.entries) _ s.out s.counted s.reserved s.numbers s.history k.accounts (omega arith);
          facts = facts_dies s.entries s.meetings i killer meets_unmet k.facts lt e;
          tasks = tasks_stay s.pairs _ s.goals _ s.meetings _ s.out (λ v j b. busy-wakes _ s.goals _ v j (busy-dies s.pairs _ s.goals s.meetings i v j b)) k.tasks;
          ends_once = ends-append s.pairs (record { origin = Revived i; weight = sides_weight (slice_get (born s.entries) i); condition = Waiting } ∷ []) s.out s.history k.ends_once;
          numbered = numbered-meetings _ s.meetings _ (stays i) (numbered-append s.pairs s.meetings _ (λ p q. cc) k.numbered);
        }
      where
        stays : (i j : ℕ) → slice_get s.meetings j ≡ Some Met → slice_get (change meets_unmet s.meetings i) j ≡ Some Met
        stays i j b = elim (cases_eq i j) [
          | inl q ↦ subst (λ n. slice_get (change meets_unmet s.meetings i) n ≡ Some Met) q (get-change_same meets_unmet s.meetings i Met (subst (λ n. slice_get s.meetings n ≡ Some Met) (sym q) b))
          | inr ne ↦ get-change_other meets_unmet s.meetings i j ne ∙ b
        ]

-- what an event of a task's end says of itself
pub record IsCommitOf (ds : List Event) (t : Out) (h : Happening) : Type 0 where
  pub no_draw : is_draw (record { worker = t.worker; what = h }) ≡ false
  pub commit : is_commit_what h ≡ true
  pub no_reclaim : is_reclaim_what h ≡ false
  pub unit : unit_in ds h ≡ unit_of t.job

-- a task ends by a commit, and its goal, fact or pair changes
pub kept_accept : (o : Opening) (s : State) (t : Out) (h : Happening) (ps : List Pair) (gs : List Target) (ms : List Meeting) → Kept o s → out_at t.ticket s.out ≡ Some t
    → IsCommitOf (draws_in s.history) t h
    → ((v : ℕ) (j : Job) → is_same t.job j ≡ false → IsBusy s.pairs s.goals s.meetings v j → IsBusy ps gs ms v j)
    → Facts s.entries ms → EndsOnce ps (without t.ticket s.out) (s.history ++ record { worker = t.worker; what = h } ∷ []) → Numbered ps ms
    → Kept o (record (accepts t h s) { pairs = ps; goals = gs; meetings = ms })
kept_accept o s t h ps gs ms k at is stay facts ends_ numbered = record {
  accounts = accounts_commit o (length s.entries) (length s.entries) s.out s.counted s.reserved s.numbers s.history t (record { worker = t.worker; what = h }) k.accounts (omega arith) at refl is.no_draw is.commit is.no_reclaim is.unit;
  facts = facts;
  tasks = tasks_end s.pairs ps s.goals gs s.meetings ms s.out t at stay k.tasks;
  ends_once = ends_;
  numbered = numbered;
}

pub kept_late : (o : Opening) (s : State) (t : Out) → Kept o s → out_at t.ticket s.out ≡ Some t → Kept o (accepts t (CommitLate t.ticket) s)
kept_late o s t k at = kept_accept o s t (CommitLate t.ticket) s.pairs s.goals s.meetings k at
    (record { no_draw = refl; commit = refl; no_reclaim = refl; unit = ap unit_draw (Each-at (IsKnown (length s.entries) s.history) t.ticket s.out t at k.accounts.known).drawn ∙ unit_of_draw t.job t.front })
    (λ v j c b. b) k.facts
    (ends-commit s.pairs s.pairs s.out s.history t (record { worker = t.worker; what = CommitLate t.ticket }) (λ p. omega arith) at (λ p. ap (drew_pair p) (Each-at (IsKnown (length s.entries) s.history) t.ticket s.out t at k.accounts.known).drawn ∙ pair_of_draw p t.job t.front) k.ends_once) k.numbered
  where
    pair_of_draw : (p : ℕ) (j : Job) (n : ℕ) → cond {A = ℕ} (draws_pair p (draw_event j n)) 1 0 ≡ cond {A = ℕ} (is_join p j) 1 0
    pair_of_draw p (Goal g l r) n = refl
    pair_of_draw p (More g l r) n = refl
    pair_of_draw p (Meet i) n = refl
    pair_of_draw p (Join q a) n = refl

    unit_of_draw : (j : Job) (n : ℕ) → cond {A = ℕ} (is_unit_draw (draw_event j n)) 1 0 ≡ unit_of j
    unit_of_draw (Goal g l r) n = refl
    unit_of_draw (More g l r) n = refl
    unit_of_draw (Meet i) n = refl
    unit_of_draw (Join p a) n = refl

pub at_task : (o : Opening) (s : State) (t : Out) → Kept o s → out_at t.ticket s.out ≡ Some t → IsBusy s.pairs s.goals s.meetings t.worker t.job
at_task o s t k at = Each-at (λ (u : Out). IsBusy s.pairs s.goals s.meetings u.worker u.job) t.ticket s.out t at k.tasks.busy

-- a part of an item
pub record HasItem {A B : Type 0} (f : A → B) (x : Option A) (b : B) : Type 0 where
  pub item_ : A
  pub is : x ≡ Some item_
  pub part : f item_ ≡ b

pub has_item : {A B : Type 0} (f : A → B) (x : Option A) (b : B) → map_option f x ≡ Some b → HasItem f x b
has_item f None b e = absurd (cc)
has_item f (Some x) b e = record { item_ = x; is = refl; part = (cc) }

-- the pair of a Join that ends is Done
pub kept_done : (o : Opening) (s : State) (n w p f : ℕ) (a : Origin) (h : Happening) → (let t : Out = record { ticket = n; worker = w; job = Join p a; front = f } in Kept o s → out_at n s.out ≡ Some t
    → IsCommitOf (draws_in s.history) t h → ((q : ℕ) → ending_in (draws_in s.history) q h ≡ cond {A = ℕ} (p == q) 1 0) → Kept o (turns Done p (accepts t h s)))
kept_done o s n w p f a h k at is ends_ =
    let t : Out = record { ticket = n; worker = w; job = Join p a; front = f } in
    kept_accept o s t h _ s.goals s.meetings k at is (λ v j c b. busy-join s.pairs s.goals s.meetings _ p a v j c b) k.facts
    (ends-commit s.pairs (change (λ (y : Pair). record y { condition = Done }) s.pairs p) s.out s.history t (record { worker = w; what = h }) (to_draw-less (λ (y : Pair). record y { condition = Done }) (λ y. refl) s.pairs p) at ends_ k.ends_once)
    (numbered-change s.pairs s.meetings _ p (λ y. refl) k.numbered)

-- a fact's meeting that ends is Met
pub kept_met : (o : Opening) (s : State) (n w i f : ℕ) (h : Happening) → (let t : Out = record { ticket = n; worker = w; job = Meet i; front = f } in Kept o s → out_at n s.out ≡ Some t
    → IsCommitOf (draws_in s.history) t h → ((q : ℕ) → ending_in (draws_in s.history) q h ≡ 0) → Kept o (is_met i (accepts t h s)))
kept_met o s n w i f h k at is ends_ =
    let t : Out = record { ticket = n; worker = w; job = Meet i; front = f } in
    kept_accept o s t h s.pairs s.goals _ k at is (λ v j c b. busy-meet s.pairs s.goals s.meetings _ i v j c b) (facts_meeting s.entries s.meetings i _ k.facts)
    (ends-other s.pairs (without n s.out) s.history (record { worker = w; what = h }) ends_ (ends-gone s.pairs s.out s.history t at k.ends_once))
    (numbered-meetings s.pairs s.meetings _ (stays-met s.meetings (λ (m : Meeting). Met) i Visiting (at_task o s t k at) (λ q. refl)) k.numbered)

-- a goal whose task ends
pub kept_ends : (o : Opening) (s : State) (n w f : ℕ) (j : Job) (gs : List Target) (h : Happening) → (let t : Out = record { ticket = n; worker = w; job = j; front = f } in Kept o s → out_at n s.out ≡ Some t
    → IsCommitOf (draws_in s.history) t h → ((q : ℕ) → ending_in (draws_in s.history) q h ≡ 0) → ((v : ℕ) (i : Job) → is_same j i ≡ false → IsBusy s.pairs s.goals s.meetings v i → IsBusy s.pairs gs s.meetings v i)
    → Kept o (record (accepts t h s) { goals = gs }))
kept_ends o s n w f j gs h k at is ends_ stay =
    let t : Out = record { ticket = n; worker = w; job = j; front = f } in
    kept_accept o s t h s.pairs gs s.meetings k at is stay k.facts (ends-other s.pairs (without n s.out) s.history (record { worker = w; what = h }) ends_ (ends-gone s.pairs s.out s.history t at k.ends_once)) k.numbered

-- a task is put back
kept_back : (o : Opening) (s : State) (t : Out) (ps : List Pair) (gs : List Target) (ms : List Meeting) → Kept o s → out_at t.ticket s.out ≡ Some t
    → ((v : ℕ) (j : Job) → is_same t.job j ≡ false → IsBusy s.pairs s.goals s.meetings v j → IsBusy ps gs ms v j)
    → Facts s.entries ms → EndsOnce ps (without t.ticket s.out) s.history → Numbered ps ms → (h : Happening)
    → is_draw (record { worker = t.worker; what = h }) ≡ false → is_commit_what h ≡ false → is_reclaim_what h ≡ true → unit_in (draws_in s.history) h ≡ 0 → ((q : ℕ) → ending_in (draws_in s.history) q h ≡ 0)
    → Kept o (records t.worker h (numbers_rise one_reclaim t.worker (record (ends t s) { pairs = ps; goals = gs; meetings = ms })))
kept_back o s t ps gs ms k at stay facts ends_ numbered h nd nc ir nu never = record {
  accounts = accounts_reclaim o (length s.entries) s.out s.counted s.reserved s.numbers s.history t (record { worker = t.worker; what = h }) k.accounts at refl nd nc ir nu;
  facts = facts;
  tasks = tasks_end s.pairs ps s.goals gs s.meetings ms s.out t at stay k.tasks;
  ends_once = ends-other ps (without t.ticket s.out) s.history (record { worker = t.worker; what = h }) never ends_;
  numbered = numbered;
}

kept_restored : (o : Opening) (s : State) (n w f : ℕ) (j : Job) → (let t : Out = record { ticket = n; worker = w; job = j; front = f } in Kept o s → out_at n s.out ≡ Some t → Kept o (reclaims t s))
kept_restored o s n w f (Goal g l r) k at = kept_back o s (record { ticket = n; worker = w; job = Goal g l r; front = f }) s.pairs _ s.meetings k at (λ v j c b. busy-goal s.pairs s.goals s.meetings _ g l r v j c b) k.facts (ends-gone s.pairs s.out s.history (record { ticket = n; worker = w; job = Goal g l r; front = f }) at k.ends_once) k.numbered (ReclaimGoal g) refl refl refl refl (λ q. refl)
kept_restored o s n w f (More g l r) k at = kept_back o s (record { ticket = n; worker = w; job = More g l r; front = f }) s.pairs _ s.meetings k at (λ v j c b. busy-more s.pairs s.goals s.meetings _ g l r v j c b) k.facts (ends-gone s.pairs s.out s.history (record { ticket = n; worker = w; job = More g l r; front = f }) at k.ends_once) k.numbered (ReclaimMore g) refl refl refl refl (λ q. refl)
kept_restored o s n w f (Meet i) k at =
    let t : Out = record { ticket = n; worker = w; job = Meet i; front = f } in
    kept_back o s t s.pairs s.goals _ k at (λ v j c b. busy-meet s.pairs s.goals s.meetings _ i v j c b) (facts_meeting s.entries s.meetings i _ k.facts) (ends-gone s.pairs s.out s.history t at k.ends_once)
    (numbered-meetings s.pairs s.meetings _ (stays-met s.meetings _ i Visiting (at_task o s t k at) (λ q. cc)) k.numbered) (ReclaimMeet i) refl refl refl refl (λ q. refl)
kept_restored o s n w f (Join p a) k at =
    let t : Out = record { ticket = n; worker = w; job = Join p a; front = f } in
    kept_back o s t _ s.goals s.meetings k at (λ v j c b. busy-join s.pairs s.goals s.meetings _ p a v j c b) k.facts
    (ends-back s.pairs s.out s.history (λ (y : Pair). record y { condition = Waiting }) p n w f a at k.ends_once) (numbered-change s.pairs s.meetings _ p (λ y. refl) k.numbered) (ReclaimJoin p) refl refl refl refl (λ q. refl)

pub kept_reclaim : (o : Opening) (s : State) (t : Out) → Kept o s → out_at t.ticket s.out ≡ Some t → Kept o (reclaims t s)
kept_reclaim o s t k at = kept_restored o s t.ticket t.worker t.front t.job k at

-- an audit that keeps a fact
pub kept_audit : (o : Opening) (s : State) (f : Fact) → Kept o s → s.counted + s.reserved < o.budget → Kept o (keeps f (AuditKept (length (born s.entries))) s)
kept_audit o s f k room =
    let p : Kept o (publishes f s) = kept_publish o s f k in
    record {
      accounts = accounts_other o (length (s.entries ++ Born f ∷ [])) (length (s.entries ++ Born f ∷ [])) s.out s.counted s.reserved s.numbers s.history _ 1 p.accounts (omega arith) refl refl refl refl (omega arith);
      facts = p.facts;
      tasks = p.tasks;
      ends_once = ends-other s.pairs s.out s.history (record { worker = 0; what = AuditKept (length (born s.entries)) }) (λ q. refl) p.ends_once;
      numbered = p.numbered;
    }
