-- In every state of a run no meeting has lost an overlap.
use Rattle.std.proofs.Common.{◌≡◌, ℕ, zero, suc, ◌+◌, ◌<◌, ◌≤◌, List, [], ◌∷◌, ◌++◌, length, Bool, true, false, cond, ◌==◌, Some, None, refl, ap, sym, ◌∙◌, arith, inl, inr, append_assoc, subst, map, take, drop, slice_get}
use Rattle.std.specs.Prelude.{◌||◌, ◌⊎◌, not, filter}
use Rattle.std.proofs.lemmas.Bool.{cases_Bool, eq-eqb, cases_eq, cases_order, false≢true, or_parts}
use Rattle.std.proofs.lemmas.List.{take-append-drop}
use Rattle.uc_term.specs.declared.equation.Equation.{Equation}
use Rattle.uc_term.proofs.Gets.{map-get, get_pushed}
use Rattle.uc_order.specs.Laws.{Meaning}
use Rattle.uc_order.specs.Members.{In, in_front, in_rest}
use Rattle.uc_fact.specs.declared.fact.Fact.{Fact}
use Rattle.uc_fact.specs.declared.fact.Overlap.{Overlap}
use Rattle.uc_fact.specs.declared.fact.Origin.TheVariants.{Overlap as OfOverlap}
use Rattle.uc_fact.specs.Live.{Live, numbered_from, equation_of}
use Rattle.uc_pair.specs.declared.formed.Formed.{Formed}
use Rattle.uc_pair.specs.Listing.{AreOverlaps}
use Rattle.uc_ledger.specs.declared.ledger.State.TheVariants.{Waiting, Out as OutTo, Done, Orphan}
use Rattle.uc_shelf.specs.declared.entry.Entry.{Entry}
use Rattle.uc_shelf.specs.declared.entry.Entry.TheVariants.{Born, Dies}
use Rattle.uc_shelf.specs.Entries.{born, is_dead, equations, live}
use Rattle.uc_machine.specs.declared.state.Meeting.{Meeting}
use Rattle.uc_machine.specs.declared.state.Meeting.TheVariants.{Unmet, Visiting, Met}
use Rattle.uc_machine.specs.declared.event.Verdict.{Verdict}
use Rattle.uc_machine.specs.declared.event.GoalEnd.{GoalEnd}
use Rattle.uc_machine.specs.declared.event.Happening.{Happening}
use Rattle.uc_machine.specs.declared.event.Happening.TheVariants.{CommitGoal, CommitMore, CommitMeet}
use Rattle.uc_machine.specs.declared.task.Finding.{Finding}
use Rattle.uc_machine.specs.declared.task.Finding.TheVariants.{Met as Visited}
use Rattle.uc_machine.specs.declared.task.Job.{Job}
use Rattle.uc_machine.specs.declared.task.Job.TheVariants.{Goal, More, Meet, Join}
use Rattle.uc_machine.specs.declared.task.Outcome.{Outcome}
use Rattle.uc_fact.specs.declared.chain.Chain.{Chain}
use Rattle.uc_fact.specs.declared.fact.Stop.{Stop}
use Rattle.uc_machine.specs.Commits.{GoalEnds, ends_meet, ends_differ, Meets, within_limit, past_limit, newly_waiting, stays, Commits, is_late, goal_ends, more_ends, pair_joins, fact_is_kept, fact_is_stale, fact_is_dead, fact_meets}
use Rattle.uc_machine.specs.Draws.{Reply, Draws, verdict_stands, goal_is_due, fact_is_unmet, orphan_is_dropped, goal_is_continued, pair_is_drawn, budget_is_out, budget_is_spent, all_is_out, all_is_done}
use Rattle.uc_machine.specs.Effects.{meets_unmet, kills, visits, drops, accepts, is_met, pair_by, reclaims}
use Rattle.uc_machine.specs.Lists.{change, each, Each, map_option}
use Rattle.uc_machine.specs.Promises.{Grew, HasNumber, BothAreNumbered, MeetingsAreWhole}
use Rattle.uc_machine.specs.Results.{AreMeetings, with_itself, with_earlier, not_with_later, IsResult, goal_comes_to, more_comes_to, pair_is_joined, pair_is_kept, fact_is_stale as comes_stale, fact_meets as comes_to_meet}
use Rattle.uc_machine.specs.Runs.{Starts, axioms_wait, too_many_axioms, AuditReply, Audits, is_closed, is_spent, is_kept, Closes, converges, has_large, has_stuck, Reaches, starts, draws_on, commits_on, reclaims_on, recalls_on, audits_on, closes_on}
use Rattle.uc_machine.specs.State.{Opening, State, Pair, Out}
use Rattle.uc_machine.proofs.Blocks.{born-append, born-dies, option-append, same-origin}
use Rattle.uc_machine.proofs.Grows.{each_grew}
use Rattle.uc_machine.proofs.Lists.{get-append, below, get-changed, Each-map, Each-front, Each-behind}
use Rattle.uc_machine.proofs.Runs.{kept_reaches}

-- who is dead

dead_more : (es fs : List Entry) (n : ℕ) → is_dead (es ++ fs) n ≡ false → is_dead es n ≡ false
dead_more [] fs n h = refl
dead_more (Born f ∷ es) fs n h = dead_more es fs n h
dead_more (Dies f k ∷ es) fs n h = let p = or_parts (f == n) (is_dead (es ++ fs) n) h in rw p.0 (dead_more es fs n p.1)

dead_last : (es : List Entry) (i k : ℕ) → is_dead (es ++ Dies i k ∷ []) i ≡ true
dead_last [] i k = rw (eq-eqb i i refl) refl
dead_last (Born f ∷ es) i k = dead_last es i k
dead_last (Dies f c ∷ es) i k = elim (cases_Bool (f == i)) as (λ _. ((f == i) || is_dead (es ++ Dies i k ∷ []) i) ≡ true) [
  | inl b ↦ rw b refl
  | inr b ↦ rw b (dead_last es i k)
]

not_last : (es : List Entry) (i k n : ℕ) → is_dead (es ++ Dies i k ∷ []) n ≡ false → i ≡ n → ⊥
not_last es i k n h e = false≢true (sym h ∙ subst (λ x. is_dead (es ++ Dies x k ∷ []) n ≡ true) (sym e) (dead_last es n k))

dead_born : (es : List Entry) (f : Fact) (n : ℕ) → is_dead (es ++ Born f ∷ []) n ≡ is_dead es n
dead_born [] f n = refl
dead_born (Born g ∷ es) f n = dead_born es f n
dead_born (Dies g k ∷ es) f n = ap (λ b. (g == n) || b) (dead_born es f n)

kills_dead : (k i : ℕ) (s : State) → is_dead ((kills k i s).entries) i ≡ true
kills_dead k i s = elim (cases_Bool (is_dead s.entries i)) as (λ _. is_dead ((kills k i s).entries) i ≡ true) [
  | inl e ↦ rw e e
  | inr e ↦ rw e (dead_last s.entries i k)
]

-- a fact that is born and not dead lives

in_filter : (p : Live → Bool) (xs : List Live) (x : Live) → In xs x → p x ≡ true → In (filter p xs) x
in_filter p [] x i h = elim i [ ]
in_filter p (y ∷ xs) _ in_front h = rw h in_front
in_filter p (y ∷ xs) x (in_rest i) h = elim (cases_Bool (p y)) as (λ _. In (filter p (y ∷ xs)) x) [
  | inl b ↦ rw b (in_rest (in_filter p xs x i h))
  | inr b ↦ rw b (in_filter p xs x i h)
]

in_numbered : (es : List Equation) (n k m : ℕ) (e : Equation) → slice_get es k ≡ Some e → m ≡ n + k → In (numbered_from n es) (record { number = m; equation = e })
in_numbered [] n k m e h q = absurd (cc)
in_numbered (x ∷ es) n zero m e h q =
    let same : x ≡ e = cc in
    let here : n ≡ m = omega arith in
    subst (λ (y : Equation). In (numbered_from n (x ∷ es)) (record { number = m; equation = y })) same (subst (λ z. In (numbered_from n (x ∷ es)) (record { number = z; equation = x })) here in_front)
in_numbered (x ∷ es) n (suc k) m e h q = in_rest (in_numbered es (n + 1) k m e h (omega arith))

in_live : (es : List Entry) (j : ℕ) (a : Fact) → slice_get (born es) j ≡ Some a → is_dead es j ≡ false → In (live es) (record { number = j; equation = equation_of a })
in_live es j a at alive = in_filter (λ (f : Live). not (is_dead es f.number)) (numbered_from 0 (equations es)) (record { number = j; equation = equation_of a }) (in_numbered (equations es) 0 j j (equation_of a) (map-get equation_of (born es) j a at) (omega arith)) (rw alive refl)

-- numbers stay

number_more : (ps qs : List Pair) (o : Overlap) → HasNumber ps o → HasNumber (ps ++ qs) o
number_more ps qs o h = record { number = h.number; is = option-append (λ (x : Pair). x.origin) ps qs h.number (OfOverlap o) h.is }

number_changed : (f : Pair → Pair) → ((x : Pair) → (f x).origin ≡ x.origin) → (ps : List Pair) (q : ℕ) (o : Overlap) → HasNumber ps o → HasNumber (change f ps q) o
number_changed f keeps ps q o h = record { number = h.number; is = same-origin f keeps ps q h.number ∙ h.is }

get_middle : (ps : List Pair) (x : Pair) (qs : List Pair) → slice_get (ps ++ x ∷ qs) (length ps) ≡ Some x
get_middle [] x qs = refl
get_middle (y ∷ ps) x qs = get_middle ps x qs

forms_number : (es : List Entry) (fs : List Formed) (ps : List Pair) → Each (λ (g : Formed). HasNumber (ps ++ map (pair_by es) fs) g.overlap) fs
forms_number es [] ps = tt
forms_number es (g ∷ gs) ps = (
  record { number = length ps; is = ap (map_option (λ (x : Pair). x.origin)) (get_middle ps (pair_by es g) (map (pair_by es) gs)) },
  subst (λ (qs : List Pair). Each (λ (h : Formed). HasNumber qs h.overlap) gs) (append_assoc ps (pair_by es g ∷ []) (map (pair_by es) gs)) (forms_number es gs (ps ++ pair_by es g ∷ [])),
)

module _ (m : Meaning) where
  both_by : (ps qs : List Pair) (j : ℕ) (a : Equation) (i : ℕ) (b : Equation) → ((o : Overlap) → HasNumber ps o → HasNumber qs o) → BothAreNumbered m ps j a i b → BothAreNumbered m qs j a i b
  both_by ps qs j a i b f h = record {
    inside = record { overlaps = h.inside.overlaps; are = h.inside.are; numbered = Each-map (λ (g : Formed) n. f g.overlap n) h.inside.overlaps h.inside.numbered };
    round = record { overlaps = h.round.overlaps; are = h.round.are; numbered = Each-map (λ (g : Formed) n. f g.overlap n) h.round.overlaps h.round.numbered };
  }

  -- the meetings of these facts lost no overlap
  abbrev WholeFor : (ℕ → Type 0) → List Entry → List Meeting → List Pair → Type 0
  WholeFor P es ms ps = (j i : ℕ) (a b : Fact) → P i → j ≤ i → slice_get (born es) j ≡ Some a → slice_get (born es) i ≡ Some b → is_dead es j ≡ false → is_dead es i ≡ false → slice_get ms i ≡ Some Met
      → BothAreNumbered m ps j (equation_of a) i (equation_of b)

  abbrev Any : ℕ → Type 0
  Any n = Unit {0}

  abbrev But : ℕ → ℕ → Type 0
  But i n = n ≡ i → ⊥

  whole_pairs : (P : ℕ → Type 0) (es : List Entry) (ms : List Meeting) (ps qs : List Pair) → ((o : Overlap) → HasNumber ps o → HasNumber qs o) → WholeFor P es ms ps → WholeFor P es ms qs
  whole_pairs P es ms ps qs f h j i a b p l aj bi dj di e = both_by ps qs j (equation_of a) i (equation_of b) f (h j i a b p l aj bi dj di e)

  whole_meetings : (P Q : ℕ → Type 0) (es : List Entry) (ms ns : List Meeting) (ps : List Pair) → ((i : ℕ) → Q i → is_dead es i ≡ false → slice_get ns i ≡ Some Met → P i × (slice_get ms i ≡ Some Met)) → WholeFor P es ms ps → WholeFor Q es ns ps
  whole_meetings P Q es ms ns ps f h j i a b q l aj bi dj di e = let x = f i q di e in h j i a b x.0 l aj bi dj di x.1

  whole_dies : (P : ℕ → Type 0) (es : List Entry) (ms : List Meeting) (ps : List Pair) (x : Pair) (k c : ℕ) → WholeFor P es ms ps → WholeFor P (es ++ Dies k c ∷ []) (change meets_unmet ms k) (ps ++ x ∷ [])
  whole_dies P es ms ps x k c h j i a b p l aj bi dj di e =
      both_by ps (ps ++ x ∷ []) j (equation_of a) i (equation_of b) (number_more ps (x ∷ []))
      (h j i a b p l (subst (λ (fs : List Fact). slice_get fs j ≡ Some a) (born-dies es k c) aj) (subst (λ (fs : List Fact). slice_get fs i ≡ Some b) (born-dies es k c) bi)
      (dead_more es (Dies k c ∷ []) j dj) (dead_more es (Dies k c ∷ []) i di) (stood (get-changed meets_unmet ms k i Met e)))
    where
      stood : ((slice_get ms i ≡ Some Met) ⊎ ((k ≡ i) × ((y : Meeting) × (slice_get ms i ≡ Some y) × (Met ≡ meets_unmet y)))) → slice_get ms i ≡ Some Met
      stood (inl q) = q
      stood (inr q) = absurd (not_last es k c i di q.0)

  whole_born : (P : ℕ → Type 0) (es : List Entry) (ms : List Meeting) (ps : List Pair) (f : Fact) → length ms ≡ length (born es) → WholeFor P es ms ps → WholeFor P (es ++ Born f ∷ []) (ms ++ Unmet ∷ []) ps
  whole_born P es ms ps f len h j i a b p l aj bi dj di e =
      let old : slice_get ms i ≡ Some Met = stood (get_pushed ms Unmet i Met e) in
      let low : i < length ms = below ms i Met old in
      h j i a b p l (early j a (omega arith) (subst (λ (fs : List Fact). slice_get fs j ≡ Some a) (born-append es (Born f ∷ [])) aj)) (early i b (omega arith) (subst (λ (fs : List Fact). slice_get fs i ≡ Some b) (born-append es (Born f ∷ [])) bi))
      (sym (dead_born es f j) ∙ dj) (sym (dead_born es f i) ∙ di) old
    where
      stood : ((slice_get ms i ≡ Some Met) ⊎ ((i ≡ length ms) × (Met ≡ Unmet))) → slice_get ms i ≡ Some Met
      stood (inl q) = q
      stood (inr q) = absurd (let e : Met ≡ Unmet = q.1 in cc)

      early : (n : ℕ) (g : Fact) → n < length (born es) → slice_get (born es ++ f ∷ []) n ≡ Some g → slice_get (born es) n ≡ Some g
      early n g lt at = elim (get_pushed (born es) f n g at) [ inl q ↦ q | inr q ↦ (let e : n ≡ length (born es) = q.0 in absurd (omega arith)) ]

  whole_kills : (P : ℕ → Type 0) (c k : ℕ) (s : State) → WholeFor P s.entries s.meetings s.pairs → WholeFor P ((kills c k s).entries) ((kills c k s).meetings) ((kills c k s).pairs)
  whole_kills P c k s h = elim (cases_Bool (is_dead s.entries k)) as (λ _. WholeFor P ((kills c k s).entries) ((kills c k s).meetings) ((kills c k s).pairs)) [
    | inl e ↦ rw e h
    | inr e ↦ rw e (whole_dies P s.entries s.meetings s.pairs _ k c h)
  ]

  whole_each : (P : ℕ → Type 0) (c : ℕ) (ks : List ℕ) (s : State) → WholeFor P s.entries s.meetings s.pairs → WholeFor P ((each (kills c) ks s).entries) ((each (kills c) ks s).meetings) ((each (kills c) ks s).pairs)
  whole_each P c [] s h = h
  whole_each P c (k ∷ ks) s h = whole_each P c ks (kills c k s) (whole_kills P c k s h)

  -- what a meeting lists

  record WithEarlier (P : Formed → Type 0) (i : ℕ) (f : Equation) (j : ℕ) (a : Equation) : Type 0 where
    inside : List Formed
    inside_are : AreOverlaps m.greater j a i f inside
    inside_all : Each P inside
    round : List Formed
    round_are : AreOverlaps m.greater i f j a round
    round_all : Each P round

  record WithItself (P : Formed → Type 0) (i : ℕ) (f : Equation) : Type 0 where
    own : List Formed
    own_are : AreOverlaps m.greater i f i f own
    own_all : Each P own

  lists_earlier : (P : Formed → Type 0) (es : List Entry) (i : ℕ) (f : Equation) (js : List Live) (fs : List Formed) → AreMeetings m es i f js fs → Each P fs → (x : Live) → In js x → x.number < i → WithEarlier P i f x.number x.equation
  lists_earlier P es i f [] fs a h x q l = elim q [ ]
  lists_earlier P es i f (j ∷ js) _ (with_earlier {inside = xs} {round = ys} {rest = zs} lt b c d) h _ in_front l = record {
    inside = xs;
    inside_are = b;
    inside_all = Each-front P xs (ys ++ zs) h;
    round = ys;
    round_are = c;
    round_all = Each-front P ys zs (Each-behind P xs (ys ++ zs) h);
  }
  lists_earlier P es i f (j ∷ js) _ (with_earlier {inside = xs} {round = ys} {rest = zs} lt b c d) h x (in_rest q) l = lists_earlier P es i f js zs d (Each-behind P ys zs (Each-behind P xs (ys ++ zs) h)) x q l
  lists_earlier P es i f (j ∷ js) fs (not_with_later ge d) h _ in_front l = absurd (omega arith)
  lists_earlier P es i f (j ∷ js) fs (not_with_later ge d) h x (in_rest q) l = lists_earlier P es i f js fs d h x q l

  lists_itself : (P : Formed → Type 0) (es : List Entry) (i : ℕ) (f : Equation) (js : List Live) (fs : List Formed) → AreMeetings m es i f js fs → Each P fs → WithItself P i f
  lists_itself P es i f _ fs (with_itself own) h = record { own = fs; own_are = own; own_all = h }
  lists_itself P es i f (j ∷ js) _ (with_earlier {inside = xs} {round = ys} {rest = zs} lt b c d) h = lists_itself P es i f js zs d (Each-behind P ys zs (Each-behind P xs (ys ++ zs) h))
  lists_itself P es i f (j ∷ js) fs (not_with_later ge d) h = lists_itself P es i f js fs d h

  -- a meeting numbers what it lists
  module _ (front more : List Entry) (i : ℕ) (f : Fact) (fs : List Formed) (at : slice_get (born front) i ≡ Some f) (meets : AreMeetings m front i (equation_of f) (live front) fs) (qs : List Pair) (all : Each (λ (g : Formed). HasNumber qs g.overlap) fs) where
    abbrev IsNumbered : Formed → Type 0
    IsNumbered g = HasNumber qs g.overlap

    with_one : (j : ℕ) (a : Fact) → slice_get (born front) j ≡ Some a → is_dead front j ≡ false → j < i → BothAreNumbered m qs j (equation_of a) i (equation_of f)
    with_one j a aj dj l =
        let x = lists_earlier IsNumbered front i (equation_of f) (live front) fs meets all (record { number = j; equation = equation_of a }) (in_live front j a aj dj) l in
        record { inside = record { overlaps = x.inside; are = x.inside_are; numbered = x.inside_all }; round = record { overlaps = x.round; are = x.round_are; numbered = x.round_all } }

    with_own : BothAreNumbered m qs i (equation_of f) i (equation_of f)
    with_own =
        let x = lists_itself IsNumbered front i (equation_of f) (live front) fs meets all in
        record { inside = record { overlaps = x.own; are = x.own_are; numbered = x.own_all }; round = record { overlaps = x.own; are = x.own_are; numbered = x.own_all } }

    in_front_too : (n : ℕ) (g h : Fact) → slice_get (born front) n ≡ Some h → slice_get (born (front ++ more)) n ≡ Some g → h ≡ g
    in_front_too n g h a b = let c : slice_get (born (front ++ more)) n ≡ Some h = subst (λ (z : List Fact). slice_get z n ≡ Some h) (sym (born-append front more)) (get-append (born front) (born more) n h a) in cc

    numbers_its : (j : ℕ) (a b : Fact) → j ≤ i → slice_get (born (front ++ more)) j ≡ Some a → slice_get (born (front ++ more)) i ≡ Some b → is_dead (front ++ more) j ≡ false → BothAreNumbered m qs j (equation_of a) i (equation_of b)
    numbers_its j a b l aj bi dj =
        let same : f ≡ b = in_front_too i b f at bi in
        let low : i < length (born front) = below (born front) i f at in
        subst (λ (z : Fact). BothAreNumbered m qs j (equation_of a) i (equation_of z)) same (elim (cases_order j i) [
          | inl q ↦ (let here : slice_get (born front) j ≡ Some f = subst (λ n. slice_get (born front) n ≡ Some f) (sym q) at in
              let one : f ≡ a = in_front_too j a f here aj in
              subst (λ n. BothAreNumbered m qs n (equation_of a) i (equation_of f)) (sym q) (subst (λ (z : Fact). BothAreNumbered m qs i (equation_of z) i (equation_of f)) one with_own))
          | inr r ↦ elim r [
            | inl lt ↦ (let g = item_in (born front) j (omega arith) in
                let one : g.0 ≡ a = in_front_too j a g.0 g.1 aj in
                subst (λ (z : Fact). BothAreNumbered m qs j (equation_of z) i (equation_of f)) one (with_one j g.0 g.1 (dead_more front more j dj) lt))
            | inr gt ↦ absurd (omega arith)
          ]
        ])
      where
        item_in : (xs : List Fact) (n : ℕ) → n < length xs → (x : Fact) × (slice_get xs n ≡ Some x)
        item_in [] n h = absurd (omega arith)
        item_in (x ∷ xs) zero h = (x, refl)
        item_in (x ∷ xs) (suc n) h = item_in xs n (omega arith)

  -- the calls

  abbrev Whole : State → Type 0
  Whole s = s.verdict ≡ None → WholeFor Any s.entries s.meetings s.pairs

  with_condition : (c : Pair → Pair) → ((x : Pair) → (c x).origin ≡ x.origin) → (p : ℕ) (s : State) → Whole s → s.verdict ≡ None → WholeFor Any s.entries s.meetings (change c s.pairs p)
  with_condition c keeps p s h v = whole_pairs Any s.entries s.meetings s.pairs (change c s.pairs p) (number_changed c keeps s.pairs p) (h v)

  goes_out : (s : State) (i : ℕ) → Whole s → s.verdict ≡ None → WholeFor Any s.entries (change (λ (x : Meeting). Visiting) s.meetings i) s.pairs
  goes_out s i h v = whole_meetings Any Any s.entries s.meetings (change (λ (x : Meeting). Visiting) s.meetings i) s.pairs (λ n u d e. (tt, stood n (get-changed (λ (x : Meeting). Visiting) s.meetings i n Met e))) (h v)
    where
      stood : (n : ℕ) → ((slice_get s.meetings n ≡ Some Met) ⊎ ((i ≡ n) × ((y : Meeting) × (slice_get s.meetings n ≡ Some y) × (Met ≡ Visiting)))) → slice_get s.meetings n ≡ Some Met
      stood n (inl q) = q
      stood n (inr q) = absurd (let e : Met ≡ Visiting = q.1.2 in cc)

  whole_draws : (o : Opening) (w : ℕ) (s : State) (r : Reply) (u : State) → Draws o w s r u → Whole s → Whole u
  whole_draws o w s _ _ (verdict_stands v e) h = h
  whole_draws o w s _ _ (goal_is_due g e f) h = h
  whole_draws o w s _ _ (fact_is_unmet i n f) h = goes_out s i.number h
  whole_draws o w s r u (orphan_is_dropped p n e f d) h = whole_draws o w (drops w p.number s) r u d (with_condition (λ (x : Pair). record x { condition = Orphan }) (λ x. refl) p.number s h)
  whole_draws o w s _ _ (goal_is_continued g l f room) h = h
  whole_draws o w s _ _ (pair_is_drawn p x l f e at room) h = with_condition (λ (y : Pair). record y { condition = OutTo w }) (λ y. refl) p.number s h
  whole_draws o w s _ _ (budget_is_out l b c d) h = h
  whole_draws o w s _ _ (budget_is_spent l b c d) h = λ v. absurd (cc)
  whole_draws o w s _ _ (all_is_out l b c) h = h
  whole_draws o w s _ _ (all_is_done l b c) h = h

  whole_goal : (kind : ℕ → ℕ → GoalEnd → Happening) (t : Out) (g : ℕ) (l r : Chain) (stop : Stop) (s u : State) → GoalEnds kind t g l r stop s u → Whole s → Whole u
  whole_goal kind t g l r stop s _ (ends_meet e) h = λ v. absurd (cc)
  whole_goal kind t g l r stop s _ (ends_differ c e a) h = h

  -- the meeting of one fact is over, and it is still to be shown for it
  met_but : (s : State) (i : ℕ) → Whole s → s.verdict ≡ None → WholeFor (But i) s.entries (change (λ (x : Meeting). Met) s.meetings i) s.pairs
  met_but s i h v = whole_meetings Any (But i) s.entries s.meetings (change (λ (x : Meeting). Met) s.meetings i) s.pairs (λ n ne d e. (tt, stood n ne (get-changed (λ (x : Meeting). Met) s.meetings i n Met e))) (h v)
    where
      stood : (n : ℕ) → (n ≡ i → ⊥) → ((slice_get s.meetings n ≡ Some Met) ⊎ ((i ≡ n) × ((y : Meeting) × (slice_get s.meetings n ≡ Some y) × (Met ≡ Met)))) → slice_get s.meetings n ≡ Some Met
      stood n ne (inl q) = q
      stood n ne (inr q) = absurd (ne (sym q.0))

  -- a fact that is dead owes nothing
  but_dead : (i : ℕ) (es : List Entry) (ms : List Meeting) (ps : List Pair) → is_dead es i ≡ true → WholeFor (But i) es ms ps → WholeFor Any es ms ps
  but_dead i es ms ps dead h = whole_meetings (But i) Any es ms ms ps (λ n u d e. ((λ q. false≢true (sym d ∙ subst (λ x. is_dead es x ≡ true) (sym q) dead)), e)) h

  meets_whole : (o : Opening) (t : Out) (i pairs : ℕ) (does : State → State) (s u : State) → ((x : State) → x.entries ≡ s.entries → WholeFor (But i) x.entries x.meetings x.pairs → WholeFor Any ((does x).entries) ((does x).meetings) ((does x).pairs)) → Meets o t i pairs does s u → s.verdict ≡ None → Whole s → Whole u
  meets_whole o t i pairs does s _ g (within_limit died a b) open_ h = λ v. g (is_met i (accepts t (CommitMeet i pairs died) s)) refl (met_but s i h open_)
  meets_whole o t i pairs does s _ g (past_limit more a b) open_ h = λ v. absurd (cc)

  -- the overlaps of a meeting that is committed are numbered
  visits_whole : (i : ℕ) (f : Fact) (ks : List ℕ) (fs : List Formed) (n : ℕ) (x : State) → slice_get (born (take n x.entries)) i ≡ Some f → AreMeetings m (take n x.entries) i (equation_of f) (live (take n x.entries)) fs
      → WholeFor (But i) x.entries x.meetings x.pairs → WholeFor Any ((visits i ks fs x).entries) ((visits i ks fs x).meetings) ((visits i ks fs x).pairs)
  visits_whole i f ks fs n x at meets h j k a b p l aj bk dj dk e = elim (cases_eq k i) [
    | inl q ↦ its q
    | inr ne ↦ whole_pairs (But i) y.entries y.meetings y.pairs (y.pairs ++ map (pair_by y.entries) fs) (number_more y.pairs (map (pair_by y.entries) fs)) (whole_each (But i) i ks x h) j k a b ne l aj bk dj dk e
  ]
    where
      y : State
      y = each (kills i) ks x

      grew : Grew x.entries y.entries
      grew = each_grew i ks x

      parts : y.entries ≡ take n x.entries ++ (drop n x.entries ++ grew.more)
      parts = grew.is ∙ ap (λ (z : List Entry). z ++ grew.more) (sym (take-append-drop n x.entries)) ∙ append_assoc (take n x.entries) (drop n x.entries) grew.more

      its : k ≡ i → BothAreNumbered m (y.pairs ++ map (pair_by y.entries) fs) j (equation_of a) k (equation_of b)
      its q =
          subst (λ z. BothAreNumbered m (y.pairs ++ map (pair_by y.entries) fs) j (equation_of a) z (equation_of b)) (sym q)
          (numbers_its (take n x.entries) (drop n x.entries ++ grew.more) i f fs at meets (y.pairs ++ map (pair_by y.entries) fs) (forms_number y.entries fs y.pairs) j a b (subst (λ z. j ≤ z) q l)
          (subst (λ (z : List Entry). slice_get (born z) j ≡ Some a) parts aj) (subst (λ (z : List Entry). slice_get (born z) i ≡ Some b) parts (subst (λ z. slice_get (born y.entries) z ≡ Some b) q bk))
          (subst (λ (z : List Entry). is_dead z j ≡ false) parts dj))

  pub record IsMeeting (es : List Entry) (i : ℕ) (fs : List Formed) : Type 0 where
    pub fact : Fact
    pub at : slice_get (born es) i ≡ Some fact
    pub meets : AreMeetings m es i (equation_of fact) (live es) fs

  pub result_lists : (axioms : List Equation) (es : List Entry) (i : ℕ) (ks : List ℕ) (fs : List Formed) (j : Job) (found : Finding) → IsResult m axioms es j found → j ≡ Meet i → found ≡ Visited ks fs → IsMeeting es i fs
  result_lists axioms es i ks fs _ _ (comes_to_meet {i = k} {f = f} {fs = gs} at fresh kills_ meets) e q =
      let one : k ≡ i = cc in
      let same : gs ≡ fs = cc in
      subst (λ z. IsMeeting es z fs) one (subst (λ (z : List Formed). IsMeeting es k z) same (record { fact = f; at = at; meets = meets }))
  result_lists axioms es i ks fs _ _ (goal_comes_to a) e q = absurd (cc)
  result_lists axioms es i ks fs _ _ (more_comes_to a) e q = absurd (cc)
  result_lists axioms es i ks fs _ _ (pair_is_joined a b) e q = absurd (cc)
  result_lists axioms es i ks fs _ _ (pair_is_kept a b c) e q = absurd (cc)
  result_lists axioms es i ks fs _ _ (comes_stale a b) e q = absurd (cc)

  whole_commits : (o : Opening) (s : State) (t : Out) (f : Finding) (u : State) → length s.meetings ≡ length (born s.entries) → IsResult m o.axioms (take t.front s.entries) t.job f → Whole s → Commits o t f s u → Whole u
  whole_commits o s t f _ len right h (is_late v e) = h
  whole_commits o s t _ u len right h (goal_ends {l = l} {r = r} {stop = stop} g x y e is b) = whole_goal CommitGoal t g l r stop s u b h
  whole_commits o s t _ u len right h (more_ends {l = l} {r = r} {stop = stop} g x y e is b) = whole_goal CommitMore t g l r stop s u b h
  whole_commits o s t _ _ len right h (pair_joins p b e is) = with_condition (λ (y : Pair). record y { condition = Done }) (λ y. refl) p s h
  whole_commits o s t _ _ len right h (fact_is_kept {f = f} p b e is) = λ v. whole_born Any s.entries s.meetings (change (λ (y : Pair). record y { condition = Done }) s.pairs p) f len (with_condition (λ (y : Pair). record y { condition = Done }) (λ y. refl) p s h v)
  whole_commits o s t _ u len right h (fact_is_stale {k = k} i e is b) = meets_whole o t i 0 (λ y. kills k i y) s u (λ x q z. but_dead i ((kills k i x).entries) ((kills k i x).meetings) ((kills k i x).pairs) (kills_dead k i x) (whole_kills (But i) k i x z)) b e h
  whole_commits o s t _ u len right h (fact_is_dead i e is d b) = meets_whole o t i 0 stays s u (λ x q z. but_dead i x.entries x.meetings x.pairs (ap (λ (es : List Entry). is_dead es i) q ∙ d) z) b e h
  whole_commits o s t _ u len right h (fact_meets {ks = ks} {fs = fs} i e is d b) =
      let r = result_lists o.axioms (take t.front s.entries) i ks fs t.job (Visited ks fs) right is refl in
      meets_whole o t i (newly_waiting fs (each (λ c. kills i c) ks s)) (λ y. visits i ks fs y) s u
      (λ x q z. visits_whole i r.fact ks fs t.front x (subst (λ (es : List Entry). slice_get (born (take t.front es)) i ≡ Some r.fact) (sym q) r.at)
      (subst (λ (es : List Entry). AreMeetings m (take t.front es) i (equation_of r.fact) (live (take t.front es)) fs) (sym q) r.meets) z) b e h

  put_back : (s : State) (i : ℕ) → Whole s → s.verdict ≡ None → WholeFor Any s.entries (change (λ (x : Meeting). cond (is_dead s.entries i) Met Unmet) s.meetings i) s.pairs
  put_back s i h v = whole_meetings Any Any s.entries s.meetings (change (λ (x : Meeting). cond (is_dead s.entries i) Met Unmet) s.meetings i) s.pairs (λ n u d e. (tt, stood n d (get-changed (λ (x : Meeting). cond (is_dead s.entries i) Met Unmet) s.meetings i n Met e))) (h v)
    where
      stood : (n : ℕ) → is_dead s.entries n ≡ false → ((slice_get s.meetings n ≡ Some Met) ⊎ ((i ≡ n) × ((y : Meeting) × (slice_get s.meetings n ≡ Some y) × (Met ≡ cond (is_dead s.entries i) Met Unmet)))) → slice_get s.meetings n ≡ Some Met
      stood n d (inl q) = q
      stood n d (inr q) =
          let alive : is_dead s.entries i ≡ false = subst (λ k. is_dead s.entries k ≡ false) (sym q.0) d in
          let e : Met ≡ Unmet = q.1.2 ∙ ap (λ b. cond {A = Meeting} b Met Unmet) alive in
          absurd (cc)

  whole_restored : (n w fr : ℕ) (j : Job) (s : State) → (let t : Out = record { ticket = n; worker = w; job = j; front = fr } in Whole s → Whole (reclaims t s))
  whole_restored n w fr (Goal g l r) s h = h
  whole_restored n w fr (More g l r) s h = h
  whole_restored n w fr (Meet i) s h = put_back s i h
  whole_restored n w fr (Join p b) s h = with_condition (λ (y : Pair). record y { condition = Waiting }) (λ y. refl) p s h

  whole_recalled : (ts : List Out) (s : State) → Whole s → Whole (each reclaims ts s)
  whole_recalled [] s h = h
  whole_recalled (t ∷ ts) s h = whole_recalled ts (reclaims t s) (whole_restored t.ticket t.worker t.front t.job s h)

  whole_audits : (o : Opening) (f : Fact) (s u : State) (r : AuditReply) → length s.meetings ≡ length (born s.entries) → Audits o f s r u → Whole s → Whole u
  whole_audits o f s _ _ len (is_closed v e) h = h
  whole_audits o f s _ _ len (is_spent e c) h = λ v. absurd (cc)
  whole_audits o f s _ _ len (is_kept e c) h = λ v. whole_born Any s.entries s.meetings s.pairs f len (h v)

  whole_closes : (s u : State) (outcome : Outcome) (v : Verdict) → Closes s outcome v u → Whole u
  whole_closes s _ _ _ converges = λ v. absurd (cc)
  whole_closes s _ _ _ has_large = λ v. absurd (cc)
  whole_closes s _ _ _ has_stuck = λ v. absurd (cc)

  whole_starts : (o : Opening) (s : State) → Starts o s → Whole s
  whole_starts o _ (axioms_wait l) = λ v j i a b p l aj bi dj di e. absurd (cc)
  whole_starts o _ (too_many_axioms l) = λ v. absurd (cc)

  whole_reaches : (o : Opening) (s : State) → Reaches m o s → Whole s
  whole_reaches o s (starts a) = whole_starts o s a
  whole_reaches o u (draws_on {s = s} {r = r} w l a d) = whole_draws o w s r u d (whole_reaches o s a)
  whole_reaches o u (commits_on {s = s} {f = f} t at right a c) = whole_commits o s t f u (kept_reaches m o s a).facts.each_meets right (whole_reaches o s a) c
  whole_reaches o _ (reclaims_on {s = s} t at a) = whole_restored t.ticket t.worker t.front t.job s (whole_reaches o s a)
  whole_reaches o _ (recalls_on {s = s} a) = whole_recalled s.out s (whole_reaches o s a)
  whole_reaches o u (audits_on {s = s} {answer = r} x may a b) = whole_audits o x.fact s u r (kept_reaches m o s a).facts.each_meets b (whole_reaches o s a)
  whole_reaches o u (closes_on {s = s} {outcome = outcome} {v = v} d f a c) = whole_closes s u outcome v c

  pub meetings_are_whole : (o : Opening) (s : State) → Reaches m o s → MeetingsAreWhole m s
  meetings_are_whole o s r = λ v j i a b l aj bi dj di e. whole_reaches o s r v j i a b tt l aj bi dj di e
