-- How long a search by one worker is.
use Rattle.std.proofs.Common.{◌≡◌, ℕ, suc, ◌+◌, ◌*◌, ◌<◌, ◌≤◌, List, [], ◌∷◌, length, map, ◌≢◌, Option, Some, None, refl, ap, ◌∙◌, arith, subst, mul-add, mul-one, mul-le-mul_left}
use Rattle.std.specs.List.{sum_by}
use Rattle.std.proofs.lemmas.List.Sums.{sum_by-cons}
use Rattle.uc_order.specs.Laws.{Meaning}
use Rattle.uc_shelf.specs.declared.entry.Entry.{Entry}
use Rattle.uc_shelf.specs.declared.entry.Entry.TheVariants.{Born, Dies}
use Rattle.uc_shelf.specs.Entries.{born}
use Rattle.uc_term.specs.declared.equation.Equation.{Equation}
use Rattle.uc_machine.specs.declared.event.Verdict.{Verdict}
use Rattle.uc_machine.specs.declared.event.Verdict.TheVariants.{PairsOut}
use Rattle.uc_machine.specs.declared.task.Missing.{Missing}
use Rattle.uc_machine.specs.declared.task.Outcome.TheVariants.{Missing as Lacks}
use Rattle.uc_machine.specs.State.{Opening, State, Pair, Out, dead_of, draws_in}
use Rattle.uc_machine.specs.Effects.{unit_of}
use Rattle.uc_machine.specs.Draws.{Drew, Drained, Closed}
use Rattle.uc_machine.specs.Finals.{IsFinal, some_missing}
use Rattle.uc_machine.specs.Runs.{Reaches, draws_on, goal_of, axiom_pairs, opened, Starts, axioms_wait, too_many_axioms, KeptAs, ClosedBy, Audits, is_closed, is_spent, is_kept, converges, has_large, has_stuck}
use Rattle.uc_machine.proofs.Runs.{kept_reaches}
use Rattle.uc_runs.proofs.Replaying.{chains_replay}
use Rattle.uc_search.specs.Working.{TakesTurn, Works, no_turn, one_more_turn}
use Rattle.uc_search.proofs.InOrder.{AuditsAll, all_are_kept, one_is_kept, book_is_closed, audits_all}
use Rattle.uc_search.specs.Searching.{EndsRound, is_closed_by, audits_missing, Rounds, gets_verdict, gets_drained, Searches, last_round, next_round, IsSearched}
use Rattle.uc_search.specs.Bounds.{rounds_in, passes_of, passes_in, IsBounded}
use Rattle.uc_search.proofs.Distinct.{few_distinct}
use Rattle.uc_search.proofs.Loads.{dues, dues-few, unmets}
use Rattle.uc_search.proofs.Fits.{Fits, audits_in, draws_fit, commits_fit, fits_closes, fits_keeps, fewer_fit}
use Rattle.uc_search.proofs.Turns.{leaves}
use Rattle.uc_search.proofs.Rests.{Rests, start_rests, works_rest, round_rests, search_rests, draws_one}

opened_fits : (o : Opening) (ps : List Pair) → Fits 0 (opened o ps)
opened_fits o ps = record { tasks = (let d : dues (map goal_of o.goals) ≤ length (map goal_of o.goals) = dues-few (map goal_of o.goals) in omega arith); births = omega arith; audits = omega arith; least = omega arith }

start_fits : (o : Opening) (s : State) → Starts o s → Fits 0 s
start_fits o _ (axioms_wait l) = opened_fits o (axiom_pairs 0 o.axioms)
start_fits o _ (too_many_axioms l) = fits_closes 0 0 (PairsOut 0 (length o.axioms)) (opened o []) (opened_fits o [])

-- audits

audit_fits : (a : ℕ) (o : Opening) (x : Missing) (s u : State) (v : Verdict) → Audits o x.fact s (ClosedBy v) u → Fits a s → Fits a u
audit_fits a o x s _ _ (is_closed v e) f = f
audit_fits a o x s _ _ (is_spent e c) f = fits_closes a 0 _ s f

keeping_fits : (a : ℕ) (o : Opening) (x : Missing) (s u : State) (n : ℕ) → Audits o x.fact s (KeptAs n) u → Fits a s → Fits (a + 1) u
keeping_fits a o x s _ _ (is_kept e c) f = fits_keeps a _ x.fact s f

audits_fit : (a : ℕ) (o : Opening) (xs : List Missing) (s : State) (v : Option Verdict) (u : State) → AuditsAll o xs s v u → Fits a s → Fits a u
audits_fit a o _ s _ _ all_are_kept f = f
audits_fit a o _ s v t (one_is_kept {x = x} {xs = xs} {u = u} {n = n} b rest) f = audits_fit a o xs u v t rest (fewer_fit a 1 u (keeping_fits a o x s u n b f))
audits_fit a o _ s _ _ (book_is_closed {x = x} {u = u} {v = v} b) f = audit_fits a o x s u v b f

-- where some are audited and no verdict stands then, one more is kept
more_audits_fit : (a : ℕ) (o : Opening) (xs : List Missing) (s : State) (u : State) → xs ≢ [] → AuditsAll o xs s None u → Fits a s → Fits (a + 1) u
more_audits_fit a o _ s _ ne all_are_kept f = absurd (ne refl)
more_audits_fit a o _ s t ne (one_is_kept {x = x} {xs = xs} {u = u} {n = n} b rest) f = audits_fit (a + 1) o xs u None t rest (keeping_fits a o x s u n b f)

-- the entries are births and deaths
entries_are : (es : List Entry) → length es ≡ length (born es) + length (dead_of es)
entries_are [] = refl
entries_are (Born f ∷ es) = let h : length es ≡ length (born es) + length (dead_of es) = entries_are es in omega arith
entries_are (Dies i k ∷ es) = let h : length es ≡ length (born es) + length (dead_of es) = entries_are es in omega arith

few_tasks : (d l g e b c k : ℕ) → d + l ≤ (g + g * e) + (b + c) → e ≤ 2 * k → b ≤ k → c ≤ k → d ≤ g * (2 * k + 1) + 2 * k
few_tasks d l g e b c k h i j x =
    let m : g * e ≤ g * (2 * k) = mul-le-mul_left g i in
    let n : g * (2 * k + 1) ≡ g * (2 * k) + g = mul-add g (2 * k) 1 ∙ ap (λ y. g * (2 * k) + y) (mul-one g) in
    joined d l g (g * e) (g * (2 * k)) (g * (2 * k + 1)) b c k h m n j x
  where
    joined : (d l g x y z b c k : ℕ) → d + l ≤ (g + x) + (b + c) → x ≤ y → z ≡ y + g → b ≤ k → c ≤ k → d ≤ z + 2 * k
    joined d l g x y z b c k h m n j i = omega (arith, h, m, n, j, i)

no_missing : (m : Meaning) (axioms : List Equation) (s : State) (xs : List Missing) → IsFinal m axioms s (Lacks xs) → xs ≢ []
no_missing m axioms s xs (some_missing a t ne) = ne

module _ (m : Meaning) (o : Opening) where
  -- the unit of the task that is out is reserved
  reserved_for : (s : State) (t : Out) → Reaches m o s → s.out ≡ t ∷ [] → unit_of t.job ≤ s.reserved
  reserved_for s t r e =
      let k : s.reserved ≡ sum_by (λ (x : Out). unit_of x.job) s.out = (kept_reaches m o s r).accounts.reserved_is in
      let q : sum_by (λ (x : Out). unit_of x.job) s.out ≡ sum_by (λ (x : Out). unit_of x.job) (t ∷ []) = ap (sum_by (λ (x : Out). unit_of x.job)) e in
      let c : sum_by (λ (x : Out). unit_of x.job) (t ∷ []) ≡ unit_of t.job + sum_by (λ (x : Out). unit_of x.job) [] = sum_by-cons (λ (x : Out). unit_of x.job) t [] in
      omega arith

  end_fits : (a : ℕ) (drained : State) (v : Option Verdict) (u : State) → EndsRound m o drained v u → Fits a drained → Fits a u
  end_fits a d _ _ (is_closed_by f converges) k = fits_closes a 0 _ d k
  end_fits a d _ _ (is_closed_by f has_large) k = fits_closes a 0 _ d k
  end_fits a d _ _ (is_closed_by f has_stuck) k = fits_closes a 0 _ d k
  end_fits a d v u (audits_missing {missing = xs} f b) k = audits_fit a o xs d v u (audits_all o xs d v u b) k

  more_ends_fit : (a : ℕ) (drained : State) (u : State) → EndsRound m o drained None u → Fits a drained → Fits (a + 1) u
  more_ends_fit a d u (audits_missing {missing = xs} f b) k = more_audits_fit a o xs d u (no_missing m o.axioms d xs f) (audits_all o xs d None u b) k

  bounded : (s : State) → Rests m o s → Fits 0 s → IsBounded o s
  bounded s r f =
      let k = kept_reaches m o s r.reaches in
      let within : s.counted + s.reserved ≤ o.budget = k.accounts.within in
      let none : s.reserved ≡ 0 = k.accounts.reserved_is ∙ ap (sum_by (λ (x : Out). unit_of x.job)) r.none_out in
      let goals : length s.goals ≡ length o.goals = (chains_replay m o s r.reaches).as_many in
      let dead : length (dead_of s.entries) ≤ length (born s.entries) = few_distinct (length (born s.entries)) (dead_of s.entries) k.facts.once k.facts.are_born in
      let all : length s.entries ≡ length (born s.entries) + length (dead_of s.entries) = entries_are s.entries in
      let births : length (born s.entries) ≤ s.counted = f.births in
      let audits : audits_in s.history ≤ s.counted = f.audits in
      record {
        tasks = subst (λ g. length (draws_in s.history) ≤ g * (2 * o.budget + 1) + 2 * o.budget) goals
            (few_tasks (length (draws_in s.history)) (dues s.goals + unmets s.meetings) (length s.goals) (length s.entries) (length (born s.entries)) (s.counted + s.reserved) o.budget f.tasks (omega arith) (omega arith) within);
        audits = omega arith;
      }

  module _ (w : ℕ) (few : w < 65) where
    turn_fits : (a : ℕ) (s u : State) → Rests m o s → TakesTurn m o w s u → Fits a s → Fits a u
    turn_fits a s u r t f =
        let d = draws_one m o w s u r.none_out t in
        let l = leaves o w s (Drew t.task) t.drawn t.draws in
        commits_fit a o t.task t.commits.finding t.drawn u l.front (reserved_for t.drawn t.task (draws_on w few r.reaches t.draws) d.out) d.open_ t.commits.commits (draws_fit a o w s (Drew t.task) t.drawn t.draws f)

    works_fit : (a : ℕ) (s u : State) → Rests m o s → Works m o w s u → Fits a s → Fits a u
    works_fit a s _ r no_turn f = f
    works_fit a s v r (one_more_turn {u = u} b t) f = turn_fits a u v (works_rest m o w few s u r b) t (works_fit a s u r b f)

    round_fits : (a : ℕ) (s : State) (v : Option Verdict) (u : State) → Rests m o s → Rounds m o w s v u → Fits a s → Fits a u
    round_fits a s _ u r (gets_verdict {v = v} b) f = draws_fit a o w b.last (Closed v) u b.draws (works_fit a s b.last r b.works f)
    round_fits a s v u r (gets_drained {drained = d} b e) f = end_fits a d v u e (draws_fit a o w b.last Drained d b.draws (works_fit a s b.last r b.works f))

    more_round_fits : (a : ℕ) (s u : State) → Rests m o s → Rounds m o w s None u → Fits a s → Fits (a + 1) u
    more_round_fits a s u r (gets_drained {drained = d} b e) f = more_ends_fit a d u e (draws_fit a o w b.last Drained d b.draws (works_fit a s b.last r b.works f))

    -- each round but the last keeps an audit
    rounds_fit : (a : ℕ) (s : State) (v : Verdict) (u : State) → Rests m o s → (x : Searches m o w s v u) → Fits a s → (n : ℕ) × (rounds_in x ≡ suc n) × Fits (a + n) u
    rounds_fit a s v u r (last_round b) f = (0, refl, subst (λ k. Fits k u) (let e : a ≡ a + 0 = omega arith in e) (round_fits a s (Some v) u r b f))
    rounds_fit a s v t r (next_round {u = u} b rest) f =
        let h = rounds_fit (a + 1) u v t (round_rests m o w few s None u r b) rest (more_round_fits a s u r b f) in
        (suc h.0, ap suc h.1, subst (λ k. Fits k t) (let e : (a + 1) + h.0 ≡ a + suc h.0 = omega arith in e) h.2)

    pub searched_bounded : (v : Verdict) (s : State) → IsSearched m o w v s → IsBounded o s
    searched_bounded v s x =
        let r = start_rests m o x.start x.starts in
        let h = rounds_fit 0 x.start v s r x.searches (start_fits o x.start x.starts) in
        bounded s (search_rests m o w few x.start v s r x.searches) (fewer_fit 0 h.0 s h.2)

    pub few_rounds : (v : Verdict) (s : State) → (x : IsSearched m o w v s) → rounds_in x.searches ≤ o.budget + 1
    few_rounds v s x =
        let h = rounds_fit 0 x.start v s (start_rests m o x.start x.starts) x.searches (start_fits o x.start x.starts) in
        let b : audits_in s.history ≤ o.budget = (searched_bounded v s x).audits in
        let l : 0 + h.0 ≤ audits_in s.history = h.2.least in
        let n : rounds_in x.searches ≡ suc h.0 = h.1 in
        omega arith

    one_pass : (s : State) (v : Option Verdict) (u : State) → (r : Rounds m o w s v u) → passes_of r ≤ 1
    one_pass s _ u (gets_verdict a) = omega arith
    one_pass s v u (gets_drained a b) = omega arith

    passes_by_rounds : (s : State) (v : Verdict) (u : State) → (x : Searches m o w s v u) → passes_in x ≤ rounds_in x
    passes_by_rounds s v u (last_round r) = one_pass s (Some v) u r
    passes_by_rounds s v t (next_round {u = u} r rest) =
        let a : passes_of r ≤ 1 = one_pass s None u r in
        let b : passes_in rest ≤ rounds_in rest = passes_by_rounds u v t rest in
        omega arith

    pub few_passes : (v : Verdict) (s : State) → (x : IsSearched m o w v s) → passes_in x.searches ≤ o.budget + 1
    few_passes v s x =
        let a : passes_in x.searches ≤ rounds_in x.searches = passes_by_rounds x.start v s x.searches in
        let b : rounds_in x.searches ≤ o.budget + 1 = few_rounds v s x in
        omega arith
