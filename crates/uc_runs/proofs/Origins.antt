-- In every state of a run the pairs that aren't too large come from what is there.
use Rattle.std.proofs.Common.{◌≡◌, ℕ, zero, suc, ◌+◌, ◌<◌, ◌≤◌, List, [], ◌∷◌, ◌++◌, length, true, ◌==◌, Some, refl, ap, sym, ◌∙◌, arith, inl, inr, append_assoc, subst, map, take, drop, slice_get}
use Rattle.std.proofs.lemmas.Bool.{cases_Bool, eq-eqb}
use Rattle.std.proofs.lemmas.List.{take-append-drop, length-append}
use Rattle.uc_term.specs.declared.equation.Equation.{Equation}
use Rattle.uc_term.proofs.Gets.{get-map}
use Rattle.uc_order.specs.Laws.{Meaning}
use Rattle.uc_order.specs.Members.{In, in_front, in_rest}
use Rattle.uc_fact.specs.declared.fact.Fact.{Fact}
use Rattle.uc_fact.specs.declared.fact.Origin.{Origin}
use Rattle.uc_fact.specs.declared.fact.Origin.TheVariants.{Axiom, Overlap as OfOverlap, Revived}
use Rattle.uc_fact.specs.Live.{Live, equation_of}
use Rattle.uc_pair.specs.declared.formed.Formed.{Formed}
use Rattle.uc_pair.specs.declared.formed.Size.TheVariants.{Large as TooLarge}
use Rattle.uc_pair.specs.Listing.{AreOverlaps}
use Rattle.uc_ledger.specs.declared.ledger.State.{State as Condition}
use Rattle.uc_ledger.specs.declared.ledger.State.TheVariants.{Waiting, Out as OutTo, Done, Orphan, Large}
use Rattle.uc_queue.specs.declared.entry.Entry.{Entry as Place}
use Rattle.uc_shelf.specs.declared.entry.Entry.{Entry}
use Rattle.uc_shelf.specs.declared.entry.Entry.TheVariants.{Born, Dies}
use Rattle.uc_shelf.specs.Entries.{born, is_dead, live}
use Rattle.uc_machine.specs.declared.event.GoalEnd.{GoalEnd}
use Rattle.uc_machine.specs.declared.event.Happening.{Happening}
use Rattle.uc_machine.specs.declared.event.Happening.TheVariants.{CommitGoal, CommitMore, CommitMeet}
use Rattle.uc_machine.specs.declared.event.Verdict.{Verdict}
use Rattle.uc_machine.specs.declared.task.Finding.{Finding}
use Rattle.uc_machine.specs.declared.task.Finding.TheVariants.{Met as Visited}
use Rattle.uc_machine.specs.declared.task.Job.{Job}
use Rattle.uc_machine.specs.declared.task.Job.TheVariants.{Goal, More, Meet, Join}
use Rattle.uc_machine.specs.declared.task.Outcome.{Outcome}
use Rattle.uc_fact.specs.declared.chain.Chain.{Chain}
use Rattle.uc_fact.specs.declared.fact.Stop.{Stop}
use Rattle.uc_machine.specs.Commits.{GoalEnds, ends_meet, ends_differ, Meets, within_limit, past_limit, newly_waiting, stays, Commits, is_late, goal_ends, more_ends, pair_joins, fact_is_kept, fact_is_stale, fact_is_dead, fact_meets}
use Rattle.uc_machine.specs.Draws.{Reply, Draws, verdict_stands, goal_is_due, fact_is_unmet, orphan_is_dropped, goal_is_continued, pair_is_drawn, budget_is_out, budget_is_spent, all_is_out, all_is_done}
use Rattle.uc_machine.specs.Effects.{kills, dies, visits, drops, accepts, is_met, pair_by, condition_by, reclaims}
use Rattle.uc_machine.specs.Lists.{change, each, Each, map_option}
use Rattle.uc_machine.specs.Origins.{IsListed, IsKnownOrigin, OriginsAreKnown}
use Rattle.uc_machine.specs.Promises.{Grew}
use Rattle.uc_machine.specs.Results.{AreMeetings, with_itself, with_earlier, not_with_later, IsResult}
use Rattle.uc_machine.specs.Runs.{axiom_pairs, Starts, axioms_wait, too_many_axioms, AuditReply, Audits, is_closed, is_spent, is_kept, Closes, converges, has_large, has_stuck, Reaches, starts, draws_on, commits_on, reclaims_on, recalls_on, audits_on, closes_on}
use Rattle.uc_machine.specs.declared.state.Meeting.TheVariants.{Visiting}
use Rattle.uc_machine.specs.State.{Opening, State, Pair, Out, out_at, without, peek}
use Rattle.uc_machine.proofs.Blocks.{born-append}
use Rattle.uc_machine.proofs.Calls.{place_waits, out_restored}
use Rattle.uc_machine.proofs.Found.{peek_is}
use Rattle.uc_machine.proofs.Grows.{kills_grew, each_grew}
use Rattle.uc_machine.proofs.Kept.{Kept, IsBusy}
use Rattle.uc_machine.proofs.Lists.{get-append, below, Each-map, Each-push}
use Rattle.uc_machine.proofs.Meetings.{IsOfFacts, facts_differ, Each-append}
use Rattle.uc_runs.proofs.Replayed.{live_named}
use Rattle.uc_machine.proofs.Runs.{kept_reaches, result_meets}
use Rattle.uc_machine.proofs.Steps.{at_task, kept_reclaim, Each-both}
use Rattle.uc_runs.proofs.Whole.{result_lists}

-- pairs that aren't too large

waits_small : (c : Condition) → c ≡ Waiting → c ≡ Large → ⊥
waits_small c e f = cc

out_small : (w : ℕ) (c : Condition) → c ≡ OutTo w → c ≡ Large → ⊥
out_small w c e f = cc

-- the pair at the queue's head waits
small_head : (s : State) (p : Place) → peek s ≡ Some p → (x : Pair) → slice_get s.pairs p.number ≡ Some x → x.condition ≡ Large → ⊥
small_head s p e x at q =
    let w = place_waits s.pairs p (peek_is s p e) in
    let there : slice_get s.pairs p.number ≡ Some w.pair = w.at in
    let same : w.pair ≡ x = cc in
    waits_small x.condition (subst (λ (z : Pair). z.condition ≡ Waiting) same w.is) q

-- the pair of a Join that is out is out
small_busy : (ps : List Pair) (p w : ℕ) → map_option (λ (x : Pair). x.condition) (slice_get ps p) ≡ Some (OutTo w) → (x : Pair) → slice_get ps p ≡ Some x → x.condition ≡ Large → ⊥
small_busy ps p w b x at q = let c : map_option (λ (y : Pair). y.condition) (Some x) ≡ Some (OutTo w) = rw at at b in out_small w x.condition (cc) q

each_in : (fs : List Formed) → Each (λ (g : Formed). In fs g) fs
each_in [] = tt
each_in (f ∷ fs) = (in_front, Each-map (λ (g : Formed) i. in_rest i) fs (each_in fs))

changed_each : {P : Pair → Type 0} (f : Pair → Pair) (ps : List Pair) (n : ℕ) → ((x : Pair) → slice_get ps n ≡ Some x → P x → P (f x)) → Each P ps → Each P (change f ps n)
changed_each f [] n k h = tt
changed_each f (x ∷ ps) zero k h = (k x refl h.0, h.1)
changed_each f (x ∷ ps) (suc n) k h = (h.0, changed_each f ps n k h.1)

module _ (m : Meaning) where
  abbrev IsSmall : List Entry → Formed → Type 0
  IsSmall es g = (g.size ≡ TooLarge → ⊥) → IsListed m es g.overlap

  abbrev HasOrigin : List Equation → List Entry → Pair → Type 0
  HasOrigin axioms es x = (x.condition ≡ Large → ⊥) → IsKnownOrigin m axioms es x.origin

  -- more entries

  origin_more : (axioms : List Equation) (es fs : List Entry) (o : Origin) → IsKnownOrigin m axioms es o → IsKnownOrigin m axioms (es ++ fs) o
  origin_more axioms es fs (Axiom k) h = h
  origin_more axioms es fs (OfOverlap o) h = record {
    outer = h.outer;
    inner = h.inner;
    outer_is = subst (λ (xs : List Fact). slice_get xs o.outer ≡ Some h.outer) (sym (born-append es fs)) (get-append (born es) (born fs) o.outer h.outer h.outer_is);
    inner_is = subst (λ (xs : List Fact). slice_get xs o.inner ≡ Some h.inner) (sym (born-append es fs)) (get-append (born es) (born fs) o.inner h.inner h.inner_is);
    all = h.all;
    all_are = h.all_are;
    size = h.size;
    listed = h.listed;
    small = h.small;
  }
  origin_more axioms es fs (Revived i) h =
      let l : i < length (born es) = h in
      let e : length (born (es ++ fs)) ≡ length (born es) + length (born fs) = ap length (born-append es fs) ∙ length-append (born es) (born fs) in
      omega arith

  origins_grown : (axioms : List Equation) (es fs : List Entry) (ps : List Pair) → Grew es fs → Each (HasOrigin axioms es) ps → Each (HasOrigin axioms fs) ps
  origins_grown axioms es fs ps g h = subst (λ (z : List Entry). Each (HasOrigin axioms z) ps) (sym g.is) (Each-map {P = HasOrigin axioms es} {Q = HasOrigin axioms (es ++ g.more)} (λ x k ne. origin_more axioms es g.more x.origin (k ne)) ps h)

  -- a pair that isn't too large changes its state
  origins_changed : (axioms : List Equation) (es : List Entry) (ps : List Pair) (c : Condition) (p : ℕ) → ((x : Pair) → slice_get ps p ≡ Some x → x.condition ≡ Large → ⊥) → Each (HasOrigin axioms es) ps → Each (HasOrigin axioms es) (change (λ (x : Pair). record x { condition = c }) ps p)
  origins_changed axioms es ps c p small h = changed_each (λ (x : Pair). record x { condition = c }) ps p (λ x at k ne. k (small x at)) h

  -- what a meeting lists

  list_listed : (es : List Entry) (j i : ℕ) (a b : Fact) (l r : Equation) → slice_get (born es) j ≡ Some a → equation_of a ≡ l → slice_get (born es) i ≡ Some b → equation_of b ≡ r
      → (fs : List Formed) → AreOverlaps m.greater j l i r fs → Each (IsSmall es) fs
  list_listed es j i a b l r aj al bi br fs are =
      Each-both {P = IsOfFacts j i} {Q = λ (g : Formed). In fs g} {R = IsSmall es} (λ (g : Formed) of_them here small. record {
        outer = a;
        inner = b;
        outer_is = subst (λ k. slice_get (born es) k ≡ Some a) (sym of_them.outer_is) aj;
        inner_is = subst (λ k. slice_get (born es) k ≡ Some b) (sym of_them.inner_is) bi;
        all = fs;
        all_are = subst (λ k. AreOverlaps m.greater k (equation_of a) g.overlap.inner (equation_of b) fs) (sym of_them.outer_is)
            (subst (λ k. AreOverlaps m.greater j (equation_of a) k (equation_of b) fs) (sym of_them.inner_is)
            (subst (λ (e : Equation). AreOverlaps m.greater j e i (equation_of b) fs) (sym al) (subst (λ (e : Equation). AreOverlaps m.greater j l i e fs) (sym br) are)));
        size = g.size;
        listed = here;
        small = small;
      }) fs (facts_differ m j l i r fs are).of_them (each_in fs)

  meeting_listed : (es : List Entry) (i : ℕ) (f : Fact) → slice_get (born es) i ≡ Some f → (js : List Live) (fs : List Formed) → Each (λ (j : Live). slice_get (map equation_of (born es)) j.number ≡ Some j.equation) js
      → AreMeetings m es i (equation_of f) js fs → Each (IsSmall es) fs
  meeting_listed es i f at _ fs h (with_itself own) = list_listed es i i f f (equation_of f) (equation_of f) at refl at refl fs own
  meeting_listed es i f at (j ∷ js) _ h (with_earlier {inside = xs} {round = ys} {rest = zs} lt inside round rest) =
      let a = get-map equation_of (born es) j.number j.equation h.0 in
      Each-append (IsSmall es) xs (ys ++ zs) (list_listed es j.number i a.0 f j.equation (equation_of f) a.1 a.2 at refl xs inside)
      (Each-append (IsSmall es) ys zs (list_listed es i j.number f a.0 (equation_of f) j.equation at refl a.1 a.2 ys round) (meeting_listed es i f at js zs h.1 rest))
  meeting_listed es i f at (j ∷ js) fs h (not_with_later ge rest) = meeting_listed es i f at js fs h.1 rest

  pairs_listed : (axioms : List Equation) (es fs : List Entry) (gs : List Formed) → Each (IsSmall es) gs → Each (HasOrigin axioms es) (map (pair_by fs) gs)
  pairs_listed axioms es fs [] h = tt
  pairs_listed axioms es fs (g ∷ gs) h = ((λ ne. h.0 (λ e. ne (ap (condition_by fs g.overlap) e))), pairs_listed axioms es fs gs h.1)

  -- the calls

  abbrev Knows : Opening → State → Type 0
  Knows o s = Each (HasOrigin o.axioms s.entries) s.pairs

  knows_kills : (o : Opening) (c k : ℕ) (s : State) → k < length (born s.entries) → Knows o s → Knows o (kills c k s)
  knows_kills o c k s l h = elim (cases_Bool (is_dead s.entries k)) as (λ _. Knows o (kills c k s)) [
    | inl e ↦ rw e h
    | inr e ↦ rw e (dying)
  ]
    where
      dying : Knows o (dies c k s)
      dying =
          Each-push (HasOrigin o.axioms (s.entries ++ Dies k c ∷ [])) s.pairs _ (origins_grown o.axioms s.entries (s.entries ++ Dies k c ∷ []) s.pairs (record { more = Dies k c ∷ []; is = refl }) h)
          (λ ne. origin_more o.axioms s.entries (Dies k c ∷ []) (Revived k) l)

  knows_each : (o : Opening) (c n : ℕ) (ks : List ℕ) (s : State) → Each (λ k. k < n) ks → n ≤ length (born s.entries) → Knows o s → Knows o (each (kills c) ks s)
  knows_each o c n [] s l low h = h
  knows_each o c n (k ∷ ks) s l low h =
      let lt : k < n = l.0 in
      let g = kills_grew c k s in
      let e : length (born ((kills c k s).entries)) ≡ length (born s.entries) + length (born g.more) = ap (λ (es : List Entry). length (born es)) g.is ∙ ap length (born-append s.entries g.more) ∙ length-append (born s.entries) (born g.more) in
      knows_each o c n ks (kills c k s) l.1 (omega arith) (knows_kills o c k s (omega arith) h)

  knows_draws : (o : Opening) (w : ℕ) (s : State) (r : Reply) (u : State) → Draws o w s r u → Knows o s → Knows o u
  knows_draws o w s _ _ (verdict_stands v e) h = h
  knows_draws o w s _ _ (goal_is_due g e f) h = h
  knows_draws o w s _ _ (fact_is_unmet i n f) h = h
  knows_draws o w s r u (orphan_is_dropped p n e f d) h = knows_draws o w (drops w p.number s) r u d (origins_changed o.axioms s.entries s.pairs Orphan p.number (small_head s p e) h)
  knows_draws o w s _ _ (goal_is_continued g l f room) h = h
  knows_draws o w s _ _ (pair_is_drawn p x l f e at room) h = origins_changed o.axioms s.entries s.pairs (OutTo w) p.number (small_head s p e) h
  knows_draws o w s _ _ (budget_is_out l b c d) h = h
  knows_draws o w s _ _ (budget_is_spent l b c d) h = h
  knows_draws o w s _ _ (all_is_out l b c) h = h
  knows_draws o w s _ _ (all_is_done l b c) h = h

  knows_goal : (o : Opening) (kind : ℕ → ℕ → GoalEnd → Happening) (t : Out) (g : ℕ) (l r : Chain) (stop : Stop) (s u : State) → GoalEnds kind t g l r stop s u → Knows o s → Knows o u
  knows_goal o kind t g l r stop s _ (ends_meet e) h = h
  knows_goal o kind t g l r stop s _ (ends_differ c e a) h = h

  knows_meets : (o : Opening) (t : Out) (i pairs : ℕ) (does : State → State) (s u : State) → ((x : State) → x.entries ≡ s.entries → Knows o x → Knows o (does x)) → Meets o t i pairs does s u → Knows o s → Knows o u
  knows_meets o t i pairs does s _ g (within_limit died a b) h = g (is_met i (accepts t (CommitMeet i pairs died) s)) refl h
  knows_meets o t i pairs does s _ g (past_limit more a b) h = h

  -- the overlaps that a meeting forms are listed
  knows_visits : (o : Opening) (i n : ℕ) (ks : List ℕ) (fs : List Formed) (f : Fact) (x : State) → slice_get (born (take n x.entries)) i ≡ Some f → AreMeetings m (take n x.entries) i (equation_of f) (live (take n x.entries)) fs
      → Each (λ k. k < length (born x.entries)) ks → Knows o x → Knows o (visits i ks fs x)
  knows_visits o i n ks fs f x at meets low h =
      Each-append (HasOrigin o.axioms ((each (kills i) ks x).entries)) (each (kills i) ks x).pairs (map (pair_by (each (kills i) ks x).entries) fs)
      (knows_each o i (length (born x.entries)) ks x low (omega arith) h)
      (origins_grown o.axioms (take n x.entries) ((each (kills i) ks x).entries) (map (pair_by (each (kills i) ks x).entries) fs) grown
      (pairs_listed o.axioms (take n x.entries) ((each (kills i) ks x).entries) fs (meeting_listed (take n x.entries) i f at (live (take n x.entries)) fs (live_named o.axioms (take n x.entries)) meets)))
    where
      grown : Grew (take n x.entries) ((each (kills i) ks x).entries)
      grown =
          let g = each_grew i ks x in
          record { more = drop n x.entries ++ g.more; is = g.is ∙ ap (λ (z : List Entry). z ++ g.more) (sym (take-append-drop n x.entries)) ∙ append_assoc (take n x.entries) (drop n x.entries) g.more }

  born_front : (n : ℕ) (es : List Entry) → length (born (take n es)) ≤ length (born es)
  born_front n es =
      let e : length (born es) ≡ length (born (take n es)) + length (born (drop n es)) = ap (λ (z : List Entry). length (born z)) (sym (take-append-drop n es)) ∙ ap length (born-append (take n es) (drop n es)) ∙ length-append (born (take n es)) (born (drop n es)) in
      omega arith

  small_task : (o : Opening) (s : State) (t : Out) (p : ℕ) (a : Origin) → Kept o s → out_at t.ticket s.out ≡ Some t → t.job ≡ Join p a → (x : Pair) → slice_get s.pairs p ≡ Some x → x.condition ≡ Large → ⊥
  small_task o s t p a k at is x there q = small_busy s.pairs p t.worker (subst (λ (j : Job). IsBusy s.pairs s.goals s.meetings t.worker j) is (at_task o s t k at)) x there q

  knows_commits : (o : Opening) (s : State) (t : Out) (f : Finding) (u : State) → Kept o s → out_at t.ticket s.out ≡ Some t → IsResult m o.axioms (take t.front s.entries) t.job f → Knows o s → Commits o t f s u → Knows o u
  knows_commits o s t f _ k at right h (is_late v e) = h
  knows_commits o s t _ u k at right h (goal_ends {l = l} {r = r} {stop = stop} g x y e is b) = knows_goal o CommitGoal t g l r stop s u b h
  knows_commits o s t _ u k at right h (more_ends {l = l} {r = r} {stop = stop} g x y e is b) = knows_goal o CommitMore t g l r stop s u b h
  knows_commits o s t _ _ k at right h (pair_joins p a e is) = origins_changed o.axioms s.entries s.pairs Done p (small_task o s t p a k at is) h
  knows_commits o s t _ _ k at right h (fact_is_kept {f = f} p a e is) =
      origins_grown o.axioms s.entries (s.entries ++ Born f ∷ []) (change (λ (x : Pair). record x { condition = Done }) s.pairs p) (record { more = Born f ∷ []; is = refl })
      (origins_changed o.axioms s.entries s.pairs Done p (small_task o s t p a k at is) h)
  knows_commits o s t _ u k at right h (fact_is_stale {k = c} i e is b) =
      let low : i < length s.meetings = below s.meetings i Visiting (subst (λ (j : Job). IsBusy s.pairs s.goals s.meetings t.worker j) is (at_task o s t k at)) in
      let len : length s.meetings ≡ length (born s.entries) = k.facts.each_meets in
      knows_meets o t i 0 (λ y. kills c i y) s u (λ x q z. knows_kills o c i x (subst (λ (es : List Entry). i < length (born es)) (sym q) (omega arith)) z) b h
  knows_commits o s t _ u k at right h (fact_is_dead i e is d b) = knows_meets o t i 0 stays s u (λ x q z. z) b h
  knows_commits o s t _ u k at right h (fact_meets {ks = ks} {fs = fs} i e is d b) =
      let r = result_lists m o.axioms (take t.front s.entries) i ks fs t.job (Visited ks fs) right is refl in
      let c = result_meets m o.axioms (take t.front s.entries) t.job (Visited ks fs) right i ks fs is refl in
      let low : Each (λ n. n < length (born s.entries)) ks = Each-map (λ (n : ℕ) (l : n < length (born (take t.front s.entries))). (let g = born_front t.front s.entries in let q : n < length (born s.entries) = omega arith in q)) ks c.kills_born in
      knows_meets o t i (newly_waiting fs (each (λ n. kills i n) ks s)) (λ y. visits i ks fs y) s u
      (λ x q z. knows_visits o i t.front ks fs r.fact x (subst (λ (es : List Entry). slice_get (born (take t.front es)) i ≡ Some r.fact) (sym q) r.at)
      (subst (λ (es : List Entry). AreMeetings m (take t.front es) i (equation_of r.fact) (live (take t.front es)) fs) (sym q) r.meets)
      (subst (λ (es : List Entry). Each (λ n. n < length (born es)) ks) (sym q) low) z) b h

  knows_restored : (o : Opening) (n w fr : ℕ) (j : Job) (s : State) → (let t : Out = record { ticket = n; worker = w; job = j; front = fr } in Kept o s → out_at n s.out ≡ Some t → Knows o s → Knows o (reclaims t s))
  knows_restored o n w fr (Goal g l r) s k at h = h
  knows_restored o n w fr (More g l r) s k at h = h
  knows_restored o n w fr (Meet i) s k at h = h
  knows_restored o n w fr (Join p a) s k at h = origins_changed o.axioms s.entries s.pairs Waiting p (small_task o s (record { ticket = n; worker = w; job = Join p a; front = fr }) p a k at refl) h

  knows_recalled : (o : Opening) (ts : List Out) (s : State) → s.out ≡ ts → Kept o s → Knows o s → Knows o (each reclaims ts s)
  knows_recalled o [] s e k h = h
  knows_recalled o (t ∷ ts) s e k h =
      let same : (t.ticket == t.ticket) ≡ true = eq-eqb t.ticket t.ticket refl in
      let at : out_at t.ticket s.out ≡ Some t = rw (e, same) refl in
      let less : without t.ticket (t ∷ ts) ≡ ts = rw same refl in
      knows_recalled o ts (reclaims t s) (out_restored t.ticket t.worker t.front t.job s ∙ ap (without t.ticket) e ∙ less) (kept_reclaim o s t k at) (knows_restored o t.ticket t.worker t.front t.job s k at h)

  knows_audits : (o : Opening) (f : Fact) (s u : State) (r : AuditReply) → Audits o f s r u → Knows o s → Knows o u
  knows_audits o f s _ _ (is_closed v e) h = h
  knows_audits o f s _ _ (is_spent e c) h = h
  knows_audits o f s _ _ (is_kept e c) h = origins_grown o.axioms s.entries (s.entries ++ Born f ∷ []) s.pairs (record { more = Born f ∷ []; is = refl }) h

  knows_closes : (o : Opening) (s u : State) (outcome : Outcome) (v : Verdict) → Closes s outcome v u → Knows o s → Knows o u
  knows_closes o s _ _ _ converges h = h
  knows_closes o s _ _ _ has_large h = h
  knows_closes o s _ _ _ has_stuck h = h

  axioms_known : (axioms : List Equation) (k : ℕ) (es : List Equation) → k + length es ≤ length axioms → Each (HasOrigin axioms []) (axiom_pairs k es)
  axioms_known axioms k [] l = tt
  axioms_known axioms k (e ∷ es) l = ((λ ne. (let low : k < length axioms = omega arith in low)), axioms_known axioms (k + 1) es (omega arith))

  knows_starts : (o : Opening) (s : State) → Starts o s → Knows o s
  knows_starts o _ (axioms_wait l) = axioms_known o.axioms 0 o.axioms (omega arith)
  knows_starts o _ (too_many_axioms l) = tt

  pub origins_known : (o : Opening) (s : State) → Reaches m o s → OriginsAreKnown m o s
  origins_known o s (starts a) = knows_starts o s a
  origins_known o u (draws_on {s = s} {r = r} w l a d) = knows_draws o w s r u d (origins_known o s a)
  origins_known o u (commits_on {s = s} {f = f} t at right a c) = knows_commits o s t f u (kept_reaches m o s a) at right (origins_known o s a) c
  origins_known o _ (reclaims_on {s = s} t at a) = knows_restored o t.ticket t.worker t.front t.job s (kept_reaches m o s a) at (origins_known o s a)
  origins_known o _ (recalls_on {s = s} a) = knows_recalled o s.out s refl (kept_reaches m o s a) (origins_known o s a)
  origins_known o u (audits_on {s = s} {answer = r} x may a b) = knows_audits o x.fact s u r b (origins_known o s a)
  origins_known o u (closes_on {s = s} {outcome = outcome} {v = v} d f a c) = knows_closes o s u outcome v c (origins_known o s a)
