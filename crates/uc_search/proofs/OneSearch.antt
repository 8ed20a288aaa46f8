-- One worker makes one search.
use Rattle.std.proofs.Common.{◌≡◌, ℕ, List, Option, Some, None, take, refl, ap, sym, subst}
use Rattle.uc_order.specs.Laws.{Meaning, Laws}
use Rattle.uc_machine.specs.declared.event.Verdict.{Verdict}
use Rattle.uc_machine.specs.declared.task.Finding.{Finding}
use Rattle.uc_machine.specs.declared.task.Missing.{Missing}
use Rattle.uc_machine.specs.declared.task.Outcome.{Outcome}
use Rattle.uc_machine.specs.declared.task.Outcome.TheVariants.{Missing as Lacks}
use Rattle.uc_machine.specs.State.{Opening, State, Out}
use Rattle.uc_machine.specs.Draws.{Reply, Drew, Idle, Drained, Closed, Draws}
use Rattle.uc_machine.specs.Commits.{Commits}
use Rattle.uc_machine.specs.Runs.{KeptAs, ClosedBy, Closes}
use Rattle.uc_machine.proofs.OneDraw.{one_draw}
use Rattle.uc_machine.proofs.OneCall.{one_commit, one_audit, one_close, one_start}
use Rattle.uc_runs.proofs.OneResult.{one_result, one_final}
use Rattle.uc_search.specs.Working.{CommitsResult, TakesTurn, Works, no_turn, one_more_turn, WorksUntil}
use Rattle.uc_search.proofs.InOrder.{AuditsAll, all_are_kept, one_is_kept, book_is_closed, audits_all}
use Rattle.uc_search.specs.Searching.{EndsRound, is_closed_by, audits_missing, Rounds, gets_verdict, gets_drained, Searches, last_round, next_round, IsSearched}

-- the answer isn't a task
abbrev IsNoTask : Reply → Type 0
IsNoTask (Drew t) = ⊥
IsNoTask (Idle n) = Unit {0}
IsNoTask Drained = Unit {0}
IsNoTask (Closed v) = Unit {0}

a_task : {A : Type 0} (r : Reply) (t : Out) → IsNoTask r → r ≡ Drew t → A
a_task r t n e = absurd (subst IsNoTask e n)

same_task : (t u : Out) → Drew t ≡ Drew u → t ≡ u
same_task t u e = cc

same_closed : (v u : Verdict) → Closed v ≡ Closed u → v ≡ u
same_closed v u e = cc

closed_or_drained : {A : Type 0} (v : Verdict) → Closed v ≡ Drained → A
closed_or_drained v e = absurd (cc)

kept_or_closed : {A : Type 0} (n : ℕ) (v : Verdict) → KeptAs n ≡ ClosedBy v → A
kept_or_closed n v e = absurd (cc)

same_closing : (v u : Verdict) → ClosedBy v ≡ ClosedBy u → v ≡ u
same_closing v u e = cc

same_missing : (xs ys : List Missing) → (let a : Outcome = Lacks xs in a ≡ Lacks ys) → xs ≡ ys
same_missing xs ys e = cc

no_close : {A : Type 0} (s : State) (xs : List Missing) (v : Verdict) (u : State) → Closes s (Lacks xs) v u → A
no_close s xs v u c = elim c [ ]

same_verdict : (v u : Verdict) → (let a : Option Verdict = Some v in a ≡ Some u) → v ≡ u
same_verdict v u e = cc

some_or_none : {A : Type 0} (v : Verdict) → (let a : Option Verdict = Some v in a ≡ None) → A
some_or_none v e = absurd (cc)

-- the same verdict, if one stands, and the same state
abbrev Same : Option Verdict → State → Option Verdict → State → Type 0
Same a u b v = (a ≡ b) × (u ≡ v)

one_audits : (o : Opening) (xs : List Missing) (s : State) (a b : Option Verdict) (u v : State) → AuditsAll o xs s a u → AuditsAll o xs s b v → Same a u b v
one_audits o _ s _ _ _ _ all_are_kept all_are_kept = (refl, refl)
one_audits o _ s a b u v (one_is_kept {x = x} {xs = xs} {u = p} {n = n} c more) (one_is_kept {u = q} {n = k} d rest) =
    let e : p ≡ q = (one_audit o x.fact s (KeptAs n) (KeptAs k) p q c d).1 in
    one_audits o xs p a b u v more (subst (λ (z : State). AuditsAll o xs z b v) (sym e) rest)
one_audits o _ s a _ u _ (one_is_kept {x = x} {u = p} {n = n} c more) (book_is_closed {u = q} {v = w} d) = kept_or_closed n w (one_audit o x.fact s (KeptAs n) (ClosedBy w) p q c d).0
one_audits o _ s _ b _ v (book_is_closed {x = x} {u = p} {v = w} c) (one_is_kept {u = q} {n = n} d rest) = kept_or_closed n w (sym (one_audit o x.fact s (ClosedBy w) (KeptAs n) p q c d).0)
one_audits o _ s _ _ _ _ (book_is_closed {x = x} {u = p} {v = w} c) (book_is_closed {u = q} {v = z} d) =
    let e = one_audit o x.fact s (ClosedBy w) (ClosedBy z) p q c d in
    (ap (λ (y : Verdict). Some y) (same_closing w z e.0), e.1)

module _ (m : Meaning) (laws : Laws m) (o : Opening) where
  one_end : (s : State) (a b : Option Verdict) (u v : State) → EndsRound m o s a u → EndsRound m o s b v → Same a u b v
  one_end s _ _ u v (is_closed_by {outcome = x} {v = p} f c) (is_closed_by {outcome = y} {v = q} g d) =
      let e : x ≡ y = one_final m laws o.axioms s x y f g in
      let r = one_close s x p q u v c (subst (λ (z : Outcome). Closes s z q v) (sym e) d) in
      (ap (λ (z : Verdict). Some z) r.0, r.1)
  one_end s _ b u v (is_closed_by {outcome = x} {v = p} f c) (audits_missing {missing = ys} g d) =
      let e : x ≡ Lacks ys = one_final m laws o.axioms s x (Lacks ys) f g in
      no_close s ys p u (subst (λ (z : Outcome). Closes s z p u) e c)
  one_end s a _ u v (audits_missing {missing = xs} f c) (is_closed_by {outcome = y} {v = q} g d) =
      let e : y ≡ Lacks xs = one_final m laws o.axioms s y (Lacks xs) g f in
      no_close s xs q v (subst (λ (z : Outcome). Closes s z q v) e d)
  one_end s a b u v (audits_missing {missing = xs} f c) (audits_missing {missing = ys} g d) =
      let e : xs ≡ ys = same_missing xs ys (one_final m laws o.axioms s (Lacks xs) (Lacks ys) f g) in
      one_audits o xs s a b u v (audits_all o xs s a u c) (subst (λ (zs : List Missing). AuditsAll o zs s b v) (sym e) (audits_all o ys s b v d))

  one_result_commits : (t : Out) (s u v : State) → CommitsResult m o t s u → CommitsResult m o t s v → u ≡ v
  one_result_commits t s u v a b =
      let f : a.finding ≡ b.finding = one_result m laws o.axioms (take t.front s.entries) t.job a.finding b.finding a.is_result b.is_result in
      one_commit o t a.finding s u v a.commits (subst (λ (x : Finding). Commits o t x s v) (sym f) b.commits)

  module _ (w : ℕ) where
    one_turn : (s u v : State) → TakesTurn m o w s u → TakesTurn m o w s v → u ≡ v
    one_turn s u v a b =
        let d = one_draw o w s (Drew a.task) (Drew b.task) a.drawn b.drawn a.draws b.draws in
        let t : a.task ≡ b.task = same_task a.task b.task d.0 in
        let c : CommitsResult m o a.task b.drawn v = subst (λ (x : Out). CommitsResult m o x b.drawn v) (sym t) b.commits in
        one_result_commits a.task a.drawn u v a.commits (subst (λ (x : State). CommitsResult m o a.task x v) (sym d.1) c)

    -- turns from the first on, until a draw answers so
    data Until : State → Reply → State → Type 0 where
      draws_last : {s u : State} {r : Reply} → Draws o w s r u → Until s r u
      turns_first : {s u v : State} {r : Reply} → TakesTurn m o w s u → Until u r v → Until s r v

    from_first : (s u : State) → Works m o w s u → (r : Reply) (v : State) → Until u r v → Until s r v
    from_first s _ no_turn r v x = x
    from_first s v (one_more_turn {u = u} a t) r z x = from_first s u a r z (turns_first t x)

    one_until : (s : State) (a b : Reply) (u v : State) → IsNoTask a → IsNoTask b → Until s a u → Until s b v → (a ≡ b) × (u ≡ v)
    one_until s a b u v x y (draws_last d) (draws_last e) = one_draw o w s a b u v d e
    one_until s a b u v x y (draws_last d) (turns_first t e) = a_task a t.task x (one_draw o w s a (Drew t.task) u t.drawn d t.draws).0
    one_until s a b u v x y (turns_first t d) (draws_last e) = a_task b t.task y (one_draw o w s b (Drew t.task) v t.drawn e t.draws).0
    one_until s a b u v x y (turns_first {u = p} t d) (turns_first {u = q} k e) =
        let z : p ≡ q = one_turn s p q t k in
        one_until p a b u v x y d (subst (λ (i : State). Until i b v) (sym z) e)

    one_work : (s : State) (a b : Reply) (u v : State) → IsNoTask a → IsNoTask b → WorksUntil m o w s a u → WorksUntil m o w s b v → (a ≡ b) × (u ≡ v)
    one_work s a b u v x y c d = one_until s a b u v x y (from_first s c.last c.works a u (draws_last c.draws)) (from_first s d.last d.works b v (draws_last d.draws))

    one_round : (s : State) (a b : Option Verdict) (u v : State) → Rounds m o w s a u → Rounds m o w s b v → Same a u b v
    one_round s _ _ u v (gets_verdict {v = p} c) (gets_verdict {v = q} d) =
        let e = one_work s (Closed p) (Closed q) u v tt tt c d in
        (ap (λ (z : Verdict). Some z) (same_closed p q e.0), e.1)
    one_round s _ b u v (gets_verdict {v = p} c) (gets_drained {drained = y} d k) = closed_or_drained p (one_work s (Closed p) Drained u y tt tt c d).0
    one_round s a _ u v (gets_drained {drained = x} c h) (gets_verdict {v = q} d) = closed_or_drained q (one_work s (Closed q) Drained v x tt tt d c).0
    one_round s a b u v (gets_drained {drained = x} c h) (gets_drained {drained = y} d k) =
        let e : x ≡ y = (one_work s Drained Drained x y tt tt c d).1 in
        one_end x a b u v h (subst (λ (z : State). EndsRound m o z b v) (sym e) k)

    from_one : (s : State) (a b : Verdict) (u v : State) → Searches m o w s a u → Searches m o w s b v → (a ≡ b) × (u ≡ v)
    from_one s a b u v (last_round c) (last_round d) = (let e = one_round s (Some a) (Some b) u v c d in (same_verdict a b e.0, e.1))
    from_one s a b u v (last_round c) (next_round {u = y} d rest) = some_or_none a (one_round s (Some a) None u y c d).0
    from_one s a b u v (next_round {u = x} c more) (last_round d) = some_or_none b (one_round s (Some b) None v x d c).0
    from_one s a b u v (next_round {u = x} c more) (next_round {u = y} d rest) =
        let e : x ≡ y = (one_round s None None x y c d).1 in
        from_one x a b u v more (subst (λ (z : State). Searches m o w z b v) (sym e) rest)

    pub one_search : (a b : Verdict) (u v : State) → IsSearched m o w a u → IsSearched m o w b v → (a ≡ b) × (u ≡ v)
    one_search a b u v c d =
        let e : c.start ≡ d.start = one_start o c.start d.start c.starts d.starts in
        from_one c.start a b u v c.searches (subst (λ (z : State). Searches m o w z b v) (sym e) d.searches)
