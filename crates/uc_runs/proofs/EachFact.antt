-- What each fact of a run is: where a fact that the trial of a pair gives is so if the facts born before are, each one is.
use Rattle.std.proofs.Common.{◌≡◌, ℕ, zero, suc, ◌+◌, List, [], ◌∷◌, ◌++◌, length, Some, refl, sym, ap, ◌∙◌, inl, inr, subst, map, take, drop, slice_get}
use Rattle.std.specs.Prelude.{not}
use Rattle.std.proofs.lemmas.Bool.{cases_Bool}
use Rattle.std.proofs.lemmas.List.{take-append-drop}
use Rattle.uc_term.specs.declared.equation.Equation.{Equation}
use Rattle.uc_order.specs.Laws.{Meaning}
use Rattle.uc_order.specs.Members.{In, in_front, in_rest}
use Rattle.uc_fact.specs.declared.fact.Fact.{Fact}
use Rattle.uc_fact.specs.declared.fact.Origin.{Origin}
use Rattle.uc_fact.specs.Live.{Live, numbered_from, equation_of, equations_of}
use Rattle.uc_shelf.specs.declared.entry.Entry.{Entry}
use Rattle.uc_shelf.specs.declared.entry.Entry.TheVariants.{Born}
use Rattle.uc_shelf.specs.Entries.{born, is_dead, equations, live}
use Rattle.uc_machine.specs.declared.event.Happening.TheVariants.{CommitGoal, CommitMore}
use Rattle.uc_machine.specs.declared.task.Finding.{Finding}
use Rattle.uc_machine.specs.declared.task.Finding.TheVariants.{Kept as KeptFact}
use Rattle.uc_machine.specs.declared.task.Job.{Job}
use Rattle.uc_machine.specs.declared.task.Missing.{Missing}
use Rattle.uc_machine.specs.declared.task.Outcome.{Outcome}
use Rattle.uc_machine.specs.declared.task.Outcome.TheVariants.{Missing as Lacks}
use Rattle.uc_machine.specs.Commits.{Meets, within_limit, past_limit, newly_waiting, stays, Commits, is_late, goal_ends, more_ends, pair_joins, fact_is_kept, fact_is_stale, fact_is_dead, fact_meets}
use Rattle.uc_machine.specs.Effects.{kills, visits, reclaims, recalls}
use Rattle.uc_machine.specs.Finals.{Tests, all_tested, is_joined, is_missing, IsFinal, some_missing, some_large, some_stuck, all_converges}
use Rattle.uc_machine.specs.Lists.{each, Each}
use Rattle.uc_machine.specs.Promises.{Grew}
use Rattle.uc_machine.specs.Results.{Trial, IsTrial, GivesFact, IsResult, goal_comes_to, more_comes_to, pair_is_joined, pair_is_kept, fact_is_stale as comes_stale, fact_meets as comes_to_meet}
use Rattle.uc_machine.specs.Runs.{Starts, axioms_wait, too_many_axioms, AuditReply, Audits, is_closed, is_spent, is_kept, MayAudit, Reaches, starts, draws_on, commits_on, reclaims_on, recalls_on, audits_on, closes_on}
use Rattle.uc_machine.specs.State.{Opening, State, Out}
use Rattle.uc_machine.proofs.Audited.{was_missing}
use Rattle.uc_machine.proofs.Blocks.{born-append, born-dies}
use Rattle.uc_machine.proofs.Grows.{reclaim_same, recall_same}
use Rattle.uc_machine.proofs.Lists.{Each-front, Each-push}
use Rattle.uc_machine.proofs.Meetings.{Each-filter}
use Rattle.uc_runs.proofs.Earlier.{draws_same, closes_same, goal_same, audited_grew}

pub each_get : {A : Type 0} (P : A → Type 0) (xs : List A) → Each P xs → (n : ℕ) (x : A) → slice_get xs n ≡ Some x → P x
each_get P [] a n x e = absurd (cc)
each_get P (y ∷ xs) a zero x e = let p : y ≡ x = cc in subst P p a.0
each_get P (y ∷ xs) a (suc n) x e = each_get P xs a.1 n x e

-- of two lists of one length, the one has an item where the other has
pub get_there : {A B : Type 0} (xs : List A) (ys : List B) (n : ℕ) (y : B) → length xs ≡ length ys → slice_get ys n ≡ Some y → (x : A) × (slice_get xs n ≡ Some x)
get_there xs [] n y e at = absurd (cc)
get_there [] (z ∷ ys) n y e at = absurd (cc)
get_there (x ∷ xs) (z ∷ ys) zero y e at = (x, refl)
get_there (x ∷ xs) (z ∷ ys) (suc n) y e at = get_there xs ys n y (suc_same e) at
  where
    suc_same : {a b : ℕ} → suc a ≡ suc b → a ≡ b
    suc_same q = cc

-- the equations of facts that are born, and of those that live

pub equations_each : (P : Equation → Type 0) (fs : List Fact) → Each (λ (f : Fact). P (equation_of f)) fs → Each P (map equation_of fs)
equations_each P [] a = tt
equations_each P (f ∷ fs) a = (a.0, equations_each P fs a.1)

numbered_each : (P : Equation → Type 0) (es : List Equation) (n : ℕ) → Each P es → Each (λ (f : Live). P f.equation) (numbered_from n es)
numbered_each P [] n a = tt
numbered_each P (e ∷ es) n a = (a.0, numbered_each P es (n + 1) a.1)

unnumbered_each : (P : Equation → Type 0) (fs : List Live) → Each (λ (f : Live). P f.equation) fs → Each P (equations_of fs)
unnumbered_each P [] a = tt
unnumbered_each P (f ∷ fs) a = (a.0, unnumbered_each P fs a.1)

pub live_each : (P : Equation → Type 0) (es : List Entry) → Each (λ (f : Fact). P (equation_of f)) (born es) → (n : ℕ) (e : Equation) → slice_get (equations_of (live es)) n ≡ Some e → P e
live_each P es a =
    let numbers = numbered_each P (equations es) 0 (equations_each P (born es) a) in
    each_get P (equations_of (live es)) (unnumbered_each P (live es) (Each-filter (λ (f : Live). P f.equation) (λ (f : Live). not (is_dead es f.number)) (numbered_from 0 (equations es)) numbers))

-- the facts of a front, and those of an earlier state, are among those that are born

pub front_each : (P : Fact → Type 0) (es : List Entry) (n : ℕ) → Each P (born es) → Each P (born (take n es))
front_each P es n a =
    let q : born es ≡ born (take n es) ++ born (drop n es) = ap born (sym (take-append-drop n es)) ∙ born-append (take n es) (drop n es) in
    Each-front P (born (take n es)) (born (drop n es)) (subst (Each P) q a)

earlier_each : (P : Fact → Type 0) (es fs : List Entry) → Grew es fs → Each P (born fs) → Each P (born es)
earlier_each P es fs g a =
    let q : born fs ≡ born es ++ born g.more = ap born g.is ∙ born-append es g.more in
    Each-front P (born es) (born g.more) (subst (Each P) q a)

module _ (m : Meaning) (axioms : List Equation) (P : Fact → Type 0) where
  -- over facts that are so, each fact that a trial gives is
  abbrev pub IsGivenOn : Type 0
  IsGivenOn = (es : List Entry) → Each P (born es) → (origin : Origin) (front : ℕ) (t : Trial) (f : Fact) → IsTrial m axioms es origin t → GivesFact m origin front t f → P f

  module _ (given : IsGivenOn) where
    -- what a Join that keeps a fact publishes, and what an audit publishes

    result_each : (es : List Entry) → Each P (born es) → (j : Job) (f : Fact) (found : Finding) → IsResult m axioms es j found → found ≡ KeptFact f → P f
    result_each es a j f _ (pair_is_kept {origin = origin} {t = t} {f = g} trial apart gives) e = let same : g ≡ f = cc in subst P same (given es a origin (length es) t g trial gives)
    result_each es a j f _ (goal_comes_to b) e = absurd (cc)
    result_each es a j f _ (more_comes_to b) e = absurd (cc)
    result_each es a j f _ (pair_is_joined b c) e = absurd (cc)
    result_each es a j f _ (comes_stale b c) e = absurd (cc)
    result_each es a j f _ (comes_to_meet b c d g) e = absurd (cc)

    tested_each : (es : List Entry) → Each P (born es) → (os : List Origin) (ms : List Missing) → Tests m axioms es os ms → (x : Missing) → In ms x → P x.fact
    tested_each es h _ _ all_tested x i = elim i [ ]
    tested_each es h _ ms (is_joined {os = os} t a b rest) x i = tested_each es h os ms rest x i
    tested_each es h _ _ (is_missing {o = o} {os = os} {ms = ms} {f = f} t a b g rest) x in_front = given es h o (length es) t f a g
    tested_each es h _ _ (is_missing {o = o} {os = os} {ms = ms} {f = f} t a b g rest) x (in_rest i) = tested_each es h os ms rest x i

    final_each : (s : State) → Each P (born s.entries) → (ms : List Missing) (outcome : Outcome) → IsFinal m axioms s outcome → outcome ≡ Lacks ms → (x : Missing) → In ms x → P x.fact
    final_each s h ms _ (some_missing {ms = ns} a tests ne) e x i = (let same : ns ≡ ms = cc in tested_each s.entries h _ ns tests x (subst (λ (z : List Missing). In z x) (sym same) i))
    final_each s h ms _ (some_large a b c) e x i = absurd (cc)
    final_each s h ms _ (some_stuck g a b c d) e x i = absurd (cc)
    final_each s h ms _ (all_converges a b c d) e x i = absurd (cc)

    born_each : (es : List Entry) (f : Fact) → P f → Each P (born es) → Each P (born (es ++ Born f ∷ []))
    born_each es f h a = subst (Each P) (sym (born-append es (Born f ∷ []))) (Each-push P (born es) f a h)

    kills_each : (i k : ℕ) (s : State) → Each P (born s.entries) → Each P (born ((kills i k s).entries))
    kills_each i k s a = elim (cases_Bool (is_dead s.entries k)) as (λ _. Each P (born ((kills i k s).entries))) [
      | inl e ↦ rw e a
      | inr e ↦ rw e (subst (Each P) (sym (born-dies s.entries k i)) a)
    ]

    all_kills_each : (i : ℕ) (ks : List ℕ) (s : State) → Each P (born s.entries) → Each P (born ((each (kills i) ks s).entries))
    all_kills_each i [] s a = a
    all_kills_each i (k ∷ ks) s a = all_kills_each i ks (kills i k s) (kills_each i k s a)

    same_each : (es fs : List Entry) → fs ≡ es → Each P (born es) → Each P (born fs)
    same_each es fs e a = subst (λ (z : List Entry). Each P (born z)) (sym e) a

    meets_each : (o : Opening) (t : Out) (i pairs : ℕ) (does : State → State) (s u : State) → ((x : State) → Each P (born x.entries) → Each P (born ((does x).entries))) → Meets o t i pairs does s u → Each P (born s.entries) → Each P (born u.entries)
    meets_each o t i pairs does s _ g (within_limit died b c) a = g _ a
    meets_each o t i pairs does s _ g (past_limit more b c) a = a

    commits_each : (o : Opening) (t : Out) (f : Finding) (s u : State) → IsResult m axioms (take t.front s.entries) t.job f → Commits o t f s u → Each P (born s.entries) → Each P (born u.entries)
    commits_each o t f s _ right (is_late v e) a = a
    commits_each o t _ s u right (goal_ends {l = l} {r = r} {stop = stop} g x y e is b) a = same_each s.entries u.entries (goal_same CommitGoal t g l r stop s u b) a
    commits_each o t _ s u right (more_ends {l = l} {r = r} {stop = stop} g x y e is b) a = same_each s.entries u.entries (goal_same CommitMore t g l r stop s u b) a
    commits_each o t _ s _ right (pair_joins p b e is) a = a
    commits_each o t _ s _ right (fact_is_kept {f = f} p b e is) a = born_each s.entries f (result_each (take t.front s.entries) (front_each P s.entries t.front a) t.job f (KeptFact f) right refl) a
    commits_each o t _ s u right (fact_is_stale {k = k} i e is b) a = meets_each o t i 0 (λ y. kills k i y) s u (λ y z. kills_each k i y z) b a
    commits_each o t _ s u right (fact_is_dead i e is d b) a = meets_each o t i 0 stays s u (λ y z. z) b a
    commits_each o t _ s u right (fact_meets {ks = ks} {fs = fs} i e is d b) a = meets_each o t i (newly_waiting fs (each (λ c. kills i c) ks s)) (λ y. visits i ks fs y) s u (λ y z. all_kills_each i ks y z) b a

module _ (m : Meaning) (o : Opening) (P : Fact → Type 0) (given : IsGivenOn m o.axioms P) where
  audits_each : (s u : State) (x : Missing) (r : AuditReply) → MayAudit m o s x → Audits o x.fact s r u → Each P (born s.entries) → Each P (born u.entries)
  audits_each s _ x _ may (is_closed v e) a = a
  audits_each s _ x _ may (is_spent e c) a = a
  audits_each s _ x _ next (is_kept e c) a =
      let may = was_missing m o s x next in
      let before = earlier_each P may.drained.entries s.entries (audited_grew o may.all may.drained (x ∷ may.left) s may.audited) a in
      born_each m o.axioms P given s.entries x.fact (final_each m o.axioms P given may.drained before may.all (Lacks may.all) may.is_final refl x may.among) a

  starts_each : (s : State) → Starts o s → Each P (born s.entries)
  starts_each _ (axioms_wait l) = tt
  starts_each _ (too_many_axioms l) = tt

  pub each_fact : (s : State) → Reaches m o s → Each P (born s.entries)
  each_fact s (starts a) = starts_each s a
  each_fact u (draws_on {s = s} {r = r} w l a d) = same_each m o.axioms P given s.entries u.entries (draws_same o w s r u d) (each_fact s a)
  each_fact u (commits_on {s = s} {f = f} t at right a c) = commits_each m o.axioms P given o t f s u right c (each_fact s a)
  each_fact _ (reclaims_on {s = s} t at a) = same_each m o.axioms P given s.entries ((reclaims t s).entries) (reclaim_same t.ticket t.worker t.front t.job s) (each_fact s a)
  each_fact _ (recalls_on {s = s} a) = same_each m o.axioms P given s.entries ((recalls s).entries) (recall_same s.out s) (each_fact s a)
  each_fact u (audits_on {s = s} {answer = r} x may a b) = audits_each s u x r may b (each_fact s a)
  each_fact u (closes_on {s = s} {outcome = outcome} {v = v} d f a c) = same_each m o.axioms P given s.entries u.entries (closes_same s u outcome v c) (each_fact s a)
