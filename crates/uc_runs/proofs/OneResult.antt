-- A task has one result over the entries of its front, and the final pass one answer.
use Rattle.std.proofs.Common.{◌≡◌, ℕ, ◌-◌, ◌≤◌, List, [], ◌∷◌, ◌++◌, length, Option, Some, None, refl, ap, ap₂, sym, ◌∙◌, arith, subst}
use Rattle.uc_term.specs.declared.equation.Equation.{Equation}
use Rattle.uc_term.specs.Tree.{Tree}
use Rattle.uc_order.specs.Laws.{Meaning, Laws}
use Rattle.uc_fact.specs.declared.chain.Chain.{Chain}
use Rattle.uc_fact.specs.declared.chain.By.TheVariants.{Axiom as ByAxiom, Fact as ByFact}
use Rattle.uc_fact.specs.declared.fact.Fact.{Fact}
use Rattle.uc_fact.specs.declared.fact.Origin.{Origin}
use Rattle.uc_fact.specs.declared.fact.Overlap.{Overlap}
use Rattle.uc_fact.specs.declared.joinable.Joinable.{Joinable}
use Rattle.uc_fact.specs.declared.joinable.Joinable.TheVariants.{Joined as IsJoinedBy}
use Rattle.uc_fact.specs.declared.joinable.Reason.{Reason}
use Rattle.uc_fact.specs.Live.{Live, equation_of}
use Rattle.uc_rewrite.specs.declared.normal.Normal.{Normal}
use Rattle.uc_rewrite.proofs.Unique.{one_normal}
use Rattle.uc_pair.specs.declared.formation.Formation.{Formation}
use Rattle.uc_pair.specs.declared.formation.Formation.TheVariants.{Pair as Forms}
use Rattle.uc_pair.specs.declared.formed.Formed.{Formed}
use Rattle.uc_pair.specs.Overlapping.{read_from}
use Rattle.uc_pair.specs.Pairs.{IsPairOf}
use Rattle.uc_pair.proofs.OnePair.{one_formation}
use Rattle.uc_pair.proofs.Uniqueness.{same_each}
use Rattle.uc_rewrite.specs.Normalising.{IsNormalOf}
use Rattle.uc_ground.specs.Joining.{IsJoined}
use Rattle.uc_ac.specs.Ends.{IsEndsAnswer}
use Rattle.uc_ac.proofs.Ends.{one_ends}
use Rattle.uc_shelf.specs.declared.entry.Entry.{Entry}
use Rattle.uc_shelf.specs.Entries.{live}
use Rattle.uc_machine.specs.declared.task.Finding.{Finding}
use Rattle.uc_machine.specs.declared.task.Finding.TheVariants.{Ends, Joined, Kept, Stale, Met}
use Rattle.uc_machine.specs.declared.task.Job.{Job}
use Rattle.uc_machine.specs.declared.task.Missing.{Missing}
use Rattle.uc_machine.specs.declared.task.Outcome.{Outcome}
use Rattle.uc_machine.specs.declared.task.Outcome.TheVariants.{Missing as Lacks, Large, GoalUnsettled}
use Rattle.uc_fact.specs.Chains.{one_step}
use Rattle.uc_machine.specs.Finals.{OverlapsOf, no_inner, next_inner, AllOverlaps, no_outer, next_outer, Tests, all_tested, is_joined, is_missing, TestsAll, axioms_from, small_ones, first_large, IsFinal, some_missing, some_large, some_stuck, all_converges}
use Rattle.uc_machine.specs.Lists.{At}
use Rattle.uc_machine.specs.Results.{stop_of, Trial, IsPair, of_axiom, of_overlap, of_dead, NormaliseBoth, IsTrial, GivesFact, left_is_greater, right_is_greater, none_is_greater, IsStaleBy, AreKills, no_facts, kills_it, spares_it, is_no_earlier, AreMeetings, with_itself, with_earlier, not_with_later, IsResult, goal_comes_to, more_comes_to, pair_is_joined, pair_is_kept, fact_is_stale, fact_meets}
use Rattle.uc_machine.specs.State.{State, Target}

-- pairs

pair_parts : (l r k q : Tree) (c d : Chain) → (let a : Formation = Forms l r c in a ≡ Forms k q d) → (l ≡ k) × (r ≡ q) × (c ≡ d)
pair_parts l r k q c d e = ((cc), (cc), (cc))

equation_by : (l r k q : Tree) → l ≡ k → r ≡ q → (let a : Equation = record { left = l; right = r } in a ≡ record { left = k; right = q })
equation_by l r k q a b = cc

one_pair : (axioms : List Equation) (es : List Entry) (origin : Origin) (e f : Equation) (c d : Chain) → IsPair axioms es origin e c → IsPair axioms es origin f d → (e ≡ f) × (c ≡ d)
one_pair axioms es _ e f _ _ (of_axiom {k = k} a) (of_axiom b) = let q : e ≡ f = cc in (q, ap (one_step (ByAxiom k)) q)
one_pair axioms es _ _ _ c d (of_overlap {o = o} {a = a} {b = b} {l = l} {r = r} x y p) (of_overlap {a = f} {b = g} {l = k} {r = q} z w s) =
    let fa : f ≡ a = cc in
    let gb : g ≡ b = cc in
    let t : IsPairOf (equation_of a) (equation_of b) o (Forms k q d) = subst (λ (h : Fact). IsPairOf (equation_of a) (equation_of h) o (Forms k q d)) gb (subst (λ (h : Fact). IsPairOf (equation_of h) (equation_of g) o (Forms k q d)) fa s) in
    let same = pair_parts l r k q c d (one_formation (read_from o.outer o.outer_side (equation_of a)) (read_from o.inner o.inner_side (equation_of b)) o.position.0 (Forms l r c) (Forms k q d) p t) in
    (equation_by l r k q same.0 same.1, same.2)
one_pair axioms es _ _ _ _ _ (of_dead {i = i} {f = f} a) (of_dead {f = g} b) = let q : f ≡ g = cc in (ap equation_of q, ap (λ (h : Fact). one_step (ByFact i) (equation_of h)) q)

-- a trial from its parts
abbrev trial_of : Equation → Chain → Normal → Normal → Joinable → Trial
trial_of e c l r a = record { equation = e; chain = c; left = l; right = r; answer = a }

same_trial : (t u : Trial) → t.equation ≡ u.equation → t.chain ≡ u.chain → t.left ≡ u.left → t.right ≡ u.right → t.answer ≡ u.answer → t ≡ u
same_trial t u e c l r a =
    ap (λ z. trial_of z t.chain t.left t.right t.answer) e
    ∙ ap (λ z. trial_of u.equation z t.left t.right t.answer) c
    ∙ ap (λ z. trial_of u.equation u.chain z t.right t.answer) l
    ∙ ap (λ z. trial_of u.equation u.chain u.left z t.answer) r
    ∙ ap (λ z. trial_of u.equation u.chain u.left u.right z) a

joined_by : (a : Joinable) (why : Reason) → a ≡ IsJoinedBy why → IsJoined a
joined_by _ why e = subst IsJoined (sym e) tt

module _ (m : Meaning) (laws : Laws m) where
  both_ways : {A : Type 0} (s t : Tree) → m.greater s t → m.greater t s → A
  both_ways s t a b = absurd (laws.irreflexive s (laws.transitive s t s a b))

  module _ (axioms : List Equation) (es : List Entry) where
    abbrev IsNormal : Tree → Normal → Type 0
    IsNormal t n = IsNormalOf m.greater m.least (live es) 4096 t n

    abbrev IsTold : Tree → Tree → Joinable → Type 0
    IsTold s t a = IsEndsAnswer m (live es) s t a

    one_trial : (origin : Origin) (t u : Trial) → IsTrial m axioms es origin t → IsTrial m axioms es origin u → t ≡ u
    one_trial origin t u i j =
        let p = one_pair axioms es origin t.equation u.equation t.chain u.chain i.pair_is j.pair_is in
        let l : t.left ≡ u.left = one_normal m.greater m.least (live es) 4096 t.equation.left t.left u.left i.left_is (subst (λ (e : Equation). IsNormal e.left u.left) (sym p.0) j.left_is) in
        let r : t.right ≡ u.right = one_normal m.greater m.least (live es) 4096 t.equation.right t.right u.right i.right_is (subst (λ (e : Equation). IsNormal e.right u.right) (sym p.0) j.right_is) in
        let a : t.answer ≡ u.answer = one_ends (live es) m t.left.term t.right.term t.answer u.answer i.answer_is (subst (λ (n : Normal). IsTold n.term t.right.term u.answer) (sym l) (subst (λ (n : Normal). IsTold u.left.term n.term u.answer) (sym r) j.answer_is)) in
        same_trial t u p.0 p.1 l r a

    one_fact : (origin : Origin) (front : ℕ) (t : Trial) (f g : Fact) → GivesFact m origin front t f → GivesFact m origin front t g → f ≡ g
    one_fact origin front t _ _ (left_is_greater a) (left_is_greater b) = refl
    one_fact origin front t _ _ (left_is_greater a) (right_is_greater b) = both_ways t.left.term t.right.term a b
    one_fact origin front t _ _ (left_is_greater a) (none_is_greater b c) = absurd (b a)
    one_fact origin front t _ _ (right_is_greater a) (left_is_greater b) = both_ways t.left.term t.right.term b a
    one_fact origin front t _ _ (right_is_greater a) (right_is_greater b) = refl
    one_fact origin front t _ _ (right_is_greater a) (none_is_greater b c) = absurd (c a)
    one_fact origin front t _ _ (none_is_greater b c) (left_is_greater a) = absurd (b a)
    one_fact origin front t _ _ (none_is_greater b c) (right_is_greater a) = absurd (c a)
    one_fact origin front t _ _ (none_is_greater a b) (none_is_greater c d) = refl

    -- the facts of two trials of one pair
    one_given : (origin : Origin) (front : ℕ) (t u : Trial) (f g : Fact) → IsTrial m axioms es origin t → IsTrial m axioms es origin u → GivesFact m origin front t f → GivesFact m origin front u g → f ≡ g
    one_given origin front t u f g i j a b = one_fact origin front t f g a (subst (λ (x : Trial). GivesFact m origin front x g) (sym (one_trial origin t u i j)) b)

    joined_or_not : {A : Type 0} (origin : Origin) (t u : Trial) → IsTrial m axioms es origin t → IsTrial m axioms es origin u → IsJoined t.answer → (IsJoined u.answer → ⊥) → A
    joined_or_not origin t u i j y n = absurd (n (subst (λ (x : Trial). IsJoined x.answer) (one_trial origin t u i j) y))

    one_reason : (origin : Origin) (t u : Trial) (a b : Reason) → IsTrial m axioms es origin t → IsTrial m axioms es origin u → t.answer ≡ IsJoinedBy a → u.answer ≡ IsJoinedBy b → a ≡ b
    one_reason origin t u a b i j x y = reasons (sym x ∙ ap (λ (z : Trial). z.answer) (one_trial origin t u i j) ∙ y)
      where
        reasons : (let z : Joinable = IsJoinedBy a in z ≡ IsJoinedBy b) → a ≡ b
        reasons e = cc

  -- goals

  module _ (es : List Entry) where
    one_both : (l r : Tree) (a b c d : Normal) → NormaliseBoth m es l r a b → NormaliseBoth m es l r c d → (a ≡ c) × (b ≡ d)
    one_both l r a b c d i j =
        let p : a ≡ c = one_normal m.greater m.least (live es) 4096 l a c i.left_is j.left_is in
        let q : b ≡ d = one_normal m.greater m.least (live es) (4096 - length a.chain.steps) r b d i.right_is (subst (λ (n : Normal). IsNormalOf m.greater m.least (live es) (4096 - length n.chain.steps) r d) (sym p) j.right_is) in
        (p, q)

    ends_by : (a b c d : Normal) → a ≡ c → b ≡ d → (let f : Finding = Ends a.chain b.chain (stop_of a.stop b.stop) in f ≡ Ends c.chain d.chain (stop_of c.stop d.stop))
    ends_by a b c d p q = ap (λ (z : Normal). Ends z.chain b.chain (stop_of z.stop b.stop)) p ∙ ap (λ (z : Normal). Ends c.chain z.chain (stop_of c.stop z.stop)) q

    -- meetings

    module _ (i : ℕ) (f : Equation) where
      one_stale : (k l : ℕ) → IsStaleBy m es i f k → IsStaleBy m es i f l → k ≡ l
      one_stale k l a b = let x : k ≤ l = a.least l b.reduced in let y : l ≤ k = b.least k a.reduced in omega arith

      one_kills : (js : List Live) (ks ls : List ℕ) → AreKills m es i f js ks → AreKills m es i f js ls → ks ≡ ls
      one_kills _ _ _ no_facts no_facts = refl
      one_kills (j ∷ js) _ _ (kills_it {ks = ks} a r x) (kills_it {ks = ls} b q y) = ap (λ z. j.number ∷ z) (one_kills js ks ls x y)
      one_kills (j ∷ js) _ ls (kills_it a r x) (spares_it b q y) = absurd (q r)
      one_kills (j ∷ js) _ ls (kills_it a r x) (is_no_earlier b y) = absurd (omega arith)
      one_kills (j ∷ js) ks _ (spares_it a r x) (kills_it b q y) = absurd (r q)
      one_kills (j ∷ js) ks ls (spares_it a r x) (spares_it b q y) = one_kills js ks ls x y
      one_kills (j ∷ js) ks ls (spares_it a r x) (is_no_earlier b y) = absurd (omega arith)
      one_kills (j ∷ js) ks _ (is_no_earlier a x) (kills_it b q y) = absurd (omega arith)
      one_kills (j ∷ js) ks ls (is_no_earlier a x) (spares_it b q y) = absurd (omega arith)
      one_kills (j ∷ js) ks ls (is_no_earlier a x) (is_no_earlier b y) = one_kills js ks ls x y

      one_meetings : (js : List Live) (xs ys : List Formed) → AreMeetings m es i f js xs → AreMeetings m es i f js ys → xs ≡ ys
      one_meetings _ xs ys (with_itself a) (with_itself b) = same_each m.greater _ xs ys a b
      one_meetings (j ∷ js) _ _ (with_earlier {inside = u} {round = v} {rest = w} a b c d) (with_earlier {inside = x} {round = y} {rest = z} e g h k) =
          let p : u ≡ x = same_each m.greater _ u x b g in
          let q : v ≡ y = same_each m.greater _ v y c h in
          let r : w ≡ z = one_meetings js w z d k in
          ap (λ l. l ++ (v ++ w)) p ∙ ap (λ l. x ++ (l ++ w)) q ∙ ap (λ l. x ++ (y ++ l)) r
      one_meetings (j ∷ js) _ ys (with_earlier a b c d) (not_with_later e k) = absurd (omega arith)
      one_meetings (j ∷ js) xs _ (not_with_later e k) (with_earlier a b c d) = absurd (omega arith)
      one_meetings (j ∷ js) xs ys (not_with_later a x) (not_with_later b y) = one_meetings js xs ys x y

  -- results

  pub one_result : (axioms : List Equation) (es : List Entry) (job : Job) (a b : Finding) → IsResult m axioms es job a → IsResult m axioms es job b → a ≡ b
  one_result axioms es _ _ _ (goal_comes_to {l = l} {r = r} {left = a} {right = b} x) (goal_comes_to {left = c} {right = d} y) = let p = one_both es l r a b c d x y in ends_by es a b c d p.0 p.1
  one_result axioms es _ _ _ (more_comes_to {l = l} {r = r} {left = a} {right = b} x) (more_comes_to {left = c} {right = d} y) = let p = one_both es l r a b c d x y in ends_by es a b c d p.0 p.1
  one_result axioms es _ _ _ (pair_is_joined {origin = o} {t = t} {why = v} x e) (pair_is_joined {t = u} {why = w} y f) = ap Joined (one_reason axioms es o t u v w x y e f)
  one_result axioms es _ _ _ (pair_is_joined {origin = o} {t = t} {why = v} x e) (pair_is_kept {t = u} y n g) = joined_or_not axioms es o t u x y (joined_by t.answer v e) n
  one_result axioms es _ _ _ (pair_is_kept {origin = o} {t = u} y n g) (pair_is_joined {t = t} {why = v} x e) = joined_or_not axioms es o t u x y (joined_by t.answer v e) n
  one_result axioms es _ _ _ (pair_is_kept {origin = o} {t = t} {f = f} x n c) (pair_is_kept {t = u} {f = g} y k d) = ap Kept (one_given axioms es o (length es) t u f g x y c d)
  one_result axioms es _ _ _ (fact_is_stale {i = i} {k = k} {f = f} a x) (fact_is_stale {k = l} {f = g} b y) = let q : g ≡ f = cc in ap Stale (one_stale es i (equation_of f) k l x (subst (λ (h : Fact). IsStaleBy m es i (equation_of h) l) q y))
  one_result axioms es _ _ _ (fact_is_stale {i = i} {k = k} {f = f} a x) (fact_meets {f = g} b n y z) = let q : f ≡ g = cc in absurd (n k (subst (λ (h : Fact). IsStaleBy m es i (equation_of h) k) q x).reduced)
  one_result axioms es _ _ _ (fact_meets {i = i} {f = g} b n y z) (fact_is_stale {k = k} {f = f} a x) = let q : f ≡ g = cc in absurd (n k (subst (λ (h : Fact). IsStaleBy m es i (equation_of h) k) q x).reduced)
  one_result axioms es _ _ _ (fact_meets {i = i} {f = f} {ks = ks} {fs = fs} a n x y) (fact_meets {f = g} {ks = ls} {fs = gs} b k z w) =
      let q : g ≡ f = cc in
      let p : ks ≡ ls = one_kills es i (equation_of f) (live es) ks ls x (subst (λ (h : Fact). AreKills m es i (equation_of h) (live es) ls) q z) in
      let r : fs ≡ gs = one_meetings es i (equation_of f) (live es) fs gs y (subst (λ (h : Fact). AreMeetings m es i (equation_of h) (live es) gs) q w) in
      ap₂ Met p r

  -- the final pass

  one_of : (outer : Live) (inners : List Live) (xs ys : List Formed) → OverlapsOf m outer inners xs → OverlapsOf m outer inners ys → xs ≡ ys
  one_of outer _ _ _ no_inner no_inner = refl
  one_of outer (inner ∷ inners) _ _ (next_inner {fs = u} {others = v} a b) (next_inner {fs = x} {others = y} c d) =
      ap₂ (λ k l. k ++ l) (same_each m.greater _ u x a c) (one_of outer inners v y b d)

  one_all : (inners outers : List Live) (xs ys : List Formed) → AllOverlaps m inners outers xs → AllOverlaps m inners outers ys → xs ≡ ys
  one_all inners _ _ _ no_outer no_outer = refl
  one_all inners (outer ∷ outers) _ _ (next_outer {fs = u} {others = v} a b) (next_outer {fs = x} {others = y} c d) =
      ap₂ (λ k l. k ++ l) (one_of outer inners u x a c) (one_all inners outers v y b d)

  abbrev missing_of : Origin → Fact → Joinable → Missing
  missing_of o f a = record { origin = o; fact = f; open_case = a }

  one_test : (axioms : List Equation) (es : List Entry) (os : List Origin) (ms ns : List Missing) → Tests m axioms es os ms → Tests m axioms es os ns → ms ≡ ns
  one_test axioms es _ _ _ all_tested all_tested = refl
  one_test axioms es (o ∷ os) ms ns (is_joined t i y a) (is_joined u j z b) = one_test axioms es os ms ns a b
  one_test axioms es (o ∷ os) ms _ (is_joined t i y a) (is_missing u j n g b) = joined_or_not axioms es o t u i j y n
  one_test axioms es (o ∷ os) _ ns (is_missing u j n g b) (is_joined t i y a) = joined_or_not axioms es o t u i j y n
  one_test axioms es (o ∷ os) _ _ (is_missing {ms = ms} {f = f} t i n g a) (is_missing {ms = ns} {f = h} u j k l b) =
      let p : f ≡ h = one_given axioms es o (length es) t u f h i j g l in
      let q : t.answer ≡ u.answer = ap (λ (x : Trial). x.answer) (one_trial axioms es o t u i j) in
      let r : ms ≡ ns = one_test axioms es os ms ns a b in
      ap (λ (x : Fact). missing_of o x t.answer ∷ ms) p ∙ ap (λ (x : Joinable). missing_of o h x ∷ ms) q ∙ ap (λ (x : List Missing). missing_of o h u.answer ∷ x) r

  -- the tests of one state's overlaps
  tests_of : (axioms : List Equation) (s : State) (fs gs : List Formed) (ms ns : List Missing) → AllOverlaps m (live s.entries) (live s.entries) fs → AllOverlaps m (live s.entries) (live s.entries) gs
      → TestsAll m axioms s.entries fs ms → TestsAll m axioms s.entries gs ns → (fs ≡ gs) × (ms ≡ ns)
  tests_of axioms s fs gs ms ns a b x y =
      let q : fs ≡ gs = one_all (live s.entries) (live s.entries) fs gs a b in
      (q, one_test axioms s.entries (axioms_from 0 axioms ++ small_ones fs) ms ns x (subst (λ (z : List Formed). TestsAll m axioms s.entries z ns) (sym q) y))

  large_by : (fs gs : List Formed) (a b : Option Overlap) → fs ≡ gs → first_large fs ≡ a → first_large gs ≡ b → a ≡ b
  large_by fs gs a b q x y = sym x ∙ ap first_large q ∙ y

  none_missing : {A : Type 0} (ms ns : List Missing) → ms ≡ ns → (ms ≡ [] → ⊥) → ns ≡ [] → A
  none_missing ms ns q n e = absurd (n (q ∙ e))

  pub one_final : (axioms : List Equation) (s : State) (a b : Outcome) → IsFinal m axioms s a → IsFinal m axioms s b → a ≡ b
  one_final axioms s _ _ (some_missing {fs = fs} {ms = ms} a x n) (some_missing {fs = gs} {ms = ns} b y k) = ap Lacks (tests_of axioms s fs gs ms ns a b x y).1
  one_final axioms s _ _ (some_missing {fs = fs} {ms = ms} a x n) (some_large {fs = gs} b y l) = none_missing ms [] (tests_of axioms s fs gs ms [] a b x y).1 n refl
  one_final axioms s _ _ (some_missing {fs = fs} {ms = ms} a x n) (some_stuck {fs = gs} g b y l f) = none_missing ms [] (tests_of axioms s fs gs ms [] a b x y).1 n refl
  one_final axioms s _ _ (some_missing {fs = fs} {ms = ms} a x n) (all_converges {fs = gs} b y l f) = none_missing ms [] (tests_of axioms s fs gs ms [] a b x y).1 n refl
  one_final axioms s _ _ (some_large {fs = gs} b y l) (some_missing {fs = fs} {ms = ms} a x n) = none_missing ms [] (tests_of axioms s fs gs ms [] a b x y).1 n refl
  one_final axioms s _ _ (some_large {fs = fs} {o = o} a x l) (some_large {fs = gs} {o = p} b y k) =
      let same : Some o ≡ Some p = large_by fs gs (Some o) (Some p) (tests_of axioms s fs gs [] [] a b x y).0 l k in
      let one : o ≡ p = cc in
      ap Large one
  one_final axioms s _ _ (some_large {fs = fs} {o = o} a x l) (some_stuck {fs = gs} g b y k f) = absurd (let same : Some o ≡ None = large_by fs gs (Some o) None (tests_of axioms s fs gs [] [] a b x y).0 l k in cc)
  one_final axioms s _ _ (some_large {fs = fs} {o = o} a x l) (all_converges {fs = gs} b y k f) = absurd (let same : Some o ≡ None = large_by fs gs (Some o) None (tests_of axioms s fs gs [] [] a b x y).0 l k in cc)
  one_final axioms s _ _ (some_stuck {fs = gs} g b y l f) (some_missing {fs = fs} {ms = ms} a x n) = none_missing ms [] (tests_of axioms s fs gs ms [] a b x y).1 n refl
  one_final axioms s _ _ (some_stuck {fs = gs} g b y k f) (some_large {fs = fs} {o = o} a x l) = absurd (let same : Some o ≡ None = large_by fs gs (Some o) None (tests_of axioms s fs gs [] [] a b x y).0 l k in cc)
  one_final axioms s _ _ (some_stuck g a x l f) (some_stuck h b y k e) = let one : g ≡ h = cc in ap (λ (z : At Target). GoalUnsettled z.number) one
  one_final axioms s _ _ (some_stuck g a x l f) (all_converges b y k e) = absurd (cc)
  one_final axioms s _ _ (all_converges {fs = gs} b y l f) (some_missing {fs = fs} {ms = ms} a x n) = none_missing ms [] (tests_of axioms s fs gs ms [] a b x y).1 n refl
  one_final axioms s _ _ (all_converges {fs = gs} b y k f) (some_large {fs = fs} {o = o} a x l) = absurd (let same : Some o ≡ None = large_by fs gs (Some o) None (tests_of axioms s fs gs [] [] a b x y).0 l k in cc)
  one_final axioms s _ _ (all_converges a x l f) (some_stuck g b y k e) = absurd (cc)
  one_final axioms s _ _ (all_converges a x l f) (all_converges b y k e) = refl
