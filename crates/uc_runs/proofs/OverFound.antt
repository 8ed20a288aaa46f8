-- What tasks find over facts of a signature is over it: chains, normal forms, pairs, and the facts that they give.
use Rattle.std.proofs.Common.{◌≡◌, ℕ, ◌+◌, List, [], ◌∷◌, Bool, true, false, sym, subst, map}
use Rattle.uc_term.specs.declared.equation.Equation.{Equation}
use Rattle.uc_term.specs.declared.equation.Side.{Side}
use Rattle.uc_term.specs.declared.equation.Side.TheVariants.{Left, Right}
use Rattle.uc_term.specs.Equations.{side_of, other_side_of}
use Rattle.uc_term.specs.Tree.{Tree, var, apply, subterm, put}
use Rattle.uc_term.specs.Variables.{place_of, renumbered_by}
use Rattle.uc_order.specs.Laws.{Meaning, Laws, HasSym, least_term}
use Rattle.uc_fact.specs.declared.chain.Chain.{Chain}
use Rattle.uc_fact.specs.declared.chain.Step.{Step}
use Rattle.uc_fact.specs.declared.fact.Fact.{Fact}
use Rattle.uc_fact.specs.declared.fact.Origin.{Origin}
use Rattle.uc_fact.specs.declared.fact.Overlap.{Overlap}
use Rattle.uc_fact.specs.declared.fact.Stop.{Stop}
use Rattle.uc_fact.specs.Chains.{last_term, end_of, followed_by, step_back, steps_back, reversed, renumbered_step}
use Rattle.uc_fact.specs.Live.{Live, Rule, equation_of, equations_of}
use Rattle.uc_fact.specs.Ground.{AreOfSignature}
use Rattle.uc_rewrite.specs.declared.normal.Normal.{Normal}
use Rattle.uc_rewrite.specs.Normalising.{IsNormalOf}
use Rattle.uc_pair.specs.declared.formation.Formation.{Formation}
use Rattle.uc_pair.specs.declared.formation.Formation.TheVariants.{Pair as Forms, TooLarge}
use Rattle.uc_pair.specs.Overlapping.{Overlapping, shifted, peak, left_of, right_of, read_from}
use Rattle.uc_pair.specs.Pairs.{IsPairBy, IsPairOf, forms_pair, names_of as pair_names}
use Rattle.uc_shelf.specs.declared.entry.Entry.{Entry}
use Rattle.uc_shelf.specs.Entries.{born, live}
use Rattle.uc_machine.specs.Lists.{Each}
use Rattle.uc_machine.specs.Results.{Trial, way, names_of, made, IsPair, of_axiom, of_overlap, of_dead, IsTrial, GivesFact, left_is_greater, right_is_greater, none_is_greater}
use Rattle.uc_machine.proofs.Lists.{Each-map}
use Rattle.uc_machine.proofs.Meetings.{Each-append}
use Rattle.uc_decide.proofs.Members.{is_in}
use Rattle.uc_runs.proofs.EachFact.{each_get, live_each}
use Rattle.uc_runs.proofs.OverTerms.{Over, part_over, put_over, instance_over, normal_over}
use Rattle.uc_runs.proofs.OverUnifiers.{unifier_over}

-- chains of terms with these variables

module _ (m : Meaning) (Known : ℕ → Type 0) where
  abbrev pub Has : Tree → Type 0
  Has = Over (HasSym m) m.arity Known

  abbrev pub StepsHave : List Step → Type 0
  StepsHave steps = Each (λ (x : Step). Has x.to) steps

  abbrev pub ChainHas : Chain → Type 0
  ChainHas c = Has c.start × StepsHave c.steps

  last_has : (t : Tree) (steps : List Step) → Has t → StepsHave steps → Has (last_term t steps)
  last_has t [] a b = a
  last_has t (x ∷ xs) a b = last_has x.to xs b.0 b.1

  pub end_has : (c : Chain) → ChainHas c → Has (end_of c)
  end_has c a = last_has c.start c.steps a.0 a.1

  pub followed_has : (c d : Chain) → ChainHas c → StepsHave d.steps → ChainHas (followed_by c d)
  followed_has c d a b = (a.0, Each-append (λ (x : Step). Has x.to) c.steps d.steps a.1 b)

  back_has : (t : Tree) (steps : List Step) → Has t → StepsHave steps → StepsHave (steps_back t steps)
  back_has t [] a b = tt
  back_has t (x ∷ xs) a b = Each-append (λ (y : Step). Has y.to) (steps_back x.to xs) (step_back t x ∷ []) (back_has x.to xs b.0 b.1) (a, tt)

  reversed_has : (c : Chain) → ChainHas c → ChainHas (reversed c)
  reversed_has c a = (end_has c a, back_has c.start c.steps a.0 a.1)

  module _ (laws : Laws m) where
    pub normal_has : (fs : List Live) → AreOfSignature (HasSym m) m.arity (equations_of fs) → (limit : ℕ) (t : Tree) (n : Normal) → IsNormalOf m.greater m.least fs limit t n → Has t → ChainHas n.chain × Has n.term
    normal_has fs over limit t n i a =
        let least_has : Has (least_term m) = (laws.least_is.0, sym laws.least_is.1, tt) in
        let b = normal_over (HasSym m) m.arity Known m.greater m.least least_has fs over limit t n.term n.chain.steps n.stop i.normalises a in
        ((subst Has (sym i.start) a, b.0), b.1)

abbrev pub Any : ℕ → Type 0
Any x = Unit {0}

module _ (m : Meaning) where
  abbrev pub IsTermOf : Tree → Type 0
  IsTermOf = Has m Any

  abbrev pub IsEquationOver : Equation → Type 0
  IsEquationOver e = IsTermOf e.left × IsTermOf e.right

  abbrev pub IsFactOver : Fact → Type 0
  IsFactOver f = IsEquationOver (equation_of f) × ChainHas m Any f.chain

  pub live_over : (es : List Entry) → Each IsFactOver (born es) → AreOfSignature (HasSym m) m.arity (equations_of (live es))
  live_over es a = live_each IsEquationOver es (Each-map {P = IsFactOver} {Q = λ (f : Fact). IsEquationOver (equation_of f)} (λ f k. k.0) (born es) a)

  renamed_over : (f : ℕ → ℕ) (t : Tree) → IsTermOf t → IsTermOf (apply (λ x. var (f x)) t)
  renamed_over f t a = instance_over (HasSym m) m.arity Any (λ x. var (f x)) t a (λ x o. tt)

  side_over : (side : Side) (e : Equation) → IsEquationOver e → IsTermOf (side_of side e)
  side_over Left e a = a.0
  side_over Right e a = a.1

  other_side_over : (side : Side) (e : Equation) → IsEquationOver e → IsTermOf (other_side_of side e)
  other_side_over Left e a = a.1
  other_side_over Right e a = a.0

  -- pairs

  abbrev FormsOver : Formation → Type 0
  FormsOver TooLarge = Unit {0}
  FormsOver (Forms l r chain) = IsTermOf l × IsTermOf r × ChainHas m Any chain

  module _ (outer inner : Rule) (place : ℕ) (o : Overlapping outer inner place) (outer_from : IsTermOf outer.from) (outer_to : IsTermOf outer.to) (inner_from : IsTermOf inner.from) (inner_to : IsTermOf inner.to) where
    unifies_over : (x : ℕ) → IsTermOf (o.σ x)
    unifies_over = unifier_over (HasSym m) m.arity (is_in m.symbols) (subterm outer.from place) (shifted o.k inner.from) o.σ (part_over (HasSym m) m.arity Any outer.from place outer_from) (renamed_over (λ x. x + o.k) inner.from inner_from) o.most_general

    unified_over : (t : Tree) → IsTermOf t → IsTermOf (apply o.σ t)
    unified_over t a = instance_over (HasSym m) m.arity Any o.σ t a (λ x p. unifies_over x)

    numbered_over : (names : List ℕ) (t u : Tree) → u ≡ renumbered_by names t → IsTermOf t → IsTermOf u
    numbered_over names t u e a = subst IsTermOf (sym e) (renamed_over (place_of names) t a)

    formed_over : (left right : Tree) (chain : Chain) → IsPairBy o left right chain → IsTermOf left × IsTermOf right × ChainHas m Any chain
    formed_over left right chain by =
        let names = pair_names (left_of o) (right_of o) (peak o) in
        let replaced = put_over (HasSym m) m.arity Any outer.from place (shifted o.k inner.to) outer_from (renamed_over (λ x. x + o.k) inner.to inner_to) in
        let l : IsTermOf left = numbered_over names (left_of o) left by.numbered.left_is (unified_over outer.to outer_to) in
        let r : IsTermOf right = numbered_over names (right_of o) right by.numbered.right_is (unified_over (put outer.from place (shifted o.k inner.to)) replaced) in
        let top = renamed_over (place_of names) (peak o) (unified_over outer.from outer_from) in
        (l, r, subst (ChainHas m Any) (sym by.numbered.chain_is) (l, (top, (r, tt))))

  pub pair_over : (a b : Equation) (overlap : Overlap) (formation : Formation) → IsEquationOver a → IsEquationOver b → IsPairOf a b overlap formation → FormsOver formation
  pair_over a b overlap TooLarge x y f = tt
  pair_over a b overlap (Forms left right chain) x y (forms_pair o fits by) =
      formed_over (read_from overlap.outer overlap.outer_side a) (read_from overlap.inner overlap.inner_side b) overlap.position.0 o
      (side_over overlap.outer_side a x) (other_side_over overlap.outer_side a x) (side_over overlap.inner_side b y) (other_side_over overlap.inner_side b y) left right chain by

  -- facts that are made

  renumbered_steps : (names : List ℕ) (steps : List Step) → StepsHave m Any steps → StepsHave m Any (map (renumbered_step names) steps)
  renumbered_steps names [] a = tt
  renumbered_steps names (x ∷ xs) a = (renamed_over (place_of names) x.to a.0, renumbered_steps names xs a.1)

  made_over : (oriented : Bool) (origin : Origin) (front : ℕ) (l r : Tree) (chain : Chain) (a b : Stop) → IsTermOf l → IsTermOf r → ChainHas m Any chain → IsFactOver (made oriented origin front l r chain a b)
  made_over oriented origin front l r chain a b x y c =
      let names = names_of l r chain in
      ((renamed_over (place_of names) l x, renamed_over (place_of names) r y), (renamed_over (place_of names) chain.start c.0, renumbered_steps names chain.steps c.1))

  module _ (laws : Laws m) (axioms : List Equation) (axioms_over : AreOfSignature (HasSym m) m.arity axioms) (es : List Entry) (born_over : Each IsFactOver (born es)) where
    origin_over : (origin : Origin) (e : Equation) (chain : Chain) → IsPair axioms es origin e chain → IsEquationOver e × ChainHas m Any chain
    origin_over _ e _ (of_axiom {k = k} h) = let a = axioms_over k e h in (a, (a.0, (a.1, tt)))
    origin_over _ _ chain (of_overlap {o = o} {a = a} {b = b} {l = l} {r = r} x y p) =
        let q = pair_over (equation_of a) (equation_of b) o (Forms l r chain) (each_get IsFactOver (born es) born_over o.outer a x).0 (each_get IsFactOver (born es) born_over o.inner b y).0 p in
        ((q.0, q.1), q.2)
    origin_over _ _ _ (of_dead {i = i} {f = f} h) = let a = (each_get IsFactOver (born es) born_over i f h).0 in (a, (a.0, (a.1, tt)))

    trial_over : (origin : Origin) (t : Trial) → IsTrial m axioms es origin t → IsTermOf t.left.term × IsTermOf t.right.term × ChainHas m Any (way t)
    trial_over origin t i =
        let p = origin_over origin t.equation t.chain i.pair_is in
        let l = normal_has m Any laws (live es) (live_over es born_over) 4096 t.equation.left t.left i.left_is p.0.0 in
        let r = normal_has m Any laws (live es) (live_over es born_over) 4096 t.equation.right t.right i.right_is p.0.1 in
        let on = followed_has m Any t.chain t.right.chain p.1 r.0.1 in
        (l.1, r.1, followed_has m Any (reversed t.left.chain) (followed_by t.chain t.right.chain) (reversed_has m Any t.left.chain l.0) on.1)

    pub fact_over : (origin : Origin) (front : ℕ) (t : Trial) (f : Fact) → IsTrial m axioms es origin t → GivesFact m origin front t f → IsFactOver f
    fact_over origin front t _ i (left_is_greater q) = let a = trial_over origin t i in made_over true origin front t.left.term t.right.term (way t) t.left.stop t.right.stop a.0 a.1 a.2
    fact_over origin front t _ i (right_is_greater q) = let a = trial_over origin t i in made_over true origin front t.right.term t.left.term (reversed (way t)) t.right.stop t.left.stop a.1 a.0 (reversed_has m Any (way t) a.2)
    fact_over origin front t _ i (none_is_greater p q) = let a = trial_over origin t i in made_over false origin front t.left.term t.right.term (way t) t.left.stop t.right.stop a.0 a.1 a.2
