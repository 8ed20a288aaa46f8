-- No instance of a term is greater than that of one in which it is embedded, by an order and by it under each order of variables.
-- (Baader and Nipkow, Term Rewriting and All That, section 5.4.)
use Rattle.std.proofs.Common.{◌≡◌, ◌⊎◌, inl, inr, refl, sym, ap, ap₂, subst}
use Rattle.uc_term.specs.declared.node.Sym.{Sym}
use Rattle.uc_term.specs.Tree.{Tree, var, app, Trees, none, more, apply}
use Rattle.uc_term.specs.Within.{WithinOne, at_root, under, at_first, at_later}
use Rattle.uc_fact.specs.Embedding.{Embedded, is_variable, in_argument, in_arguments, EmbeddedInOne, in_first_of, in_later_of, AreEmbedded, none_are, more_are}
use Rattle.uc_order.specs.VarOrders.{Classes}
use Rattle.uc_order.specs.Laws.{Meaning, Laws, inside, InsideOne, is_first, in_later_one}
use Rattle.uc_rewrite.specs.declared.comparison.Falling.TheVariants.{Always, Never}
use Rattle.uc_rewrite.specs.Comparing.{Tells, TellsAll}

module _ (m : Meaning) (laws : Laws m) (from to : Tree) where
  pub always : m.greater from to → TellsAll m from to Always
  always g = (λ σ. laws.instances σ from to g, λ cs σ. laws.refined cs (apply σ from) (apply σ to) (laws.instances σ from to g))

  pub never_up : m.greater to from → TellsAll m from to Never
  never_up g = (λ σ d. laws.irreflexive (apply σ from) (laws.transitive (apply σ from) (apply σ to) (apply σ from) d (laws.instances σ to from g)), λ cs σ d. laws.one_way cs (apply σ from) (apply σ to) d (laws.refined cs (apply σ to) (apply σ from) (laws.instances σ to from g)))

  pub never_same : from ≡ to → TellsAll m from to Never
  never_same e = (λ σ d. laws.irreflexive (apply σ from) (subst (λ z. m.greater (apply σ from) (apply σ z)) (sym e) d), λ cs σ d. let k = subst (λ z. m.under cs (apply σ from) (apply σ z)) (sym e) d in laws.one_way cs (apply σ from) (apply σ from) k k)

-- a term that is embedded in another one is this or smaller: the arguments become smaller one after the other
module _ (m : Meaning) (laws : Laws m) where
  abbrev AtMost : Tree → Tree → Type 0
  AtMost s t = (s ≡ t) ⊎ m.greater t s

  -- from the arguments to what holds them, by K
  abbrev Keeps : (Trees → Trees) → Type 0
  Keeps K = (us vs : Trees) → WithinOne m.greater us vs → WithinOne m.greater (K us) (K vs)

  first_smaller : (f : Sym) (K : Trees → Trees) → Keeps K → (s t : Tree) (ts : Trees) → m.greater t s → m.greater (app f (K (more t ts))) (app f (K (more s ts)))
  first_smaller f K k s t ts g = laws.contexts (app f (K (more t ts))) (app f (K (more s ts))) (under (k (more t ts) (more s ts) (at_first (at_root g))))

  both : (f : Sym) (K : Trees → Trees) → Keeps K → (s t : Tree) (ss ts : Trees) → AtMost s t → (ss ≡ ts) ⊎ m.greater (app f (K (more s ts))) (app f (K (more s ss))) → (more s ss ≡ more t ts) ⊎ m.greater (app f (K (more t ts))) (app f (K (more s ss)))
  both f K k s t ss ts (inl e) (inl d) = inl (ap₂ more e d)
  both f K k s t ss ts (inl e) (inr h) = inr (subst (λ z. m.greater (app f (K (more z ts))) (app f (K (more s ss)))) e h)
  both f K k s t ss ts (inr g) (inl d) = inr (subst (λ z. m.greater (app f (K (more t ts))) (app f (K (more s z)))) (sym d) (first_smaller f K k s t ts g))
  both f K k s t ss ts (inr g) (inr h) = inr (laws.transitive (app f (K (more t ts))) (app f (K (more s ts))) (app f (K (more s ss))) (first_smaller f K k s t ts g) h)

  below_one : (s : Tree) (f : Sym) (ts : Trees) → ((u : Tree) × InsideOne ts u × AtMost s u) → m.greater (app f ts) s
  below_one s f ts r = elim r.2 as (λ _. m.greater (app f ts) s) [
    | inl e ↦ subst (m.greater (app f ts)) (sym e) (laws.subterms (app f ts) r.0 (inside r.1))
    | inr g ↦ laws.transitive (app f ts) r.0 s (laws.subterms (app f ts) r.0 (inside r.1)) g
  ]

  mutual
    at_most : (s t : Tree) → Embedded s t → AtMost s t
    at_most (var x) (var y) is_variable = inl refl
    at_most (app f ss) (var y) e = elim e [ ]
    at_most s (app f ts) (in_argument o) = inr (below_one s f ts (one s ts o))
    at_most (app f ss) (app g ts) (in_arguments a) = elim (arguments f (λ us. us) (λ us vs w. w) ss ts a) as (λ _. AtMost (app f ss) (app f ts)) [
      | inl e ↦ inl (ap (app f) e)
      | inr h ↦ inr h
    ]

    one : (s : Tree) (ts : Trees) → EmbeddedInOne s ts → (u : Tree) × InsideOne ts u × AtMost s u
    one s none o = elim o [ ]
    one s (more t ts) (in_first_of e) = (t, is_first, at_most s t e)
    one s (more t ts) (in_later_of o) = let r = one s ts o in (r.0, in_later_one r.1, r.2)

    arguments : (f : Sym) (K : Trees → Trees) → Keeps K → (ss ts : Trees) → AreEmbedded ss ts → (ss ≡ ts) ⊎ m.greater (app f (K ts)) (app f (K ss))
    arguments f K k none none none_are = inl refl
    arguments f K k none (more t ts) a = elim a [ ]
    arguments f K k (more s ss) none a = elim a [ ]
    arguments f K k (more s ss) (more t ts) (more_are e a) = both f K k s t ss ts (at_most s t e) (arguments f (λ us. K (more s us)) (λ us vs w. k (more s us) (more s vs) (at_later w)) ss ts a)

-- so that no instance of it is greater
pub never_embedded : (m : Meaning) (laws : Laws m) (from to : Tree) → Embedded from to → TellsAll m from to Never
never_embedded m laws from to e = elim (at_most m laws from to e) as (λ _. TellsAll m from to Never) [
  | inl d ↦ never_same m laws from to d
  | inr g ↦ never_up m laws from to g
]

pub never_by : (m : Meaning) (laws : Laws m) (from to : Tree) → Embedded from to → Tells m.greater from to Never
never_by m laws from to e = (never_embedded m laws from to e).0

pub never_under : (m : Meaning) (laws : Laws m) (cases : Classes) (from to : Tree) → Embedded from to → Tells (m.under cases) from to Never
never_under m laws cases from to e = (never_embedded m laws from to e).1 cases
