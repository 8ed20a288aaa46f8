-- The pairs of equations over a table are over the table.
use Rattle.std.proofs.Common.{ℕ, zero, suc, ◌+◌, ◌-◌, ◌≡◌, ◌==◌, ◌&&◌, Bool, true, false, if◌then◌else◌, List, [], ◌∷◌, ◌++◌, length, get_or, refl, sym, ap, ap₂, ◌∙◌, subst}
use Rattle.std.specs.Prelude.{nat_lt}
use Rattle.std.proofs.Math.Dec.{ltb}
use Rattle.std.proofs.lemmas.Bool.{eqb-true, eq-eqb, ltb-true, lt-ltb, and_parts, and_from}
use Rattle.uc_term.specs.declared.node.Sym.{Sym}
use Rattle.uc_term.specs.declared.equation.Equation.{Equation}
use Rattle.uc_term.specs.declared.equation.Side.{Side}
use Rattle.uc_term.specs.declared.equation.Side.TheVariants.{Left, Right}
use Rattle.uc_term.specs.Tree.{Tree, var, app, Trees, none, more, count, apply, apply_all, nodes, subterms, subterms_all, subterm, put, put_all}
use Rattle.uc_term.specs.Over.{AreOver}
use Rattle.uc_term.specs.Table.{Table, Has, arity_of, IsOf}
use Rattle.uc_order.proofs.Renaming.{count-apply_all}
use Rattle.uc_unify.specs.Unifiers.{IsMostGeneral}
use Rattle.uc_fact.specs.Live.{Rule}
use Rattle.uc_fact.specs.declared.fact.Overlap.{Overlap}
use Rattle.uc_pair.specs.declared.formation.Formation.{Formation}
use Rattle.uc_pair.specs.Overlapping.{Overlapping, shifted, left_of, right_of, read_from}
use Rattle.uc_pair.specs.Pairs.{IsPairOf, IsFormation, forms_none, forms_pair}
use Rattle.uc_answer.specs.PairLines.{IsFormationOver}

module _ (table : Table) where
  abbrev AreOf : Trees → Type 0
  AreOf = AreOver (Has table) (arity_of table) (λ _. Unit {0})

  -- the symbol is the table's, and this is its arity
  abbrev fits : Sym → ℕ → Bool
  fits f n = ltb f.0 (length table) && (n == arity_of table f)

  it_fits : (f : Sym) (n : ℕ) → Has table f → n ≡ arity_of table f → fits f n ≡ true
  it_fits f n h e = and_from (ltb f.0 (length table)) _ (lt-ltb f.0 (length table) h) (eq-eqb n (arity_of table f) e)

  -- the term with each part that begins with a symbol that doesn't fit replaced by a variable
  abbrev mutual
    clean : Tree → Tree
    clean (var x) = var x
    clean (app f ts) = if fits f (count ts) then app f (clean_all ts) else var 0

    clean_all : Trees → Trees
    clean_all none = none
    clean_all (more t ts) = more (clean t) (clean_all ts)

  count-clean_all : (ts : Trees) → count (clean_all ts) ≡ count ts
  count-clean_all none = refl
  count-clean_all (more t ts) = ap (λ n. n + 1) (count-clean_all ts)

  mutual
    clean_over : (t : Tree) → IsOf table (clean t)
    clean_over (var x) = tt
    clean_over (app f ts) = go (fits f (count ts)) refl (clean_all_over ts)
      where
        go : (b : Bool) → fits f (count ts) ≡ b → AreOf (clean_all ts) → IsOf table (if b then app f (clean_all ts) else var 0)
        go true e h = let p = and_parts (ltb f.0 (length table)) (count ts == arity_of table f) e in (ltb-true f.0 (length table) p.0, count-clean_all ts ∙ eqb-true (count ts) (arity_of table f) p.1, h)
        go false e h = tt

    clean_all_over : (ts : Trees) → AreOf (clean_all ts)
    clean_all_over none = tt
    clean_all_over (more t ts) = (clean_over t, clean_all_over ts)

  mutual
    clean_instance : (σ : ℕ → Tree) (t : Tree) → IsOf table t → clean (apply σ t) ≡ apply (λ x. clean (σ x)) t
    clean_instance σ (var x) h = refl
    clean_instance σ (app f ts) h =
        let e : fits f (count (apply_all σ ts)) ≡ true = it_fits f (count (apply_all σ ts)) h.0 (count-apply_all σ ts ∙ h.1) in
        ap (λ b. if b then app f (clean_all (apply_all σ ts)) else var 0) e ∙ ap (app f) (clean_instances σ ts h.2)

    clean_instances : (σ : ℕ → Tree) (ts : Trees) → AreOf ts → clean_all (apply_all σ ts) ≡ apply_all (λ x. clean (σ x)) ts
    clean_instances σ none h = refl
    clean_instances σ (more t ts) h = ap₂ more (clean_instance σ t h.0) (clean_instances σ ts h.1)

  -- a term is over the table where an instance of it is
  mutual
    under_instance : (τ : ℕ → Tree) (t : Tree) → IsOf table (apply τ t) → IsOf table t
    under_instance τ (var x) h = tt
    under_instance τ (app f ts) h = (h.0, sym (count-apply_all τ ts) ∙ h.1, under_instances τ ts h.2)

    under_instances : (τ : ℕ → Tree) (ts : Trees) → AreOf (apply_all τ ts) → AreOf ts
    under_instances τ none h = tt
    under_instances τ (more t ts) h = (under_instance τ t h.0, under_instances τ ts h.1)

  -- and an instance is where the term and the terms of the variables are
  mutual
    over_instance : (σ : ℕ → Tree) → ((x : ℕ) → IsOf table (σ x)) → (t : Tree) → IsOf table t → IsOf table (apply σ t)
    over_instance σ k (var x) h = k x
    over_instance σ k (app f ts) h = (h.0, count-apply_all σ ts ∙ h.1, over_instances σ k ts h.2)

    over_instances : (σ : ℕ → Tree) → ((x : ℕ) → IsOf table (σ x)) → (ts : Trees) → AreOf ts → AreOf (apply_all σ ts)
    over_instances σ k none h = tt
    over_instances σ k (more t ts) h = (over_instance σ k t h.0, over_instances σ k ts h.1)

  -- A most general unifier of terms over the table gives terms over the table: cleaned it is a unifier too, and so an instance.
  general_over : (s t : Tree) (σ : ℕ → Tree) → IsMostGeneral s t σ → IsOf table s → IsOf table t → (x : ℕ) → IsOf table (σ x)
  general_over s t σ m h k x =
      let cleaned : apply (λ y. clean (σ y)) s ≡ apply (λ y. clean (σ y)) t = sym (clean_instance σ s h) ∙ ap clean m.unifies ∙ clean_instance σ t k in
      under_instance (λ y. clean (σ y)) (σ x) (subst (IsOf table) (sym (m.general (λ y. clean (σ y)) cleaned x)) (clean_over (σ x)))

  -- the subterms of a term over the table are
  abbrev EachOf : List Tree → Type 0
  EachOf [] = Unit {0}
  EachOf (t ∷ ts) = IsOf table t × EachOf ts

  each_both : (ts us : List Tree) → EachOf ts → EachOf us → EachOf (ts ++ us)
  each_both [] us h k = k
  each_both (t ∷ ts) us h k = (h.0, each_both ts us h.1 k)

  mutual
    each_over : (t : Tree) → IsOf table t → EachOf (subterms t)
    each_over (var x) h = (tt, tt)
    each_over (app f ts) h = (h, all_over ts h.2)

    all_over : (ts : Trees) → AreOf ts → EachOf (subterms_all ts)
    all_over none h = tt
    all_over (more t ts) h = each_both (subterms t) (subterms_all ts) (each_over t h.0) (all_over ts h.1)

  index_over : (ts : List Tree) (p : ℕ) (d : Tree) → EachOf ts → IsOf table d → IsOf table (get_or ts p d)
  index_over [] p d h k = k
  index_over (t ∷ ts) zero d h k = h.0
  index_over (t ∷ ts) (suc p) d h k = index_over ts p d h.1 k

  subterm_over : (t : Tree) (p : ℕ) → IsOf table t → IsOf table (subterm t p)
  subterm_over t p h = index_over (subterms t) p t (each_over t h) h

  -- a term over the table with a subterm replaced by one over the table is
  count-put_all : (ts : Trees) (p : ℕ) (w : Tree) → count (put_all ts p w) ≡ count ts
  count-put_all none p w = refl
  count-put_all (more t ts) p w = go (nat_lt p (nodes t)) (count-put_all ts (p - nodes t) w)
    where
      go : (b : Bool) → count (put_all ts (p - nodes t) w) ≡ count ts → count (if b then more (put t p w) ts else more t (put_all ts (p - nodes t) w)) ≡ count ts + 1
      go true e = refl
      go false e = ap (λ n. n + 1) e

  mutual
    put_over : (t : Tree) (p : ℕ) (w : Tree) → IsOf table t → IsOf table w → IsOf table (put t p w)
    put_over (var x) p w h k = k
    put_over (app f ts) zero w h k = k
    put_over (app f ts) (suc p) w h k = (h.0, count-put_all ts p w ∙ h.1, put_all_over ts p w h.2 k)

    put_all_over : (ts : Trees) (p : ℕ) (w : Tree) → AreOf ts → IsOf table w → AreOf (put_all ts p w)
    put_all_over none p w h k = tt
    put_all_over (more t ts) p w h k = go (nat_lt p (nodes t)) (put_over t p w h.0 k) (put_all_over ts (p - nodes t) w h.1 k)
      where
        go : (b : Bool) → IsOf table (put t p w) → AreOf (put_all ts (p - nodes t) w) → AreOf (if b then more (put t p w) ts else more t (put_all ts (p - nodes t) w))
        go true a b = (a, h.1)
        go false a b = (h.0, b)

  abbrev pub IsRuleOver : Rule → Type 0
  IsRuleOver r = IsOf table r.from × IsOf table r.to

  pub rule_over : (number : ℕ) (side : Side) (e : Equation) → IsOf table e.left × IsOf table e.right → IsRuleOver (read_from number side e)
  rule_over number Left e h = h
  rule_over number Right e h = (h.1, h.0)

  shifted_over : (k : ℕ) (t : Tree) → IsOf table t → IsOf table (shifted k t)
  shifted_over k t h = over_instance (λ x. var (x + k)) (λ x. tt) t h

  module _ (outer inner : Rule) (place : ℕ) (o : Overlapping outer inner place) (h : IsRuleOver outer) (k : IsRuleOver inner) where
    unifier_over : (x : ℕ) → IsOf table (o.σ x)
    unifier_over = general_over (subterm outer.from place) (shifted o.k inner.from) o.σ o.most_general (subterm_over outer.from place h.0) (shifted_over o.k inner.from k.0)

    left_over : IsOf table (left_of o)
    left_over = over_instance o.σ unifier_over outer.to h.1

    right_over : IsOf table (right_of o)
    right_over = over_instance o.σ unifier_over (put outer.from place (shifted o.k inner.to)) (put_over outer.from place (shifted o.k inner.to) h.0 (shifted_over o.k inner.to k.1))

  formed_over : (outer inner : Rule) (place : ℕ) (f : Formation) → IsRuleOver outer → IsRuleOver inner → IsFormation outer inner place f → IsFormationOver table f
  formed_over outer inner place f h k (forms_none o large) = tt
  formed_over outer inner place f h k (forms_pair o small by) = (
    subst (IsOf table) (sym by.numbered.left_is) (over_instance _ (λ x. tt) (left_of o) (left_over outer inner place o h k)),
    subst (IsOf table) (sym by.numbered.right_is) (over_instance _ (λ x. tt) (right_of o) (right_over outer inner place o h k)),
  )

  -- what the pair of two equations over the table comes to is over the table
  pub pair_over : (a b : Equation) (o : Overlap) (f : Formation) → IsOf table a.left × IsOf table a.right → IsOf table b.left × IsOf table b.right → IsPairOf a b o f → IsFormationOver table f
  pair_over a b o f h k p = formed_over (read_from o.outer o.outer_side a) (read_from o.inner o.inner_side b) o.position.0 f (rule_over o.outer o.outer_side a h) (rule_over o.inner o.inner_side b k) p
