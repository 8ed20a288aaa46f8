-- Replacements of equals by the equations that steps name are a conversion.
use Rattle.std.proofs.Common.{◌≡◌, ℕ, zero, suc, ◌+◌, ◌-◌, ◌<◌, ◌≤◌, ◌⊎◌, inl, inr, List, [], ◌∷◌, map, get_or, slice_get, Some, refl, sym, ap, ◌∙◌, subst, arith}
use Rattle.std.proofs.lemmas.List.{get_or_append_left, get_or-append_right}
use Rattle.uc_term.specs.declared.equation.Equation.{Equation}
use Rattle.uc_term.specs.Tree.{Tree, var, app, Trees, none, more, apply, nodes, nodes_all, subterms, subterms_all, subterm, put, put_all}
use Rattle.uc_term.specs.Equations.{side_of, other_side_of}
use Rattle.uc_term.specs.Within.{Within, at_root, under, WithinOne, at_first, at_later, stay, go_by}
use Rattle.uc_term.specs.Conversion.{Turn, Step as OneStep, Conv}
use Rattle.uc_term.proofs.Terms.{length-subterms}
use Rattle.uc_term.proofs.Positions.{low, high}
use Rattle.uc_term.proofs.Gets.{get-append_left, get-append_right}
use Rattle.uc_fact.specs.declared.chain.By.{By}
use Rattle.uc_fact.specs.declared.chain.By.TheVariants.{Axiom, Fact as FactOf}
use Rattle.uc_fact.specs.declared.chain.Step.{Step}
use Rattle.uc_fact.specs.declared.fact.Fact.{Fact}
use Rattle.uc_fact.specs.Live.{equation_of}
use Rattle.uc_fact.specs.Chains.{last_term}
use Rattle.uc_rewrite.specs.Replay.{equations, named, replaced_side, IsReplacement, AreReplacements}

-- a relation used at a place
module _ (R : Tree → Tree → Type 0) where
  mutual
    pub within_put : (t : Tree) (p : ℕ) (d w : Tree) → p < nodes t → R (get_or (subterms t) p d) w → Within R t (put t p w)
    within_put (var x) zero d w h r = at_root r
    within_put (var x) (suc p) d w h r = absurd (omega arith)
    within_put (app f ts) zero d w h r = at_root r
    within_put (app f ts) (suc p) d w h r = under (within_put_all ts p d w (omega arith) r)

    within_put_all : (ts : Trees) (p : ℕ) (d w : Tree) → p < nodes_all ts → R (get_or (subterms_all ts) p d) w → WithinOne R ts (put_all ts p w)
    within_put_all none p d w h r = absurd (omega arith)
    within_put_all (more t ts) p d w h r =
        let where_is : (p < nodes t) ⊎ (nodes t ≤ p) = grind arith in
        elim where_is [
          | inl k ↦
              let at = get_or_append_left (subterms t) (subterms_all ts) d p (omega (arith, length-subterms t)) in
              subst (λ (us : Trees). WithinOne R (more t ts) us) (sym (low t ts p w k)) (at_first (within_put t p d w k (subst (λ (x : Tree). R x w) at r)))
          | inr k ↦
              let at = get_or-append_right (subterms t) (subterms_all ts) (nodes t) p d (length-subterms t) k in
              let place : nodes t + (p - nodes t) ≡ p = omega arith in
              let there : put_all (more t ts) p w ≡ more t (put_all ts (p - nodes t) w) = ap (λ n. put_all (more t ts) n w) (sym place) ∙ high t ts (p - nodes t) w in
              subst (λ (us : Trees). WithinOne R (more t ts) us) (sym there) (at_later (within_put_all ts (p - nodes t) d w (omega arith) (subst (λ (x : Tree). R x w) at r)))
        ]

module _ (axioms : List Equation) (facts : List Fact) where
  -- what is named is one of the equations
  among : (by : By) (e : Equation) → named axioms facts by ≡ Some e → (k : ℕ) × (slice_get (equations axioms facts) k ≡ Some e)
  among (Axiom number) e h = (number, get-append_left axioms (map equation_of facts) number e h)
  among (FactOf number) e h = get-append_right axioms (map equation_of facts) number e h

  turn_of : (before : Tree) (step : Step) (r : IsReplacement axioms facts before step) → Turn (equations axioms facts) (subterm before step.position.0) (apply r.replaces.σ (other_side_of (replaced_side step.left_to_right) r.equation))
  turn_of before step r =
      let at = among step.by r.equation r.equation_is in
      let side = replaced_side step.left_to_right in
      record {
        number = at.0;
        side = side;
        l = side_of side r.equation;
        r = other_side_of side r.equation;
        sides = record { equation = r.equation; equation_is = at.1; left_is = refl; right_is = refl };
        σ = r.replaces.σ;
        u_is = sym r.replaces.from_is;
        v_is = refl;
      }

  replacement_step : (before : Tree) (step : Step) → IsReplacement axioms facts before step → OneStep (equations axioms facts) before step.to
  replacement_step before step r =
      let es = equations axioms facts in
      let w = apply r.replaces.σ (other_side_of (replaced_side step.left_to_right) r.equation) in
      subst (λ (u : Tree). OneStep es before u) r.replaces.to_is (within_put (Turn es) before step.position.0 before w r.replaces.inside (turn_of before step r))

  pub replacements_convert : (before : Tree) (steps : List Step) → AreReplacements axioms facts before steps → Conv (equations axioms facts) before (last_term before steps)
  replacements_convert before [] h = stay
  replacements_convert before (step ∷ steps) h = go_by (replacement_step before step h.0) (replacements_convert step.to steps h.1)
