-- Facts whose chains replay over axioms and earlier facts follow from the axioms.
use Rattle.std.proofs.Common.{◌≡◌, ℕ, zero, suc, ◌+◌, ◌<◌, List, [], ◌∷◌, map, take, slice_get, Some, refl, subst, arith}
use Rattle.uc_term.specs.declared.equation.Equation.{Equation}
use Rattle.uc_term.specs.Tree.{Tree, var, apply}
use Rattle.uc_term.specs.Conversion.{Conv}
use Rattle.uc_term.proofs.Terms.{apply-var}
use Rattle.uc_term.proofs.Conversion.{equation_turn, Conv-turn, Conv-follows}
use Rattle.uc_fact.specs.declared.fact.Fact.{Fact}
use Rattle.uc_fact.specs.Live.{equation_of}
use Rattle.uc_fact.specs.Chains.{last_term}
use Rattle.uc_rewrite.specs.Replay.{equations, FactsReplay}
use Rattle.uc_rewrite.proofs.Converting.{replacements_convert}
use Rattle.uc_decide.specs.Converging.{FollowFrom}

-- what holds of two lists, one behind the other
each_fact : (P : Equation → Type 0) (facts : List Fact) → ((n : ℕ) (f : Fact) → slice_get facts n ≡ Some f → P (equation_of f)) → (i : ℕ) (e : Equation) → slice_get (map equation_of facts) i ≡ Some e → P e
each_fact P [] h i e at = absurd cc
each_fact P (f ∷ fs) h zero e at = let q : equation_of f ≡ e = cc in subst P q (h zero f refl)
each_fact P (f ∷ fs) h (suc i) e at = each_fact P fs (λ n g k. h (suc n) g k) i e at

each_of : (P : Equation → Type 0) (axioms : List Equation) (facts : List Fact) → ((n : ℕ) (e : Equation) → slice_get axioms n ≡ Some e → P e) → ((n : ℕ) (f : Fact) → slice_get facts n ≡ Some f → P (equation_of f)) → (i : ℕ) (e : Equation) → slice_get (equations axioms facts) i ≡ Some e → P e
each_of P [] facts a h i e at = each_fact P facts h i e at
each_of P (x ∷ xs) facts a h zero e at = a zero e at
each_of P (x ∷ xs) facts a h (suc i) e at = each_of P xs facts (λ n y k. a (suc n) y k) h i e at

-- what is among the first of a list is in the list, and early
record Early (facts : List Fact) (n i : ℕ) (f : Fact) : Type 0 where
  early : i < n
  there : slice_get facts i ≡ Some f

early_in : (facts : List Fact) (n i : ℕ) (f : Fact) → slice_get (take n facts) i ≡ Some f → Early facts n i f
early_in [] zero i f at = absurd cc
early_in [] (suc n) i f at = absurd cc
early_in (x ∷ xs) zero i f at = absurd cc
early_in (x ∷ xs) (suc n) zero f at = record { early = omega arith; there = at }
early_in (x ∷ xs) (suc n) (suc i) f at = let e = early_in xs n i f at in record { early = omega (arith, e.early); there = e.there }

module _ (axioms : List Equation) (facts : List Fact) (replays : FactsReplay axioms facts) where
  abbrev Follows : Equation → Type 0
  Follows e = Conv axioms e.left e.right

  axiom_follows : (n : ℕ) (e : Equation) → slice_get axioms n ≡ Some e → Follows e
  axiom_follows n e at = subst (λ (z : Tree). Conv axioms e.left z) (apply-var e.right) (subst (λ (z : Tree). Conv axioms z (apply var e.right)) (apply-var e.left) (Conv-turn axioms (apply var e.left) (apply var e.right) (equation_turn axioms n e at var)))

  fact_follows : (n : ℕ) (f : Fact) → slice_get facts n ≡ Some f → ((k : ℕ) (g : Fact) → k < n → slice_get facts k ≡ Some g → Follows (equation_of g)) → Follows (equation_of f)
  fact_follows n f at known =
      let r = replays n f at in
      let first = take n facts in
      let by_all : Conv (equations axioms first) f.chain.start (last_term f.chain.start f.chain.steps) = replacements_convert axioms first f.chain.start f.chain.steps r.replays in
      let all : FollowFrom axioms (equations axioms first) = each_of Follows axioms first axiom_follows (λ k g there. let e = early_in facts n k g there in known k g e.early e.there) in
      let whole : Conv axioms f.chain.start (last_term f.chain.start f.chain.steps) = Conv-follows (equations axioms first) axioms all by_all in
      subst (λ (z : Tree). Conv axioms f.left z) r.end_is (subst (λ (z : Tree). Conv axioms z (last_term f.chain.start f.chain.steps)) r.start_is whole)

  -- all before a number
  before : (bound n : ℕ) (f : Fact) → n < bound → slice_get facts n ≡ Some f → Follows (equation_of f)
  before zero n f h at = absurd (omega arith)
  before (suc bound) n f h at = fact_follows n f at (λ k g l there. before bound k g (omega arith) there)

  pub facts_follow : FollowFrom axioms (map equation_of facts)
  facts_follow = each_fact Follows facts (λ n f at. before (n + 1) n f (omega arith) at)
