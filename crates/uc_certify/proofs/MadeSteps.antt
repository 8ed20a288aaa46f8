-- What the first possible step of a term replaces, by which equation, and by what.
use Rattle.std.proofs.Common.{◌≡◌, ℕ, suc, ◌+◌, ◌-◌, ◌<◌, List, [], ◌∷◌, get_or, slice_get, Some, refl, sym, ap, ◌∙◌, subst, arith}
use Rattle.std.proofs.lemmas.List.{get_or_append_left, get_or-append_right, get_or_default}
use Rattle.uc_term.specs.declared.node.Sym.{Sym}
use Rattle.uc_term.specs.declared.equation.Equation.{Equation}
use Rattle.uc_term.specs.Equations.{side_of, other_side_of}
use Rattle.uc_term.specs.Tree.{Tree, var, app, Trees, none, more, nodes, nodes_all, subterms, subterms_all, subterm, put, put_all}
use Rattle.uc_term.proofs.Terms.{length-subterms, nodes_pos}
use Rattle.uc_term.proofs.Positions.{high}
use Rattle.uc_fact.specs.declared.chain.Step.{Step}
use Rattle.uc_fact.specs.declared.fact.Stop.{Stop}
use Rattle.uc_fact.specs.Live.{Live, Rule, rules_of, numbered, numbered_from}
use Rattle.uc_order.specs.Members.{Each}
use Rattle.uc_rewrite.specs.declared.normal.Normal.{Normal}
use Rattle.uc_rewrite.specs.Normalising.{FirstRule, this_rule, later_rule, FirstStep, in_arguments, at_the_term, FirstStepAmong, in_this, in_another, Normalises, is_full, is_spent, is_large, goes_on, IsNormalOf}
use Rattle.uc_pair.proofs.Replacing.{put_here}
use Rattle.uc_certify.specs.Making.{AreByFacts}

root_get : (t d : Tree) → get_or (subterms t) 0 d ≡ t
root_get (var x) d = refl
root_get (app f ts) d = refl

root_put : (t u : Tree) → put t 0 u ≡ u
root_put (var x) u = refl
root_put (app f ts) u = refl

module _ (Greater : Tree → Tree → Type 0) (least : Sym) (live : List Live) where
  -- the first rule makes a term of the subterm at the place, and this takes the subterm's place
  pub record StepAt (t : Tree) (p : ℕ) (r : Rule) (v : Tree) : Type 0 where
    pub inside : p < nodes t
    pub w : Tree
    pub put_is : put t p w ≡ v
    pub first : FirstRule Greater least (subterm t p) w (rules_of live) r

  record StepAmong (us : Trees) (p : ℕ) (r : Rule) (vs : Trees) : Type 0 where
    inside : p < nodes_all us
    w : Tree
    put_is : put_all us p w ≡ vs
    first : (d : Tree) → FirstRule Greater least (get_or (subterms_all us) p d) w (rules_of live) r

  mutual
    pub step_at : (t : Tree) (p : ℕ) (r : Rule) (v : Tree) → FirstStep Greater least live t p r v → StepAt t p r v
    step_at (app f us) _ r (app g vs) (in_arguments {place = p} a) =
        let q = among_at us p r vs a in
        record { inside = omega (arith, q.inside); w = q.w; put_is = ap (app f) q.put_is; first = q.first (app f us) }
    step_at t _ r v (at_the_term n f) = record { inside = nodes_pos t; w = v; put_is = root_put t v; first = subst (λ (u : Tree). FirstRule Greater least u v (rules_of live) r) (sym (root_get t t)) f }

    among_at : (us : Trees) (p : ℕ) (r : Rule) (vs : Trees) → FirstStepAmong Greater least live us p r vs → StepAmong us p r vs
    among_at none p r vs a = elim a [ ]
    among_at (more u ts) p r none a = elim a [ ]
    among_at (more u ts) p r (more v _) (in_this f) =
        let q = step_at u p r v f in
        record {
          inside = omega (arith, q.inside);
          w = q.w;
          put_is = put_here u ts p q.w q.inside ∙ ap (λ (z : Tree). more z ts) q.put_is;
          first = λ d. subst (λ (z : Tree). FirstRule Greater least z q.w (rules_of live) r) (get_or_default (subterms u) p u d (omega (arith, length-subterms u, q.inside)) ∙ sym (get_or_append_left (subterms u) (subterms_all ts) d p (omega (arith, length-subterms u, q.inside)))) q.first;
        }
    among_at (more t us) _ r (more _ vs) (in_another {place = p} n a) =
        let q = among_at us p r vs a in
        let e : p ≡ (nodes t + p) - nodes t = omega arith in
        record {
          inside = omega (arith, q.inside);
          w = q.w;
          put_is = high t us p q.w ∙ ap (more t) q.put_is;
          first = λ d. subst (λ (z : Tree). FirstRule Greater least z q.w (rules_of live) r) (ap (λ k. get_or (subterms_all us) k d) e ∙ sym (get_or-append_right (subterms t) (subterms_all us) (nodes t) (nodes t + p) d (length-subterms t) (omega arith))) (q.first d);
        }

  -- the steps of a normalising are by facts
  pub steps_by_facts : (limit : ℕ) (t end : Tree) (steps : List Step) (stop : Stop) → Normalises Greater least live limit t steps end stop → AreByFacts t steps
  steps_by_facts limit t _ _ _ (is_full i) = tt
  steps_by_facts _ t _ _ _ (is_spent f) = tt
  steps_by_facts _ t _ _ _ (is_large f l) = tt
  steps_by_facts _ t end _ stop (goes_on {limit = limit} {v = v} {place = p} {rule = r} {steps = steps} f l n) = ((r.number, refl), (step_at t p r v f).inside, steps_by_facts limit v end steps stop n)

  pub normal_by_facts : (limit : ℕ) (t : Tree) (n : Normal) → IsNormalOf Greater least live limit t n → AreByFacts n.chain.start n.chain.steps
  normal_by_facts limit t n i = subst (λ (u : Tree). AreByFacts u n.chain.steps) (sym i.start) (steps_by_facts limit t n.term n.chain.steps n.stop i.normalises)

-- the equation of a rule
module _ (facts : List Equation) where
  pub record IsRuleOf (r : Rule) : Type 0 where
    pub equation : Equation
    pub equation_is : slice_get facts r.number ≡ Some equation
    pub from_is : r.from ≡ side_of r.side equation
    pub to_is : r.to ≡ other_side_of r.side equation

  abbrev IsNamed : Live → Type 0
  IsNamed f = slice_get facts f.number ≡ Some f.equation

  first_rule_of : (Greater : Tree → Tree → Type 0) (least : Sym) (u v : Tree) (fs : List Live) (r : Rule) → Each IsNamed fs → FirstRule Greater least u v (rules_of fs) r → IsRuleOf r
  first_rule_of Greater least u v [] r h f = elim f [ ]
  first_rule_of Greater least u v (f ∷ fs) _ h (this_rule m) = record { equation = f.equation; equation_is = h.0; from_is = refl; to_is = refl }
  first_rule_of Greater least u v (f ∷ fs) _ h (later_rule n (this_rule m)) = record { equation = f.equation; equation_is = h.0; from_is = refl; to_is = refl }
  first_rule_of Greater least u v (f ∷ fs) r h (later_rule n (later_rule k g)) = first_rule_of Greater least u v fs r h.1 g

  named_from : (n : ℕ) (es : List Equation) → ((k : ℕ) → slice_get facts (n + k) ≡ slice_get es k) → Each IsNamed (numbered_from n es)
  named_from n [] h = tt
  named_from n (e ∷ es) h = (
    (let q : n ≡ n + 0 = omega arith in ap (slice_get facts) q ∙ h 0),
    named_from (n + 1) es (λ k. (let q : n + 1 + k ≡ n + suc k = omega arith in ap (slice_get facts) q ∙ h (suc k))),
  )

  pub rule_equation : (Greater : Tree → Tree → Type 0) (least : Sym) (u v : Tree) (r : Rule) → FirstRule Greater least u v (rules_of (numbered facts)) r → IsRuleOf r
  rule_equation Greater least u v r f = first_rule_of Greater least u v (numbered facts) r (named_from 0 facts (λ k. (let q : 0 + k ≡ k = omega arith in ap (slice_get facts) q))) f
