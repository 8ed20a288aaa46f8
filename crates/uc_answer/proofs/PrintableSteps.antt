-- The terms of a chain of steps are over the table, and each step is made inside the term before it.
use Rattle.std.proofs.Common.{◌⊎◌, inl, inr, ℕ, zero, suc, ◌+◌, ◌≡◌, ◌<◌, List, [], ◌∷◌, refl, sym, ap, ◌∙◌, subst, arith}
use Rattle.uc_term.specs.declared.node.Sym.{Sym}
use Rattle.uc_term.specs.declared.equation.Equation.{Equation}
use Rattle.uc_term.specs.Tree.{Tree, var, app, Trees, none, more, count, apply, apply_all, nodes, nodes_all}
use Rattle.uc_term.specs.Over.{AreOver}
use Rattle.uc_term.specs.Table.{Table, Has, arity_of, IsOf}
use Rattle.uc_term.specs.Variables.{Occurs, is_itself, in_args, OccursIn, in_first, in_later}
use Rattle.uc_order.proofs.Renaming.{count-apply_all}
use Rattle.uc_fact.specs.declared.chain.Step.{Step}
use Rattle.uc_fact.specs.declared.fact.Stop.{Stop}
use Rattle.uc_fact.specs.Live.{Live, Rule, rules_of, numbered_from, numbered}
use Rattle.uc_fact.proofs.Occurring.{occurs_or_not}
use Rattle.uc_rewrite.specs.Normalising.{Makes, FirstRule, this_rule, later_rule, FirstStep, in_arguments, at_the_term, FirstStepAmong, in_this, in_another, Normalises, goes_on}
use Rattle.uc_answer.specs.Axioms.{AreEquationsOf}
use Rattle.uc_answer.specs.ChainLines.{ArePrintable}

some_nodes : (u : Tree) → 0 < nodes u
some_nodes (var x) = omega arith
some_nodes (app f ts) = omega arith

module _ (table : Table) where
  abbrev AreOf : Trees → Type 0
  AreOf = AreOver (Has table) (arity_of table) (λ _. Unit {0})

  -- an instance is over the table where the terms of its variables are
  mutual
    instance_of : (σ : ℕ → Tree) (t : Tree) → IsOf table t → ((x : ℕ) → Occurs x t → IsOf table (σ x)) → IsOf table (apply σ t)
    instance_of σ (var x) h k = k x is_itself
    instance_of σ (app f ts) h k = (h.0, count-apply_all σ ts ∙ h.1, instances_of σ ts h.2 (λ x o. k x (in_args o)))

    instances_of : (σ : ℕ → Tree) (ts : Trees) → AreOf ts → ((x : ℕ) → OccursIn x ts → IsOf table (σ x)) → AreOf (apply_all σ ts)
    instances_of σ none h k = tt
    instances_of σ (more t ts) h k = (instance_of σ t h.0 (λ x o. k x (in_first o)), instances_of σ ts h.1 (λ x o. k x (in_later o)))

  -- and the terms of its variables are where it is
  mutual
    value_of : (σ : ℕ → Tree) (x : ℕ) (t : Tree) → Occurs x t → IsOf table (apply σ t) → IsOf table (σ x)
    value_of σ x (var y) is_itself h = h
    value_of σ x (app f ts) (in_args o) h = value_of_all σ x ts o h.2

    value_of_all : (σ : ℕ → Tree) (x : ℕ) (ts : Trees) → OccursIn x ts → AreOf (apply_all σ ts) → IsOf table (σ x)
    value_of_all σ x none o h = elim o [ ]
    value_of_all σ x (more t ts) (in_first o) h = value_of σ x t o h.0
    value_of_all σ x (more t ts) (in_later o) h = value_of_all σ x ts o h.1

  -- both sides of each rule are over the table
  abbrev pub AreRulesOf : List Rule → Type 0
  AreRulesOf [] = Unit {0}
  AreRulesOf (r ∷ rs) = (IsOf table r.from × IsOf table r.to) × AreRulesOf rs

  rules_from : (n : ℕ) (es : List Equation) → AreEquationsOf table es → AreRulesOf (rules_of (numbered_from n es))
  rules_from n [] h = tt
  rules_from n (e ∷ es) h = ((h.0, h.1), ((h.1, h.0), rules_from (n + 1) es h.2))

  pub rules_over : (es : List Equation) → AreEquationsOf table es → AreRulesOf (rules_of (numbered es))
  rules_over es h = rules_from 0 es h

  module _ (Greater : Tree → Tree → Type 0) (least : Sym) (least_of : IsOf table (app least none)) where
    made_of : (r : Rule) (u v : Tree) → IsOf table r.from → IsOf table r.to → IsOf table u → Makes Greater least r u v → IsOf table v
    made_of r u v hf ht hu m =
        let instance : IsOf table (apply m.σ r.from) = subst (IsOf table) m.u_is hu in
        subst (IsOf table) (sym m.v_is) (instance_of m.σ r.to ht (λ x o. value x o instance (occurs_or_not x r.from)))
      where
        value : (x : ℕ) → Occurs x r.to → IsOf table (apply m.σ r.from) → Occurs x r.from ⊎ (Occurs x r.from → ⊥) → IsOf table (m.σ x)
        value x o h (inl k) = value_of m.σ x r.from k h
        value x o h (inr n) = subst (IsOf table) (sym (m.completed x o n)) least_of

    by_first : (u v : Tree) (rules : List Rule) (rule : Rule) → AreRulesOf rules → IsOf table u → FirstRule Greater least u v rules rule → IsOf table v
    by_first u v [] rule h k f = elim f [ ]
    by_first u v (r ∷ rs) rule h k (this_rule m) = made_of r u v h.0.0 h.0.1 k m
    by_first u v (r ∷ rs) rule h k (later_rule n f) = by_first u v rs rule h.1 k f

    module _ (live : List Live) (rules : AreRulesOf (rules_of live)) where
      mutual
        first_step : (u : Tree) (place : ℕ) (rule : Rule) (v : Tree) → FirstStep Greater least live u place rule v → (place < nodes u) × (IsOf table u → IsOf table v)
        first_step (var _) (suc place) rule v h = elim h [ ]
        first_step (app f us) (suc place) rule (var _) h = elim h [ ]
        first_step (app f us) (suc place) rule (app _ vs) (in_arguments h) =
            let p = first_among us place rule vs h in
            (omega (arith, p.0), λ k. (k.0, sym p.2 ∙ k.1, p.1 k.2))
        first_step u zero rule v (at_the_term n f) = (some_nodes u, λ k. by_first u v (rules_of live) rule rules k f)

        first_among : (us : Trees) (place : ℕ) (rule : Rule) (vs : Trees) → FirstStepAmong Greater least live us place rule vs → (place < nodes_all us) × (AreOf us → AreOf vs) × (count us ≡ count vs)
        first_among none place rule vs h = elim h [ ]
        first_among (more u us) place rule none h = elim h [ ]
        first_among (more u ts) place rule (more v _) (in_this h) =
            let p = first_step u place rule v h in
            (omega (arith, p.0), λ k. (p.1 k.0, k.1), refl)
        first_among (more t us) _ rule (more _ vs) (in_another {place = place} n h) =
            let p = first_among us place rule vs h in
            (omega (arith, p.0), λ k. (k.0, p.1 k.1), ap (λ c. c + 1) p.2)

      pub printable : (limit : ℕ) (t : Tree) (steps : List Step) (end : Tree) (stop : Stop) → IsOf table t → Normalises Greater least live limit t steps end stop → ArePrintable table t steps
      printable limit t [] end stop h n = tt
      printable zero t (step ∷ steps) end stop h n = elim n [ ]
      printable (suc limit) t (step ∷ steps) end stop h (goes_on {v = v} {place = place} {rule = rule} f small rest) =
          let p = first_step t place rule v f in
          (p.0, p.1 h, printable limit v steps end stop (p.1 h) rest)
