use Rattle.std.proofs.Common.{◌≡◌, ◌<◌, ◌≤◌, List, length, refl, sym, subst}
use Rattle.std.proofs.lemmas.Result.{IfOk-weaker}
use Rattle.uc_term.specs.declared.equation.Equation.{Equation}
use Rattle.uc_fact.specs.declared.chain.By.TheVariants.{Axiom as ByAxiom, Fact as ByFact}
use Rattle.uc_fact.specs.declared.fact.Origin.TheVariants.{Overlap as OfOverlap}
use Rattle.uc_fact.specs.Live.{equation_of}
use Rattle.uc_fact.specs.Chains.{one_step}
use Rattle.uc_machine.specs.Results.{IsPair}
use Rattle.uc_machine.specs.Origins.{IsKnownOrigin}
use Rattle.uc_task.proofs.Paired.{axiom_pair, dead_pair, one_step_short}
use Rattle.uc_task.proofs.pair.pair_from.Goals as goal

pub bounds-axioms-k : goal.bounds-axioms-k
bounds-axioms-k g c = subst (IsKnownOrigin (g.O.Order.meaning c.args.order.now) c.args.axioms.now c.args.front.now.entries) c.in-Axiom.is c.requires.can

pub fact-fact-requires-clause-born : goal.fact-fact-requires-clause-born
fact-fact-requires-clause-born g c = subst (IsKnownOrigin (g.O.Order.meaning c.args.order.now) c.args.axioms.now c.args.front.now.entries) c.in-Revived.is c.requires.can

pub by_overlap-requires-clause-listed : goal.by_overlap-requires-clause-listed
by_overlap-requires-clause-listed g c = subst (IsKnownOrigin (g.O.Order.meaning c.args.order.now) c.args.axioms.now c.args.front.now.entries) c.in-Overlap.is c.requires.can

pub returns-in-Axiom-clause-pair : goal.returns-in-Axiom-clause-pair
returns-in-Axiom-clause-pair g c =
    let axioms = c.args.axioms.now in
    let entries = c.args.front.now.entries in
    let e = c.index-axioms-k.result in
    let within : c.in-Axiom.k < length axioms = subst (IsKnownOrigin (g.O.Order.meaning c.args.order.now) axioms entries) c.in-Axiom.is c.requires.can in
    IfOk-weaker c.by_equation.result (λ pair. (pair.equation ≡ e) × (pair.chain ≡ one_step (ByAxiom c.in-Axiom.k) e)) (λ pair. IsPair axioms entries c.args.origin.now pair.equation pair.chain)
    (λ pair h. subst (λ o. IsPair axioms entries o pair.equation pair.chain) (sym c.in-Axiom.is) (axiom_pair axioms entries c.in-Axiom.k e pair.equation pair.chain within c.index-axioms-k.is h.0 h.1)) c.by_equation.ensures

pub returns-in-Axiom-clause-short : goal.returns-in-Axiom-clause-short
returns-in-Axiom-clause-short g c =
    let e = c.index-axioms-k.result in
    IfOk-weaker c.by_equation.result (λ pair. (pair.equation ≡ e) × (pair.chain ≡ one_step (ByAxiom c.in-Axiom.k) e)) (λ pair. length pair.chain.steps ≤ 2)
    (λ pair h. one_step_short pair.chain (one_step (ByAxiom c.in-Axiom.k) e) h.1 refl) c.by_equation.ensures

pub returns-in-Overlap-clause-pair : goal.returns-in-Overlap-clause-pair
returns-in-Overlap-clause-pair g c =
    let axioms = c.args.axioms.now in
    let entries = c.args.front.now.entries in
    IfOk-weaker c.by_overlap.result (λ pair. (others : List Equation) → IsPair others entries (OfOverlap c.in-Overlap.overlap) pair.equation pair.chain) (λ pair. IsPair axioms entries c.args.origin.now pair.equation pair.chain)
    (λ pair h. subst (λ o. IsPair axioms entries o pair.equation pair.chain) (sym c.in-Overlap.is) (h axioms)) c.by_overlap.ensures.pair

pub returns-in-Revived-clause-pair : goal.returns-in-Revived-clause-pair
returns-in-Revived-clause-pair g c =
    let axioms = c.args.axioms.now in
    let entries = c.args.front.now.entries in
    let f = c.fact-fact.result.now in
    IfOk-weaker c.by_equation-in-Revived.result (λ pair. (pair.equation ≡ equation_of f) × (pair.chain ≡ one_step (ByFact c.in-Revived.k) (equation_of f))) (λ pair. IsPair axioms entries c.args.origin.now pair.equation pair.chain)
    (λ pair h. subst (λ o. IsPair axioms entries o pair.equation pair.chain) (sym c.in-Revived.is) (dead_pair axioms entries c.in-Revived.k f pair.equation pair.chain c.fact-fact.ensures h.0 h.1)) c.by_equation-in-Revived.ensures

pub returns-in-Revived-clause-short : goal.returns-in-Revived-clause-short
returns-in-Revived-clause-short g c =
    let f = c.fact-fact.result.now in
    IfOk-weaker c.by_equation-in-Revived.result (λ pair. (pair.equation ≡ equation_of f) × (pair.chain ≡ one_step (ByFact c.in-Revived.k) (equation_of f))) (λ pair. length pair.chain.steps ≤ 2)
    (λ pair h. one_step_short pair.chain (one_step (ByFact c.in-Revived.k) (equation_of f)) h.1 refl) c.by_equation-in-Revived.ensures
