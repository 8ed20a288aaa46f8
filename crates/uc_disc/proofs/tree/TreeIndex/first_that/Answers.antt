use Rattle.std.proofs.Common.{◌≡◌, ◌∙◌, sym, ap, subst, Some, None, List}
use Rattle.uc_term.specs.Flat.{tree_of}
use Rattle.uc_fact.specs.Live.{Live, rules_of}
use Rattle.uc_fact.specs.Retrieval.{IsFound, FirstThat, FindsNothing}
use Rattle.uc_disc.specs.Numbered.{lives, risen}
use Rattle.uc_disc.specs.Rising.{risen_same}
use Rattle.uc_disc.proofs.Retrieved.{err_of}
use Rattle.uc_disc.proofs.Telling.{first_some, first_none}
use Rattle.uc_disc.proofs.tree.TreeIndex.first_that.Goals as goal

pub first_from-requires-clause-can : goal.first_from-requires-clause-can
first_from-requires-clause-can g c found from to i =
    let v = c.self.view_is in
    let same : risen 0 c.args.self.now ≡ lives c.as_slice.result.now = ap (risen 0) (let z : c.args.self.now ≡ c.self.inside.facts.items = cc in z) ∙ risen_same 0 c.self.inside.facts.items c.self.invariant.0 ∙ ap lives (sym c.as_slice.ensures.value) in
    c.requires.can found from to (subst (λ (z : List Live). IsFound (tree_of c.args.term.now) (rules_of z) found from to) (sym same) i)

pub returns-in_err-answer-clause-memory : goal.returns-in_err-answer-clause-memory
returns-in_err-answer-clause-memory g c =
    let v = c.self.view_is in
    let same : risen 0 c.args.self.now ≡ lives c.as_slice.result.now = ap (risen 0) (let z : c.args.self.now ≡ c.self.inside.facts.items = cc in z) ∙ risen_same 0 c.self.inside.facts.items c.self.invariant.0 ∙ ap lives (sym c.as_slice.ensures.value) in
    err_of c.from_residual.result (FindsNothing (tree_of c.args.term.now) (rules_of (risen 0 c.args.self.now)) → ⊥) (λ n. c.in_err-answer.ensures.memory (subst (λ (z : List Live). FindsNothing (tree_of c.args.term.now) (rules_of z)) same n))

pub returns-in-Some-clause-value : goal.returns-in-Some-clause-value
returns-in-Some-clause-value g c =
    let v = c.self.view_is in
    let same : risen 0 c.args.self.now ≡ lives c.as_slice.result.now = ap (risen 0) (let z : c.args.self.now ≡ c.self.inside.facts.items = cc in z) ∙ risen_same 0 c.self.inside.facts.items c.self.invariant.0 ∙ ap lives (sym c.as_slice.ensures.value) in
    subst (λ (z : List Live). FirstThat (g.T.Test.accepts c.args.test.now) (tree_of c.args.term.now) (rules_of z) (Some c.in-Some.answer.found)) (sym same) (first_some (g.T.Test.accepts c.args.test.now) (tree_of c.args.term.now) (rules_of (lives c.as_slice.result.now)) c.in_ok-answer.field-0 c.in-Some.answer c.in-Some.is c.in_ok-answer.ensures.value)

pub returns-in-None-clause-value : goal.returns-in-None-clause-value
returns-in-None-clause-value g c =
    let v = c.self.view_is in
    let same : risen 0 c.args.self.now ≡ lives c.as_slice.result.now = ap (risen 0) (let z : c.args.self.now ≡ c.self.inside.facts.items = cc in z) ∙ risen_same 0 c.self.inside.facts.items c.self.invariant.0 ∙ ap lives (sym c.as_slice.ensures.value) in
    subst (λ (z : List Live). FirstThat (g.T.Test.accepts c.args.test.now) (tree_of c.args.term.now) (rules_of z) None) (sym same) (first_none (g.T.Test.accepts c.args.test.now) (tree_of c.args.term.now) (rules_of (lives c.as_slice.result.now)) c.in_ok-answer.field-0 c.in-None.is c.in_ok-answer.ensures.value)
