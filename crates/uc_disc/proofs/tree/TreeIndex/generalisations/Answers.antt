use Rattle.std.proofs.Common.{◌≡◌, ◌∙◌, sym, ap, subst, List, arith, length}
use Rattle.uc_term.specs.Flat.{tree_of}
use Rattle.uc_fact.specs.declared.index.Found.{Found}
use Rattle.uc_fact.specs.Live.{Live, rules_of}
use Rattle.uc_fact.specs.Retrieval.{Generalises, no_rules, FindsNothing}
use Rattle.uc_disc.specs.Numbered.{lives, risen}
use Rattle.uc_disc.specs.Rising.{risen_same}
use Rattle.uc_disc.specs.Retrieving.{IsFirstFrom}
use Rattle.uc_disc.proofs.Rules.{length_rules}
use Rattle.uc_disc.proofs.Retrieved.{err_of}
use Rattle.uc_disc.proofs.Telling.{answer_within, gen_more, gen_all, gen_nothing}
use Rattle.uc_disc.proofs.tree.TreeIndex.generalisations.Goals as goal

pub loop-list-init : goal.loop-list-init
loop-list-init c = (omega arith, rw c.new-list.ensures.items no_rules)

pub returns-in_err-answer-clause-memory : goal.returns-in_err-answer-clause-memory
returns-in_err-answer-clause-memory c =
    let v = c.self.view_is in
    let same : risen 0 c.args.self.now ≡ lives c.as_slice.result.now = ap (risen 0) (let z : c.args.self.now ≡ c.self.inside.facts.items = cc in z) ∙ risen_same 0 c.self.inside.facts.items c.self.invariant.0 ∙ ap lives (sym c.as_slice.ensures.value) in
    err_of c.from_residual.result (FindsNothing (tree_of c.args.term.now) (rules_of (risen 0 c.args.self.now)) → ⊥) (λ n. c.in_err-answer.ensures.memory (subst (λ (z : List Live). FindsNothing (tree_of c.args.term.now) (rules_of z)) same n))

pub overflow_add-from : goal.overflow_add-from
overflow_add-from c = omega (arith, answer_within (tree_of c.args.term.now) (rules_of (lives c.as_slice.result.now)) c.loop-list.from c.in_ok-answer.field-0 c.in-Some.answer c.in-Some.is c.in_ok-answer.ensures.value, length_rules c.as_slice.result.now, c.self.invariant.1, ap length c.as_slice.ensures.value)

pub loop-list-smaller : goal.loop-list-smaller
loop-list-smaller c =
    let v = c.self.view_is in
    let same : risen 0 c.args.self.now ≡ lives c.as_slice.result.now = ap (risen 0) (let z : c.args.self.now ≡ c.self.inside.facts.items = cc in z) ∙ risen_same 0 c.self.inside.facts.items c.self.invariant.0 ∙ ap lives (sym c.as_slice.ensures.value) in
    let f : IsFirstFrom (λ (z : Found). Unit {0}) (tree_of c.args.term.now) (rules_of (risen 0 c.args.self.now)) c.loop-list.from c.in_ok-answer.field-0 = subst (λ (z : List Live). IsFirstFrom (λ (z : Found). Unit {0}) (tree_of c.args.term.now) (rules_of z) c.loop-list.from c.in_ok-answer.field-0) (sym same) c.in_ok-answer.ensures.value in
    omega (arith, answer_within (tree_of c.args.term.now) (rules_of (risen 0 c.args.self.now)) c.loop-list.from c.in_ok-answer.field-0 c.in-Some.answer c.in-Some.is f)

pub loop-list-preserved : goal.loop-list-preserved
loop-list-preserved c =
    let v = c.self.view_is in
    let same : risen 0 c.args.self.now ≡ lives c.as_slice.result.now = ap (risen 0) (let z : c.args.self.now ≡ c.self.inside.facts.items = cc in z) ∙ risen_same 0 c.self.inside.facts.items c.self.invariant.0 ∙ ap lives (sym c.as_slice.ensures.value) in
    let f : IsFirstFrom (λ (z : Found). Unit {0}) (tree_of c.args.term.now) (rules_of (risen 0 c.args.self.now)) c.loop-list.from c.in_ok-answer.field-0 = subst (λ (z : List Live). IsFirstFrom (λ (z : Found). Unit {0}) (tree_of c.args.term.now) (rules_of z) c.loop-list.from c.in_ok-answer.field-0) (sym same) c.in_ok-answer.ensures.value in
    (omega (arith, answer_within (tree_of c.args.term.now) (rules_of (risen 0 c.args.self.now)) c.loop-list.from c.in_ok-answer.field-0 c.in-Some.answer c.in-Some.is f), gen_more (tree_of c.args.term.now) (rules_of (risen 0 c.args.self.now)) c.loop-list.from c.in_ok-answer.field-0 c.in-Some.answer c.loop-list.list.items c.push.new.self.items c.in-Some.is f c.loop-list.invariant.1 c.in_ok-push.ensures.items)

pub returns-in_err-push-clause-memory : goal.returns-in_err-push-clause-memory
returns-in_err-push-clause-memory c =
    let v = c.self.view_is in
    let same : risen 0 c.args.self.now ≡ lives c.as_slice.result.now = ap (risen 0) (let z : c.args.self.now ≡ c.self.inside.facts.items = cc in z) ∙ risen_same 0 c.self.inside.facts.items c.self.invariant.0 ∙ ap lives (sym c.as_slice.ensures.value) in
    let f : IsFirstFrom (λ (z : Found). Unit {0}) (tree_of c.args.term.now) (rules_of (risen 0 c.args.self.now)) c.loop-list.from c.in_ok-answer.field-0 = subst (λ (z : List Live). IsFirstFrom (λ (z : Found). Unit {0}) (tree_of c.args.term.now) (rules_of z) c.loop-list.from c.in_ok-answer.field-0) (sym same) c.in_ok-answer.ensures.value in
    err_of c.from_residual-in_err-push.result (FindsNothing (tree_of c.args.term.now) (rules_of (risen 0 c.args.self.now)) → ⊥) (gen_nothing (tree_of c.args.term.now) (rules_of (risen 0 c.args.self.now)) c.loop-list.from c.in_ok-answer.field-0 c.in-Some.answer c.in-Some.is f)

pub returns-clause-value : goal.returns-clause-value
returns-clause-value c =
    let v = c.self.view_is in
    let same : risen 0 c.args.self.now ≡ lives c.as_slice.result.now = ap (risen 0) (let z : c.args.self.now ≡ c.self.inside.facts.items = cc in z) ∙ risen_same 0 c.self.inside.facts.items c.self.invariant.0 ∙ ap lives (sym c.as_slice.ensures.value) in
    let f : IsFirstFrom (λ (z : Found). Unit {0}) (tree_of c.args.term.now) (rules_of (risen 0 c.args.self.now)) c.loop-list.from c.in_ok-answer.field-0 = subst (λ (z : List Live). IsFirstFrom (λ (z : Found). Unit {0}) (tree_of c.args.term.now) (rules_of z) c.loop-list.from c.in_ok-answer.field-0) (sym same) c.in_ok-answer.ensures.value in
    subst (Generalises (tree_of c.args.term.now) (rules_of (risen 0 c.args.self.now))) (sym c.from_vec.ensures) (gen_all (tree_of c.args.term.now) (rules_of (risen 0 c.args.self.now)) c.loop-list.from c.in_ok-answer.field-0 c.loop-list.list.items c.loop-list.invariant.0 c.in_default.not-Some f c.loop-list.invariant.1)
