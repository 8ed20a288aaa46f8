use Rattle.std.proofs.Common.{◌≡◌, List, Option, Some, None, subst}
use Rattle.std.proofs.lemmas.Result.{IfOk-weaker}
use Rattle.uc_term.specs.Tree.{Tree}
use Rattle.uc_fact.specs.Live.{Live}
use Rattle.uc_fact.specs.declared.ac_facts.AcFacts.{AcFacts}
use Rattle.uc_ground.specs.Joining.{IsAnswer}
use Rattle.uc_ac.specs.Joining.{IsAcAnswer}
use Rattle.uc_ac.specs.Ends.{IsEndsAnswer, equal_by_facts, not_equal_so}
use Rattle.uc_ac.proofs.Ends.{facts_join}
use Rattle.uc_ac.proofs.testing.join_ends.Goals as goal

answer_is : (live : List Live) (s t : Tree) (told known : Option (List AcFacts)) → told ≡ known → IsAcAnswer live s t told → IsAcAnswer live s t known
answer_is live s t told known e a = subst (IsAcAnswer live s t) e a

pub returns-in-Some-clause-answer : goal.returns-in-Some-clause-answer
returns-in-Some-clause-answer g c = equal_by_facts (answer_is (g.I.Index.live c.args.index.now) c.args.s.now c.args.t.now c.in_ok-facts.field-0 (Some c.in-Some.facts) c.in-Some.is c.in_ok-facts.ensures.answer)

pub returns-in-Some-clause-joined : goal.returns-in-Some-clause-joined
returns-in-Some-clause-joined g c j over =
    let live = g.I.Index.live c.args.index.now in
    facts_join live (g.O.Order.meaning c.args.order.now) (g.met.O.Order.laws c.args.order.now) c.args.s.now c.args.t.now c.in-Some.facts (answer_is live c.args.s.now c.args.t.now c.in_ok-facts.field-0 (Some c.in-Some.facts) c.in-Some.is c.in_ok-facts.ensures.answer)

pub returns-in-None-clause-answer : goal.returns-in-None-clause-answer
returns-in-None-clause-answer g c =
    let m = g.O.Order.meaning c.args.order.now in
    let live = g.I.Index.live c.args.index.now in
    let none = answer_is live c.args.s.now c.args.t.now c.in_ok-facts.field-0 None c.in-None.is c.in_ok-facts.ensures.answer in
    IfOk-weaker c.ground_join.result (IsAnswer m live c.args.s.now c.args.t.now) (IsEndsAnswer m live c.args.s.now c.args.t.now) (λ answer a. not_equal_so none a) c.ground_join.ensures.answer
