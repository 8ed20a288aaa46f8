use Rattle.std.proofs.Common.{sym, subst}
use Rattle.std.proofs.lemmas.List.{drop_more}
use Rattle.uc_proof.specs.Extracted.{AreNumbersOf}
use Rattle.uc_proof.proofs.Among.{nothing_behind}
use Rattle.uc_proof.proofs.FactLines.{numbering_begins, numbering_part, numbering_on, numbering_ends}
use Rattle.uc_proof.proofs.plan.Plan.numbers_of.Goals as goal

pub loop-fact-init : goal.loop-fact-init
loop-fact-init c = numbering_begins c.args.self.now c.args.facts.now c.new-numbers.result.items c.new-numbers.ensures.items c.requires

pub number-requires : goal.number-requires
number-requires c = numbering_part c.args.self.now c.args.facts.now c.loop-fact.fact-index _ c.loop-fact.numbers.items c.loop-fact.invariant (drop_more c.args.facts.now c.loop-fact.fact-index _ c.loop-fact-test.true)

pub loop-fact-preserved : goal.loop-fact-preserved
loop-fact-preserved c =
    numbering_on c.args.self.now c.args.facts.now c.loop-fact.fact-index _ c.loop-fact.numbers.items c.loop-fact.invariant (drop_more c.args.facts.now c.loop-fact.fact-index _ c.loop-fact-test.true)
    c.number.result c.push.new.self.items c.number.ensures c.in_ok-push.ensures.items

pub returns : goal.returns
returns c =
    subst (AreNumbersOf c.args.self.now c.args.facts.now) (sym c.from_vec.ensures)
    (numbering_ends c.args.self.now c.args.facts.now c.loop-fact.fact-index c.loop-fact.numbers.items c.loop-fact.invariant (nothing_behind c.args.facts.now c.loop-fact.fact-index c.loop-fact-test.false))
