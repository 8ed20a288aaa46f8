use Rattle.std.proofs.Common.{◌∙◌, map, ap}
use Rattle.uc_certify.specs.Joining.{triple_of}
use Rattle.uc_certify.proofs.AcEnds.{triples_more}
use Rattle.uc_certify.proofs.Lists.{taken_all}
use Rattle.uc_certify.proofs.ending.triples_of.Goals as goal

pub loop-three-init : goal.loop-three-init
loop-three-init c = c.new-list.ensures.items

pub loop-three-preserved : goal.loop-three-preserved
loop-three-preserved c = triples_more c.args.facts.now c.loop-three.three-index _ c.loop-three.list.items c.push.new.self.items c.loop-three-test.true c.loop-three.invariant c.in_ok-push.ensures.items

pub returns : goal.returns
returns c = c.from_vec.ensures ∙ c.loop-three.invariant ∙ ap (map triple_of) (taken_all c.args.facts.now c.loop-three.three-index c.loop-three-test.false)
