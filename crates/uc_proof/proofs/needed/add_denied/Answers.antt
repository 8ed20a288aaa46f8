use Rattle.std.proofs.lemmas.List.{drop_more}
use Rattle.uc_proof.proofs.Among.{nothing_behind}
use Rattle.uc_proof.proofs.Using.{denies_on, denies_all}
use Rattle.uc_proof.proofs.needed.add_denied.Goals as goal

pub loop-number-preserved : goal.loop-number-preserved
loop-number-preserved c =
    denies_on c.args.sources.now c.args.needed.now c.loop-number.number c.loop-number.needed c.add_source.new.needed _ c.loop-number.invariant (drop_more c.args.sources.now c.loop-number.number _ c.loop-number-test.true) c.in_ok-add_source.ensures

pub returns : goal.returns
returns c = denies_all c.args.sources.now c.args.needed.now c.loop-number.number c.loop-number.needed c.loop-number.invariant (nothing_behind c.args.sources.now c.loop-number.number c.loop-number-test.false)
