use Rattle.uc_problem.proofs.ClosedTerms.{sound_at}
use Rattle.uc_problem.proofs.closing.taken_names.Goals as goal

pub take_names-requires : goal.take_names-requires
take_names-requires c = (sound_at c.args.symbols.now c.args.flats.now c.loop-flat.flat-index c.flat-item.result c.flat-item.result c.requires c.loop-flat-test.true c.flat-item.is).left

pub take_names-requires-in-loop-flat : goal.take_names-requires-in-loop-flat
take_names-requires-in-loop-flat c = (sound_at c.args.symbols.now c.args.flats.now c.loop-flat.flat-index c.flat-item.result c.flat-item.result c.requires c.loop-flat-test.true c.flat-item.is).right
