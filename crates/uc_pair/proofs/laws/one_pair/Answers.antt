use Rattle.uc_pair.specs.Overlapping.{read_from}
use Rattle.uc_pair.proofs.OnePair.{one_formation}
use Rattle.uc_pair.proofs.laws.one_pair.Goals as goal

pub returns : goal.returns
returns c a b overlap x y = one_formation (read_from overlap.outer overlap.outer_side a) (read_from overlap.inner overlap.inner_side b) overlap.position.0 x y
