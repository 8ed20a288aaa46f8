use Rattle.uc_pair.specs.Overlapping.{read_from}
use Rattle.uc_pair.proofs.OnePair.{large_by_size}
use Rattle.uc_pair.proofs.laws.too_large_by_size.Goals as goal

pub returns : goal.returns
returns c a b formed x f p = large_by_size (read_from formed.overlap.outer formed.overlap.outer_side a) (read_from formed.overlap.inner formed.overlap.inner_side b) formed.overlap.position.0 f.overlaps formed.size x f.has_size p
