-- Overlaps whose pair is too large for terms.
use Rattle.std.specs.Prelude.{◌≡◌, List, false, Some, slice_get}
use Rattle.uc_fact.specs.declared.fact.Fact.{Fact}
use Rattle.uc_fact.specs.declared.fact.Overlap.{Overlap}
use Rattle.uc_fact.specs.Live.{equation_of}
use Rattle.uc_pair.specs.declared.formed.Size.TheVariants.{Large as TooLarge}
use Rattle.uc_pair.specs.Overlapping.{IsFormedOf}
use Rattle.uc_shelf.specs.declared.entry.Entry.{Entry}
use Rattle.uc_shelf.specs.Entries.{born, is_dead}

-- the overlap is one of two facts that live in these entries, and its pair is too large
pub record IsLargeOverlap (entries : List Entry) (o : Overlap) : Type 0 where
  pub outer : Fact
  pub inner : Fact
  pub outer_is : slice_get (born entries) o.outer ≡ Some outer
  pub inner_is : slice_get (born entries) o.inner ≡ Some inner
  pub outer_lives : is_dead entries o.outer ≡ false
  pub inner_lives : is_dead entries o.inner ≡ false
  pub formed : IsFormedOf (equation_of outer) (equation_of inner) (record { overlap = o; size = TooLarge })
