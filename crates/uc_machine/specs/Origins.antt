-- What a task can be computed for: what its job names is there.
use Rattle.std.specs.Prelude.{◌≡◌, ◌≢◌, ◌<◌, List, Some, slice_get, length}
use Rattle.uc_term.specs.declared.equation.Equation.{Equation}
use Rattle.uc_order.specs.Laws.{Meaning}
use Rattle.uc_order.specs.Members.{In}
use Rattle.uc_fact.specs.declared.fact.Fact.{Fact}
use Rattle.uc_fact.specs.declared.fact.Overlap.{Overlap}
use Rattle.uc_fact.specs.declared.fact.Origin.{Origin}
use Rattle.uc_fact.specs.declared.fact.Origin.TheVariants.{Axiom, Overlap as OfOverlap, Revived}
use Rattle.uc_fact.specs.Live.{equation_of}
use Rattle.uc_pair.specs.declared.formed.Formed.{Formed}
use Rattle.uc_pair.specs.declared.formed.Size.{Size}
use Rattle.uc_pair.specs.declared.formed.Size.TheVariants.{Large as TooLarge}
use Rattle.uc_pair.specs.Listing.{AreOverlaps}
use Rattle.uc_ledger.specs.declared.ledger.State.TheVariants.{Large}
use Rattle.uc_shelf.specs.declared.entry.Entry.{Entry}
use Rattle.uc_shelf.specs.Entries.{born}
use Rattle.uc_machine.specs.declared.task.Job.{Job}
use Rattle.uc_machine.specs.declared.task.Job.TheVariants.{Goal, More, Meet, Join}
use Rattle.uc_machine.specs.Lists.{Each}
use Rattle.uc_machine.specs.State.{Opening, State, Pair}

module _ (m : Meaning) where
  -- the overlap is in the list of the overlaps of its two facts, which are born, and isn't too large
  pub record IsListed (entries : List Entry) (o : Overlap) : Type 0 where
    pub outer : Fact
    pub inner : Fact
    pub outer_is : slice_get (born entries) o.outer ≡ Some outer
    pub inner_is : slice_get (born entries) o.inner ≡ Some inner
    pub all : List Formed
    pub all_are : AreOverlaps m.greater o.outer (equation_of outer) o.inner (equation_of inner) all
    pub size : Size
    pub listed : In all (record { overlap = o; size = size })
    pub small : size ≢ TooLarge

  -- an axiom of the problem; an overlap that is listed; a fact that is born
  abbrev pub IsKnownOrigin : List Equation → List Entry → Origin → Type 0
  IsKnownOrigin axioms entries (Axiom k) = k < length axioms
  IsKnownOrigin axioms entries (OfOverlap o) = IsListed entries o
  IsKnownOrigin axioms entries (Revived i) = i < length (born entries)

  -- each pair that isn't too large comes from what is there
  abbrev pub OriginsAreKnown : Opening → State → Type 0
  OriginsAreKnown o s = Each (λ (x : Pair). x.condition ≢ Large → IsKnownOrigin o.axioms s.entries x.origin) s.pairs

  -- the goal that the job names is one of the opening's, its fact is born, its pair comes from what is there
  abbrev pub CanCompute : Opening → List Entry → Job → Type 0
  CanCompute o entries (Goal g l r) = g < length o.goals
  CanCompute o entries (More g l r) = g < length o.goals
  CanCompute o entries (Meet i) = i < length (born entries)
  CanCompute o entries (Join p origin) = IsKnownOrigin o.axioms entries origin
