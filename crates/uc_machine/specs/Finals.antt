-- What the final pass over a drained book answers.
use Rattle.std.specs.Prelude.{◌≡◌, ◌≢◌, ℕ, ◌+◌, ◌++◌, Bool, true, false, List, [], ◌∷◌, Option, Some, None, length}
use Rattle.uc_term.specs.declared.equation.Equation.{Equation}
use Rattle.uc_order.specs.Laws.{Meaning}
use Rattle.uc_fact.specs.declared.fact.Fact.{Fact}
use Rattle.uc_fact.specs.declared.fact.Overlap.{Overlap}
use Rattle.uc_fact.specs.declared.fact.Origin.{Origin}
use Rattle.uc_fact.specs.declared.fact.Origin.TheVariants.{Axiom, Overlap as OfOverlap}
use Rattle.uc_fact.specs.Live.{Live, equations_of}
use Rattle.uc_pair.specs.declared.formed.Formed.{Formed}
use Rattle.uc_pair.specs.declared.formed.Size.{Size}
use Rattle.uc_pair.specs.declared.formed.Size.TheVariants.{Weight, Same, Large as TooLarge}
use Rattle.uc_pair.specs.Listing.{AreOverlaps}
use Rattle.uc_ground.specs.Joining.{IsJoined}
use Rattle.uc_shelf.specs.declared.entry.Entry.{Entry}
use Rattle.uc_shelf.specs.Entries.{live}
use Rattle.uc_machine.specs.declared.state.Stage.{Stage}
use Rattle.uc_machine.specs.declared.state.Stage.TheVariants.{Due, Busy, Continued, Settled, Stuck}
use Rattle.uc_machine.specs.declared.task.Missing.{Missing}
use Rattle.uc_machine.specs.declared.task.Outcome.{Outcome}
use Rattle.uc_machine.specs.declared.task.Outcome.TheVariants.{Convergent, Missing as Lacks, Large, GoalUnsettled}
use Rattle.uc_machine.specs.Lists.{At, first}
use Rattle.uc_machine.specs.State.{State, Target}
use Rattle.uc_machine.specs.Results.{Trial, IsTrial, GivesFact}

-- every axiom, in order
abbrev pub axioms_from : ℕ → List Equation → List Origin
axioms_from k [] = []
axioms_from k (e ∷ es) = Axiom k ∷ axioms_from (k + 1) es

-- the overlaps that aren't too large
abbrev pub origin_if : Size → Overlap → List Origin
origin_if (Weight n) o = OfOverlap o ∷ []
origin_if Same o = OfOverlap o ∷ []
origin_if TooLarge o = []

abbrev pub small_ones : List Formed → List Origin
small_ones [] = []
small_ones (f ∷ fs) = origin_if f.size f.overlap ++ small_ones fs

-- the first overlap that is too large
abbrev pub large_or : Size → Overlap → Option Overlap → Option Overlap
large_or (Weight n) o other = other
large_or Same o other = other
large_or TooLarge o other = Some o

abbrev pub first_large : List Formed → Option Overlap
first_large [] = None
first_large (f ∷ fs) = large_or f.size f.overlap (first_large fs)

abbrev pub is_stuck : Stage → Bool
is_stuck Due = false
is_stuck Busy = false
is_stuck Continued = false
is_stuck Settled = false
is_stuck Stuck = true

-- the first goal that stands at a Size stop
abbrev pub first_stuck : List Target → Option (At Target)
first_stuck goals = first (λ (g : Target). is_stuck g.stage) goals

module _ (m : Meaning) where
  -- the overlaps of one outer fact, by inner fact
  pub data OverlapsOf (outer : Live) : List Live → List Formed → Type 0 where
    no_inner : OverlapsOf outer [] []
    next_inner : {inner : Live} {inners : List Live} {fs others : List Formed} → AreOverlaps m.greater outer.number outer.equation inner.number inner.equation fs → OverlapsOf outer inners others → OverlapsOf outer (inner ∷ inners) (fs ++ others)

  -- every overlap of two of these facts, by outer fact and then inner fact
  pub data AllOverlaps (inners : List Live) : List Live → List Formed → Type 0 where
    no_outer : AllOverlaps inners [] []
    next_outer : {outer : Live} {outers : List Live} {fs others : List Formed} → OverlapsOf outer inners fs → AllOverlaps inners outers others → AllOverlaps inners (outer ∷ outers) (fs ++ others)

  module _ (axioms : List Equation) (entries : List Entry) where
    -- each of these is tried as a pair is; those that aren't joined are missing, in order
    pub data Tests : List Origin → List Missing → Type 0 where
      all_tested : Tests [] []
      is_joined : {o : Origin} {os : List Origin} {ms : List Missing} (t : Trial) → IsTrial m axioms entries o t → IsJoined t.answer → Tests os ms → Tests (o ∷ os) ms
      is_missing : {o : Origin} {os : List Origin} {ms : List Missing} {f : Fact} (t : Trial) → IsTrial m axioms entries o t → (IsJoined t.answer → ⊥) → GivesFact m o (length entries) t f → Tests os ms → Tests (o ∷ os) (record { origin = o; fact = f; open_case = t.answer } ∷ ms)

    -- every axiom in order, then every overlap of two live facts that isn't too large
    abbrev pub TestsAll : List Formed → List Missing → Type 0
    TestsAll fs ms = Tests (axioms_from 0 axioms ++ small_ones fs) ms

  -- The answer is Missing where some axiom, or some overlap that isn't too large, isn't joined, with all of these; otherwise
  -- Large, where some overlap is too large, with the first; otherwise GoalUnsettled, where some goal is Stuck, with the first;
  -- otherwise Convergent, with the live facts in order.
  pub data IsFinal (axioms : List Equation) (s : State) : Outcome → Type 0 where
    some_missing : {fs : List Formed} {ms : List Missing} → AllOverlaps (live s.entries) (live s.entries) fs → TestsAll axioms s.entries fs ms → ms ≢ [] → IsFinal axioms s (Lacks ms)
    some_large : {fs : List Formed} {o : Overlap} → AllOverlaps (live s.entries) (live s.entries) fs → TestsAll axioms s.entries fs [] → first_large fs ≡ Some o → IsFinal axioms s (Large o)
    some_stuck : {fs : List Formed} (g : At Target) → AllOverlaps (live s.entries) (live s.entries) fs → TestsAll axioms s.entries fs [] → first_large fs ≡ None → first_stuck s.goals ≡ Some g → IsFinal axioms s (GoalUnsettled g.number)
    all_converges : {fs : List Formed} → AllOverlaps (live s.entries) (live s.entries) fs → TestsAll axioms s.entries fs [] → first_large fs ≡ None → first_stuck s.goals ≡ None → IsFinal axioms s (Convergent (record { facts = equations_of (live s.entries) }))
