-- What the proofs of `prove` ask of a search.
use Rattle.std.proofs.Common.{ℕ, ◌≡◌}
use Rattle.uc_order.specs.Laws.{Meaning, Laws}
use Rattle.uc_machine.specs.declared.event.Verdict.{Verdict}
use Rattle.uc_machine.specs.State.{Opening, State}
use Rattle.uc_search.specs.Searching.{IsSearched}

-- one search, with one verdict and one state
abbrev pub OneSearch : Type 1
OneSearch = (m : Meaning) → Laws m → (o : Opening) (w : ℕ) (a b : Verdict) (s t : State) → IsSearched m o w a s → IsSearched m o w b t → (a ≡ b) × (s ≡ t)
