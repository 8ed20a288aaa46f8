-- The library and the sink in memory: what each call answers and leaves.
use Rattle.std.specs.Prelude.{ℕ, ◌+◌, ◌==◌, ◌||◌, Bool, nat_lt, List, [], ◌∷◌, ◌++◌, length, take, Option, Some, None, if◌then◌else◌}
use Rattle.std.specs.List.{list_any}
use Rattle.uc_edge.specs.Faults.{next}
use Rattle.uc_edge.specs.Files.{content}
use Rattle.uc_edge.specs.Holding.{Plan, Holding, Given}
use Rattle.uc_edge.specs.declared.library.Fetched.{Fetched}
use Rattle.uc_edge.specs.declared.library.Fetched.TheVariants as fetched
use Rattle.uc_edge.specs.declared.sink.Written.{Written}
use Rattle.uc_edge.specs.declared.sink.Written.TheVariants as written

abbrev pub fresh : List ℕ → Plan
fresh failing = record { failing = failing; calls = 0; faults = 0 }

-- whether the next call is one that is to fail
abbrev pub fails_next : Plan → Bool
fails_next plan = list_any (λ n. n == next plan.calls) plan.failing

-- one more call, and one more failure
abbrev pub called : Plan → Plan
called plan = record { failing = plan.failing; calls = next plan.calls; faults = plan.faults }

abbrev pub raised : Plan → Plan
raised plan = record { failing = plan.failing; calls = plan.calls; faults = next plan.faults }

-- one more call, which fails or doesn't
abbrev pub after_call : Bool → Plan → Plan
after_call fails plan = if fails then raised (called plan) else called plan

-- the answer for a content or none
abbrev pub told : ℕ → Option (List ℕ) → Fetched
told most (Some bytes) = fetched.Found (take most bytes)
told most None = fetched.Absent

-- what the next fetch answers
abbrev pub answer_of : Holding → List ℕ → ℕ → Fetched
answer_of m name most = if fails_next m.plan then fetched.Failed else told most (content m.files name)

abbrev pub after_fetch : Holding → List ℕ → Holding
after_fetch m name = record {
  files = m.files;
  plan = after_call (fails_next m.plan) m.plan;
  failed_at = if fails_next m.plan then m.failed_at ++ name ∷ [] else m.failed_at;
}

-- whether the next write fails: it is to fail, or the piece doesn't fit
abbrev pub refuses : Given → List ℕ → Bool
refuses s piece = fails_next s.plan || nat_lt s.room (length s.bytes + length piece)

-- what the next write answers
abbrev pub taken : Given → List ℕ → Written
taken s piece = if refuses s piece then written.Failed else written.Taken (length piece)

abbrev pub after_write : Given → List ℕ → Given
after_write s piece = record {
  bytes = if refuses s piece then s.bytes else s.bytes ++ piece;
  room = s.room;
  plan = after_call (refuses s piece) s.plan;
  pieces = s.pieces ++ piece ∷ [];
}
