use Rattle.std.proofs.Common.{◌≡◌, ℕ, List, drop}
use Rattle.std.specs.Prelude.{◌||◌}
use Rattle.uc_problem.specs.NameSets.{has_text}
use Rattle.uc_problem.specs.Conjecture.{flat_terms, is_taken}
use Rattle.uc_problem.proofs.closing.taken_names.Given as goal

abbrev pub invariant-loop-flat : goal.invariant-loop-flat
invariant-loop-flat l = (name : List ℕ) → is_taken l.symbols (flat_terms l.flats) name ≡ (has_text l.names.keys name || is_taken l.symbols (flat_terms (drop l.flat-index l.flats)) name)
