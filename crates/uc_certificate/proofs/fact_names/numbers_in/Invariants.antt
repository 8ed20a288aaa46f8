use Rattle.std.proofs.Common.{◌≡◌, ◌≤◌, ◌+◌, ℕ, List, length}
use Rattle.uc_certificate.specs.Headings.{facts_line, AreNames}
use Rattle.uc_certificate.specs.FactNames.{names_of}
use Rattle.uc_certificate.proofs.FactsRead.{Taken}
use Rattle.uc_certificate.proofs.fact_names.numbers_in.Given as goal

abbrev pub invariant-names : goal.invariant-names
invariant-names l = record {
  taken : (words : List (List ℕ)) → AreNames words → l.line ≡ facts_line words → Taken (names_of l.names.keys) words l.rest l.numbers;
  many : length l.numbers + length l.rest ≤ length l.line;
}

abbrev pub decreases-names : goal.decreases-names
decreases-names l = length l.rest
