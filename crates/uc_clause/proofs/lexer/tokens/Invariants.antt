use Rattle.std.proofs.Common.{◌≡◌, ◌-◌, length}
use Rattle.uc_clause.specs.Tokens.{place_of}
use Rattle.uc_clause.proofs.Cuts.{Completes}
use Rattle.uc_clause.proofs.lexer.tokens.Given as goal

abbrev pub invariant-loop-at : goal.invariant-loop-at
invariant-loop-at l = record {
  so_far : Completes l.bytes l.out.items l.at;
  place : l.place ≡ place_of l.bytes l.at;
}

abbrev pub decreases-loop-at : goal.decreases-loop-at
decreases-loop-at l = length l.bytes - l.at
