use Rattle.std.proofs.Common.{take}
use Rattle.uc_term.specs.Signatures.{occurrences_in}
use Rattle.uc_term.specs.Gathering.{GoesOn, IsNamed}
use Rattle.uc_term.proofs.gather.gather_term.Given as goal

abbrev pub invariant-loop-place : goal.invariant-loop-place
invariant-loop-place l = record {
  goes_on : GoesOn l.symbols l.initial.seen.items l.seen.items (occurrences_in l.term 0 (take l.place l.nodes));
  named : IsNamed l.symbols l.names l.seen.items;
}
