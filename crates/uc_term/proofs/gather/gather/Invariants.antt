use Rattle.std.proofs.Common.{take, []}
use Rattle.uc_term.specs.Signatures.{occurrences_of}
use Rattle.uc_term.specs.Gathering.{GoesOn, IsNamed}
use Rattle.uc_term.proofs.gather.gather.Given as goal

abbrev pub invariant-loop-number : goal.invariant-loop-number
invariant-loop-number l = record {
  goes_on : GoesOn l.symbols [] l.seen.items (occurrences_of (take l.number l.terms));
  named : IsNamed l.symbols l.names l.seen.items;
}
