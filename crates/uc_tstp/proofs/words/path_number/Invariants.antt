use Rattle.std.proofs.Common.{◌≡◌, ◌≤◌, drop}
use Rattle.uc_tstp.specs.Lines.{path_number}
use Rattle.uc_tstp.proofs.words.path_number.Given as goal

abbrev pub invariant-loop-byte : goal.invariant-loop-byte
invariant-loop-byte l = record {
  small : l.number ≤ 255;
  rest : path_number 0 l.digits ≡ path_number l.number (drop l.byte-index l.digits);
}
