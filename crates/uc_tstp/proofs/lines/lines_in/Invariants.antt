use Rattle.std.proofs.Common.{◌<◌, ◌^◌, ◌-◌, length}
use Rattle.uc_term.specs.Table.{Grows}
use Rattle.uc_tstp.proofs.LineLoop.{Gathered}
use Rattle.uc_tstp.proofs.lines.lines_in.Given as goal

abbrev pub invariant-lines : goal.invariant-lines
invariant-lines l = record {
  gathered : Gathered l.bytes l.tokens l.which l.fn.symbols l.symbols l.read.names l.read.drafts l.at;
  small : length l.read.names < 2 ^ 31;
  grows : Grows l.fn.symbols l.symbols;
}

abbrev pub decreases-lines : goal.decreases-lines
decreases-lines l = 2 ^ 31 - length l.read.names
