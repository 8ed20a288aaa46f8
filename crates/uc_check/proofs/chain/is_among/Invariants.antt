use Rattle.std.proofs.Common.{◌≡◌, drop}
use Rattle.uc_term.specs.Variables.{is_among}
use Rattle.uc_check.proofs.chain.is_among.Given as goal

abbrev pub invariant-loop-other : goal.invariant-loop-other
invariant-loop-other l = is_among l.number l.numbers ≡ is_among l.number (drop l.other-index l.numbers)
