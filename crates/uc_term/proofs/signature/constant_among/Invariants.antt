use Rattle.std.proofs.Common.{◌≡◌, drop}
use Rattle.uc_term.specs.Signatures.{first_constant}
use Rattle.uc_term.proofs.signature.constant_among.Given as goal

abbrev pub invariant-loop-f : goal.invariant-loop-f
invariant-loop-f l = first_constant l.symbols l.among ≡ first_constant l.symbols (drop l.f-index l.among)
