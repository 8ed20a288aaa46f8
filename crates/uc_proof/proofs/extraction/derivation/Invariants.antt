use Rattle.std.proofs.Common.{take, map}
use Rattle.uc_proof.specs.Written.{AreWritten}
use Rattle.uc_proof.proofs.extraction.derivation.Given as goal

abbrev pub invariant-loop-number : goal.invariant-loop-number
invariant-loop-number l = AreWritten l.fn.problem l.fn.encoded (map (λ f. f.now) l.fn.facts) l.fn.aim l.parts 0 (take l.number l.parts) l.lines.items
