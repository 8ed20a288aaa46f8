use Rattle.std.proofs.Common.{◌≡◌, map, take}
use Rattle.uc_proof.specs.Files.{part_file}
use Rattle.uc_proof.proofs.files.files.Given as goal

abbrev pub invariant-loop-part : goal.invariant-loop-part
invariant-loop-part l = l.files ≡ map (part_file l.fn.problem l.fn.encoded) (take l.part-index l.parts)
