use Rattle.std.proofs.Common.{◌≡◌, drop}
use Rattle.uc_edge.specs.Files.{content}
use Rattle.uc_edge.proofs.memory.find.Given as goal

abbrev pub invariant-loop-file : goal.invariant-loop-file
invariant-loop-file l = content (drop l.file-index l.files) l.name ≡ content l.files l.name
