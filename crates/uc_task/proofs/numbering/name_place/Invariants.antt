use Rattle.std.proofs.Common.{◌≡◌, false, take}
use Rattle.uc_term.specs.Variables.{is_among}
use Rattle.uc_task.proofs.numbering.name_place.Given as goal

abbrev pub invariant-loop-place : goal.invariant-loop-place
invariant-loop-place l = is_among l.x (take l.place l.names.items) ≡ false
