use Rattle.std.proofs.Common.{◌≡◌, length, take}
use Rattle.uc_kbo.specs.Valid.{IsTied}
use Rattle.uc_kbo.proofs.table.slots_of.Given as goal

abbrev pub invariant-loop-i : goal.invariant-loop-i
invariant-loop-i l = (length l.table.items ≡ length l.initial.table.items) × IsTied l.w0 (take l.i l.entries) l.table.items
