use Rattle.std.proofs.Common.{◌≡◌, ◌++◌, take}
use Rattle.uc_order.proofs.listing.copy_classes.Given as goal

abbrev pub invariant-loop-c : goal.invariant-loop-c
invariant-loop-c l = l.to.items ≡ l.initial.to.items ++ take l.c-index l.from
