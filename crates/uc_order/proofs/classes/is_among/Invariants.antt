use Rattle.std.proofs.Common.{◌≡◌, drop}
use Rattle.uc_term.specs.Variables.{is_among}
use Rattle.uc_order.proofs.classes.is_among.Given as goal

abbrev pub invariant-loop-y : goal.invariant-loop-y
invariant-loop-y l = is_among l.x l.vars ≡ is_among l.x (drop l.y-index l.vars)
