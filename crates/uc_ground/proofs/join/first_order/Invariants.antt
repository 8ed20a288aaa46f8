use Rattle.std.proofs.Common.{◌≡◌, drop}
use Rattle.uc_ground.specs.Orders.{alone_before, first_of}
use Rattle.uc_ground.proofs.join.first_order.Given as goal

abbrev pub invariant-loop-var : goal.invariant-loop-var
invariant-loop-var l = alone_before l.classes.items (drop l.var-index l.fn.vars) ≡ first_of l.fn.vars
