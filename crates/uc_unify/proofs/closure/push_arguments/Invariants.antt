use Rattle.std.proofs.Common.{◌≡◌, ◌+◌, ◌-◌, ◌++◌}
use Rattle.uc_unify.specs.Closure.{pairs_from}
use Rattle.uc_unify.proofs.Fitting.{Fits}
use Rattle.uc_unify.proofs.closure.push_arguments.Given as goal

abbrev pub invariant-loop : goal.invariant-loop
invariant-loop l = record {
  left : Fits l.nodes l.p (l.count - l.counter);
  right : Fits l.nodes l.q (l.count - l.counter);
  so_far : l.pairs.items ++ pairs_from l.nodes l.p l.q (l.count - l.counter) ≡ l.initial.pairs.items ++ pairs_from l.nodes (l.a + 1) (l.b + 1) l.count;
}
