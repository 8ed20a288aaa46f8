use Rattle.std.proofs.Common.{◌≤◌}
use Rattle.uc_gen.proofs.NormalConstants.{CountedSoFar}
use Rattle.uc_gen.proofs.forms.count_forms.Given as goal

abbrev pub invariant-loop-k : goal.invariant-loop-k
invariant-loop-k g l = record {
  counted : CountedSoFar (g.O.Order.meaning l.order) l.system.facts l.constants l.k l.count;
  few : l.count ≤ l.k;
}
