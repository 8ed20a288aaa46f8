use Rattle.std.proofs.Common.{◌≡◌, ◌++◌, ◌≤◌, drop, length}
use Rattle.uc_table.specs.SearchForms.{steps_of}
use Rattle.uc_table.proofs.search_layout.Layout.add_steps.Given as goal

abbrev pub invariant-loop-at : goal.invariant-loop-at
invariant-loop-at l = record {
  within : l.at ≤ length l.nodes;
  steps : l.steps.items ≡ l.fn.steps.items ++ steps_of l.symbols l.self.size l.signature (drop l.at l.nodes);
}

abbrev pub decreases-loop-at : goal.decreases-loop-at
decreases-loop-at l = l.at
