use Rattle.std.proofs.Common.{◌-◌}
use Rattle.uc_rewrite.specs.Comparing.{VariablesAre}
use Rattle.uc_rewrite.specs.Walking.{Walks, AreKept}
use Rattle.uc_fact.specs.Chains.{last_term}
use Rattle.uc_rewrite.proofs.Chaining.{Made}
use Rattle.uc_rewrite.proofs.normal.normalise_by.Given as goal

abbrev pub invariant-loop : goal.invariant-loop
invariant-loop g l = record {
  known : VariablesAre (g.C.Comparison.knows l.comparison) (last_term l.term l.steps.items);
  made : Made (g.C.Comparison.greater l.comparison) (g.C.Comparison.constant l.comparison) (g.I.Index.live l.index) l.limit l.term l.steps.items (l.limit - l.counter);
  walks : Walks (g.C.Comparison.greater l.comparison) (g.C.Comparison.constant l.comparison) (g.I.Index.live l.index) (last_term l.term l.steps.items) l.walk.opened.items l.walk.place;
  kept : AreKept (g.C.Comparison.greater l.comparison) (g.C.Comparison.constant l.comparison) (g.I.Index.live l.index) l.walk.kept.items;
}
