use Rattle.std.proofs.Common.{◌≤◌, drop, []}
use Rattle.uc_term.specs.Flat.{tree_of}
use Rattle.uc_fact.specs.Live.{rules_of}
use Rattle.uc_shelf.specs.Entries.{live, living}
use Rattle.uc_shelf.proofs.Viewed.{Ahead}
use Rattle.uc_shelf.proofs.view.View.has_match.Given as goal

abbrev pub invariant-loop-k : goal.invariant-loop-k
invariant-loop-k l = record {
  few : l.number ≤ l.k;
  ahead : Ahead (tree_of l.term) (rules_of (live l.self-inside.front.now.entries)) (rules_of (living l.self-inside.front.now.entries l.number (drop l.k l.self-inside.front.now.entries))) [];
}
