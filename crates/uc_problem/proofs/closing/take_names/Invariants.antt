use Rattle.std.proofs.Common.{◌≡◌, ℕ, List, drop}
use Rattle.std.specs.Prelude.{◌||◌}
use Rattle.std.specs.List.{list_any}
use Rattle.uc_problem.specs.NameSets.{has_text}
use Rattle.uc_problem.specs.Conjecture.{is_named, has_named}
use Rattle.uc_problem.proofs.closing.take_names.Given as goal

abbrev pub invariant-loop-node : goal.invariant-loop-node
invariant-loop-node l = (name : List ℕ) → (has_text l.fn.names.keys name || has_named l.symbols name l.term) ≡ (has_text l.names.keys name || list_any (is_named l.symbols name) (drop l.node-index l.node-items))
