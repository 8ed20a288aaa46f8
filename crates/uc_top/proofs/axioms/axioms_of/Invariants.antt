use Rattle.std.proofs.Common.{◌≡◌, ◌++◌, drop}
use Rattle.uc_check.specs.Clauses.{axioms_of}
use Rattle.uc_top.proofs.axioms.axioms_of.Given as goal

abbrev pub invariant-loop-sourced : goal.invariant-loop-sourced
invariant-loop-sourced l = l.axioms ++ axioms_of (drop l.sourced-index l.clauses) ≡ axioms_of l.clauses
