use Rattle.std.proofs.Common.{◌≡◌, length}
use Rattle.uc_fact.specs.Live.{rules_of}
use Rattle.uc_disc.specs.Numbered.{lives}
use Rattle.uc_disc.specs.Idle.{AreIdleRules}
use Rattle.uc_disc.proofs.idle.idle_rules.Given as goal

abbrev pub invariant-loop-rule : goal.invariant-loop-rule
invariant-loop-rule l = (length l.marks.items ≡ l.rule) × AreIdleRules (rules_of (lives l.facts)) l.marks.items
