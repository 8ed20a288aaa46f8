use Rattle.std.proofs.Common.{◌≡◌, ◌+◌, ◌*◌, ◌/◌, ap, ◌∙◌, arith}
use Rattle.std.specs.Prelude.{slice_get}
use Rattle.uc_fact.specs.Live.{rules_of}
use Rattle.uc_disc.specs.Numbered.{lives}
use Rattle.uc_disc.proofs.Rules.{rule_left, rule_right}
use Rattle.uc_disc.proofs.facts.side_of_rule.Goals as goal

pub returns-then-rule-eq0 : goal.returns-then-rule-eq0
returns-then-rule-eq0 c = λ fact e. record { is = ap (slice_get (rules_of (lives c.args.facts.now))) (let z : c.args.rule ≡ 2 * (c.args.rule / 2) = omega (arith, c.if-rule-eq0.true) in z) ∙ rule_left c.args.facts.now (c.args.rule / 2) fact e }

pub returns-else-rule-eq0 : goal.returns-else-rule-eq0
returns-else-rule-eq0 c = λ fact e. record { is = ap (slice_get (rules_of (lives c.args.facts.now))) (let z : c.args.rule ≡ 2 * (c.args.rule / 2) + 1 = omega (arith, c.if-rule-eq0.false) in z) ∙ rule_right c.args.facts.now (c.args.rule / 2) fact e }
