use Rattle.std.proofs.Common.{◌≡◌, ◌/◌, ◌∙◌, sym, ap, subst, arith, refl, length, Some, ℕ}
use Rattle.std.proofs.lemmas.Option.{slice_get-get_or}
use Rattle.uc_term.specs.declared.equation.Equation.{Equation}
use Rattle.uc_term.specs.Equations.{side_of}
use Rattle.uc_fact.specs.Live.{rules_of}
use Rattle.uc_disc.specs.Numbered.{lives}
use Rattle.uc_disc.specs.Building.{AreInOrder}
use Rattle.uc_disc.proofs.Listed.{in_order_more}
use Rattle.uc_disc.proofs.Rules.{length_rules, rule_spelled}
use Rattle.uc_disc.proofs.build.spell_all.Goals as goal

pub loop-rule-preserved : goal.loop-rule-preserved
loop-rule-preserved c = in_order_more (rules_of (lives c.args.facts.now)) c.loop-rule.rule c.loop-rule.list.items c.push.new.self.items (record { labels = c.in_ok-labels.labels; rule = c.loop-rule.rule }) c.loop-rule.invariant refl (rule_spelled c.args.facts.now c.loop-rule.rule (c.loop-rule.rule / 2) c.index-facts-rule.result c.side_of_rule-side.result c.as_nodes.result.now c.side_term-term.result.now (record { labels = c.in_ok-labels.labels; rule = c.loop-rule.rule }) (c.side_of_rule-side.ensures c.index-facts-rule.result (slice_get-get_or c.args.facts.now (c.loop-rule.rule / 2) c.index-facts-rule.result (omega (arith, c.loop-rule-test.true)) ∙ ap Some (sym c.index-facts-rule.is))) (c.side_term-term.ensures ∙ ap (λ (z : ℕ × Equation). side_of c.side_of_rule-side.result z.1) (sym c.index-facts-rule.is)) c.as_nodes.ensures.value c.as_nodes.ensures.short refl c.in_ok-labels.ensures) c.in_ok-push.ensures.items

pub returns : goal.returns
returns c = subst (λ z. AreInOrder (rules_of (lives c.args.facts.now)) z c.loop-rule.list.items) (let z : c.loop-rule.rule ≡ length (rules_of (lives c.args.facts.now)) = omega (arith, length_rules c.args.facts.now, c.loop-rule-test.false, c.loop-rule.auto.rule-end) in z) c.loop-rule.invariant
