use Rattle.std.proofs.Common.{◌≡◌, ◌∷◌, [], Bool, true, false, IsTrue, ◌∙◌, refl, sym, subst}
use Rattle.uc_term.specs.Equations.{side_of, other_side_of}
use Rattle.uc_term.specs.Flat.{tree_of}
use Rattle.uc_term.specs.Tree.{apply}
use Rattle.uc_term.specs.Subst.{image}
use Rattle.uc_fact.specs.Live.{rule_of}
use Rattle.uc_fact.specs.Retrieval.{FindsNothing, by_first, no_rule_left, accepted, not_accepted}
use Rattle.uc_fact.proofs.Lists.{of_equal}
use Rattle.uc_fact.proofs.Matched.{one_match}
use Rattle.uc_fact.specs.Against.{HasMatch}
use Rattle.uc_rewrite.specs.Scanning.{live_fact}
use Rattle.uc_rewrite.proofs.Scanned.{match_some, match_none, err_of, something, something_by}
use Rattle.uc_rewrite.proofs.scan.first_of_side.Goals as goal

refused : (b : Bool) → b ≡ false → IsTrue b → ⊥
refused true e h = cc
refused false e h = cc

pub returns-then-not-is_instance-clause-value : goal.returns-then-not-is_instance-clause-value
returns-then-not-is_instance-clause-value g c = not_accepted (λ pairs m a. c.is_instance.ensures.no c.if-not-is_instance.true (image pairs) (subst (λ z. apply (image pairs) z ≡ tree_of c.args.term.now) (sym (c.as_nodes-pattern.ensures.tree ∙ c.side_term-from.ensures)) m.gives)) no_rule_left

pub returns-in-Fails-clause-value : goal.returns-in-Fails-clause-value
returns-in-Fails-clause-value g c = not_accepted (λ pairs m a. c.outlook-outlook.ensures.fails c.in-Fails.is (record { fact = c.args.number; side = c.args.side; subst = pairs }) (of_equal (g.T.Test.can_test c.args.test.now (record { fact = c.args.number; side = c.args.side; subst = pairs })) (side_of c.args.side c.args.fact.now) (other_side_of c.args.side c.args.fact.now) c.side_term-from.result.now c.other_side_term-to.result.now c.side_term-from.ensures c.other_side_term-to.ensures (c.requires.can (record { fact = c.args.number; side = c.args.side; subst = pairs }) _ _ (by_first {rule = rule_of c.args.side (live_fact c.args.number c.args.fact.now)} m))) refl refl a) no_rule_left

pub passes_by-requires-clause-can : goal.passes_by-requires-clause-can
passes_by-requires-clause-can g c = of_equal (g.T.Test.can_test c.args.test.now (record { fact = c.args.number; side = c.args.side; subst = c.in-Some.subst })) (side_of c.args.side c.args.fact.now) (other_side_of c.args.side c.args.fact.now) c.side_term-from.result.now c.other_side_term-to.result.now c.side_term-from.ensures c.other_side_term-to.ensures (c.requires.can (record { fact = c.args.number; side = c.args.side; subst = c.in-Some.subst }) _ _ (by_first {rule = rule_of c.args.side (live_fact c.args.number c.args.fact.now)} (match_some (tree_of c.as_nodes-pattern.result.now) (side_of c.args.side c.args.fact.now) (tree_of c.args.term.now) c.in_ok-subst.field-0 c.in-Some.subst c.in_ok-subst.ensures c.in-Some.is (c.as_nodes-pattern.ensures.tree ∙ c.side_term-from.ensures))))

pub passes_by-requires-clause-passes : goal.passes_by-requires-clause-passes
passes_by-requires-clause-passes g c e = c.outlook-outlook.ensures.passes e (record { fact = c.args.number; side = c.args.side; subst = c.in-Some.subst }) (of_equal (g.T.Test.can_test c.args.test.now (record { fact = c.args.number; side = c.args.side; subst = c.in-Some.subst })) (side_of c.args.side c.args.fact.now) (other_side_of c.args.side c.args.fact.now) c.side_term-from.result.now c.other_side_term-to.result.now c.side_term-from.ensures c.other_side_term-to.ensures (c.requires.can (record { fact = c.args.number; side = c.args.side; subst = c.in-Some.subst }) _ _ (by_first {rule = rule_of c.args.side (live_fact c.args.number c.args.fact.now)} (match_some (tree_of c.as_nodes-pattern.result.now) (side_of c.args.side c.args.fact.now) (tree_of c.args.term.now) c.in_ok-subst.field-0 c.in-Some.subst c.in_ok-subst.ensures c.in-Some.is (c.as_nodes-pattern.ensures.tree ∙ c.side_term-from.ensures))))) refl refl

pub passes_by-requires-clause-fails : goal.passes_by-requires-clause-fails
passes_by-requires-clause-fails g c e a = c.outlook-outlook.ensures.fails e (record { fact = c.args.number; side = c.args.side; subst = c.in-Some.subst }) (of_equal (g.T.Test.can_test c.args.test.now (record { fact = c.args.number; side = c.args.side; subst = c.in-Some.subst })) (side_of c.args.side c.args.fact.now) (other_side_of c.args.side c.args.fact.now) c.side_term-from.result.now c.other_side_term-to.result.now c.side_term-from.ensures c.other_side_term-to.ensures (c.requires.can (record { fact = c.args.number; side = c.args.side; subst = c.in-Some.subst }) _ _ (by_first {rule = rule_of c.args.side (live_fact c.args.number c.args.fact.now)} (match_some (tree_of c.as_nodes-pattern.result.now) (side_of c.args.side c.args.fact.now) (tree_of c.args.term.now) c.in_ok-subst.field-0 c.in-Some.subst c.in_ok-subst.ensures c.in-Some.is (c.as_nodes-pattern.ensures.tree ∙ c.side_term-from.ensures))))) refl refl a

pub returns-then-branch-clause-value : goal.returns-then-branch-clause-value
returns-then-branch-clause-value g c = accepted (match_some (tree_of c.as_nodes-pattern.result.now) (side_of c.args.side c.args.fact.now) (tree_of c.args.term.now) c.in_ok-subst.field-0 c.in-Some.subst c.in_ok-subst.ensures c.in-Some.is (c.as_nodes-pattern.ensures.tree ∙ c.side_term-from.ensures)) (c.in_ok-passes_by-in-Some.ensures.0 c.if-branch.true)

pub returns-else-branch-clause-value : goal.returns-else-branch-clause-value
returns-else-branch-clause-value g c = not_accepted (λ pairs m a. refused c.in_ok-passes_by-in-Some.field-0 c.if-branch.false (c.in_ok-passes_by-in-Some.ensures.1 (subst (λ q. g.T.Test.accepts c.args.test.now (record { fact = c.args.number; side = c.args.side; subst = q })) (one_match (side_of c.args.side c.args.fact.now) (tree_of c.args.term.now) pairs c.in-Some.subst m (match_some (tree_of c.as_nodes-pattern.result.now) (side_of c.args.side c.args.fact.now) (tree_of c.args.term.now) c.in_ok-subst.field-0 c.in-Some.subst c.in_ok-subst.ensures c.in-Some.is (c.as_nodes-pattern.ensures.tree ∙ c.side_term-from.ensures))) a))) no_rule_left

pub returns-in-None-clause-value : goal.returns-in-None-clause-value
returns-in-None-clause-value g c = not_accepted (λ pairs m a. match_none (tree_of c.as_nodes-pattern.result.now) (side_of c.args.side c.args.fact.now) (tree_of c.args.term.now) c.in_ok-subst.field-0 c.in_ok-subst.ensures c.in-None.is (c.as_nodes-pattern.ensures.tree ∙ c.side_term-from.ensures) (image pairs) m.gives) no_rule_left

pub returns-in_err-subst-clause-memory : goal.returns-in_err-subst-clause-memory
returns-in_err-subst-clause-memory g c = err_of c.from_residual.result (FindsNothing (tree_of c.args.term.now) (rule_of c.args.side (live_fact c.args.number c.args.fact.now) ∷ []) → ⊥) (something (tree_of c.args.term.now) (rule_of c.args.side (live_fact c.args.number c.args.fact.now)) (subst (λ z. HasMatch z (tree_of c.args.term.now)) (c.as_nodes-pattern.ensures.tree ∙ c.side_term-from.ensures) (c.is_instance.ensures.yes c.if-not-is_instance.false)))

pub returns-in_err-passes_by-in-Some-clause-memory : goal.returns-in_err-passes_by-in-Some-clause-memory
returns-in_err-passes_by-in-Some-clause-memory g c = err_of c.from_residual-in_err-passes_by-in-Some.result (FindsNothing (tree_of c.args.term.now) (rule_of c.args.side (live_fact c.args.number c.args.fact.now) ∷ []) → ⊥) (something_by (tree_of c.args.term.now) (rule_of c.args.side (live_fact c.args.number c.args.fact.now)) c.in-Some.subst (match_some (tree_of c.as_nodes-pattern.result.now) (side_of c.args.side c.args.fact.now) (tree_of c.args.term.now) c.in_ok-subst.field-0 c.in-Some.subst c.in_ok-subst.ensures c.in-Some.is (c.as_nodes-pattern.ensures.tree ∙ c.side_term-from.ensures)))
