use Rattle.std.proofs.Common.{◌≡◌, ◌/◌, arith, Bool, true, false, IsTrue, refl}
use Rattle.uc_term.specs.Equations.{side_of, other_side_of}
use Rattle.uc_term.specs.Flat.{tree_of}
use Rattle.uc_fact.proofs.Lists.{of_equal}
use Rattle.uc_fact.specs.Live.{rules_of}
use Rattle.uc_disc.specs.Numbered.{lives}
use Rattle.uc_disc.proofs.Retrieved.{found_at, tried_none, tried_found, tried_some, matched_some, matched_none, refused_none}
use Rattle.uc_disc.proofs.search.try_rule.Goals as goal

refused : (b : Bool) → b ≡ false → IsTrue b → ⊥
refused true e h = cc
refused false e h = cc

pub returns-then-is_refused : goal.returns-then-is_refused
returns-then-is_refused g c = λ rule pairs e m a. c.is_refused.ensures.refuses c.if-is_refused.true _ rule.from rule.to (c.requires.can _ rule.from rule.to (found_at (tree_of c.args.term.now) (rules_of (lives c.args.facts.now)) c.args.rule rule pairs e m)) (c.requires.idle c.args.rule (c.is_refused.ensures.marked c.if-is_refused.true) rule e) a

pub returns-in-Fails : goal.returns-in-Fails
returns-in-Fails g c = tried_none (g.T.Test.accepts c.args.test.now) (tree_of c.args.term.now) c.args.facts.now c.args.rule (c.args.rule / 2) c.index-facts-rule.result c.index-facts-rule.result c.side_of_rule-side.result (omega (arith, c.requires.within)) c.index-facts-rule.is c.side_of_rule-side.ensures (λ pairs m a. c.outlook-outlook.ensures.fails c.in-Fails.is _ (of_equal (g.T.Test.can_test c.args.test.now (record { fact = c.index-facts-rule.result.0; side = c.side_of_rule-side.result; subst = pairs })) (side_of c.side_of_rule-side.result c.index-facts-rule.result.1) (other_side_of c.side_of_rule-side.result c.index-facts-rule.result.1) c.side_term-from.result.now c.other_side_term-to.result.now c.side_term-from.ensures c.other_side_term-to.ensures (c.requires.can _ _ _ (tried_found (g.T.Test.accepts c.args.test.now) (tree_of c.args.term.now) c.args.facts.now c.args.rule (c.args.rule / 2) c.index-facts-rule.result c.index-facts-rule.result c.side_of_rule-side.result (omega (arith, c.requires.within)) c.index-facts-rule.is c.side_of_rule-side.ensures pairs m))) refl refl a)

pub passes_by-requires-clause-can : goal.passes_by-requires-clause-can
passes_by-requires-clause-can g c =
    let m = matched_some (g.T.Test.accepts c.args.test.now) (tree_of c.args.term.now) c.args.facts.now c.args.rule (c.args.rule / 2) c.index-facts-rule.result c.index-facts-rule.result c.side_of_rule-side.result (omega (arith, c.requires.within)) c.index-facts-rule.is c.side_of_rule-side.ensures (tree_of c.as_nodes.result.now) c.side_term-from.result.now c.matches_in.new.subst (rw c.if-not-branch.false at c.in_ok-matches_in.ensures) c.as_nodes.ensures.tree c.side_term-from.ensures in
    of_equal (g.T.Test.can_test c.args.test.now (record { fact = c.index-facts-rule.result.0; side = c.side_of_rule-side.result; subst = c.matches_in.new.subst })) (side_of c.side_of_rule-side.result c.index-facts-rule.result.1) (other_side_of c.side_of_rule-side.result c.index-facts-rule.result.1) c.side_term-from.result.now c.other_side_term-to.result.now c.side_term-from.ensures c.other_side_term-to.ensures (c.requires.can _ _ _ (tried_found (g.T.Test.accepts c.args.test.now) (tree_of c.args.term.now) c.args.facts.now c.args.rule (c.args.rule / 2) c.index-facts-rule.result c.index-facts-rule.result c.side_of_rule-side.result (omega (arith, c.requires.within)) c.index-facts-rule.is c.side_of_rule-side.ensures c.matches_in.new.subst m))

pub passes_by-requires-clause-passes : goal.passes_by-requires-clause-passes
passes_by-requires-clause-passes g c e =
    let m = matched_some (g.T.Test.accepts c.args.test.now) (tree_of c.args.term.now) c.args.facts.now c.args.rule (c.args.rule / 2) c.index-facts-rule.result c.index-facts-rule.result c.side_of_rule-side.result (omega (arith, c.requires.within)) c.index-facts-rule.is c.side_of_rule-side.ensures (tree_of c.as_nodes.result.now) c.side_term-from.result.now c.matches_in.new.subst (rw c.if-not-branch.false at c.in_ok-matches_in.ensures) c.as_nodes.ensures.tree c.side_term-from.ensures in
    c.outlook-outlook.ensures.passes e _ (of_equal (g.T.Test.can_test c.args.test.now (record { fact = c.index-facts-rule.result.0; side = c.side_of_rule-side.result; subst = c.matches_in.new.subst })) (side_of c.side_of_rule-side.result c.index-facts-rule.result.1) (other_side_of c.side_of_rule-side.result c.index-facts-rule.result.1) c.side_term-from.result.now c.other_side_term-to.result.now c.side_term-from.ensures c.other_side_term-to.ensures (c.requires.can _ _ _ (tried_found (g.T.Test.accepts c.args.test.now) (tree_of c.args.term.now) c.args.facts.now c.args.rule (c.args.rule / 2) c.index-facts-rule.result c.index-facts-rule.result c.side_of_rule-side.result (omega (arith, c.requires.within)) c.index-facts-rule.is c.side_of_rule-side.ensures c.matches_in.new.subst m))) refl refl

pub passes_by-requires-clause-fails : goal.passes_by-requires-clause-fails
passes_by-requires-clause-fails g c e a =
    let m = matched_some (g.T.Test.accepts c.args.test.now) (tree_of c.args.term.now) c.args.facts.now c.args.rule (c.args.rule / 2) c.index-facts-rule.result c.index-facts-rule.result c.side_of_rule-side.result (omega (arith, c.requires.within)) c.index-facts-rule.is c.side_of_rule-side.ensures (tree_of c.as_nodes.result.now) c.side_term-from.result.now c.matches_in.new.subst (rw c.if-not-branch.false at c.in_ok-matches_in.ensures) c.as_nodes.ensures.tree c.side_term-from.ensures in
    c.outlook-outlook.ensures.fails e _ (of_equal (g.T.Test.can_test c.args.test.now (record { fact = c.index-facts-rule.result.0; side = c.side_of_rule-side.result; subst = c.matches_in.new.subst })) (side_of c.side_of_rule-side.result c.index-facts-rule.result.1) (other_side_of c.side_of_rule-side.result c.index-facts-rule.result.1) c.side_term-from.result.now c.other_side_term-to.result.now c.side_term-from.ensures c.other_side_term-to.ensures (c.requires.can _ _ _ (tried_found (g.T.Test.accepts c.args.test.now) (tree_of c.args.term.now) c.args.facts.now c.args.rule (c.args.rule / 2) c.index-facts-rule.result c.index-facts-rule.result c.side_of_rule-side.result (omega (arith, c.requires.within)) c.index-facts-rule.is c.side_of_rule-side.ensures c.matches_in.new.subst m))) refl refl a

pub returns-then-branch : goal.returns-then-branch
returns-then-branch g c =
    let m = matched_some (g.T.Test.accepts c.args.test.now) (tree_of c.args.term.now) c.args.facts.now c.args.rule (c.args.rule / 2) c.index-facts-rule.result c.index-facts-rule.result c.side_of_rule-side.result (omega (arith, c.requires.within)) c.index-facts-rule.is c.side_of_rule-side.ensures (tree_of c.as_nodes.result.now) c.side_term-from.result.now c.matches_in.new.subst (rw c.if-not-branch.false at c.in_ok-matches_in.ensures) c.as_nodes.ensures.tree c.side_term-from.ensures in
    rw c.replace.ensures.value (tried_some (g.T.Test.accepts c.args.test.now) (tree_of c.args.term.now) c.args.facts.now c.args.rule (c.args.rule / 2) c.index-facts-rule.result c.index-facts-rule.result c.side_of_rule-side.result (omega (arith, c.requires.within)) c.index-facts-rule.is c.side_of_rule-side.ensures c.matches_in.new.subst m (c.in_ok-passes_by.ensures.0 c.if-branch.true))

pub returns-else-branch : goal.returns-else-branch
returns-else-branch g c =
    let m = matched_some (g.T.Test.accepts c.args.test.now) (tree_of c.args.term.now) c.args.facts.now c.args.rule (c.args.rule / 2) c.index-facts-rule.result c.index-facts-rule.result c.side_of_rule-side.result (omega (arith, c.requires.within)) c.index-facts-rule.is c.side_of_rule-side.ensures (tree_of c.as_nodes.result.now) c.side_term-from.result.now c.matches_in.new.subst (rw c.if-not-branch.false at c.in_ok-matches_in.ensures) c.as_nodes.ensures.tree c.side_term-from.ensures in
    refused_none (g.T.Test.accepts c.args.test.now) (tree_of c.args.term.now) c.args.facts.now c.args.rule (c.args.rule / 2) c.index-facts-rule.result c.index-facts-rule.result c.side_of_rule-side.result (omega (arith, c.requires.within)) c.index-facts-rule.is c.side_of_rule-side.ensures c.matches_in.new.subst m (λ a. refused c.in_ok-passes_by.field-0 c.if-branch.false (c.in_ok-passes_by.ensures.1 a))

pub returns-then-not-branch : goal.returns-then-not-branch
returns-then-not-branch g c = matched_none (g.T.Test.accepts c.args.test.now) (tree_of c.args.term.now) c.args.facts.now c.args.rule (c.args.rule / 2) c.index-facts-rule.result c.index-facts-rule.result c.side_of_rule-side.result (omega (arith, c.requires.within)) c.index-facts-rule.is c.side_of_rule-side.ensures (tree_of c.as_nodes.result.now) c.side_term-from.result.now (rw c.if-not-branch.true at c.in_ok-matches_in.ensures) c.as_nodes.ensures.tree c.side_term-from.ensures
