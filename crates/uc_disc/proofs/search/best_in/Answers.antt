use Rattle.std.proofs.Common.{rules, arith, get_or, ◌≡◌, ◌∙◌, ℕ, List, [], ◌∷◌, refl, set}
use Rattle.std.specs.Prelude.{slice_index}
use Rattle.uc_term.specs.Flat.{tree_of}
use Rattle.uc_fact.specs.Live.{rules_of}
use Rattle.uc_fact.specs.Retrieval.{FindsNothing}
use Rattle.uc_disc.specs.declared.place.Label.TheVariants.{Variable}
use Rattle.uc_disc.specs.declared.place.Place.{Place}
use Rattle.uc_disc.specs.Numbered.{lives}
use Rattle.uc_disc.proofs.Rules.{length_rules}
use Rattle.uc_disc.proofs.Preorder.{stands_past}
use Rattle.uc_disc.proofs.Passing.{stands_root}
use Rattle.uc_disc.proofs.Retrieved.{first_found, leaf_here, reached, rule_there, next_found, search_over, not_nothing, err_of}
use Rattle.uc_disc.proofs.search.best_in.Goals as goal

abbrev d : Place
d = record { label = Variable 0; depth = 0; skip = 0; least = 0 }

set_first : (xs : List ℕ) → slice_index (set xs 0 0) 0 ≡ 0
set_first [] = refl
set_first (y ∷ ys) = refl

pub next_leaf-i-requires-clause-stands : goal.next_leaf-i-requires-clause-stands
next_leaf-i-requires-clause-stands g c = stands_root c.args.term.now c.args.places.now c.args.part.start _ (record { starts = set_first c.args.at.now; moves = λ m s e. absurd cc }) c.requires.root

pub loop-i-init : goal.loop-i-init
loop-i-init g c = (c.next_leaf-i.ensures.within.1, search rules, first_found (g.T.Test.accepts c.args.test.now) c.args.term.now c.requires.whole (rules_of (lives c.args.facts.now)) c.args.places.now c.requires.tree.spelled c.requires.tree.each c.args.from c.args.part.stop c.args.part.start c.args.best c.next_leaf-i.result c.next_leaf-i.new.at c.requires.best c.next_leaf-i.ensures.stands c.next_leaf-i.ensures.leaf c.next_leaf-i.ensures.fails)

pub better-requires-clause-within : goal.better-requires-clause-within
better-requires-clause-within g c =
    let l = leaf_here (g.T.Test.accepts c.args.test.now) c.args.term.now c.requires.whole (rules_of (lives c.args.facts.now)) c.args.places.now c.requires.tree.spelled c.requires.tree.each c.args.from c.args.part.stop c.loop-i.i c.loop-i.best c.loop-i.at c.loop-i.invariant.2 d c.requires.within.1 c.loop-i-test.true c.leaf_rule-rule.result c.leaf_rule-rule.ensures in
    omega (arith, length_rules c.args.facts.now, rule_there (g.T.Test.accepts c.args.test.now) c.args.term.now c.requires.whole (rules_of (lives c.args.facts.now)) c.args.places.now c.requires.tree.spelled c.requires.tree.each c.args.from c.args.part.stop c.loop-i.i (get_or c.args.places.now c.loop-i.i d) c.leaf_rule-rule.result l.0 l.1)

pub better-requires-clause-best : goal.better-requires-clause-best
better-requires-clause-best g c = c.loop-i.invariant.2.so_far.best_is

pub returns-in_err-best-clause-memory : goal.returns-in_err-best-clause-memory
returns-in_err-best-clause-memory g c =
    let l = leaf_here (g.T.Test.accepts c.args.test.now) c.args.term.now c.requires.whole (rules_of (lives c.args.facts.now)) c.args.places.now c.requires.tree.spelled c.requires.tree.each c.args.from c.args.part.stop c.loop-i.i c.loop-i.best c.loop-i.at c.loop-i.invariant.2 d c.requires.within.1 c.loop-i-test.true c.leaf_rule-rule.result c.leaf_rule-rule.ensures in
    let m = reached (g.T.Test.accepts c.args.test.now) c.args.term.now c.requires.whole (rules_of (lives c.args.facts.now)) c.args.places.now c.requires.tree.spelled c.requires.tree.each c.args.from c.args.part.stop c.loop-i.i c.loop-i.best c.loop-i.at c.loop-i.invariant.2 (get_or c.args.places.now c.loop-i.i d) c.leaf_rule-rule.result l.0 l.1 in
    err_of c.from_residual.result (FindsNothing (tree_of c.args.term.now) (rules_of (lives c.args.facts.now)) → ⊥) (not_nothing (tree_of c.args.term.now) (rules_of (lives c.args.facts.now)) c.leaf_rule-rule.result m.0 m.1 m.2)

pub next_leaf-i-requires-in-loop-i-clause-stands : goal.next_leaf-i-requires-in-loop-i-clause-stands
next_leaf-i-requires-in-loop-i-clause-stands g c =
    let l = leaf_here (g.T.Test.accepts c.args.test.now) c.args.term.now c.requires.whole (rules_of (lives c.args.facts.now)) c.args.places.now c.requires.tree.spelled c.requires.tree.each c.args.from c.args.part.stop c.loop-i.i c.loop-i.best c.loop-i.at c.loop-i.invariant.2 d c.requires.within.1 c.loop-i-test.true c.leaf_rule-rule.result c.leaf_rule-rule.ensures in
    stands_past c.args.places.now c.requires.tree.shaped.supported c.args.term.now c.loop-i.at c.loop-i.i (get_or c.args.places.now c.loop-i.i d) l.0 c.leaf_rule-rule.result l.1 c.loop-i.invariant.2.stands

pub loop-i-preserved : goal.loop-i-preserved
loop-i-preserved g c =
    let l = leaf_here (g.T.Test.accepts c.args.test.now) c.args.term.now c.requires.whole (rules_of (lives c.args.facts.now)) c.args.places.now c.requires.tree.spelled c.requires.tree.each c.args.from c.args.part.stop c.loop-i.i c.loop-i.best c.loop-i.at c.loop-i.invariant.2 d c.requires.within.1 c.loop-i-test.true c.leaf_rule-rule.result c.leaf_rule-rule.ensures in
    (c.next_leaf-i-in-loop-i.ensures.within.1, c.next_leaf-i-in-loop-i.ensures.long ∙ c.loop-i.invariant.1, next_found (g.T.Test.accepts c.args.test.now) c.args.term.now c.requires.whole (rules_of (lives c.args.facts.now)) c.args.places.now c.requires.tree.spelled c.requires.tree.each c.args.from c.args.part.stop c.loop-i.i c.loop-i.best c.loop-i.at c.loop-i.invariant.2 (get_or c.args.places.now c.loop-i.i d) c.leaf_rule-rule.result l.0 l.1 c.in_ok-best.best c.in_ok-best.ensures c.next_leaf-i-in-loop-i.result c.next_leaf-i-in-loop-i.new.at c.next_leaf-i-in-loop-i.ensures.stands c.next_leaf-i-in-loop-i.ensures.leaf c.next_leaf-i-in-loop-i.ensures.fails)

pub returns-clause-value : goal.returns-clause-value
returns-clause-value g c = search_over (g.T.Test.accepts c.args.test.now) c.args.term.now c.requires.whole (rules_of (lives c.args.facts.now)) c.args.places.now c.requires.tree.spelled c.requires.tree.each c.args.from c.args.part.stop c.loop-i.i c.loop-i.best c.loop-i.at c.loop-i.invariant.2 c.loop-i-test.false
