use Rattle.std.proofs.Common.{arith, length}
use Rattle.uc_fact.specs.Live.{rules_of}
use Rattle.uc_disc.specs.Numbered.{lives}
use Rattle.uc_disc.proofs.Rules.{length_rules}
use Rattle.uc_disc.proofs.Retrieved.{none_at_start, none_past, none_left, search_ends}
use Rattle.uc_disc.proofs.search.first_in.Goals as goal

pub best_in-requires-clause-best : goal.best_in-requires-clause-best
best_in-requires-clause-best g c = none_at_start (g.T.Test.accepts c.args.test.now) c.args.term.now c.requires.whole (rules_of (lives c.args.facts.now)) c.args.places.now c.requires.tree.spelled c.requires.tree.each c.args.from 0 c.args.passed _ (omega (arith, length_rules c.args.facts.now, c.requires.few)) c.requires.passed

pub best_in-requires-2-clause-best : goal.best_in-requires-2-clause-best
best_in-requires-2-clause-best g c = none_past (g.T.Test.accepts c.args.test.now) c.args.term.now c.requires.whole (rules_of (lives c.args.facts.now)) c.args.places.now c.requires.tree.spelled c.requires.tree.each c.args.from 0 c.args.parts.first c.args.parts.second.start c.in_ok-best.best c.in_ok-best.ensures.value (c.requires.parts.between c.in_ok-best.best.bound)

pub returns-then-parts-clause-value : goal.returns-then-parts-clause-value
returns-then-parts-clause-value g c = search_ends (g.T.Test.accepts c.args.test.now) c.args.term.now c.requires.whole (rules_of (lives c.args.facts.now)) c.args.places.now c.requires.tree.spelled c.requires.tree.each c.args.from 0 c.in_ok-best.best.bound c.in_ok-best.best.answer (none_left (g.T.Test.accepts c.args.test.now) c.args.term.now c.requires.whole (rules_of (lives c.args.facts.now)) c.args.places.now c.requires.tree.spelled c.requires.tree.each c.args.from 0 c.args.parts.second.start c.args.parts.second.stop c.in_ok-best.best (none_past (g.T.Test.accepts c.args.test.now) c.args.term.now c.requires.whole (rules_of (lives c.args.facts.now)) c.args.places.now c.requires.tree.spelled c.requires.tree.each c.args.from 0 c.args.parts.first c.args.parts.second.start c.in_ok-best.best c.in_ok-best.ensures.value (c.requires.parts.between c.in_ok-best.best.bound)) c.if-parts.true (c.requires.parts.behind c.in_ok-best.best.bound))

pub returns-clause-value : goal.returns-clause-value
returns-clause-value g c = search_ends (g.T.Test.accepts c.args.test.now) c.args.term.now c.requires.whole (rules_of (lives c.args.facts.now)) c.args.places.now c.requires.tree.spelled c.requires.tree.each c.args.from 0 c.in_ok-last.last.bound c.in_ok-last.last.answer (none_past (g.T.Test.accepts c.args.test.now) c.args.term.now c.requires.whole (rules_of (lives c.args.facts.now)) c.args.places.now c.requires.tree.spelled c.requires.tree.each c.args.from 0 c.args.parts.second.stop (length c.args.places.now) c.in_ok-last.last c.in_ok-last.ensures.value (c.requires.parts.behind c.in_ok-last.last.bound))
