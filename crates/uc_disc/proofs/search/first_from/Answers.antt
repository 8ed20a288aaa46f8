use Rattle.std.proofs.Common.{rules}
use Rattle.uc_fact.specs.Live.{rules_of}
use Rattle.uc_disc.specs.Numbered.{lives}
use Rattle.uc_disc.proofs.Retrieved.{search_empty}
use Rattle.uc_disc.proofs.Whole.{tree_deeper}
use Rattle.uc_disc.proofs.search.first_from.Goals as goal

pub first_shallow-requires-clause-tree : goal.first_shallow-requires-clause-tree
first_shallow-requires-clause-tree g c = tree_deeper (rules_of (lives c.args.facts.now)) c.args.places.now c.args.deep 63 (search rules) c.requires.tree

pub first_middle-requires-clause-tree : goal.first_middle-requires-clause-tree
first_middle-requires-clause-tree g c = tree_deeper (rules_of (lives c.args.facts.now)) c.args.places.now c.args.deep 511 (search rules) c.requires.tree

pub first_deep-requires-clause-tree : goal.first_deep-requires-clause-tree
first_deep-requires-clause-tree g c = tree_deeper (rules_of (lives c.args.facts.now)) c.args.places.now c.args.deep 4097 c.requires.shallow c.requires.tree

pub returns-then-parts-clause-value : goal.returns-then-parts-clause-value
returns-then-parts-clause-value g c = search_empty (g.T.Test.accepts c.args.test.now) c.args.term.now c.requires.whole (rules_of (lives c.args.facts.now)) c.args.places.now c.requires.tree.spelled c.requires.tree.each c.args.from 0 c.passed_by-passed.result c.parts_of-parts.result.first c.parts_of-parts.result.second.start c.parts_of-parts.result.second.stop c.passed_by-passed.ensures c.if-parts-passed.true c.if-parts.true c.parts_of-parts.ensures.between c.parts_of-parts.ensures.behind
