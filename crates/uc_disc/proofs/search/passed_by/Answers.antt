use Rattle.uc_term.specs.Flat.{tree_of}
use Rattle.uc_fact.specs.Live.{rules_of}
use Rattle.uc_disc.specs.Numbered.{lives}
use Rattle.uc_disc.proofs.Passed.{passed_none, passed_idle}
use Rattle.uc_disc.proofs.search.passed_by.Goals as goal

pub returns-then-refuses_embedded : goal.returns-then-refuses_embedded
returns-then-refuses_embedded g c = passed_idle (g.T.Test.accepts c.args.test.now) (tree_of c.args.term.now) (rules_of (lives c.args.facts.now)) c.args.places.now c.args.from (g.T.Test.can_test c.args.test.now) c.requires.can (c.refuses_embedded.ensures c.if-refuses_embedded.true) c.args.idle_end c.requires.idle_end

pub returns-else-refuses_embedded : goal.returns-else-refuses_embedded
returns-else-refuses_embedded g c = passed_none (g.T.Test.accepts c.args.test.now) (tree_of c.args.term.now) (rules_of (lives c.args.facts.now)) c.args.places.now c.args.from c.requires.supported
