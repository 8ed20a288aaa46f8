use Rattle.uc_term.specs.Flat.{tree_of}
use Rattle.uc_fact.specs.Live.{rules_of}
use Rattle.uc_shelf.specs.Entries.{live}
use Rattle.uc_shelf.proofs.Viewed.{none_of_nothing}
use Rattle.uc_shelf.proofs.view.ViewIndex.first_that.Goals as goal

pub returns-else-has_match-clause-value : goal.returns-else-has_match-clause-value
returns-else-has_match-clause-value g c = none_of_nothing (tree_of c.args.term.now) (g.T.Test.accepts c.args.test.now) (rules_of (live c.args.self.now)) (c.has_match.ensures.no c.if-has_match.false)
