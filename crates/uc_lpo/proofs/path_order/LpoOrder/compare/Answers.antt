use Rattle.uc_term.specs.Flat.{tree_of}
use Rattle.uc_lpo.specs.Ranks.{rank_of, rank_in}
use Rattle.uc_lpo.proofs.Same.{plain_verdict, shown_plain}
use Rattle.uc_lpo.proofs.path_order.LpoOrder.compare.Goals as goal

pub returns-clause-greater : goal.returns-clause-greater
returns-clause-greater c = plain_verdict _ (rank_of c.args.self.now.ranks.items) (rank_in c.args.self.now.precedence.items) c.args.self.now.ranked (tree_of c.args.s.now) (tree_of c.args.t.now) (rw c.deref.ensures.value at c.compare.ensures.greater)

pub returns-clause-less : goal.returns-clause-less
returns-clause-less c = plain_verdict _ (rank_of c.args.self.now.ranks.items) (rank_in c.args.self.now.precedence.items) c.args.self.now.ranked (tree_of c.args.t.now) (tree_of c.args.s.now) (rw c.deref.ensures.value at c.compare.ensures.less)

pub returns-clause-equal : goal.returns-clause-equal
returns-clause-equal c = rw (shown_plain (tree_of c.args.s.now), shown_plain (tree_of c.args.t.now)) at c.compare.ensures.equal
