use Rattle.std.proofs.Common.{◌∙◌, sym, arith}
use Rattle.uc_term.proofs.Terms.{nodes_whole}
use Rattle.uc_rewrite.proofs.walk.end_of_same.Goals as goal

pub returns-then-same_nodes : goal.returns-then-same_nodes
returns-then-same_nodes c = (omega (arith, nodes_whole c.args.term.now c.requires.whole), c.same_nodes.ensures.0 c.if-same_nodes.true ∙ sym c.requires.whole)
