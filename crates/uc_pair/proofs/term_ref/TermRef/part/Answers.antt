use Rattle.uc_pair.proofs.Parts.{part_in_list, part_is_whole, part_is}
use Rattle.uc_pair.proofs.term_ref.TermRef.part.Goals as goal

pub slice_bounds-result-end : goal.slice_bounds-result-end
slice_bounds-result-end c = part_in_list c.self.inside.nodes.now c.args.self.now c.args.there c.self.invariant.0 c.self.view_is c.requires

pub returns-clause-whole : goal.returns-clause-whole
returns-clause-whole c = part_is_whole c.self.inside.nodes.now c.args.self.now c.args.there c.self.invariant.0 c.self.view_is c.requires

pub returns-clause-tree : goal.returns-clause-tree
returns-clause-tree c = part_is c.self.inside.nodes.now c.args.self.now c.args.there c.self.invariant.0 c.self.view_is c.requires
