use Rattle.std.proofs.Common.{subst}
use Rattle.uc_term.specs.Flat.{tree_of}
use Rattle.uc_term.proofs.Terms.{whole_one}
use Rattle.uc_unify.specs.Matching.{HasNoMatch}
use Rattle.uc_pair.proofs.Parts.{part_whole, part_tree}
use Rattle.uc_task.proofs.Parting.{no_match, refuted}
use Rattle.uc_task.proofs.parts.is_part.Goals as goal

pub end_of-requires-clause-whole : goal.end_of-requires-clause-whole
end_of-requires-clause-whole c = whole_one c.args.nodes.now c.requires.whole

pub is_instance-requires-clause-whole_term : goal.is_instance-requires-clause-whole_term
is_instance-requires-clause-whole_term c = part_whole c.args.nodes.now c.args.place c.end_of.result c.requires.whole c.requires.within c.end_of.ensures.end

pub returns-else-not-is_head : goal.returns-else-not-is_head
returns-else-not-is_head c = λ e. subst (λ t. HasNoMatch (tree_of c.args.pattern.now) t) (part_tree c.args.nodes.now c.args.place c.end_of.result c.requires.whole c.requires.within c.end_of.ensures.end) (c.is_instance.ensures.no e)

pub returns-then-not-is_head : goal.returns-then-not-is_head
returns-then-not-is_head c = λ _. no_match c.args.nodes.now c.args.pattern.now c.args.place _ c.requires.whole c.requires.whole_pattern c.requires.within c.in-App.f c.in-App.n c.in-App.is (refuted c.is_head.result c.if-not-is_head.true c.is_head.ensures.1)
