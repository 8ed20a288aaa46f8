use Rattle.std.proofs.Common.{◌∙◌}
use Rattle.uc_unify.proofs.Outcome.{are_whole, at_first, at_second, next_first, next_second, second_within}
use Rattle.uc_unify.proofs.unification.unify_by_classes.Goals as goal

pub ends_of-requires-clause-whole : goal.ends_of-requires-clause-whole
ends_of-requires-clause-whole c = are_whole c.args.s.now c.args.t.now c.as_slice-nodes.result.now c.requires.whole_s c.requires.whole_t (c.as_slice-nodes.ensures.value ∙ c.in_ok-join.ensures)

pub closure-requires-clause-whole : goal.closure-requires-clause-whole
closure-requires-clause-whole c = are_whole c.args.s.now c.args.t.now c.as_slice-nodes.result.now c.requires.whole_s c.requires.whole_t (c.as_slice-nodes.ensures.value ∙ c.in_ok-join.ensures)

pub closure-requires-clause-within : goal.closure-requires-clause-within
closure-requires-clause-within c = second_within c.args.s.now c.args.t.now c.as_slice-nodes.result.now c.requires.whole_s c.requires.whole_t (c.as_slice-nodes.ensures.value ∙ c.in_ok-join.ensures)

pub read_off-requires-clause-whole : goal.read_off-requires-clause-whole
read_off-requires-clause-whole c = are_whole c.args.s.now c.args.t.now c.as_slice-nodes.result.now c.requires.whole_s c.requires.whole_t (c.as_slice-nodes.ensures.value ∙ c.in_ok-join.ensures)

pub read_off-requires-clause-first : goal.read_off-requires-clause-first
read_off-requires-clause-first c = next_first c.args.s.now c.args.t.now c.as_slice-nodes.result.now c.requires.whole_s c.requires.whole_t (c.as_slice-nodes.ensures.value ∙ c.in_ok-join.ensures)

pub read_off-requires-clause-last : goal.read_off-requires-clause-last
read_off-requires-clause-last c = next_second c.args.s.now c.args.t.now c.as_slice-nodes.result.now c.requires.whole_s c.requires.whole_t (c.as_slice-nodes.ensures.value ∙ c.in_ok-join.ensures)

pub read_off-requires-clause-within : goal.read_off-requires-clause-within
read_off-requires-clause-within c = second_within c.args.s.now c.args.t.now c.as_slice-nodes.result.now c.requires.whole_s c.requires.whole_t (c.as_slice-nodes.ensures.value ∙ c.in_ok-join.ensures)

pub returns-then-branch : goal.returns-then-branch
returns-then-branch c = rw (← at_first c.args.s.now c.args.t.now c.as_slice-nodes.result.now c.requires.whole_s c.requires.whole_t (c.as_slice-nodes.ensures.value ∙ c.in_ok-join.ensures), ← at_second c.args.s.now c.args.t.now c.as_slice-nodes.result.now c.requires.whole_s c.requires.whole_t (c.as_slice-nodes.ensures.value ∙ c.in_ok-join.ensures)) c.read_off.ensures

pub returns : goal.returns
returns c = rw (← at_first c.args.s.now c.args.t.now c.as_slice-nodes.result.now c.requires.whole_s c.requires.whole_t (c.as_slice-nodes.ensures.value ∙ c.in_ok-join.ensures), ← at_second c.args.s.now c.args.t.now c.as_slice-nodes.result.now c.requires.whole_s c.requires.whole_t (c.as_slice-nodes.ensures.value ∙ c.in_ok-join.ensures)) (rw c.if-branch.false at c.in_ok-closure.ensures)
