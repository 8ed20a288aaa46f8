use Rattle.uc_term.proofs.Terms.{whole_flat_list}
use Rattle.uc_certify.proofs.Lists.{of, not_of, never}
use Rattle.uc_certify.proofs.Falling.{part_whole, part_known, in_old, in_new, falls, greater_of, no_fall}
use Rattle.uc_certify.proofs.moving.falls_at.Goals as goal

pub returns-then-not-branch : goal.returns-then-not-branch
returns-then-not-branch g c = never (no_fall (g.C.Comparison.greater c.args.comparison.now) c.args.from.now c.args.to.now c.args.before.now c.args.after.now c.args.pos.0 c.requires.inside (not_of c.in_ok-replaces_at.field-0 c.if-not-branch.true c.in_ok-replaces_at.ensures))

pub end_of-old_end-requires-clause-whole : goal.end_of-old_end-requires-clause-whole
end_of-old_end-requires-clause-whole g c = whole_flat_list c.as_nodes-old.result.now c.args.before.now c.as_nodes-old.ensures.value

pub end_of-old_end-requires-clause-within : goal.end_of-old_end-requires-clause-within
end_of-old_end-requires-clause-within g c = in_old c.args.before.now c.args.after.now c.as_nodes-old.result.now c.as_nodes-new.result.now c.args.pos.0 c.as_nodes-old.ensures.value c.as_nodes-new.ensures.value c.requires.inside

pub end_of-new_end-requires-clause-whole : goal.end_of-new_end-requires-clause-whole
end_of-new_end-requires-clause-whole g c = whole_flat_list c.as_nodes-new.result.now c.args.after.now c.as_nodes-new.ensures.value

pub end_of-new_end-requires-clause-within : goal.end_of-new_end-requires-clause-within
end_of-new_end-requires-clause-within g c = in_new c.args.before.now c.args.after.now c.as_nodes-old.result.now c.as_nodes-new.result.now c.args.pos.0 c.as_nodes-old.ensures.value c.as_nodes-new.ensures.value c.requires.inside c.args.from.now c.args.to.now (of c.in_ok-replaces_at.field-0 c.if-not-branch.false c.in_ok-replaces_at.ensures)

pub is_greater-requires-clause-s_whole : goal.is_greater-requires-clause-s_whole
is_greater-requires-clause-s_whole g c = part_whole c.args.before.now c.as_nodes-old.result.now c.args.pos.0 c.end_of-old_end.result c.as_nodes-old.ensures.value (in_old c.args.before.now c.args.after.now c.as_nodes-old.result.now c.as_nodes-new.result.now c.args.pos.0 c.as_nodes-old.ensures.value c.as_nodes-new.ensures.value c.requires.inside) c.end_of-old_end.ensures.end

pub is_greater-requires-clause-t_whole : goal.is_greater-requires-clause-t_whole
is_greater-requires-clause-t_whole g c = part_whole c.args.after.now c.as_nodes-new.result.now c.args.pos.0 c.end_of-new_end.result c.as_nodes-new.ensures.value (in_new c.args.before.now c.args.after.now c.as_nodes-old.result.now c.as_nodes-new.result.now c.args.pos.0 c.as_nodes-old.ensures.value c.as_nodes-new.ensures.value c.requires.inside c.args.from.now c.args.to.now (of c.in_ok-replaces_at.field-0 c.if-not-branch.false c.in_ok-replaces_at.ensures)) c.end_of-new_end.ensures.end

pub is_greater-requires-clause-s_known : goal.is_greater-requires-clause-s_known
is_greater-requires-clause-s_known g c = part_known c.args.before.now c.as_nodes-old.result.now c.args.pos.0 c.end_of-old_end.result c.as_nodes-old.ensures.value (in_old c.args.before.now c.args.after.now c.as_nodes-old.result.now c.as_nodes-new.result.now c.args.pos.0 c.as_nodes-old.ensures.value c.as_nodes-new.ensures.value c.requires.inside) c.end_of-old_end.ensures.end (g.C.Comparison.knows c.args.comparison.now) c.requires.before_known

pub is_greater-requires-clause-t_known : goal.is_greater-requires-clause-t_known
is_greater-requires-clause-t_known g c = part_known c.args.after.now c.as_nodes-new.result.now c.args.pos.0 c.end_of-new_end.result c.as_nodes-new.ensures.value (in_new c.args.before.now c.args.after.now c.as_nodes-old.result.now c.as_nodes-new.result.now c.args.pos.0 c.as_nodes-old.ensures.value c.as_nodes-new.ensures.value c.requires.inside c.args.from.now c.args.to.now (of c.in_ok-replaces_at.field-0 c.if-not-branch.false c.in_ok-replaces_at.ensures)) c.end_of-new_end.ensures.end (g.C.Comparison.knows c.args.comparison.now) c.requires.after_known

pub returns : goal.returns
returns g c =
    let replaces = of c.in_ok-replaces_at.field-0 c.if-not-branch.false c.in_ok-replaces_at.ensures in
    let Above = g.C.Comparison.greater c.args.comparison.now in (
      λ h. falls c.args.before.now c.args.after.now c.as_nodes-old.result.now c.as_nodes-new.result.now c.args.pos.0 c.as_nodes-old.ensures.value c.as_nodes-new.ensures.value c.requires.inside Above c.args.from.now c.args.to.now c.end_of-old_end.result c.end_of-new_end.result c.end_of-old_end.ensures.end replaces c.end_of-new_end.ensures.end (c.is_greater.ensures.0 h),
      λ f. c.is_greater.ensures.1 (greater_of c.args.before.now c.args.after.now c.as_nodes-old.result.now c.as_nodes-new.result.now c.args.pos.0 c.as_nodes-old.ensures.value c.as_nodes-new.ensures.value c.requires.inside Above c.args.from.now c.args.to.now c.end_of-old_end.result c.end_of-new_end.result c.end_of-old_end.ensures.end replaces c.end_of-new_end.ensures.end f),
    )
