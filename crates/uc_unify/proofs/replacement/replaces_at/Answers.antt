use Rattle.std.proofs.Common.{◌≡◌, sym, ◌∙◌, drop}
use Rattle.uc_unify.proofs.Decided.{never, always, not_of, of, to_end}
use Rattle.uc_unify.proofs.Splicing.{not_inside, first_whole, second_whole, old_whole, new_whole, not_within, not_front, not_behind, no_match, matched}
use Rattle.uc_unify.proofs.replacement.replaces_at.Goals as goal
use Rattle.uc_unify.proofs.replacement.replaces_at.Goals.{in-None, in-Some}

pub returns-then-place-old : goal.returns-then-place-old
returns-then-place-old c = never (not_inside c.args.from.now c.args.to.now c.args.before.now c.args.after.now _ _ c.as_nodes-old.ensures.value c.if-place-old.true)

pub returns-then-place-new : goal.returns-then-place-new
returns-then-place-new c = never (not_within c.args.before.now c.args.after.now _ _ _ c.as_nodes-old.ensures.value c.as_nodes-new.ensures.value c.if-place-old.false c.args.from.now c.args.to.now c.if-place-new.true)

pub end_of-old_end-requires-clause-whole : goal.end_of-old_end-requires-clause-whole
end_of-old_end-requires-clause-whole c = first_whole _ _ _ _ _ c.as_nodes-old.ensures.value c.as_nodes-new.ensures.value c.if-place-old.false

pub end_of-new_end-requires-clause-whole : goal.end_of-new_end-requires-clause-whole
end_of-new_end-requires-clause-whole c = second_whole _ _ _ _ _ c.as_nodes-old.ensures.value c.as_nodes-new.ensures.value c.if-place-old.false

pub returns-then-not-same_nodes : goal.returns-then-not-same_nodes
returns-then-not-same_nodes c =
    never (not_front c.args.before.now c.args.after.now _ _ _ c.as_nodes-old.ensures.value c.as_nodes-new.ensures.value c.if-place-old.false _ c.end_of-old_end.ensures.end c.args.from.now c.args.to.now _ c.if-place-new.false c.end_of-new_end.ensures.end (not_of c.same_nodes.result c.if-not-same_nodes.true c.same_nodes.ensures))

pub returns-then-not-same_nodes-2 : goal.returns-then-not-same_nodes-2
returns-then-not-same_nodes-2 c =
    let old = c.as_nodes-old.result.now in
    let new = c.as_nodes-new.result.now in
    let differ = not_of c.same_nodes-2.result c.if-not-same_nodes-2.true c.same_nodes-2.ensures in
    never (not_behind c.args.before.now c.args.after.now _ _ _ c.as_nodes-old.ensures.value c.as_nodes-new.ensures.value c.if-place-old.false _ c.end_of-old_end.ensures.end c.args.from.now c.args.to.now _ c.if-place-new.false c.end_of-new_end.ensures.end (λ e. differ (to_end old c.end_of-old_end.result ∙ e ∙ sym (to_end new c.end_of-new_end.result))))

pub matches_both-requires-clause-whole_left_term : goal.matches_both-requires-clause-whole_left_term
matches_both-requires-clause-whole_left_term c = old_whole _ _ _ _ _ c.as_nodes-old.ensures.value c.as_nodes-new.ensures.value c.if-place-old.false _ c.end_of-old_end.ensures.end

pub matches_both-requires-clause-whole_right_term : goal.matches_both-requires-clause-whole_right_term
matches_both-requires-clause-whole_right_term c = new_whole _ _ _ _ _ c.as_nodes-old.ensures.value c.as_nodes-new.ensures.value c.if-place-old.false _ c.end_of-old_end.ensures.end c.args.from.now c.args.to.now _ c.if-place-new.false c.end_of-new_end.ensures.end

pub returns : goal.returns
returns c =
    let old = c.as_nodes-old.result.now in
    let new = c.as_nodes-new.result.now in
    let e = c.end_of-old_end.result in
    let f = c.end_of-new_end.result in
    let front = of c.same_nodes.result c.if-not-same_nodes.false c.same_nodes.ensures in
    let behind : drop e old ≡ drop f new = sym (to_end old e) ∙ of c.same_nodes-2.result c.if-not-same_nodes-2.false c.same_nodes-2.ensures ∙ to_end new f in
    elim c.match-branch-2.branch [
      | in-None w ↦ rw (w.result-is) (never (no_match c.args.before.now c.args.after.now old new _ c.as_nodes-old.ensures.value c.as_nodes-new.ensures.value c.if-place-old.false e c.end_of-old_end.ensures.end c.args.from.now c.args.to.now f c.if-place-new.false c.end_of-new_end.ensures.end _ _ c.as_nodes.ensures.value c.as_nodes-2.ensures.value (rw w.in-None.is at c.in_ok-matches_both.ensures)))
      | in-Some w ↦ rw (w.result-is) (always (matched c.args.before.now c.args.after.now old new _ c.as_nodes-old.ensures.value c.as_nodes-new.ensures.value c.if-place-old.false e c.end_of-old_end.ensures.end c.args.from.now c.args.to.now f c.if-place-new.false c.end_of-new_end.ensures.end _ _ c.as_nodes.ensures.value c.as_nodes-2.ensures.value w.in-Some.field-0 front behind (rw w.in-Some.is at c.in_ok-matches_both.ensures)))
    ]
