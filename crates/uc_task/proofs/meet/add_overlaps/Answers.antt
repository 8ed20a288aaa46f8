use Rattle.std.proofs.Common.{[], ◌++◌, sym, ap, ◌∙◌, append_assoc, append-nil}
use Rattle.uc_task.specs.Meeting.{is_met, no_earlier}
use Rattle.uc_task.proofs.meet.add_overlaps.Goals as goal

pub returns-then-other-number : goal.returns-then-other-number
returns-then-other-number g c = record { more = []; new_is = sym (append-nil c.args.list.now); holds = no_earlier c.if-other-number.true }

pub returns : goal.returns
returns g c =
    let inside = c.in_ok-inside.inside in
    let outside = c.in_ok-outside.outside in
    record {
      more = inside ++ outside;
      new_is = c.in_ok-append-2.ensures.ok ∙ ap (λ l. l ++ outside) c.in_ok-append.ensures.ok ∙ append_assoc c.args.list.now inside outside;
      holds = is_met c.if-other-number.false c.in_ok-inside.ensures.list c.in_ok-outside.ensures.list;
    }
