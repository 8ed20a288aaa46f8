use Rattle.std.proofs.Common.{[], sym, append-nil}
use Rattle.uc_unify.proofs.Decided.{not_of}
use Rattle.uc_task.specs.Meeting.{is_killed, is_spared, not_earlier}
use Rattle.uc_task.proofs.meet.add_kill.Goals as goal

pub returns-then-fact-number : goal.returns-then-fact-number
returns-then-fact-number g c = record { more = []; new_is = sym (append-nil c.args.list.now); holds = not_earlier c.if-fact-number.true }

pub returns-then-not-branch : goal.returns-then-not-branch
returns-then-not-branch g c = record { more = []; new_is = sym (append-nil c.args.list.now); holds = is_spared c.if-fact-number.false (not_of c.in_ok-reduces.field-0 c.if-not-branch.true c.in_ok-reduces.ensures) }

pub returns : goal.returns
returns g c = record { more = _; new_is = c.in_ok-push.ensures.ok; holds = is_killed c.if-fact-number.false (c.in_ok-reduces.ensures.0 c.if-not-branch.false) }
