use Rattle.std.proofs.Common.{arith, sym, append-nil}
use Rattle.uc_certify.proofs.Gathered.{members_next, members_end}
use Rattle.uc_certify.proofs.expected.add_members.Goals as goal

pub loop-formed-init : goal.loop-formed-init
loop-formed-init c = sym (append-nil c.args.members.now.items)

pub loop-formed-preserved : goal.loop-formed-preserved
loop-formed-preserved c = members_next c.args.list.now c.loop-formed.formed-index _ c.args.members.now.items c.loop-formed.members.items c.push.new.self.items (omega arith) c.in_ok-push.ensures.items c.loop-formed.invariant

pub returns : goal.returns
returns c = members_end c.args.list.now c.loop-formed.formed-index c.args.members.now.items c.loop-formed.members.items (omega arith) c.loop-formed.invariant
