use Rattle.std.proofs.Common.{◌≡◌, ◌++◌, take}
use Rattle.uc_certify.specs.Expecting.{members_of}
use Rattle.uc_certify.proofs.expected.add_members.Given as goal

abbrev pub invariant-loop-formed : goal.invariant-loop-formed
invariant-loop-formed l = l.members.items ≡ l.fn.members.items ++ members_of (take l.formed-index l.list)
