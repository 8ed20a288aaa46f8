use Rattle.std.proofs.Common.{◌≡◌, map, take}
use Rattle.uc_certify.specs.Joining.{triple_of}
use Rattle.uc_certify.proofs.ending.triples_of.Given as goal

abbrev pub invariant-loop-three : goal.invariant-loop-three
invariant-loop-three l = l.list.items ≡ map triple_of (take l.three-index l.facts)
