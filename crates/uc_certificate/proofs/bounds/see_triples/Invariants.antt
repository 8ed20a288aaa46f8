use Rattle.std.proofs.Common.{take}
use Rattle.std.specs.List.{AllByRecursion}
use Rattle.uc_certificate.specs.Bounds.{IsBoundedTriple}
use Rattle.uc_certificate.proofs.bounds.see_triples.Given as goal

abbrev pub invariant-loop-triple : goal.invariant-loop-triple
invariant-loop-triple l = AllByRecursion IsBoundedTriple (take l.triple-index l.triples)
