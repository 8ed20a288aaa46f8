use Rattle.std.proofs.Common.{◌≡◌, length, take, ap, ◌∙◌, arith}
use Rattle.std.proofs.lemmas.List.{take_all}
use Rattle.uc_shelf.specs.Segments.{entries_of}
use Rattle.uc_shelf.proofs.Runs.{births_few}
use Rattle.uc_shelf.proofs.front.Front.births.Goals as goal

pub returns-clause-few : goal.returns-clause-few
returns-clause-few c =
    let ps = c.as_slice.result.now in
    let n = c.len.result in
    let all : take n ps ≡ ps = take_all n ps (omega (arith, c.len.ensures, c.as_slice.ensures.len)) in
    let entries = ap (λ z. length (entries_of z)) (all ∙ c.as_slice.ensures.value) in
    omega (arith, c.base_of.ensures, births_few (entries_of (take n ps)), entries, c.self.invariant.0, c.self.invariant.1)
