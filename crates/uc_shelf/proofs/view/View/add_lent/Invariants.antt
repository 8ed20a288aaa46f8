use Rattle.std.proofs.Common.{◌≡◌, ◌++◌, map, take}
use Rattle.uc_disc.specs.Numbered.{lives}
use Rattle.uc_shelf.specs.Lending.{lent_of}
use Rattle.uc_shelf.specs.Viewing.{still_living}
use Rattle.uc_shelf.proofs.view.View.add_lent.Given as goal

abbrev pub invariant-loop-fact : goal.invariant-loop-fact
invariant-loop-fact l = map lent_of l.list.items ≡ map lent_of l.fn.list.items ++ still_living l.self (lives (take l.fact-index l.facts))
