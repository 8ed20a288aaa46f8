-- Symbols that a table has, one by one.
use Rattle.std.proofs.Common.{zero, suc, List, [], ◌∷◌, refl}
use Rattle.uc_term.specs.declared.node.Sym.{Sym}
use Rattle.uc_term.specs.Table.{Table, Has}
use Rattle.uc_term.specs.Gathering.{HasAll}
use Rattle.uc_order.specs.Members.{Each}

pub each_has : (t : Table) (fs : List Sym) → HasAll t fs → Each (Has t) fs
each_has t [] h = tt
each_has t (f ∷ fs) h = (h zero f refl, each_has t fs (λ i g e. h (suc i) g e))
