-- When a call on terms refuses. Want of memory is free.
use Rattle.std.specs.Prelude.{ℕ, ◌<◌, ◌≤◌}
use Rattle.uc_term.specs.Tree.{Tree, nodes, put}
use Rattle.uc_term.specs.declared.fault.TermFault.{TermFault}
use Rattle.uc_term.specs.declared.fault.TermFault.TheVariants.{TooLarge, NoSuchPosition, NoMemory}

-- a term isn't made exactly where it is too large
abbrev pub IsSizeFault : Tree → TermFault → Type 0
IsSizeFault t TooLarge = 4096 < nodes t
IsSizeFault t NoMemory = Unit {0}
IsSizeFault t _ = ⊥

-- a subterm isn't replaced exactly where there is none, or the result is too large
abbrev pub IsPutFault : Tree → ℕ → Tree → TermFault → Type 0
IsPutFault t pos part NoSuchPosition = nodes t ≤ pos
IsPutFault t pos part TooLarge = (pos < nodes t) × (4096 < nodes (put t pos part))
IsPutFault t pos part NoMemory = Unit {0}
IsPutFault t pos part _ = ⊥
