-- Precedences: lists of the symbols of a signature, the least first, and what is refused of them.
use Rattle.std.specs.Prelude.{List, ◌⊎◌}
use Rattle.uc_term.specs.declared.node.Sym.{Sym}
use Rattle.uc_order.specs.Members.{In, Each, IsTwice, IsFirst, AreDistinct}
use Rattle.uc_order.specs.declared.spec.OrderFault.{OrderFault}
use Rattle.uc_order.specs.declared.spec.OrderFault.TheVariants.{BadWeight, NotTotal, UnknownSymbol, NoMemory}

module _ (signature precedence : List Sym) where
  -- the precedence has symbols of the signature alone
  abbrev pub AreKnown : Type 0
  AreKnown = Each (In signature) precedence

  -- it has each symbol of the signature once, and no other
  abbrev pub IsTotalOn : Type 0
  IsTotalOn = AreKnown × AreDistinct precedence × Each (In precedence) signature

  -- f is its first symbol that the signature lacks
  abbrev pub IsUnknown : Sym → Type 0
  IsUnknown f = IsFirst (λ g. In signature g → ⊥) precedence f

  -- f is its first symbol that stands in it twice; where there is none, the first of the signature that it lacks
  abbrev pub IsNotTotal : Sym → Type 0
  IsNotTotal f = IsFirst (IsTwice precedence) precedence f ⊎ (AreDistinct precedence × IsFirst (λ g. In precedence g → ⊥) signature f)

  -- a precedence is refused so exactly where it is so; the first test that fails counts, and want of memory is free
  abbrev pub IsPrecedenceFault : OrderFault → Type 0
  IsPrecedenceFault (UnknownSymbol f) = IsUnknown f
  IsPrecedenceFault (NotTotal f) = AreKnown × IsNotTotal f
  IsPrecedenceFault (BadWeight f n) = ⊥
  IsPrecedenceFault NoMemory = Unit {0}
