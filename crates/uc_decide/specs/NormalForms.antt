-- Normal forms of ground terms by ground steps, and when ground steps from one term can be joined.
use Rattle.std.specs.Prelude.{◌≡◌, List}
use Rattle.uc_term.specs.declared.equation.Equation.{Equation}
use Rattle.uc_term.specs.Tree.{Tree}
use Rattle.uc_term.specs.Within.{Joined}
use Rattle.uc_order.specs.Laws.{Meaning, HasSym, IsGroundOf}
use Rattle.uc_fact.specs.Ground.{GStep, IsNormalForm}

module _ (m : Meaning) (es : List Equation) where
  -- ground steps by the equations, over the order's signature
  abbrev pub GroundStep : Tree → Tree → Type 0
  GroundStep = GStep m.greater (HasSym m) m.arity es

  -- a list of ground steps leads from u to n, and none leads on
  abbrev pub HasNormalForm : Tree → Tree → Type 0
  HasNormalForm = IsNormalForm m.greater (HasSym m) m.arity es

  -- it has one, and no other
  pub record HasOneNormalForm (u : Tree) : Type 0 where
    pub normal : Tree
    pub is_one : HasNormalForm u normal
    pub only : (n : Tree) → HasNormalForm u n → n ≡ normal

  -- what two ground steps from one ground term lead to is joined
  abbrev pub IsLocallyConfluent : Type 0
  IsLocallyConfluent = (u v w : Tree) → IsGroundOf m u → GroundStep u v → GroundStep u w → Joined GroundStep v w
