-- Ordered steps: replacement of equals by smaller ones (Bachmair, Dershowitz and Plaisted, unfailing completion).
use Rattle.std.specs.Prelude.{ℕ, ◌≡◌, List}
use Rattle.uc_term.specs.declared.node.Sym.{Sym}
use Rattle.uc_term.specs.declared.equation.Equation.{Equation}
use Rattle.uc_term.specs.Tree.{Tree, var, app, Trees, none}
use Rattle.uc_term.specs.Variables.{Occurs}
use Rattle.uc_term.specs.Within.{Within, WithinOne}
use Rattle.uc_term.specs.Conversion.{Turn}

-- σ gives the least constant to the variables of r that l lacks
abbrev pub IsCompleted : Sym → Tree → Tree → (ℕ → Tree) → Type 0
IsCompleted least l r σ = (x : ℕ) → Occurs x r → (Occurs x l → ⊥) → σ x ≡ app least none

-- what is greater, and the order's least constant
module _ (Greater : Tree → Tree → Type 0) (least : Sym) where
  -- u and v are the two sides, in either order, of an instance of an equation, where variables that only v's side has are the
  -- least constant, and u is greater
  pub record Falls (es : List Equation) (u v : Tree) : Type 0 where
    pub turn : Turn es u v
    pub completed : IsCompleted least turn.l turn.r turn.σ
    pub greater : Greater u v

  -- one subterm replaced so
  abbrev pub OStep : List Equation → Tree → Tree → Type 0
  OStep es = Within (Falls es)

  -- no ordered step leads on from the term
  abbrev pub IsIrreducible : List Equation → Tree → Type 0
  IsIrreducible es u = (v : Tree) → OStep es u v → ⊥

  -- no ordered step leads on from any of the terms
  abbrev pub AreIrreducible : List Equation → Trees → Type 0
  AreIrreducible es us = (vs : Trees) → WithinOne (Falls es) us vs → ⊥

  -- no ordered step is made inside one of the term's arguments
  abbrev pub IsIrreducibleBelow : List Equation → Tree → Type 0
  IsIrreducibleBelow es (var x) = Unit {0}
  IsIrreducibleBelow es (app f us) = AreIrreducible es us
