-- Replacements by facts that lead to smaller terms, each at a position that is named.
use Rattle.std.specs.Prelude.{ℕ, ◌≡◌, List, [], ◌∷◌, slice_get, Some}
use Rattle.uc_term.specs.declared.equation.Equation.{Equation}
use Rattle.uc_term.specs.Equations.{side_of, other_side_of}
use Rattle.uc_term.specs.Tree.{Tree, apply}
use Rattle.uc_term.specs.Path.{at_position, put_position}
use Rattle.uc_term.specs.Over.{IsOver}
use Rattle.uc_order.specs.Laws.{Meaning, HasSym}
use Rattle.uc_rewrite.specs.Replay.{replaced_side}
use Rattle.uc_certificate.specs.declared.certificate.Move.{Move}

-- the term to which moves lead: that behind the last of them; the one before them, where there are none
abbrev pub moved : Tree → List Move → Tree
moved t [] = t
moved t (move ∷ moves) = moved move.to moves

-- what is greater, and which variables may stand in the terms
module _ (m : Meaning) (facts : List Equation) (Greater : Tree → Tree → Type 0) (Known : ℕ → Type 0) where
  -- The move replaces equals by equals in the term before it: by the fact that it names, the named way and at the named position.
  -- The subterm there is greater than what takes its place. The term behind has symbols of the signature alone, each with as many
  -- arguments as its arity, and only such variables.
  pub record IsMove (before : Tree) (move : Move) : Type 0 where
    pub equation : Equation
    pub equation_is : slice_get facts move.fact ≡ Some equation
    pub part : Tree
    pub part_is : at_position before move.path ≡ Some part
    pub σ : ℕ → Tree
    pub from_is : apply σ (side_of (replaced_side move.left_to_right) equation) ≡ part
    pub to_is : put_position before move.path (apply σ (other_side_of (replaced_side move.left_to_right) equation)) ≡ move.to
    pub greater : Greater part (apply σ (other_side_of (replaced_side move.left_to_right) equation))
    pub over : IsOver (HasSym m) m.arity Known move.to

  -- each of them does, the first one in this term and each later one in the term behind the one before it
  abbrev pub AreMoves : Tree → List Move → Type 0
  AreMoves before [] = Unit {0}
  AreMoves before (move ∷ moves) = IsMove before move × AreMoves move.to moves
