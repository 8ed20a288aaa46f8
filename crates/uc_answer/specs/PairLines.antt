-- The lines of the pairs of equations.
use Rattle.std.specs.Prelude.{ℕ, ◌≡◌, ◌+◌, true, List, [], ◌∷◌, ◌++◌, codes, decimal}
use Rattle.uc_term.specs.declared.equation.Equation.{Equation}
use Rattle.uc_term.specs.declared.equation.Side.{Side}
use Rattle.uc_term.specs.declared.equation.Side.TheVariants.{Left, Right}
use Rattle.uc_term.specs.Equations.{side_of}
use Rattle.uc_term.specs.Positions.{IsPlaceOf}
use Rattle.uc_term.specs.Table.{Table, IsOf}
use Rattle.uc_clause.specs.Printing.{equation_text}
use Rattle.uc_tstp.specs.Printing.{path_text}
use Rattle.uc_order.specs.Laws.{Meaning}
use Rattle.uc_fact.specs.declared.fact.Overlap.{Overlap}
use Rattle.uc_pair.specs.declared.formed.Formed.{Formed}
use Rattle.uc_pair.specs.declared.formation.Formation.{Formation}
use Rattle.uc_pair.specs.declared.formation.Formation.TheVariants.{Pair, TooLarge}
use Rattle.uc_pair.specs.Listing.{AreOverlaps}
use Rattle.uc_pair.specs.Pairs.{IsPairOf}
use Rattle.uc_answer.specs.Lines.{spaced}

abbrev pub side_letter : Side → List ℕ
side_letter Left = codes "l"
side_letter Right = codes "r"

-- the equation of a pair, or that it is too large
abbrev pub formation_text : Table → Formation → List ℕ
formation_text table (Pair left right chain) = equation_text table true left right
formation_text table TooLarge = codes "too large"

-- the equation of a pair is over the table
abbrev pub IsFormationOver : Table → Formation → Type 0
IsFormationOver table (Pair left right chain) = IsOf table left × IsOf table right
IsFormationOver table TooLarge = Unit {0}

-- an overlap at the position of this path: the outer equation and its side, the inner equation and its side, and the position
abbrev pub overlap_words : Overlap → List ℕ → List ℕ
overlap_words o path = decimal o.outer ++ spaced (side_letter o.outer_side) ++ spaced (decimal o.inner) ++ spaced (side_letter o.inner_side) ++ spaced (path_text path)

-- the line of an overlap of axioms at the position of this path, and of what its pair comes to
abbrev pub pair_line : Table → Overlap → List ℕ → Formation → List ℕ
pair_line table o path formation = overlap_words o path ++ spaced (formation_text table formation) ++ codes "\n"

-- the line of an overlap of the outer equation a and the inner one b
pub record IsPairLine (table : Table) (a b : Equation) (o : Overlap) (line : List ℕ) : Type 0 where
  pub path : List ℕ
  pub path_is : IsPlaceOf (side_of o.outer_side a) path o.position.0
  pub formation : Formation
  pub formation_is : IsPairOf a b o formation
  pub line_is : line ≡ pair_line table o path formation

-- the lines of overlaps of these two, in order
pub data ArePairLines (table : Table) (a b : Equation) : List Formed → List ℕ → Type 0 where
  no_overlap_left : ArePairLines table a b [] []
  one_overlap : {formed : Formed} {list : List Formed} {line lines : List ℕ} → IsPairLine table a b formed.overlap line → ArePairLines table a b list lines → ArePairLines table a b (formed ∷ list) (line ++ lines)

-- the lines of all overlaps of these two, by their numbers and by this order
pub record ArePairsOf (table : Table) (m : Meaning) (i : ℕ) (a : Equation) (j : ℕ) (b : Equation) (lines : List ℕ) : Type 0 where
  pub list : List Formed
  pub overlaps : AreOverlaps m.greater i a j b list
  pub are_lines : ArePairLines table a b list lines

module _ (table : Table) (m : Meaning) where
  -- the lines of the outer equation a of number i with inner ones, of which the first has this number
  pub data AreInnerLines (i : ℕ) (a : Equation) : ℕ → List Equation → List ℕ → Type 0 where
    no_inner_left : {j : ℕ} → AreInnerLines i a j [] []
    one_inner : {j : ℕ} {b : Equation} {bs : List Equation} {lines others : List ℕ} → ArePairsOf table m i a j b lines → AreInnerLines i a (j + 1) bs others → AreInnerLines i a j (b ∷ bs) (lines ++ others)

  -- the lines of outer equations, of which the first has this number, each with all of these as inner ones
  pub data AreOuterLines (all : List Equation) : ℕ → List Equation → List ℕ → Type 0 where
    no_outer_left : {i : ℕ} → AreOuterLines all i [] []
    one_outer : {i : ℕ} {a : Equation} {others : List Equation} {lines rest : List ℕ} → AreInnerLines i a 0 all lines → AreOuterLines all (i + 1) others rest → AreOuterLines all i (a ∷ others) (lines ++ rest)
