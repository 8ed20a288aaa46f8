-- The lines that an aim and the chains of the facts determine: the proof of a goal, or the derivation of facts.
use Rattle.std.specs.Prelude.{ℕ, ◌≡◌, ◌++◌, List, [], ◌∷◌, length, map, slice_get, Some, Ok}
use Rattle.uc_term.specs.Table.{Table}
use Rattle.uc_term.specs.Variables.{variables, firsts, renumbered_by}
use Rattle.uc_check.specs.declared.proof.Line.{Line}
use Rattle.uc_check.specs.Lines.{IsDerived}
use Rattle.uc_check.specs.Replacements.{IsRefutation}
use Rattle.uc_fact.specs.declared.chain.Chain.{Chain}
use Rattle.uc_fact.specs.declared.fact.Fact.{Fact}
use Rattle.uc_problem.specs.declared.problem.Problem.{Problem}
use Rattle.uc_problem.specs.declared.problem.Encoded.{Encoded}
use Rattle.uc_problem.specs.Holds.{Agrees}
use Rattle.uc_problem.specs.Encodes.{Encodes}
use Rattle.uc_proof.specs.declared.aim.Aim.{Aim}
use Rattle.uc_proof.specs.declared.aim.Aim.TheVariants as aim
use Rattle.uc_proof.specs.declared.part.Part.{Part}
use Rattle.uc_proof.specs.declared.part.Part.TheVariants as part
use Rattle.uc_proof.specs.Chains.{conclusion_of}
use Rattle.uc_proof.specs.Needed.{IsNeeded}
use Rattle.uc_proof.specs.Parts.{all_parts, Selects}
use Rattle.uc_proof.specs.Written.{AreWritten}
use Rattle.uc_proof.specs.Files.{part_file}

-- in some table of symbols, the one is the encoding of the other, whose parts agree
pub record IsEncodingOf (problem : Problem) (encoded : Encoded) : Type 0 where
  pub table : Table
  pub agrees : Agrees table problem
  pub encodes : Encodes table problem (Ok encoded)

-- a line and a file for each part that the aim needs, and for no other, in the order of all parts
pub record IsDerivation (problem : Problem) (encoded : Encoded) (facts : List Fact) (a : Aim) (lines : List Line) (files : List (List ℕ)) : Type 0 where
  pub plan : List Part
  pub selected : Selects (IsNeeded encoded facts a) (all_parts problem encoded (length facts)) plan
  pub written : AreWritten problem encoded facts a plan 0 plan lines
  pub files_are : files ≡ map (part_file problem encoded) plan

-- the lines are the proof of a goal
abbrev pub IsExtracted : Problem → Encoded → List Fact → Chain → Chain → ℕ → List Line → List (List ℕ) → Type 0
IsExtracted problem encoded facts left right goal lines files = IsDerivation problem encoded facts (aim.Goal (conclusion_of left right) goal) lines files

-- each of these numbers is that of the fact's line
abbrev pub AreNumbersOf : List Part → List ℕ → List ℕ → Type 0
AreNumbersOf plan [] [] = Unit {0}
AreNumbersOf plan (n ∷ ns) (number ∷ numbers) = (slice_get plan number ≡ Some (part.Fact n)) × AreNumbersOf plan ns numbers
AreNumbersOf plan ns numbers = ⊥

-- the lines are the derivation of these facts, and the numbers are those of the facts' lines
pub record AreDerivedFacts (problem : Problem) (encoded : Encoded) (facts : List Fact) (live : List ℕ) (lines : List Line) (files : List (List ℕ)) (numbers : List ℕ) : Type 0 where
  pub derivation : IsDerivation problem encoded facts (aim.Facts live) lines files
  pub numbers_are : AreNumbersOf derivation.plan live numbers

-- the variables of the fact's sides, each once, by first occurrence
abbrev pub fact_variables : Fact → List ℕ
fact_variables fact = firsts (variables fact.left ++ variables fact.right)

-- The number at this place is that of a chain line of the fact's equation, sides in order, with its variables numbered by first
-- occurrence.
pub record HasLine (lines : List Line) (numbers : List ℕ) (place : ℕ) (fact : Fact) : Type 0 where
  pub number : ℕ
  pub number_is : slice_get numbers place ≡ Some number
  pub line : Line
  pub line_is : slice_get lines number ≡ Some line
  pub derived : IsDerived line
  pub left_is : line.left ≡ renumbered_by (fact_variables fact) fact.left
  pub right_is : line.right ≡ renumbered_by (fact_variables fact) fact.right

-- each of these facts has such a line, whose number stands at its place
abbrev pub HaveLines : List Fact → List Line → List ℕ → List ℕ → Type 0
HaveLines facts lines live numbers = (place n : ℕ) (fact : Fact) → slice_get live place ≡ Some n → slice_get facts n ≡ Some fact → HasLine lines numbers place fact

-- no line is a refutation
abbrev pub NoneRefutes : List Line → Type 0
NoneRefutes lines = (k : ℕ) (line : Line) → slice_get lines k ≡ Some line → IsRefutation line.source → ⊥
