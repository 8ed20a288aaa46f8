-- When a line of a proof is right, and else which of its tests is the first that fails.
use Rattle.std.specs.Prelude.{ℕ, ◌≡◌, ◌<◌, ◌⊎◌, Bool, true, false, ◌||◌, List, [], ◌∷◌, map, slice_get, Option, Some, None, Result, Ok, Err}
use Rattle.uc_term.specs.declared.fresh.Fresh.{Fresh}
use Rattle.uc_term.specs.Tree.{Tree, var}
use Rattle.uc_term.specs.Variables.{firsts, has_variable}
use Rattle.uc_term.specs.Encoding.{yes_term, no_term, pair_term}
use Rattle.uc_clause.specs.declared.clause.Name.{Name}
use Rattle.uc_clause.specs.declared.clause.Clause.{Clause}
use Rattle.uc_clause.specs.declared.clause.Sourced.{Sourced}
use Rattle.uc_check.specs.declared.proof.Line.{Line}
use Rattle.uc_check.specs.declared.proof.LineStep.{LineStep}
use Rattle.uc_check.specs.declared.proof.LineSource.{LineSource}
use Rattle.uc_check.specs.declared.proof.LineSource.TheVariants.{File, Chain, Reflexive, EncodeGoal, Refute}
use Rattle.uc_check.specs.declared.checker.Cause.{Cause}
use Rattle.uc_check.specs.declared.checker.Cause.TheVariants.{NotAProblemClause, NotEarlier, EndsDiffer, WrongParents, NoGoal}
use Rattle.uc_check.specs.Variants.{AreVariants}
use Rattle.uc_check.specs.Replacements.{Leads}
use Rattle.uc_check.specs.Tests.{Test}

-- the clause has this name, this polarity and this equation, sides in order, up to a renaming
pub record SaysSame (clause : Clause) (name : Name) (positive : Bool) (l r : Tree) : Type 0 where
  pub name_is : clause.name ≡ name
  pub polarity : clause.positive ≡ positive
  pub variants : AreVariants clause.left clause.right l r

-- some clause of the problem does
pub record IsClause (clauses : List Sourced) (name : Name) (positive : Bool) (l r : Tree) : Type 0 where
  pub number : ℕ
  pub sourced : Sourced
  pub sourced_is : slice_get clauses number ≡ Some sourced
  pub same : SaysSame sourced.clause name positive l r

abbrev pub IsFile : LineSource → Type 0
IsFile (File name) = Unit {0}
IsFile _ = ⊥

abbrev pub IsChain : LineSource → Type 0
IsChain (Chain start steps parents) = Unit {0}
IsChain _ = ⊥

-- a file line that denies its equation
abbrev pub IsDenial : Line → Type 0
IsDenial line = IsFile line.source × (line.positive ≡ false)

-- a chain line, of an equation
abbrev pub IsDerived : Line → Type 0
IsDerived line = IsChain line.source × (line.positive ≡ true)

-- some variable occurs in the line's sides
abbrev pub is_open : Line → Bool
is_open line = has_variable line.left || has_variable line.right

-- each of the lines is earlier than line k
abbrev pub AreEarlier : ℕ → List ℕ → Type 0
AreEarlier k [] = Unit {0}
AreEarlier k (p ∷ ps) = (p < k) × AreEarlier k ps

-- the lines that the steps name, each once, by first use
abbrev pub named_by : List LineStep → List ℕ
named_by steps = firsts (map (λ step. step.by) steps)

-- the line has no parent and reads eq(X,X) = true
pub record ReadsReflexive (fresh : Option Fresh) (parents : List ℕ) (line : Line) : Type 0 where
  pub marks : Fresh
  pub marks_are : fresh ≡ Some marks
  pub parents_are : parents ≡ []
  pub positive : line.positive ≡ true
  pub left_is : line.left ≡ pair_term marks (var 0) (var 0)
  pub right_is : line.right ≡ yes_term marks

-- the line reads eq(s,t) = false up to a renaming, where the other one is a file line that denies s = t and has a variable
pub record ReadsRefuted (marks : Fresh) (goal line : Line) : Type 0 where
  pub denial : IsDenial goal
  pub has_variables : is_open goal ≡ true
  pub positive : line.positive ≡ true
  pub variants : AreVariants (pair_term marks goal.left goal.right) (no_term marks) line.left line.right

-- the line has one parent, and reads so for it
pub record ReadsGoal (fresh : Option Fresh) (lines : List Line) (parents : List ℕ) (line : Line) : Type 0 where
  pub marks : Fresh
  pub marks_are : fresh ≡ Some marks
  pub parent : ℕ
  pub parents_are : parents ≡ parent ∷ []
  pub goal : Line
  pub goal_is : slice_get lines parent ≡ Some goal
  pub reads : ReadsRefuted marks goal line

-- a file line that denies s = t, and a chain line of s = t with the same sides, both ground
pub record ShowsDenied (goal chain : Line) : Type 0 where
  pub denial : IsDenial goal
  pub ground_goal : is_open goal ≡ false
  pub derived : IsDerived chain
  pub left_same : chain.left ≡ goal.left
  pub right_same : chain.right ≡ goal.right

-- a chain line of true = false
pub record ShowsFalse (marks : Fresh) (chain : Line) : Type 0 where
  pub derived : IsDerived chain
  pub left_is : chain.left ≡ yes_term marks
  pub right_is : chain.right ≡ no_term marks

-- two parents, a denial and then a chain line that shows what it denies
pub record RefutesGround (lines : List Line) (parents : List ℕ) : Type 0 where
  pub first : ℕ
  pub second : ℕ
  pub parents_are : parents ≡ first ∷ second ∷ []
  pub goal : Line
  pub goal_is : slice_get lines first ≡ Some goal
  pub chain : Line
  pub chain_is : slice_get lines second ≡ Some chain
  pub shows : ShowsDenied goal chain

-- one parent, a chain line of true = false
pub record RefutesEncoded (fresh : Option Fresh) (lines : List Line) (parents : List ℕ) : Type 0 where
  pub marks : Fresh
  pub marks_are : fresh ≡ Some marks
  pub parent : ℕ
  pub parents_are : parents ≡ parent ∷ []
  pub chain : Line
  pub chain_is : slice_get lines parent ≡ Some chain
  pub shows : ShowsFalse marks chain

-- no test is left
abbrev pub Passed : Option Cause → Type 0
Passed outcome = outcome ≡ None

-- The outcome of the tests of line k, in their order: None where all are passed, and else the cause of the first that fails.
module _ (clauses : List Sourced) (fresh : Option Fresh) (lines : List Line) (k : ℕ) (line : Line) where
  -- where a chain's steps lead to a term: it is the right side, and the parents are the lines that the steps name
  abbrev pub EndsRight : List LineStep → List ℕ → Result Tree Cause → Option Cause → Type 0
  EndsRight steps parents (Ok end) outcome = Test (end ≡ line.right) (Some EndsDiffer) (Test (parents ≡ named_by steps) (Some WrongParents) Passed) outcome
  EndsRight steps parents (Err cause) outcome = outcome ≡ Some cause

  pub record StepsTested (start : Tree) (steps : List LineStep) (parents : List ℕ) (outcome : Option Cause) : Type 0 where
    pub end : Result Tree Cause
    pub leads : Leads lines k start steps end
    pub ends : EndsRight steps parents end outcome

  abbrev pub Tested : LineSource → Option Cause → Type 0
  Tested (File name) outcome = Test (IsClause clauses name line.positive line.left line.right) (Some NotAProblemClause) Passed outcome
  Tested (Chain start steps parents) outcome = Test (start ≡ line.left) (Some EndsDiffer) (StepsTested start steps parents) outcome
  Tested (Reflexive parents) outcome = Test (AreEarlier k parents) (Some NotEarlier) (Test (ReadsReflexive fresh parents line) (Some NotAProblemClause) Passed) outcome
  Tested (EncodeGoal parents) outcome = Test (AreEarlier k parents) (Some NotEarlier) (Test (ReadsGoal fresh lines parents line) (Some NotAProblemClause) Passed) outcome
  Tested (Refute parents) outcome = Test (AreEarlier k parents) (Some NotEarlier) (Test (RefutesGround lines parents ⊎ RefutesEncoded fresh lines parents) (Some NoGoal) Passed) outcome
