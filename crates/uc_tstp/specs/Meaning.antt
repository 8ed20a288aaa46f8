-- What the parse of a proof says in a table of symbols.
use Rattle.std.specs.Prelude.{ℕ, ◌≡◌, true, List, [], ◌∷◌, ◌++◌, map, slice_get, Some}
use Rattle.std.specs.List.{flat_map}
use Rattle.uc_term.specs.Tree.{var}
use Rattle.uc_term.specs.Table.{Table}
use Rattle.uc_clause.specs.declared.token.Token.{Token}
use Rattle.uc_clause.specs.Terminals.{bytes_at}
use Rattle.uc_clause.specs.Meaning.{Variables, with_names, variables_in, Means, IsName}
use Rattle.uc_check.specs.declared.proof.Line.{Line}
use Rattle.uc_check.specs.declared.proof.LineStep.{LineStep}
use Rattle.uc_check.specs.declared.proof.LineSource.{LineSource}
use Rattle.uc_check.specs.declared.proof.LineSource.TheVariants.{File, Chain, Reflexive, EncodeGoal, Refute}
use Rattle.uc_tstp.specs.Parse as parse
use Rattle.uc_tstp.specs.Parse.{Body, says, falsum, Source, from_file, by_chain, by_reflexive, by_goal, by_refute}

module _ (bytes : List ℕ) (tokens : List Token) where
  -- the names of the lines, in order
  abbrev pub names_of : List parse.Line → List (List ℕ)
  names_of lines = map (λ (l : parse.Line). bytes_at bytes tokens l.name) lines

  abbrev pub body_variables : Body → List (List ℕ)
  body_variables (says l) = variables_in bytes tokens l.sides.left ++ variables_in bytes tokens l.sides.right
  body_variables falsum = []

  abbrev pub source_variables : Source → List (List ℕ)
  source_variables (by_chain start steps parents) = variables_in bytes tokens start ++ flat_map (λ (s : parse.Step). variables_in bytes tokens s.to) steps
  source_variables other = []

  -- the names of a line's variables, by first occurrence over its body, then its chain
  abbrev pub variables_of : parse.Line → Variables
  variables_of l = with_names [] (body_variables l.body ++ source_variables l.source)

  -- the token is the name of the line of this number
  abbrev pub IsNamed : List (List ℕ) → ℕ → ℕ → Type 0
  IsNamed names k number = slice_get names number ≡ Some (bytes_at bytes tokens k)

  pub data AreNamed (names : List (List ℕ)) : List ℕ → List ℕ → Type 0 where
    none_named : AreNamed names [] []
    one_named : {k number : ℕ} {ks numbers : List ℕ} → IsNamed names k number → AreNamed names ks numbers → AreNamed names (k ∷ ks) (number ∷ numbers)

  module _ (table : Table) (names : List (List ℕ)) (seen : Variables) where
    pub record MeansStep (s : parse.Step) (step : LineStep) : Type 0 where
      pub by : IsNamed names s.by step.by
      pub way : step.left_to_right ≡ s.left_to_right
      pub path : step.path ≡ s.path
      pub to : Means bytes tokens table seen s.to step.to

    pub data MeanSteps : List parse.Step → List LineStep → Type 0 where
      no_steps : MeanSteps [] []
      one_step : {s : parse.Step} {ss : List parse.Step} {step : LineStep} {steps : List LineStep} → MeansStep s step → MeanSteps ss steps → MeanSteps (s ∷ ss) (step ∷ steps)

    abbrev pub MeansSource : Source → LineSource → Type 0
    MeansSource (from_file k) (File name) = IsName bytes tokens k name
    MeansSource (by_chain p ss ks) (Chain start steps parents) = Means bytes tokens table seen p start × MeanSteps ss steps × AreNamed names ks parents
    MeansSource (by_reflexive ks) (Reflexive parents) = AreNamed names ks parents
    MeansSource (by_goal ks) (EncodeGoal parents) = AreNamed names ks parents
    MeansSource (by_refute ks) (Refute parents) = AreNamed names ks parents
    MeansSource _ _ = ⊥

    -- a refute line has the variable 0 on both sides, and is positive
    abbrev pub MeansBody : Body → Line → Type 0
    MeansBody (says l) line = (line.positive ≡ l.positive) × Means bytes tokens table seen l.sides.left line.left × Means bytes tokens table seen l.sides.right line.right
    MeansBody falsum line = (line.positive ≡ true) × (line.left ≡ var 0) × (line.right ≡ var 0)

  pub record MeansLine (table : Table) (names : List (List ℕ)) (l : parse.Line) (line : Line) : Type 0 where
    pub name : line.name ≡ bytes_at bytes tokens l.name
    pub body : MeansBody table names (variables_of l) l.body line
    pub source : MeansSource table names (variables_of l) l.source line.source

  pub data MeanLines (table : Table) (names : List (List ℕ)) : List parse.Line → List Line → Type 0 where
    no_lines : MeanLines table names [] []
    one_line : {l : parse.Line} {ls : List parse.Line} {line : Line} {lines : List Line} → MeansLine table names l line → MeanLines table names ls lines → MeanLines table names (l ∷ ls) (line ∷ lines)
