-- What becomes of the drafts of lines when the tokens that name lines are replaced by the lines' numbers.
use Rattle.std.specs.Prelude.{ℕ, ◌≡◌, true, List, [], ◌∷◌, ◌++◌, map, Some}
use Rattle.std.specs.List.{flat_map}
use Rattle.uc_term.specs.Tree.{var}
use Rattle.uc_clause.specs.declared.token.Token.{Token}
use Rattle.uc_clause.specs.Terminals.{bytes_at}
use Rattle.uc_check.specs.declared.proof.Line.{Line}
use Rattle.uc_check.specs.declared.proof.LineStep.{LineStep}
use Rattle.uc_check.specs.declared.proof.LineSource.{LineSource}
use Rattle.uc_check.specs.declared.proof.LineSource.TheVariants as numbered
use Rattle.uc_tstp.specs.declared.drafts.StepDraft.{StepDraft}
use Rattle.uc_tstp.specs.declared.drafts.SourceDraft.{SourceDraft}
use Rattle.uc_tstp.specs.declared.drafts.SourceDraft.TheVariants as source
use Rattle.uc_tstp.specs.declared.drafts.BodyDraft.{BodyDraft}
use Rattle.uc_tstp.specs.declared.drafts.BodyDraft.TheVariants as body
use Rattle.uc_tstp.specs.declared.drafts.LineDraft.{LineDraft}
use Rattle.uc_tstp.specs.declared.resolving.Sides.{Sides}
use Rattle.uc_tstp.specs.declared.resolving.Unresolved.{Unresolved}
use Rattle.uc_tstp.specs.declared.resolving.Unresolved.TheVariants.{Unknown, NoMemory}
use Rattle.uc_tstp.specs.Meaning.{IsNamed, AreNamed}
use Rattle.uc_tstp.specs.Reading.{first_unknown}

-- the tokens that name lines, in text order
abbrev pub steps_mention : List StepDraft → List ℕ
steps_mention steps = map (λ (s : StepDraft). s.by) steps

abbrev pub source_mentions : SourceDraft → List ℕ
source_mentions (source.File name) = []
source_mentions (source.Chain start steps parents) = steps_mention steps ++ parents
source_mentions (source.Reflexive parents) = parents
source_mentions (source.EncodeGoal parents) = parents
source_mentions (source.Refute parents) = parents

abbrev pub lines_mention : List LineDraft → List ℕ
lines_mention drafts = flat_map (λ (d : LineDraft). source_mentions d.source) drafts

-- what a body says as the two sides of a line: `$false` has the variable 0 on both, and is positive
abbrev pub ResolvesBody : BodyDraft → Sides → Type 0
ResolvesBody (body.Sides positive left right) sides = (sides.positive ≡ positive) × (sides.left ≡ left) × (sides.right ≡ right)
ResolvesBody body.Falsum sides = (sides.positive ≡ true) × (sides.left ≡ var 0) × (sides.right ≡ var 0)

-- Among lines of these names.
module _ (bytes : List ℕ) (tokens : List Token) (names : List (List ℕ)) where
  pub record ResolvesStep (draft : StepDraft) (step : LineStep) : Type 0 where
    pub by : IsNamed bytes tokens names draft.by step.by
    pub way : step.left_to_right ≡ draft.left_to_right
    pub path : step.path ≡ draft.path
    pub to : step.to ≡ draft.to

  pub data ResolveSteps : List StepDraft → List LineStep → Type 0 where
    no_step_left : ResolveSteps [] []
    step_resolved : {draft : StepDraft} {drafts : List StepDraft} {step : LineStep} {steps : List LineStep} → ResolvesStep draft step → ResolveSteps drafts steps → ResolveSteps (draft ∷ drafts) (step ∷ steps)

  abbrev pub ResolvesSource : SourceDraft → LineSource → Type 0
  ResolvesSource (source.File name) (numbered.File same) = same ≡ name
  ResolvesSource (source.Chain start drafts ks) (numbered.Chain same steps parents) = (same ≡ start) × ResolveSteps drafts steps × AreNamed bytes tokens names ks parents
  ResolvesSource (source.Reflexive ks) (numbered.Reflexive parents) = AreNamed bytes tokens names ks parents
  ResolvesSource (source.EncodeGoal ks) (numbered.EncodeGoal parents) = AreNamed bytes tokens names ks parents
  ResolvesSource (source.Refute ks) (numbered.Refute parents) = AreNamed bytes tokens names ks parents
  ResolvesSource _ _ = ⊥

  pub record ResolvesLine (draft : LineDraft) (line : Line) : Type 0 where
    pub name : line.name ≡ bytes_at bytes tokens draft.name
    pub body : ResolvesBody draft.body (record { positive = line.positive; left = line.left; right = line.right })
    pub source : ResolvesSource draft.source line.source

  pub data ResolveLines : List LineDraft → List Line → Type 0 where
    no_line_left : ResolveLines [] []
    line_resolved : {draft : LineDraft} {drafts : List LineDraft} {line : Line} {lines : List Line} → ResolvesLine draft line → ResolveLines drafts lines → ResolveLines (draft ∷ drafts) (line ∷ lines)

  -- the first of these tokens that names no line is this one, or memory is wanted
  abbrev pub Lacks : List ℕ → Unresolved → Type 0
  Lacks ks (Unknown k) = first_unknown bytes tokens names ks ≡ Some k
  Lacks ks NoMemory = Unit {0}
