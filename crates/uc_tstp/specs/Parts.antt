-- What the readers of the parts of lines answer.
use Rattle.std.specs.Prelude.{ℕ, ◌≡◌, List, [], ◌∷◌, ◌++◌, true}
use Rattle.std.specs.List.{flat_map}
use Rattle.uc_term.specs.Table.{Table}
use Rattle.uc_clause.specs.declared.token.Token.{Token}
use Rattle.uc_clause.specs.declared.terminal.Terminal.TheVariants.{Close, Comma, Dot}
use Rattle.uc_clause.specs.Terminals.{bytes_at}
use Rattle.uc_clause.specs.Rules.{Outcome, read, mapped, Rule, ◌>>=◌, gives}
use Rattle.uc_clause.specs.Meaning.{Variables, with_names, variables_in}
use Rattle.uc_tstp.specs.declared.drafts.StepDraft.{StepDraft}
use Rattle.uc_tstp.specs.declared.drafts.SourceDraft.{SourceDraft}
use Rattle.uc_tstp.specs.declared.drafts.LineDraft.{LineDraft}
use Rattle.uc_tstp.specs.declared.scope.Scope.{Scope}
use Rattle.uc_tstp.specs.Parse as parse
use Rattle.uc_tstp.specs.Lines as lines
use Rattle.uc_tstp.specs.Meaning.{source_variables}
use Rattle.uc_tstp.specs.Drafts.{SaysStep, SaySteps, SaysSource, SaysLine, ReadsLineAt, belongs_draft}
use Rattle.uc_clause.specs.Interning.{with_term}
use Rattle.uc_tstp.specs.Interning.{with_steps, with_source, with_line}

module _ (bytes : List ℕ) (tokens : List Token) where
  -- the names of the variables of steps, from left to right
  abbrev pub step_variables : List parse.Step → List (List ℕ)
  step_variables steps = flat_map (λ (s : parse.Step). variables_in bytes tokens s.to) steps

  -- from a token on a step is read, up to another token, with the names of its variables put behind those seen so far, and with
  -- its symbols in the table that it makes of the old one
  pub record ReadsStepAt (from end : ℕ) (seen more_seen : Variables) (old table : Table) (draft : StepDraft) : Type 0 where
    pub step : parse.Step
    pub reads : lines.step bytes tokens from (read step end)
    pub seen_is : more_seen ≡ with_names seen (variables_in bytes tokens step.to)
    pub table_is : table ≡ with_term bytes tokens old step.to
    pub says : SaysStep bytes tokens table more_seen step draft

  -- from a token on the rule reads steps, up to another token
  pub record ReadsStepsBy (rule : Rule (List parse.Step)) (from end : ℕ) (seen more_seen : Variables) (old table : Table) (drafts : List StepDraft) : Type 0 where
    pub steps : List parse.Step
    pub reads : rule from (read steps end)
    pub seen_is : more_seen ≡ with_names seen (step_variables steps)
    pub table_is : table ≡ with_steps bytes tokens old steps
    pub says : SaySteps bytes tokens table more_seen steps drafts

  -- from a token on the rule reads a source, up to another token
  pub record ReadsSourceBy (rule : Rule parse.Source) (from end : ℕ) (seen more_seen : Variables) (old table : Table) (draft : SourceDraft) : Type 0 where
    pub source : parse.Source
    pub reads : rule from (read source end)
    pub seen_is : more_seen ≡ with_names seen (source_variables bytes tokens source)
    pub table_is : table ≡ with_source bytes tokens old source
    pub says : SaysSource bytes tokens table more_seen source draft

  -- what stands behind the body of a line, up to the end of its source
  abbrev pub comma_source : parse.Body → ℕ → Rule parse.Source
  comma_source body first = do
    _ ← lines.token bytes tokens Comma
    lines.source bytes tokens body first

  -- what stands behind the source of a line
  abbrev pub line_end : Rule (Unit {0})
  line_end = do
    _ ← lines.token bytes tokens Close
    _ ← lines.token bytes tokens Dot
    gives tt

  -- from a token on the body and the source of the line of this name are read, up to another token: with what the line's end
  -- comes to all behind its role does
  pub record ReadsContentsAt (name from end : ℕ) (old table : Table) (draft : LineDraft) : Type 0 where
    pub line : parse.Line
    pub leads : (outcome : Outcome (Unit {0})) → line_end end outcome → lines.rest_of_line bytes tokens name from (mapped (λ _. line) outcome)
    pub named : draft.name ≡ name
    pub says : SaysLine bytes tokens table line draft
    pub table_is : table ≡ with_line bytes tokens old line

  -- behind these lines one more is read from a token on, up to another token
  pub record TakesLine (which : Scope) (from end : ℕ) (old table : Table) (names : List (List ℕ)) (drafts : List LineDraft) (more_names : List (List ℕ)) (more_drafts : List LineDraft) : Type 0 where
    pub draft : LineDraft
    pub reads : ReadsLineAt bytes tokens names from end old table draft
    pub belongs : belongs_draft which draft.source ≡ true
    pub names_are : more_names ≡ names ++ bytes_at bytes tokens draft.name ∷ []
    pub drafts_are : more_drafts ≡ drafts ++ draft ∷ []
