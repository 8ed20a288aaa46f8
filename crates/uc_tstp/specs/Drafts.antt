-- What the readers of a proof's parts answer.
use Rattle.std.specs.Prelude.{ℕ, ◌≡◌, ◌≢◌, Bool, true, false, List, [], ◌∷◌, if◌then◌else◌}
use Rattle.uc_term.specs.Table.{Table}
use Rattle.uc_clause.specs.declared.token.Token.{Token}
use Rattle.uc_clause.specs.declared.terminal.Terminal.TheVariants.{Comma, CloseSquare}
use Rattle.uc_clause.specs.declared.grammar.stop.Why.TheVariants.{NoToken}
use Rattle.uc_clause.specs.declared.grammar.stop.Stop.{Stop}
use Rattle.uc_clause.specs.declared.grammar.stop.Stop.TheVariants.{At}
use Rattle.uc_clause.specs.Terminals.{terminal_at}
use Rattle.uc_clause.specs.Rules.{read}
use Rattle.uc_clause.specs.Meaning.{Variables, with_names, Means, IsName}
use Rattle.uc_tstp.specs.declared.scope.Scope.{Scope}
use Rattle.uc_tstp.specs.declared.scope.Scope.TheVariants as scope
use Rattle.uc_tstp.specs.declared.drafts.StepDraft.{StepDraft}
use Rattle.uc_tstp.specs.declared.drafts.SourceDraft.{SourceDraft}
use Rattle.uc_tstp.specs.declared.drafts.SourceDraft.TheVariants as source
use Rattle.uc_tstp.specs.declared.drafts.BodyDraft.{BodyDraft}
use Rattle.uc_tstp.specs.declared.drafts.BodyDraft.TheVariants as body
use Rattle.uc_tstp.specs.declared.drafts.LineDraft.{LineDraft}
use Rattle.uc_tstp.specs.declared.drafts.Sort.{Sort}
use Rattle.uc_tstp.specs.declared.drafts.Sort.TheVariants as sort
use Rattle.uc_tstp.specs.Parse as parse
use Rattle.uc_tstp.specs.Lines as lines
use Rattle.uc_tstp.specs.Meaning.{names_of, variables_of, body_variables, source_variables}
use Rattle.uc_tstp.specs.Interning.{with_body, with_source, with_line, with_lines}

module _ (bytes : List ℕ) (tokens : List Token) (at : ℕ) where
  -- a comma stands here, or the closing square bracket
  abbrev pub IsNext : Bool → Type 0
  IsNext true = terminal_at bytes tokens at ≡ Comma
  IsNext false = terminal_at bytes tokens at ≡ CloseSquare

  -- neither stands here
  pub record NoNext (e : Stop) : Type 0 where
    pub is : e ≡ At NoToken at
    pub no_end : terminal_at bytes tokens at ≢ CloseSquare
    pub no_comma : terminal_at bytes tokens at ≢ Comma

-- What the drafts of a line say: what its parse says, but that lines are named by tokens.
module _ (bytes : List ℕ) (tokens : List Token) (table : Table) (seen : Variables) where
  pub record SaysStep (s : parse.Step) (draft : StepDraft) : Type 0 where
    pub by : draft.by ≡ s.by
    pub way : draft.left_to_right ≡ s.left_to_right
    pub path : draft.path ≡ s.path
    pub to : Means bytes tokens table seen s.to draft.to

  pub data SaySteps : List parse.Step → List StepDraft → Type 0 where
    say_nothing : SaySteps [] []
    say_more : {s : parse.Step} {ss : List parse.Step} {draft : StepDraft} {drafts : List StepDraft} → SaysStep s draft → SaySteps ss drafts → SaySteps (s ∷ ss) (draft ∷ drafts)

  abbrev pub SaysSource : parse.Source → SourceDraft → Type 0
  SaysSource (parse.from_file k) (source.File name) = IsName bytes tokens k name
  SaysSource (parse.by_chain p ss ks) (source.Chain start steps parents) = Means bytes tokens table seen p start × SaySteps ss steps × (parents ≡ ks)
  SaysSource (parse.by_reflexive ks) (source.Reflexive parents) = parents ≡ ks
  SaysSource (parse.by_goal ks) (source.EncodeGoal parents) = parents ≡ ks
  SaysSource (parse.by_refute ks) (source.Refute parents) = parents ≡ ks
  SaysSource _ _ = ⊥

  abbrev pub SaysBody : parse.Body → BodyDraft → Type 0
  SaysBody (parse.says l) (body.Sides positive left right) = (positive ≡ l.positive) × Means bytes tokens table seen l.sides.left left × Means bytes tokens table seen l.sides.right right
  SaysBody parse.falsum body.Falsum = Unit {0}
  SaysBody _ _ = ⊥

-- the sources of which lines may be
abbrev pub belongs_draft : Scope → SourceDraft → Bool
belongs_draft scope.Proof d = true
belongs_draft scope.Derivation (source.File name) = true
belongs_draft scope.Derivation (source.Chain start steps parents) = true
belongs_draft scope.Derivation (source.Reflexive parents) = true
belongs_draft scope.Derivation (source.EncodeGoal parents) = true
belongs_draft scope.Derivation (source.Refute parents) = false

-- what a body is to the sources that may stand behind it
abbrev pub sort_of : parse.Body → Sort
sort_of (parse.says l) = if l.positive then sort.Equation else sort.Denial
sort_of parse.falsum = sort.Falsum

abbrev pub sort_of_draft : BodyDraft → Sort
sort_of_draft (body.Sides positive left right) = if positive then sort.Equation else sort.Denial
sort_of_draft body.Falsum = sort.Falsum

module _ (bytes : List ℕ) (tokens : List Token) where
  -- from a token on a body is read, up to another token, with the names of its variables put behind those seen so far, and with
  -- its symbols in the table that it makes of the old one
  pub record ReadsBodyAt (from end : ℕ) (seen more_seen : Variables) (old table : Table) (draft : BodyDraft) : Type 0 where
    pub body : parse.Body
    pub reads : lines.body bytes tokens from (read body end)
    pub seen_is : more_seen ≡ with_names seen (body_variables bytes tokens body)
    pub table_is : table ≡ with_body bytes tokens old body
    pub says : SaysBody bytes tokens table more_seen body draft

  -- from a token on a source is read, up to another token, behind a body of this sort that begins at its first token
  pub record ReadsSourceAt (b : parse.Body) (first from end : ℕ) (seen more_seen : Variables) (old table : Table) (draft : SourceDraft) : Type 0 where
    pub source : parse.Source
    pub reads : lines.source bytes tokens b first from (read source end)
    pub seen_is : more_seen ≡ with_names seen (source_variables bytes tokens source)
    pub table_is : table ≡ with_source bytes tokens old source
    pub says : SaysSource bytes tokens table more_seen source draft

module _ (bytes : List ℕ) (tokens : List Token) where
  -- a line's draft says its parse, with the variables of body and source numbered together
  pub record SaysLine (table : Table) (l : parse.Line) (draft : LineDraft) : Type 0 where
    pub name : draft.name ≡ l.name
    pub body : SaysBody bytes tokens table (variables_of bytes tokens l) l.body draft.body
    pub source : SaysSource bytes tokens table (variables_of bytes tokens l) l.source draft.source

  pub data SayLines (table : Table) : List parse.Line → List LineDraft → Type 0 where
    say_no_line : SayLines table [] []
    say_line : {l : parse.Line} {ls : List parse.Line} {draft : LineDraft} {drafts : List LineDraft} → SaysLine table l draft → SayLines table ls drafts → SayLines table (l ∷ ls) (draft ∷ drafts)

  -- behind lines of these names a line is read from a token on, up to another token
  pub record ReadsLineAt (earlier : List (List ℕ)) (from end : ℕ) (old table : Table) (draft : LineDraft) : Type 0 where
    pub line : parse.Line
    pub reads : lines.line bytes tokens earlier from (read line end)
    pub says : SaysLine table line draft
    pub table_is : table ≡ with_line bytes tokens old line

  -- from the first token to the last all is lines, of these names
  pub record AreLines (which : Scope) (old table : Table) (names : List (List ℕ)) (drafts : List LineDraft) : Type 0 where
    pub parses : List parse.Line
    pub end : ℕ
    pub reads : lines.LinesAt bytes tokens which [] 0 (read parses end)
    pub names_are : names ≡ names_of bytes tokens parses
    pub say : SayLines table parses drafts
    pub table_is : table ≡ with_lines bytes tokens old parses
