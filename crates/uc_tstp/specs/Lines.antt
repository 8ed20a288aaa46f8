-- Which tokens read as the lines of a proof, and where the others stop:
--
--   line    = cnf ( Lower , role , body , source ) .
--   role    = Lower
--   body    = term = term | term != term | $false
--   source  = file ( functor , name )
--           | inference ( chain , [ term { , step } ] , parents )
--           | inference ( encode , [ reflexive ] , parents )
--           | inference ( encode , [ goal ] , parents )
--           | inference ( refute , [ ] , parents )
--   step    = step ( Lower , lr , path , term ) | step ( Lower , rl , path , term )
--   path    = [ ] | [ Integer { , Integer } ]
--   parents = [ ] | [ Lower { , Lower } ]
--
-- A path's integers are 1 to 255 without a sign. A file line says an equation or its denial, a chain or encode line an
-- equation, and a refute line `$false`; another body stops at its first token once the source's kind is read. A line's name
-- is none that an earlier line has. A derivation has no refute line: it stops at the first token of one.
use Rattle.std.specs.Prelude.{ℕ, ◌≡◌, ◌≢◌, ◌+◌, ◌*◌, ◌-◌, ◌&&◌, Bool, true, false, List, [], ◌∷◌, codes, bytes_eq, nat_le, Option, Some, None, if◌then◌else◌}
use Rattle.std.specs.List.{list_any, list_all}
use Rattle.uc_clause.specs.declared.token.Token.{Token}
use Rattle.uc_clause.specs.declared.terminal.Terminal.{Terminal}
use Rattle.uc_clause.specs.declared.terminal.Terminal.TheVariants.{Lower, Quoted, Integer, Dollar, Open, Close, OpenSquare, CloseSquare, Comma, Dot, End}
use Rattle.uc_clause.specs.declared.grammar.stop.Why.{Why}
use Rattle.uc_clause.specs.declared.grammar.stop.Why.TheVariants.{NoToken, NoRule, Repeated}
use Rattle.uc_clause.specs.Bytes.{is_digit}
use Rattle.uc_clause.specs.Terminals.{terminal_at, bytes_at}
use Rattle.uc_clause.specs.Rules.{Outcome, read, stop, Rule, mapped, ◌>>=◌, gives, here, pick, the, Choice}
use Rattle.uc_clause.specs.Parse.{Literal}
use Rattle.uc_clause.specs.Items as items
use Rattle.uc_tstp.specs.declared.words.Inference.{Inference}
use Rattle.uc_tstp.specs.declared.words.Inference.TheVariants.{Chain, Encode, Refute}
use Rattle.uc_tstp.specs.declared.scope.Scope.{Scope}
use Rattle.uc_tstp.specs.declared.scope.Scope.TheVariants as scope
use Rattle.uc_tstp.specs.Parse.{Body, says, falsum, StepHead, Step, Source, from_file, by_chain, by_reflexive, by_goal, by_refute, Line}

-- the number of a Lower
abbrev pub lower_by : Terminal → ℕ → Option ℕ
lower_by Lower at = Some at
lower_by other at = None

-- the number of a functor: a Lower or a Quoted
abbrev pub functor_by : Terminal → ℕ → Option ℕ
functor_by Lower at = Some at
functor_by Quoted at = Some at
functor_by other at = None

-- this very word, as a Lower
abbrev pub is_word : List ℕ → Terminal → List ℕ → Bool
is_word word Lower bytes = bytes_eq bytes word
is_word word other bytes = false

-- the number from 1 to 255 that these decimal digits are behind those of a number
abbrev pub value_from : ℕ → List ℕ → ℕ
value_from n [] = n
value_from n (b ∷ bs) = value_from (n * 10 + (b - 48)) bs

abbrev pub path_number : ℕ → List ℕ → Option ℕ
path_number n bs = if list_all is_digit bs && (nat_le 1 (value_from n bs) && nat_le (value_from n bs) 255) then Some (value_from n bs) else None

-- a number of a path: an Integer from 1 to 255 without a sign
abbrev pub number_by : Terminal → List ℕ → Option ℕ
number_by Integer bytes = path_number 0 bytes
number_by other bytes = None

-- the way of a step: lr or rl
abbrev pub way_of : List ℕ → Option Bool
way_of bytes = if bytes_eq bytes (codes "lr") then Some true else (if bytes_eq bytes (codes "rl") then Some false else None)

abbrev pub way_by : Terminal → List ℕ → Option Bool
way_by Lower bytes = way_of bytes
way_by other bytes = None

-- the inference rules by their names
abbrev pub rule_of : List ℕ → Option Inference
rule_of bytes = if bytes_eq bytes (codes "chain") then Some Chain else (if bytes_eq bytes (codes "encode") then Some Encode else (if bytes_eq bytes (codes "refute") then Some Refute else None))

-- what an encode line is of: the reflexivity, or a goal
abbrev pub of_goal_of : List ℕ → Option Bool
of_goal_of bytes = if bytes_eq bytes (codes "reflexive") then Some false else (if bytes_eq bytes (codes "goal") then Some true else None)

abbrev pub of_goal_by : Terminal → List ℕ → Option Bool
of_goal_by Lower bytes = of_goal_of bytes
of_goal_by other bytes = None

abbrev pub is_falsum : Terminal → List ℕ → Bool
is_falsum Dollar bytes = bytes_eq bytes (codes "$false")
is_falsum other bytes = false

-- the bodies that a file line may have
abbrev pub fits_file : Body → Bool
fits_file (says l) = true
fits_file falsum = false

-- and those that a line of an inference rule may have
abbrev pub fits_rule : Inference → Body → Bool
fits_rule Chain (says l) = l.positive
fits_rule Encode (says l) = l.positive
fits_rule Refute (says l) = false
fits_rule Chain falsum = false
fits_rule Encode falsum = false
fits_rule Refute falsum = true

-- the sources of which lines may be: of a proof all, of a derivation all but a refutation
abbrev pub belongs : Scope → Source → Bool
belongs scope.Proof s = true
belongs scope.Derivation (from_file name) = true
belongs scope.Derivation (by_chain start steps parents) = true
belongs scope.Derivation (by_reflexive parents) = true
belongs scope.Derivation (by_goal parents) = true
belongs scope.Derivation (by_refute parents) = false

-- the body is one that may stand here, or reading stops at its first token
abbrev pub body_fits : Bool → ℕ → Rule (Unit {0})
body_fits true first at outcome = outcome ≡ read tt at
body_fits false first at outcome = outcome ≡ stop NoToken first

module _ (bytes : List ℕ) (tokens : List Token) where
  abbrev pub token : Terminal → Rule (Unit {0})
  token terminal = the bytes tokens terminal NoToken

  abbrev pub word_at : List ℕ → ℕ → Bool
  word_at w at = is_word w (terminal_at bytes tokens at) (bytes_at bytes tokens at)

  abbrev pub word : List ℕ → Rule (Unit {0})
  word w at (read v end) = (word_at w at ≡ true) × (end ≡ at + 1)
  word w at (stop why k) = (word_at w at ≡ false) × (why ≡ NoToken) × (k ≡ at)

  abbrev pub lower : Rule ℕ
  lower at = pick NoToken (lower_by (terminal_at bytes tokens at) at) at

  abbrev pub functor : Rule ℕ
  functor at = pick NoToken (functor_by (terminal_at bytes tokens at) at) at

  abbrev pub number : Rule ℕ
  number at = pick NoToken (number_by (terminal_at bytes tokens at) (bytes_at bytes tokens at)) at

  abbrev pub way : Rule Bool
  way at = pick NoToken (way_by (terminal_at bytes tokens at) (bytes_at bytes tokens at)) at

  abbrev pub of_goal : Rule Bool
  of_goal at = pick NoToken (of_goal_by (terminal_at bytes tokens at) (bytes_at bytes tokens at)) at

  -- the name of an inference rule: another Lower is no rule, another token isn't called for
  pub data RuleWord (at : ℕ) : Outcome Inference → Type 0 where
    is_rule : {r : Inference} → terminal_at bytes tokens at ≡ Lower → rule_of (bytes_at bytes tokens at) ≡ Some r → RuleWord at (read r (at + 1))
    is_no_rule : terminal_at bytes tokens at ≡ Lower → rule_of (bytes_at bytes tokens at) ≡ None → RuleWord at (stop NoRule at)
    is_no_word : terminal_at bytes tokens at ≢ Lower → RuleWord at (stop NoToken at)

  abbrev pub rule_word : Rule Inference
  rule_word at outcome = RuleWord at outcome

  -- the name of a line, which none of the earlier lines has
  pub data LineName (earlier : List (List ℕ)) (at : ℕ) : Outcome ℕ → Type 0 where
    is_new : terminal_at bytes tokens at ≡ Lower → list_any (bytes_eq (bytes_at bytes tokens at)) earlier ≡ false → LineName earlier at (read at (at + 1))
    is_repeated : terminal_at bytes tokens at ≡ Lower → list_any (bytes_eq (bytes_at bytes tokens at)) earlier ≡ true → LineName earlier at (stop Repeated at)
    is_no_line_name : terminal_at bytes tokens at ≢ Lower → LineName earlier at (stop NoToken at)

  abbrev pub line_name : List (List ℕ) → Rule ℕ
  line_name earlier at outcome = LineName earlier at outcome

  abbrev pub falsum_at : ℕ → Bool
  falsum_at at = is_falsum (terminal_at bytes tokens at) (bytes_at bytes tokens at)

  pub data BodyAt (at : ℕ) : Outcome Body → Type 0 where
    is_false : falsum_at at ≡ true → BodyAt at (read falsum (at + 1))
    is_equation : {outcome : Outcome Literal} → falsum_at at ≡ false → items.equation bytes tokens at outcome → BodyAt at (mapped says outcome)

  abbrev pub body : Rule Body
  body at outcome = BodyAt at outcome

  -- members of one sort up to the closing square bracket, with commas between
  module _ {V : Type 0} (member : Rule V) where
    pub data Members : ℕ → Outcome (List V) → Type 0 where
      stops_in_member : {at k : ℕ} {why : Why} → member at (stop why k) → Members at (stop why k)
      is_last_member : {at end : ℕ} {v : V} → member at (read v end) → terminal_at bytes tokens end ≡ CloseSquare → Members at (read (v ∷ []) (end + 1))
      is_member : {at end : ℕ} {v : V} {outcome : Outcome (List V)} → member at (read v end) → terminal_at bytes tokens end ≡ Comma → Members (end + 1) outcome → Members at (mapped (λ vs. v ∷ vs) outcome)
      stops_behind_member : {at end : ℕ} {v : V} → member at (read v end) → terminal_at bytes tokens end ≢ CloseSquare → terminal_at bytes tokens end ≢ Comma → Members at (stop NoToken end)

    abbrev pub members : Rule (List V)
    members at outcome = Members at outcome

    abbrev pub no_members : Rule (List V)
    no_members = do
      _ ← token CloseSquare
      gives []

    -- [ ], or [ member { , member } ]
    abbrev pub list : Rule (List V)
    list = do
      _ ← token OpenSquare
      Choice bytes tokens CloseSquare no_members members

  abbrev pub path : Rule (List ℕ)
  path = list number

  abbrev pub parents : Rule (List ℕ)
  parents = list lower

  -- what stands before the term of a step
  abbrev pub step_head : Rule StepHead
  step_head = do
    _ ← word (codes "step")
    _ ← token Open
    by ← lower
    _ ← token Comma
    left_to_right ← way
    _ ← token Comma
    path ← path
    _ ← token Comma
    gives (record { by = by; left_to_right = left_to_right; path = path })

  abbrev pub step : Rule Step
  step = do
    head ← step_head
    to ← items.term bytes tokens
    _ ← token Close
    gives (record { by = head.by; left_to_right = head.left_to_right; path = head.path; to = to })

  -- the steps behind the first term of a chain, up to the closing square bracket
  abbrev pub more_steps : Rule (List Step)
  more_steps = do
    _ ← token Comma
    members step

  abbrev pub steps : Rule (List Step)
  steps = Choice bytes tokens CloseSquare (no_members step) more_steps

  -- what stands behind the square brackets of an inference: its parents
  abbrev pub rest_of_inference : Rule (List ℕ)
  rest_of_inference = do
    _ ← token Comma
    parents ← parents
    _ ← token Close
    gives parents

  -- what stands in the square brackets of a chain, and behind them
  abbrev pub chain_source : Rule Source
  chain_source = do
    start ← items.term bytes tokens
    steps ← steps
    parents ← rest_of_inference
    gives (by_chain start steps parents)

  abbrev pub encode_source : Rule Source
  encode_source = do
    goal ← of_goal
    _ ← token CloseSquare
    parents ← rest_of_inference
    gives (if goal then by_goal parents else by_reflexive parents)

  abbrev pub refute_source : Rule Source
  refute_source = do
    _ ← token CloseSquare
    parents ← rest_of_inference
    gives (by_refute parents)

  abbrev pub source_of_rule : Inference → Rule Source
  source_of_rule Chain = chain_source
  source_of_rule Encode = encode_source
  source_of_rule Refute = refute_source

  abbrev pub file_source : Body → ℕ → Rule Source
  file_source b first = do
    _ ← word (codes "file")
    _ ← body_fits (fits_file b) first
    _ ← token Open
    _ ← functor
    _ ← token Comma
    name ← items.name bytes tokens
    _ ← token Close
    gives (from_file name)

  abbrev pub inference_source : Body → ℕ → Rule Source
  inference_source b first = do
    _ ← word (codes "inference")
    _ ← token Open
    rule ← rule_word
    _ ← body_fits (fits_rule rule b) first
    _ ← token Comma
    _ ← token OpenSquare
    source_of_rule rule

  -- a source, by its first word
  pub data SourceAt (b : Body) (first : ℕ) (at : ℕ) (outcome : Outcome Source) : Type 0 where
    is_from_file : word_at (codes "file") at ≡ true → file_source b first at outcome → SourceAt b first at outcome
    is_inferred : word_at (codes "file") at ≡ false → inference_source b first at outcome → SourceAt b first at outcome

  abbrev pub source : Body → ℕ → Rule Source
  source b first at outcome = SourceAt b first at outcome

  -- what stands behind the role of the line of this name
  abbrev pub rest_of_line : ℕ → Rule Line
  rest_of_line name = do
    first ← here
    body ← body
    _ ← token Comma
    source ← source body first
    _ ← token Close
    _ ← token Dot
    gives (record { name = name; body = body; source = source })

  -- a line, behind lines of these names
  abbrev pub line : List (List ℕ) → Rule Line
  line earlier = do
    _ ← word (codes "cnf")
    _ ← token Open
    name ← line_name earlier
    _ ← token Comma
    _ ← lower
    _ ← token Comma
    rest_of_line name

  -- lines up to the end of the tokens, behind lines of these names
  pub data LinesAt (which : Scope) : List (List ℕ) → ℕ → Outcome (List Line) → Type 0 where
    is_no_line : {earlier : List (List ℕ)} {at : ℕ} → terminal_at bytes tokens at ≡ End → LinesAt which earlier at (read [] at)
    has_line : {earlier : List (List ℕ)} {at middle : ℕ} {l : Line} {outcome : Outcome (List Line)} → terminal_at bytes tokens at ≢ End → line earlier at (read l middle) → belongs which l.source ≡ true → LinesAt which (bytes_at bytes tokens l.name ∷ earlier) middle outcome → LinesAt which earlier at (mapped (λ ls. l ∷ ls) outcome)
    has_foreign_line : {earlier : List (List ℕ)} {at middle : ℕ} {l : Line} → terminal_at bytes tokens at ≢ End → line earlier at (read l middle) → belongs which l.source ≡ false → LinesAt which earlier at (stop NoToken at)
    stops_in_line : {earlier : List (List ℕ)} {at k : ℕ} {why : Why} → terminal_at bytes tokens at ≢ End → line earlier at (stop why k) → LinesAt which earlier at (stop why k)
