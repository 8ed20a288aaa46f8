-- Which tokens read as formulas, and where the others stop:
--
--   file    = { item | fof }
--   fof     = fof ( name , frole , formula [ , note [ , note ] ] ) .
--   frole   = conjecture | role
--   formula = ( formula ) | ! [ Upper { , Upper } ] : formula | literal
--
-- Each variable of the literal is bound. Items, names, roles, notes and literals are those of clauses; a conjecture's literal
-- is an equation. The reasons to stop tell apart what stands outside a formula and what stands inside that of a conjecture or
-- of another item; a form of the language that isn't read here stops where it begins.
use Rattle.std.specs.Prelude.{◌≡◌, ◌≢◌, ℕ, ◌+◌, ◌<◌, ◌≤◌, Bool, true, false, List, [], ◌∷◌, map, Option, Some, None, codes, bytes_eq, if◌then◌else◌}
use Rattle.uc_clause.specs.declared.token.Token.{Token}
use Rattle.uc_clause.specs.declared.clause.Role.{Role}
use Rattle.uc_clause.specs.declared.terminal.Terminal.{Terminal}
use Rattle.uc_clause.specs.declared.terminal.Terminal.TheVariants.{Lower, Upper, Open, Close, OpenSquare, CloseSquare, Comma, Dot, Equal, Tilde, End}
use Rattle.uc_clause.specs.declared.grammar.stop.Why.{Why}
use Rattle.uc_clause.specs.declared.grammar.stop.Why.TheVariants.{NoItem, NoRole, NoSign, NoEnd, NoToken, Parentheses}
use Rattle.uc_clause.specs.Terminals.{terminal_at, bytes_at}
use Rattle.uc_clause.specs.Items as items
use Rattle.uc_clause.specs.Parse.{Parse, Sides, Literal}
use Rattle.uc_clause.specs.Meaning.{Variables, with_names}
use Rattle.uc_fof.specs.declared.stop.Reason.{Reason}
use Rattle.uc_fof.specs.declared.stop.Reason.TheVariants.{Outside, Inside, Unread, Connective}
use Rattle.uc_fof.specs.declared.heading.FormulaHeading.{FormulaHeading}
use Rattle.uc_fof.specs.declared.heading.FormulaRole.{FormulaRole}
use Rattle.uc_fof.specs.declared.heading.FormulaRole.TheVariants.{Conjecture, OfClause}
use Rattle.uc_fof.specs.Rules.{Outcome, read, stop, Rule, mapped, ◌>>=◌, gives, here, pick, stops, the, Choice, AsIn}
use Rattle.uc_fof.specs.Parse.{Stated, Entry, item, stated}
use Rattle.uc_fof.specs.Terms.{Term}
use Rattle.uc_fof.specs.Notes.{first_note}

-- the marks that formulas have beside those of clauses: ! ? : >
abbrev pub bang : ℕ
bang = 33

abbrev pub question : ℕ
question = 63

abbrev pub colon : ℕ
colon = 58

abbrev pub greater : ℕ
greater = 62

-- the role of a formula that a word is: `conjecture`, or one of the nine of clauses
abbrev pub as_role : Option Role → Option FormulaRole
as_role (Some role) = Some (OfClause role)
as_role None = None

abbrev pub role_of : List ℕ → Option FormulaRole
role_of word = if bytes_eq word (codes "conjecture") then Some Conjecture else as_role (items.role_of word)

-- a role is a Lower
abbrev pub role_by : Terminal → List ℕ → Option FormulaRole
role_by Lower word = role_of word
role_by other word = None

abbrev pub is_conjecture : FormulaRole → Bool
is_conjecture Conjecture = true
is_conjecture (OfClause role) = false

-- the sign of the literal, which is `=` in a conjecture: whether it is `=`, or `!=`
abbrev pub sign_by : Bool → Terminal → Option Bool
sign_by true Equal = Some true
sign_by true other = None
sign_by false terminal = items.sign_of terminal

-- whether a denial begins at this token: a conjecture is none
abbrev pub denies : Bool → Terminal → Bool
denies false Tilde = true
denies conjecture terminal = false

-- a variable of a quantifier is an Upper
abbrev pub upper_by : Terminal → ℕ → Option ℕ
upper_by Upper at = Some at
upper_by other at = None

-- whether the item of a formula begins at this token
abbrev pub is_formula : Terminal → List ℕ → Bool
is_formula Lower word = bytes_eq word (codes "fof")
is_formula other word = false

module _ (bytes : List ℕ) (tokens : List Token) where
  -- this stands at the token
  abbrev pub stands : Terminal → ℕ → Type 0
  stands terminal at = terminal_at bytes tokens at ≡ terminal

  -- the token is this mark
  abbrev pub is_mark : ℕ → ℕ → Type 0
  is_mark mark at = bytes_at bytes tokens at ≡ mark ∷ []

  -- inside the formula of a conjecture or of another item, with these variables bound
  module _ (conjecture : Bool) where
    -- this very token, whose value is nothing
    abbrev pub token : Terminal → Why → Rule (Unit {0})
    token terminal why = the (stands terminal) (Inside conjecture why)

    module _ (bound : Variables) where
      abbrev pub term : Rule Parse
      term at outcome = Term bytes tokens conjecture bound 0 at outcome

      -- the right side behind `=`; `=>` is a connective
      abbrev pub right_side : Rule Parse
      right_side = Choice (is_mark greater) (stops Connective) term

      -- the right side behind this sign
      abbrev pub side_behind : Bool → Rule Parse
      side_behind true = right_side
      side_behind false = term

      -- the sign behind the term that begins at `first`
      abbrev pub sign : ℕ → Rule Bool
      sign first at = pick (Inside conjecture (NoSign first)) (sign_by conjecture (terminal_at bytes tokens at)) at

      -- term = term, or term != term
      abbrev pub equation : Rule Literal
      equation = do
        first ← here
        left ← term
        positive ← sign first
        right ← side_behind positive
        gives (record { positive = positive; sides = record { left = left; right = right } })

      -- term = term
      abbrev pub equals : Rule Sides
      equals = do
        first ← here
        left ← term
        _ ← token Equal (NoSign first)
        right ← right_side
        gives (record { left = left; right = right })

      -- ( term = term )
      abbrev pub equals_in_brackets : Rule Sides
      equals_in_brackets = do
        _ ← token Open NoToken
        sides ← equals
        _ ← token Close NoToken
        gives sides

      -- what `~` denies; a quantifier is none that is read
      abbrev pub denied : Rule Sides
      denied = Choice (is_mark bang) (stops Unread) (Choice (stands Open) equals_in_brackets equals)

      -- ~ term = term, or ~ ( term = term )
      abbrev pub denial : Rule Literal
      denial = do
        _ ← token Tilde NoToken
        sides ← denied
        gives (record { positive = false; sides = sides })

      abbrev pub literal : Rule Literal
      literal = Choice (λ at. denies conjecture (terminal_at bytes tokens at) ≡ true) denial equation

    abbrev pub upper : Rule ℕ
    upper at = pick (Inside conjecture NoToken) (upper_by (terminal_at bytes tokens at) at) at

    -- Upper { , Upper } ]
    pub data Uppers : ℕ → Outcome (List ℕ) → Type 0 where
      stops_in_upper : {at k : ℕ} {reason : Reason} → upper at (stop reason k) → Uppers at (stop reason k)
      is_last_upper : {at end n : ℕ} → upper at (read n end) → terminal_at bytes tokens end ≡ CloseSquare → Uppers at (read (n ∷ []) (end + 1))
      is_upper : {at end n : ℕ} {outcome : Outcome (List ℕ)} → upper at (read n end) → terminal_at bytes tokens end ≡ Comma → Uppers (end + 1) outcome → Uppers at (mapped (λ ns. n ∷ ns) outcome)
      stops_behind_upper : {at end n : ℕ} → upper at (read n end) → terminal_at bytes tokens end ≢ CloseSquare → terminal_at bytes tokens end ≢ Comma → Uppers at (stop (Inside conjecture NoToken) end)

    -- ! [ Upper { , Upper } ] :
    abbrev pub quantifier : Rule (List ℕ)
    quantifier = do
      _ ← the (is_mark bang) (Inside conjecture NoToken)
      _ ← token OpenSquare NoToken
      ns ← (λ at outcome. Uppers at outcome)
      _ ← the (is_mark colon) (Inside conjecture NoToken)
      gives ns

    -- these names are bound too; a name that is bound already is bound anew by the inner quantifier
    abbrev pub bound_by : Variables → List ℕ → Variables
    bound_by bound ns = with_names bound (map (bytes_at bytes tokens) ns)

    -- a formula inside this many brackets and the quantifiers of these variables
    pub data Formula : ℕ → Variables → ℕ → Outcome Literal → Type 0 where
      is_bare : {brackets at : ℕ} {bound : Variables} {outcome : Outcome Literal} → terminal_at bytes tokens at ≢ Open → (is_mark bang at → ⊥) → (is_mark question at → ⊥) → literal bound at outcome → Formula brackets bound at outcome
      is_bracketed : {brackets at end : ℕ} {bound : Variables} {l : Literal} → terminal_at bytes tokens at ≡ Open → brackets < 16 → Formula (brackets + 1) bound (at + 1) (read l end) → terminal_at bytes tokens end ≡ Close → Formula brackets bound at (read l (end + 1))
      is_not_closed : {brackets at end : ℕ} {bound : Variables} {l : Literal} → terminal_at bytes tokens at ≡ Open → brackets < 16 → Formula (brackets + 1) bound (at + 1) (read l end) → terminal_at bytes tokens end ≢ Close → Formula brackets bound at (stop (Inside conjecture NoEnd) end)
      stops_in_brackets : {brackets at k : ℕ} {bound : Variables} {reason : Reason} → terminal_at bytes tokens at ≡ Open → brackets < 16 → Formula (brackets + 1) bound (at + 1) (stop reason k) → Formula brackets bound at (stop reason k)
      is_too_deep : {brackets at : ℕ} {bound : Variables} → terminal_at bytes tokens at ≡ Open → 16 ≤ brackets → Formula brackets bound at (stop (Inside conjecture Parentheses) at)
      is_quantified : {brackets at middle : ℕ} {bound : Variables} {ns : List ℕ} {outcome : Outcome Literal} → terminal_at bytes tokens at ≢ Open → is_mark bang at → quantifier at (read ns middle) → Formula brackets (bound_by bound ns) middle outcome → Formula brackets bound at outcome
      stops_in_quantifier : {brackets at k : ℕ} {bound : Variables} {reason : Reason} → terminal_at bytes tokens at ≢ Open → is_mark bang at → quantifier at (stop reason k) → Formula brackets bound at (stop reason k)
      is_unread : {brackets at : ℕ} {bound : Variables} → terminal_at bytes tokens at ≢ Open → is_mark question at → Formula brackets bound at (stop Unread at)

    abbrev pub formula : Rule Literal
    formula at outcome = Formula 0 [] at outcome

    -- [ , note [ , note ] ] )
    abbrev pub notes : Rule (Unit {0})
    notes = Choice (stands Comma) (first_note bytes tokens) (token Close NoEnd)

  -- a token outside a formula
  abbrev pub outer : Terminal → Why → Rule (Unit {0})
  outer terminal why = the (stands terminal) (Outside why)

  abbrev pub role : Rule FormulaRole
  role at = pick (Outside NoRole) (role_by (terminal_at bytes tokens at) (bytes_at bytes tokens at)) at

  -- fof ( name , frole ,
  abbrev pub heading : Rule FormulaHeading
  heading = do
    first ← here
    _ ← outer Lower NoItem
    _ ← outer Open NoToken
    name ← AsIn (items.name bytes tokens)
    _ ← outer Comma NoToken
    role_at ← here
    role ← role
    _ ← outer Comma NoToken
    gives (record { first = first; name = name; role = role; role_at = role_at })

  abbrev pub fof : Rule Stated
  fof = do
    heading ← heading
    literal ← formula (is_conjecture heading.role)
    _ ← notes (is_conjecture heading.role)
    _ ← outer Dot NoToken
    gives (record { heading = heading; literal = literal })

  abbrev pub begins_formula : ℕ → Bool
  begins_formula at = is_formula (terminal_at bytes tokens at) (bytes_at bytes tokens at)

  -- an item, by what it begins with
  pub data Item : ℕ → Outcome Entry → Type 0 where
    is_stated : {at : ℕ} {outcome : Outcome Stated} → begins_formula at ≡ true → fof at outcome → Item at (mapped stated outcome)
    is_item : {at : ℕ} {outcome : Outcome _} → begins_formula at ≡ false → AsIn (items.Item bytes tokens) at outcome → Item at (mapped item outcome)

  -- items up to the end of the text
  pub data Items : ℕ → Outcome (List Entry) → Type 0 where
    is_end : {at : ℕ} → terminal_at bytes tokens at ≡ End → Items at (read [] at)
    has_item : {at middle : ℕ} {entry : Entry} {outcome : Outcome (List Entry)} → terminal_at bytes tokens at ≢ End → Item at (read entry middle) → Items middle outcome → Items at (mapped (λ entries. entry ∷ entries) outcome)
    stops_in_item : {at k : ℕ} {reason : Reason} → terminal_at bytes tokens at ≢ End → Item at (stop reason k) → Items at (stop reason k)
