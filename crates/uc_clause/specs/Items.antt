-- Which tokens read as literals, clauses and items, and where the others stop. `cnf` and `include` are words that begin
-- items:
--
--   file    = { item }
--   item    = cnf ( name , role , clause [ , note [ , note ] ] ) .
--           | include ( Quoted [ , [ [ name { , name } ] ] ] ) .
--   name    = Lower | Quoted | Integer
--   role    = Lower
--   clause  = ( clause ) | literal
--   literal = term = term | term != term | ~ term = term | ~ ( term = term )
--
-- In the include, the outer square brackets show an option, the next are the list's own, and the innermost show that the
-- list may be empty. A note is one or more tokens in which round and square brackets are balanced and no comma stands
-- outside brackets.
use Rattle.std.specs.Prelude.{◌≡◌, ◌≢◌, ℕ, ◌+◌, ◌<◌, ◌≤◌, Bool, true, false, List, [], ◌∷◌, Option, Some, None, ◌-◌, ◌++◌, length, take, slice_get, codes, bytes_eq, if◌then◌else◌}
use Rattle.uc_clause.specs.declared.token.Token.{Token}
use Rattle.uc_clause.specs.declared.clause.Role.{Role}
use Rattle.uc_clause.specs.declared.clause.Role.TheVariants.{Axiom, Hypothesis, Definition, Assumption, Lemma, Theorem, Corollary, NegatedConjecture}
use Rattle.uc_clause.specs.declared.clause.Role.TheVariants as roles
use Rattle.uc_clause.specs.declared.terminal.Terminal.{Terminal}
use Rattle.uc_clause.specs.declared.terminal.Terminal.TheVariants.{Lower, Quoted, Integer, Unequal, Open, Close, OpenSquare, CloseSquare, Comma, Dot, Equal, Tilde, End}
use Rattle.uc_clause.specs.declared.grammar.note.Bracket.{Bracket}
use Rattle.uc_clause.specs.declared.grammar.note.Bracket.TheVariants.{Round, Square}
use Rattle.uc_clause.specs.declared.grammar.note.Piece.{Piece}
use Rattle.uc_clause.specs.declared.grammar.note.Piece.TheVariants.{Plain, Opens, Closes, Behind, Misplaced}
use Rattle.uc_clause.specs.declared.grammar.stop.Why.{Why}
use Rattle.uc_clause.specs.declared.grammar.stop.Why.TheVariants.{NoItem, NoRole, NoSelection, NoSign, NoEnd, NoToken, Parentheses}
use Rattle.uc_clause.specs.Terminals.{terminal_at, bytes_at}
use Rattle.uc_clause.specs.Rules.{Outcome, read, stop, Rule, mapped, ◌>>=◌, gives, here, pick, the, Choice}
use Rattle.uc_clause.specs.Parse.{Parse, Sides, Literal, Formula, Entry, formula, inclusion}
use Rattle.uc_clause.specs.declared.grammar.item.Heading.{Heading}
use Rattle.uc_clause.specs.declared.grammar.item.Inclusion.{Inclusion}
use Rattle.uc_clause.specs.declared.grammar.item.Opening.{Opening}
use Rattle.uc_clause.specs.declared.grammar.item.Opening.TheVariants.{OpensClause, OpensInclude, OpensNothing}
use Rattle.uc_clause.specs.Terms.{Term}

-- the nine roles by their words
abbrev pub role_of : List ℕ → Option Role
role_of word =
    if bytes_eq word (codes "axiom") then Some Axiom
    else (if bytes_eq word (codes "hypothesis") then Some Hypothesis
    else (if bytes_eq word (codes "definition") then Some Definition
    else (if bytes_eq word (codes "assumption") then Some Assumption
    else (if bytes_eq word (codes "lemma") then Some Lemma
    else (if bytes_eq word (codes "theorem") then Some Theorem
    else (if bytes_eq word (codes "corollary") then Some Corollary
    else (if bytes_eq word (codes "plain") then Some roles.Plain
    else (if bytes_eq word (codes "negated_conjecture") then Some NegatedConjecture
    else None))))))))

-- a role is a Lower
abbrev pub role_by : Terminal → List ℕ → Option Role
role_by Lower word = role_of word
role_by other word = None

-- what an item begins with
abbrev pub opening_of : Terminal → List ℕ → Opening
opening_of Lower word = if bytes_eq word (codes "cnf") then OpensClause else (if bytes_eq word (codes "include") then OpensInclude else OpensNothing)
opening_of other word = OpensNothing

-- the sign of an equation: whether it is `=`, or `!=`
abbrev pub sign_of : Terminal → Option Bool
sign_of Equal = Some true
sign_of Unequal = Some false
sign_of other = None

-- what a token is to a note, behind this innermost open bracket, if one is open: a part of it, which may open or close a
-- bracket; what ends it; or what can't stand there
abbrev pub piece_of : Option Bracket → Terminal → Piece
piece_of innermost End = Misplaced
piece_of innermost Open = Opens Round
piece_of innermost OpenSquare = Opens Square
piece_of None Comma = Behind
piece_of None Close = Behind
piece_of None CloseSquare = Behind
piece_of (Some Round) Close = Closes
piece_of (Some Square) Close = Misplaced
piece_of (Some Round) CloseSquare = Misplaced
piece_of (Some Square) CloseSquare = Closes
piece_of innermost other = Plain

-- a name: a Lower, a Quoted or an Integer
abbrev pub name_by : Terminal → ℕ → Option ℕ
name_by Lower at = Some at
name_by Quoted at = Some at
name_by Integer at = Some at
name_by other at = None

abbrev pub quoted_by : Terminal → ℕ → Option ℕ
quoted_by Quoted at = Some at
quoted_by other at = None

module _ (bytes : List ℕ) (tokens : List Token) where
  -- this very token, whose value is nothing
  abbrev pub token : Terminal → Why → Rule (Unit {0})
  token terminal why = the bytes tokens terminal why

  -- a token from which a value is read off, its number for a name
  abbrev pub name : Rule ℕ
  name at = pick NoToken (name_by (terminal_at bytes tokens at) at) at

  abbrev pub quoted : Rule ℕ
  quoted at = pick NoToken (quoted_by (terminal_at bytes tokens at) at) at

  abbrev pub role : Rule Role
  role at = pick NoRole (role_by (terminal_at bytes tokens at) (bytes_at bytes tokens at)) at

  -- the sign behind the term that begins at `first`
  abbrev pub sign : ℕ → Rule Bool
  sign first at = pick (NoSign first) (sign_of (terminal_at bytes tokens at)) at

  abbrev pub term : Rule Parse
  term at outcome = Term bytes tokens 0 at outcome

  -- term = term, or term != term
  abbrev pub equation : Rule Literal
  equation = do
    first ← here
    left ← term
    positive ← sign first
    right ← term
    gives (record { positive = positive; sides = record { left = left; right = right } })

  -- term = term
  abbrev pub equals : Rule Sides
  equals = do
    first ← here
    left ← term
    _ ← token Equal (NoSign first)
    right ← term
    gives (record { left = left; right = right })

  -- ( term = term )
  abbrev pub equals_in_brackets : Rule Sides
  equals_in_brackets = do
    _ ← token Open NoToken
    sides ← equals
    _ ← token Close NoToken
    gives sides

  -- what `~` denies
  abbrev pub denied : Rule Sides
  denied = Choice bytes tokens Open equals_in_brackets equals

  -- ~ term = term, or ~ ( term = term )
  abbrev pub denial : Rule Literal
  denial = do
    _ ← token Tilde NoToken
    sides ← denied
    gives (record { positive = false; sides = sides })

  abbrev pub literal : Rule Literal
  literal = Choice bytes tokens Tilde denial equation

  -- a clause inside this many brackets
  pub data Clause : ℕ → ℕ → Outcome Literal → Type 0 where
    is_bare : {brackets at : ℕ} {outcome : Outcome Literal} → terminal_at bytes tokens at ≢ Open → literal at outcome → Clause brackets at outcome
    is_bracketed : {brackets at end : ℕ} {l : Literal} → terminal_at bytes tokens at ≡ Open → brackets < 16 → Clause (brackets + 1) (at + 1) (read l end) → terminal_at bytes tokens end ≡ Close → Clause brackets at (read l (end + 1))
    is_not_closed : {brackets at end : ℕ} {l : Literal} → terminal_at bytes tokens at ≡ Open → brackets < 16 → Clause (brackets + 1) (at + 1) (read l end) → terminal_at bytes tokens end ≢ Close → Clause brackets at (stop NoEnd end)
    stops_in_brackets : {brackets at k : ℕ} {why : Why} → terminal_at bytes tokens at ≡ Open → brackets < 16 → Clause (brackets + 1) (at + 1) (stop why k) → Clause brackets at (stop why k)
    is_too_deep : {brackets at : ℕ} → terminal_at bytes tokens at ≡ Open → 16 ≤ brackets → Clause brackets at (stop Parentheses at)

  abbrev pub clause : Rule Literal
  clause at outcome = Clause 0 at outcome

  -- what the next token is to a note in which these brackets are open, the innermost last
  abbrev pub piece_at : List Bracket → ℕ → Piece
  piece_at open_ones at = piece_of (slice_get open_ones (length open_ones - 1)) (terminal_at bytes tokens at)

  -- the rest of a note in which these brackets are open
  pub data Rest : List Bracket → ℕ → Outcome (Unit {0}) → Type 0 where
    has_token : {bs : List Bracket} {at : ℕ} {outcome : Outcome (Unit {0})} → piece_at bs at ≡ Plain → Rest bs (at + 1) outcome → Rest bs at outcome
    has_opening : {bs : List Bracket} {b : Bracket} {at : ℕ} {outcome : Outcome (Unit {0})} → piece_at bs at ≡ Opens b → Rest (bs ++ b ∷ []) (at + 1) outcome → Rest bs at outcome
    has_closing : {bs : List Bracket} {at : ℕ} {outcome : Outcome (Unit {0})} → piece_at bs at ≡ Closes → Rest (take (length bs - 1) bs) (at + 1) outcome → Rest bs at outcome
    ends_before : {bs : List Bracket} {at : ℕ} → piece_at bs at ≡ Behind → Rest bs at (read tt at)
    stops_before : {bs : List Bracket} {at : ℕ} → piece_at bs at ≡ Misplaced → Rest bs at (stop NoToken at)

  -- a note isn't empty
  pub data Note : ℕ → Outcome (Unit {0}) → Type 0 where
    is_note : {at : ℕ} {outcome : Outcome (Unit {0})} → piece_at [] at ≢ Behind → Rest [] at outcome → Note at outcome
    is_no_note : {at : ℕ} → piece_at [] at ≡ Behind → Note at (stop NoToken at)

  abbrev pub note : Rule (Unit {0})
  note at outcome = Note at outcome

  -- , note )
  abbrev pub second_note : Rule (Unit {0})
  second_note = do
    _ ← token Comma NoToken
    _ ← note
    token Close NoToken

  -- [ , note ] )
  abbrev pub more_notes : Rule (Unit {0})
  more_notes = Choice bytes tokens Comma second_note (token Close NoToken)

  -- , note [ , note ] )
  abbrev pub first_note : Rule (Unit {0})
  first_note = do
    _ ← token Comma NoToken
    _ ← note
    more_notes

  -- [ , note [ , note ] ] )
  abbrev pub notes : Rule (Unit {0})
  notes = Choice bytes tokens Comma first_note (token Close NoEnd)

  -- cnf ( name , role ,
  abbrev pub heading : Rule Heading
  heading = do
    first ← here
    _ ← token Lower NoItem
    _ ← token Open NoToken
    name ← name
    _ ← token Comma NoToken
    role ← role
    _ ← token Comma NoToken
    gives (record { first = first; name = name; role = role })

  abbrev pub cnf : Rule Formula
  cnf = do
    heading ← heading
    literal ← clause
    _ ← notes
    _ ← token Dot NoToken
    gives (record { heading = heading; literal = literal })

  -- name { , name } ]
  pub data Names : ℕ → Outcome (List ℕ) → Type 0 where
    stops_in_name : {at k : ℕ} {why : Why} → name at (stop why k) → Names at (stop why k)
    is_last_name : {at end n : ℕ} → name at (read n end) → terminal_at bytes tokens end ≡ CloseSquare → Names at (read (n ∷ []) (end + 1))
    is_name : {at end n : ℕ} {outcome : Outcome (List ℕ)} → name at (read n end) → terminal_at bytes tokens end ≡ Comma → Names (end + 1) outcome → Names at (mapped (λ ns. n ∷ ns) outcome)
    stops_behind_name : {at end n : ℕ} → name at (read n end) → terminal_at bytes tokens end ≢ CloseSquare → terminal_at bytes tokens end ≢ Comma → Names at (stop NoToken end)

  abbrev pub names : Rule (List ℕ)
  names at outcome = Names at outcome

  abbrev pub no_names : Rule (List ℕ)
  no_names = do
    _ ← token CloseSquare NoToken
    gives []

  -- [ [ name { , name } ] ]
  abbrev pub list : Rule (List ℕ)
  list = do
    _ ← token OpenSquare NoSelection
    Choice bytes tokens CloseSquare no_names names

  -- , [ [ name { , name } ] ] )
  abbrev pub selection : Rule (Option (List ℕ))
  selection = do
    _ ← token Comma NoToken
    ns ← list
    _ ← token Close NoToken
    gives (Some ns)

  abbrev pub no_selection : Rule (Option (List ℕ))
  no_selection = do
    _ ← token Close NoToken
    gives None

  abbrev pub selected : Rule (Option (List ℕ))
  selected = Choice bytes tokens Comma selection no_selection

  abbrev pub include : Rule Inclusion
  include = do
    first ← here
    _ ← token Lower NoItem
    _ ← token Open NoToken
    file ← quoted
    names ← selected
    _ ← token Dot NoToken
    gives (record { first = first; file = file; names = names })

  abbrev pub opening_at : ℕ → Opening
  opening_at at = opening_of (terminal_at bytes tokens at) (bytes_at bytes tokens at)

  -- an item, by what it begins with
  pub data Item : ℕ → Outcome Entry → Type 0 where
    is_clause : {at : ℕ} {outcome : Outcome Formula} → opening_at at ≡ OpensClause → cnf at outcome → Item at (mapped formula outcome)
    is_include : {at : ℕ} {outcome : Outcome Inclusion} → opening_at at ≡ OpensInclude → include at outcome → Item at (mapped inclusion outcome)
    is_no_item : {at : ℕ} → opening_at at ≡ OpensNothing → Item at (stop NoItem at)

  -- items up to the end of the text
  pub data Items : ℕ → Outcome (List Entry) → Type 0 where
    is_end : {at : ℕ} → terminal_at bytes tokens at ≡ End → Items at (read [] at)
    has_item : {at middle : ℕ} {entry : Entry} {outcome : Outcome (List Entry)} → terminal_at bytes tokens at ≢ End → Item at (read entry middle) → Items middle outcome → Items at (mapped (λ entries. entry ∷ entries) outcome)
    stops_in_item : {at k : ℕ} {why : Why} → terminal_at bytes tokens at ≢ End → Item at (stop why k) → Items at (stop why k)

  -- a term that is the whole text
  abbrev pub term_alone : Rule Parse
  term_alone = do
    p ← term
    _ ← token End NoToken
    gives p

  -- term = term, which is the whole text
  abbrev pub equals_alone : Rule Sides
  equals_alone = do
    sides ← equals
    _ ← token End NoEnd
    gives sides
