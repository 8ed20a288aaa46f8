-- Which tokens read as join lines, and where the others stop:
--
--   join    = join ( what , moves , moves , end ) .
--   what    = axiom ( Integer ) | overlap ( Integer , side , Integer , side , path )
--   side    = l | r
--   moves   = [ ] | [ move { , move } ]
--   move    = step ( Integer , lr , path , term ) | step ( Integer , rl , path , term )
--   end     = same | instance ( Integer ) | orders ( [ case { , case } ] ) | ac ( [ triple { , triple } ] )
--   case    = case ( classes , moves , moves )
--   classes = [ ] | [ class { , class } ]
--   class   = [ Upper { , Upper } ]
--   triple  = [ Integer , Integer , Integer ]
--   path    = [ ] | [ Integer { , Integer } ]
--
-- Integers have no sign and are below 2^32, and those of a path 1 to 255. An Upper is `X` and a number from 1 to 8,192 without a
-- leading zero; where another one stands, no join line goes on. A term that passes 4,096 nodes stops at its first token.
use Rattle.std.specs.Prelude.{ℕ, ◌≡◌, ◌≢◌, ◌+◌, ◌-◌, ◌^◌, ◌&&◌, not, zero, suc, Bool, true, false, List, [], ◌∷◌, codes, bytes_eq, is_none, nat_eq, nat_le, nat_lt, Option, Some, None, if◌then◌else◌}
use Rattle.std.specs.Str.Parse.{digits_value}
use Rattle.uc_clause.specs.declared.token.Token.{Token}
use Rattle.uc_clause.specs.declared.terminal.Terminal.{Terminal}
use Rattle.uc_clause.specs.declared.terminal.Terminal.TheVariants.{Lower, Upper, Integer, Open, Close, OpenSquare, CloseSquare, Comma, Dot, End}
use Rattle.uc_clause.specs.declared.grammar.stop.Why.{Why}
use Rattle.uc_clause.specs.declared.grammar.stop.Why.TheVariants.{NoToken, Nodes}
use Rattle.uc_clause.specs.Bytes.{is_digits}
use Rattle.uc_clause.specs.Terminals.{terminal_at, bytes_at}
use Rattle.uc_clause.specs.Rules.{Outcome, read, stop, Rule, mapped, ◌>>=◌, gives, pick}
use Rattle.uc_clause.specs.Parse.{Parse}
use Rattle.uc_clause.specs.Items as items
use Rattle.uc_tstp.specs.Lines as lines
use Rattle.uc_term.specs.declared.equation.Side.{Side}
use Rattle.uc_term.specs.declared.equation.Side.TheVariants.{Left, Right}
use Rattle.uc_certificate.specs.declared.certificate.AcTriple.{AcTriple}
use Rattle.uc_certificate.specs.declared.certificate.What.{What}
use Rattle.uc_certificate.specs.declared.certificate.What.TheVariants.{Axiom, Overlap}
use Rattle.uc_certificate.specs.JoinParse.{Move, MoveHead, Case, Ending, by_same, by_instance, by_orders, by_ac, Join}

-- the most variables of a term
abbrev pub MOST_VARIABLES : ℕ
MOST_VARIABLES = 8192

-- the number below 2^32 that decimal digits write
abbrev pub integer_of : List ℕ → Option ℕ
integer_of bs = if is_digits bs && nat_lt (digits_value 10 bs) (2 ^ 32) then Some (digits_value 10 bs) else None

abbrev pub integer_by : Terminal → List ℕ → Option ℕ
integer_by Integer bytes = integer_of bytes
integer_by other bytes = None

abbrev pub begins_with_zero : List ℕ → Bool
begins_with_zero [] = false
begins_with_zero (b ∷ bs) = nat_eq b 48

-- the variable of digits that write 1 to 8,192 without a leading zero: that number less one
abbrev pub variable_of : List ℕ → Option ℕ
variable_of ds = if (is_digits ds && not (begins_with_zero ds)) && (nat_le 1 (digits_value 10 ds) && nat_le (digits_value 10 ds) MOST_VARIABLES) then Some (digits_value 10 ds - 1) else None

-- the variable of a name
abbrev pub named_by : List ℕ → Option ℕ
named_by [] = None
named_by (b ∷ ds) = if nat_eq b 88 then variable_of ds else None

abbrev pub variable_by : Terminal → List ℕ → Option ℕ
variable_by Upper bytes = named_by bytes
variable_by other bytes = None

abbrev pub side_of : List ℕ → Option Side
side_of bytes = if bytes_eq bytes (codes "l") then Some Left else (if bytes_eq bytes (codes "r") then Some Right else None)

abbrev pub side_by : Terminal → List ℕ → Option Side
side_by Lower bytes = side_of bytes
side_by other bytes = None

-- an Upper that names no variable
abbrev pub is_foreign_by : Terminal → List ℕ → Bool
is_foreign_by Upper bytes = is_none (named_by bytes)
is_foreign_by other bytes = false

-- where reading ended or stopped
abbrev pub end_of : {V : Type 0} → Outcome V → ℕ
end_of (read v end) = end
end_of (stop why k) = k

-- a term that begins at this token stops there where it is too large
abbrev pub stop_place : Why → ℕ → ℕ → ℕ
stop_place Nodes from k = from
stop_place other from k = k

abbrev pub at_first : {V : Type 0} → ℕ → Outcome V → Outcome V
at_first from (read v end) = read v end
at_first from (stop why k) = stop why (stop_place why from k)

module _ (bytes : List ℕ) (tokens : List Token) where
  abbrev pub integer : Rule ℕ
  integer at = pick NoToken (integer_by (terminal_at bytes tokens at) (bytes_at bytes tokens at)) at

  abbrev pub variable : Rule ℕ
  variable at = pick NoToken (variable_by (terminal_at bytes tokens at) (bytes_at bytes tokens at)) at

  abbrev pub side : Rule Side
  side at = pick NoToken (side_by (terminal_at bytes tokens at) (bytes_at bytes tokens at)) at

  abbrev pub is_foreign : ℕ → Bool
  is_foreign at = is_foreign_by (terminal_at bytes tokens at) (bytes_at bytes tokens at)

  -- the first Upper that names no variable, among so many tokens from this one on
  abbrev pub first_foreign : ℕ → ℕ → Option ℕ
  first_foreign zero at = None
  first_foreign (suc n) at = if is_foreign at then Some at else first_foreign n (at + 1)

  -- a term, whose tokens up to where it ends or stops have no such Upper
  pub data TermAt (at : ℕ) : Outcome Parse → Type 0 where
    is_term : {outcome : Outcome Parse} → items.term bytes tokens at outcome → first_foreign (end_of outcome - at) at ≡ None → TermAt at (at_first at outcome)
    has_foreign : {outcome : Outcome Parse} {k : ℕ} → items.term bytes tokens at outcome → first_foreign (end_of outcome - at) at ≡ Some k → TermAt at (stop NoToken k)

  abbrev pub term : Rule Parse
  term at outcome = TermAt at outcome

  -- what stands before the term of a move
  abbrev pub move_head : Rule MoveHead
  move_head = do
    _ ← lines.word bytes tokens (codes "step")
    _ ← lines.token bytes tokens Open
    fact ← integer
    _ ← lines.token bytes tokens Comma
    left_to_right ← lines.way bytes tokens
    _ ← lines.token bytes tokens Comma
    path ← lines.path bytes tokens
    _ ← lines.token bytes tokens Comma
    gives (record { fact = fact; left_to_right = left_to_right; path = path })

  abbrev pub move : Rule Move
  move = do
    head ← move_head
    to ← term
    _ ← lines.token bytes tokens Close
    gives (record { fact = head.fact; left_to_right = head.left_to_right; path = head.path; to = to })

  abbrev pub moves : Rule (List Move)
  moves = lines.list bytes tokens move

  abbrev pub of_axiom : Rule What
  of_axiom = do
    _ ← lines.word bytes tokens (codes "axiom")
    _ ← lines.token bytes tokens Open
    number ← integer
    _ ← lines.token bytes tokens Close
    gives (Axiom number)

  abbrev pub of_overlap : Rule What
  of_overlap = do
    _ ← lines.word bytes tokens (codes "overlap")
    _ ← lines.token bytes tokens Open
    outer ← integer
    _ ← lines.token bytes tokens Comma
    outer_side ← side
    _ ← lines.token bytes tokens Comma
    inner ← integer
    _ ← lines.token bytes tokens Comma
    inner_side ← side
    _ ← lines.token bytes tokens Comma
    path ← lines.path bytes tokens
    _ ← lines.token bytes tokens Close
    gives (Overlap outer outer_side inner inner_side path)

  -- what is joined, by its first word
  pub data WhatAt (at : ℕ) (outcome : Outcome What) : Type 0 where
    is_axiom : lines.word_at bytes tokens (codes "axiom") at ≡ true → of_axiom at outcome → WhatAt at outcome
    is_overlap : lines.word_at bytes tokens (codes "axiom") at ≡ false → of_overlap at outcome → WhatAt at outcome

  abbrev pub what : Rule What
  what at outcome = WhatAt at outcome

  abbrev pub class : Rule (List ℕ)
  class = do
    _ ← lines.token bytes tokens OpenSquare
    lines.members bytes tokens variable

  abbrev pub classes : Rule (List (List ℕ))
  classes = lines.list bytes tokens class

  -- the rest of a case, behind its classes
  abbrev pub rest_of_case : List (List ℕ) → Rule Case
  rest_of_case classes = do
    _ ← lines.token bytes tokens Comma
    left ← moves
    _ ← lines.token bytes tokens Comma
    right ← moves
    _ ← lines.token bytes tokens Close
    gives (record { cases = classes; left = left; right = right })

  abbrev pub case : Rule Case
  case = do
    _ ← lines.word bytes tokens (codes "case")
    _ ← lines.token bytes tokens Open
    classes ← classes
    rest_of_case classes

  abbrev pub same : Rule Ending
  same = do
    _ ← lines.word bytes tokens (codes "same")
    gives by_same

  abbrev pub instance : Rule Ending
  instance = do
    _ ← lines.word bytes tokens (codes "instance")
    _ ← lines.token bytes tokens Open
    number ← integer
    _ ← lines.token bytes tokens Close
    gives (by_instance number)

  abbrev pub orders : Rule Ending
  orders = do
    _ ← lines.word bytes tokens (codes "orders")
    _ ← lines.token bytes tokens Open
    _ ← lines.token bytes tokens OpenSquare
    cases ← lines.members bytes tokens case
    _ ← lines.token bytes tokens Close
    gives (by_orders cases)

  abbrev pub triple : Rule AcTriple
  triple = do
    _ ← lines.token bytes tokens OpenSquare
    assoc ← integer
    _ ← lines.token bytes tokens Comma
    comm ← integer
    _ ← lines.token bytes tokens Comma
    extended ← integer
    _ ← lines.token bytes tokens CloseSquare
    gives (record { assoc = assoc; comm = comm; extended = extended })

  abbrev pub ac : Rule Ending
  ac = do
    _ ← lines.word bytes tokens (codes "ac")
    _ ← lines.token bytes tokens Open
    _ ← lines.token bytes tokens OpenSquare
    triples ← lines.members bytes tokens triple
    _ ← lines.token bytes tokens Close
    gives (by_ac triples)

  -- how the ends are joined, by the first word
  pub data EndingAt (at : ℕ) (outcome : Outcome Ending) : Type 0 where
    is_same : lines.word_at bytes tokens (codes "same") at ≡ true → same at outcome → EndingAt at outcome
    is_instance : lines.word_at bytes tokens (codes "same") at ≡ false → lines.word_at bytes tokens (codes "instance") at ≡ true → instance at outcome → EndingAt at outcome
    is_ac : lines.word_at bytes tokens (codes "same") at ≡ false → lines.word_at bytes tokens (codes "instance") at ≡ false → lines.word_at bytes tokens (codes "ac") at ≡ true → ac at outcome → EndingAt at outcome
    is_orders : lines.word_at bytes tokens (codes "same") at ≡ false → lines.word_at bytes tokens (codes "instance") at ≡ false → lines.word_at bytes tokens (codes "ac") at ≡ false → orders at outcome → EndingAt at outcome

  abbrev pub ending : Rule Ending
  ending at outcome = EndingAt at outcome

  -- the moves and the end of a join, behind what is joined
  abbrev pub rest_of_join : What → Rule Join
  rest_of_join what = do
    _ ← lines.token bytes tokens Comma
    left ← moves
    _ ← lines.token bytes tokens Comma
    right ← moves
    _ ← lines.token bytes tokens Comma
    ending ← ending
    _ ← lines.token bytes tokens Close
    _ ← lines.token bytes tokens Dot
    gives (record { what = what; left = left; right = right; ending = ending })

  abbrev pub join : Rule Join
  join = do
    _ ← lines.word bytes tokens (codes "join")
    _ ← lines.token bytes tokens Open
    what ← what
    rest_of_join what

  -- join lines up to the end of the tokens
  pub data JoinsAt : ℕ → Outcome (List Join) → Type 0 where
    is_no_join : {at : ℕ} → terminal_at bytes tokens at ≡ End → JoinsAt at (read [] at)
    has_join : {at middle : ℕ} {j : Join} {outcome : Outcome (List Join)} → terminal_at bytes tokens at ≢ End → join at (read j middle) → JoinsAt middle outcome → JoinsAt at (mapped (λ js. j ∷ js) outcome)
    stops_in_join : {at k : ℕ} {why : Why} → terminal_at bytes tokens at ≢ End → join at (stop why k) → JoinsAt at (stop why k)

  abbrev pub joins : Rule (List Join)
  joins at outcome = JoinsAt at outcome
