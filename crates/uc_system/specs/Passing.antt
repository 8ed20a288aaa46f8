-- Going over the tokens of a printed term of any size. No tree is built: what is kept is the term's text, printed again, how many
-- nodes it has, how many variables are seen, and the functors whose brackets are open.
use Rattle.std.specs.Prelude.{◌≡◌, ◌≢◌, ℕ, ◌+◌, ◌≤◌, ◌==◌, ◌&&◌, nat_le, nat_lt, max, Bool, true, false, List, [], ◌∷◌, ◌++◌, drop, length, reverse, codes, decimal, bytes_eq, Option, Some, None, if◌then◌else◌}
use Rattle.std.specs.List.{list_any}
use Rattle.uc_term.specs.declared.node.Sym.{Sym}
use Rattle.uc_term.specs.declared.equation.Equation.{Equation}
use Rattle.uc_term.specs.Tree.{nodes}
use Rattle.uc_term.specs.Table.{Table, name_of, arity_of}
use Rattle.uc_clause.specs.declared.token.Token.{Token}
use Rattle.uc_clause.specs.declared.terminal.Terminal.{Terminal}
use Rattle.uc_clause.specs.declared.terminal.Terminal.TheVariants.{Open, Close, Comma}
use Rattle.uc_clause.specs.declared.grammar.head.Head.{Head}
use Rattle.uc_clause.specs.declared.grammar.head.Head.TheVariants.{Variable, Functor, Neither}
use Rattle.uc_clause.specs.Bytes.{is_digits}
use Rattle.uc_clause.specs.Names.{spelling}
use Rattle.uc_clause.specs.Terminals.{terminal_at, bytes_at, word_at}
use Rattle.uc_clause.specs.Terms.{head_at}
use Rattle.uc_clause.specs.Printing.{term_text, sign_text, equation_text}
use Rattle.uc_system.specs.declared.pass.Pass.{Pass}
use Rattle.uc_system.specs.declared.pass.Pending.{Pending}
use Rattle.uc_system.specs.declared.sides.Sides.{Sides}
use Rattle.uc_system.specs.Numerals.{value_of}
use Rattle.uc_system.specs.Facts.{IsFactOfAnySize}

-- all that is kept at a token; of the functors the innermost comes first
pub record State : Type 0 where
  pub at : ℕ
  pub behind_term : Bool
  pub pending : List Pending
  pub seen : ℕ
  pub nodes : ℕ
  pub text : List ℕ

abbrev pub state_of : Pass → State
state_of pass = record { at = pass.at; behind_term = pass.behind_term; pending = reverse pass.pending.items; seen = pass.seen; nodes = pass.nodes; text = pass.again }

-- before a term that begins at a token, behind so many variables
abbrev pub start : ℕ → ℕ → State
start from seen = record { at = from; behind_term = false; pending = []; seen = seen; nodes = 0; text = [] }

-- what two passes printed again makes this text, or it doesn't
abbrev pub IsJoined : List ℕ → Pass → Pass → Option Sides → Type 0
IsJoined text left right None = left.again ++ codes " = " ++ right.again ≢ text
IsJoined text left right (Some sides) = (left.again ++ codes " = " ++ right.again ≡ text) × (sides ≡ record { left = left.nodes; right = right.nodes; second = length (left.again ++ codes " = ") })

-- the byte at which the first of the sides begins that is too large
abbrev pub large_of : Sides → Option ℕ
large_of sides = if nat_lt 4096 sides.left then Some 0 else (if nat_lt 4096 sides.right then Some sides.second else None)

-- a whole term is read
abbrev pub IsWhole : State → Type 0
IsWhole s = (s.behind_term ≡ true) × (s.pending ≡ [])

-- no more variables are seen than there are tokens before it, which are no more than one behind so many
abbrev pub IsNear : ℕ → Option Pass → Type 0
IsNear n None = Unit {0}
IsNear n (Some pass) = (pass.seen ≤ pass.at) × (pass.at ≤ n + 1)

-- whether a step leads on, and where it leads
abbrev pub IsNext : Option State → Bool → Pass → Type 0
IsNext next false pass = next ≡ None
IsNext next true pass = next ≡ Some (state_of pass)

-- the number that digits behind one byte write, 0 where there are none
abbrev pub number_of : List ℕ → ℕ
number_of bytes = if is_digits (drop 1 bytes) then value_of (drop 1 bytes) else 0

-- it is one of the numbers so far, or the next one
abbrev pub is_numbered : ℕ → ℕ → Bool
is_numbered seen n = nat_le 1 n && nat_le n (seen + 1)

-- the number of a variable, if it is so
abbrev pub numbered : ℕ → ℕ → Option ℕ
numbered seen n = if is_numbered seen n then Some n else None

-- behind a variable of this number
abbrev pub behind_variable : State → ℕ → State
behind_variable s n = record s { at = s.at + 1; behind_term = true; seen = max s.seen n; nodes = s.nodes + 1; text = s.text ++ 88 ∷ decimal n }

abbrev pub on_variable : State → ℕ → Option State
on_variable s n = if is_numbered s.seen n then Some (behind_variable s n) else None

-- behind a constant of this name
abbrev pub behind_constant : List ℕ → State → State
behind_constant name s = record s { at = s.at + 1; behind_term = true; nodes = s.nodes + 1; text = s.text ++ spelling name }

-- behind a functor of this name and its bracket
abbrev pub in_functor : List ℕ → State → State
in_functor name s = record s { at = s.at + 2; pending = record { functor = s.at; arguments = 1 } ∷ s.pending; nodes = s.nodes + 1; text = s.text ++ spelling name ++ 40 ∷ [] }

-- behind the comma after an argument
abbrev pub behind_comma : State → Pending → List Pending → State
behind_comma s p ps = record s { at = s.at + 1; behind_term = false; pending = record p { arguments = p.arguments + 1 } ∷ ps; text = s.text ++ 44 ∷ [] }

abbrev pub on_comma : State → Pending → List Pending → Option State
on_comma s p ps = if nat_lt p.arguments 255 then Some (behind_comma s p ps) else None

-- behind the closing bracket
abbrev pub behind_functor : State → List Pending → State
behind_functor s ps = record s { at = s.at + 1; pending = ps; text = s.text ++ 41 ∷ [] }

module _ (table : Table) (precedence : List Sym) where
  -- one of the symbols has this name and takes so many arguments
  abbrev pub is_symbol : List ℕ → ℕ → Bool
  is_symbol name n = list_any (λ (f : Sym). bytes_eq name (name_of table f) && (n == arity_of table f)) precedence

  module _ (text : List ℕ) (tokens : List Token) where
    abbrev pub word : ℕ → List ℕ
    word at = word_at text tokens at

    abbrev pub on_constant : State → Option State
    on_constant s = if is_symbol (word s.at) 0 then Some (behind_constant (word s.at) s) else None

    abbrev pub on_functor : State → Terminal → Option State
    on_functor s Open = Some (in_functor (word s.at) s)
    on_functor s other = on_constant s

    -- where a term begins
    abbrev pub on_head : State → Head → Option State
    on_head s Variable = on_variable s (number_of (bytes_at text tokens s.at))
    on_head s Functor = on_functor s (terminal_at text tokens (s.at + 1))
    on_head s Neither = None

    abbrev pub on_close : State → Pending → List Pending → Option State
    on_close s p ps = if is_symbol (word p.functor) p.arguments then Some (behind_functor s ps) else None

    abbrev pub on_mark : State → Pending → List Pending → Terminal → Option State
    on_mark s p ps Comma = on_comma s p ps
    on_mark s p ps Close = on_close s p ps
    on_mark s p ps other = None

    -- behind a term
    abbrev pub behind : State → List Pending → Option State
    behind s [] = None
    behind s (p ∷ ps) = on_mark s p ps (terminal_at text tokens s.at)

    -- what a token, or a functor and its bracket, lead to
    abbrev pub step : State → Option State
    step s = if s.behind_term then behind s s.pending else on_head s (head_at text tokens s.at)

    -- steps lead from one to the other
    pub data Reaches (from : State) : State → Type 0 where
      not_yet : Reaches from from
      further_on : {s t : State} → Reaches from s → step s ≡ Some t → Reaches from t

    -- no step leads further, and no whole term is read
    pub record IsStuck (from : State) : Type 0 where
      pub state : State
      pub reaches : Reaches from state
      pub stops : step state ≡ None
      pub not_whole : IsWhole state → ⊥

    -- where going over a term ends
    abbrev pub EndsAt : State → Option Pass → Type 0
    EndsAt from None = IsStuck from
    EndsAt from (Some pass) = Reaches from (state_of pass) × IsWhole (state_of pass)

  -- how large the sides of a printed equation are, and where the right one begins
  pub record IsSides (text : List ℕ) (sides : Sides) : Type 0 where
    pub equation : Equation
    pub is : text ≡ equation_text table true equation.left equation.right
    pub fact : IsFactOfAnySize table precedence equation
    pub left : sides.left ≡ nodes equation.left
    pub right : sides.right ≡ nodes equation.right
    pub second : sides.second ≡ length (term_text table equation.left ++ sign_text true)

  -- those of the equation that a text is printed of, if it is one
  abbrev pub AreSides : List ℕ → Option Sides → Type 0
  AreSides text None = (e : Equation) → text ≡ equation_text table true e.left e.right → IsFactOfAnySize table precedence e → ⊥
  AreSides text (Some sides) = IsSides text sides
