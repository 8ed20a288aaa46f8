-- Why a text or a line is no fact, and what the readers of one answer.
use Rattle.std.specs.Prelude.{◌≡◌, ◌+◌, ◌<◌, ◌≤◌, ◌^◌, ℕ, Bool, true, false, List, Option, Some, None, Result, Ok, Err}
use Rattle.uc_term.specs.declared.node.Sym.{Sym}
use Rattle.uc_term.specs.declared.node.Node.{Node}
use Rattle.uc_term.specs.declared.node.Node.TheVariants.{Var, App}
use Rattle.uc_term.specs.declared.equation.Equation.{Equation}
use Rattle.uc_term.specs.Tree.{Tree, nodes}
use Rattle.uc_term.specs.Variables.{variables}
use Rattle.uc_term.specs.Table.{Table, Grows}
use Rattle.uc_clause.specs.Printing.{equation_text}
use Rattle.uc_clause.specs.Printable.{AreNumbered}
use Rattle.uc_system.specs.declared.fault.SystemFault.{SystemFault}
use Rattle.uc_system.specs.declared.fault.SystemFault.TheVariants.{Limit, NoMemory}
use Rattle.uc_clause.specs.declared.fault.ClauseFault.{ClauseFault}
use Rattle.uc_clause.specs.declared.fault.ClauseFault.TheVariants as clause
use Rattle.uc_system.specs.declared.facts.Unread.{Unread}
use Rattle.uc_system.specs.declared.facts.Unread.TheVariants as unread
use Rattle.uc_system.specs.Lines.{place_in, departs}
use Rattle.uc_system.specs.Symbols.{is_one_of}
use Rattle.uc_system.specs.Facts.{IsFact, IsFactOfAnySize, HasLargeTerm, IsFactLine, IsLargeLine}

-- the text is printed so of this equation, which may be a fact
pub record IsFactText (table : Table) (precedence : List Sym) (text : List ℕ) (e : Equation) : Type 0 where
  pub is : text ≡ equation_text table true e.left e.right
  pub fact : IsFact table precedence e

-- the text is printed so of this equation, which is a fact but for its size, and its first term that is too large begins there
pub record IsLargeText (table : Table) (precedence : List Sym) (text : List ℕ) (from : ℕ) : Type 0 where
  pub equation : Equation
  pub is : text ≡ equation_text table true equation.left equation.right
  pub fact : IsFactOfAnySize table precedence equation
  pub large : HasLargeTerm table equation from

-- nothing is so, and no term that is too large begins so far on; or one does; or memory is wanted
abbrev pub IsNoneOf : (Equation → Type 0) → (ℕ → Type 0) → Unread → Type 0
IsNoneOf is large unread.Departs = ((e : Equation) → is e → ⊥) × ((from : ℕ) → large from → ⊥)
IsNoneOf is large (unread.Large from) = large from
IsNoneOf is large unread.NoMemory = Unit {0}

-- What a reader of one equation answers in this table. What it gives is so in each table that begins with it.
abbrev pub IsOneOf : (Table → Equation → Type 0) → (ℕ → Type 0) → Table → Result Equation Unread → Type 0
IsOneOf is large table (Ok e) = (later : Table) → Grows table later → is later e
IsOneOf is large table (Err u) = IsNoneOf (is table) large u

module _ (table : Table) (precedence : List Sym) where
  -- why a text isn't so printed of any
  abbrev pub IsUnread : List ℕ → Unread → Type 0
  IsUnread text = IsNoneOf (IsFactText table precedence text) (IsLargeText table precedence text)

  abbrev pub ReadsFact : List ℕ → Result Equation Unread → Type 0
  ReadsFact text = IsOneOf (λ t. IsFactText t precedence text) (IsLargeText table precedence text) table

  -- the same of the line of the fact of this number
  abbrev pub IsUnreadLine : ℕ → List ℕ → Unread → Type 0
  IsUnreadLine k line = IsNoneOf (IsFactLine table precedence k line) (IsLargeLine table precedence k line)

  abbrev pub ReadsFactLine : ℕ → List ℕ → Result Equation Unread → Type 0
  ReadsFactLine k line = IsOneOf (λ t. IsFactLine t precedence k line) (IsLargeLine table precedence k line) table

  -- the fact that a text is, if it is one
  abbrev pub IsFactIn : List ℕ → Option Equation → Type 0
  IsFactIn text None = (e : Equation) → IsFactText table precedence text e → ⊥
  IsFactIn text (Some e) = IsFactText table precedence text e

  -- where the first term begins that is too large, if it has one
  abbrev pub IsLargeIn : List ℕ → Option ℕ → Type 0
  IsLargeIn text None = (from : ℕ) → IsLargeText table precedence text from → ⊥
  IsLargeIn text (Some from) = IsLargeText table precedence text from

  -- the same, or want of memory
  abbrev pub IsLargeOr : List ℕ → Unread → Type 0
  IsLargeOr text unread.Departs = IsLargeIn text None
  IsLargeOr text (unread.Large from) = IsLargeIn text (Some from)
  IsLargeOr text unread.NoMemory = Unit {0}

-- the symbol of a node is one of these
abbrev pub is_known : List Sym → Node → Bool
is_known fs (Var x) = true
is_known fs (App f n) = is_one_of f fs

-- it is so near that a column can say where
abbrev pub IsShort : Unread → Type 0
IsShort unread.Departs = Unit {0}
IsShort (unread.Large from) = from < 2 ^ 31
IsShort unread.NoMemory = Unit {0}

-- the same of a text with so many bytes in front
abbrev pub further : ℕ → Unread → Unread
further front unread.Departs = unread.Departs
further front (unread.Large from) = unread.Large (front + from)
further front unread.NoMemory = unread.NoMemory

-- the fault of the line of this number
abbrev pub line_fault : ℕ → Unread → SystemFault
line_fault n unread.Departs = departs n
line_fault n (unread.Large from) = Limit (place_in n from)
line_fault n unread.NoMemory = NoMemory

-- what every term of a program has: at most 4,096 nodes, and variables whose numbers have 32 bits
abbrev pub IsBounded : Tree → Type 0
IsBounded t = (nodes t ≤ 4096) × AreNumbered (variables t)

-- a reader of equations wanted memory
abbrev pub wants_memory : ClauseFault → Bool
wants_memory clause.NoMemory = true
wants_memory other = false
