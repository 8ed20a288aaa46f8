-- A term that is a word of the command line, over the symbols of a signature.
use Rattle.std.specs.Prelude.{ℕ, ◌≡◌, not, Bool, true, false, List, filter, position, slice_get, Option, Some, None}
use Rattle.std.specs.List.{list_any}
use Rattle.uc_term.specs.declared.node.Sym.{Sym}
use Rattle.uc_term.specs.declared.node.Node.{Node}
use Rattle.uc_term.specs.declared.node.Node.TheVariants.{Var, App}
use Rattle.uc_term.specs.Tree.{Tree}
use Rattle.uc_term.specs.Flat.{flat}
use Rattle.uc_term.specs.Table.{Table, name_of}
use Rattle.uc_term.specs.Signatures.{same_symbol}
use Rattle.uc_clause.specs.declared.token.Kind.{Kind}
use Rattle.uc_clause.specs.declared.token.Kind.TheVariants.{Mark}
use Rattle.uc_clause.specs.declared.token.Token.{Token}
use Rattle.uc_clause.specs.declared.token.Place.{Place}
use Rattle.uc_clause.specs.Parse.{leaves}
use Rattle.uc_clause.specs.Terminals.{place_at}
use Rattle.uc_clause.specs.Items.{term_alone}
use Rattle.uc_clause.specs.Reading.{ReadsTerm, Refuses}
use Rattle.uc_clause.specs.Interning.{InternsTerm}
use Rattle.uc_answer.specs.declared.term_word.WordFault.{WordFault}
use Rattle.uc_answer.specs.declared.term_word.WordFault.TheVariants.{Unread, UnknownSymbol, NotGround, NoMemory}

-- a node whose symbol isn't one of these
abbrev pub is_foreign : List Sym → Node → Bool
is_foreign known (Var x) = false
is_foreign known (App f n) = not (list_any (same_symbol f) known)

-- the number of a term's first node, from left to right, whose symbol isn't one of these
abbrev pub first_foreign : List Sym → Tree → Option ℕ
first_foreign known t = position (is_foreign known) (flat t)

-- The symbols of the term are those of this table, and these are known.
module _ (table : Table) (known : List Sym) (word : List ℕ) where
  -- the word is this term, and all its symbols are known
  pub record IsTermWord (t : Tree) : Type 0 where
    pub reads : ReadsTerm word table t
    pub is_known : first_foreign known t ≡ None

  -- the word is a term, and this is the name of its first symbol that isn't known, and its place
  pub record HasForeign (place : Place) (name : List ℕ) : Type 0 where
    pub term : Tree
    pub reads : ReadsTerm word table term
    pub number : ℕ
    pub is_first : first_foreign known term ≡ Some number
    pub symbol : Sym
    pub arity : ℕ
    pub node : slice_get (flat term) number ≡ Some (App symbol arity)
    pub name_is : name ≡ name_of table symbol
    pub token : ℕ
    pub leaf : slice_get (leaves reads.parse) number ≡ Some token
    pub place_is : place ≡ place_at word reads.tokens token

-- The word is no term of known symbols, which are of this table. It is read whole before its symbols are looked at, which then
-- stand in the table that reading makes of this one; variables are allowed, and want of memory is free.
abbrev pub IsWordFault : Table → List Sym → List ℕ → WordFault → Type 0
IsWordFault table known word (Unread why) = Refuses term_alone word why
IsWordFault table known word (UnknownSymbol place name) = (read : Table) × InternsTerm word table read × HasForeign read known word place name
IsWordFault table known word (NotGround place) = ⊥
IsWordFault table known word NoMemory = Unit {0}

-- The tokens of a term are its variables and functors, in the order of its nodes, and marks between them.
abbrev pub is_mark : Kind → Bool
is_mark Mark = true
is_mark other = false

abbrev pub node_tokens : List Token → List Token
node_tokens tokens = filter (λ t. not (is_mark t.kind)) tokens

abbrev pub place_or_first : Option Token → Place
place_or_first (Some token) = token.place
place_or_first None = record { line = 1; column = 1 }

-- where the node of this number of a term of these tokens stands
abbrev pub node_place : List Token → ℕ → Place
node_place tokens number = place_or_first (slice_get (node_tokens tokens) number)
