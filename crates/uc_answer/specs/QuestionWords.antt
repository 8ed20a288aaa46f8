-- A question that is a word of the command line: an equation of two ground terms over the symbols of a signature.
use Rattle.std.specs.Prelude.{ℕ, ◌≡◌, ◌<◌, ◌^◌, not, Bool, true, List, [], ◌∷◌, ◌++◌, length, position, take, slice_get, Option, Some, None}
use Rattle.std.specs.List.{list_any}
use Rattle.uc_term.specs.declared.node.Sym.{Sym}
use Rattle.uc_term.specs.declared.node.Node.{Node}
use Rattle.uc_term.specs.declared.node.Node.TheVariants.{Var, App}
use Rattle.uc_term.specs.Tree.{Tree}
use Rattle.uc_term.specs.Flat.{flat}
use Rattle.uc_term.specs.Table.{Table, name_of}
use Rattle.uc_term.specs.Signatures.{same_symbol}
use Rattle.uc_clause.specs.declared.token.Place.{Place}
use Rattle.uc_clause.specs.Parse.{leaves}
use Rattle.uc_clause.specs.Terminals.{place_at}
use Rattle.uc_clause.specs.Items.{equals_alone}
use Rattle.uc_clause.specs.Reading.{ReadsEquation, Refuses}
use Rattle.uc_clause.specs.Interning.{InternsEquation}
use Rattle.uc_answer.specs.declared.term_word.WordFault.{WordFault}
use Rattle.uc_answer.specs.declared.term_word.WordFault.TheVariants.{Unread, UnknownSymbol, NotGround, NoMemory}

-- a node that is a variable, or whose symbol isn't one of these
abbrev pub is_unfit : List Sym → Node → Bool
is_unfit known (Var x) = true
is_unfit known (App f n) = not (list_any (same_symbol f) known)

-- the nodes of the two sides, in the order of the text
abbrev pub nodes_of : Tree × Tree → List Node
nodes_of sides = flat sides.0 ++ flat sides.1

-- the number of the first node, from left to right, that no question may have
abbrev pub first_unfit : List Sym → Tree × Tree → Option ℕ
first_unfit known sides = position (is_unfit known) (nodes_of sides)

-- each word has fewer than 2^31 bytes
abbrev pub AreShort : List (List ℕ) → Type 0
AreShort [] = Unit {0}
AreShort (word ∷ words) = (length word < 2 ^ 31) × AreShort words

-- The symbols of the sides are those of this table, and these are known.
module _ (table : Table) (known : List Sym) where
  module _ (word : List ℕ) where
    -- the word is the equation of these two terms, which are ground, and all their symbols are known
    pub record IsQuestionWord (sides : Tree × Tree) : Type 0 where
      pub reads : ReadsEquation word table sides
      pub is_fit : first_unfit known sides ≡ None

    -- the word is an equation, and this is its first node that no question may have, and the node's place
    pub record HasUnfit (node : Node) (place : Place) : Type 0 where
      pub sides : Tree × Tree
      pub reads : ReadsEquation word table sides
      pub number : ℕ
      pub is_first : first_unfit known sides ≡ Some number
      pub node_is : slice_get (nodes_of sides) number ≡ Some node
      pub token : ℕ
      pub leaf : slice_get (leaves reads.parse.left ++ leaves reads.parse.right) number ≡ Some token
      pub place_is : place ≡ place_at word reads.tokens token

    -- the first node that no question may have is a symbol of this name
    pub record HasUnknown (place : Place) (name : List ℕ) : Type 0 where
      pub symbol : Sym
      pub arity : ℕ
      pub unfit : HasUnfit (App symbol arity) place
      pub name_is : name ≡ name_of table symbol

    -- it is a variable
    pub record HasVariable (place : Place) : Type 0 where
      pub variable : ℕ
      pub unfit : HasUnfit (Var variable) place

  -- the words are these questions, in order
  pub data AreQuestions : List (List ℕ) → List (Tree × Tree) → Type 0 where
    no_question : AreQuestions [] []
    one_question : {word : List ℕ} {words : List (List ℕ)} {sides : Tree × Tree} {others : List (Tree × Tree)} → IsQuestionWord word sides → AreQuestions words others → AreQuestions (word ∷ words) (sides ∷ others)

-- The word is no such question over known symbols, which are of this table. It is read whole before its nodes are looked at, whose
-- symbols then stand in the table that reading makes of this one; want of memory is free.
abbrev pub IsQuestionFault : Table → List Sym → List ℕ → WordFault → Type 0
IsQuestionFault table known word (Unread why) = Refuses equals_alone word why
IsQuestionFault table known word (UnknownSymbol place name) = (read : Table) × InternsEquation word table read × HasUnknown read known word place name
IsQuestionFault table known word (NotGround place) = (read : Table) × InternsEquation word table read × HasVariable read known word place
IsQuestionFault table known word NoMemory = Unit {0}

-- The word of this number, from 0 on, is no question, and those before it are, so that reading them leaves the table.
pub record IsFirstFault (table : Table) (known : List Sym) (words : List (List ℕ)) (number : ℕ) (why : WordFault) : Type 0 where
  pub before : List (Tree × Tree)
  pub are_questions : AreQuestions table known (take number words) before
  pub word : List ℕ
  pub word_is : slice_get words number ≡ Some word
  pub fault : IsQuestionFault table known word why
