-- What stands in a symbol's line, as its reader takes it apart.
use Rattle.std.specs.Prelude.{◌≡◌, ℕ, ◌-◌, ◌^◌, ◌==◌, ◌++◌, not, min, true, List, [], ◌∷◌, codes, Option, Some, None, if◌then◌else◌}
use Rattle.std.specs.List.{list_all}
use Rattle.uc_clause.specs.declared.token.Kind.{Kind as TokenKind}
use Rattle.uc_clause.specs.declared.token.Kind.TheVariants.{Lower, Quoted}
use Rattle.uc_clause.specs.Names.{IsSpellable, spelling}
use Rattle.uc_system.specs.declared.header.Kind.{Kind}
use Rattle.uc_system.specs.declared.header.Kind.TheVariants.{Weighing, Paths}
use Rattle.uc_system.specs.declared.symbols.Ranks.{Ranks}
use Rattle.uc_system.specs.Numerals.{is_numeral, value_of}
use Rattle.uc_system.specs.Symbols.{symbol_words, IsWeight, symbols_in}

-- no space is among the bytes
abbrev pub HasNoSpace : List ℕ → Type 0
HasNoSpace text = list_all (λ b. not (b == 32)) text ≡ true

-- the two stand before the last space of the text and behind it
pub record IsSplit (text front back : List ℕ) : Type 0 where
  pub is : text ≡ front ++ 32 ∷ back
  pub last : HasNoSpace back

-- a line with the name spelled so, whatever that is
abbrev pub written_line : Kind → List ℕ → List ℕ → List ℕ → List ℕ
written_line (Weighing w0) spelled arity weight = symbol_words ++ spelled ++ codes " " ++ arity ++ codes " " ++ weight
written_line Paths spelled arity weight = symbol_words ++ spelled ++ codes " " ++ arity

-- a number as it is kept
abbrev pub kept : List ℕ → ℕ
kept digits = min (value_of digits) (2 ^ 32 - 1)

pub record IsWritten (kind : Kind) (line spelled : List ℕ) (arity weight : ℕ) : Type 0 where
  pub arity_digits : List ℕ
  pub weight_digits : List ℕ
  pub is_arity : is_numeral arity_digits ≡ true
  pub is_weight : IsWeight kind weight_digits
  pub is : line ≡ written_line kind spelled arity_digits weight_digits
  pub arity_is : arity ≡ kept arity_digits
  pub weight_is : weight ≡ kept weight_digits

abbrev pub IsNotWritten : Kind → List ℕ → Type 0
IsNotWritten kind line = (spelled arity weight : List ℕ) → is_numeral arity ≡ true → IsWeight kind weight → line ≡ written_line kind spelled arity weight → ⊥

-- what stands before the weight, taken apart likewise
pub record IsNamed (text spelled : List ℕ) (arity : ℕ) : Type 0 where
  pub arity_digits : List ℕ
  pub is_arity : is_numeral arity_digits ≡ true
  pub is : text ≡ spelled ++ codes " " ++ arity_digits
  pub arity_is : arity ≡ kept arity_digits

abbrev pub IsNotNamed : List ℕ → Type 0
IsNotNamed text = (spelled arity : List ℕ) → is_numeral arity ≡ true → text ≡ spelled ++ codes " " ++ arity → ⊥

-- the kind of the token that a spelling is
abbrev pub kind_at : List ℕ → TokenKind
kind_at [] = Lower
kind_at (b ∷ bs) = if b == 39 then Quoted else Lower

-- the word that is spelled so, if one is
abbrev pub IsWordOf : List ℕ → Option (List ℕ) → Type 0
IsWordOf spelled None = (name : List ℕ) → IsSpellable name → spelled ≡ spelling name → ⊥
IsWordOf spelled (Some name) = IsSpellable name × (spelled ≡ spelling name)

-- the same symbols are ranked and known
abbrev pub AreSame : Ranks → Type 0
AreSame ranks = ranks.known.keys ≡ symbols_in ranks.ranked.items
