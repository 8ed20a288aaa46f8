-- How the facts' line is taken apart.
use Rattle.std.specs.Prelude.{◌≡◌, ℕ, ◌==◌, not, Bool, List, [], ◌∷◌, ◌++◌, length, map, Some, Vec}
use Rattle.std.specs.List.{prefix_len}
use Rattle.std.specs.declared.alloc.Global.{Global}
use Rattle.uc_clause.specs.Tokens.{place_of}
use Rattle.uc_certificate.specs.declared.fault.CertFault.{CertFault}
use Rattle.uc_certificate.specs.declared.fault.CertFault.TheVariants.{UnknownName, NoMemory}
use Rattle.uc_certificate.specs.Headings.{facts_line, AreNames, AreNumbered, first_unknown, word_start}

-- a byte of a name
abbrev pub in_name : ℕ → Bool
in_name byte = not (byte == 32)

-- names, as vectors hold them
abbrev pub names_of : List (Vec ℕ Global) → List (List ℕ)
names_of keys = map (λ name. name.items) keys

-- no space begins the text
abbrev pub IsNoSplit : List ℕ → Type 0
IsNoSplit text = (names : List ℕ) → text ≡ 32 ∷ names → ⊥

-- a space does, the name stands behind it up to the next space or the end, and then the rest
pub record IsSplit (text name rest : List ℕ) : Type 0 where
  pub is : text ≡ 32 ∷ name ++ rest
  pub longest : length name ≡ prefix_len in_name (name ++ rest)

-- the line is no facts' line
abbrev pub HasNoNames : List ℕ → Type 0
HasNoNames line = (words : List (List ℕ)) → AreNames words → line ≡ facts_line words → ⊥

-- it is one with so many names
pub record HasNames (line : List ℕ) (count : ℕ) : Type 0 where
  pub words : List (List ℕ)
  pub names : AreNames words
  pub is : line ≡ facts_line words
  pub many : length words ≡ count

-- the numbers of the lines that a facts' line names, among lines of these names
abbrev pub NumbersOf : List (List ℕ) → List ℕ → List ℕ → Type 0
NumbersOf names line numbers = (words : List (List ℕ)) → AreNames words → line ≡ facts_line words → AreNumbered names words numbers

-- where in the text the first name stands that no line has, in the facts' line that begins at a byte
abbrev pub NoNumbersOf : List ℕ → ℕ → List (List ℕ) → List ℕ → CertFault → Type 0
NoNumbersOf text at names line (UnknownName place) = (words : List (List ℕ)) → AreNames words → line ≡ facts_line words → (k : ℕ) × (first_unknown names words ≡ Some k) × (place ≡ place_of text (word_start text at words k))
NoNumbersOf text at names line NoMemory = Unit {0}
NoNumbersOf text at names line fault = ⊥
