-- The signature of a list of terms.
use Rattle.std.specs.Prelude.{ℕ, zero, suc, ◌≡◌, ◌<◌, ◌≤◌, ◌+◌, ◌==◌, Bool, true, false, List, [], ◌∷◌, ◌++◌, length, codes, decimal, bytes_eq, Option, Some, None, Result, Ok, Err, if◌then◌else◌}
use Rattle.std.specs.List.{list_any}
use Rattle.uc_term.specs.declared.node.Sym.{Sym}
use Rattle.uc_term.specs.declared.fault.TermFault.{TermFault}
use Rattle.uc_term.specs.declared.fault.TermFault.TheVariants.{ArityClash, TooMany, NoMemory}
use Rattle.uc_term.specs.declared.node.Node.{Node}
use Rattle.uc_term.specs.declared.node.Node.TheVariants.{Var, App}
use Rattle.uc_term.specs.declared.signature.Signature.{Signature}
use Rattle.uc_term.specs.Tree.{Tree}
use Rattle.uc_term.specs.Flat.{flat}
use Rattle.uc_term.specs.Table.{Table, IsSymbol, name_of, arity_of}

-- where a symbol occurs: at this place, in prefix order, of the term of this number
pub record Occurrence : Type 0 where
  pub term : ℕ
  pub place : ℕ
  pub symbol : Sym

-- the occurrences in a term's nodes from a place on
abbrev pub occurrences_in : ℕ → ℕ → List Node → List Occurrence
occurrences_in term place [] = []
occurrences_in term place (Var x ∷ ns) = occurrences_in term (place + 1) ns
occurrences_in term place (App f n ∷ ns) = record { term = term; place = place; symbol = f } ∷ occurrences_in term (place + 1) ns

-- the occurrences in terms, numbered from here on: terms in order, each from left to right
abbrev pub occurrences_from : ℕ → List Tree → List Occurrence
occurrences_from term [] = []
occurrences_from term (t ∷ ts) = occurrences_in term 0 (flat t) ++ occurrences_from (term + 1) ts

abbrev pub occurrences_of : List Tree → List Occurrence
occurrences_of ts = occurrences_from 0 ts

abbrev pub same_symbol : Sym → Sym → Bool
same_symbol f g = f.0 == g.0

abbrev pub MAX_SYMBOLS : ℕ
MAX_SYMBOLS = 60000

module _ (table : Table) where
  -- the first of these symbols that has this name
  abbrev pub first_named : List ℕ → List Sym → Option Sym
  first_named name [] = None
  first_named name (f ∷ fs) = if bytes_eq (name_of table f) name then Some f else first_named name fs

  -- What the occurrences come to, behind symbols that are seen: all symbols by first occurrence; or the first occurrence whose
  -- name was seen with another arity, or that is of the 60,001st symbol.
  pub data Gathers : List Sym → List Occurrence → Result (List Sym) TermFault → Type 0 where
    all_seen : {seen : List Sym} → Gathers seen [] (Ok seen)
    seen_before : {seen : List Sym} {o : Occurrence} {os : List Occurrence} {r : Result (List Sym) TermFault} → list_any (same_symbol o.symbol) seen ≡ true → Gathers seen os r → Gathers seen (o ∷ os) r
    is_new : {seen : List Sym} {o : Occurrence} {os : List Occurrence} {r : Result (List Sym) TermFault} → first_named (name_of table o.symbol) seen ≡ None → length seen < MAX_SYMBOLS → Gathers (seen ++ o.symbol ∷ []) os r → Gathers seen (o ∷ os) r
    clashes : {seen : List Sym} {o : Occurrence} {os : List Occurrence} {f : Sym} → list_any (same_symbol o.symbol) seen ≡ false → first_named (name_of table o.symbol) seen ≡ Some f → Gathers seen (o ∷ os) (Err (ArityClash o.term (record { 0 = o.place }) (arity_of table f) (arity_of table o.symbol)))
    is_too_many : {seen : List Sym} {o : Occurrence} {os : List Occurrence} → first_named (name_of table o.symbol) seen ≡ None → MAX_SYMBOLS ≤ length seen → Gathers seen (o ∷ os) (Err (TooMany o.term (record { 0 = o.place })))

  -- the first constant among these symbols
  abbrev pub first_constant : List Sym → Option Sym
  first_constant [] = None
  first_constant (f ∷ fs) = if arity_of table f == 0 then Some f else first_constant fs

-- The names that are tried for a fresh symbol: the word itself, then the word with `_1`, `_2` and so on behind it.
abbrev pub tried_name : List ℕ → ℕ → List ℕ
tried_name word zero = word
tried_name word (suc n) = word ++ codes "_" ++ decimal (n + 1)

-- no symbol among these has this name
abbrev pub IsFree : Table → List Sym → List ℕ → Type 0
IsFree table fs name = first_named table name fs ≡ None

-- f has this arity and the first of the tried names that none of these symbols has
pub record IsFreshFor (table : Table) (word : List ℕ) (arity : ℕ) (fs : List Sym) (f : Sym) : Type 0 where
  pub number : ℕ
  pub symbol : IsSymbol table f (tried_name word number) arity
  pub free : IsFree table fs (tried_name word number)
  pub first : (n : ℕ) → n < number → IsFree table fs (tried_name word n) → ⊥

abbrev pub least_word : List ℕ
least_word = codes "least"

-- the symbols with their first constant, or with a fresh constant at their end where they have none
pub data Completes (table : Table) (fs : List Sym) : Signature → Type 0 where
  has_constant : {c : Sym} → first_constant table fs ≡ Some c → Completes table fs (record { symbols = fs; least = c; least_is_fresh = false })
  gets_constant : {c : Sym} → first_constant table fs ≡ None → IsFreshFor table least_word 0 fs c → Completes table fs (record { symbols = fs ++ c ∷ []; least = c; least_is_fresh = true })

-- the signature of the terms in a table
pub record IsSignatureOf (table : Table) (ts : List Tree) (signature : Signature) : Type 0 where
  pub symbols : List Sym
  pub gathers : Gathers table [] (occurrences_of ts) (Ok symbols)
  pub completes : Completes table symbols signature

-- the terms have no signature; want of memory is free
abbrev pub IsSignatureFault : Table → List Tree → TermFault → Type 0
IsSignatureFault table ts NoMemory = Unit {0}
IsSignatureFault table ts fault = Gathers table [] (occurrences_of ts) (Err fault)
