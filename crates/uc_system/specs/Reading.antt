-- What a text reads as: a description of an order with a system, or why not.
use Rattle.std.specs.Prelude.{◌≡◌, ◌≢◌, ℕ, List, [], Result, Ok, Err}
use Rattle.uc_term.specs.declared.node.Sym.{Sym}
use Rattle.uc_term.specs.declared.equation.Equation.{Equation}
use Rattle.uc_term.specs.Table.{Table}
use Rattle.uc_order.specs.Laws.{Meaning}
use Rattle.uc_order.specs.Members.{Each}
use Rattle.uc_order.specs.declared.spec.OrderSpec.{OrderSpec}
use Rattle.uc_order.specs.declared.spec.OrderSpec.TheVariants.{Kbo, Lpo}
use Rattle.uc_ordering.specs.Fits.{Fits}
use Rattle.uc_ordering.specs.Meaning.{meaning_of, SayAlike}
use Rattle.uc_system.specs.declared.fault.SystemFault.{SystemFault}
use Rattle.uc_system.specs.declared.fault.SystemFault.TheVariants.{NoMemory}
use Rattle.uc_system.specs.declared.header.Kind.{Kind}
use Rattle.uc_system.specs.declared.header.Kind.TheVariants.{Weighing, Paths}
use Rattle.uc_system.specs.declared.header.Header.{Header}
use Rattle.uc_system.specs.declared.symbols.Ranked.{Ranked}
use Rattle.uc_system.specs.declared.system.SystemText.{SystemText}
use Rattle.uc_system.specs.Lines.{departs, gets, fails, Rule, ◌>>=◌, gives}
use Rattle.uc_system.specs.Header.{header_lines}
use Rattle.uc_system.specs.Symbols.{symbols_in, weights_in, symbol_lines, are_complete}
use Rattle.uc_system.specs.Facts.{fact_lines, IsFact}

-- the symbols of a description, the least first
abbrev pub precedence_of : OrderSpec → List Sym
precedence_of (Kbo w0 weights precedence) = precedence
precedence_of (Lpo precedence) = precedence

-- the description that the symbols' lines make
abbrev pub spec_of : Kind → List Ranked → OrderSpec
spec_of (Weighing w0) ss = Kbo w0 (weights_in ss) (symbols_in ss)
spec_of Paths ss = Lpo (symbols_in ss)

abbrev pub text_of : Kind → List Ranked → List Equation → SystemText
text_of kind ss es = record { spec = spec_of kind ss; system = record { facts = es } }

module _ (table : Table) where
  -- what stands behind the first two lines
  abbrev pub system_body : Header → Rule SystemText
  system_body header = do
    ss ← symbol_lines table header
    _ ← are_complete table header ss
    es ← fact_lines table (symbols_in ss)
    gives (text_of header.kind ss es)

  -- the lines of a system
  abbrev pub system_lines : Rule SystemText
  system_lines = do
    header ← header_lines
    system_body header

  module _ (text : List ℕ) where
    -- a text is read from its first line to its last, behind which nothing stands
    pub data ReadsSystem : Result SystemText SystemFault → Type 0 where
      reads : {n : ℕ} {said : SystemText} → system_lines 1 text (gets said n []) → ReadsSystem (Ok said)
      goes_further : {n : ℕ} {said : SystemText} {rest : List ℕ} → system_lines 1 text (gets said n rest) → rest ≢ [] → ReadsSystem (Err (departs n))
      fails_within : {fault : SystemFault} → system_lines 1 text (fails fault) → ReadsSystem (Err fault)

    -- the same, where want of memory is the one free answer
    abbrev pub IsReading : Result SystemText SystemFault → Type 0
    IsReading (Err NoMemory) = Unit {0}
    IsReading answer = ReadsSystem answer

    -- the text says this signature, the least symbol first, this order and these facts
    pub record SaysSystem (signature : List Sym) (order : Meaning) (es : List Equation) : Type 0 where
      pub spec : OrderSpec
      pub is_read : ReadsSystem (Ok (record { spec = spec; system = record { facts = es } }))
      pub signature_is : signature ≡ precedence_of spec
      pub order_is : SayAlike order (meaning_of table spec)

  -- the description is one of its own symbols, and the facts are over them
  pub record IsSystem (said : SystemText) : Type 0 where
    pub fits : Fits table (precedence_of said.spec) said.spec
    pub facts : Each (IsFact table (precedence_of said.spec)) said.system.facts
