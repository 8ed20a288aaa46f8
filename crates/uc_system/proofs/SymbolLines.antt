-- What the reader of a symbol's line answers.
use Rattle.std.proofs.Common.{◌≡◌, ℕ, ◌+◌, ◌<◌, ◌≤◌, ◌^◌, List, length, drop, Bool, sym, ap, ◌∙◌, subst, arith, Option, Some, None}
use Rattle.std.specs.Prelude.{Result, Ok, Err}
use Rattle.uc_term.specs.declared.node.Sym.{Sym}
use Rattle.uc_term.specs.Table.{Table, IsSymbol}
use Rattle.uc_system.specs.declared.fault.SystemFault.{SystemFault}
use Rattle.uc_system.specs.declared.fault.SystemFault.TheVariants.{Limit}
use Rattle.uc_system.specs.declared.header.Header.{Header}
use Rattle.uc_system.specs.declared.lines.Cursor.{Cursor}
use Rattle.uc_system.specs.declared.symbols.Ranked.{Ranked}
use Rattle.uc_system.specs.Lines.{Cut, first_line, place_in, departs, gets}
use Rattle.uc_system.specs.Symbols.{IsFollowed, is_one_of, symbol_fault, SymbolAt, is_no_whole_line, is_no_symbol}
use Rattle.uc_system.specs.Places.{IsNext}
use Rattle.uc_system.specs.Written.{IsWritten, IsNotWritten, IsWordOf}
use Rattle.uc_system.specs.Reads.{GivesIn}
use Rattle.uc_system.proofs.Stays.{symbol_stays}
use Rattle.uc_system.proofs.Taken.{spelled_short}
use Rattle.uc_system.proofs.SymbolReading.{not_written_no_symbol, no_word_no_symbol, too_many, refused, taken}
use Rattle.uc_system.proofs.Readers.{refused_in}

pub no_line : (table : Table) (header : Header) (keys : List Sym) (bytes : List ℕ) (at : Cursor) → first_line (drop at.from bytes) ≡ None → GivesIn (λ (t : Table). SymbolAt t header keys) table bytes at (Err (departs at.number))
no_line table header keys bytes at e = is_no_whole_line e

module _ (table : Table) (header : Header) (keys : List Sym) (bytes : List ℕ) (at next : Cursor) (line : List ℕ) (is : IsNext bytes at line next) where
  abbrev Answer : Result (Ranked × Cursor) SystemFault → Type 0
  Answer = GivesIn (λ (t : Table). SymbolAt t header keys) table bytes at

  pub no_symbol : IsNotWritten header.kind line → Answer (Err (departs at.number))
  no_symbol n = is_no_symbol is.is (not_written_no_symbol header.kind line n)

  module _ (spelled : List ℕ) (arity weight : ℕ) (h : IsWritten header.kind line spelled arity weight) where
    pub no_name : IsWordOf spelled None → Answer (Err (departs at.number))
    no_name n = is_no_symbol is.is (no_word_no_symbol header.kind line spelled arity weight h n)

    -- a fault's place has a column
    pub near : length bytes < 2 ^ 31 → 9 + length spelled + 1 < 2 ^ 31
    near small = omega (arith, spelled_short header.kind line spelled arity weight h, is.short)

    abbrev cut : Cut
    cut = record { line = line; rest = drop next.from bytes }

    -- what is wrong with it, as the reader finds it
    pub wrong_is_so : (f : Sym) (wrong : Option SystemFault) (repeated followed : Bool) → wrong ≡ symbol_fault header repeated followed at.number arity weight → repeated ≡ is_one_of f keys → wrong ≡ symbol_fault header (is_one_of f keys) followed at.number arity weight
    wrong_is_so f wrong repeated followed e r = e ∙ ap (λ x. symbol_fault header x followed at.number arity weight) r

    module _ (name : List ℕ) (word : IsWordOf spelled (Some name)) where
      pub too_many_arguments : 255 < arity → Answer (Err (Limit (place_in at.number (9 + length spelled + 1))))
      too_many_arguments big = too_many table header keys at.number (drop at.from bytes) cut is.is spelled arity weight h name word.0 word.1 big

      module _ (few : arity ≤ 255) (f : Sym) (symbol : IsSymbol table f name arity) (followed : Bool) (is_followed : IsFollowed header.kind (drop next.from bytes) followed) (wrong : Option SystemFault) (wrong_is : wrong ≡ symbol_fault header (is_one_of f keys) followed at.number arity weight) where
        pub symbol_wrong : (fault : SystemFault) → wrong ≡ Some fault → Answer (Err fault)
        symbol_wrong fault e = refused_in (λ (t : Table). SymbolAt t header keys) table bytes at fault (refused table header keys at.number (drop at.from bytes) cut is.is spelled arity weight h name word.0 word.1 few f symbol followed is_followed fault (sym wrong_is ∙ e))

        pub symbol_right : wrong ≡ None → Answer (Ok (record { symbol = f; weight = weight }, next))
        symbol_right e =
            let here : SymbolAt table header keys at.number (drop at.from bytes) (gets (record { symbol = f; weight = weight }) (at.number + 1) (drop next.from bytes)) = taken table header keys at.number (drop at.from bytes) cut is.is spelled arity weight h name word.0 word.1 few f symbol followed is_followed (sym wrong_is ∙ e) in
            let there : SymbolAt table header keys at.number (drop at.from bytes) (gets (record { symbol = f; weight = weight }) next.number (drop next.from bytes)) = subst (λ n. SymbolAt table header keys at.number (drop at.from bytes) (gets (record { symbol = f; weight = weight }) n (drop next.from bytes))) (sym is.number) here in
            ((λ later g. symbol_stays table later g header there), is.stands)
