-- The symbols' lines, read one behind the other.
use Rattle.std.proofs.Common.{◌≡◌, ℕ, Bool, true, false, if◌then◌else◌, List, [], ◌∷◌, ◌++◌, drop, sym, ap, ◌∙◌, subst}
use Rattle.std.specs.Prelude.{Ok, Err}
use Rattle.std.proofs.lemmas.List.{map-append}
use Rattle.uc_term.specs.declared.node.Sym.{Sym}
use Rattle.uc_term.specs.Table.{Table, Grows}
use Rattle.uc_system.specs.declared.fault.SystemFault.{SystemFault}
use Rattle.uc_system.specs.declared.fault.SystemFault.TheVariants.{Syntax, Version, Limit, NoMemory}
use Rattle.uc_system.specs.declared.header.Header.{Header}
use Rattle.uc_system.specs.declared.lines.Cursor.{Cursor}
use Rattle.uc_system.specs.declared.symbols.Ranked.{Ranked}
use Rattle.uc_system.specs.Lines.{Outcome, gets, fails}
use Rattle.uc_system.specs.Symbols.{begins_symbol, is_one_of, symbols_in, SymbolAt, SymbolsAt, no_more_symbols, one_more_symbol, fails_in_symbol}
use Rattle.uc_system.specs.Reads.{GivesIn, ReadsSymbols}

module _ (header : Header) (bytes : List ℕ) (ranked : List Ranked) (keys : List Sym) (same : keys ≡ symbols_in ranked) (here : Cursor) (begins : begins_symbol (drop here.from bytes) ≡ true) where
  pub one_more : (table : Table) (s : Ranked) (next : Cursor) → GivesIn (λ (t : Table). SymbolAt t header keys) table bytes here (Ok (s, next)) → (later : Table) → Grows table later → (o : Outcome (List Ranked)) → SymbolsAt later header (ranked ++ s ∷ []) next.number (drop next.from bytes) o → SymbolsAt later header ranked here.number (drop here.from bytes) o
  one_more table s next h later g o more = one_more_symbol begins (subst (λ fs. SymbolAt later header fs here.number (drop here.from bytes) (gets s next.number (drop next.from bytes))) same (h.0 later g)) more

  module _ (table : Table) (at : Cursor) (leads : (o : Outcome (List Ranked)) → SymbolsAt table header ranked here.number (drop here.from bytes) o → SymbolsAt table header [] at.number (drop at.from bytes) o) where
    refused_by : (fault : SystemFault) → SymbolAt table header keys here.number (drop here.from bytes) (fails fault) → SymbolsAt table header [] at.number (drop at.from bytes) (fails fault)
    refused_by fault h = leads (fails fault) (fails_in_symbol begins (subst (λ fs. SymbolAt table header fs here.number (drop here.from bytes) (fails fault)) same h))

    pub refused : (fault : SystemFault) → GivesIn (λ (t : Table). SymbolAt t header keys) table bytes here (Err fault) → ReadsSymbols header table bytes at (Err fault)
    refused (Syntax p) h = refused_by (Syntax p) h
    refused (Version p) h = refused_by (Version p) h
    refused (Limit p) h = refused_by (Limit p) h
    refused NoMemory h = tt

pub none_left : (table : Table) (header : Header) (bytes : List ℕ) (ranked : List Ranked) (here : Cursor) → begins_symbol (drop here.from bytes) ≡ false → SymbolsAt table header ranked here.number (drop here.from bytes) (gets ranked here.number (drop here.from bytes))
none_left table header bytes ranked here h = no_more_symbols h

pub keys_more : (known after : List Sym) (s : Ranked) (ranked : List Ranked) → after ≡ (if is_one_of s.symbol known then known else known ++ s.symbol ∷ []) → is_one_of s.symbol known ≡ false → known ≡ symbols_in ranked → after ≡ symbols_in (ranked ++ s ∷ [])
keys_more known after s ranked e n same = e ∙ ap (λ (b : Bool). if b then known else known ++ s.symbol ∷ []) n ∙ ap (λ fs. fs ++ s.symbol ∷ []) same ∙ sym (map-append (λ (r : Ranked). r.symbol) ranked (s ∷ []))
