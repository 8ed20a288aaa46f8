use Rattle.std.proofs.Common.{◌≡◌, ◌-◌, List, [], length, drop}
use Rattle.uc_term.specs.Table.{Table, Grows}
use Rattle.uc_system.specs.declared.symbols.Ranked.{Ranked}
use Rattle.uc_system.specs.Lines.{Outcome}
use Rattle.uc_system.specs.Places.{IsAt}
use Rattle.uc_system.specs.Symbols.{symbols_in, SymbolsAt}
use Rattle.uc_system.specs.Interning.{InternsSymbols}
use Rattle.uc_system.proofs.symbols.symbols_at.Given as goal

abbrev pub invariant-lines : goal.invariant-lines
invariant-lines l = record {
  stands : IsAt l.bytes l.here;
  same : l.ranks.known.keys ≡ symbols_in l.ranks.ranked.items;
  grows : Grows l.initial.symbols l.symbols;
  interns : (last : Table) → InternsSymbols l.header.kind (drop l.here.from l.bytes) l.symbols last → InternsSymbols l.header.kind (drop l.fn.at.from l.bytes) l.initial.symbols last;
  leads : (later : Table) → Grows l.symbols later → (o : Outcome (List Ranked)) → SymbolsAt later l.header l.ranks.ranked.items l.here.number (drop l.here.from l.bytes) o → SymbolsAt later l.header [] l.fn.at.number (drop l.fn.at.from l.bytes) o;
}

abbrev pub decreases-lines : goal.decreases-lines
decreases-lines l = length l.bytes - l.here.from
