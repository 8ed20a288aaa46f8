use Rattle.std.proofs.Common.{◌≡◌, ◌-◌, ◌≤◌, List, [], length, drop}
use Rattle.uc_term.specs.declared.equation.Equation.{Equation}
use Rattle.uc_term.specs.Table.{Table, Grows}
use Rattle.uc_clause.specs.Printable.{IsPrintableSymbol}
use Rattle.uc_order.specs.Members.{Each}
use Rattle.uc_system.specs.Lines.{Outcome}
use Rattle.uc_system.specs.Places.{IsAt}
use Rattle.uc_system.specs.Facts.{FactsAt}
use Rattle.uc_system.proofs.facts.facts_at.Given as goal

abbrev pub invariant-lines : goal.invariant-lines
invariant-lines l = record {
  stands : IsAt l.bytes l.here;
  few : length l.facts.items ≤ l.here.from;
  grows : Grows l.initial.symbols l.symbols;
  same : l.symbols ≡ l.initial.symbols;
  known_ones : Each (IsPrintableSymbol l.symbols) l.known.keys;
  leads : (later : Table) → Grows l.symbols later → (o : Outcome (List Equation)) → FactsAt later l.known.keys l.facts.items l.here.number (drop l.here.from l.bytes) o → FactsAt later l.known.keys [] l.fn.at.number (drop l.fn.at.from l.bytes) o;
}

abbrev pub decreases-lines : goal.decreases-lines
decreases-lines l = length l.bytes - l.here.from
