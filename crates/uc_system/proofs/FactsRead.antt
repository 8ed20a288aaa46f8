-- The facts' lines, read one behind the other.
use Rattle.std.proofs.Common.{◌≡◌, true, false, ℕ, ◌+◌, ◌<◌, ◌^◌, List, [], ◌∷◌, ◌++◌, length, drop, sym, ap, ◌∙◌, subst, arith, inl, inr}
use Rattle.std.specs.Prelude.{Bool, Option, None, Result, Ok, Err, IfOk, IfSome}
use Rattle.std.specs.declared.alloc.AllocError.{AllocError}
use Rattle.uc_term.specs.declared.node.Sym.{Sym}
use Rattle.uc_term.specs.declared.equation.Equation.{Equation}
use Rattle.uc_term.specs.Table.{Table, Grows}
use Rattle.uc_clause.specs.declared.fault.ClauseFault.{ClauseFault}
use Rattle.uc_clause.specs.declared.fault.ClauseFault.TheVariants as clause
use Rattle.uc_clause.specs.Items.{equals_alone}
use Rattle.uc_clause.specs.Reading.{Refuses, IsFault}
use Rattle.uc_clause.specs.Printable.{IsPrintableSymbol}
use Rattle.uc_order.specs.Members.{Each}
use Rattle.uc_system.specs.declared.facts.Unread.{Unread}
use Rattle.uc_system.specs.declared.facts.Unread.TheVariants as unread
use Rattle.uc_system.specs.declared.lines.Cursor.{Cursor}
use Rattle.uc_system.specs.Lines.{departs, Outcome, gets, fails}
use Rattle.uc_system.specs.Places.{IsNext}
use Rattle.uc_system.specs.Facts.{end_line, IsFactLine, FactsAt, no_more_facts, one_more_fact, has_large_term, is_no_fact, fact_lines}
use Rattle.uc_system.specs.Reads.{GivesIn}
use Rattle.uc_system.specs.Unread.{IsFactText, IsFactIn, wants_memory, IsUnreadLine, ReadsFactLine, IsShort, line_fault}
use Rattle.uc_system.proofs.Precedence.{each_map}
use Rattle.uc_system.proofs.Stays.{printable_stays}
use Rattle.uc_system.proofs.FactChecks.{refused_no_fact}
use Rattle.uc_system.proofs.FactReading.{large_line_within}

pub known_later : (old new : Table) → Grows old new → (keys : List Sym) → Each (IsPrintableSymbol old) keys → Each (IsPrintableSymbol new) keys
known_later old new g keys all = each_map (IsPrintableSymbol old) (IsPrintableSymbol new) (printable_stays old new g) keys all

no_want : (fault : ClauseFault) → fault ≡ clause.NoMemory → wants_memory fault ≡ false → ⊥
no_want fault e n = let both : true ≡ false = ap wants_memory (sym e) ∙ n in cc

-- a text that isn't read as an equation is no fact
pub unread_no_fact : (table : Table) (keys : List Sym) → Each (IsPrintableSymbol table) keys → (text : List ℕ) (fault : ClauseFault) → IsFault (Refuses equals_alone text) fault → wants_memory fault ≡ false → (e : Equation) → IsFactText table keys text e → ⊥
unread_no_fact table keys printable text fault (inl r) n = refused_no_fact table keys printable text fault r
unread_no_fact table keys printable text fault (inr m) n = absurd (no_want fault m n)

pub none_in : (table : Table) (keys : List Sym) → Each (IsPrintableSymbol table) keys → (text : List ℕ) (fault : ClauseFault) → IsFault (Refuses equals_alone text) fault → (result : Result (Option Equation) AllocError) → IfOk result (λ found. (found ≡ None) × (wants_memory fault ≡ false)) → IfOk result (IsFactIn table keys text)
none_in table keys printable text fault r (Ok found) h = subst (IsFactIn table keys text) (sym h.0) (unread_no_fact table keys printable text fault r h.1)
none_in table keys printable text fault r (Err e) h = tt

-- nothing is found
pub none_keeps : (old new : Table) (wants : Bool) (result : Result (Option Equation) AllocError) → IfOk result (λ found. (found ≡ None) × (wants ≡ false)) → IfOk result (λ found. IfSome found (λ _. new ≡ old))
none_keeps old new wants (Ok found) h = subst (λ (o : Option Equation). IfSome o (λ _. new ≡ old)) (sym h.0) tt
none_keeps old new wants (Err e) h = tt

-- a fault of a line has a column
pub short_in_line : (table : Table) (keys : List Sym) (k : ℕ) (line : List ℕ) → length line < 2 ^ 31 → (u : Unread) → IsUnreadLine table keys k line u → IsShort u
short_in_line table keys k line small unread.Departs h = tt
short_in_line table keys k line small (unread.Large from) h = omega (arith, large_line_within table keys k line from h)
short_in_line table keys k line small unread.NoMemory h = tt

-- the line that stands behind these facts
module _ (keys : List Sym) (bytes : List ℕ) (facts : List Equation) (here next : Cursor) (line : List ℕ) (is : IsNext bytes here line next) where
  abbrev FromHere : Table → Outcome (List Equation) → Type 0
  FromHere table o = FactsAt table keys facts here.number (drop here.from bytes) o

  pub last_line : (table : Table) → line ≡ end_line → FromHere table (gets facts next.number (drop next.from bytes))
  last_line table e = subst (λ n. FromHere table (gets facts n (drop next.from bytes))) (sym is.number) (no_more_facts is.is e)

  module _ (table : Table) (k : ℕ) (number : k ≡ length facts + 1) where
    pub one_more : (fact : Equation) → ReadsFactLine table keys k line (Ok fact) → (later : Table) → Grows table later → (o : Outcome (List Equation)) → FactsAt later keys (facts ++ fact ∷ []) next.number (drop next.from bytes) o → FromHere later o
    one_more fact reads later g o h = one_more_fact is.is (subst (λ n. IsFactLine later keys n line fact) number (reads later g)) (subst (λ n. FactsAt later keys (facts ++ fact ∷ []) n (drop next.from bytes) o) is.number h)

    module _ (at : Cursor) (leads : (o : Outcome (List Equation)) → FromHere table o → FactsAt table keys [] at.number (drop at.from bytes) o) where
      refused_by : (u : Unread) → (line ≡ end_line → ⊥) → IsUnreadLine table keys (length facts + 1) line u → GivesIn (λ (t : Table). fact_lines t keys) table bytes at (Err (line_fault here.number u))
      refused_by unread.Departs other h = leads (fails (departs here.number)) (is_no_fact is.is other h.0 h.1)
      refused_by (unread.Large from) other h = leads (fails (line_fault here.number (unread.Large from))) (has_large_term is.is h)
      refused_by unread.NoMemory other h = tt

      pub refused : (u : Unread) → (line ≡ end_line → ⊥) → IsUnreadLine table keys k line u → GivesIn (λ (t : Table). fact_lines t keys) table bytes at (Err (line_fault here.number u))
      refused u other h = refused_by u other (subst (λ n. IsUnreadLine table keys n line u) number h)
