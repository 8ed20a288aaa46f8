-- What the readers of lines answer, one behind the other.
use Rattle.std.proofs.Common.{◌≡◌, ◌≢◌, ℕ, ◌<◌, ◌≤◌, List, [], length, length-drop, drop, refl, sym, ap, subst, arith, Some, None}
use Rattle.std.specs.Prelude.{Result, Ok, Err}
use Rattle.std.proofs.lemmas.List.{drop_all}
use Rattle.uc_term.specs.declared.equation.Equation.{Equation}
use Rattle.uc_term.specs.Table.{Table, Grows, Has}
use Rattle.uc_clause.specs.Printable.{IsPrintableSymbol}
use Rattle.uc_clause.proofs.Tables.{grows_not, grows_twice}
use Rattle.uc_order.specs.Members.{Each}
use Rattle.uc_order.specs.declared.spec.OrderSpec.{OrderSpec}
use Rattle.uc_ordering.specs.Meaning.{meaning_of}
use Rattle.uc_ordering.specs.Chosen.{alike}
use Rattle.uc_system.specs.declared.fault.SystemFault.{SystemFault}
use Rattle.uc_system.specs.declared.fault.SystemFault.TheVariants.{Syntax, Version, Limit, NoMemory}
use Rattle.uc_system.specs.declared.header.Header.{Header}
use Rattle.uc_system.specs.declared.lines.Cursor.{Cursor}
use Rattle.uc_system.specs.declared.symbols.Ranks.{Ranks}
use Rattle.uc_system.specs.declared.system.SystemText.{SystemText}
use Rattle.uc_system.specs.Lines.{Outcome, departs, gets, fails, Rule, passed_or, goes_on, fails_first}
use Rattle.uc_system.specs.Header.{header_lines}
use Rattle.uc_system.specs.Symbols.{symbols_in, symbols_fault, are_complete}
use Rattle.uc_system.specs.Facts.{fact_lines}
use Rattle.uc_system.specs.Written.{AreSame}
use Rattle.uc_system.specs.Reads.{Gives, GivesIn, ReadsSymbols}
use Rattle.uc_system.specs.Reading.{spec_of, text_of, system_body, system_lines, reads, goes_further, fails_within, IsReading, SaysSystem, IsSystem, precedence_of}
use Rattle.uc_system.proofs.Precedence.{each_map, symbols_printable}
use Rattle.uc_system.proofs.Stays.{complete_stays}
use Rattle.uc_system.proofs.SystemsRead.{system_is}

-- a refusal, whatever it is
pub refused_in : {V : Type 0} (rule : Table → Rule V) (table : Table) (bytes : List ℕ) (at : Cursor) (fault : SystemFault) → rule table at.number (drop at.from bytes) (fails fault) → GivesIn rule table bytes at (Err fault)
refused_in rule table bytes at (Syntax p) h = h
refused_in rule table bytes at (Version p) h = h
refused_in rule table bytes at (Limit p) h = h
refused_in rule table bytes at NoMemory h = tt

-- the first two lines, and what stands behind them
pub header_fails : (table : Table) (bytes : List ℕ) (at : Cursor) (fault : SystemFault) → Gives header_lines bytes at (Err fault) → GivesIn system_lines table bytes at (Err fault)
header_fails table bytes at fault h = refused_in system_lines table bytes at fault (fails_first h)

pub header_gives : (table : Table) (bytes : List ℕ) (at here : Cursor) (header : Header) (result : Result (SystemText × Cursor) SystemFault) → Gives header_lines bytes at (Ok (header, here)) → GivesIn (λ (t : Table). system_body t header) table bytes here result → GivesIn system_lines table bytes at result
header_gives table bytes at here header (Ok r) g h = ((λ later e. goes_on g.0 (h.0 later e)), h.1)
header_gives table bytes at here header (Err (Syntax p)) g h = goes_on g.0 h
header_gives table bytes at here header (Err (Version p)) g h = goes_on g.0 h
header_gives table bytes at here header (Err (Limit p)) g h = goes_on g.0 h
header_gives table bytes at here header (Err NoMemory) g h = tt

abbrev pub made_of : OrderSpec → List Equation → SystemText
made_of spec es = record { spec = spec; system = record { facts = es } }

-- the symbols' lines
pub symbols_fail : (header : Header) (table : Table) (bytes : List ℕ) (at : Cursor) (fault : SystemFault) → ReadsSymbols header table bytes at (Err fault) → GivesIn (λ (t : Table). system_body t header) table bytes at (Err fault)
symbols_fail header table bytes at (Syntax p) h = fails_first h
symbols_fail header table bytes at (Version p) h = fails_first h
symbols_fail header table bytes at (Limit p) h = fails_first h
symbols_fail header table bytes at NoMemory h = tt

module _ (header : Header) (table : Table) (bytes : List ℕ) (at here : Cursor) (ranks : Ranks) (known : AreSame ranks) (given : ReadsSymbols header table bytes at (Ok (ranks, here))) where
  pub printable : Each (IsPrintableSymbol table) (symbols_in ranks.ranked.items)
  printable = symbols_printable table header ranks.ranked.items here.number (drop here.from bytes) (given.0 table (grows_not table))

  pub known_printable : Each (IsPrintableSymbol table) ranks.known.keys
  known_printable = subst (Each (IsPrintableSymbol table)) (sym known) printable

  pub of_table : Each (Has table) (symbols_in ranks.ranked.items)
  of_table = each_map (IsPrintableSymbol table) (Has table) (λ f p. p.0) (symbols_in ranks.ranked.items) printable

  -- what is wrong with all of them
  pub incomplete : (fault : SystemFault) → symbols_fault table header ranks.ranked.items here.number ≡ Some fault → GivesIn (λ (t : Table). system_body t header) table bytes at (Err fault)
  incomplete fault e = refused_in (λ (t : Table). system_body t header) table bytes at fault (goes_on (given.0 table (grows_not table)) (fails_first (sym (ap (λ f. passed_or f here.number (drop here.from bytes)) e))))

  module _ (none : symbols_fault table header ranks.ranked.items here.number ≡ None) where
    complete_in : (later : Table) → Grows table later → are_complete later header ranks.ranked.items here.number (drop here.from bytes) (gets tt here.number (drop here.from bytes))
    complete_in later g = complete_stays table later g header ranks.ranked.items printable here.number (drop here.from bytes) (gets tt here.number (drop here.from bytes)) (sym (ap (λ f. passed_or f here.number (drop here.from bytes)) none))

    -- the facts
    module _ (later : Table) (grows : Grows table later) where
      facts_fail_by : (fault : SystemFault) → fact_lines later ranks.known.keys here.number (drop here.from bytes) (fails fault) → system_body later header at.number (drop at.from bytes) (fails fault)
      facts_fail_by fault f = goes_on (given.0 later grows) (goes_on (complete_in later grows) (fails_first (subst (λ fs. fact_lines later fs here.number (drop here.from bytes) (fails fault)) known f)))

      pub facts_fail : (fault : SystemFault) → GivesIn (λ (t : Table). fact_lines t ranks.known.keys) later bytes here (Err fault) → GivesIn (λ (t : Table). system_body t header) later bytes at (Err fault)
      facts_fail (Syntax p) f = facts_fail_by (Syntax p) f
      facts_fail (Version p) f = facts_fail_by (Version p) f
      facts_fail (Limit p) f = facts_fail_by (Limit p) f
      facts_fail NoMemory f = tt

    pub facts_give : (later : Table) → Grows table later → (es : List Equation) (end : Cursor) (spec : OrderSpec) → GivesIn (λ (t : Table). fact_lines t ranks.known.keys) later bytes here (Ok (es, end)) → spec ≡ spec_of header.kind ranks.ranked.items → GivesIn (λ (t : Table). system_body t header) later bytes at (Ok (made_of spec es, end))
    facts_give later grows es end spec f e =
        let said : made_of spec es ≡ text_of header.kind ranks.ranked.items es = ap (λ (x : OrderSpec). made_of x es) e in
        let there : (last : Table) → Grows later last → system_body last header at.number (drop at.from bytes) (gets (made_of spec es) end.number (drop end.from bytes)) =
        λ last g. (let both = grows_twice table later last grows g in
        goes_on (given.0 last both) (goes_on (complete_in last both) (goes_on (subst (λ fs. fact_lines last fs here.number (drop here.from bytes) (gets es end.number (drop end.from bytes))) known (f.0 last g)) (ap (λ (x : SystemText). gets x end.number (drop end.from bytes)) said)))) in
        (there, f.1)

-- the whole text
module _ (table : Table) (bytes : List ℕ) (at : Cursor) (from : at.from ≡ 0) (number : at.number ≡ 1) where
  abbrev whole : Outcome SystemText → Type 0
  whole o = system_lines table 1 bytes o

  moved : (o : Outcome SystemText) → system_lines table at.number (drop at.from bytes) o → whole o
  moved o h = subst (λ n. system_lines table n bytes o) number (subst (λ n. system_lines table at.number (drop n bytes) o) from h)

  pub system_fails : (fault : SystemFault) → GivesIn system_lines table bytes at (Err fault) → IsReading table bytes (Err fault)
  system_fails (Syntax p) h = fails_within (moved (fails (Syntax p)) h)
  system_fails (Version p) h = fails_within (moved (fails (Version p)) h)
  system_fails (Limit p) h = fails_within (moved (fails (Limit p)) h)
  system_fails NoMemory h = tt

  module _ (said : SystemText) (end : Cursor) (h : GivesIn system_lines table bytes at (Ok (said, end))) where
    here : whole (gets said end.number (drop end.from bytes))
    here = moved (gets said end.number (drop end.from bytes)) (h.0 table (grows_not table))

    some_rest : end.from < length bytes → drop end.from bytes ≢ []
    some_rest less e = omega (arith, length-drop end.from bytes, ap length e)

    pub further : end.from < length bytes → IsReading table bytes (Err (departs end.number))
    further less = goes_further here (some_rest less)

    pub is_read : length bytes ≤ end.from → IsReading table bytes (Ok said)
    is_read all = reads (subst (λ (x : List ℕ). whole (gets said end.number x)) (drop_all end.from bytes all) here)

    pub says : length bytes ≤ end.from → SaysSystem table bytes (precedence_of said.spec) (meaning_of table said.spec) said.system.facts
    says all = record { spec = said.spec; is_read = is_read all; signature_is = refl; order_is = alike (meaning_of table said.spec) (meaning_of table said.spec) refl }

    pub is_system : IsSystem table said
    is_system = system_is table bytes said end.number (drop end.from bytes) here
