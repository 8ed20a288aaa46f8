-- What is read as a system from any line of a text on is one.
use Rattle.std.proofs.Common.{◌≡◌, ℕ, ◌+◌, Bool, true, false, List, [], ◌∷◌, ◌++◌, length, refl, sym, ap, ap₂, ◌∙◌, subst, Option, Some, None, if◌then◌else◌}
use Rattle.std.specs.Prelude.{◌&&◌, ◌||◌, not, drop, codes, bytes_eq, nat_eq}
use Rattle.std.specs.List.{starts_with}
use Rattle.uc_term.specs.declared.node.Sym.{Sym}
use Rattle.uc_term.specs.declared.equation.Equation.{Equation}
use Rattle.uc_term.specs.Table.{Table}
use Rattle.uc_system.specs.declared.fault.SystemFault.{SystemFault}
use Rattle.uc_system.specs.declared.system.SystemText.{SystemText}
use Rattle.uc_system.specs.Lines.{Cut, first_line, departs, Outcome, gets, fails, passed_or, value_or, picked, goes_on}
use Rattle.uc_system.specs.Header.{system_words, heading_line, is_other_version, heading_of, version_by, version_of, kind_of, is_light_path, kind_fault, header_lines}
use Rattle.uc_system.specs.Symbols.{symbols_in, is_bad_weight, weighs_nothing, is_one_of, symbol_fault, ranked_or, SymbolAt, is_no_whole_line, is_no_symbol, has_too_many, is_symbol, SymbolsAt, no_more_symbols, one_more_symbol, fails_in_symbol, has_light, has_constant, symbols_fault}
use Rattle.uc_system.specs.Numerals.{value_of}
use Rattle.uc_system.specs.Facts.{FactsAt, no_more_facts, one_more_fact, has_large_term, is_no_fact}
use Rattle.uc_system.specs.Facts as facts
use Rattle.uc_system.specs.Reading.{text_of, system_lines, IsSystem}
use Rattle.uc_system.proofs.Precedence.{ranked_is}
use Rattle.uc_system.proofs.SystemsRead.{system_is}
use Rattle.uc_certificate.proofs.SystemPasses.{gets_rest, never_fails}
use Rattle.uc_certificate.proofs.Unnamed.{Header, Kind, Ranked}

gets_value : {V : Type 0} {v w : V} {m n : ℕ} {r s : List ℕ} → Path (Outcome V) (gets v m r) (gets w n s) → v ≡ w
gets_value e = cc

-- the same header, whose first line has this number
abbrev from_line : ℕ → Header → Header
from_line n header = record { first = n; light = header.light; kind = header.kind }

no_fault_by : (a b c : Bool) (x y z u v w : SystemFault) → (if a then Some x else (if b then Some y else (if c then Some z else None))) ≡ None → (if a then Some u else (if b then Some v else (if c then Some w else None))) ≡ None
no_fault_by true b c x y z u v w e = absurd cc
no_fault_by false true c x y z u v w e = absurd cc
no_fault_by false false true x y z u v w e = absurd cc
no_fault_by false false false x y z u v w e = refl

complete_by : (a b : Bool) (x y u v : SystemFault) → (if a then Some x else (if b then None else Some y)) ≡ None → (if a then Some u else (if b then None else Some v)) ≡ None
complete_by true b x y u v e = absurd cc
complete_by false true x y u v e = refl
complete_by false false x y u v e = absurd cc

if_none : (a : Bool) (x u : SystemFault) → (if a then Some x else None) ≡ None → (if a then Some u else None) ≡ None
if_none true x u e = absurd cc
if_none false x u e = refl

-- what isn't refused for one fault isn't for another that is none as well
passed_again : (one other : Option SystemFault) (n m k : ℕ) (text rest : List ℕ) (u : Unit {0}) → (one ≡ None → other ≡ None) → gets u m rest ≡ passed_or one n text → gets tt k text ≡ passed_or other k text
passed_again None other n m k text rest u f e = sym (ap (λ o. passed_or o k text) (f refl))
passed_again (Some x) other n m k text rest u f e = absurd (never_fails e)

passed_text : (one : Option SystemFault) (n m : ℕ) (text rest : List ℕ) (u : Unit {0}) → gets u m rest ≡ passed_or one n text → text ≡ rest
passed_text None n m text rest u e = sym (gets_rest e)
passed_text (Some x) n m text rest u e = absurd (never_fails e)

version_again_by : (a b c : Bool) (n m k : ℕ) (text rest : List ℕ) (light : Bool) → gets light m rest ≡ version_by (if a then heading_of (heading_line false) else (if b then heading_of (heading_line true) else (if c then heading_of (codes "% system 3") else heading_of []))) n text → gets light (k + 1) rest ≡ version_by (if a then heading_of (heading_line false) else (if b then heading_of (heading_line true) else (if c then heading_of (codes "% system 3") else heading_of []))) k text
version_again_by true b c n m k text rest light e = ap₂ (λ l r. gets l (k + 1) r) (gets_value e) (gets_rest e)
version_again_by false true c n m k text rest light e = ap₂ (λ l r. gets l (k + 1) r) (gets_value e) (gets_rest e)
version_again_by false false true n m k text rest light e = absurd (never_fails e)
version_again_by false false false n m k text rest light e = absurd (never_fails e)

version_again : (line : List ℕ) (n m k : ℕ) (text rest : List ℕ) (light : Bool) → gets light m rest ≡ version_by (heading_of line) n text → gets light (k + 1) rest ≡ version_by (heading_of line) k text
version_again line n m k text rest light e = version_again_by (bytes_eq line (heading_line false)) (bytes_eq line (heading_line true)) (starts_with nat_eq line system_words && is_other_version (drop (length system_words) line)) n m k text rest light e

versions_again : (o : Option Cut) (n m k : ℕ) (rest : List ℕ) (light : Bool) → gets light m rest ≡ version_of n o → gets light (k + 1) rest ≡ version_of k o
versions_again None n m k rest light e = absurd (never_fails e)
versions_again (Some c) n m k rest light e = version_again c.line n m k c.rest rest light e

value_again : (o : Option Kind) (n m k : ℕ) (text rest : List ℕ) (kind : Kind) → gets kind m rest ≡ value_or o n text → gets kind (k + 1) rest ≡ value_or o k text
value_again (Some x) n m k text rest kind e = ap₂ (λ l r. gets l (k + 1) r) (gets_value e) (gets_rest e)
value_again None n m k text rest kind e = absurd (never_fails e)

kinds_again : (o : Option Cut) (n m k : ℕ) (rest : List ℕ) (kind : Kind) → gets kind m rest ≡ picked kind_of n o → gets kind (k + 1) rest ≡ picked kind_of k o
kinds_again None n m k rest kind e = absurd (never_fails e)
kinds_again (Some c) n m k rest kind e = value_again (kind_of c.line) n m k c.rest rest kind e

-- the first two lines
record HeaderFrom (text : List ℕ) (header : Header) (rest : List ℕ) : Type 0 where
  behind : ℕ
  reads : header_lines 1 text (gets (from_line 1 header) behind rest)

header_again : {n : ℕ} {text : List ℕ} (header : Header) (m : ℕ) (rest : List ℕ) → header_lines n text (gets header m rest) → HeaderFrom text header rest
header_again {n} {text} header m rest (goes_on {v = first} {m = n0} {rest = r0} a (goes_on {v = light} {m = n1} {rest = r1} b (goes_on {v = kind} {m = n2} {rest = r2} c (goes_on {v = u} {m = n3} {rest = r3} d f)))) =
    let texts : r0 ≡ text = gets_rest a in
    let same : header ≡ record { first = first; light = light; kind = kind } = gets_value f in
    let whole : r2 ≡ rest = passed_text (kind_fault first light kind) n2 n3 r2 r3 u d ∙ sym (gets_rest f) in
    let one = subst (λ t. gets light 2 r1 ≡ version_of 1 (first_line t)) texts (versions_again (first_line r0) n0 n1 1 r1 light b) in
    let two = kinds_again (first_line r1) n1 n2 2 r2 kind c in
    let three = passed_again (kind_fault first light kind) (kind_fault 1 light kind) n2 n3 3 r2 r3 u (if_none (is_light_path light kind) (departs first) (departs 1)) d in
    record {
      behind = 3;
      reads = goes_on {v = 1} refl (goes_on {v = light} one (goes_on {v = kind} two (goes_on {v = tt} three (ap₂ (λ (h : Header) r. gets (from_line 1 h) 3 r) same (sym whole)))));
    }

module _ (table : Table) where
  module _ (header : Header) (first : ℕ) where
    abbrev other : Header
    other = from_line first header

    symbol_again : {earlier : List Sym} {n : ℕ} {text : List ℕ} {o : Outcome Ranked} → SymbolAt table header earlier n text o → (s : Ranked) (m : ℕ) (rest : List ℕ) → o ≡ gets s m rest → (k : ℕ) → SymbolAt table other earlier k text (gets s (k + 1) rest)
    symbol_again (is_no_whole_line e) s m rest g k = absurd (never_fails (sym g))
    symbol_again (is_no_symbol e h) s m rest g k = absurd (never_fails (sym g))
    symbol_again (has_too_many e h l) s m rest g k = absurd (never_fails (sym g))
    symbol_again {earlier} {n} (is_symbol {c = c} {p = p} f b e l a i w q) s m rest g k =
        let ranked : Ranked = record { symbol = f; weight = value_of p.weight } in
        let r = ranked_is (symbol_fault header (is_one_of f earlier) b n (value_of p.arity) (value_of p.weight)) ranked s n m c.rest rest (sym q ∙ g) in
        let none : symbol_fault other (is_one_of f earlier) b k (value_of p.arity) (value_of p.weight) ≡ None = no_fault_by (is_bad_weight header.kind (value_of p.arity) (value_of p.weight) || is_one_of f earlier) (weighs_nothing header.kind (value_of p.weight) && not header.light) (weighs_nothing header.kind (value_of p.weight) && b) (departs n) (departs header.first) (departs n) (departs k) (departs first) (departs k) r.no_fault in
        is_symbol f b e l a i w (ap₂ (λ x t. gets x (k + 1) t) (sym r.is) (sym r.rest_is) ∙ sym (ap (λ o. ranked_or o ranked k c.rest) none))

    record SymbolsFrom (earlier : List Ranked) (n : ℕ) (text : List ℕ) (ss : List Ranked) (rest : List ℕ) : Type 0 where
      behind : ℕ
      reads : SymbolsAt table other earlier n text (gets ss behind rest)

    symbols_again : {earlier : List Ranked} {n : ℕ} {text : List ℕ} {o : Outcome (List Ranked)} → SymbolsAt table header earlier n text o → (ss : List Ranked) (m : ℕ) (rest : List ℕ) → o ≡ gets ss m rest → (k : ℕ) → SymbolsFrom earlier k text ss rest
    symbols_again {earlier} {n} {text} (no_more_symbols b) ss m rest g k = record { behind = k; reads = subst (SymbolsAt table other earlier k text) (ap₂ (λ l r. gets l k r) (gets_value g) (gets_rest g)) (no_more_symbols b) }
    symbols_again (one_more_symbol {m = j} {rest = r} {s = s} b x y) ss m rest g k =
        let t = symbols_again y ss m rest g (k + 1) in
        record { behind = t.behind; reads = one_more_symbol b (symbol_again x s j r refl k) t.reads }
    symbols_again (fails_in_symbol b x) ss m rest g k = absurd (never_fails (sym g))

  record FactsFrom (precedence : List Sym) (earlier : List Equation) (n : ℕ) (text : List ℕ) (es : List Equation) (rest : List ℕ) : Type 0 where
    behind : ℕ
    reads : FactsAt table precedence earlier n text (gets es behind rest)

  facts_again : (precedence : List Sym) {earlier : List Equation} {n : ℕ} {text : List ℕ} {o : Outcome (List Equation)} → FactsAt table precedence earlier n text o → (es : List Equation) (m : ℕ) (rest : List ℕ) → o ≡ gets es m rest → (k : ℕ) → FactsFrom precedence earlier k text es rest
  facts_again precedence {earlier} {n} {text} (no_more_facts {c = c} e l) es m rest g k = record { behind = k + 1; reads = subst (FactsAt table precedence earlier k text) (ap₂ (λ l r. gets l (k + 1) r) (gets_value g) (gets_rest g)) (no_more_facts {c = c} e l) }
  facts_again precedence (one_more_fact e l x) es m rest g k =
      let t = facts_again precedence x es m rest g (k + 1) in
      record { behind = t.behind; reads = one_more_fact e l t.reads }
  facts_again precedence (has_large_term e l) es m rest g k = absurd (never_fails (sym g))
  facts_again precedence (is_no_fact e l x y) es m rest g k = absurd (never_fails (sym g))
  facts_again precedence (facts.is_no_whole_line e) es m rest g k = absurd (never_fails (sym g))

  pub system_here : {n : ℕ} (text : List ℕ) (said : SystemText) (m : ℕ) (rest : List ℕ) → system_lines table n text (gets said m rest) → IsSystem table said
  system_here text said m rest (goes_on {v = header} {m = n0} {rest = r0} a (goes_on {v = ss} {m = n1} {rest = r1} b (goes_on {v = u} {m = n2} {rest = r2} c (goes_on {v = es} {m = n3} {rest = r3} d f)))) =
      let h = header_again header n0 r0 a in
      let x = symbols_again header 1 b ss n1 r1 refl h.behind in
      let texts : r1 ≡ r2 = passed_text (symbols_fault table header ss n1) n1 n2 r1 r2 u c in
      let y = passed_again (symbols_fault table header ss n1) (symbols_fault table (from_line 1 header) ss x.behind) n1 n2 x.behind r1 r2 u (complete_by (header.light && not (has_light header ss)) (has_constant table ss) (departs header.first) (departs n1) (departs 1) (departs x.behind)) c in
      let z = facts_again (symbols_in ss) (subst (λ t. FactsAt table (symbols_in ss) [] n2 t (gets es n3 r3)) (sym texts) d) es n3 r3 refl x.behind in
      let last : gets said z.behind rest ≡ gets (text_of header.kind ss es) z.behind r3 = ap₂ (λ v r. gets v z.behind r) (gets_value f) (gets_rest f) in
      system_is table text said z.behind rest (goes_on {v = from_line 1 header} h.reads (goes_on {v = ss} x.reads (goes_on {v = tt} y (goes_on {v = es} z.reads last))))
