-- No line of a system's text is the line in front of a derivation.
use Rattle.std.proofs.Common.{◌≡◌, ℕ, ◌+◌, ◌<◌, ◌≤◌, Bool, true, false, List, [], ◌∷◌, ◌++◌, length, take, drop, length-drop, refl, sym, ap, ◌∙◌, subst, arith, Option, Some, None}
use Rattle.std.specs.Prelude.{◌&&◌, bytes_eq, nat_eq, codes, if◌then◌else◌}
use Rattle.std.specs.List.{prefix_len, starts_with}
use Rattle.std.specs.Cmp.Lexicographic.{bytes_decides}
use Rattle.std.proofs.lemmas.List.{drop-drop, take-append-drop}
use Rattle.std.proofs.lemmas.List.Folds.{length-prefix_len}
use Rattle.uc_term.specs.declared.node.Sym.{Sym}
use Rattle.uc_term.specs.declared.equation.Equation.{Equation}
use Rattle.uc_term.specs.Table.{Table}
use Rattle.uc_clause.specs.Bytes.{in_line}
use Rattle.uc_system.specs.declared.fault.SystemFault.{SystemFault}
use Rattle.uc_system.specs.declared.system.SystemText.{SystemText}
use Rattle.uc_system.specs.Lines.{Cut, first_line, departs, Outcome, gets, fails, passed_or, value_or, picked, goes_on}
use Rattle.uc_system.specs.Header.{system_words, heading_line, is_other_version, heading_of, version_by, version_of, kind_of, header_lines}
use Rattle.uc_system.specs.Symbols.{begins_symbol, symbols_in, SymbolAt, is_no_whole_line, is_no_symbol, has_too_many, is_symbol, SymbolsAt, no_more_symbols, one_more_symbol, fails_in_symbol}
use Rattle.uc_system.specs.Facts.{end_line, fact_line, IsFactLine, FactsAt, no_more_facts, one_more_fact, has_large_term, is_no_fact}
use Rattle.uc_system.specs.Facts as facts
use Rattle.uc_system.specs.Reading.{system_lines}
use Rattle.uc_system.proofs.Precedence.{ranked_is}
use Rattle.uc_certificate.specs.Headings.{derivation_line, line_from, behind_line, is_derivation, FirstLine, later_line}
use Rattle.uc_certificate.proofs.Begins.{first_ends}
use Rattle.uc_certificate.proofs.Unnamed.{Header, Kind, Ranked}

derivation_by : (line : List ℕ) (b : Bool) → is_derivation line ≡ b → (line ≡ derivation_line → ⊥) → is_derivation line ≡ false
derivation_by line true e n = absurd (n ((bytes_decides line derivation_line).0 e))
derivation_by line false e n = e

other_line : (line : List ℕ) → (line ≡ derivation_line → ⊥) → is_derivation line ≡ false
other_line line n = derivation_by line (is_derivation line) refl n

symbol_other : (text : List ℕ) (c : Cut) → first_line text ≡ Some c → begins_symbol text ≡ true → c.line ≡ derivation_line → ⊥
symbol_other text c e b l =
    let ends = first_ends text c e in
    let n : ℕ = prefix_len in_line text in
    let whole : text ≡ derivation_line ++ drop n text = sym (take-append-drop n text) ∙ ap (λ x. x ++ drop n text) (sym ends.line ∙ l) in
    let bad : false ≡ true = sym (ap begins_symbol whole) ∙ b in
    absurd cc

fact_other : (table : Table) (precedence : List Sym) (k : ℕ) (line : List ℕ) (e : Equation) → IsFactLine table precedence k line e → is_derivation line ≡ false
fact_other table precedence k line e i = ap is_derivation i.is ∙ refl

pub gets_rest : {V : Type 0} {v w : V} {m n : ℕ} {r s : List ℕ} → Path (Outcome V) (gets v m r) (gets w n s) → r ≡ s
gets_rest e = cc

pub never_fails : {V : Type 0} {v : V} {m : ℕ} {r : List ℕ} {f : SystemFault} → Path (Outcome V) (gets v m r) (fails f) → ⊥
never_fails e = absurd cc

-- a line that gives a value, and another one stands behind it
pub record Gives (text rest : List ℕ) : Type 0 where
  pub cut : Cut
  pub is : first_line text ≡ Some cut
  pub other : is_derivation cut.line ≡ false
  pub rest_is : cut.rest ≡ rest

version_rest_by : (a b c : Bool) (n m : ℕ) (r rest : List ℕ) (light : Bool) → gets light m rest ≡ version_by (if a then heading_of (heading_line false) else (if b then heading_of (heading_line true) else (if c then heading_of (codes "% system 3") else heading_of []))) n r → r ≡ rest
version_rest_by true b c n m r rest light e = sym (gets_rest e)
version_rest_by false true c n m r rest light e = sym (gets_rest e)
version_rest_by false false true n m r rest light e = absurd (never_fails e)
version_rest_by false false false n m r rest light e = absurd (never_fails e)

version_rest : (line : List ℕ) (n m : ℕ) (r rest : List ℕ) (light : Bool) → gets light m rest ≡ version_by (heading_of line) n r → r ≡ rest
version_rest line n m r rest light e = version_rest_by (bytes_eq line (heading_line false)) (bytes_eq line (heading_line true)) (starts_with nat_eq line system_words && is_other_version (drop (length system_words) line)) n m r rest light e

version_gives : (text rest : List ℕ) (n m : ℕ) (light : Bool) → gets light m rest ≡ version_of n (first_line text) → Gives text rest
version_gives text rest n m light e = go (first_line text) refl e
  where
    go : (o : Option Cut) → first_line text ≡ o → gets light m rest ≡ version_of n o → Gives text rest
    go None h f = absurd (never_fails f)
    go (Some c) h f = record {
      cut = c;
      is = h;
      other = other_line c.line (λ l. never_fails (f ∙ ap (λ x. version_by (heading_of x) n c.rest) l));
      rest_is = version_rest c.line n m c.rest rest light f;
    }

value_rest : {V : Type 0} (o : Option V) (n m : ℕ) (r rest : List ℕ) (v : V) → gets v m rest ≡ value_or o n r → r ≡ rest
value_rest (Some w) n m r rest v e = sym (gets_rest e)
value_rest None n m r rest v e = absurd (never_fails e)

kind_gives : (text rest : List ℕ) (n m : ℕ) (kind : Kind) → gets kind m rest ≡ picked kind_of n (first_line text) → Gives text rest
kind_gives text rest n m kind e = go (first_line text) refl e
  where
    go : (o : Option Cut) → first_line text ≡ o → gets kind m rest ≡ picked kind_of n o → Gives text rest
    go None h f = absurd (never_fails f)
    go (Some c) h f = record {
      cut = c;
      is = h;
      other = other_line c.line (λ l. never_fails (f ∙ ap (λ x. value_or (kind_of x) n c.rest) l));
      rest_is = value_rest (kind_of c.line) n m c.rest rest kind f;
    }

passed_rest : (fault : Option SystemFault) (n m : ℕ) (r rest : List ℕ) (u : Unit {0}) → gets u m rest ≡ passed_or fault n r → r ≡ rest
passed_rest None n m r rest u e = sym (gets_rest e)
passed_rest (Some f) n m r rest u e = absurd (never_fails e)

module _ (table : Table) where
  symbol_gives : (header : Header) {earlier : List Sym} {n : ℕ} {text : List ℕ} {o : Outcome Ranked} → begins_symbol text ≡ true → SymbolAt table header earlier n text o → (s : Ranked) (m : ℕ) (rest : List ℕ) → o ≡ gets s m rest → Gives text rest
  symbol_gives header begins (is_no_whole_line e) s m rest g = absurd (never_fails (sym g))
  symbol_gives header begins (is_no_symbol e h) s m rest g = absurd (never_fails (sym g))
  symbol_gives header begins (has_too_many e h l) s m rest g = absurd (never_fails (sym g))
  symbol_gives header {n = n} {text = text} begins (is_symbol {c = c} {p = p} f b e l k i w o) s m rest g = record { cut = c; is = e; other = other_line c.line (symbol_other text c e begins); rest_is = (ranked_is _ _ s n m c.rest rest (sym o ∙ g)).rest_is }

  module _ (text : List ℕ) where
    -- no line from one on is it up to where the rest begins
    record Passes (at : ℕ) (rest : List ℕ) : Type 0 where
      next : ℕ
      is : rest ≡ drop next text
      within : next ≤ length text
      leads : (to : ℕ) → FirstLine text is_derivation next to → FirstLine text is_derivation at to

    passes_none : (at : ℕ) (rest : List ℕ) → at ≤ length text → rest ≡ drop at text → Passes at rest
    passes_none at rest h e = record { next = at; is = e; within = h; leads = λ to f. f }

    -- behind a line that isn't
    passes_line : (at : ℕ) (txt rest : List ℕ) → txt ≡ drop at text → at ≤ length text → (g : Gives txt rest) → (last : List ℕ) → ((next : ℕ) → rest ≡ drop next text → next ≤ length text → Passes next last) → Passes at last
    passes_line at txt rest e h g last more =
        let first : first_line (drop at text) ≡ Some g.cut = ap first_line (sym e) ∙ g.is in
        let ends = first_ends (drop at text) g.cut first in
        let n : ℕ = prefix_len in_line (drop at text) in
        let many : length g.cut.line ≡ n = ap length ends.line ∙ length-prefix_len in_line (drop at text) in
        let low : at + length g.cut.line + 1 ≤ length text = omega (arith, many, ends.feed, length-drop at text, h) in
        let behind : rest ≡ drop (at + length g.cut.line + 1) text = sym g.rest_is ∙ ends.rest ∙ drop-drop (n + 1) at text ∙ ap (λ i. drop i text) (omega (arith, many)) in
        let p = more (at + length g.cut.line + 1) behind low in
        let none : is_derivation (line_from text at) ≡ false = subst (λ l. is_derivation l ≡ false) ends.line g.other in
        record {
          next = p.next;
          is = p.is;
          within = p.within;
          leads = λ to f. later_line (omega (arith, low)) none (subst (λ l. FirstLine text is_derivation (at + length l + 1) to) ends.line (p.leads to f));
        }

    symbols_pass : (header : Header) {earlier : List Ranked} {n : ℕ} {txt : List ℕ} {o : Outcome (List Ranked)} → SymbolsAt table header earlier n txt o → (ss : List Ranked) (m : ℕ) (rest : List ℕ) → o ≡ gets ss m rest → (at : ℕ) → txt ≡ drop at text → at ≤ length text → Passes at rest
    symbols_pass header (no_more_symbols b) ss m rest g at e h = passes_none at rest h (sym (gets_rest g) ∙ e)
    symbols_pass header {txt = txt} (one_more_symbol {m = k} {rest = r} {s = s} b x y) ss m rest g at e h = passes_line at txt r e h (symbol_gives header b x s k r refl) rest (λ next f low. symbols_pass header y ss m rest g next f low)
    symbols_pass header (fails_in_symbol b x) ss m rest g at e h = absurd (never_fails (sym g))

    facts_pass : (precedence : List Sym) {earlier : List Equation} {n : ℕ} {txt : List ℕ} {o : Outcome (List Equation)} → FactsAt table precedence earlier n txt o → (es : List Equation) (m : ℕ) (rest : List ℕ) → o ≡ gets es m rest → (at : ℕ) → txt ≡ drop at text → at ≤ length text → Passes at rest
    facts_pass precedence {txt = txt} (no_more_facts {c = c} f l) es m rest g at e h = passes_line at txt c.rest e h (record { cut = c; is = f; other = ap is_derivation l ∙ refl; rest_is = refl }) rest (λ next b low. passes_none next rest low (sym (gets_rest g) ∙ b))
    facts_pass precedence {earlier = earlier} {txt = txt} (one_more_fact {c = c} {e = q} f l x) es m rest g at e h = passes_line at txt c.rest e h (record { cut = c; is = f; other = fact_other table precedence (length earlier + 1) c.line q l; rest_is = refl }) rest (λ next b low. facts_pass precedence x es m rest g next b low)
    facts_pass precedence (has_large_term f l) es m rest g at e h = absurd (never_fails (sym g))
    facts_pass precedence (is_no_fact f l x y) es m rest g at e h = absurd (never_fails (sym g))
    facts_pass precedence (facts.is_no_whole_line f) es m rest g at e h = absurd (never_fails (sym g))

    then_passes : (at : ℕ) (rest last : List ℕ) → Passes at rest → ((next : ℕ) → rest ≡ drop next text → next ≤ length text → Passes next last) → Passes at last
    then_passes at rest last p more =
        let q = more p.next p.is p.within in
        record { next = q.next; is = q.is; within = q.within; leads = λ to f. p.leads to (q.leads to f) }

    header_passes : {n : ℕ} {txt : List ℕ} (header : Header) (m : ℕ) (rest : List ℕ) → header_lines n txt (gets header m rest) → (at : ℕ) → txt ≡ drop at text → at ≤ length text → Passes at rest
    header_passes {n} {txt} header m rest (goes_on {v = first} {m = n0} {rest = r0} a (goes_on {v = light} {m = n1} {rest = r1} b (goes_on {v = kind} {m = n2} {rest = r2} c (goes_on {v = u} {m = n3} {rest = r3} d f)))) at e h =
        let same : txt ≡ r0 = sym (gets_rest a) in
        passes_line at r0 r1 (sym same ∙ e) h (version_gives r0 r1 n0 n1 light b) rest
        (λ next g low. passes_line next r1 r2 g low (kind_gives r1 r2 n1 n2 kind c) rest
        (λ last i lower. passes_none last rest lower (gets_rest f ∙ sym (passed_rest _ n2 n3 r2 r3 u d) ∙ i)))

    lines_pass : {n : ℕ} {txt : List ℕ} (said : SystemText) (m : ℕ) (rest : List ℕ) → system_lines table n txt (gets said m rest) → (at : ℕ) → txt ≡ drop at text → at ≤ length text → Passes at rest
    lines_pass said m rest (goes_on {v = header} {m = n0} {rest = r0} a (goes_on {v = ss} {m = n1} {rest = r1} b (goes_on {v = u} {m = n2} {rest = r2} c (goes_on {v = es} {m = n3} {rest = r3} d f)))) at e h =
        then_passes at r0 rest (header_passes header n0 r0 a at e h)
        (λ p i low. then_passes p r1 rest (symbols_pass header b ss n1 r1 refl p i low)
        (λ q j lower. facts_pass (symbols_in ss) d es n3 rest (ap (λ x. gets es n3 x) (sym (gets_rest f))) q (sym (passed_rest _ n1 n2 r1 r2 u c) ∙ j) lower))

    -- the first line of a derivation behind a system's text is the first one from that text on
    pub system_passes : {n : ℕ} (said : SystemText) (m at to : ℕ) → system_lines table n (drop at text) (gets said m (drop to text)) → at ≤ length text → to ≤ length text → (border : ℕ) → FirstLine text is_derivation to border → FirstLine text is_derivation at border
    system_passes said m at to x low high border f =
        let p = lines_pass said m (drop to text) x at refl low in
        let same : to ≡ p.next = omega (arith, ap length p.is, length-drop to text, length-drop p.next text, high, p.within) in
        p.leads border (subst (λ k. FirstLine text is_derivation k border) same f)
