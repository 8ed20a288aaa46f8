-- The table of symbols that reading a certificate leaves.
use Rattle.std.proofs.Common.{◌≡◌, ℕ, ◌+◌, ◌<◌, ◌≤◌, Bool, true, false, List, length, drop, length-drop, refl, sym, ap, ap₂, ◌∙◌, subst, arith, Option, Some, None, Result, Ok, Err, IfOk, if◌then◌else◌}
use Rattle.std.specs.Prelude.{bytes_eq}
use Rattle.std.specs.Cmp.Lexicographic.{bytes_decides}
use Rattle.uc_term.specs.Table.{Table, Grows}
use Rattle.uc_clause.specs.declared.token.Token.{Token}
use Rattle.uc_clause.specs.Interning.{Interns}
use Rattle.uc_clause.specs.Rules.{read}
use Rattle.uc_clause.proofs.Once.{tokens_once}
use Rattle.uc_clause.proofs.Tables.{grows_not}
use Rattle.uc_check.specs.declared.proof.Proof.{Proof}
use Rattle.uc_tstp.specs.declared.framing.Frame.{Frame}
use Rattle.uc_tstp.specs.declared.scope.Scope.TheVariants.{Derivation}
use Rattle.uc_tstp.specs.Interning.{with_lines, InternsInside}
use Rattle.uc_tstp.specs.Parse as tstp
use Rattle.uc_tstp.specs.Reading.{inside}
use Rattle.uc_tstp.proofs.Outcomes.{same_value, some_once}
use Rattle.uc_tstp.proofs.ReadingOnce.{all_once}
use Rattle.uc_system.specs.Interning.{InternsSystem}
use Rattle.uc_system.specs.Lines.{Cut, first_line}
use Rattle.uc_system.specs.declared.system.SystemText.{SystemText}
use Rattle.uc_system.proofs.Interned.{system_interns_once}
use Rattle.uc_certificate.specs.declared.certificate.Certificate.{Certificate}
use Rattle.uc_certificate.specs.declared.certificate.Join.{Join}
use Rattle.uc_certificate.specs.declared.fault.CertFault.{CertFault}
use Rattle.uc_certificate.specs.declared.border.Border.TheVariants as border
use Rattle.uc_certificate.specs.JoinParse as parse
use Rattle.uc_certificate.specs.JoinLines.{joins}
use Rattle.uc_certificate.specs.Parts.{Outcome, gets, fails, Rule, Then, goes_on, fails_first}
use Rattle.uc_certificate.specs.Headings.{derivation_line, facts_line, is_border, is_derivation, line_from, behind_line, departs, FirstLine, this_line, picked, this_by, heading, the_line, FactsAt, are_facts}
use Rattle.uc_certificate.specs.Interning.{with_joins, line_behind, InternsRest, InternsCertificate}
use Rattle.uc_certificate.specs.Reading.{frame_of, SystemAt, has_system, DerivationAt, derives, JoinsIn, has_joins}
use Rattle.uc_certificate.specs.Reads.{ReadsRest}
use Rattle.uc_certificate.proofs.Begins.{first_ends}
use Rattle.uc_certificate.proofs.JoinsOnce.{joins_once}
use Rattle.uc_certificate.proofs.ReadingOnce.{first_once, heading_once, gets_end, gets_or_fails}
use Rattle.uc_certificate.proofs.SystemPasses.{system_passes}

module _ (text : List ℕ) where
  cut_line : (at : ℕ) (c : Cut) → first_line (drop at text) ≡ Some c → c.line ≡ line_from text at
  cut_line at c e = (first_ends (drop at text) c e).line

  -- behind exactly a line the next one begins
  this_goes : (wanted : List ℕ) (at next : ℕ) (line : List ℕ) (b : Bool) → bytes_eq line wanted ≡ b → ◌≡◌ {A = Outcome (Unit {0})} (gets tt next) (if b then gets tt (behind_line text at line) else fails (departs text at)) → (next ≡ behind_line text at line) × (line ≡ wanted)
  this_goes wanted at next line true h e = (gets_end e, (bytes_decides line wanted).0 h)
  this_goes wanted at next line false h e = absurd (gets_or_fails e)

  line_goes : (wanted : List ℕ) (at next : ℕ) → the_line text wanted at (gets tt next) → (next ≡ line_behind text at) × (line_from text at ≡ wanted)
  line_goes wanted at next e = go (first_line (drop at text)) refl e
    where
      go : (o : Option Cut) → first_line (drop at text) ≡ o → ◌≡◌ {A = Outcome (Unit {0})} (gets tt next) (picked text (this_by text wanted) at o) → (next ≡ line_behind text at) × (line_from text at ≡ wanted)
      go None h f = absurd (gets_or_fails f)
      go (Some c) h f =
          let r = this_goes wanted at next c.line (bytes_eq c.line wanted) refl f in
          (r.0 ∙ ap (behind_line text at) (cut_line at c h), sym (cut_line at c h) ∙ r.1)

  facts_go : {names : List (List ℕ)} {count at next : ℕ} {numbers : List ℕ} {o : Outcome (List ℕ)} → FactsAt text names count at o → o ≡ gets numbers next → next ≡ line_behind text at
  facts_go {at = at} (are_facts {rest = r} words e a l n) h = sym (gets_end h) ∙ ap (behind_line text at) (cut_line at (record { line = facts_line words; rest = r }) e)
  facts_go v h = absurd (gets_or_fails (sym h))

  derivation_first : {table : Table} {at to : ℕ} {proof : Proof} {o : Outcome Proof} → DerivationAt table text at o → o ≡ gets proof to → FirstLine text (is_border border.Facts) at to
  derivation_first {at = at} (derives {to = k} f r) h = subst (FirstLine text (is_border border.Facts) at) (gets_end h) f
  derivation_first v h = absurd (gets_or_fails (sym h))

  joins_first : {table : Table} {at to : ℕ} {list : List Join} {o : Outcome (List Join)} → JoinsIn table text at o → o ≡ gets list to → FirstLine text (is_border border.End) at to
  joins_first {at = at} (has_joins {to = k} f c j m) h = subst (FirstLine text (is_border border.End) at) (gets_end h) f
  joins_first v h = absurd (gets_or_fails (sym h))

  abbrev InternsLines : ℕ → ℕ → Table → Table → Type 0
  InternsLines from to old new = InternsInside Derivation text (frame_of from to) old new

  abbrev InternsJoins : ℕ → ℕ → Table → Table → Type 0
  InternsJoins from to old new = Interns joins with_joins (inside text (frame_of from to)) old new

  -- the parts behind the system, one behind the other
  pub interns_rest : (at from to next start end : ℕ) (old middle new : Table) {names : List (List ℕ)} {count : ℕ} {numbers : List ℕ} {table : Table} {proof : Proof} {list : List Join} → the_line text derivation_line at (gets tt from) → DerivationAt table text from (gets proof to) → InternsLines from to old middle → FactsAt text names count to (gets numbers next) → (wanted : List ℕ) → the_line text wanted next (gets tt start) → JoinsIn table text start (gets list end) → InternsJoins start end middle new → InternsRest text at old new
  interns_rest at from to next start end old middle new d l i f wanted j e k =
      let one : from ≡ line_behind text at = (line_goes derivation_line at from d).0 in
      let two : start ≡ line_behind text (line_behind text to) = (line_goes wanted next start j).0 ∙ ap (line_behind text) (facts_go f refl) in
      record {
        facts = to;
        is_facts = subst (λ n. FirstLine text (is_border border.Facts) n to) one (derivation_first l refl);
        end = end;
        is_end = subst (λ n. FirstLine text (is_border border.End) n end) two (joins_first e refl);
        with_lines = middle;
        interns_lines = subst (λ n. InternsLines n to old middle) one i;
        interns_joins = subst (λ n. InternsJoins n end middle new) two k;
      }

  -- the line in front of a derivation is the first one from where it stands
  derivation_here : (at from : ℕ) → at < length text → the_line text derivation_line at (gets tt from) → FirstLine text is_derivation at at
  derivation_here at from h d = this_line h ((bytes_decides (line_from text at) derivation_line).1 (line_goes derivation_line at from d).1)

  pub system_first : {table : Table} {start at : ℕ} {said : SystemText} {o : Outcome SystemText} → SystemAt table text start o → o ≡ gets said at → start ≤ length text → (from : ℕ) → at < length text → the_line text derivation_line at (gets tt from) → FirstLine text is_derivation start at
  system_first {table} {start} {at} (has_system {said = s} {to = to} x h) e low from more d =
      subst (FirstLine text is_derivation start) (gets_end e) (system_passes table text s _ start to x low h to (subst (λ k. FirstLine text is_derivation k k) (sym (gets_end e)) (derivation_here at from more d)))
  system_first v e low from more d = absurd (gets_or_fails (sym e))

  line_within : (at from : ℕ) → the_line text derivation_line at (gets tt from) → at < length text
  line_within at from e = go (first_line (drop at text)) refl e
    where
      go : (o : Option Cut) → first_line (drop at text) ≡ o → ◌≡◌ {A = Outcome (Unit {0})} (gets tt from) (picked text (this_by text derivation_line) at o) → at < length text
      go None h f = absurd (gets_or_fails f)
      go (Some c) h f = let ends = first_ends (drop at text) c h in omega (arith, ends.feed, length-drop at text)

  record Line (at : ℕ) : Type 0 where
    from : ℕ
    is : the_line text derivation_line at (gets tt from)

  line_of : {W : Type 0} {next : Unit {0} → Rule W} {at : ℕ} {o : Outcome W} {w : W} {end : ℕ} → Then (the_line text derivation_line) next at o → o ≡ gets w end → Line at
  line_of (goes_on {v = u} {middle = m} d more) e = record { from = m; is = d }
  line_of (fails_first d) e = absurd (gets_or_fails (sym e))

  module _ (table : Table) (start at : ℕ) (said : SystemText) (headed : heading text 0 (gets tt start)) (low : start ≤ length text) (is : SystemAt table text start (gets said at)) (old middle new : Table) (system : InternsSystem (drop start text) old middle) where
    interns_from : Line at → InternsRest text at middle new → InternsCertificate text old new
    interns_from l rest = record {
      start = start;
      headed = headed;
      border = at;
      is_first = system_first is refl low l.from (line_within at l.from l.is) l.is;
      with_system = middle;
      interns_system = system;
      interns_rest = rest;
    }

    pub interns_all : (later : Table) (result : Result Certificate CertFault) → ReadsRest later text said at result → IfOk result (λ _. InternsRest text at middle new) → IfOk result (λ _. InternsCertificate text old new)
    interns_all later (Ok certificate) reads rest = interns_from (line_of reads.1 refl) rest
    interns_all later (Err fault) reads rest = tt

  -- ONE TABLE

  lines_once : (frame : Frame) (old a b : Table) → InternsInside Derivation text frame old a → InternsInside Derivation text frame old b → a ≡ b
  lines_once frame old a b x y =
      let same = all_once Derivation text frame x.are_tokens y.are_tokens x.reads y.reads in
      x.new_is ∙ ap₂ (λ (ts : List Token) (ls : List tstp.Line). with_lines (inside text frame) ts old ls) same.0 (same_value same.1) ∙ sym y.new_is

  joins_interned_once : (bytes : List ℕ) (old a b : Table) → Interns joins with_joins bytes old a → Interns joins with_joins bytes old b → a ≡ b
  joins_interned_once bytes old a b x y =
      let lists : y.tokens ≡ x.tokens = tokens_once y.are_tokens x.are_tokens in
      let moved = subst (λ ts. joins bytes ts 0 (read y.parse y.end)) lists y.reads in
      let parses : x.parse ≡ y.parse = same_value (joins_once bytes x.tokens x.reads moved) in
      x.new_is ∙ ap (with_joins bytes x.tokens old) parses ∙ ap (λ ts. with_joins bytes ts old y.parse) (sym lists) ∙ sym y.new_is

  rest_once : (at : ℕ) (old a b : Table) → InternsRest text at old a → InternsRest text at old b → a ≡ b
  rest_once at old a b x y =
      let facts : y.facts ≡ x.facts = first_once y.is_facts x.is_facts in
      let is_end = subst (λ n. FirstLine text (is_border border.End) (line_behind text (line_behind text n)) y.end) facts y.is_end in
      let ends : y.end ≡ x.end = first_once is_end x.is_end in
      let lines = subst (λ n. InternsLines (line_behind text at) n old y.with_lines) facts y.interns_lines in
      let tables : y.with_lines ≡ x.with_lines = lines_once (frame_of (line_behind text at) x.facts) old y.with_lines x.with_lines lines x.interns_lines in
      let moved = subst (λ t. InternsJoins (line_behind text (line_behind text x.facts)) x.end t b) tables (subst (λ n. InternsJoins (line_behind text (line_behind text x.facts)) n y.with_lines b) ends (subst (λ n. InternsJoins (line_behind text (line_behind text n)) y.end y.with_lines b) facts y.interns_joins)) in
      joins_interned_once (inside text (frame_of (line_behind text (line_behind text x.facts)) x.end)) x.with_lines a b x.interns_joins moved

  pub certificate_interns_once : (old a b : Table) → InternsCertificate text old a → InternsCertificate text old b → a ≡ b
  certificate_interns_once old a b x y =
      let starts : y.start ≡ x.start = gets_end (heading_once text 0 (gets tt y.start) (gets tt x.start) y.headed x.headed) in
      let borders : y.border ≡ x.border = first_once (subst (λ n. FirstLine text is_derivation n y.border) starts y.is_first) x.is_first in
      let systems : y.with_system ≡ x.with_system = system_interns_once (subst (λ n. InternsSystem (drop n text) old y.with_system) starts y.interns_system) x.interns_system in
      let moved = subst (λ t. InternsRest text x.border t b) systems (subst (λ n. InternsRest text n y.with_system b) borders y.interns_rest) in
      rest_once x.border x.with_system a b x.interns_rest moved
