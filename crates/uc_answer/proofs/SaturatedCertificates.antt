-- From an ended search to the certificate of its facts: it passes all tests, and it can be printed.
use Rattle.std.proofs.Common.{Bool, ◌⊎◌, inl, inr, ℕ, zero, suc, ◌≡◌, ◌<◌, ◌≤◌, ◌+◌, ◌^◌, List, [], ◌∷◌, ◌++◌, length, map, slice_get, get_or, Some, Result, Ok, Err, refl, sym, ap, ◌∙◌, subst, arith}
use Rattle.std.proofs.lemmas.List.{length-map}
use Rattle.std.proofs.lemmas.Option.{slice_get_within, slice_get-get_or}
use Rattle.std.specs.List.{AllByRecursion}
use Rattle.std.specs.Result.{IfOk}
use Rattle.std.specs.declared.alloc.AllocError.{AllocError}
use Rattle.uc_term.specs.declared.node.Sym.{Sym}
use Rattle.uc_term.specs.declared.equation.Equation.{Equation}
use Rattle.uc_term.specs.Tree.{var}
use Rattle.uc_term.specs.Table.{Table, Has}
use Rattle.uc_term.specs.Variables.{variables, firsts, renumbered_by}
use Rattle.uc_term.proofs.Gets.{get-map, map-get}
use Rattle.uc_check.specs.declared.proof.Line.{Line}
use Rattle.uc_check.specs.declared.proof.Proof.{Proof}
use Rattle.uc_check.specs.Checks.{AreRightBefore}
use Rattle.uc_tstp.specs.Printing.{AreNumbers}
use Rattle.uc_order.specs.Members.{In, Each}
use Rattle.uc_order.specs.Laws.{Meaning, HasSym}
use Rattle.uc_order.specs.declared.spec.OrderSpec.{OrderSpec}
use Rattle.uc_order.specs.declared.spec.OrderSpec.TheVariants.{Kbo, Lpo}
use Rattle.uc_kbo.proofs.Tables.{each_in}
use Rattle.uc_fact.specs.declared.fact.Fact.{Fact}
use Rattle.uc_fact.specs.Ground.{AreOfSignature}
use Rattle.uc_fact.specs.Live.{Live, equation_of, equations_of, numbered_from}
use Rattle.uc_rewrite.specs.Replay.{FactsReplay}
use Rattle.uc_shelf.specs.declared.entry.Entry.{Entry}
use Rattle.std.specs.Prelude.{not, filter}
use Rattle.std.proofs.lemmas.List.Filters.{length-filter_both}
use Rattle.uc_shelf.specs.Entries.{born, is_dead, equations, live}
use Rattle.uc_problem.specs.declared.problem.Problem.{Problem}
use Rattle.uc_problem.specs.declared.problem.Encoded.{Encoded}
use Rattle.uc_machine.specs.declared.event.Verdict.TheVariants.{Saturated}
use Rattle.uc_machine.specs.State.{State}
use Rattle.uc_fact.specs.declared.fact.System.{System}
use Rattle.uc_runs.specs.Saturated.{IsSaturated}
use Rattle.uc_runs.specs.Written.{AreNumbered}
use Rattle.uc_runs.proofs.Replayed.{live_named}
use Rattle.uc_runs.proofs.Saturating.{saturated}
use Rattle.uc_runs.proofs.WrittenFacts.{facts_numbered}
use Rattle.uc_proof.specs.declared.aim.Aim.TheVariants as aim
use Rattle.uc_proof.specs.Chains.{AreBorn}
use Rattle.uc_proof.specs.Extracted.{HaveLines, AreDerivedFacts}
use Rattle.uc_proof.proofs.Right.{all_right, fact_count}
use Rattle.uc_proof.proofs.FactLines.{have_lines, as_many_numbers}
use Rattle.uc_proof.proofs.Sources.{IsFrom, from_clause, from_reflexive, from_goal, axiom_from}
use Rattle.uc_proof.proofs.TableLines.{proof_lines_of, as_many_files}
use Rattle.uc_system.specs.declared.system.SystemText.{SystemText}
use Rattle.uc_system.specs.Reading.{precedence_of}
use Rattle.uc_system.specs.Printing.{IsSpecOf, IsEquationOf}
use Rattle.uc_certificate.specs.declared.certificate.Certificate.{Certificate}
use Rattle.uc_certificate.specs.Headings.{HasNoLine}
use Rattle.uc_certificate.specs.Printable.{IsPrintableCertificate}
use Rattle.uc_certificate.specs.Printing.{certificate_text, IsCertificateOf}
use Rattle.uc_certificate.specs.Reading.{ReadsCertificate}
use Rattle.uc_certify.specs.declared.certified.Certified.TheVariants.{Yes}
use Rattle.uc_certify.specs.Certifying.{AreSameSymbols, AreDerivedBefore, IsCertified}
use Rattle.uc_certify.specs.Making.{AllAreFoundJoined, AreAllMade}
use Rattle.uc_certify.specs.Naming.{AreSymbolsIn}
use Rattle.uc_certify.proofs.FinalJoins.{convergent_found}
use Rattle.uc_certify.proofs.MadeJoins.{certified_made}
use Rattle.uc_certify.proofs.PrintableJoins.{made_of_table}
use Rattle.uc_words.specs.declared.command.Command.{Command}
use Rattle.uc_ordering.specs.Fits.{Fits}
use Rattle.uc_ordering.specs.Meaning.{meaning_of}
use Rattle.uc_answer.specs.CertificateLines.{live_numbers, begins_certificate, IsCertificateFor, IsReadBack}
use Rattle.uc_answer.specs.VerdictLines.{HasEnded}
use Rattle.uc_answer.proofs.SearchEnds.{o, laws, reaches, verdict_is, replay, opens, encoding, parts_of, each_at}
use Rattle.uc_answer.proofs.SpecSymbols.{known_symbol}
use Rattle.uc_answer.proofs.SaturatedTexts.{spec_of_table, facts_over, facts_of_table}

-- FACTS THAT LIVE, AND THEIR NUMBERS

filter_count : {A : Type 0} (xs : List A) (is : A → Bool) → length (filter is xs) ≤ length xs
filter_count xs is = let e = length-filter_both is (λ x. not (is x)) (λ x. refl) xs in omega (arith, e)

numbered_count : (n : ℕ) (es : List Equation) → length (numbered_from n es) ≡ length es
numbered_count n [] = refl
numbered_count n (e ∷ es) = ap suc (numbered_count (n + 1) es)

abbrev IsBornAs : List Fact → Live → Type 0
IsBornAs facts f = slice_get (map equation_of facts) f.number ≡ Some f.equation

born_numbers : (facts : List Fact) (fs : List Live) → Each (IsBornAs facts) fs → AreBorn facts (map (λ (f : Live). f.number) fs)
born_numbers facts [] h = tt
born_numbers facts (f ∷ fs) h = (fact_count facts f.number f.equation h.0, born_numbers facts fs h.1)

live_count : (es : List Entry) → length (equations_of (live es)) ≤ length (born es)
live_count es = omega (arith, length-map (live es) (λ (f : Live). f.equation), filter_count (numbered_from 0 (equations es)) (λ (f : Live). not (is_dead es f.number)), numbered_count 0 (equations es), length-map (born es) equation_of)

-- the fact that lives at a place
live_there : (fs : List Live) (k : ℕ) (e : Equation) → slice_get (equations_of fs) k ≡ Some e → (f : Live) × (slice_get fs k ≡ Some f) × (f.equation ≡ e) × (slice_get (map (λ (g : Live). g.number) fs) k ≡ Some f.number)
live_there [] k e at = absurd cc
live_there (f ∷ fs) zero e at = (f, refl, (let z : Some f.equation ≡ Some e = at in cc), refl)
live_there (f ∷ fs) (suc k) e at = live_there fs k e at

-- their lines are chain lines of their equations
derived_before : (facts : List Fact) (fs : List Live) (lines : List Line) (numbers : List ℕ) → Each (IsBornAs facts) fs → AreNumbered (equations_of fs) → HaveLines facts lines (map (λ (f : Live). f.number) fs) numbers → AreDerivedBefore numbers lines (equations_of fs) (length (equations_of fs))
derived_before facts fs lines numbers born_as numbered have k fact h at =
    let f = live_there fs k fact at in
    let g = get-map equation_of facts f.0.number f.0.equation (each_at (IsBornAs facts) fs born_as k f.0 f.1) in
    let line = have k f.0.number g.0 f.3 g.1 in
    let same : equation_of g.0 ≡ fact = g.2 ∙ f.2 in
    let n = numbered k fact at in
    record {
      number = line.number;
      number_is = line.number_is;
      line = line.line;
      line_is = line.line_is;
      derived = line.derived;
      left_is = line.left_is ∙ ap (λ (e : Equation). renumbered_by (firsts (variables e.left ++ variables e.right)) e.left) same ∙ n.left;
      right_is = line.right_is ∙ ap (λ (e : Equation). renumbered_by (firsts (variables e.left ++ variables e.right)) e.right) same ∙ n.right;
    }

all_at : (P : ℕ → Type 0) (xs : List ℕ) → ((k x : ℕ) → slice_get xs k ≡ Some x → P x) → AllByRecursion P xs
all_at P [] h = tt
all_at P (x ∷ xs) h = (h 0 x refl, all_at P xs (λ k y e. h (suc k) y e))

-- the numbers are those of lines
numbers_within : (facts : List Fact) (fs : List Live) (lines : List Line) (numbers : List ℕ) → Each (IsBornAs facts) fs → length numbers ≡ length fs → HaveLines facts lines (map (λ (f : Live). f.number) fs) numbers → AreNumbers (length lines) numbers
numbers_within facts fs lines numbers born_as many have = all_at (λ number. number < length lines) numbers each
  where
    each : (k x : ℕ) → slice_get numbers k ≡ Some x → x < length lines
    each k x at =
        let d : Live = record { number = 0; equation = record { left = var 0; right = var 0 } } in
        let within : k < length fs = (let w = slice_get_within numbers k x at in omega (arith, w, many)) in
        let f = get_or fs k d in
        let there : slice_get fs k ≡ Some f = slice_get-get_or fs k d within in
        let g = get-map equation_of facts f.number f.equation (each_at (IsBornAs facts) fs born_as k f there) in
        let line = have k f.number g.0 (map-get (λ (h : Live). h.number) fs k f there) g.1 in
        let same : x ≡ line.number = let z : Some x ≡ Some line.number = sym at ∙ line.number_is in cc in
        let inside = slice_get_within lines line.number line.line line.line_is in
        omega (arith, inside, same)

-- THE ORDER'S SYMBOLS

module _ (table : Table) (signature : List Sym) where
  pub same_symbols : (spec : OrderSpec) → Fits table signature spec → AreSameSymbols (precedence_of spec) signature
  same_symbols (Kbo w0 ws fs) fits f = (each_in (In signature) fs f fits.total.0.0, each_in (In fs) signature f fits.total.0.2)
  same_symbols (Lpo fs) fits f = (each_in (In signature) fs f fits.total.0, each_in (In fs) signature f fits.total.2)

  pub symbols_in : (P : Sym → Type 0) → Each P signature → (spec : OrderSpec) → Fits table signature spec → AreSymbolsIn table P (meaning_of table spec)
  symbols_in P each spec fits f i = let k = known_symbol table signature spec fits f i in (each_in P signature f each k.0, k.1)

-- A SEARCH THAT ENDED SATURATED

module _ (table : Table) (command : Command) (problem : Problem) (encoded : Encoded) (spec : OrderSpec) (s : State) (h : HasEnded table command problem encoded spec Saturated s) where
  abbrev m : Meaning
  m = meaning_of table spec

  abbrev facts : List Equation
  facts = equations_of (live s.entries)

  pub axioms_over : AreOfSignature (HasSym m) m.arity encoded.axioms
  axioms_over = (opens table command problem encoded spec Saturated s h).axioms

  born_as : Each (IsBornAs (born s.entries)) (live s.entries)
  born_as = live_named [] s.entries

  are_born : AreBorn (born s.entries) (live_numbers s)
  are_born = born_numbers (born s.entries) (live s.entries) born_as

  replays : FactsReplay encoded.axioms (born s.entries)
  replays = (replay table command problem encoded spec Saturated s h).facts

  -- what the derivation wants
  pub born_and_replayed : (given : List Fact) (numbers : List ℕ) → given ≡ born s.entries → numbers ≡ live_numbers s → FactsReplay encoded.axioms given × AreBorn given numbers
  born_and_replayed given numbers e n = (
    subst (FactsReplay encoded.axioms) (sym e) replays,
    subst (λ (fs : List Fact). AreBorn fs numbers) (sym e) (subst (AreBorn (born s.entries)) (sym n) are_born),
  )

  -- the final pass found all joined
  pub found : AllAreFoundJoined m facts encoded.axioms
  found =
      let ends : IsSaturated m (o table command problem encoded spec Saturated s h) s = saturated m (o table command problem encoded spec Saturated s h) s (reaches table command problem encoded spec Saturated s h) (verdict_is table command problem encoded spec Saturated s h) in
      let same : s.entries ≡ ends.drained.entries = ap (λ (x : State). x.entries) ends.closed in
      let system : System = record { facts = equations_of (live ends.drained.entries) } in
      subst (λ (es : List Entry). AllAreFoundJoined m (equations_of (live es)) encoded.axioms) (sym same) (convergent_found m encoded.axioms ends.drained system ends.is_final)

  -- no more facts live than are born
  pub few_live : (others : ℕ) → others + length (born s.entries) < 2 ^ 32 → length facts < 2 ^ 32
  few_live others few = let l = live_count s.entries in omega (arith, few, l)

  -- there is a source for each axiom
  source_within : (k : ℕ) (e : Equation) → IsFrom problem encoded k e → k < length encoded.sources
  source_within k e (from_clause i x at there p q) = slice_get_within encoded.sources k _ at
  source_within k e (from_reflexive marks at f q) = slice_get_within encoded.sources k _ at
  source_within k e (from_goal marks i x at f there is_open q) = slice_get_within encoded.sources k _ at

  none_past : length encoded.sources < length encoded.axioms → ⊥
  none_past l =
      let d : Equation = record { left = var 0; right = var 0 } in
      let last = get_or encoded.axioms (length encoded.sources) d in
      let w = source_within (length encoded.sources) last (axiom_from problem encoded (encoding table command problem encoded spec Saturated s h) (length encoded.sources) last (slice_get-get_or encoded.axioms (length encoded.sources) d l)) in
      omega (arith, w)

  pub few_axioms : (axioms : List Equation) (goals many : ℕ) → axioms ≡ encoded.axioms → length encoded.sources + goals + many + 2 < 2 ^ 32 → length axioms < 2 ^ 32
  few_axioms axioms goals many e few = go (let d : (length encoded.sources < length encoded.axioms) ⊎ (length encoded.axioms ≤ length encoded.sources) = grind arith in d)
    where
      go : (length encoded.sources < length encoded.axioms) ⊎ (length encoded.axioms ≤ length encoded.sources) → length axioms < 2 ^ 32
      go (inl l) = absurd (none_past l)
      go (inr l) = let same : length axioms ≡ length encoded.axioms = ap length e in omega (arith, few, l, same)

  -- what the making of the certificate wants
  module _ (es axioms : List Equation) (facts_are : es ≡ facts) (axioms_are : axioms ≡ encoded.axioms) where
    pub given_facts_over : AreOfSignature (HasSym m) m.arity es
    given_facts_over = subst (AreOfSignature (HasSym m) m.arity) (sym facts_are) (facts_over table command problem encoded spec s h)

    pub given_axioms_over : AreOfSignature (HasSym m) m.arity axioms
    given_axioms_over = subst (AreOfSignature (HasSym m) m.arity) (sym axioms_are) axioms_over

    pub given_found : AllAreFoundJoined m es axioms
    given_found = subst (λ (xs : List Equation). AllAreFoundJoined m xs axioms) (sym facts_are) (subst (AllAreFoundJoined m facts) (sym axioms_are) found)

    -- what is made is the certificate
    pub made_for : (files : List (List ℕ)) (lines : List Line) (numbers : List ℕ) (c : Certificate) → c.text ≡ record { spec = spec; system = record { facts = es } } → c.lines ≡ record { lines = lines } → c.facts ≡ numbers → AreAllMade m es axioms c.joins → AreDerivedFacts problem encoded (born s.entries) (live_numbers s) lines files numbers → IsCertificateFor table problem encoded spec s files c
    made_for files lines numbers c text_is lines_are numbers_are made derived = record {
      text_is = text_is ∙ ap (λ (xs : List Equation). record { spec = spec; system = record { facts = xs } }) facts_are;
      derived = subst (λ (p : Proof). AreDerivedFacts problem encoded (born s.entries) (live_numbers s) p.lines files c.facts) (sym lines_are) (subst (AreDerivedFacts problem encoded (born s.entries) (live_numbers s) lines files) (sym numbers_are) derived);
      made = subst (λ (xs : List Equation). AreAllMade m xs encoded.axioms c.joins) facts_are (subst (λ (xs : List Equation). AreAllMade m es xs c.joins) axioms_are made);
    }

  module _ (files : List (List ℕ)) (c : Certificate) (is_for : IsCertificateFor table problem encoded spec s files c) where
    right_lines : AreRightBefore problem.clauses encoded.fresh c.lines.lines (length c.lines.lines)
    right_lines = all_right problem encoded (born s.entries) (aim.Facts (live_numbers s)) c.lines.lines files (encoding table command problem encoded spec Saturated s h) is_for.derived.derivation replays are_born

    derived : AreDerivedBefore c.facts c.lines.lines facts (length facts)
    derived = derived_before (born s.entries) (live s.entries) c.lines.lines c.facts born_as (facts_numbered m (o table command problem encoded spec Saturated s h) s (reaches table command problem encoded spec Saturated s h)) (have_lines problem encoded (born s.entries) (live_numbers s) c.lines.lines files is_for.derived.derivation c.facts is_for.derived.numbers_are)

    pub passes : IsCertified m problem.clauses encoded c Yes
    passes =
        subst (λ (text : SystemText). IsCertified m problem.clauses encoded (record { text = text; lines = c.lines; facts = c.facts; joins = c.joins }) Yes) (sym is_for.text_is)
        (certified_made m (laws table command problem encoded spec Saturated s h) facts encoded.axioms (facts_over table command problem encoded spec s h) axioms_over spec c.lines.lines c.facts c.joins is_for.made found problem.clauses encoded refl (same_symbols table encoded.signature.symbols spec h.fits) right_lines derived)

    pub many_files : length files ≡ length c.lines.lines
    many_files = as_many_files problem encoded (born s.entries) (aim.Facts (live_numbers s)) c.lines.lines files is_for.derived.derivation

    have : HaveLines (born s.entries) c.lines.lines (live_numbers s) c.facts
    have = have_lines problem encoded (born s.entries) (live_numbers s) c.lines.lines files is_for.derived.derivation c.facts is_for.derived.numbers_are

    many_numbers : length c.facts ≡ length (live s.entries)
    many_numbers = as_many_numbers is_for.derived.derivation.plan (live_numbers s) c.facts is_for.derived.numbers_are ∙ length-map (live s.entries) (λ (f : Live). f.number)

    pub of_table : IsCertificateOf table c
    of_table =
        let text = sym is_for.text_is in
        record {
          spec = subst (λ (t : SystemText). IsSpecOf table t.spec) text (spec_of_table table encoded.signature.symbols spec h.fits);
          system = subst (λ (t : SystemText). Each (IsEquationOf table) t.system.facts) text (facts_of_table table command problem encoded spec s h facts refl);
          lines = proof_lines_of table problem encoded (born s.entries) (aim.Facts (live_numbers s)) c.lines.lines files (parts_of table command problem encoded spec Saturated s h) tt is_for.derived.derivation;
          as_many = many_numbers ∙ sym (length-map (live s.entries) (λ (f : Live). f.equation)) ∙ ap (λ (t : SystemText). length t.system.facts) text;
          facts = numbers_within (born s.entries) (live s.entries) c.lines.lines c.facts born_as many_numbers have;
          joins = made_of_table m (laws table command problem encoded spec Saturated s h) table facts encoded.axioms (facts_over table command problem encoded spec s h) axioms_over (symbols_in table encoded.signature.symbols (Has table) h.fits.of_table spec h.fits) c.joins is_for.made;
        }

    -- its text
    pub told_text : (r : Result (List ℕ) AllocError) → IfOk r (λ text. text ≡ certificate_text table files c) → (IsPrintableCertificate table files c → (before behind : List ℕ) → HasNoLine begins_certificate before → IfOk r (λ text. ReadsCertificate table (before ++ text ++ behind) (Ok c))) → IfOk r (IsReadBack table problem encoded spec s)
    told_text (Ok text) is reads = record { is_text = record { files = files; certificate = c; is_for = is_for; text_is = is }; read_back = reads }
    told_text (Err fault) is reads = tt
