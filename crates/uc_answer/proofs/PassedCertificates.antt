-- The certificate that is printed is read back, and passes all tests.
use Rattle.std.proofs.Common.{ℕ, suc, ◌≡◌, ◌<◌, ◌+◌, ◌^◌, Bool, true, false, List, [], ◌∷◌, ◌++◌, length, codes, refl, sym, ap, ◌∙◌, subst, arith}
use Rattle.uc_term.specs.declared.equation.Equation.{Equation}
use Rattle.uc_term.specs.Table.{Table}
use Rattle.uc_check.specs.declared.proof.Line.{Line}
use Rattle.uc_check.specs.declared.proof.LineSource.{LineSource}
use Rattle.uc_check.specs.declared.proof.LineSource.TheVariants.{File, Chain, Reflexive, EncodeGoal, Refute}
use Rattle.uc_check.specs.Replacements.{IsRefutation}
use Rattle.uc_clause.specs.Printable.{IsPrintableSymbol}
use Rattle.uc_tstp.specs.declared.scope.Scope.TheVariants.{Derivation}
use Rattle.uc_tstp.specs.Printable.{belongs_line, AreOf, ArePrintable}
use Rattle.uc_order.specs.declared.spec.OrderSpec.{OrderSpec}
use Rattle.uc_fact.specs.declared.fact.System.{System}
use Rattle.uc_fact.specs.Live.{equations_of}
use Rattle.uc_shelf.specs.Entries.{born, live}
use Rattle.uc_problem.specs.declared.problem.Problem.{Problem}
use Rattle.uc_problem.specs.declared.problem.Encoded.{Encoded}
use Rattle.uc_machine.specs.declared.event.Verdict.TheVariants.{Saturated}
use Rattle.uc_machine.specs.State.{State}
use Rattle.uc_proof.specs.declared.aim.Aim.TheVariants as aim
use Rattle.uc_proof.specs.Needed.{IsNeeded}
use Rattle.uc_proof.specs.Parts.{all_parts}
use Rattle.uc_proof.specs.Extracted.{NoneRefutes, AreDerivedFacts}
use Rattle.uc_proof.proofs.Among.{selected_length}
use Rattle.uc_proof.proofs.Adding.{parts_count}
use Rattle.uc_proof.proofs.FactLines.{none_refutes}
use Rattle.uc_proof.proofs.InOrder.{derivation_in_order}
use Rattle.uc_proof.proofs.Printing.{printable_lines, names_of_lines}
use Rattle.uc_system.specs.declared.system.SystemText.{SystemText}
use Rattle.uc_system.specs.Printing.{system_text}
use Rattle.uc_system.specs.Printable.{IsPrintableSystem}
use Rattle.uc_certificate.specs.declared.certificate.Certificate.{Certificate}
use Rattle.uc_certificate.specs.Printing.{derivation_part, joins_part}
use Rattle.uc_certificate.specs.Printable.{IsPrintableCertificate}
use Rattle.uc_certify.proofs.PrintableJoins.{made_printable}
use Rattle.uc_words.specs.declared.command.Command.{Command}
use Rattle.uc_ordering.specs.Meaning.{meaning_of}
use Rattle.uc_answer.specs.CertificateLines.{live_numbers, IsCertificateIf, is_not_asked, is_asked, IsReadBack, HasFewLines, IsReadBackIf, has_none, has_one}
use Rattle.uc_answer.specs.PrintableProblems.{CanBePrinted}
use Rattle.uc_answer.specs.Promises.{HasPassed}
use Rattle.uc_answer.specs.StatusLines.{line_for, status_line, saturated_word}
use Rattle.uc_answer.specs.VerdictLines.{saturation_text, HasEnded}
use Rattle.uc_answer.proofs.SearchEnds.{laws, each_printable, parts_printable}
use Rattle.uc_answer.proofs.SmallAxioms.{encoded_few}
use Rattle.uc_answer.proofs.SaturatedTexts.{facts_over, system_printable}
use Rattle.uc_answer.proofs.SaturatedCertificates.{symbols_in, axioms_over, few_live, passes}
use Rattle.uc_answer.proofs.SettledLines.{HasNone, both, title_line, status_none, system_none}

source_belongs : (source : LineSource) → (IsRefutation source → ⊥) → belongs_line Derivation source ≡ true
source_belongs (File name) h = refl
source_belongs (Chain start steps parents) h = refl
source_belongs (Reflexive parents) h = refl
source_belongs (EncodeGoal parents) h = refl
source_belongs (Refute parents) h = absurd (h tt)

-- lines none of which refutes are those of a derivation
none_refuting : (lines : List Line) → NoneRefutes lines → AreOf Derivation lines
none_refuting [] h = tt
none_refuting (line ∷ lines) h = (source_belongs line.source (h 0 line refl), none_refuting lines (λ k l at. h (suc k) l at))

module _ (table : Table) (problem : Problem) (encoded : Encoded) (spec : OrderSpec) (s : State) where
  pub certificate_if : (asked : Bool) {text : List ℕ} → IsReadBackIf table problem encoded spec s asked text → IsCertificateIf table problem encoded spec s asked text
  certificate_if false has_none = is_not_asked
  certificate_if true (has_one t few) = is_asked t.is_text

  pub none_if : (asked : Bool) {text : List ℕ} → IsReadBackIf table problem encoded spec s asked text → asked ≡ false → text ≡ []
  none_if false has_none is = refl
  none_if true (has_one t few) is = absurd cc

module _ (table : Table) (command : Command) (name : List ℕ) (problem : Problem) (encoded : Encoded) (spec : OrderSpec) (s : State) (h : HasEnded table command problem encoded spec Saturated s) (can : CanBePrinted table name problem) where
  abbrev facts : List Equation
  facts = equations_of (live s.entries)

  module _ (text : List ℕ) (t : IsReadBack table problem encoded spec s text) (few : HasFewLines table problem encoded spec s) where
    abbrev c : Certificate
    c = t.is_text.certificate

    abbrev derived : AreDerivedFacts problem encoded (born s.entries) (live_numbers s) c.lines.lines t.is_text.files c.facts
    derived = t.is_text.is_for.derived

    few_parts : length derived.derivation.plan < 2 ^ 32
    few_parts = omega (arith, few, selected_length (IsNeeded encoded (born s.entries) (aim.Facts (live_numbers s))) (all_parts problem encoded (length (born s.entries))) derived.derivation.plan (length encoded.sources + length problem.goals + length (born s.entries) + 2) derived.derivation.selected (parts_count encoded.sources problem.goals (length (born s.entries))))

    lines_printable : ArePrintable table Derivation t.is_text.files c.lines.lines
    lines_printable = record {
      names = names_of_lines problem encoded (born s.entries) (aim.Facts (live_numbers s)) c.lines.lines t.is_text.files derived.derivation few_parts;
      lines = printable_lines table problem encoded (born s.entries) (aim.Facts (live_numbers s)) c.lines.lines t.is_text.files derived.derivation (parts_printable table command problem encoded spec Saturated s h can.clauses) tt;
      belong = none_refuting c.lines.lines (none_refutes problem encoded (born s.entries) (live_numbers s) c.lines.lines t.is_text.files derived.derivation);
    }

    printable : IsPrintableCertificate table t.is_text.files c
    printable = record {
      system = subst (λ (x : SystemText). IsPrintableSystem table x.spec x.system.facts) (sym t.is_text.is_for.text_is) (system_printable table command problem encoded spec s h can.clauses);
      lines = lines_printable;
      in_order = derivation_in_order problem encoded (born s.entries) (aim.Facts (live_numbers s)) c.lines.lines t.is_text.files derived.derivation;
      joins = made_printable (meaning_of table spec) (laws table command problem encoded spec Saturated s h) table facts encoded.axioms (facts_over table command problem encoded spec s h) (axioms_over table command problem encoded spec s h) (symbols_in table encoded.signature.symbols (IsPrintableSymbol table) (each_printable table command problem encoded spec Saturated s h can.clauses) spec h.fits) (encoded_few table problem encoded h.encodes can.clauses) c.joins t.is_text.is_for.made;
    }

    -- what stands in front has no line that begins as a certificate does
    few_facts : length facts < 2 ^ 32
    few_facts = few_live table command problem encoded spec s h (length encoded.sources + length problem.goals + 2) (omega (arith, few))

    none_before : HasNone (status_line (saturated_word problem) name ++ saturation_text table command name problem encoded spec s)
    none_before =
        let start = line_for (codes "% SZS output start Saturation") name in
        let end = line_for (codes "% SZS output end Saturation") name in
        let starts : HasNone start = title_line (codes "% SZS output start Saturation") name refl can.name refl in
        let ends : HasNone end = title_line (codes "% SZS output end Saturation") name refl can.name refl in
        let system : HasNone (system_text table spec facts) = system_none table spec facts few_facts (system_printable table command problem encoded spec s h can.clauses) in
        both (status_line (saturated_word problem) name) (saturation_text table command name problem encoded spec s) (status_none problem name can.name)
        (both (start ++ system_text table spec facts) end (both start (system_text table spec facts) starts system) ends)

    has_passed : (system : System) → system.facts ≡ facts → HasPassed table problem spec system (status_line (saturated_word problem) name ++ saturation_text table command name problem encoded spec s) text
    has_passed system is = record {
      encoded = encoded;
      encodes = h.encodes;
      certificate = c;
      text_is = t.is_text.is_for.text_is ∙ ap (λ (fs : List Equation). record { spec = spec; system = record { facts = fs } }) (sym is);
      begins = (system_text table c.text.spec c.text.system.facts ++ derivation_part table t.is_text.files c.lines.lines c.facts ++ joins_part table c.joins, t.is_text.text_is);
      reads = λ more. t.read_back printable (status_line (saturated_word problem) name ++ saturation_text table command name problem encoded spec s) more none_before;
      passes = passes table command problem encoded spec s h t.is_text.files c t.is_text.is_for;
    }

  pub passed_if : (system : System) → system.facts ≡ facts → {text : List ℕ} → IsReadBackIf table problem encoded spec s command.certificate text → command.certificate ≡ true → HasPassed table problem spec system (status_line (saturated_word problem) name ++ saturation_text table command name problem encoded spec s) text
  passed_if system is {text} read asked = go (subst (λ (b : Bool). IsReadBackIf table problem encoded spec s b text) asked read)
    where
      go : IsReadBackIf table problem encoded spec s true text → HasPassed table problem spec system (status_line (saturated_word problem) name ++ saturation_text table command name problem encoded spec s) text
      go (has_one t few) = has_passed text t few system is
