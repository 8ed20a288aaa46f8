use Rattle.std.proofs.Common.{◌≡◌, ◌++◌, ap, ◌∙◌, codes, map, subst, ℕ, List}
use Rattle.std.specs.Prelude.{OnOk}
use Rattle.uc_check.specs.declared.proof.Line.{Line}
use Rattle.uc_tstp.specs.Printing.{lines_text, line_name, names_in}
use Rattle.uc_certificate.specs.Headings.{derivation_line, facts_words, spaced}
use Rattle.uc_certificate.proofs.Written.{on_ok, lines_behind}
use Rattle.uc_certificate.proofs.printing.write_derivation.Goals as goal

pub returns : goal.returns
returns c =
    let lines : List Line = c.args.proof.now.lines in
    let named = subst (λ (ls : List Line). OnOk c.write_facts.result (c.write_facts.new.out ≡ c.write_proof.new.out ++ facts_words ++ spaced (map (line_name (names_in ls)) c.as_slice-2.result.now) ++ codes "\n")) c.as_slice.ensures c.write_facts.ensures in
    let written = subst (λ (facts : List ℕ). OnOk c.write_facts.result (c.write_facts.new.out ≡ c.write_proof.new.out ++ facts_words ++ spaced (map (line_name (names_in lines)) facts) ++ codes "\n")) c.as_slice-2.ensures named in
    on_ok c.write_facts.result
    (λ h. h ∙ ap (λ l. l ++ facts_words ++ spaced (map (line_name (names_in lines)) c.args.facts.now) ++ codes "\n") (c.in_ok-write_proof.ensures ∙ ap (λ l. l ++ lines_text c.args.symbols.now (names_in lines) c.args.file_of.now lines) c.in_ok-write_line.ensures)
    ∙ lines_behind c.args.out.now derivation_line (codes "\n") (lines_text c.args.symbols.now (names_in lines) c.args.file_of.now lines) facts_words (spaced (map (line_name (names_in lines)) c.args.facts.now)))
    written
