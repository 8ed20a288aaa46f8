use Rattle.std.proofs.Common.{Some, length, refl, sym, ap, ◌∙◌}
use Rattle.std.specs.Option.{option_map}
use Rattle.std.proofs.lemmas.Option.{slice_get-map, slice_get_read}
use Rattle.uc_check.specs.declared.proof.Line.{Line}
use Rattle.uc_clause.proofs.Seen.{names_insert}
use Rattle.uc_tstp.specs.Printing.{names_in}
use Rattle.uc_certificate.specs.FactNames.{names_of}
use Rattle.uc_certificate.proofs.FactsRead.{gathered_more}
use Rattle.uc_certificate.proofs.fact_names.names_of.Goals as goal

pub loop-line-init : goal.loop-line-init
loop-line-init c = ap names_of c.new-names.ensures.empty

pub loop-line-preserved : goal.loop-line-preserved
loop-line-preserved c =
    let named = sym (c.in_ok-name.ensures.items ∙ c.as_bytes.ensures) in
    let got = slice_get_read c.args.lines.now (length c.args.lines.now) c.loop-line.line-index c.line-item.result refl c.loop-line-test.true c.line-item.is in
    let there = slice_get-map (λ (line : Line). line.name) c.args.lines.now c.loop-line.line-index ∙ ap (option_map (λ (line : Line). line.name)) got ∙ ap Some named in
    gathered_more (names_in c.args.lines.now) c.loop-line.line-index c.in_ok-name.name.items (names_of c.loop-line.names.keys) (names_of c.insert.new.self.keys) c.requires there c.loop-line.invariant (names_insert c.loop-line.names.keys c.insert.new.self.keys c.in_ok-name.name c.in_ok-insert.ensures.keys)
