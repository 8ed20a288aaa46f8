use Rattle.std.proofs.Common.{length, refl}
use Rattle.std.proofs.lemmas.Option.{slice_get_read, slice_get_within}
use Rattle.uc_answer.proofs.CertifiedLines.{large_told}
use Rattle.uc_answer.proofs.certify_lines.large_line.Goals as goal

pub returns : goal.returns
returns c =
    let facts = c.args.certificate.now.text.system.facts in
    let o = c.args.overlap.now in
    let within = slice_get_within facts o.outer c.requires.large.0 c.requires.large.1 in
    let at = slice_get_read facts (length facts) o.outer c.index-as_slice-overlap.result refl within (rw c.as_slice.ensures at c.index-as_slice-overlap.is) in
    large_told c.args.certificate.now.lines.lines facts o c.index-as_slice-overlap.result c.in_ok-why.why c.refused_line.result at c.in_ok-why.ensures (rw c.as_bytes.ensures at c.refused_line.ensures)
