use Rattle.std.proofs.Common.{◌≡◌, ◌++◌, codes, decimal, ◌∙◌}
use Rattle.uc_answer.specs.CertifyLines.{refused_line, wrong_line, is_right, has_other_symbols, has_wrong_line, has_wrong_fact, has_wrong_join}
use Rattle.uc_answer.proofs.CertifiedLines.{told}
use Rattle.uc_answer.proofs.certify_lines.certified_line.Goals as goal

pub returns-in-Yes : goal.returns-in-Yes
returns-in-Yes c = told c.args.certificate.now.lines.lines c.args.certificate.now.text.system.facts c.args.certified (codes "certified\n") c.from_bytes.result (rw c.in-Yes.is is_right) c.from_bytes.ensures

pub returns-in-Symbols : goal.returns-in-Symbols
returns-in-Symbols c = told c.args.certificate.now.lines.lines c.args.certificate.now.text.system.facts c.args.certified (refused_line (codes "symbols")) c.refused_line.result (rw c.in-Symbols.is has_other_symbols) c.refused_line.ensures

pub returns-in_ok-wrong_line-in-Line : goal.returns-in_ok-wrong_line-in-Line
returns-in_ok-wrong_line-in-Line c =
    let lines = c.args.certificate.now.lines.lines in
    let why : c.as_bytes-in-Line.result.now ≡ wrong_line lines c.in-Line.number c.in-Line.cause = c.as_bytes-in-Line.ensures ∙ (rw c.as_slice-lines.ensures at c.in_ok-wrong_line-in-Line.ensures) in
    told lines c.args.certificate.now.text.system.facts c.args.certified (refused_line (wrong_line lines c.in-Line.number c.in-Line.cause)) c.refused_line-in-Line.result (rw c.in-Line.is has_wrong_line) (rw why at c.refused_line-in-Line.ensures)

pub returns-in_ok-numbered-in-Fact : goal.returns-in_ok-numbered-in-Fact
returns-in_ok-numbered-in-Fact c =
    let why : c.as_bytes-in-Fact-2.result.now ≡ codes "fact " ++ decimal c.in-Fact.number = c.as_bytes-in-Fact-2.ensures ∙ c.in_ok-numbered-in-Fact.ensures in
    told c.args.certificate.now.lines.lines c.args.certificate.now.text.system.facts c.args.certified (refused_line (codes "fact " ++ decimal c.in-Fact.number)) c.refused_line-in-Fact.result (rw c.in-Fact.is has_wrong_fact) (rw why at c.refused_line-in-Fact.ensures)

pub returns-in_ok-numbered-in-Join : goal.returns-in_ok-numbered-in-Join
returns-in_ok-numbered-in-Join c =
    let why : c.as_bytes-in-Join-2.result.now ≡ codes "join " ++ decimal c.in-Join.number = c.as_bytes-in-Join-2.ensures ∙ c.in_ok-numbered-in-Join.ensures in
    told c.args.certificate.now.lines.lines c.args.certificate.now.text.system.facts c.args.certified (refused_line (codes "join " ++ decimal c.in-Join.number)) c.refused_line-in-Join.result (rw c.in-Join.is has_wrong_join) (rw why at c.refused_line-in-Join.ensures)
