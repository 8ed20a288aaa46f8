use Rattle.std.proofs.Common.{◌++◌, [], sym, ap, ◌∙◌}
use Rattle.std.proofs.lemmas.List.{append-nil}
use Rattle.uc_answer.specs.Lines.{joined}
use Rattle.uc_answer.specs.CertificateLines.{has_none, has_one}
use Rattle.uc_answer.proofs.PairLines.{joined_more}
use Rattle.uc_answer.proofs.certificate_lines.certified.Goals as goal

pub returns-then-not-closed : goal.returns-then-not-closed
returns-then-not-closed g c = ([], rw c.if-not-closed.true has_none, sym (append-nil (joined c.args.lines)))

pub returns : goal.returns
returns g c = (c.in_ok-text.text, rw c.if-not-closed.false (has_one c.in_ok-text.ensures.read_back c.in_ok-text.ensures.few), ap joined c.in_ok-append.ensures.ok ∙ joined_more c.args.lines c.in_ok-lines_of.field-0 ∙ ap (λ t. joined c.args.lines ++ t) (c.in_ok-lines_of.ensures ∙ c.as_bytes.ensures))
