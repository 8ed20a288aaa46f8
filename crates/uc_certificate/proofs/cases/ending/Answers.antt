use Rattle.std.proofs.Common.{sym, refl}
use Rattle.uc_clause.specs.Rules.{goes_on}
use Rattle.uc_certificate.specs.JoinParse.{by_same}
use Rattle.uc_certificate.specs.JoinLines.{is_same}
use Rattle.uc_certificate.proofs.cases.ending.Goals as goal

pub returns-then-is_word-clause-reads : goal.returns-then-is_word-clause-reads
returns-then-is_word-clause-reads c = record { parse = by_same; reads = is_same (sym c.if-is_word.ensures) (goes_on {v = tt} c.in_ok-end.ensures.ok refl); means = λ later g. tt; interns = refl }
