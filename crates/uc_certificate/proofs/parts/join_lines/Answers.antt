use Rattle.std.proofs.Common.{sym, subst, arith}
use Rattle.std.specs.Prelude.{Err}
use Rattle.uc_certificate.specs.Reading as rules
use Rattle.uc_certificate.specs.Reading.{frame_of}
use Rattle.uc_certificate.specs.Reads.{GivesIn}
use Rattle.uc_certificate.proofs.PartsRead.{tokens_fail, interned_to}
use Rattle.uc_certificate.proofs.parts.join_lines.Goals as goal

pub returns-in-Err-clause-reads : goal.returns-in-Err-clause-reads
returns-in-Err-clause-reads c = subst (λ e. GivesIn (λ t. rules.join_lines t c.args.text.now) c.args.symbols.now c.args.text.now c.args.at (Err e)) (sym c.token_fault.ensures) (tokens_fail c.args.text.now c.args.at c.args.symbols.now c.find-to.result c.find-to.ensures.found c.in-Err.fault c.requires.start c.in-Err.ensures.refused)

pub returns-in-Ok-clause-interns : goal.returns-in-Ok-clause-interns
returns-in-Ok-clause-interns c = interned_to c.args.text.now c.args.at c.find-to.result c.args.symbols.now c.joins_in.new.symbols c.joins_in.result c.joins_in.ensures.end c.joins_in.ensures.interns
