use Rattle.std.proofs.Common.{refl}
use Rattle.uc_top.proofs.OwnSignatures.{axioms_over}
use Rattle.uc_top.proofs.ListedAnswers.{listed_by}
use Rattle.uc_top.proofs.listing.lines_answer.Goals as goal

pub listed_lines-requires : goal.listed_lines-requires
listed_lines-requires c = rw (c.as_slice-3.ensures, c.in_ok-axioms.ensures, c.as_slice-2.ensures) (axioms_over c.args.symbols.now c.args.problem.now.clauses c.requires.agrees.over)

pub returns : goal.returns
returns c = (refl, listed_by c.args.listing c.args.symbols.now c.args.spec.now c.in_ok-order.order _ _ c.in_ok-order.ensures.order (rw (c.as_slice-3.ensures, c.in_ok-axioms.ensures, c.as_slice-2.ensures) at c.in_ok-lines.ensures))
