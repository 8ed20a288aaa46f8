use Rattle.std.proofs.Common.{sym, subst, ◌+◌, length, arith, true, false, ◌≡◌}
use Rattle.uc_certificate.specs.Headings.{is_border, FirstLine, no_line, this_line, later_line}
use Rattle.uc_certificate.proofs.headings.find.Goals as goal

pub returns-then-is_border-clause-found : goal.returns-then-is_border-clause-found
returns-then-is_border-clause-found c = c.lines.invariant.leads _ (this_line c.lines-test.true (subst (λ l. is_border c.args.border l ≡ true) c.line_from-line.ensures.line (sym c.if-is_border.ensures)))

pub lines-preserved : goal.lines-preserved
lines-preserved c = record {
  within = omega (arith, c.line_from-line.ensures.within);
  low = omega (arith, c.lines.invariant.low);
  leads = λ to f. c.lines.invariant.leads to (later_line c.lines-test.true (subst (λ l. is_border c.args.border l ≡ false) c.line_from-line.ensures.line (sym c.if-is_border.ensures)) (subst (λ l. FirstLine c.args.text.now (is_border c.args.border) (c.lines.at + length l + 1) to) c.line_from-line.ensures.line f));
}

pub returns-clause-found : goal.returns-clause-found
returns-clause-found c = c.lines.invariant.leads _ (no_line c.lines-test.false)
