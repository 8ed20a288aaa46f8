use Rattle.std.proofs.Common.{sym, length-drop, arith}
use Rattle.uc_tstp.specs.Framing.{no_line, this_line, later_line}
use Rattle.uc_tstp.proofs.framing.find.Goals as goal

pub returns-then-is_border-clause-found : goal.returns-then-is_border-clause-found
returns-then-is_border-clause-found c =
    c.lines.invariant.leads _ (this_line (sym (rw c.split_at.ensures.back at c.in-Some.ensures.value)) (sym c.if-is_border.ensures))

pub lines-preserved : goal.lines-preserved
lines-preserved c = record {
  within = omega (arith, rw c.split_at.ensures.back at c.in-Some.ensures.within, length-drop c.lines.at c.args.text.now, c.lines.invariant.within);
  low = omega (arith, c.lines.invariant.low);
  leads = λ found f. c.lines.invariant.leads found (later_line (sym (rw c.split_at.ensures.back at c.in-Some.ensures.value)) (sym c.if-is_border.ensures) f);
}

pub returns-clause-found : goal.returns-clause-found
returns-clause-found c =
    c.lines.invariant.leads _ (no_line (sym (rw c.split_at.ensures.back at c.in_default.ensures.value)))
