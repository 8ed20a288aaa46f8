use Rattle.uc_clause.proofs.Printing.{closed_text, closed_pending}
use Rattle.std.proofs.Common.{◌∙◌}
use Rattle.uc_clause.proofs.printer.write_closing.Goals as goal

pub loop-left-preserved : goal.loop-left-preserved
loop-left-preserved c = record {
  text = closed_text c.loop-left.out _ c.loop-left.pending.items _ _ c.in-Some.ensures.items c.if-left-gt0.false c.in_ok-push-3.ensures.ok ∙ c.loop-left.invariant.text;
  pending = closed_pending c.loop-left.pending.items _ _ c.in-Some.ensures.items c.if-left-gt0.false ∙ c.loop-left.invariant.pending;
}
