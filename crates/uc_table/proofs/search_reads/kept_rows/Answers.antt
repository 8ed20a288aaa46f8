use Rattle.std.proofs.Common.{◌∙◌}
use Rattle.uc_table.proofs.SearchReads.{more_rows}
use Rattle.uc_table.proofs.search_reads.kept_rows.Goals as goal

pub loop-assignment-preserved : goal.loop-assignment-preserved
loop-assignment-preserved c = record {
  rows = more_rows c.args.size c.args.steps.now c.loop-assignment.assignment c.loop-assignment.rows.items c.add_row.new.row.items (c.in_ok-add_row.ensures.leaves c.if-branch.false) (c.in_ok-add_row.ensures.row c.if-branch.false) c.loop-assignment.invariant.rows;
  room = c.add_row.auto.stack ∙ c.loop-assignment.invariant.room;
}
