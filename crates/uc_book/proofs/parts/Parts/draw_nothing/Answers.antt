use Rattle.std.proofs.Common.{length, ◌∙◌}
use Rattle.std.specs.Prelude.{vec_len}
use Rattle.uc_book.proofs.Waiting.{none_by, some_by, nothing_idle, nothing_drained}
use Rattle.uc_book.proofs.parts.Parts.draw_nothing.Goals as goal

pub returns-then-is_empty-clause-drawn : goal.returns-then-is_empty-clause-drawn
returns-then-is_empty-clause-drawn c = λ o w.
    (let ts = c.args.self.now.tasks in nothing_drained o w c.args.self.now c.requires.late c.requires.waits (none_by c.is_empty.result (vec_len ts) (length ts.items) c.is_empty.ensures ts.ok.0 c.if-is_empty.true))

pub returns-else-is_empty-clause-drawn : goal.returns-else-is_empty-clause-drawn
returns-else-is_empty-clause-drawn c = λ o w.
    (let ts = c.args.self.now.tasks in nothing_idle o w c.args.self.now c.requires.late c.len.result c.requires.waits (c.len.ensures ∙ ts.ok.0) (some_by c.is_empty.result (vec_len ts) (length ts.items) c.is_empty.ensures ts.ok.0 c.if-is_empty.false))
