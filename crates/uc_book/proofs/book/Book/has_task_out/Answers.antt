use Rattle.std.proofs.Common.{◌==◌, ◌∙◌, ap}
use Rattle.uc_book.proofs.Waiting.{has_some}
use Rattle.uc_book.proofs.book.Book.has_task_out.Goals as goal

pub returns : goal.returns
returns g c = (let ts = c.self.inside.parts.tasks in rw (← c.self.view_is) (has_some ts.items c.is_empty.result (c.is_empty.ensures ∙ ap (λ n. n == 0) ts.ok.0)))
