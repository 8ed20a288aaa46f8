use Rattle.uc_top.proofs.DecidedAnswers.{replies_of_table}
use Rattle.uc_top.proofs.replying.replied_answer.Goals as goal

pub reply_lines-requires : goal.reply_lines-requires
reply_lines-requires g c = rw c.as_slice.ensures (replies_of_table c.args.symbols.now (g.O.Order.meaning c.args.order.now) c.requires.decides.0 c.requires.of_table (c.in_ok-replies.ensures.right c.requires.decides.0 c.requires.decides.1 c.requires.ground c.requires.over))

pub returns : goal.returns
returns g c = λ axioms decides. (c.in_ok-replies.replies, c.in_ok-replies.ensures.replies, c.in_ok-replies.ensures.right axioms decides c.requires.ground c.requires.over, rw c.as_slice-2.ensures at c.replies_status.ensures, rw c.as_slice.ensures at c.in_ok-lines.ensures)
