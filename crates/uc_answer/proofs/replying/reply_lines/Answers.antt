use Rattle.std.proofs.Common.{arith}
use Rattle.uc_answer.proofs.ReplyLists.{reply_of}
use Rattle.uc_answer.proofs.replying.reply_lines.Goals as goal

pub reply_line-requires : goal.reply_line-requires
reply_line-requires c = reply_of c.args.symbols.now c.args.replies.now c.loop-reply.reply-index c.reply-item.result (omega arith) c.reply-item.is c.requires
