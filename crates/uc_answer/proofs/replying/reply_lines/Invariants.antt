use Rattle.std.proofs.Common.{◌≡◌, take}
use Rattle.uc_answer.specs.Lines.{joined}
use Rattle.uc_answer.specs.ReplyLines.{reply_lines}
use Rattle.uc_answer.proofs.replying.reply_lines.Given as goal

abbrev pub invariant-loop-reply : goal.invariant-loop-reply
invariant-loop-reply l = (joined l.lines ≡ reply_lines l.symbols (take l.reply-index l.replies))
