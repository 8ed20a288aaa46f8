-- What a draw leaves of its book.
use Rattle.std.proofs.Common.{◌≡◌, ℕ, subst}
use Rattle.uc_machine.specs.State.{Opening, State}
use Rattle.uc_machine.specs.Draws.{Drained, Draws}
use Rattle.uc_machine.specs.Runs.{IsDrained}
use Rattle.uc_book.specs.declared.answer.Drawn.{Drawn}
use Rattle.uc_book.specs.declared.answer.Drawn.TheVariants.{Drained as DrawnDrained}
use Rattle.uc_book.specs.Answers.{reply_of}
use Rattle.uc_search.proofs.Turns.{leaves}

-- where a draw answers so, the book is drained
pub draw_drains : (o : Opening) (w : ℕ) (s u : State) (d : Drawn) → d ≡ DrawnDrained → Draws o w s (reply_of w d) u → IsDrained u
draw_drains o w s u d e h = leaves o w s Drained u (subst (λ (x : Drawn). Draws o w s (reply_of w x) u) e h)
