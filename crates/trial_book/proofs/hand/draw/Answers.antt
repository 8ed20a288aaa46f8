use Rattle.uc_book.specs.Openings.{opening_of}
use Rattle.trial_book.proofs.Moves.{draw_drains}
use Rattle.trial_book.proofs.hand.draw.Goals as goal

pub returns-in-Drained-clause-drained : goal.returns-in-Drained-clause-drained
returns-in-Drained-clause-drained g c = λ _. draw_drains (opening_of c.args.book.now.opening) c.args.hand.now.pass.worker c.args.book.now.state c.draw.new.self.state c.in_ok-drawn.drawn c.in-Drained.is c.in_ok-drawn.ensures.drawn
