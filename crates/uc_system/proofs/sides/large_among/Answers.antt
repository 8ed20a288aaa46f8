use Rattle.uc_system.proofs.SidesRead.{large_in}
use Rattle.uc_system.proofs.sides.large_among.Goals as goal

pub returns-in-Some : goal.returns-in-Some
returns-in-Some c = rw c.large_of.ensures (large_in c.args.symbols.now c.args.known.now.keys c.requires.known c.args.text.now c.in-Some.sides (rw c.in-Some.is at c.in_ok-sides.ensures))
