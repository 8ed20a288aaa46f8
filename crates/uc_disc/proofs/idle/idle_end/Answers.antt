use Rattle.std.proofs.Common.{arith}
use Rattle.uc_disc.proofs.Passing.{root_first}
use Rattle.uc_disc.proofs.idle.idle_end.Goals as goal

pub returns-else-is_root : goal.returns-else-is_root
returns-else-is_root c rules marked = record { within = omega arith; root = root_first c.args.places.now c.requires.supported; idle = λ j p r h e is. absurd (omega arith) }

pub returns-then-is_root : goal.returns-then-is_root
returns-then-is_root c rules marked = record { within = c.loop-end.invariant.0; root = c.is_root.ensures c.if-is_root.true; idle = λ j p r h e is. marked r (c.loop-end.invariant.1 j p r h e is) }
