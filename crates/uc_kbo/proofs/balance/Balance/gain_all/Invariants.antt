use Rattle.uc_kbo.proofs.Balancing.{Gained}
use Rattle.uc_kbo.proofs.balance.Balance.gain_all.Given as goal

abbrev pub invariant-loop-n : goal.invariant-loop-n
invariant-loop-n l = Gained l.fn.self l.nodes l.n-index l.self
