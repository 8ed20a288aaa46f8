use Rattle.uc_kbo.proofs.Balancing.{Lost}
use Rattle.uc_kbo.proofs.balance.Balance.lose_all.Given as goal

abbrev pub invariant-loop-n : goal.invariant-loop-n
invariant-loop-n l = Lost l.fn.self l.nodes l.n-index l.self
