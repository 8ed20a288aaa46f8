use Rattle.std.proofs.Common.{refl}
use Rattle.uc_kbo.proofs.Balancing.{balance_new}
use Rattle.uc_kbo.proofs.balance.Balance.new.Goals as goal

pub returns-clause-balance : goal.returns-clause-balance
returns-clause-balance c = balance_new _ refl refl refl
