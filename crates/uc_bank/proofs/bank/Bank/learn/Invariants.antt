use Rattle.std.proofs.Common.{◌≡◌}
use Rattle.uc_bank.proofs.bank.Bank.learn.Given as goal

abbrev pub invariant-loop-number : goal.invariant-loop-number
invariant-loop-number g l = record { same : l.self ≡ l.initial.self }
