use Rattle.uc_system.proofs.Taken.{no_numeral_not_named}
use Rattle.uc_system.proofs.symbols.named_in.Goals as goal

pub returns-in_err-arity-clause-named : goal.returns-in_err-arity-clause-named
returns-in_err-arity-clause-named c = rw c.from_residual-in_err-arity.ensures (no_numeral_not_named c.args.text.now c.in_ok-spelled.spelled.now c.in_ok-spelled.digits.now c.in_ok-spelled.ensures c.in_err-arity.ensures)
