use Rattle.uc_system.proofs.Taken.{no_weight_not_written, weighed}
use Rattle.uc_system.proofs.symbols.written_in.Goals as goal

pub returns-in_err-weight-in-Weighing : goal.returns-in_err-weight-in-Weighing
returns-in_err-weight-in-Weighing c = rw (c.from_residual-in_err-weight-in-Weighing.ensures, c.in-Weighing.is) (no_weight_not_written c.in-Weighing.field-0 c.args.line.now c.in_ok-rest.rest.now c.in_ok-front-in-Weighing.front.now c.in_ok-front-in-Weighing.digits.now c.in_ok-rest.ensures c.in_ok-front-in-Weighing.ensures c.in_err-weight-in-Weighing.ensures)

pub returns-in_ok-weight-in-Weighing : goal.returns-in_ok-weight-in-Weighing
returns-in_ok-weight-in-Weighing c = rw c.in-Weighing.is (weighed c.in-Weighing.field-0 c.args.line.now c.in_ok-rest.rest.now c.in_ok-front-in-Weighing.front.now c.in_ok-front-in-Weighing.digits.now c.in_ok-weight-in-Weighing.weight c.in_ok-rest.ensures c.in_ok-front-in-Weighing.ensures c.in_ok-weight-in-Weighing.ensures.0 c.in_ok-weight-in-Weighing.ensures.1 c.named_in.result c.named_in.ensures.named c.named_in.ensures.weight)
