use Rattle.std.proofs.Common.{rules, arith, sym}
use Rattle.uc_machine.specs.Effects.{one_commit}
use Rattle.uc_rows.proofs.Items.{change-read, change-past}
use Rattle.uc_rows.proofs.workers.count_commit.Goals as goal

pub returns-then-worker-len : goal.returns-then-worker-len
returns-then-worker-len c = change-read one_commit c.args.numbers.now.items c.args.worker c.index_mut.result.now (omega arith) (search (rules, c.index_mut.ensures.value))

pub returns-else-worker-len : goal.returns-else-worker-len
returns-else-worker-len c = sym (change-past one_commit c.args.numbers.now.items c.args.worker (omega arith))
