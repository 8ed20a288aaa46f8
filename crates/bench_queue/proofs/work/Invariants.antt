use Rattle.bench_queue.specs.Below.{IsBelow}
use Rattle.bench_queue.proofs.work.Given as goal

abbrev pub invariant-loop-number : goal.invariant-loop-number
invariant-loop-number l = IsBelow l.number l.queue.waiting
