use Rattle.std.proofs.Common.{◌+◌, arith}
use Rattle.uc_queue.specs.declared.entry.Entry.{Entry}
use Rattle.bench_queue.proofs.Bounds.{new_above, below_more, below_with, below_without}
use Rattle.bench_queue.proofs.add_and_draw.Goals as goal

pub add-requires : goal.add-requires
add-requires c = new_above c.args.number c.args.queue.now.waiting c.requires

pub returns-then-number-ne3 : goal.returns-then-number-ne3
returns-then-number-ne3 c =
    let added : Entry = record { weight = c.args.weight; number = c.args.number } in
    rw (c.in_ok-add.ensures.added) (below_with (c.args.number + 1) added c.args.queue.now.waiting (omega arith) (below_more c.args.number c.args.queue.now.waiting c.requires))

pub returns-in-Some : goal.returns-in-Some
returns-in-Some c =
    let added : Entry = record { weight = c.args.weight; number = c.args.number } in
    rw (c.in-Some.ensures.taken) (below_without (c.args.number + 1) c.in-Some.drawn c.add.new.self.waiting (rw (c.in_ok-add.ensures.added) (below_with (c.args.number + 1) added c.args.queue.now.waiting (omega arith) (below_more c.args.number c.args.queue.now.waiting c.requires))))
