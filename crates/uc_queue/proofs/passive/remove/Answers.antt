use Rattle.std.proofs.Common.{◌≡◌, ◌-◌, length, arith}
use Rattle.uc_queue.specs.declared.entry.Key.TheVariants.{Number, Weight}
use Rattle.uc_queue.proofs.Removal.{replaced, filled, cut}
use Rattle.uc_queue.proofs.passive.remove.Goals as goal

pub mend_both-requires-then-slot-last-clause-by_weight :
    goal.mend_both-requires-then-slot-last-clause-by_weight
mend_both-requires-then-slot-last-clause-by_weight c =
    replaced Weight c.deref.result.now c.truncate.new.self.items c.deref-then-slot-last.result.now c.mend_both.new.lightest c.args.slot c.index-moved.result.now
    c.mend_both.ensures.right.by_weight c.deref.ensures.value c.deref-then-slot-last.ensures.value

pub mend_both-requires-then-slot-last-clause-by_number :
    goal.mend_both-requires-then-slot-last-clause-by_number
mend_both-requires-then-slot-last-clause-by_number c =
    replaced Number c.deref.result.now c.truncate.new.self.items c.deref-then-slot-last.result.now c.mend_both.new.earliest c.args.slot c.index-moved.result.now
    c.mend_both.ensures.right.by_number c.deref.ensures.value c.deref-then-slot-last.ensures.value

pub returns-then-slot-last-clause-taken : goal.returns-then-slot-last-clause-taken
returns-then-slot-last-clause-taken c = λ e got. let n : c.len-last.result - 1 ≡ length c.args.entries.now.items - 1 = omega arith in
    filled c.args.entries.now.items c.truncate.new.self.items c.args.slot (c.len-last.result - 1) c.index-moved.result.now e n c.if-slot-last.true c.truncate.ensures.items c.index-moved.ensures got

pub returns-else-slot-last-clause-taken : goal.returns-else-slot-last-clause-taken
returns-else-slot-last-clause-taken c = λ e got. let n : c.len-last.result - 1 ≡ length c.args.entries.now.items - 1 = omega arith in
    cut c.args.entries.now.items c.truncate.new.self.items c.args.slot (c.len-last.result - 1) e n c.if-slot-last.false c.truncate.ensures.items got
