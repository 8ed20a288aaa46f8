use Rattle.std.proofs.Common.{◌-◌, [], length, arith}
use Rattle.uc_table.proofs.SearchFollowing.{none_settled, more_settled, settled_all, none_of}
use Rattle.uc_table.proofs.search_instances.enroll_all.Goals as goal

pub loop-number-init : goal.loop-number-init
loop-number-init c = record {
  well = c.requires.well;
  of = none_of c.args.forms.now c.args.waiting.now.entries.items c.requires.none;
  settled = none_settled c.args.size [] c.args.forms.now (length c.args.forms.now) c.args.waiting.now.entries.items;
  within = omega arith;
}

pub loop-number-preserved : goal.loop-number-preserved
loop-number-preserved c = record {
  well = c.in_ok-enroll.ensures.well;
  of = c.in_ok-enroll.ensures.of;
  settled = more_settled c.args.size [] c.args.forms.now (c.loop-number.number - 1) c.loop-number.number (length c.args.forms.now) c.loop-number.waiting.entries.items c.enroll.new.waiting.entries.items (omega arith) c.loop-number.invariant.settled c.in_ok-enroll.ensures.extends (c.in_ok-enroll.ensures.settled c.if-branch.false);
  within = omega arith;
}

pub returns-clause-settled : goal.returns-clause-settled
returns-clause-settled c _ = settled_all c.args.size [] c.args.forms.now c.loop-number.number c.loop-number.waiting.entries.items c.loop-number.invariant.settled c.loop-number-test.false
