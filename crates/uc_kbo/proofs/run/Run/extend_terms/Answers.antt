use Rattle.std.proofs.Common.{◌≡◌, ◌+◌, ◌-◌, ◌<◌, arith, length, drop, take, refl, sym, ◌∙◌, get_or}
use Rattle.std.proofs.Math.Nat.{add-sub_cancel_left}
use Rattle.uc_term.specs.Tree.{nodes_all, of_list}
use Rattle.uc_term.specs.Flat.{spelled}
use Rattle.uc_term.specs.declared.node.Node.TheVariants.{Var}
use Rattle.uc_term.proofs.Ahead.{ahead_in_range, ahead_none, sub_one_more}
use Rattle.uc_order.proofs.Renaming.{length-renamed}
use Rattle.uc_order.proofs.Reading.{get_or-renamed}
use Rattle.uc_kbo.specs.Runs.{table_weighing, slot_by, read_by, image_by}
use Rattle.uc_kbo.proofs.Parts.{ahead_many, many_within, ahead_node, run_next}
use Rattle.uc_kbo.proofs.run.Run.extend_terms.Goals as goal

pub loop-pending-init : goal.loop-pending-init
loop-pending-init c =
    let within = c.requires.run.within in
    let long = length-renamed (image_by c.args.under c.args.classes.now) c.args.list.now in
    record {
      run = c.requires.run;
      from = refl;
      before_end = omega arith;
      in_list = many_within c.args.list.now c.args.self.now.to c.args.terms c.requires.whole c.requires.enough (omega (arith, within, long));
      ahead = rw add-sub_cancel_left (ahead_many c.args.list.now c.args.self.now.to c.args.terms c.requires.whole c.requires.enough);
    }

pub bounds-list-end : goal.bounds-list-end
bounds-list-end c = (ahead_in_range _ _ _ _ c.loop-pending.invariant.ahead c.loop-pending-test.true).0

pub overflow_add-pending : goal.overflow_add-pending
overflow_add-pending c =
    let left = c.args.self.now.to + nodes_all (of_list (take c.args.terms (spelled (drop c.args.self.now.to c.args.list.now)))) - c.loop-pending.end in
    let r = ahead_in_range c.args.list.now c.loop-pending.end c.loop-pending.pending left c.loop-pending.invariant.ahead c.loop-pending-test.true in
    omega (arith, c.arguments.ensures.small, r.1, r.2, c.requires.small)

pub loop-pending-smaller : goal.loop-pending-smaller
loop-pending-smaller c =
    let inside : c.loop-pending.end < length c.args.list.now = (ahead_in_range _ _ _ _ c.loop-pending.invariant.ahead c.loop-pending-test.true).0 in
    omega arith

pub loop-pending-preserved : goal.loop-pending-preserved
loop-pending-preserved c =
    let i = c.loop-pending.invariant in
    let e = c.count.ensures in
    let list = c.args.list.now in
    let end = c.loop-pending.end in
    let image = image_by c.args.under c.args.classes.now in
    let left = c.args.self.now.to + nodes_all (of_list (take c.args.terms (spelled (drop c.args.self.now.to list)))) - end in
    let inside = (ahead_in_range list end c.loop-pending.pending left i.ahead c.loop-pending-test.true).0 in
    let long = length-renamed image list in
    let a = ahead_node list end c.loop-pending.pending left (Var 0) (get_or list end (Var 0)) refl inside i.ahead c.loop-pending-test.true in
    record {
      run = run_next (table_weighing c.args.w.now.w0 c.args.w.now.table.items) (slot_by c.args.under c.args.classes.now) (read_by c.args.under c.args.classes.now list) end c.loop-pending.self i.run (omega (arith, long, c.requires.small)) c.count.new.self (Var 0) c.read.result (omega (arith, inside, long)) (c.read.ensures ∙ sym (get_or-renamed image list end (Var 0) (Var 0) inside)) e.from e.weight e.small e.size e.counts e.large;
      from = e.from ∙ i.from;
      before_end = omega (arith, a.0, i.before_end);
      in_list = i.in_list;
      ahead = rw (c.arguments.ensures.value, ← sub_one_more _ c.loop-pending.end) a.1;
    }

pub returns-clause-to : goal.returns-clause-to
returns-clause-to c =
    let p : c.loop-pending.pending ≡ 0 = omega arith in
    let n = ahead_none (drop c.loop-pending.end c.args.list.now) (c.args.self.now.to + nodes_all (of_list (take c.args.terms (spelled (drop c.args.self.now.to c.args.list.now)))) - c.loop-pending.end) (rw p at c.loop-pending.invariant.ahead) in
    omega (arith, c.loop-pending.invariant.before_end)
