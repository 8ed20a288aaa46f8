use Rattle.std.proofs.Common.{◌≡◌, ◌+◌, ◌<◌, length, ◌-◌, drop, arith, take}
use Rattle.std.proofs.Math.Nat.{add-sub_cancel_left}
use Rattle.uc_term.specs.Tree.{nodes_all, of_list}
use Rattle.uc_term.specs.Flat.{spelled}
use Rattle.uc_term.proofs.Ahead.{ahead_bounds, ahead_in_range, ahead_var_at, ahead_app_at, ahead_none, sub_one_more}
use Rattle.uc_kbo.proofs.Parts.{ahead_many, many_within}
use Rattle.uc_kbo.proofs.climb.end_of_terms.Goals as goal
use Rattle.uc_kbo.proofs.climb.end_of_terms.Goals.{in-Var, in-App}

pub loop-pending-init : goal.loop-pending-init
loop-pending-init c = record { before_end = omega arith; in_list = many_within c.args.list.now c.args.from c.args.count c.requires.whole c.requires.enough c.requires.within; ahead = rw add-sub_cancel_left (ahead_many c.args.list.now c.args.from c.args.count c.requires.whole c.requires.enough) }

pub bounds : goal.bounds
bounds c = (ahead_in_range _ _ _ _ c.loop-pending.invariant.ahead c.loop-pending-test.true).0

pub offset_bounds-list-end : goal.offset_bounds-list-end
offset_bounds-list-end c = let h = bounds c in omega arith

pub overflow_add-pending : goal.overflow_add-pending
overflow_add-pending c =
    let left = c.args.from + nodes_all (of_list (take c.args.count (spelled (drop c.args.from c.args.list.now)))) - c.loop-pending.end in
    let r = ahead_in_range c.args.list.now c.loop-pending.end c.loop-pending.pending left c.loop-pending.invariant.ahead c.loop-pending-test.true in
    let a = ahead_app_at _ _ _ _ _ _ _ c.in-App.is r.0 c.loop-pending.invariant.ahead c.loop-pending-test.true in
    let b = ahead_bounds (drop (c.loop-pending.end + 1) c.args.list.now) (c.loop-pending.pending - 1 + c.in-App.arity) (left - 1) a.1 in
    omega arith

pub overflow_add-end : goal.overflow_add-end
overflow_add-end c =
    let h = (ahead_in_range _ _ _ _ c.loop-pending.invariant.ahead c.loop-pending-test.true).0 in
    let below : c.loop-pending.end < length c.args.list.now = h in
    omega arith

pub loop-pending-smaller : goal.loop-pending-smaller
loop-pending-smaller c =
    let left = c.args.from + nodes_all (of_list (take c.args.count (spelled (drop c.args.from c.args.list.now)))) - c.loop-pending.end in
    let r = ahead_in_range c.args.list.now c.loop-pending.end c.loop-pending.pending left c.loop-pending.invariant.ahead c.loop-pending-test.true in
    omega arith

pub loop-pending-preserved : goal.loop-pending-preserved
loop-pending-preserved c =
    let left = c.args.from + nodes_all (of_list (take c.args.count (spelled (drop c.args.from c.args.list.now)))) - c.loop-pending.end in
    let r = ahead_in_range c.args.list.now c.loop-pending.end c.loop-pending.pending left c.loop-pending.invariant.ahead c.loop-pending-test.true in
    let within = c.loop-pending.invariant.in_list in
    elim c.match-list-end.branch [
      | in-Var w ↦
          let a = ahead_var_at _ _ _ _ left _ w.in-Var.is r.0 c.loop-pending.invariant.ahead c.loop-pending-test.true in
          let some : 0 < left = a.0 in
          record { before_end = omega arith; in_list = within; ahead = rw (w.pending-is, ← sub_one_more _ c.loop-pending.end) a.1 }
      | in-App w ↦
          let a = ahead_app_at _ _ _ _ _ left _ w.in-App.is r.0 c.loop-pending.invariant.ahead c.loop-pending-test.true in
          let some : 0 < left = a.0 in
          record { before_end = omega arith; in_list = within; ahead = rw (w.pending-is, ← sub_one_more _ c.loop-pending.end) a.1 }
    ]

pub returns-clause-end : goal.returns-clause-end
returns-clause-end c =
    let p : c.loop-pending.pending ≡ 0 = omega arith in
    let n = ahead_none (drop c.loop-pending.end c.args.list.now) (c.args.from + nodes_all (of_list (take c.args.count (spelled (drop c.args.from c.args.list.now)))) - c.loop-pending.end) (rw p at c.loop-pending.invariant.ahead) in
    omega arith
