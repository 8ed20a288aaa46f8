use Rattle.std.proofs.Common.{◌≡◌, ◌*◌, ◌<◌, ◌≤◌, arith, subst}
use Rattle.uc_table.specs.Tables.{MOST_ASSIGNMENTS}
use Rattle.uc_table.proofs.Lists.{lists_rise}
use Rattle.uc_table.proofs.places.lists_of.Goals as goal

pub returns-then-lists-from : goal.returns-then-lists-from
returns-then-lists-from c =
    let some : 1 ≤ c.args.size = c.requires in
    let e : c.from-lists.result ≡ c.args.size = omega arith in
    let h : MOST_ASSIGNMENTS < c.loop.lists * c.args.size = subst (λ n. MOST_ASSIGNMENTS < c.loop.lists * n) e (omega (arith, c.if-lists-from.true)) in
    lists_rise c.args.size c.loop.counter c.args.count MOST_ASSIGNMENTS (omega arith) (omega arith) (rw c.loop.invariant.0 at h)
