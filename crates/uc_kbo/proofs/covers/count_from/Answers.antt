use Rattle.std.proofs.Common.{◌≡◌, ◌∙◌, sym, ap, arith, true, cond, ℕ, get_or}
use Rattle.uc_term.specs.declared.node.Node.TheVariants.{Var}
use Rattle.uc_order.specs.VarOrders.{representative}
use Rattle.uc_order.proofs.Renaming.{length-renamed}
use Rattle.uc_kbo.specs.Kbo.{is_from}
use Rattle.uc_kbo.specs.Runs.{is_counted, read_by}
use Rattle.uc_kbo.proofs.Covering.{count_step}
use Rattle.uc_order.proofs.Reading.{get_or-renamed}
use Rattle.uc_kbo.proofs.covers.count_from.Goals as goal
use Rattle.uc_kbo.proofs.covers.count_from.Goals.{then-is_node_from, else-is_node_from}

pub loop-i-preserved : goal.loop-i-preserved
loop-i-preserved c =
    let p = is_counted (is_from c.args.classes.now c.args.k) in
    let r = representative c.args.classes.now in
    let ns = read_by true c.args.classes.now c.args.list.now in
    let i = c.loop-i.i in
    let step = count_step p ns i (Var 0) (omega (arith, c.loop-i-test.true, length-renamed r c.args.list.now)) in
    let here = ap p (get_or-renamed r c.args.list.now i _ (Var 0) c.loop-i-test.true) in
    elim c.if-is_node_from.branch [
      | then-is_node_from w ↦ (let one : cond {A = ℕ} (p (get_or ns i (Var 0))) 1 0 ≡ 1 = ap (λ b. cond {A = ℕ} b 1 0) (here ∙ sym c.is_node_from.ensures ∙ w.if-is_node_from.true) in (omega (arith, step, c.loop-i.invariant.0, w.count-is), omega (arith, c.loop-i.invariant.1, w.count-is)))
      | else-is_node_from w ↦ (let none : cond {A = ℕ} (p (get_or ns i (Var 0))) 1 0 ≡ 0 = ap (λ b. cond {A = ℕ} b 1 0) (here ∙ sym c.is_node_from.ensures ∙ w.if-is_node_from.false) in (omega (arith, step, c.loop-i.invariant.0, w.count-is), omega (arith, c.loop-i.invariant.1, w.count-is)))
    ]
