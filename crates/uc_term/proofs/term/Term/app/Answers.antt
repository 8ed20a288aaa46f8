use Rattle.std.proofs.Common.{◌≡◌, ◌+◌, arith, ap, sym, ◌∙◌}
use Rattle.uc_term.specs.Tree.{app, of_list, nodes, nodes_all}
use Rattle.uc_term.proofs.Terms.{nodes_all-take_more, app_list_at, app_list_extend, whole_list, take_of_length-le}
use Rattle.uc_term.proofs.term.Term.app.Goals as goal

pub loop-t-preserved : goal.loop-t-preserved
loop-t-preserved c =
    let more = nodes_all-take_more c.args.args.now c.loop-t.t-index c.t-item.result c.t-item.result c.loop-t-test.true c.t-item.is in
    record { sum = omega arith; small = omega arith }

pub loop-t-2-preserved : goal.loop-t-2-preserved
loop-t-2-preserved c =
    app_list_extend _ c.args.args.now _ _ _ _ _ _ c.loop-t-2-test.true c.t-item-in-loop-t-2.is c.as_nodes.ensures.value c.loop-t-2.invariant c.in_ok-extend_from_slice.ensures.items

pub invariant_of-result : goal.invariant_of-result
invariant_of-result c =
    let t = app c.args.sym (of_list c.args.args.now) in
    let w = whole_list c.loop-t-2.list.items t (app_list_at _ _ _ _ c.loop-t-2-test.false c.loop-t-2.invariant) in
    let size : nodes t ≡ c.loop-t.total = ap (λ l. nodes_all (of_list l) + 1) (sym (take_of_length-le c.args.args.now c.loop-t.t-index c.loop-t-test.false)) ∙ sym c.loop-t.invariant.sum in
    (w.0, omega arith)

pub returns-clause-ok : goal.returns-clause-ok
returns-clause-ok c = (whole_list _ _ (app_list_at _ _ _ _ c.loop-t-2-test.false c.loop-t-2.invariant)).1
