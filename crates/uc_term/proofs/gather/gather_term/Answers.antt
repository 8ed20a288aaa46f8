use Rattle.std.proofs.lemmas.Result.{err_from_is_err_and}
use Rattle.uc_term.proofs.Gathered.{node_goes_on, node_passes, node_stops}
use Rattle.uc_term.proofs.gather.gather_term.Goals as goal
use Rattle.uc_term.proofs.gather.gather_term.Goals.{in-Var, in-App+in_ok-see-in-App}

pub returns-in_err-see-in-App-clause-err : goal.returns-in_err-see-in-App-clause-err
returns-in_err-see-in-App-clause-err c =
    let p = err_from_is_err_and c.from_residual.result c.from_residual.ensures.1 in
    rw (p.1, p.2) (node_stops c.args.symbols.now c.args.term c.args.nodes.now c.loop-place.place _ c.loop-place-test.true c.in-App.f c.in-App.field-1 c.args.seen.now.items c.loop-place.seen.items c.in_err-see-in-App.field-0.0 c.in-App.is c.loop-place.invariant.goes_on c.in_err-see-in-App.ensures.err)

pub loop-place-preserved : goal.loop-place-preserved
loop-place-preserved c =
    elim c.match-node.branch [
      | in-Var w ↦ rw (w.seen-is, w.names-is) (record { goes_on = node_passes c.args.symbols.now c.args.term c.args.nodes.now c.loop-place.place _ c.loop-place-test.true w.in-Var.field-0 c.args.seen.now.items c.loop-place.seen.items w.in-Var.is c.loop-place.invariant.goes_on; named = c.loop-place.invariant.named })
      | in-App+in_ok-see-in-App w ↦ rw (w.seen-is, w.names-is) (record { goes_on = node_goes_on c.args.symbols.now c.args.term c.args.nodes.now c.loop-place.place _ c.loop-place-test.true w.in-App.f w.in-App.field-1 c.args.seen.now.items c.loop-place.seen.items w.see.new.seen.items w.in-App.is c.loop-place.invariant.goes_on w.in_ok-see-in-App.ensures.ok; named = w.in_ok-see-in-App.ensures.names })
    ]
