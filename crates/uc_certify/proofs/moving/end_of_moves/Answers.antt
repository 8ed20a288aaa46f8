use Rattle.uc_certificate.specs.Arities.{KeepsArities}
use Rattle.uc_certificate.specs.declared.certificate.Move.{Move}
use Rattle.uc_order.specs.Laws.{HasSym}
use Rattle.uc_certify.proofs.Descending.{over_only}
use Rattle.uc_certify.proofs.Lists.{of, not_of, next_is, none_left, each_at}
use Rattle.uc_certify.proofs.MovesTested.{reached_none, reached_more, reached_all, stops_here}
use Rattle.uc_certify.proofs.moving.end_of_moves.Goals as goal

pub loop-step-init : goal.loop-step-init
loop-step-init g c = (reached_none (g.C.Comparison.meaning c.args.comparison.now) c.args.rules.now.facts.now (g.C.Comparison.greater c.args.comparison.now) (g.C.Comparison.knows c.args.comparison.now) c.args.start.now c.args.moves.now, c.requires.known)

pub is_move-requires-clause-known : goal.is_move-requires-clause-known
is_move-requires-clause-known g c = c.loop-step.invariant.1

pub is_move-requires-clause-arities : goal.is_move-requires-clause-arities
is_move-requires-clause-arities g c = each_at (λ (x : Move). KeepsArities (g.C.Comparison.meaning c.args.comparison.now) x.to) c.args.moves.now c.loop-step.step-index c.step-item.result c.requires.arities c.loop-step-test.true c.step-item.is

pub loop-step-preserved : goal.loop-step-preserved
loop-step-preserved g c =
    let at = next_is c.args.moves.now c.loop-step.step-index c.step-item.result c.loop-step-test.true c.step-item.is in
    let right = of c.in_ok-is_move.field-0 c.if-not-branch.false c.in_ok-is_move.ensures in
    let m = g.C.Comparison.meaning c.args.comparison.now in
    let knows = g.C.Comparison.knows c.args.comparison.now in
    (reached_more m c.args.rules.now.facts.now (g.C.Comparison.greater c.args.comparison.now) knows c.args.start.now c.args.moves.now c.loop-step.before.now _ _ c.step-item.result c.loop-step.invariant.0 at right, over_only (HasSym m) m.arity knows c.step-item.result.to right.over)

pub returns-then-not-branch : goal.returns-then-not-branch
returns-then-not-branch g c =
    let at = next_is c.args.moves.now c.loop-step.step-index c.step-item.result c.loop-step-test.true c.step-item.is in
    stops_here (g.C.Comparison.meaning c.args.comparison.now) c.args.rules.now.facts.now (g.C.Comparison.greater c.args.comparison.now) (g.C.Comparison.knows c.args.comparison.now) c.args.start.now c.args.moves.now c.loop-step.before.now _ _ c.step-item.result c.loop-step.invariant.0 at (not_of c.in_ok-is_move.field-0 c.if-not-branch.true c.in_ok-is_move.ensures)

pub returns : goal.returns
returns g c = reached_all (g.C.Comparison.meaning c.args.comparison.now) c.args.rules.now.facts.now (g.C.Comparison.greater c.args.comparison.now) (g.C.Comparison.knows c.args.comparison.now) c.args.start.now c.args.moves.now c.loop-step.before.now _ c.loop-step.invariant.0 (none_left c.args.moves.now c.loop-step.step-index c.loop-step-test.false)
